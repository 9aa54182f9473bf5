use Rattle.std.proofs.Common.{inl, inr, refl, subst}
use Rattle.std.proofs.lemmas.Result.{on_ok_weaker}
use Rattle.hall_check.specs.States.{IsJudgedSo}
use Rattle.hall_check.specs.declared.puzzle_states.Judged.{Judged}
use Rattle.hall_check.proofs.puzzle_states.tell_state.Goals as goal

pub returns-in-False-clause-told : goal.returns-in-False-clause-told
returns-in-False-clause-told c =
    let row = c.args.row.now in
    on_ok_weaker c.note.result (λ noted. inl (
      inr (
        subst (λ (judged : Judged). IsJudgedSo row.puzzle c.args.budget
            row.state judged) c.in-False.is c.in_ok-judge_state.ensures,
        refl,
        noted,
      ),
      refl,
    )) c.note.ensures
