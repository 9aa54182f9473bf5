use Rattle.std.proofs.lemmas.Result.{IfOk-from_err}
use Rattle.std.proofs.Common.{get_or, refl, subst, sym}
use Rattle.std.specs.Prelude.{Contains}
use Rattle.std.proofs.lemmas.List.Elements.{All-push}
use Rattle.hall_slither.specs.declared.setting.Setting.{Setting}
use Rattle.hall_slither.specs.Trial.{AreIn}
use Rattle.hall_slither.proofs.Trials.{nowhere, contains_at}
use Rattle.hall_slither.proofs.trial.agreed.Goals as goal
use Rattle.hall_slither.proofs.trial.agreed.Goals.{then-setting-index-2+then-place-first+then-is_same+in_ok-push}
use Rattle.hall_slither.proofs.trial.agreed.Goals.{then-setting-index-2+else-place-first, else-setting-index-2}

pub loop-setting-preserved : goal.loop-setting-preserved
loop-setting-preserved c =
    let first = c.args.first.now in
    let second = c.args.second.now in
    let x = get_or second c.loop-setting.setting-index nowhere in
    elim c.if-setting-index-2.branch [
      | then-setting-index-2+then-place-first+then-is_same+in_ok-push w ↦
          rw w.settings-is (subst (AreIn first second) (sym w.in_ok-push.ensures.items)
          (All-push (λ (y : Setting). Contains first y × Contains second y) c.loop-setting.settings.items x
          c.loop-setting.invariant (
            contains_at first _ x w.if-place-first.true (w.is_same.ensures.0 w.if-is_same.true),
            contains_at second
                c.loop-setting.setting-index x c.loop-setting-test.true refl,
          )))
      | then-setting-index-2+else-place-first w ↦ rw w.settings-is c.loop-setting.invariant
      | else-setting-index-2 w ↦ rw w.settings-is c.loop-setting.invariant
    ]

pub returns-in_err-push : goal.returns-in_err-push
returns-in_err-push c = IfOk-from_err c.from_residual.result _ c.from_residual.ensures.0
