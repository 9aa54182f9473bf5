use Rattle.std.proofs.lemmas.Result.{IfOk-from_err}
use Rattle.hall_solve.proofs.Trails.{Grows-itself, Grows-twice}
use Rattle.std.proofs.Common.{◌≡◌, ◌∙◌, ℕ, List, Option, subst, sym, rules}
use Rattle.hall_grid.specs.Board.{Board}
use Rattle.hall_solve.specs.Question.{Question}
use Rattle.hall_grid.specs.declared.board.Kind.TheVariants.{Slither}
use Rattle.hall_solve.specs.declared.deduce.Pass.{Pass}
use Rattle.hall_solve.specs.declared.deduce.Pass.TheVariants.{Settled}
use Rattle.hall_solve.specs.Deduction.{IsDeduced}
use Rattle.hall_solve.specs.Puzzle.{question_of}
use Rattle.hall_slither.specs.Count.{AreSilent}
use Rattle.hall_slither.proofs.IsFollowed.{Grows-lent}
use Rattle.hall_slither.proofs.AreSilent.{silent_still}
use Rattle.hall_slither.proofs.rules.deduce.Goals as goal

silent_after : (q : Question) (board : Board) (there x after : List (Option ℕ)) (pass : Pass) → IsDeduced q x after pass
    → pass ≡ Settled → x ≡ there → AreSilent board there
    → AreSilent board after
silent_after q board there x after pass deduced settled same silent =
    subst (λ p. AreSilent board p) (sym (subst (λ (y : Pass). IsDeduced q x after y) settled deduced ∙ same)) silent

pub returns-in-Settled-2-clause-silent : goal.returns-in-Settled-2-clause-silent
returns-in-Settled-2-clause-silent c =
    let board = c.args.puzzle.now in
    let q = question_of Slither board in
    silent_still q board c.close_chains.new.partial.places c.try_waiting.new.partial.places c.try_waiting.result
    (silent_after q board c.follow_all.new.position.partial.now.places _ c.close_chains.new.partial.places
    c.in_ok-pass-2.pass c.in_ok-pass-2.ensures.deduced c.in-Settled-2.is (search rules)
    (c.in_ok-pass.ensures.silent c.in-Settled.is))
    c.try_waiting.ensures.followed.deduced

pub returns-in_err-learn_all-clause-grows : goal.returns-in_err-learn_all-clause-grows
returns-in_err-learn_all-clause-grows c = Grows-itself c.args.partial.now

pub returns-in-Dead-clause-grows : goal.returns-in-Dead-clause-grows
returns-in-Dead-clause-grows c = Grows-itself c.args.partial.now

pub returns-in_err-pass-2-clause-grows : goal.returns-in_err-pass-2-clause-grows
returns-in_err-pass-2-clause-grows c =
    Grows-lent c.args.partial.now c.follow_all.new.position.partial.now _ c.close_chains.new.partial
    c.follow_all.ensures.followed.grows c.close_chains.ensures.grows (search rules)

pub returns-in-Settled-2-clause-grows : goal.returns-in-Settled-2-clause-grows
returns-in-Settled-2-clause-grows c =
    Grows-twice c.args.partial.now c.close_chains.new.partial c.try_waiting.new.partial
    (Grows-lent c.args.partial.now c.follow_all.new.position.partial.now _ c.close_chains.new.partial
    c.follow_all.ensures.followed.grows c.close_chains.ensures.grows (search rules))
    c.try_waiting.ensures.followed.grows

pub returns-in_default-2-clause-grows : goal.returns-in_default-2-clause-grows
returns-in_default-2-clause-grows c =
    Grows-lent c.args.partial.now c.follow_all.new.position.partial.now _ c.close_chains.new.partial
    c.follow_all.ensures.followed.grows c.close_chains.ensures.grows (search rules)

pub returns-in_err-learn_all-clause-deduced : goal.returns-in_err-learn_all-clause-deduced
returns-in_err-learn_all-clause-deduced c = IfOk-from_err c.from_residual.result _ c.from_residual.ensures.0

pub returns-in_err-learn_all-clause-silent : goal.returns-in_err-learn_all-clause-silent
returns-in_err-learn_all-clause-silent c = IfOk-from_err c.from_residual.result _ c.from_residual.ensures.0

pub returns-in_err-pass-clause-deduced : goal.returns-in_err-pass-clause-deduced
returns-in_err-pass-clause-deduced c = IfOk-from_err c.from_residual-in_err-pass.result _
    c.from_residual-in_err-pass.ensures.0

pub returns-in_err-pass-clause-silent : goal.returns-in_err-pass-clause-silent
returns-in_err-pass-clause-silent c = IfOk-from_err c.from_residual-in_err-pass.result _
    c.from_residual-in_err-pass.ensures.0

pub returns-in_err-pass-2-clause-deduced : goal.returns-in_err-pass-2-clause-deduced
returns-in_err-pass-2-clause-deduced c = IfOk-from_err c.from_residual-in_err-pass-2.result _
    c.from_residual-in_err-pass-2.ensures.0

pub returns-in_err-pass-2-clause-silent : goal.returns-in_err-pass-2-clause-silent
returns-in_err-pass-2-clause-silent c = IfOk-from_err c.from_residual-in_err-pass-2.result _
    c.from_residual-in_err-pass-2.ensures.0
