use Rattle.std.proofs.lemmas.Result.{IfOk-from_err}
use Rattle.std.proofs.Common.{Some, set, subst, refl}
use Rattle.hall_grid.specs.declared.board.Kind.TheVariants.{Slither}
use Rattle.hall_solve.specs.Trail.{Trailed}
use Rattle.hall_solve.specs.declared.rules.Step.{Step}
use Rattle.hall_solve.specs.Puzzle.{question_of}
use Rattle.hall_slither.specs.Trial.{AreKnown, IsTried}
use Rattle.hall_slither.proofs.Trials.{AreKnown-agreed}
use Rattle.hall_slither.proofs.trial.try_both.Goals as goal

pub returns-clause-known : goal.returns-clause-known
returns-clause-known c =
    let q = question_of Slither c.args.puzzle.now in
    let p = c.args.partial.now.places in
    let first = c.try_value.new.settings.items in
    let second = c.try_value-2.new.settings.items in
    let one : AreKnown q (set p c.args.side (Some 1)) first =
    subst (λ (x : Step). IsTried q (set p c.args.side (Some 1)) first x) c.in-Live.is c.in_ok-try_value.ensures.tried in
    let later : AreKnown q (set c.try_value.new.partial.places c.args.side (Some 0)) second =
    subst (λ (x : Step). IsTried q (set c.try_value.new.partial.places c.args.side (Some 0)) second x) c.in-Live-2.is
    c.in_ok-try_value-2.ensures.tried in
    let none : AreKnown q (set p c.args.side (Some 0)) second =
    subst (λ (b : Trailed). AreKnown q (set b.places c.args.side (Some 0)) second) c.try_value.ensures.kept later in
    AreKnown-agreed c.agreed.result q p c.args.side c.deref.result.now c.deref-2.result.now c.agreed.new.settings.items
    refl c.requires.partial c.requires.side.0
    (rw c.deref.ensures.value one) (rw c.deref-2.ensures.value none) c.agreed.ensures

pub returns-in_err-try_value-clause-known : goal.returns-in_err-try_value-clause-known
returns-in_err-try_value-clause-known c = IfOk-from_err c.from_residual.result _ c.from_residual.ensures.0

pub returns-in_err-push-in-Dead-clause-known : goal.returns-in_err-push-in-Dead-clause-known
returns-in_err-push-in-Dead-clause-known c = IfOk-from_err c.from_residual-in_err-push-in-Dead.result _
    c.from_residual-in_err-push-in-Dead.ensures.0

pub returns-in_err-try_value-2-clause-known : goal.returns-in_err-try_value-2-clause-known
returns-in_err-try_value-2-clause-known c = IfOk-from_err c.from_residual-in_err-try_value-2.result _
    c.from_residual-in_err-try_value-2.ensures.0

pub returns-in_err-push-in-Dead-2-clause-known : goal.returns-in_err-push-in-Dead-2-clause-known
returns-in_err-push-in-Dead-2-clause-known c = IfOk-from_err c.from_residual-in_err-push-in-Dead-2.result _
    c.from_residual-in_err-push-in-Dead-2.ensures.0
