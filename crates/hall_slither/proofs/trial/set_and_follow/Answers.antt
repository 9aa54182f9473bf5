use Rattle.std.proofs.Common.{◌≡◌, ◌≢◌, subst, inl, inr, ap}
use Rattle.std.specs.Prelude.{Ok}
use Rattle.std.specs.declared.alloc.AllocError.{AllocError}
use Rattle.hall_solve.specs.declared.deduce.Pass.{Pass}
use Rattle.hall_solve.specs.declared.deduce.Pass.TheVariants.{Dead}
use Rattle.hall_slither.specs.Follow.{IsFollowed}
use Rattle.hall_slither.proofs.IsFollowed.{IsFollowed-settled, IsFollowed-advanced, IsFollowed-dead, IsFollowed-failed}
use Rattle.hall_slither.proofs.IsFollowed.{IsFollowed-at}
use Rattle.hall_slither.proofs.trial.set_and_follow.Goals as goal

pub returns-in_err-follow_stack-clause-followed : goal.returns-in_err-follow_stack-clause-followed
returns-in_err-follow_stack-clause-followed c =
    let now = c.args.position.now in
    IsFollowed-failed now.puzzle.now now.partial.now c.set_known.new.position.partial.now
    c.follow_stack.new.position.partial.now
    c.in_ok-set_known.field-0 c.in_err-follow_stack.field-0.0 c.from_residual-in_err-follow_stack.result
    c.from_residual-in_err-follow_stack.ensures.0 now.fits
    (λ (e : c.in_ok-set_known.field-0 ≡ Dead). let is = c.in-Advanced.is in cc) c.in_ok-set_known.ensures.followed
    (IsFollowed-at _ _ _ _ _ (ap (λ n. n.0) c.set_known.ensures.same) c.in_err-follow_stack.ensures.followed)

pub returns-in-Dead-2-clause-followed : goal.returns-in-Dead-2-clause-followed
returns-in-Dead-2-clause-followed c =
    let now = c.args.position.now in
    IsFollowed-dead now.puzzle.now now.partial.now c.set_known.new.position.partial.now
    c.follow_stack.new.position.partial.now
    c.in_ok-set_known.field-0 c.in_ok-follow_stack.field-0 c.in-Dead-2.is now.fits
    (λ (e : c.in_ok-set_known.field-0 ≡ Dead). let is = c.in-Advanced.is in cc) c.in_ok-set_known.ensures.followed
    (IsFollowed-at _ _ _ _ _ (ap (λ n. n.0) c.set_known.ensures.same) c.in_ok-follow_stack.ensures.followed)

pub returns-in-Settled-2-clause-followed : goal.returns-in-Settled-2-clause-followed
returns-in-Settled-2-clause-followed c =
    let now = c.args.position.now in
    let board = now.puzzle.now in
    let there = c.set_known.new.position.partial.now in
    let after = c.follow_stack.new.position.partial.now in
    let alive : c.in_ok-set_known.field-0 ≢ Dead = (λ e. let is = c.in-Advanced.is in cc) in
    let next = IsFollowed-at board _ _ _ _ (ap (λ n. n.0) c.set_known.ensures.same)
    c.in_ok-follow_stack.ensures.followed in
    elim c.in-Settled-2.is [
      | inl e ↦
          subst (λ (x : Pass). IsFollowed {E = AllocError} board now.partial.now after (Ok x)) c.in-Advanced.is
          (IsFollowed-settled board now.partial.now there after c.in_ok-set_known.field-0 c.in_ok-follow_stack.field-0 e
          alive c.in_ok-set_known.ensures.followed next)
      | inr e ↦
          IsFollowed-advanced board now.partial.now there after c.in_ok-set_known.field-0 c.in_ok-follow_stack.field-0 e
          now.fits alive c.in_ok-set_known.ensures.followed next
    ]
