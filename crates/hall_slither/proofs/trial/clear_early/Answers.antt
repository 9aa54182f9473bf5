use Rattle.std.proofs.Common.{◌≡◌, ◌≤◌, ℕ, length, ap, arith, rules}
use Rattle.std.proofs.lemmas.List.{length-take}
use Rattle.hall_solve.specs.Trail.{Trailed, Grows}
use Rattle.hall_solve.specs.declared.deduce.Pass.TheVariants.{Advanced, Dead}
use Rattle.hall_slither.proofs.IsFollowed.{IsFollowed-settled, IsFollowed-advanced, IsFollowed-dead, IsFollowed-failed}
use Rattle.hall_slither.proofs.IsFollowed.{IsFollowed-at}
use Rattle.hall_slither.proofs.trial.clear_early.Goals as goal

mark_kept : (a b : Trailed) (m : ℕ) → m ≤ length a.trail → Grows a b → m ≤ length b.trail
mark_kept a b m le g = let t = ap length g.trail in let l = length-take (length a.trail) b.trail in omega arith

pub clear_found-requires : goal.clear_found-requires
clear_found-requires c = mark_kept c.args.position.now.partial.now c.loop.position.partial.now c.args.mark c.requires
    c.loop.invariant.followed.grows

pub returns-in_err-clear_found-clause-followed : goal.returns-in_err-clear_found-clause-followed
returns-in_err-clear_found-clause-followed c =
    let now = c.args.position.now in
    let so_far = c.loop.invariant in
    IsFollowed-failed now.puzzle.now now.partial.now c.loop.position.partial.now c.clear_found.new.position.partial.now
    c.loop.pass
    c.in_err-clear_found.field-0.0 c.from_residual.result c.from_residual.ensures.0 now.fits so_far.alive
    so_far.followed
    (IsFollowed-at _ _ _ _ _ (ap (λ n. n.0) so_far.same) c.in_err-clear_found.ensures.followed)

pub returns-in-Settled-clause-followed : goal.returns-in-Settled-clause-followed
returns-in-Settled-clause-followed c =
    let now = c.args.position.now in
    let so_far = c.loop.invariant in
    IsFollowed-settled now.puzzle.now now.partial.now c.loop.position.partial.now c.clear_found.new.position.partial.now
    c.loop.pass
    c.in_ok-clear_found.field-0 c.in-Settled.is so_far.alive so_far.followed
    (IsFollowed-at _ _ _ _ _ (ap (λ n. n.0) so_far.same) c.in_ok-clear_found.ensures.followed)

pub returns-in-Dead-clause-followed : goal.returns-in-Dead-clause-followed
returns-in-Dead-clause-followed c =
    let now = c.args.position.now in
    let so_far = c.loop.invariant in
    IsFollowed-dead now.puzzle.now now.partial.now c.loop.position.partial.now c.clear_found.new.position.partial.now
    c.loop.pass
    c.in_ok-clear_found.field-0 c.in-Dead.is now.fits so_far.alive so_far.followed
    (IsFollowed-at _ _ _ _ _ (ap (λ n. n.0) so_far.same) c.in_ok-clear_found.ensures.followed)

pub loop-preserved : goal.loop-preserved
loop-preserved c =
    let now = c.args.position.now in
    let so_far = c.loop.invariant in
    record {
      followed = IsFollowed-advanced now.puzzle.now now.partial.now c.loop.position.partial.now
          c.clear_found.new.position.partial.now c.loop.pass
          c.in_ok-clear_found.field-0 c.in-Advanced.is now.fits so_far.alive so_far.followed
          (IsFollowed-at _ _ _ _ _ (ap (λ n. n.0) so_far.same) c.in_ok-clear_found.ensures.followed);
      same = search rules;
      alive = λ (e : Advanced ≡ Dead). cc;
    }
