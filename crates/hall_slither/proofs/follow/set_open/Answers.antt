use Rattle.std.proofs.lemmas.Result.{IfOk-from_err}
use Rattle.std.proofs.Common.{◌≡◌, ◌≢◌, ◌∙◌, get_or, None, sym, subst, inl, inr, arith, rules, ap}
use Rattle.std.specs.Prelude.{Ok}
use Rattle.std.specs.declared.alloc.AllocError.{AllocError}
use Rattle.hall_solve.specs.declared.deduce.Pass.{Pass}
use Rattle.hall_solve.specs.declared.deduce.Pass.TheVariants.{Settled, Advanced, Dead}
use Rattle.hall_slither.specs.Follow.{IsFollowed}
use Rattle.hall_slither.proofs.AreSet.{AreSet-more, AreSet-all, set_from}
use Rattle.hall_slither.proofs.IsFollowed.{IsFollowed-advanced, IsFollowed-dead, IsFollowed-failed, IsFollowed-start}
use Rattle.hall_slither.proofs.IsFollowed.{IsFollowed-at}
use Rattle.hall_slither.proofs.follow.set_open.Goals as goal
use Rattle.hall_slither.proofs.follow.set_open.Goals.{in-Some+then-is_none+in_ok-set_side+in-Settled}
use Rattle.hall_slither.proofs.follow.set_open.Goals.{in-Some+else-is_none, in_default}

pub returns-in_err-set_side-clause-followed : goal.returns-in_err-set_side-clause-followed
returns-in_err-set_side-clause-followed c =
    let now = c.args.position.now in
    let so_far = c.loop-side.invariant in
    IsFollowed-failed now.puzzle.now now.partial.now c.loop-side.position.partial.now
    c.set_side.new.position.partial.now c.loop-side.pass
    c.in_err-set_side.field-0.0 c.from_residual.result c.from_residual.ensures.0 now.fits so_far.alive so_far.followed
    (IsFollowed-at _ _ _ _ _ (ap (λ n. n.0) so_far.same) c.in_err-set_side.ensures.followed)

pub returns-in-Dead-clause-followed : goal.returns-in-Dead-clause-followed
returns-in-Dead-clause-followed c =
    let now = c.args.position.now in
    let so_far = c.loop-side.invariant in
    IsFollowed-dead now.puzzle.now now.partial.now c.loop-side.position.partial.now c.set_side.new.position.partial.now
    c.loop-side.pass
    c.in_ok-set_side.field-0 c.in-Dead.is now.fits so_far.alive so_far.followed
    (IsFollowed-at _ _ _ _ _ (ap (λ n. n.0) so_far.same) c.in_ok-set_side.ensures.followed)

pub loop-side-preserved : goal.loop-side-preserved
loop-side-preserved c =
    let now = c.args.position.now in
    let so_far = c.loop-side.invariant in
    let i = c.loop-side.side-index in
    elim c.match-side.branch [
      | in-Some+then-is_none+in_ok-set_side+in-Settled w ↦
          let more : w.in_ok-set_side.field-0 ≡ Advanced = elim w.in-Settled.is
          [ inl e ↦ absurd (w.in_ok-set_side.ensures.advanced e) | inr e ↦ e ] in
          rw (w.position-is, w.pass-is) record {
            followed = IsFollowed-advanced now.puzzle.now now.partial.now c.loop-side.position.partial.now
                w.set_side.new.position.partial.now c.loop-side.pass
                w.in_ok-set_side.field-0 more now.fits so_far.alive so_far.followed
                (IsFollowed-at _ _ _ _ _ (ap (λ n. n.0) so_far.same) w.in_ok-set_side.ensures.followed);
            same = w.set_side.ensures.same ∙ so_far.same;
            alive = λ (e : Advanced ≡ Dead). cc;
            set = λ (e : Advanced ≡ Settled). absurd (cc);
            work = let step = w.in_ok-set_side.ensures.work in let before = so_far.work in omega arith;
          }
      | in-Some+else-is_none w ↦
          let is_set : get_or c.loop-side.position.partial.now.places w.in-Some.side None ≢ None =
          (λ e. set_from w.get.result w.is_none.result w.is_none.ensures w.if-is_none.false (w.get.ensures ∙ e)) in
          rw (w.position-is, w.pass-is) record {
            followed = so_far.followed;
            same = so_far.same;
            alive = so_far.alive;
            set = λ e. AreSet-more c.args.sides.now c.loop-side.position.partial.now.places i (omega arith)
                (so_far.set e)
                (λ s f. let same : w.in-Some.side ≡ s = let k = w.in-Some.is in cc in subst
                (λ s. get_or c.loop-side.position.partial.now.places s None ≢ None) same is_set);
            work = so_far.work;
          }
      | in_default w ↦
          rw (w.position-is, w.pass-is) record {
            followed = so_far.followed;
            same = so_far.same;
            alive = so_far.alive;
            set = λ e. AreSet-more c.args.sides.now c.loop-side.position.partial.now.places i (omega arith)
                (so_far.set e) (λ s f. absurd (let k = w.in_default.is in cc));
            work = so_far.work;
          }
    ]

pub returns-clause-advanced : goal.returns-clause-advanced
returns-clause-advanced c = λ e.
    let now = c.args.position.now in
    let all = AreSet-all c.args.sides.now c.loop-side.position.partial.now.places c.loop-side.side-index (omega arith)
    (c.loop-side.invariant.set e) in
    let same = subst (λ (x : Pass). IsFollowed {E = AllocError} now.puzzle.now now.partial.now
    c.loop-side.position.partial.now (Ok x)) e c.loop-side.invariant.followed in
    let told = c.requires.told.1 in
    all told.0 told.1 (subst (λ p. get_or p told.0 None ≡ None) (sym same.deduced) told.2.1)

pub loop-side-init : goal.loop-side-init
loop-side-init c = record {
  followed = IsFollowed-start c.args.position.now.puzzle.now c.args.position.now.partial.now;
  same = search rules;
  alive = λ (e : Settled ≡ Dead). cc;
  set = search rules;
  work = omega arith;
}

pub returns-in_err-set_side-clause-advanced : goal.returns-in_err-set_side-clause-advanced
returns-in_err-set_side-clause-advanced c = IfOk-from_err c.from_residual.result _ c.from_residual.ensures.0

pub returns-in_err-set_side-clause-work : goal.returns-in_err-set_side-clause-work
returns-in_err-set_side-clause-work c = IfOk-from_err c.from_residual.result _ c.from_residual.ensures.0
