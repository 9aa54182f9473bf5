use Rattle.std.proofs.Common.{◌≡◌, ◌∙◌, inl, inr, rules, ap}
use Rattle.hall_solve.specs.declared.deduce.Pass.TheVariants.{Advanced, Dead, Settled}
use Rattle.hall_slither.proofs.IsFollowed.{IsFollowed-advanced, IsFollowed-dead, IsFollowed-failed, IsFollowed-start}
use Rattle.hall_slither.proofs.IsFollowed.{IsFollowed-at}
use Rattle.hall_slither.proofs.trial.set_known.Goals as goal
use Rattle.hall_slither.proofs.trial.set_known.Goals.{then-is_open_in+in_ok-set_side+in-Settled, else-is_open_in}

pub returns-in_err-set_side-clause-followed : goal.returns-in_err-set_side-clause-followed
returns-in_err-set_side-clause-followed c =
    let now = c.args.position.now in
    let so_far = c.loop-setting.invariant in
    IsFollowed-failed now.puzzle.now now.partial.now c.loop-setting.position.partial.now
    c.set_side.new.position.partial.now c.loop-setting.pass
    c.in_err-set_side.field-0.0 c.from_residual.result c.from_residual.ensures.0 now.fits so_far.alive so_far.followed
    (IsFollowed-at _ _ _ _ _ (ap (λ n. n.0) so_far.same) c.in_err-set_side.ensures.followed)

pub returns-in-Dead-clause-followed : goal.returns-in-Dead-clause-followed
returns-in-Dead-clause-followed c =
    let now = c.args.position.now in
    let so_far = c.loop-setting.invariant in
    IsFollowed-dead now.puzzle.now now.partial.now c.loop-setting.position.partial.now
    c.set_side.new.position.partial.now c.loop-setting.pass
    c.in_ok-set_side.field-0 c.in-Dead.is now.fits so_far.alive so_far.followed
    (IsFollowed-at _ _ _ _ _ (ap (λ n. n.0) so_far.same) c.in_ok-set_side.ensures.followed)

pub loop-setting-preserved : goal.loop-setting-preserved
loop-setting-preserved c =
    let now = c.args.position.now in
    let so_far = c.loop-setting.invariant in
    elim c.if-is_open_in.branch [
      | then-is_open_in+in_ok-set_side+in-Settled w ↦
          let more : w.in_ok-set_side.field-0 ≡ Advanced = elim w.in-Settled.is
          [ inl e ↦ absurd (w.in_ok-set_side.ensures.advanced e) | inr e ↦ e ] in
          rw (w.position-is, w.pass-is) record {
            followed = IsFollowed-advanced now.puzzle.now now.partial.now c.loop-setting.position.partial.now
                w.set_side.new.position.partial.now c.loop-setting.pass
                w.in_ok-set_side.field-0 more now.fits so_far.alive so_far.followed
                (IsFollowed-at _ _ _ _ _ (ap (λ n. n.0) so_far.same) w.in_ok-set_side.ensures.followed);
            same = w.set_side.ensures.same ∙ so_far.same;
            alive = λ (e : Advanced ≡ Dead). cc;
          }
      | else-is_open_in w ↦ rw (w.position-is, w.pass-is) so_far
    ]

pub loop-setting-init : goal.loop-setting-init
loop-setting-init c = record {
  followed = IsFollowed-start c.args.position.now.puzzle.now c.args.position.now.partial.now;
  same = search rules;
  alive = λ (e : Settled ≡ Dead). cc;
}
