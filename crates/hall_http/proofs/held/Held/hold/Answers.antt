use Rattle.std.proofs.Common.{inl, inr, refl, sym}
use Rattle.hall_http.proofs.Ready.{kept_same}
use Rattle.hall_http.proofs.held.Held.hold.Goals as goal

pub returns-then-not-may_hold : goal.returns-then-not-may_hold
returns-then-not-may_hold g c = inl (
  refl,
  refl,
  sym (kept_same c.args.place c.args.step c.args.self.now c.in_default.not-Over),
  c.may_hold.ensures.not c.if-not-may_hold.true,
)

pub add-requires : goal.add-requires
add-requires g c = (c.may_hold.ensures.may c.if-not-may_hold.false).2

pub returns : goal.returns
returns g c =
    let held = c.may_hold.ensures.may c.if-not-may_hold.false in
    inr (
      held.0,
      held.1,
      c.now-moment.result,
      refl,
      c.now-moment.ensures,
      c.add.ensures,
    )
