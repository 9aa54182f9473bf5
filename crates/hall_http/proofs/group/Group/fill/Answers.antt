use Rattle.std.proofs.Common.{◌∙◌, arith, ap, refl, sym, subst, [], ◌∷◌, length, length-append}
use Rattle.hall_http.specs.Group.{AreWaiting}
use Rattle.hall_http.proofs.Gathered.{order_more, order_same}
use Rattle.hall_http.proofs.Rested.{rests_never, rests_then}
use Rattle.hall_http.proofs.group.Group.fill.Goals as goal

pub loop-member-init : goal.loop-member-init
loop-member-init g c = record {
  gathered = record { waiting = rw c.requires.none tt; joined = rw c.requires.none c.requires.joined };
  room = c.requires.room;
  few = rw c.requires.none (omega arith);
  rests = rests_never g.H.Responder.rests _;
  order = rw c.requires.none refl;
}

pub take-requires-clause-room : goal.take-requires-clause-room
take-requires-clause-room g c =
    omega (arith, c.loop-member.invariant.few, c.loop-member.invariant.room, c.loop-member-test.true)

pub loop-member-preserved : goal.loop-member-preserved
loop-member-preserved g c =
    let (member, is, off) = rw c.if-not-take.false at c.take.ensures.takes in
    record {
      gathered = c.take.ensures.gathered;
      room = rw c.take.ensures.capacity c.loop-member.invariant.room;
      few = omega (
        arith,
        ap length is,
        length-append c.loop-member.self.members.items (member ∷ []),
        c.loop-member.invariant.few,
      );
      rests = rests_then g.H.Responder.rests _ _ _ c.loop-member.invariant.rests c.take.ensures.rests;
      order = order_more _ _ _ _ _ c.loop-member.invariant.order member is off;
    }

pub returns-then-not-take-clause-rests : goal.returns-then-not-take-clause-rests
returns-then-not-take-clause-rests g c =
    rests_then g.H.Responder.rests _ _ _ c.loop-member.invariant.rests c.take.ensures.rests

pub returns-then-not-take-clause-order : goal.returns-then-not-take-clause-order
returns-then-not-take-clause-order g c =
    let (is, same) = rw c.if-not-take.true at c.take.ensures.takes in
    order_same _ _ _ _ _ c.loop-member.invariant.order is same
