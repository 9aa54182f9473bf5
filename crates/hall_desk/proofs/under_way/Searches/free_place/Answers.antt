use Rattle.std.proofs.Common.{refl, subst}
use Rattle.hall_desk.specs.Searches.{AreUnderWay, SearchesView}
use Rattle.hall_desk.proofs.Working.{at_inside, free_of}
use Rattle.hall_desk.proofs.under_way.Searches.free_place.Goals as goal

pub returns-in-Some-clause-some : goal.returns-in-Some-clause-some
returns-in-Some-clause-some c =
    let places = c.args.self.now.places in
    let (a, at, key) = c.in-Some.ensures.some in (
      at_inside places c.in-Some.place a at,
      c.if-makes_room.ensures.room refl,
      free_of places c.in-Some.place a c.args.wanted.now.key
          (subst (λ (v : SearchesView). AreUnderWay v.places) c.self.view_is c.self.invariant) at key,
    )
