use Rattle.std.proofs.Common.{arith, inl, inr}
use Rattle.std.proofs.lemmas.Bool.{cases_eq}
use Rattle.hall_desk.proofs.under_way.Searches.any_place.Goals as goal

pub loop-place-preserved : goal.loop-place-preserved
loop-place-preserved c other below = elim (cases_eq other c.loop-place.place) [
  | inl same ↦ rw same (c.makes_room.ensures.stays c.if-makes_room.false)
  | inr differs ↦ c.loop-place.invariant other (omega (arith, below, differs))
]
