use Rattle.hall_nurikabe.specs.Forced.{IsSetTo}
use Rattle.hall_nurikabe.proofs.AreRegions.{AreRegions-members}
use Rattle.hall_nurikabe.proofs.branch.next_cell.Goals as goal

pub next_beside-requires : goal.next_beside-requires
next_beside-requires c =
    rw (c.deref-2.ensures.value, c.deref-3.ensures.value)
    (AreRegions-members c.args.puzzle.now.size _ (IsSetTo c.args.partial.now.places 0) _ _ c.in_ok-white.ensures.marked
    (rw (c.size.ensures.size, c.deref.ensures.value) at c.in_ok-groups.ensures))
