use Rattle.std.proofs.Common.{sym}
use Rattle.hall_http.proofs.Parts.{one_part, two_parts, three_parts}
use Rattle.hall_http.proofs.routes.parts_of.Goals as goal

pub returns : goal.returns
returns c = rw (sym c.iter-left.ensures.value) (three_parts _ _ _ c.in-Some.ensures.steps
    (rw c.iter-left.ensures.value c.requires) _ _ c.in-Some-next.ensures.steps _ _ c.in-Some-next-2.ensures.steps)

pub returns-in_default-next-2 : goal.returns-in_default-next-2
returns-in_default-next-2 c = rw (sym c.iter-left.ensures.value)
    (two_parts _ _ _ c.in-Some.ensures.steps (rw c.iter-left.ensures.value c.requires) _ _ c.in-Some-next.ensures.steps
    c.in_default-next-2.ensures.steps)

pub returns-in_default-next : goal.returns-in_default-next
returns-in_default-next c = rw (sym c.iter-left.ensures.value)
    (one_part _ _ _ c.in-Some.ensures.steps (rw c.iter-left.ensures.value c.requires) c.in_default-next.ensures.steps)
