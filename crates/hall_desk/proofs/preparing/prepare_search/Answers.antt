use Rattle.hall_desk.proofs.Wants.{prepared_by}
use Rattle.hall_desk.proofs.preparing.prepare_search.Goals as goal

pub returns-in-Ok-Some-clause-waits : goal.returns-in-Ok-Some-clause-waits
returns-in-Ok-Some-clause-waits g c = λ waits.
    let told = rw c.in-Ok-Some.field-0-is at c.in-Ok-Some.ensures.told in
    (c.in-Ok-Some.wanted, c.search_on.ensures.waits waits, told.1)

pub returns-in-Ok-Some-clause-ready : goal.returns-in-Ok-Some-clause-ready
returns-in-Ok-Some-clause-ready g c = λ ready h s.
    let told = rw c.in-Ok-Some.field-0-is at c.in-Ok-Some.ensures.told in
    prepared_by _ _ _ c.in-Ok-Some.wanted (told.1 h s) (c.search_on.ensures.ready ready)
