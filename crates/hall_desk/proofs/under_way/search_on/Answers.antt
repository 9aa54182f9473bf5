use Rattle.std.proofs.Common.{◌∙◌, None, Option, refl, subst, sym}
use Rattle.hall_desk.specs.Searches.{AreOrNone, SearchesView}
use Rattle.hall_desk.proofs.under_way.search_on.Goals as goal
use Rattle.hall_desk.proofs.under_way.search_on.Goals.{in-Some, in-None+in-Ok}

pub returns-in-Ok-None-clause-waits : goal.returns-in-Ok-None-clause-waits
returns-in-Ok-None-clause-waits c = λ waits.
    let worked = rw c.in-Ok-None.field-0-is at c.in-Ok-None.ensures in
    let are : AreOrNone c.args.searches.now c.match-take.under_way = elim c.match-take.branch [
      | in-Some w ↦
          subst (λ (o : Option SearchesView). AreOrNone o c.match-take.under_way)
          (sym w.in-Some.is ∙ c.take.ensures.value) w.under_way-is
      | in-None+in-Ok w ↦
          subst (λ (o : Option SearchesView). AreOrNone o c.match-take.under_way)
          (sym w.in-None.is ∙ c.take.ensures.value)
          (subst (λ (v : SearchesView). AreOrNone None v) (sym w.under_way-is)
          (w.in-Ok.ensures.none, w.in-Ok.ensures.asked, w.in-Ok.ensures.ended))
    ] in
    (c.match-take.under_way, c.go_on-worked.new.self, are, refl, worked.0, worked.1, worked.2)
