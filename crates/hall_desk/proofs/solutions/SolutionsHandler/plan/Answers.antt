use Rattle.std.proofs.Common.{Option, Some, List, sym, subst}
use Rattle.hall_policy.specs.Facts.{IsRoundFound}
use Rattle.hall_policy.specs.declared.record.Entry.{Entry}
use Rattle.hall_policy.specs.declared.record.RoundRow.{RoundRow}
use Rattle.hall_desk.specs.Plans.{AreInStateOne}
use Rattle.hall_desk.proofs.Showing.{listed_in_state_one, solutions_released}
use Rattle.hall_desk.proofs.solutions.SolutionsHandler.plan.Goals as goal

pub find_solutions-requires : goal.find_solutions-requires
find_solutions-requires g c = λ h s sane.
    let world = (g.S.ReadStore.content c.args.store.now).world in
    let id = c.args.self.now.round.now in
    let row = c.in-Some.row in
    subst (λ (entries : List Entry). AreInStateOne world entries) (sym c.as_slice.ensures.value)
    (listed_in_state_one world id row (subst (λ (found : Option RoundRow). IsRoundFound world (Some id) found)
    c.in-Some.is (c.requires.told h s).1.1.0)
    (solutions_released c.args.facts.now id row c.requires.allowed.object c.in-Some.is) sane)
