use Rattle.std.proofs.lemmas.Result.{IfOk-from_err}
use Rattle.std.proofs.Common.{◌≡◌, ◌≢◌, ℕ, length, refl, subst}
use Rattle.hall_solve.specs.declared.visit.Visited.{Visited}
use Rattle.hall_solve.specs.declared.visit.Visited.TheVariants.{Closed, Whole, Open}
use Rattle.hall_solve.specs.Question.{Question}
use Rattle.hall_solve.specs.Trail.{Trailed, IsUndone}
use Rattle.hall_solve.specs.Visit.{IsLook, IsVisit}
use Rattle.hall_solve.proofs.Trails.{undone_same}
use Rattle.hall_solve.proofs.visit.visit.Goals as goal

-- no place is open, and what was set is cleared again
closed_visit : (q : Question) (old mid new : Trailed) (v : Visited) → IsLook q old.places mid.places v
    → ((i : ℕ) → v ≢ Open i) → new ≡ old → IsVisit q old new v
closed_visit q old mid new Closed h shut e = (h, e)
closed_visit q old mid new (Whole g) h shut e = (h, e)
closed_visit q old mid new (Open i) h shut e = absurd (shut i refl)

pub returns-in_default : goal.returns-in_default
returns-in_default g c =
    let old = c.args.partial.now in
    let mid = c.look.new.partial in
    let new = c.undo_to.new.self in
    let undone : IsUndone (length old.trail) mid new = subst (λ (m : ℕ). IsUndone m mid new) c.mark-mark.ensures.mark
    c.undo_to.ensures.undone in
    let same = undone_same old mid new c.mark-mark.ensures.trailed c.undo_to.ensures.before c.undo_to.ensures.trailed
    c.look.ensures.grows undone in
    record {
      visit = closed_visit (g.R.Rules.question c.args.rules.now) old mid new c.in_ok-visited.visited
          c.in_ok-visited.ensures.look c.in_default.not-Open same;
      counted = c.look.ensures.counted;
      at_visits = c.look.ensures.at_visits;
      same = c.look.ensures.same;
    }

pub returns-in_err-visited-clause-visit : goal.returns-in_err-visited-clause-visit
returns-in_err-visited-clause-visit g c = IfOk-from_err c.from_residual.result _ c.from_residual.ensures.0
