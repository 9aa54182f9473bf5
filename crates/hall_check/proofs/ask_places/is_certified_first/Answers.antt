use Rattle.std.proofs.Common.{◌≡◌, ◌∙◌, Some, sym, subst}
use Rattle.hall_policy.specs.declared.record.PuzzleRow.{PuzzleRow}
use Rattle.hall_policy.specs.declared.record.PuzzleState.TheVariants.{One}
use Rattle.hall_check.proofs.ask_places.is_certified_first.Goals as goal

pub returns-in-Some : goal.returns-in-Some
returns-in-Some c =
    let puzzle = c.in-Some.puzzle.now in (
      (λ one released. let is = c.is_one.ensures.0 one in (puzzle, is.0, sym c.in-Some.ensures, is.1)),
      (λ certified.
          let kept = certified (c.is_released.ensures.0 c.if-not-is_released.false) in
          let both : Some puzzle ≡ Some kept.0 = c.in-Some.ensures ∙ kept.2 in
          let same : kept.0 ≡ puzzle = cc in
          c.is_one.ensures.1 (kept.1, subst (λ (row : PuzzleRow). row.state ≡ One kept.1) same kept.3)),
    )
