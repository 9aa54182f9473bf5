use Rattle.std.proofs.Common.{◌≡◌, ◌<◌, Some, None, get_or, sym, ◌∙◌, subst, inl, inr, arith, rules}
use Rattle.hall_grid.specs.Component.{IsLabelled}
use Rattle.hall_grid.specs.Nurikabe.{IsNumbered}
use Rattle.hall_grid.proofs.Labelling.{one_label, labelled_below}
use Rattle.hall_nurikabe.specs.Steps.{IsMost}
use Rattle.hall_nurikabe.proofs.Marks.{numbered_clue}
use Rattle.hall_nurikabe.proofs.AreSources.{most_numbered, same_owner}
use Rattle.hall_nurikabe.proofs.steps.source.Goals as goal

pub returns-then-is_number : goal.returns-then-is_number
returns-then-is_number c = λ bare.
    let board = c.args.position.now.puzzle.now in
    let numbered : IsNumbered board c.args.cell = (numbered_clue board c.args.cell c.clue.result c.clue.ensures).0
    (c.is_number.ensures.0 c.if-is_number.true) in
    record {
      number = c.most_cells.ensures;
      group = λ none label owner n here has h. absurd (none numbered);
      known = inr (inl numbered);
    }

pub most_cells-requires-in-Some : goal.most_cells-requires-in-Some
most_cells-requires-in-Some c =
    let has : get_or c.args.owners.now c.in-Some.label None ≡ Some c.in_ok-owner-in-Some.owner = search rules in
    let low = labelled_below c.args.labels.now c.in_ok-owner-in-Some.owner c.in-Some.label
    (c.requires.owners.owner c.in-Some.label c.in_ok-owner-in-Some.owner has).1 in
    let whole = c.requires.exact in
    omega arith

pub returns-in_ok-owner-in-Some : goal.returns-in_ok-owner-in-Some
returns-in_ok-owner-in-Some c = λ bare.
    let board = c.args.position.now.puzzle.now in
    let has : get_or c.args.owners.now c.in-Some.label None ≡ Some c.in_ok-owner-in-Some.owner = search rules in
    let here : IsLabelled c.args.labels.now c.args.cell c.in-Some.label = search rules in
    record {
      number = λ n h. absurd (
          let yes = c.is_number.ensures.1 ((numbered_clue board c.args.cell c.clue.result c.clue.ensures).1
          (most_numbered board c.args.cell n h)) in
          let no = c.if-is_number.false in
          cc);
      group = λ none label owner n at at_owner h.
          c.most_cells-in-Some.ensures n
          (subst (λ x. IsMost board x n) (same_owner c.args.labels.now c.args.owners.now c.args.cell label
          c.in-Some.label owner c.in_ok-owner-in-Some.owner at here at_owner has) h);
      known = inl (c.in-Some.label, c.in_ok-owner-in-Some.owner, here, has);
    }
