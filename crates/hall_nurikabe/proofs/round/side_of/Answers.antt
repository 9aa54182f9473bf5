use Rattle.std.proofs.Common.{◌≡◌, ◌<◌, Some, None, length, get_or, sym, ◌∙◌, inl, inr}
use Rattle.std.proofs.lemmas.Bool.{cases_lt}
use Rattle.std.proofs.lemmas.List.{get_or_past}
use Rattle.hall_grid.specs.Board.{cells}
use Rattle.hall_grid.proofs.Labelling.{place_in}
use Rattle.hall_nurikabe.proofs.IsFound.{some_from}
use Rattle.hall_nurikabe.proofs.round.side_of.Goals as goal

pub returns : goal.returns
returns c =
    let places = c.neighbours-places.result in
    some_from (get_or places c.args.side None) (λ other. other < cells c.args.size)
    (λ x e. elim (cases_lt c.args.side (length places)) [
      | inl low ↦ ((c.neighbours-places.ensures.touching x).0 (place_in places c.args.side None (Some x) low e)).0
      | inr past ↦ absurd (
          let none = get_or_past places c.args.side None past in
          let clash : None ≡ Some x = sym none ∙ e in
          cc)
    ])
