use Rattle.std.proofs.Common.{◌≡◌, ℕ, List, Option, ◌∙◌, length, sym, refl, ap, subst}
use Rattle.hall_grid.specs.Board.{Board}
use Rattle.hall_slither.specs.declared.count.Centre.{Centre}
use Rattle.hall_slither.specs.declared.count.Demand.{Demand}
use Rattle.hall_slither.specs.declared.count.Consequence.TheVariants.{Nothing}
use Rattle.hall_grid.specs.Slither.{all_sides}
use Rattle.hall_slither.specs.Count.{sides_round, count_sides, has_line, is_place_unset, Follows, demand_of, IsSilent}
use Rattle.hall_slither.specs.Dot.{AreBelow}
use Rattle.hall_grid.specs.declared.board.Kind.TheVariants.{Slither}
use Rattle.hall_solve.specs.Puzzle.{question_of}
use Rattle.hall_slither.proofs.IsTold.{IsTold-from_counts}
use Rattle.hall_slither.proofs.count.consequence_at.Goals as goal

IsSilent-from : (board : Board) (p : List (Option ℕ)) (centre : Centre) (demand : Demand) (lines unset : ℕ)
    → demand ≡ demand_of board centre
    → lines ≡ count_sides (has_line p) (sides_round board.size centre)
    → unset ≡ count_sides (is_place_unset p) (sides_round board.size centre)
    → Follows demand lines unset Nothing → IsSilent board p centre
IsSilent-from board p centre demand lines unset d l u follows =
    subst (λ d. Follows d (count_sides (has_line p) (sides_round board.size centre))
    (count_sides (is_place_unset p) (sides_round board.size centre)) Nothing) d
    (subst (λ n. Follows demand n (count_sides (is_place_unset p) (sides_round board.size centre)) Nothing) l
    (subst (λ n. Follows demand lines n Nothing) u follows))

pub returns-clause-told : goal.returns-clause-told
returns-clause-told c =
    let sides_are : c.sides_round.result ≡ sides_round c.args.puzzle.now.size c.args.centre =
    c.sides_round.ensures.sides ∙ ap (λ size. sides_round size c.args.centre) c.size.ensures.size in
    let room : all_sides c.size.result ≡ length c.args.partial.now.places = ap all_sides c.size.ensures.size
    ∙ sym c.requires.partial.size in
    let below : AreBelow (length c.args.partial.now.places) c.sides_round.result = subst
    (λ n. AreBelow n c.sides_round.result) room c.sides_round.ensures.below in
    IsTold-from_counts (question_of Slither c.args.puzzle.now) c.args.partial.now.places
    (sides_round c.args.puzzle.now.size c.args.centre) c.demand_at.result
    c.lines_and_open-lines.result.0 c.lines_and_open-lines.result.1 refl c.requires.partial.size
    (subst (λ sides. AreBelow (length c.args.partial.now.places) sides) sides_are below)
    (c.lines_and_open-lines.ensures.lines ∙ ap (λ sides. count_sides (has_line c.args.partial.now.places) sides)
    sides_are)
    (c.lines_and_open-lines.ensures.unset ∙ ap (λ sides. count_sides (is_place_unset c.args.partial.now.places) sides)
    sides_are)
    (λ f s. c.demand_at.ensures.meets f s.right)
    c.consequence_of.result c.consequence_of.ensures

pub returns-clause-silent : goal.returns-clause-silent
returns-clause-silent c = λ nothing.
    let sides_are : c.sides_round.result ≡ sides_round c.args.puzzle.now.size c.args.centre =
    c.sides_round.ensures.sides ∙ ap (λ size. sides_round size c.args.centre) c.size.ensures.size in
    IsSilent-from c.args.puzzle.now c.args.partial.now.places c.args.centre c.demand_at.result
    c.lines_and_open-lines.result.0 c.lines_and_open-lines.result.1
    c.demand_at.ensures.demand
    (c.lines_and_open-lines.ensures.lines ∙ ap (λ sides. count_sides (has_line c.args.partial.now.places) sides)
    sides_are)
    (c.lines_and_open-lines.ensures.unset ∙ ap (λ sides. count_sides (is_place_unset c.args.partial.now.places) sides)
    sides_are)
    (subst (Follows c.demand_at.result c.lines_and_open-lines.result.0 c.lines_and_open-lines.result.1) nothing
    c.consequence_of.ensures)
