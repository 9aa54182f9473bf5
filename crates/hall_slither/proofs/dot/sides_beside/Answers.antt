use Rattle.std.proofs.Common.{List, [], ◌∷◌, Option, None, get_or, ℕ, ap, ◌∙◌, arith}
use Rattle.hall_slither.specs.Dot.{sides_at}
use Rattle.hall_slither.proofs.SidesBeside.{first_end, AreBeside, AreBeside-flat, AreBeside-upright}
use Rattle.hall_slither.proofs.dot.sides_beside.Goals as goal

abbrev flat_list : List (Option ℕ) → List (Option ℕ) → List (Option ℕ)
flat_list a b = get_or a 0 None ∷ get_or a 1 None ∷ get_or a 3 None ∷ get_or b 0 None ∷ get_or b 2 None
    ∷ get_or b 3 None ∷ []

flat : (c : goal.Then-side-flat_sides) → AreBeside c.args.size c.args.side
    (flat_list c.sides_at.result c.sides_at-2.result)
flat c =
    let first = c.sides_at.ensures ∙ ap (λ p. sides_at c.args.size p.0) c.dot_ends-first.ensures.ends in
    let second = c.sides_at-2.ensures ∙ ap (λ p. sides_at c.args.size p.1) c.dot_ends-first.ensures.ends in
    AreBeside-flat c.args.size c.args.side c.requires.size.some_cols c.requires.board (omega arith) _
    (ap (λ x. flat_list x c.sides_at-2.result) first ∙ ap (flat_list
    (sides_at c.args.size (first_end c.args.size c.args.side))) second)

pub returns-then-side-flat_sides-clause-below : goal.returns-then-side-flat_sides-clause-below
returns-then-side-flat_sides-clause-below c = (flat c).below

pub returns-then-side-flat_sides-clause-share : goal.returns-then-side-flat_sides-clause-share
returns-then-side-flat_sides-clause-share c = (flat c).share

pub returns-then-side-flat_sides-clause-all : goal.returns-then-side-flat_sides-clause-all
returns-then-side-flat_sides-clause-all c = (flat c).all

abbrev upright_list : List (Option ℕ) → List (Option ℕ) → List (Option ℕ)
upright_list a b = get_or a 0 None ∷ get_or a 1 None ∷ get_or a 2 None ∷ get_or b 1 None ∷ get_or b 2 None
    ∷ get_or b 3 None ∷ []

upright : (c : goal.Else-side-flat_sides) → AreBeside c.args.size c.args.side
    (upright_list c.sides_at.result c.sides_at-2.result)
upright c =
    let first = c.sides_at.ensures ∙ ap (λ p. sides_at c.args.size p.0) c.dot_ends-first.ensures.ends in
    let second = c.sides_at-2.ensures ∙ ap (λ p. sides_at c.args.size p.1) c.dot_ends-first.ensures.ends in
    AreBeside-upright c.args.size c.args.side c.requires.size.some_cols c.requires.board (omega arith) _
    (ap (λ x. upright_list x c.sides_at-2.result) first ∙ ap
    (upright_list (sides_at c.args.size (first_end c.args.size c.args.side))) second)

pub returns-else-side-flat_sides-clause-below : goal.returns-else-side-flat_sides-clause-below
returns-else-side-flat_sides-clause-below c = (upright c).below

pub returns-else-side-flat_sides-clause-share : goal.returns-else-side-flat_sides-clause-share
returns-else-side-flat_sides-clause-share c = (upright c).share

pub returns-else-side-flat_sides-clause-all : goal.returns-else-side-flat_sides-clause-all
returns-else-side-flat_sides-clause-all c = (upright c).all
