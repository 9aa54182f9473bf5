use Rattle.std.proofs.Common.{◌≡◌, ◌<◌, ◌∙◌, length, get_or, Some, None, List, ℕ, Option, sym, ap, subst, inl, inr}
use Rattle.std.proofs.Common.{arith}
use Rattle.std.specs.Prelude.{IfSome, Contains}
use Rattle.std.proofs.lemmas.List.{get_or_default}
use Rattle.std.proofs.lemmas.List.Elements.{All-contains}
use Rattle.hall_grid.specs.declared.board.Size.{Size}
use Rattle.hall_grid.specs.Board.{IsSize}
use Rattle.hall_grid.specs.Slither.{all_sides, dots, ends, IsLine, ShareDot}
use Rattle.hall_grid.specs.Component.{IsLabelled, AreComponents}
use Rattle.hall_grid.proofs.AreComponents.{label_member}
use Rattle.hall_slither.specs.Dot.{sides_at, AreBelow}
use Rattle.hall_slither.proofs.Demand.{AreBelow-dot}
use Rattle.hall_slither.proofs.IsLayout.{size_of_board}
use Rattle.hall_slither.specs.Chain.{HaveEnds}
use Rattle.hall_slither.specs.Close.{Layout, Closes}
use Rattle.hall_slither.specs.declared.chain.Ends.{Ends}
use Rattle.hall_slither.specs.declared.chain.Ends.TheVariants.{Closed, Two}
use Rattle.hall_slither.proofs.close.Chains.closes.Goals as goal
use Rattle.hall_slither.proofs.close.Chains.closes.Goals.{then-a-first+else-b-second, else-a-first}

-- a label that was read has its place among the ends
label_room : (size read : Size) (lines : List ℕ) (labels : List (Option ℕ)) (ends : List Ends) (sides : List (Option ℕ))
    (line label : ℕ) (was : Option ℕ)
    → read ≡ size → AreComponents (all_sides size) (ShareDot size) (IsLine size lines) labels
    → HaveEnds size lines labels (dots size) ends
    → AreBelow (all_sides read) sides → Contains sides (Some line) → was ≡ get_or labels line was → was ≡ Some label
    → label < length ends
label_room size read lines labels ends sides line label was e are have below among got is =
    let low : line < all_sides read = All-contains (λ (o : Option ℕ). IfSome o (λ s. s < all_sides read)) sides
    (Some line) below among in
    let here : line < all_sides size = subst (λ s. line < all_sides s) e low in
    let exact = are.exact in
    let full = have.exact in
    let labelled : IsLabelled labels line label = get_or_default labels line None was (omega arith) ∙ sym got ∙ is in
    let member = label_member (all_sides size) (ShareDot size) (IsLine size lines) labels are line label labelled in
    let room = member.0 in
    omega arith

-- what the ends were read as
two_are : (ends : List Ends) (label a b x y : ℕ) (was : Ends) → label < length ends → was ≡ get_or ends label was
    → was ≡ Two a b → a ≡ x → b ≡ y
    → get_or ends label Closed ≡ Two x y
two_are ends label a b x y was room got is e f = get_or_default ends label Closed was room ∙ sym got ∙ is
    ∙ ap (λ a. Two a b) e ∙ ap (λ b. Two x b) f

-- the sides at a dot that was read
below_at : (size read : Size) (d : ℕ) (sides : List (Option ℕ)) → IsSize size → read ≡ size → d < dots read
    → sides ≡ sides_at read d
    → AreBelow (all_sides read) sides
below_at size read d sides is e low are =
    subst (AreBelow (all_sides read)) (sym are) (AreBelow-dot read d
    (let some = is.some_cols in let cols = ap (λ s. s.cols) e in omega arith) low)

pub first_line-requires : goal.first_line-requires
first_line-requires c =
    subst (λ n. AreBelow n c.sides_at.result)
    (ap all_sides c.size-size.ensures.size ∙ sym c.self.invariant.exact ∙ sym (ap length c.deref.ensures.value))
    (below_at c.self.inside.puzzle.now.size c.size-size.result c.dot_ends-first.result.0 c.sides_at.result
    (size_of_board c.self.inside.puzzle.now c.self.invariant.kind c.self.invariant.board) c.size-size.ensures.size
    c.dot_ends-first.ensures.dots.0 c.sides_at.ensures)

pub index-requires-2 : goal.index-requires-2
index-requires-2 c =
    let room = label_room c.self.inside.puzzle.now.size c.size-size.result c.self.inside.lines.items
    c.self.inside.labels.items c.self.inside.ends.items
    c.sides_at.result c.in-Some.line c.in-Some-index.label c.index.result.now c.size-size.ensures.size
    c.self.invariant.components c.self.invariant.ends
    (below_at c.self.inside.puzzle.now.size c.size-size.result c.dot_ends-first.result.0 c.sides_at.result
    (size_of_board c.self.inside.puzzle.now c.self.invariant.kind c.self.invariant.board) c.size-size.ensures.size
    c.dot_ends-first.ensures.dots.0 c.sides_at.ensures) c.in-Some.ensures.found.0 c.index.ensures
    c.in-Some-index.is in
    let ok = c.self.inside.ends.ok.0 in
    omega arith

pub returns-in-Two : goal.returns-in-Two
returns-in-Two c = λ _.
    let room = label_room c.self.inside.puzzle.now.size c.size-size.result c.self.inside.lines.items
    c.self.inside.labels.items c.self.inside.ends.items
    c.sides_at.result c.in-Some.line c.in-Some-index.label c.index.result.now c.size-size.ensures.size
    c.self.invariant.components c.self.invariant.ends
    (below_at c.self.inside.puzzle.now.size c.size-size.result c.dot_ends-first.result.0 c.sides_at.result
    (size_of_board c.self.inside.puzzle.now c.self.invariant.kind c.self.invariant.board) c.size-size.ensures.size
    c.dot_ends-first.ensures.dots.0 c.sides_at.ensures) c.in-Some.ensures.found.0 c.index.ensures
    c.in-Some-index.is in
    let dots_are = c.dot_ends-first.ensures.ends ∙ ap (λ size. ends size c.args.side) c.size-size.ensures.size in
    subst (λ (l : Layout). Closes l c.args.side) c.self.view_is (
      c.in-Some-index.label,
      inl (two_are c.self.inside.ends.items c.in-Some-index.label c.in-Two.a c.in-Two.b _ _ c.index-2.result.now room
          c.index-2.ensures c.in-Two.is
          (c.if-a-first.true ∙ ap (λ p. p.0) dots_are) (c.if-b-second.true ∙ ap (λ p. p.1) dots_are)),
    )

pub returns-in-Two-2 : goal.returns-in-Two-2
returns-in-Two-2 c = λ _.
    let room = label_room c.self.inside.puzzle.now.size c.size-size.result c.self.inside.lines.items
    c.self.inside.labels.items c.self.inside.ends.items
    c.sides_at.result c.in-Some.line c.in-Some-index.label c.index.result.now c.size-size.ensures.size
    c.self.invariant.components c.self.invariant.ends
    (below_at c.self.inside.puzzle.now.size c.size-size.result c.dot_ends-first.result.0 c.sides_at.result
    (size_of_board c.self.inside.puzzle.now c.self.invariant.kind c.self.invariant.board) c.size-size.ensures.size
    c.dot_ends-first.ensures.dots.0 c.sides_at.ensures) c.in-Some.ensures.found.0 c.index.ensures
    c.in-Some-index.is in
    let dots_are = c.dot_ends-first.ensures.ends ∙ ap (λ size. ends size c.args.side) c.size-size.ensures.size in
    subst (λ (l : Layout). Closes l c.args.side) c.self.view_is (
      c.in-Some-index.label,
      inr (two_are c.self.inside.ends.items c.in-Some-index.label c.in-Two-2.a c.in-Two-2.b _ _ c.index-2.result.now
          room c.index-2.ensures c.in-Two-2.is
          (c.if-a-second.true ∙ ap (λ p. p.1) dots_are) (c.if-b-first.true ∙ ap (λ p. p.0) dots_are)),
    )
