-- The lines at a dot.
use Rattle.std.proofs.Common.{◌≡◌, ℕ, ◌<◌, Bool, true, false, ◌&&◌, List, refl, subst, inl, inr}
use Rattle.std.specs.Prelude.{slice_index}
use Rattle.std.proofs.lemmas.Bool.{eq-eqb, eqb-true, and_from}
use Rattle.hall_grid.specs.declared.board.Size.{Size}
use Rattle.hall_grid.specs.Slither.{dots, all_sides, is_line, is_end}
use Rattle.hall_slither.proofs.SidesBeside.{ends_below, is_end_cases}

and_both : (a b : Bool) → (a && b) ≡ true → (a ≡ true) × (b ≡ true)
and_both true b e = (refl, e)
and_both false b e = absurd (cc)

-- the lines at a dot, as a test
abbrev pub line_end : Size → List ℕ → ℕ → ℕ → Bool
line_end size f d side = is_line f side && is_end size d side

pub line_end_from : (size : Size) (f : List ℕ) (d side : ℕ) → slice_index f side ≡ 1 → is_end size d side ≡ true
    → line_end size f d side ≡ true
line_end_from size f d side line at_dot = and_from (is_line f side) (is_end size d side)
    (eq-eqb (slice_index f side) 1 line) at_dot

pub line_end_parts : (size : Size) (f : List ℕ) (d side : ℕ) → line_end size f d side ≡ true → (slice_index f side ≡ 1)
    × (is_end size d side ≡ true)
line_end_parts size f d side e = let p = and_both (is_line f side) (is_end size d side) e in
    (eqb-true (slice_index f side) 1 p.0, p.1)

-- an end of a side is a dot of the board
pub end_below : (size : Size) (d s : ℕ) → 0 < size.cols → s < all_sides size → is_end size d s ≡ true → d < dots size
end_below size d s some low e =
    let b = ends_below size s some low in
    elim (is_end_cases size d s e) [
      | inl h ↦ subst (λ d. d < dots size) h b.0
      | inr h ↦ subst (λ d. d < dots size) h
          b.1
    ]
