-- A region that must grow grows through an exit.
use Rattle.std.proofs.Common.{◌≡◌, ℕ, ◌<◌, ◌⊎◌, List, Option, Some, None, get_or, refl, subst, inl, inr, arith}
use Rattle.std.proofs.lemmas.Bool.{cases_eq}
use Rattle.hall_grid.specs.Board.{Board, cells, Touch}
use Rattle.hall_grid.specs.Walk.{Walk, at, on}
use Rattle.hall_grid.specs.RegionLaws.{Touch-turn}
use Rattle.hall_grid.specs.Component.{IsLabelled, AreComponents}
use Rattle.hall_grid.proofs.AreComponents.{labelled_member}
use Rattle.hall_solve.specs.Question.{IsPartial, IsHopeless, Solves}
use Rattle.hall_solve.specs.Deduction.{HasAlways}
use Rattle.hall_nurikabe.specs.declared.exits.Exits.{Exits}
use Rattle.hall_nurikabe.specs.declared.exits.Exits.TheVariants.{Nowhere, One}
use Rattle.hall_grid.specs.declared.board.Kind.TheVariants.{Nurikabe}
use Rattle.hall_solve.specs.Puzzle.{question_of}
use Rattle.hall_nurikabe.specs.Forced.{IsSetTo, IsBeside}
use Rattle.hall_nurikabe.specs.Exit.{Covers, KnowsExits, MustGrow}

pub label_is : (labels : List (Option ℕ)) (cell label : ℕ) → IsLabelled labels cell label
    ⊎ (IsLabelled labels cell label → ⊥)
label_is labels cell label = decide (get_or labels cell None)
  where
    decide : (o : Option ℕ) → (o ≡ Some label) ⊎ (o ≡ Some label → ⊥)
    decide None = inr (λ e. cc)
    decide (Some x) = elim (cases_eq x label) [ inl e ↦ inl (let k = e in cc) | inr ne ↦ inr (λ e. ne (cc)) ]

module _ (board : Board) (p : List (Option ℕ)) (part : IsPartial (question_of Nurikabe board) p) (value : ℕ)
    (labels : List (Option ℕ))
    (a : AreComponents (cells board.size) (Touch board.size) (IsSetTo p value) labels) (label : ℕ) where
  -- the first step of a walk out of the region goes to an open cell beside it
  leaves : (f : List ℕ) → Solves (question_of Nurikabe board) p f → (c d : ℕ) → IsLabelled labels c label
      → (IsLabelled labels d label → ⊥)
      → Walk (Touch board.size) (λ cell. (cell < cells board.size) × (get_or f cell 0 ≡ value)) c d
      → (x : ℕ) × (x < cells board.size) × (get_or p x None ≡ None) × IsBeside board.size labels x label
      × (get_or f x 0 ≡ value)
  leaves f s c d here out (at m) = absurd (out here)
  leaves f s c d here out (on {b = b} w n k) =
      elim (label_is labels b label) [
        | inr far ↦ leaves f s c b here far w
        | inl near ↦ unset (get_or p d None) refl near
      ]
    where
      unset : (o : Option ℕ) → get_or p d None ≡ o → IsLabelled labels b label
          → (x : ℕ) × (x < cells board.size) × (get_or p x None ≡ None) × IsBeside board.size labels x label
          × (get_or f x 0 ≡ value)
      unset None e near = (d, k.0, e, (b, Touch-turn board.size b d n, near), k.1)
      unset (Some v) e near =
          let same : v ≡ value = let x = s.extends d v e in let y = k.1 in omega arith in
          let set : IsSetTo p value d = subst (λ x. get_or p d None ≡ Some x) same e in
          absurd (out (a.shared b d label (on (at (labelled_member (cells board.size) (Touch board.size)
          (IsSetTo p value) labels a b label near)) n set) near))

  module _ (exits : List Exits) (k : KnowsExits board.size p labels (cells board.size) exits)
      (grow : MustGrow board p value labels label) where
    pub nowhere_hopeless : get_or exits label Nowhere ≡ Nowhere → IsHopeless (question_of Nurikabe board) p
    nowhere_hopeless e = λ f s. grow f s (λ c d here out w.
        let x = leaves f s c d here out w in
        subst (λ o. Covers o x.0) e (k.covers label x.0 x.1 x.2 x.3))

    pub one_forced : (cell : ℕ) → get_or exits label Nowhere ≡ One cell → HasAlways (question_of Nurikabe board) p cell
        value
    one_forced cell e = λ f s. elim (cases_eq (get_or f cell 0) value) [
      | inl same ↦ same
      | inr ne ↦ absurd (grow f s (λ c d here out w.
          let x = leaves f s c d here out w in
          let same : x.0 ≡ cell = subst (λ o. Covers o x.0) e (k.covers label x.0 x.1 x.2 x.3) in
          ne (subst (λ y. get_or f y 0 ≡ value) same x.4)))
    ]
