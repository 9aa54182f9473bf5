-- Exits, as cells are added to them.
use Rattle.std.proofs.Common.{◌≡◌, ℕ, ◌+◌, ◌<◌, List, Option, None, length, get_or, set, sym, ◌∙◌, subst, inl, inr}
use Rattle.std.proofs.Common.{arith}
use Rattle.std.proofs.lemmas.Bool.{cases_eq}
use Rattle.std.proofs.lemmas.List.{get_or-set_same, get_or-set_other, length-set}
use Rattle.hall_grid.specs.declared.board.Size.{Size}
use Rattle.hall_grid.specs.Board.{cells}
use Rattle.hall_nurikabe.specs.declared.exits.Exits.{Exits}
use Rattle.hall_nurikabe.specs.declared.exits.Exits.TheVariants.{Nowhere, One}
use Rattle.hall_nurikabe.specs.Forced.{IsBeside}
use Rattle.hall_nurikabe.specs.Exit.{AddsExit, Covers, KnowsExits}

pub AddsExit-set : (cell : ℕ) (old cur : List Exits) (label : ℕ) (e : Exits) → label < length cur
    → ((x : ℕ) → Covers (get_or cur label Nowhere) x → Covers e x) → ((x : ℕ) → e ≡ One x → x ≡ cell)
    → AddsExit cell old cur → AddsExit cell old (set cur label e)
AddsExit-set cell old cur label e low keeps one a = record {
  exact = length-set cur label e ∙ a.exact;
  kept = λ l x h. elim (cases_eq l label) [
    | inl s ↦
        let here : Covers (get_or cur label Nowhere) x = subst (λ k. Covers (get_or cur k Nowhere) x) s
        (a.kept l x h) in
        subst (λ k. Covers (get_or (set cur label e) k Nowhere) x) (sym s)
        (subst (λ o. Covers o x) (sym (get_or-set_same cur label e Nowhere low)) (keeps x here))
    | inr ne ↦ subst (λ o. Covers o x) (sym (get_or-set_other cur label l e Nowhere ne)) (a.kept l x h)
  ];
  below = λ l x n small f h. elim (cases_eq l label) [
    | inl s ↦
        let there : get_or (set cur label e) label Nowhere ≡ One x = subst
        (λ k. get_or (set cur label e) k Nowhere ≡ One x) s h in
        let is : x ≡ cell = one x (sym (get_or-set_same cur label e Nowhere low) ∙ there) in omega arith
    | inr ne ↦ a.below l x n small f (sym (get_or-set_other cur label l e Nowhere ne) ∙ h)
  ];
}

pub covers_set : (cur : List Exits) (label l : ℕ) (e : Exits) (cell : ℕ) → label < length cur → Covers e cell
    → (Covers (get_or cur l Nowhere) cell → Covers e cell)
    → Covers (get_or cur l Nowhere) cell → Covers (get_or (set cur label e) l Nowhere) cell
covers_set cur label l e cell low here keeps h = elim (cases_eq l label) [
  | inl s ↦ subst (λ k. Covers (get_or (set cur label e) k Nowhere) cell) (sym s)
      (subst (λ o. Covers o cell) (sym (get_or-set_same cur label e Nowhere low)) here)
  | inr ne ↦ subst (λ o. Covers o cell) (sym (get_or-set_other cur label l e Nowhere ne)) h
]

pub covers_here : (cur : List Exits) (label : ℕ) (e : Exits) (cell : ℕ) → label < length cur → Covers e cell
    → Covers (get_or (set cur label e) label Nowhere) cell
covers_here cur label e cell low here = subst (λ o. Covers o cell) (sym (get_or-set_same cur label e Nowhere low)) here

pub KnowsExits-skip : (size : Size) (p labels : List (Option ℕ)) (cell : ℕ) (exits : List Exits)
    → (get_or p cell None ≡ None → ⊥)
    → KnowsExits size p labels cell exits → KnowsExits size p labels (cell + 1) exits
KnowsExits-skip size p labels cell exits taken k = record {
  exact = k.exact;
  below = k.below;
  covers = λ label c h unset b. elim (cases_eq c cell) [
    | inl e ↦ absurd (taken (subst (λ x. get_or p x None ≡ None) e unset))
    | inr ne ↦ k.covers label c (omega arith) unset b
  ];
}

pub KnowsExits-add : (size : Size) (p labels : List (Option ℕ)) (cell : ℕ) (old new : List Exits) → cell < cells size
    → AddsExit cell old new
    → ((label : ℕ) → IsBeside size labels cell label → Covers (get_or new label Nowhere) cell)
    → KnowsExits size p labels cell old
    → KnowsExits size p labels (cell + 1) new
KnowsExits-add size p labels cell old new low a here k = record {
  exact = a.exact ∙ k.exact;
  below = λ label c e. a.below label c (cells size) low (λ x h. k.below label x h) e;
  covers = λ label c h unset b. elim (cases_eq c cell) [
    | inl e ↦ subst (λ x. Covers (get_or new label Nowhere) x) (sym e)
        (here label (subst (λ x. IsBeside size labels x label) e b))
    | inr ne ↦ a.kept label c (k.covers label c (omega arith) unset b)
  ];
}
