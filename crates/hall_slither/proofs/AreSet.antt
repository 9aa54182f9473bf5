-- Sides that are set one after another.
use Rattle.std.proofs.Common.{◌≡◌, ◌≢◌, ℕ, ◌+◌, ◌<◌, ◌≤◌, ◌⊎◌, ◌∙◌, List, length, get_or, set, take, true, false}
use Rattle.std.proofs.Common.{Option, Some, None, refl, sym, ap, subst, inl, inr, arith}
use Rattle.std.specs.Prelude.{Contains, is_some, not, Bool}
use Rattle.std.proofs.lemmas.List.{get_or_default, take_more, take_all}
use Rattle.std.proofs.lemmas.List.Elements.{Contains-push_cases}
use Rattle.hall_solve.specs.Question.{IsOpen}
use Rattle.hall_solve.proofs.Boards.{open-set}
use Rattle.hall_slither.specs.Follow.{AreSet, work}
use Rattle.hall_slither.specs.declared.count.Centre.{Centre}

pub none_or_some : (v : Option ℕ) → (v ≡ None) ⊎ ((w : ℕ) × (v ≡ Some w))
none_or_some None = inl refl
none_or_some (Some w) = inr (w, refl)

-- one more side is looked at
pub AreSet-more : (sides p : List (Option ℕ)) (i : ℕ) → i < length sides → AreSet (take i sides) p
    → ((s : ℕ) → get_or sides i None ≡ Some s → get_or p s None ≢ None) → AreSet (take (i + 1) sides) p
AreSet-more sides p i low all here s has =
    elim (Contains-push_cases (take i sides) (get_or sides i None) (Some s)
    (subst (λ xs. Contains xs (Some s)) (take_more sides i None low) has)) [
      | inl k ↦ all s k
      | inr e ↦ here s e
    ]

pub AreSet-all : (sides p : List (Option ℕ)) (i : ℕ) → length sides ≤ i → AreSet (take i sides) p → AreSet sides p
AreSet-all sides p i h all s has = all s (subst (λ xs. Contains xs (Some s)) (sym (take_all i sides h)) has)

-- what `is_none` tells
pub unset_from : (v : Option ℕ) (b : Bool) → is_some v ≡ not b → b ≡ true → v ≡ None
unset_from None b e t = refl
unset_from (Some w) b e t = absurd (let off : not b ≡ false = ap not t in cc)

pub set_from : (v : Option ℕ) (b : Bool) → is_some v ≡ not b → b ≡ false → v ≢ None
set_from None b e t = λ k. (let off : not b ≡ true = ap not t in cc)
set_from (Some w) b e t = λ k. cc

-- the work is no more after a side is set and its centres are put onto the stack
pub work-set : (p : List (Option ℕ)) (s value : ℕ) (centres more : List Centre) (n : ℕ) → IsOpen p s
    → length more ≤ length centres + 4 → work p centres ≤ n
    → work (set p s (Some value)) more ≤ n
work-set p s value centres more n is_unset few le = let e = open-set p s value is_unset.0 is_unset.1 in omega arith

-- the element at an index is among the list's
pub at_index : (sides : List (Option ℕ)) (i s : ℕ) → i < length sides → get_or sides i None ≡ Some s
    → Contains sides (Some s)
at_index sides i s low e = (i, low, get_or_default sides i (Some s) None low ∙ e)
