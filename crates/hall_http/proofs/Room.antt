-- Who goes first, of those that may make room.
use Rattle.std.proofs.Common.{◌≡◌, ◌∙◌, sym, ap, subst, refl, arith, ℕ, ◌+◌, ◌<◌, ◌≤◌, ◌⊎◌, inl, inr, true}
use Rattle.std.proofs.Common.{Option, Some, None, length}
use Rattle.std.specs.Prelude.{IfSome, IfNone}
use Rattle.std.proofs.lemmas.Option.{same_Some}
use Rattle.std.proofs.lemmas.List.{get_or_past}
use Rattle.std.proofs.lemmas.Bool.Decides.{leb_tells}
use Rattle.hall_http.specs.Places.{HasExpired, MayMakeRoom, goes_at}
use Rattle.hall_http.specs.Seats.{GoesFirst, MayGoBy, MayLetGo, StandsAt, are_full}
use Rattle.hall_http.specs.declared.places.Places.{Places}

-- at a place patience ends at one time
pub one_until : (places : Places) (place until other : ℕ) → MayGoBy places place until → MayGoBy places place other
    → until ≡ other
one_until places place until other (visit, at, (may, is)) (visit', at', (may', is')) =
    is ∙ ap goes_at (same_Some visit visit' (sym at ∙ at')) ∙ sym is'

-- none of those up to a place goes before this, where none before it does nor the one there
pub up_to : (places : Places) (place first now : ℕ)
    → ((other until : ℕ) → other < place → MayGoBy places other until → first ≤ until) → now ≤ first
    → ((until : ℕ) → MayGoBy places place until → now ≤ until)
    → (other until : ℕ) → other < place + 1 → MayGoBy places other until → now ≤ until
up_to places place first now before less there other until near may = elim (leb_tells place other) [
  | inl far ↦ there until (subst (λ k. MayGoBy places k until) (omega (arith, far.1, near)) may)
  | inr nearer ↦ omega (arith, less, before other until nearer.1 may)
]

-- only at a place that there is somebody may go
pub within_places : (places : Places) (other until : ℕ) → MayGoBy places other until
    → other < length places.visits.items
within_places places other until may = elim (leb_tells (length places.visits.items) other) [
  | inl past ↦
      let none = sym (get_or_past places.visits.items other None past.1) ∙ may.1 in absurd cc
  | inr near ↦ near.1
]

-- where one may go at a place by no time sooner than this, then nobody there may
pub none_sooner : (places : Places) (place first : ℕ) (told : Option ℕ) → IfSome told (MayGoBy places place)
    → IfNone told ((until : ℕ) → ¬ (MayGoBy places place until)) → ((until : ℕ) → told ≡ Some until → first ≤ until)
    → (until : ℕ) → MayGoBy places place until → first ≤ until
none_sooner places place first None some none late until may = absurd (none until may)
none_sooner places place first (Some told) some none late until may =
    subst (λ n. first ≤ n) (one_until places place told until some may) (late told refl)

-- it is the first of all that may go, where it is that of all places
pub first_of_all : (places : Places) (leaves : Option ℕ) (first count : ℕ)
    → IfSome leaves (λ place. MayGoBy places place first)
    → ((other until : ℕ) → other < count → MayGoBy places other until → first ≤ until)
    → length places.visits.items ≤ count → IfSome leaves (GoesFirst places)
first_of_all places None first count leaves before all = leaves
first_of_all places (Some place) first count leaves before all = (
  first,
  leaves,
  λ other until may. before other until (omega (arith, all, within_places places other until may)) may,
)

-- whoever may be let go is there, and has expired, or may make room where all places are taken
pub goes_there : (places : Places) (place : ℕ) → MayLetGo places place
    → StandsAt places place
    (λ visit. HasExpired visit places.elapsed ⊎ ((are_full places ≡ true) × MayMakeRoom visit places.elapsed))
goes_there places place (inl (visit, at, expired)) = (visit, at, inl expired)
goes_there places place (inr (full, goes)) =
    let (first, by, least) = goes in let (visit, at, (may, is)) = by in (visit, at, inr (full, may))
