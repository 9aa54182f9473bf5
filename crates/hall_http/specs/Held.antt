-- A request that is held.
use Rattle.std.specs.Prelude.{◌≡◌, ◌≢◌, ◌≤◌, ◌==◌, ◌⊎◌, ℕ, Bool, true, false, List, [], ◌∷◌, ◌++◌, Option, None}
use Rattle.std.specs.Prelude.{Some, length, not}
use Rattle.std.specs.List.{filter, list_any}
use Rattle.hall_http.specs.Coming.{Heard}
use Rattle.hall_http.specs.Limits.{most_answered, most_connections}
use Rattle.hall_http.specs.declared.client.Step.{Step}
use Rattle.hall_http.specs.declared.client.Step.TheVariants as step
use Rattle.hall_http.specs.declared.clients.HeldRequest.{HeldRequest}

-- whether a request of the place is held
abbrev pub is_held : ℕ → List HeldRequest → Bool
is_held place held = list_any (λ one. one.place == place) held

-- After a turn of the place that ended so nothing more is held than this: none of its requests is to be answered, or
-- one is held already, or as many are held as there are places.
abbrev pub HoldsNoMore : ℕ → Step → List HeldRequest → Type 0
HoldsNoMore place how held =
    (how ≢ step.Holds) ⊎ ((is_held place held ≡ true) ⊎ (most_connections ≤ length held))

-- those that are held at other places
abbrev pub without : ℕ → List HeldRequest → List HeldRequest
without place held = filter (λ one. not (one.place == place)) held

-- those that are held still after a turn of the place that ended so: where the connection is over, its request isn't
abbrev pub kept_on : ℕ → Step → List HeldRequest → List HeldRequest
kept_on place step.Over held = without place held
kept_on place _ held = held

-- What is told of a turn of the place: no moment, where nothing more is to be held, and then the clock wasn't asked,
-- and where the connection is over its request isn't held any more. Or the one that the clock told, and a request of
-- the place, which is to be answered and wasn't held yet, is held for it behind the others.
abbrev pub HoldsOne : {C : Type 0} → (C → Option ℕ → C → Type 0) → Heard → C → List HeldRequest → C
    → List HeldRequest → Type 0
HoldsOne now_gives ((place, how), told) clock old later new =
    ((told ≡ None) × (later ≡ clock) × (new ≡ kept_on place how old) × HoldsNoMore place how old)
    ⊎ ((how ≡ step.Holds) × (is_held place old ≡ false) × (moment : Option ℕ) × (told ≡ Some moment)
    × now_gives clock moment later × (new ≡ old ++ record { place = place; moment = moment } ∷ []))

-- so many of those that are held may be taken off at a time: one at least where any are
abbrev pub IsShare : {X : Type 0} → List X → List X → Type 0
IsShare front rest = (front ≡ [] → rest ≡ []) × (length front ≤ most_answered)
