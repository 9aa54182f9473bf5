-- Who has turns while another waits for one, by what the sockets said and heard.
use Rattle.std.specs.Prelude.{◌≡◌, ◌≢◌, ◌≤◌, ◌<◌, ◌==◌, ℕ, List, [], ◌∷◌, ◌++◌, All, Option, flat_map, length, take}
use Rattle.std.specs.List.{IsDistinct}
use Rattle.hall_http.specs.Coming.{Heard, Nexts, turns_in}
use Rattle.hall_http.specs.Limits.{most_connections}
use Rattle.hall_http.specs.declared.client.Step.{Step}
use Rattle.hall_http.specs.declared.client.Step.TheVariants as step
use Rattle.hall_http.specs.declared.server.Next.{Next}
use Rattle.hall_http.specs.declared.server.Next.TheVariants as next

-- the place of one that has its turn
abbrev pub turn_at : {P : Type 0} → Next P → List ℕ
turn_at (next.Turn place) = place ∷ []
turn_at _ = []

-- the places of those that had turns, in order
abbrev pub turned : {P : Type 0} → Nexts P → List ℕ
turned nexts = flat_map turn_at nexts

-- no place is among these twice
abbrev pub AreDistinctPlaces : List ℕ → Type 0
AreDistinctPlaces places = IsDistinct (λ one other. one == other) places

-- of the turn after so many others it was heard that whoever was at the place stood so
abbrev pub WasHeard : List Heard → ℕ → ℕ × Step → Type 0
WasHeard heard count told =
    (front rest : List Heard) × (held : Option (Option ℕ)) × (heard ≡ front ++ (told, held) ∷ rest)
    × (length front ≡ count)

-- From this on, which was next after so many turns, whoever is at the place can go on at once: a newcomer; or one whose
-- turn this was, where it was heard that it can.
abbrev pub CanGoOn : {P : Type 0} → List Heard → ℕ → Next P → ℕ → Type 0
CanGoOn heard turns (next.Newcomer other peer) place = other ≡ place
CanGoOn heard turns (next.Turn other) place = (other ≡ place) × WasHeard heard turns (place, step.Again)
CanGoOn heard turns _ place = ⊥

-- by this the place has no turn, and whoever is there isn't let go
abbrev pub PassesBy : {P : Type 0} → ℕ → Next P → Type 0
PassesBy place (next.Turn other) = other ≢ place
PassesBy place (next.Gone other) = other ≢ place
PassesBy place _ = Unit {0}

-- Nobody has two turns while another waits for one: from where somebody can go on at once until its turn, or until it
-- is let go, no two turns are of one place.
abbrev pub NobodyTwice : {P : Type 0} → Nexts P → List Heard → Type 0
NobodyTwice {P} nexts heard =
    (front rest : Nexts P) (one : Next P) (place count : ℕ) → nexts ≡ front ++ one ∷ rest
    → CanGoOn heard (turns_in front) one place → All (PassesBy place) (take count rest)
    → AreDistinctPlaces (turned (take count rest))

-- Whoever is at the place stands in this line, and nobody is ahead who had a turn among these, or is twice there.
abbrev pub StandsInLine : {P : Type 0} → Nexts P → ℕ → List ℕ → Type 0
StandsInLine rest place waiting =
    (ahead behind : List ℕ) × (waiting ≡ ahead ++ place ∷ behind) × AreDistinctPlaces (turned rest ++ ahead)

-- Nobody had two turns while another waited for one; whoever can go on now waits in this line, behind none that had a
-- turn since; and after a turn of which nothing was heard yet nothing was next.
pub record Owes {P : Type 0} (nexts : Nexts P) (heard : List Heard) (waiting : List ℕ) : Type 0 where
  pub fair : NobodyTwice nexts heard
  pub stands : (front rest : Nexts P) (one : Next P) (place : ℕ) → nexts ≡ front ++ one ∷ rest
      → CanGoOn heard (turns_in front) one place → All (PassesBy place) rest
      → StandsInLine rest place waiting
  pub unheard : (front rest : Nexts P) (place : ℕ) → nexts ≡ front ++ next.Turn place ∷ rest
      → length heard ≤ turns_in front → (rest ≡ []) × (place < most_connections)
