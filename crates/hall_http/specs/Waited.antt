-- For what a connection waits, and since when, by what was heard of its turns.
use Rattle.std.specs.Prelude.{◌≡◌, ◌≢◌, ◌⊎◌, ◌≤◌, ℕ, List, ◌∷◌, ◌++◌, All, Option, Some, None, get_or, length, map}
use Rattle.std.specs.Prelude.{take}
use Rattle.http_server.specs.declared.log.Log.{Log}
use Rattle.hall_http.specs.Coming.{Heard, turns_in}
use Rattle.hall_http.specs.Looks.{AreMore, IsHeardOut, Looks, time_by}
use Rattle.hall_http.specs.Places.{HasExpired, HasLeft, MayMakeRoom, counted_for, wait_in}
use Rattle.hall_http.specs.declared.client.Step.{Step}
use Rattle.hall_http.specs.declared.client.Step.TheVariants as step
use Rattle.hall_http.specs.declared.connection.Wish.TheVariants as wish
use Rattle.hall_http.specs.declared.event_loop.Look.{Look}
use Rattle.hall_http.specs.declared.places.Visit.{Visit}
use Rattle.hall_http.specs.declared.places.Visit.TheVariants.{Ready, Waiting, Searching}
use Rattle.hall_http.specs.declared.places.Wait.{Wait}
use Rattle.hall_http.specs.declared.server.Next.{Next}
use Rattle.hall_http.specs.declared.server.Next.TheVariants as next

-- all that was heard of turns, in order, and the millisecond
abbrev pub HeardAt : Type 0
HeardAt = List (Heard × ℕ)

-- after its turn it waits for this, after as many requests
abbrev pub IsWaitOf : Step → Wait → Type 0
IsWaitOf (step.Waits what requests) wait = (wait.wish ≡ what) × (wait.requests ≡ counted_for what requests)
IsWaitOf (step.Searches requests) wait = (wait.wish ≡ wish.Searching) × (wait.requests ≡ requests)
IsWaitOf step.Leaves wait = (wait.wish ≡ wish.Leaving) × (wait.requests ≡ 0)
IsWaitOf _ wait = ⊥

-- it goes on to wait for this after such a turn, or may once it has gone on
abbrev pub KeepsWait : Step → Wait → Type 0
KeepsWait step.Again wait = Unit {0}
KeepsWait step.Holds wait = Unit {0}
KeepsWait how wait = IsWaitOf how wait

-- Whoever is at the place began to wait so at its millisecond, by a turn before which it had come; and after each of
-- its turns since it waited for the same, or could go on, or was to be answered.
abbrev pub WaitsSince : (ℕ → Type 0) → HeardAt → ℕ → Wait → Type 0
WaitsSince HasCome heard place wait =
    (front rest : HeardAt) × (how : Step) × (held : Option (Option ℕ))
    × (heard ≡ front ++ (((place, how), held), wait.since) ∷ rest) × IsWaitOf how wait
    × All (λ one. one.0.0.0 ≡ place → KeepsWait one.0.0.1 wait) rest × HasCome (length front)

-- whoever stood so after its turn is known so, where it waits for this, or did before it was ready
abbrev pub IsKnownBy : Step → Wait → Visit → Type 0
IsKnownBy how wait (Ready last) = last ≡ Some wait
IsKnownBy (step.Waits what requests) wait (Waiting other) = other ≡ wait
IsKnownBy (step.Searches requests) wait (Searching other) = other ≡ wait
IsKnownBy how wait visit = ⊥

-- by what was heard of its turn last, whoever is at the place is known so
abbrev pub IsKnownLast : HeardAt → ℕ → Wait → Visit → Type 0
IsKnownLast heard place wait visit =
    (front rest : HeardAt) × (how : Step) × (held : Option (Option ℕ)) × (now : ℕ)
    × (heard ≡ front ++ (((place, how), held), now) ∷ rest) × All (λ one. one.0.0.0 ≢ place) rest
    × IsKnownBy how wait visit

-- it waits so, and is known so
abbrev pub IsKnownSince : (ℕ → Type 0) → HeardAt → ℕ → Wait → Visit → Type 0
IsKnownSince HasCome heard place wait visit =
    WaitsSince HasCome heard place wait × IsKnownLast heard place wait visit

-- places that were given, in order, each with all that had been heard by then
abbrev pub SeatedBy : Type 0
SeatedBy = List (ℕ × Log Heard ℕ)

-- whoever was given the place was when of no more turns than so many was heard
abbrev pub AreSeatedBy : SeatedBy → ℕ → ℕ → Type 0
AreSeatedBy seated place count = All (λ one. one.0 ≡ place → length one.1.items ≤ count) seated

-- whoever waits at a place, or did before it was ready, began to by what was heard, and is known by what was last
abbrev pub WaitAsHeard : SeatedBy → HeardAt → List (Option Visit) → Type 0
WaitAsHeard seated heard visits =
    (place : ℕ) (visit : Visit) (wait : Wait) → get_or visits place None ≡ Some visit → wait_in visit ≡ Some wait
    → ∥ IsKnownSince (AreSeatedBy seated place) heard place wait visit ∥₁

-- By all that was asked until now whoever is known so may go: it has left; or all that befell the sockets was heard,
-- and it has expired, or may make room.
abbrev pub MayGoNow : Visit → Looks → Type 0
MayGoNow visit looks =
    HasLeft visit (time_by looks).0
    ⊎ (IsHeardOut looks × (HasExpired visit (time_by looks).0 ⊎ MayMakeRoom visit (time_by looks).0))

-- whoever is at the place, and had come there before so many turns, has waited so long, by what was heard, that it may
-- go now
abbrev pub HasWaited : (ℕ → Type 0) → HeardAt → Looks → ℕ → Type 0
HasWaited HasCome heard looks place =
    (visit : Visit) × (wait : Wait) × IsKnownSince HasCome heard place wait visit × MayGoNow visit looks

-- whoever goes has; of anything else that is next nothing is said
abbrev pub GoesRightly : {P : Type 0} → (ℕ → ℕ → Type 0) → Next P → HeardAt → Looks → Type 0
GoesRightly HasCome (next.Gone place) heard looks = ∥ HasWaited (HasCome place) heard looks place ∥₁
GoesRightly HasCome _ heard looks = Unit {0}

-- so it is where anything is next
abbrev pub MayGoRightly : {P : Type 0} → (ℕ → ℕ → Type 0) → Option (Next P) → HeardAt → Looks → Type 0
MayGoRightly HasCome (Some said) heard looks = GoesRightly HasCome said heard looks
MayGoRightly HasCome None heard looks = Unit {0}

-- things that were next, in order, each with all that had been asked by then
abbrev pub NextsBy : Type 0 → Type 0
NextsBy P = List (Next P × Log Look ℕ)

-- how many of these are turns
abbrev pub turns_by : {P : Type 0} → NextsBy P → ℕ
turns_by nexts = turns_in (map (λ one. one.0) nexts)

-- whoever came to the place, by what was next, had when no more than so many had had turns
abbrev pub CameBy : {P : Type 0} → NextsBy P → ℕ → ℕ → Type 0
CameBy {P} nexts place count =
    (front rest : NextsBy P) (peer : P) (looks : Log Look ℕ)
    → nexts ≡ front ++ (next.Newcomer place peer, looks) ∷ rest → turns_by front ≤ count

-- whoever came to a place, by what was next, was given it by then
abbrev pub ComeAsSeated : {P : Type 0} → NextsBy P → SeatedBy → Type 0
ComeAsSeated nexts seated = (place count : ℕ) → AreSeatedBy seated place count → CameBy nexts place count

-- this was heard after so much
abbrev pub IsHeardAfter : HeardAt → ℕ → Heard × ℕ → Type 0
IsHeardAfter heard count one = (front rest : HeardAt) × (heard ≡ front ++ one ∷ rest) × (length front ≡ count)

-- What was next, what was heard of turns, and what was asked. Nothing was next before all turns before it were heard.
-- Whoever went had come before, and had waited so long, by what was heard and asked until then. What was heard of a
-- turn was at the millisecond that had counted when that was next. And what had been asked by then is a first part of
-- what had been later, and of what was asked in all.
pub record AreSaidRightly {P : Type 0} (nexts : NextsBy P) (heard : HeardAt) (asked : Looks) : Type 0 where
  pub before : (front rest : NextsBy P) (one : Next P × Log Look ℕ) → nexts ≡ front ++ one ∷ rest
      → turns_by front ≤ length heard
  pub go : (front rest : NextsBy P) (one : Next P × Log Look ℕ) → nexts ≡ front ++ one ∷ rest
      → GoesRightly (CameBy front) one.0 (take (turns_by front) heard) one.1.items
  pub timed : (front rest : NextsBy P) (place : ℕ) (looks : Log Look ℕ) (one : Heard × ℕ)
      → nexts ≡ front ++ (next.Turn place, looks) ∷ rest → IsHeardAfter heard (turns_by front) one
      → one.1 ≡ (time_by looks.items).0
  pub more : (front rest : NextsBy P) (one : Next P × Log Look ℕ) → nexts ≡ front ++ one ∷ rest
      → All (λ later. AreMore one.1.items later.1.items) rest × AreMore one.1.items asked
  pub last : (front rest : NextsBy P) (place : ℕ) (looks : Log Look ℕ)
      → nexts ≡ front ++ (next.Turn place, looks) ∷ rest → length heard ≤ turns_by front → looks.items ≡ asked
