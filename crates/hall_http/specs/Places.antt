-- How many places are taken, and what is known of those who are there.
use Rattle.std.specs.Prelude.{◌≡◌, ◌≤◌, ◌+◌, ◌-◌, ◌^◌, ◌⊎◌, ℕ, min, true, List, Option, Some, None, sum_by}
use Rattle.hall_http.specs.Limits.{least_stay}
use Rattle.hall_http.specs.declared.connection.Wish.{Wish}
use Rattle.hall_http.specs.declared.connection.Wish.TheVariants as wish
use Rattle.hall_http.specs.declared.places.LetGo.{LetGo}
use Rattle.hall_http.specs.declared.places.Visit.{Visit}
use Rattle.hall_http.specs.declared.places.Visit.TheVariants.{Ready, Waiting, Searching}
use Rattle.hall_http.specs.declared.places.Wait.{Wait}

-- 1 where a connection is at a place, and 0 where none is
abbrev pub is_taken : Option Visit → ℕ
is_taken (Some visit) = 1
is_taken None = 0

-- at how many of these places a connection is
abbrev pub taken : List (Option Visit) → ℕ
taken visits = sum_by is_taken visits

-- for how many milliseconds a connection may wait for this
abbrev pub patience_of : Wish → ℕ
patience_of wish.Leaving = 2000
patience_of _ = 10000

-- the millisecond at which the patience of a wait ends
abbrev pub until_of : Wait → ℕ
until_of wait = min (wait.since + patience_of wait.wish) (2 ^ 64 - 1)

-- after so many requests, which don't count any more where it has ended
abbrev pub counted_for : Wish → ℕ → ℕ
counted_for wish.Leaving requests = 0
counted_for _ requests = requests

-- what a connection waited for last, if it did
abbrev pub wait_in : Visit → Option Wait
wait_in (Ready last) = last
wait_in (Waiting wait) = Some wait
wait_in (Searching wait) = Some wait

-- it has ended, and goes on, and bytes were read off as long as they may be
abbrev pub HasLeft : Visit → ℕ → Type 0
HasLeft (Ready (Some wait)) now = (wait.wish ≡ wish.Leaving) × (wait.since + patience_of wait.wish ≤ now)
HasLeft _ now = ⊥

-- it has waited for the other side as long as it may, or has left
abbrev pub HasExpired : Visit → ℕ → Type 0
HasExpired (Waiting wait) now = wait.since + patience_of wait.wish ≤ now
HasExpired visit now = HasLeft visit now

-- it may make room for a newcomer: it has waited for a second for its next request, or its request for a search; or it
-- has ended
abbrev pub MayMakeRoom : Visit → ℕ → Type 0
MayMakeRoom (Waiting wait) now =
    ((wait.wish ≡ wish.Idle) × (wait.since + least_stay ≤ now)) ⊎ (wait.wish ≡ wish.Leaving)
MayMakeRoom (Searching wait) now = wait.since + least_stay ≤ now
MayMakeRoom (Ready last) now = ⊥

-- the millisecond at which the patience of one that may make room ends; and those whose requests need more work stand
-- behind all others
abbrev pub goes_at : Visit → ℕ
goes_at (Waiting wait) = until_of wait
goes_at (Searching wait) = min (until_of wait + 2 ^ 62) (2 ^ 64 - 1)
goes_at (Ready last) = 0

-- a connection that was let go at the millisecond had expired; or it made room, where all places were taken
abbrev pub IsLetGo : LetGo × ℕ → Type 0
IsLetGo one = HasExpired one.0.visit one.1 ⊎ ((one.0.is_full ≡ true) × MayMakeRoom one.0.visit one.1)
