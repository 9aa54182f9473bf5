-- Who came to the places, and who has gone.
use Rattle.std.specs.Prelude.{◌≡◌, ◌≢◌, ◌<◌, ◌≤◌, ◌+◌, ◌==◌, ◌⊎◌, ℕ, Bool, true, false, List, [], ◌∷◌, ◌++◌}
use Rattle.std.specs.Prelude.{Option, Some, None, flat_map, get_or, is_some, length, map, set}
use Rattle.mio.specs.declared.net.stream.TcpStream.{TcpStream}
use Rattle.hall_http.specs.Coming.{Heard, Nexts}
use Rattle.hall_http.specs.Fair.{turned}
use Rattle.hall_http.specs.Limits.{most_connections}
use Rattle.hall_http.specs.Queue.{ComeBehind, GoesAhead, called, waits_in}
use Rattle.hall_http.specs.Places.{HasExpired, MayMakeRoom, counted_for, goes_at, taken, wait_in}
use Rattle.hall_http.specs.declared.client.Step.{Step}
use Rattle.hall_http.specs.declared.client.Step.TheVariants as step
use Rattle.hall_http.specs.declared.connection.Wish.{Wish}
use Rattle.hall_http.specs.declared.connection.Wish.TheVariants as wish
use Rattle.hall_http.specs.declared.places.LetGo.{LetGo}
use Rattle.hall_http.specs.declared.places.Places.{Places}
use Rattle.hall_http.specs.declared.places.Visit.{Visit}
use Rattle.hall_http.specs.declared.places.Visit.TheVariants.{Ready, Waiting, Searching}
use Rattle.hall_http.specs.declared.places.Wait.{Wait}
use Rattle.hall_http.specs.declared.queue.Queue.{Queue}
use Rattle.hall_http.specs.declared.server.Next.{Next}
use Rattle.hall_http.specs.declared.server.Next.TheVariants as next

-- there are 500 places, all of them free, none was given yet, nobody was lost and nothing was heard; so many may come
pub record AreFresh (connections : ℕ) (places : Places) : Type 0 where
  pub long : length places.visits.items ≡ most_connections
  pub free : taken places.visits.items ≡ 0
  pub seated : places.seated.items ≡ []
  pub lost : places.lost.items ≡ []
  pub let_go : places.let_go.items ≡ []
  pub heard : places.heard.items ≡ []
  pub elapsed : places.elapsed ≡ 0
  pub most : places.most ≡ connections

-- no place was given meanwhile, and none was free again; nobody was let go, no more or fewer may come in all, and
-- nothing was heard of a turn
abbrev pub AreStill : Places → Places → Type 0
AreStill old new =
    (new.seated.items ≡ old.seated.items) × (new.most ≡ old.most) × (new.let_go.items ≡ old.let_go.items)
    × (new.heard.items ≡ old.heard.items) × (new.freed.items ≡ old.freed.items)

-- they are still, and no time counted meanwhile
abbrev pub IsUnheard : Places → Places → Type 0
IsUnheard old new = AreStill old new × (new.elapsed ≡ old.elapsed)

-- no other place was touched than this
abbrev pub TouchesOnly : Places → ℕ → Places → Type 0
TouchesOnly old place new = (known : Option Visit) × (new.visits.items ≡ set old.visits.items place known)

-- one more place is free again, at this millisecond: this one
abbrev pub FreesOne : Places → ℕ → Places → Type 0
FreesOne old place new = new.freed.items ≡ old.freed.items ++ (place, old.elapsed) ∷ []

-- the place is free again where one was there; but no place was given, nobody was let go, no more or fewer may come in
-- all, nothing was heard of a turn, and no time counted meanwhile
abbrev pub Frees : Places → ℕ → Places → Type 0
Frees old place new =
    (new.seated.items ≡ old.seated.items) × (new.most ≡ old.most) × (new.let_go.items ≡ old.let_go.items)
    × (new.heard.items ≡ old.heard.items) × (new.elapsed ≡ old.elapsed)
    × (is_some (get_or old.visits.items place None) ≡ true → FreesOne old place new)
    × (is_some (get_or old.visits.items place None) ≡ false → new.freed.items ≡ old.freed.items)

-- who stands so after its turn leaves its place, where it was there; and else no place is free again
abbrev pub LeavesBy : Step → Places → ℕ → Places → Type 0
LeavesBy step.Over old place new = is_some (get_or old.visits.items place None) ≡ true → FreesOne old place new
LeavesBy _ old place new = new.freed.items ≡ old.freed.items

-- this was heard of a turn, at this millisecond, and who left its place by it has; else they are still
abbrev pub HasHeard : Places → Heard → Places → Type 0
HasHeard old one new =
    (new.seated.items ≡ old.seated.items) × (new.most ≡ old.most) × (new.let_go.items ≡ old.let_go.items)
    × (new.heard.items ≡ old.heard.items ++ (one, old.elapsed) ∷ []) × (new.elapsed ≡ old.elapsed)
    × LeavesBy one.0.1 old one.0.0 new

-- all that they heard of turns, in order
abbrev pub heard_in : Places → List Heard
heard_in places = map (λ one. one.0) places.heard.items

-- the place is free, and one more may be here
abbrev pub IsOpen : Places → ℕ → Type 0
IsOpen places place =
    (place < length places.visits.items) × (get_or places.visits.items place None ≡ None) × (places.here < places.left)

-- this newcomer was lost, and nobody's place was touched
abbrev pub LosesOne : Places → TcpStream → Places → Type 0
LosesOne old stream new =
    (new.lost.items ≡ old.lost.items ++ (stream, old.elapsed) ∷ []) × (new.freed.items ≡ old.freed.items)
    × (new.visits.items ≡ old.visits.items)

-- As many as may come have come, and have gone: each that was given a place has left it, and the others couldn't be set
-- up. All places are free.
pub record HaveAllGone (places : Places) : Type 0 where
  pub came : length places.seated.items + length places.lost.items ≡ places.most
  pub left : length places.freed.items ≡ length places.seated.items
  pub free : taken places.visits.items ≡ 0

-- whether all places are taken
abbrev pub are_full : Places → Bool
are_full places = places.here == length places.visits.items

-- who is at the place is known so
abbrev pub StandsAt : Places → ℕ → (Visit → Type 0) → Type 0
StandsAt places place Is =
    (visit : Visit) × (get_or places.visits.items place None ≡ Some visit) × Is visit

-- the connection at the place may make room, and this is when its patience ends
abbrev pub MayGoBy : Places → ℕ → ℕ → Type 0
MayGoBy places place until =
    StandsAt places place (λ visit. MayMakeRoom visit places.elapsed × (until ≡ goes_at visit))

-- the patience of the connection at the place ends first, of those that may make room
abbrev pub GoesFirst : Places → ℕ → Type 0
GoesFirst places place =
    (first : ℕ) × MayGoBy places place first
    × ((other until : ℕ) → MayGoBy places other until → first ≤ until)

-- the connection at the place has expired; or all places are taken, and it is the first to make room
abbrev pub MayLetGo : Places → ℕ → Type 0
MayLetGo places place =
    StandsAt places place (λ visit. HasExpired visit places.elapsed)
    ⊎ ((are_full places ≡ true) × GoesFirst places place)

-- one was let go, of this place
abbrev pub LetsGo : Places → ℕ → Places → Type 0
LetsGo old place new =
    (one : LetGo × ℕ) × (one.0.place ≡ place) × (new.let_go.items ≡ old.let_go.items ++ one ∷ [])

-- what was waited for last is this, after as many requests
abbrev pub WaitedFor : Option Visit → Wish → ℕ → Wait → Type 0
WaitedFor old what requests last =
    (old ≡ Some (Ready (Some last))) × (last.wish ≡ what) × (last.requests ≡ requests)

-- So it waits now: where it waited last for the same, after as many requests, that wait goes on; and else it begins at
-- this millisecond.
abbrev pub WaitsFrom : Option Visit → Wish → ℕ → ℕ → Wait → Type 0
WaitsFrom old what requests now wait =
    WaitedFor old what requests wait
    ⊎ (((last : Wait) → ¬ (WaitedFor old what requests last))
    × (wait ≡ record { wish = what; requests = requests; since = now }))

-- whoever was at a place is ready, and what it waited for last is still known
abbrev pub Wakes : Option Visit → Option Visit → Type 0
Wakes None new = new ≡ None
Wakes (Some old) new = new ≡ Some (Ready (wait_in old))

-- what is known of a connection that stood so after its turn, at this millisecond, of which this was known before:
-- where it can go on, or its request is to be answered, that it is ready, and what it waited for last
abbrev pub IsHeard : Option Visit → Step → ℕ → Visit → Type 0
IsHeard old step.Again now visit = Wakes old (Some visit)
IsHeard old step.Holds now visit = Wakes old (Some visit)
IsHeard old step.Leaves now (Ready (Some wait)) = WaitsFrom old wish.Leaving 0 now wait
IsHeard old (step.Waits what requests) now (Waiting wait) =
    WaitsFrom old what (counted_for what requests) now wait
IsHeard old (step.Searches requests) now (Searching wait) = WaitsFrom old wish.Searching requests now wait
IsHeard old step now visit = ⊥

-- the place of one that goes
abbrev pub gone_at : {P : Type 0} → Next P → List ℕ
gone_at (next.Gone place) = place ∷ []
gone_at _ = []

-- those that go, of all that was to be done, are those that the places let go, in this order
abbrev pub AreLetGo : {P : Type 0} → Nexts P → Places → Type 0
AreLetGo nexts places = flat_map gone_at nexts ≡ map (λ one. one.0.place) places.let_go.items

-- those that had their turns, of all that was to be done, are those that were called in this line, in this order
abbrev pub AreCalled : {P : Type 0} → Nexts P → Queue → Type 0
AreCalled nexts ready = turned nexts ≡ called ready

-- Whoever has a turn was called, and a newcomer waits in line. Whoever is let go may have stood in it, as the first;
-- and else nobody goes from it, and nobody was called.
abbrev pub CallsOne : {P : Type 0} → Queue → Next P → Queue → Type 0
CallsOne old (next.Turn place) new =
    (called new ≡ called old ++ place ∷ []) × GoesAhead old place new × (place < most_connections)
CallsOne old (next.Newcomer place peer) new = ComeBehind old new × (waits_in new place ≡ true)
CallsOne old (next.Gone place) new = ComeBehind old new ⊎ ((called new ≡ called old) × GoesAhead old place new)
CallsOne old _ new = ComeBehind old new

-- so it is where anything is to be done; else nobody was called
abbrev pub MayCall : {P : Type 0} → Queue → Option (Next P) → Queue → Type 0
MayCall old (Some said) new = CallsOne old said new
MayCall old None new = ComeBehind old new

-- whoever is ready at the place waits in line
abbrev pub IsReadyInLine : Places → ℕ → Queue → Type 0
IsReadyInLine places place ready =
    (last : Option Wait) → get_or places.visits.items place None ≡ Some (Ready last) → waits_in ready place ≡ true

-- after its turn whoever is ready waits in line, unless its request is held
abbrev pub IsInLine : Places → ℕ → Step → Queue → Type 0
IsInLine places place how ready = how ≢ step.Holds → IsReadyInLine places place ready
