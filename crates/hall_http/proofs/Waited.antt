-- For what a connection waits, and since when, after one more turn.
use Rattle.std.proofs.Common.{◌≡◌, ◌≢◌, ◌∙◌, sym, ap, subst, refl, arith, ℕ, ◌+◌, ◌<◌, ◌≤◌, inl, inr, ◌⊎◌, List, []}
use Rattle.std.proofs.Common.{true, ◌∷◌, ◌++◌, length, get_or, set, append_assoc, Option, Some, None, map, take}
use Rattle.std.proofs.Common.{length-append}
use Rattle.std.specs.Prelude.{All, is_some}
use Rattle.std.proofs.Math.Logic.{∥∥₁_elim, ∥∥₁_map, ∥∥₁_prop}
use Rattle.std.proofs.lemmas.Bool.Decides.{eqb_tells, leb_tells}
use Rattle.std.proofs.lemmas.List.{append-nil, get_or-set_other, get_or-set_same, get_or_past, length-set}
use Rattle.std.proofs.lemmas.List.{length_push, map-append, take-append-le, take_all}
use Rattle.std.proofs.lemmas.List.Elements.{All-nil, All-pop, All-push}
use Rattle.std.proofs.lemmas.List.Sums.{fold-append, sum_by-set}
use Rattle.std.proofs.lemmas.Option.{same_Some}
use Rattle.http_server.specs.declared.log.Log.{Log}
use Rattle.hall_http.specs.Coming.{Heard, IsFreshPeer, newcomer, turn, turns_in}
use Rattle.hall_http.specs.Socket.{traffic_of}
use Rattle.hall_http.specs.Looks.{AreMore, IsHeardOut, Looks, after_look, time_by}
use Rattle.hall_http.specs.declared.event_loop.Look.{Look}
use Rattle.hall_http.specs.declared.places.Places.{Places}
use Rattle.hall_http.specs.Places.{HasExpired, HasLeft, MayMakeRoom, counted_for, is_taken, taken, wait_in}
use Rattle.hall_http.specs.Seats.{AreStill, IsHeard, MayLetGo, StandsAt, Wakes, WaitedFor, WaitsFrom}
use Rattle.hall_http.specs.EventLoop.{FreesPlace, GivesPlace, HandsOut, LetsOneGo}
use Rattle.hall_http.specs.Waited.{AreSaidRightly, AreSeatedBy, CameBy, ComeAsSeated, GoesRightly, HasWaited, HeardAt}
use Rattle.hall_http.specs.Waited.{IsHeardAfter, IsKnownBy, IsKnownLast, IsKnownSince, IsWaitOf, KeepsWait}
use Rattle.hall_http.specs.Waited.{MayGoNow, NextsBy, SeatedBy, WaitAsHeard}
use Rattle.hall_http.specs.Waited.{WaitsSince, turns_by}
use Rattle.hall_http.specs.declared.socket.Socket.{Socket}
use Rattle.hall_http.specs.declared.client.Step.{Step}
use Rattle.hall_http.specs.declared.client.Step.TheVariants as step
use Rattle.hall_http.specs.declared.connection.Wish.{Wish}
use Rattle.hall_http.specs.declared.connection.Wish.TheVariants as wish
use Rattle.hall_http.specs.declared.server.Next.{Next}
use Rattle.hall_http.specs.declared.server.Next.TheVariants as next
use Rattle.hall_http.specs.declared.places.Visit.{Visit}
use Rattle.hall_http.specs.declared.places.Visit.TheVariants.{Ready, Waiting, Searching}
use Rattle.hall_http.specs.declared.places.Wait.{Wait}
use Rattle.hall_http.proofs.Fair.{last_or, turns_rest}
use Rattle.hall_http.proofs.Room.{goes_there}

-- it waits so still after one more turn, of another place or by which it goes on to
since_more : (HasCome : ℕ → Type 0) (heard : HeardAt) (place : ℕ) (wait : Wait) (one : Heard × ℕ)
    → (one.0.0.0 ≡ place → KeepsWait one.0.0.1 wait) → WaitsSince HasCome heard place wait
    → WaitsSince HasCome (heard ++ one ∷ []) place wait
since_more HasCome heard place wait one keeps (front, rest, how, held, is, begins, all, came) = (
  front,
  rest ++ one ∷ [],
  how,
  held,
  ap (λ xs. xs ++ one ∷ []) is ∙ append_assoc front (_ ∷ rest) (one ∷ []),
  begins,
  All-push (λ (one : Heard × ℕ). one.0.0.0 ≡ place → KeepsWait one.0.0.1 wait) rest one all keeps,
  came,
)

-- it begins to wait so by this turn
since_now : (HasCome : ℕ → Type 0) (heard : HeardAt) (place : ℕ) (how : Step) (held : Option (Option ℕ)) (wait : Wait)
    (now : ℕ) → wait.since ≡ now → IsWaitOf how wait → HasCome (length heard)
    → WaitsSince HasCome (heard ++ (((place, how), held), now) ∷ []) place wait
since_now HasCome heard place how held wait now at begins came = (
  heard,
  [],
  how,
  held,
  ap (λ n. heard ++ (((place, how), held), n) ∷ []) (sym at),
  begins,
  All-nil (λ (one : Heard × ℕ). one.0.0.0 ≡ place → KeepsWait one.0.0.1 wait),
  came,
)

module _ (HasCome : ℕ → Type 0) (heard : HeardAt) (place : ℕ) (held : Option (Option ℕ)) (now : ℕ)
    (old : Option Visit) (came : HasCome (length heard))
    (before : (visit : Visit) (wait : Wait) → old ≡ Some visit → wait_in visit ≡ Some wait
    → ∥ WaitsSince HasCome heard place wait ∥₁) where
  -- where it waits for this after its turn: on, or from now on
  waits_from : (how : Step) (what : Wish) (requests : ℕ) (wait : Wait) → WaitsFrom old what requests now wait
      → ((other : Wait) → other.wish ≡ what → other.requests ≡ requests → IsWaitOf how other)
      → ((other : Wait) → IsWaitOf how other → KeepsWait how other)
      → ∥ WaitsSince HasCome (heard ++ (((place, how), held), now) ∷ []) place wait ∥₁
  waits_from how what requests wait (inl (was, same, also)) is keeps =
      ∥∥₁_map (before (Ready (Some wait)) wait was refl)
      (λ since. since_more HasCome heard place wait (((place, how), held), now)
      (λ here. keeps wait (is wait same also)) since)
  waits_from how what requests wait (inr (not, new)) is keeps =
      ∣ since_now HasCome heard place how held wait now (ap (λ w. w.since) new)
      (is wait (ap (λ w. w.wish) new) (ap (λ w. w.requests) new)) came ∣₁

  -- where it only could go on, or was to be answered
  waits_on : (how : Step) (visit : Visit) (wait : Wait) → Wakes old (Some visit) → wait_in visit ≡ Some wait
      → ((other : Wait) → KeepsWait how other)
      → ∥ WaitsSince HasCome (heard ++ (((place, how), held), now) ∷ []) place wait ∥₁
  waits_on how visit wait wakes is keeps = from old refl wakes
    where
      from : (known : Option Visit) → known ≡ old → Wakes known (Some visit)
          → ∥ WaitsSince HasCome (heard ++ (((place, how), held), now) ∷ []) place wait ∥₁
      from None same woken = absurd cc
      from (Some was) same woken =
          let still : wait_in was ≡ Some wait =
          ap wait_in (same_Some (Ready (wait_in was)) visit (sym woken)) ∙ is in
          ∥∥₁_map (before was wait (sym same) still)
          (λ since. since_more HasCome heard place wait (((place, how), held), now) (λ here. keeps wait) since)

  -- what it waits for after its turn it does by what was heard
  pub waits_here : (how : Step) (visit : Visit) (wait : Wait) → IsHeard old how now visit → wait_in visit ≡ Some wait
      → ∥ WaitsSince HasCome (heard ++ (((place, how), held), now) ∷ []) place wait ∥₁
  waits_here step.Again visit wait known is = waits_on step.Again visit wait known is (λ other. tt)
  waits_here step.Holds visit wait known is = waits_on step.Holds visit wait known is (λ other. tt)
  waits_here step.Leaves (Ready (Some last)) wait known is =
      subst (λ w. ∥ WaitsSince HasCome (heard ++ (((place, step.Leaves), held), now) ∷ []) place w ∥₁)
      (same_Some last wait is)
      (waits_from step.Leaves wish.Leaving 0 last known (λ other one two. (one, two)) (λ other begins. begins))
  waits_here (step.Waits what requests) (Waiting last) wait known is =
      subst (λ w. ∥ WaitsSince HasCome (heard ++ (((place, step.Waits what requests), held), now) ∷ []) place w ∥₁)
      (same_Some last wait is)
      (waits_from (step.Waits what requests) what (counted_for what requests) last known (λ other one two. (one, two))
      (λ other begins. begins))
  waits_here (step.Searches requests) (Searching last) wait known is =
      subst (λ w. ∥ WaitsSince HasCome (heard ++ (((place, step.Searches requests), held), now) ∷ []) place w ∥₁)
      (same_Some last wait is)
      (waits_from (step.Searches requests) wish.Searching requests last known (λ other one two. (one, two))
      (λ other begins. begins))
  waits_here step.Leaves (Ready None) wait known is = absurd known
  waits_here step.Leaves (Waiting last) wait known is = absurd known
  waits_here step.Leaves (Searching last) wait known is = absurd known
  waits_here (step.Waits what requests) (Ready last) wait known is = absurd known
  waits_here (step.Waits what requests) (Searching last) wait known is = absurd known
  waits_here (step.Searches requests) (Ready last) wait known is = absurd known
  waits_here (step.Searches requests) (Waiting last) wait known is = absurd known
  waits_here step.Over visit wait known is = absurd known

-- by what was heard last it is known so still once something was heard of another's turn
known_more : (heard : HeardAt) (place : ℕ) (wait : Wait) (visit : Visit) (one : Heard × ℕ) → one.0.0.0 ≢ place
    → IsKnownLast heard place wait visit → IsKnownLast (heard ++ one ∷ []) place wait visit
known_more heard place wait visit one off (front, rest, how, held, now, is, apart, by) = (
  front,
  rest ++ one ∷ [],
  how,
  held,
  now,
  ap (λ xs. xs ++ one ∷ []) is ∙ append_assoc front (_ ∷ rest) (one ∷ []),
  All-push (λ (one : Heard × ℕ). one.0.0.0 ≢ place) rest one apart off,
  by,
)

-- and by this
known_now : (heard : HeardAt) (place : ℕ) (how : Step) (held : Option (Option ℕ)) (now : ℕ) (wait : Wait)
    (visit : Visit) → IsKnownBy how wait visit
    → IsKnownLast (heard ++ (((place, how), held), now) ∷ []) place wait visit
known_now heard place how held now wait visit by =
    (heard, [], how, held, now, refl, All-nil (λ (one : Heard × ℕ). one.0.0.0 ≢ place), by)

only_ready : (old : Option Visit) (visit : Visit) → Wakes old (Some visit) → (last : Option Wait) × (visit ≡ Ready last)
only_ready None visit wakes = absurd cc
only_ready (Some was) visit wakes = (wait_in was, same_Some visit (Ready (wait_in was)) wakes)

known_by : (old : Option Visit) (how : Step) (now : ℕ) (visit : Visit) (wait : Wait) → IsHeard old how now visit
    → wait_in visit ≡ Some wait → IsKnownBy how wait visit
known_by old how now (Ready last) wait known is = is
known_by old (step.Waits what requests) now (Waiting other) wait known is = same_Some other wait is
known_by old (step.Searches requests) now (Searching other) wait known is = same_Some other wait is
known_by old step.Again now (Waiting other) wait known is =
    let clash = (only_ready old (Waiting other) known).1 in absurd cc
known_by old step.Again now (Searching other) wait known is =
    let clash = (only_ready old (Searching other) known).1 in absurd cc
known_by old step.Holds now (Waiting other) wait known is =
    let clash = (only_ready old (Waiting other) known).1 in absurd cc
known_by old step.Holds now (Searching other) wait known is =
    let clash = (only_ready old (Searching other) known).1 in absurd cc
known_by old step.Leaves now (Waiting other) wait known is = absurd known
known_by old step.Leaves now (Searching other) wait known is = absurd known
known_by old step.Over now (Waiting other) wait known is = absurd known
known_by old step.Over now (Searching other) wait known is = absurd known
known_by old (step.Waits what requests) now (Searching other) wait known is = absurd known
known_by old (step.Searches requests) now (Waiting other) wait known is = absurd known

-- so it is of all once something more was heard, or another place was given, and this is known at one place
pub as_heard : (seated sat : SeatedBy) (heard then : HeardAt) (visits : List (Option Visit)) (place : ℕ)
    (known : Option Visit)
    → ((other : ℕ) (wait : Wait) (visit : Visit) → other ≢ place
    → IsKnownSince (AreSeatedBy seated other) heard other wait visit
    → IsKnownSince (AreSeatedBy sat other) then other wait visit)
    → ((visit : Visit) (wait : Wait) → known ≡ Some visit → wait_in visit ≡ Some wait
    → ∥ IsKnownSince (AreSeatedBy sat place) then place wait visit ∥₁)
    → WaitAsHeard seated heard visits → WaitAsHeard sat then (set visits place known)
as_heard seated sat heard then visits place known others here all other visit wait at is =
    elim (eqb_tells other place) [
      | inr apart ↦
          ∥∥₁_map (all other visit wait (sym (get_or-set_other visits place other known None apart.1) ∙ at) is)
          (others other wait visit apart.1)
      | inl same ↦ elim (leb_tells (length visits) place) [
        | inl past ↦
            let none = get_or_past (set visits place known) other None
            (omega (arith, past.1, same.1, length-set visits place known)) in
            let clash = sym none ∙ at in absurd cc
        | inr near ↦
            let there : known ≡ Some visit =
            sym (get_or-set_same visits place known None near.1)
            ∙ subst (λ n. get_or (set visits place known) n None ≡ Some visit) same.1 at in
            subst (λ n. ∥ IsKnownSince (AreSeatedBy sat n) then n wait visit ∥₁) (sym same.1)
            (here visit wait there is)
      ]
    ]

-- also where one place has nobody any more
pub as_heard_none : (seated : SeatedBy) (heard : HeardAt) (visits : List (Option Visit)) (place : ℕ)
    → WaitAsHeard seated heard visits → WaitAsHeard seated heard (set visits place None)
as_heard_none seated heard visits place all =
    as_heard seated seated heard heard visits place None (λ other wait visit apart known. known)
    (λ visit wait none is. let clash : None ≡ Some visit = none in absurd cc) all

-- and where whoever is there has come, and has waited for nothing
pub as_heard_new : (seated : SeatedBy) (heard : HeardAt) (log : Log Heard ℕ) (visits : List (Option Visit)) (place : ℕ)
    → WaitAsHeard seated heard visits
    → WaitAsHeard (seated ++ (place, log) ∷ []) heard (set visits place (Some (Ready None)))
as_heard_new seated heard log visits place all =
    as_heard seated (seated ++ (place, log) ∷ []) heard heard visits place (Some (Ready None))
    (λ other wait visit apart ((front, rest, how, held, is, begins, keeps, came), last). (
      (
        front,
        rest,
        how,
        held,
        is,
        begins,
        keeps,
        All-push (λ (one : ℕ × Log Heard ℕ). one.0 ≡ other → length one.1.items ≤ length front) seated (place, log)
            came (λ same. absurd (apart (sym same))),
      ),
      last,
    ))
    (λ visit wait same is.
    let clash : None ≡ Some wait = ap wait_in (same_Some (Ready None) visit same) ∙ is in absurd cc) all

taken_by : (known : Option Visit) → is_some known ≡ true → is_taken known ≡ 1
taken_by None there = absurd cc
taken_by (Some visit) there = refl

-- somebody is at as many places where somebody else is known at one of them
pub taken_same : (visits : List (Option Visit)) (place : ℕ) (now : Visit) → place < length visits
    → is_some (get_or visits place None) ≡ true → taken (set visits place (Some now)) ≡ taken visits
taken_same visits place now within there =
    omega (
      arith,
      sum_by-set is_taken visits place (Some now) None within,
      taken_by (get_or visits place None) there,
    )

-- one more is there where one comes
pub taken_new : (visits : List (Option Visit)) (place : ℕ) (now : Visit) → place < length visits
    → get_or visits place None ≡ None → taken (set visits place (Some now)) ≡ taken visits + 1
taken_new visits place now within none =
    omega (arith, sum_by-set is_taken visits place (Some now) None within, ap is_taken none)

-- and where one wakes
pub as_heard_woken : (seated : SeatedBy) (heard : HeardAt) (visits : List (Option Visit)) (place : ℕ) (was : Visit)
    → get_or visits place None ≡ Some was → WaitAsHeard seated heard visits
    → WaitAsHeard seated heard (set visits place (Some (Ready (wait_in was))))
as_heard_woken seated heard visits place was at all =
    as_heard seated seated heard heard visits place (Some (Ready (wait_in was))) (λ other wait visit apart known. known)
    (λ visit wait same is.
    let ready = same_Some (Ready (wait_in was)) visit same in
    let waited : wait_in was ≡ Some wait = ap wait_in ready ∙ is in
    ∥∥₁_map (all place was wait at waited)
    (λ (since, (front, rest, how, held, now, parts, apart, by)).
    (since, (front, rest, how, held, now, parts, apart, subst (λ v. IsKnownBy how wait v) ready waited)))) all

module _ (seated : SeatedBy) (heard : HeardAt) (visits : List (Option Visit)) (place : ℕ) (how : Step)
    (held : Option (Option ℕ)) (now : ℕ) where
  -- and where this was heard of a turn of a place, of whom this is known since
  pub as_heard_turn : (visit : Visit) → All (λ one. length one.1.items ≤ length heard) seated
      → WaitAsHeard seated heard visits → IsHeard (get_or visits place None) how now visit
      → WaitAsHeard seated (heard ++ (((place, how), held), now) ∷ []) (set visits place (Some visit))
  as_heard_turn visit came all known =
      as_heard seated seated heard (heard ++ (((place, how), held), now) ∷ []) visits place (Some visit)
      (λ other wait later apart (since, last). (
        since_more (AreSeatedBy seated other) heard other wait (((place, how), held), now)
            (λ here. absurd (apart (sym here))) since,
        known_more heard other wait later (((place, how), held), now) (λ here. apart (sym here)) last,
      ))
      (λ later wait same is.
      let here = same_Some visit later same in
      let waits : wait_in visit ≡ Some wait = ap wait_in here ∙ is in
      ∥∥₁_map
      (waits_here (AreSeatedBy seated place) heard place held now (get_or visits place None)
      (λ k d less there. came k d less)
      (λ was waited at waits. ∥∥₁_map (all place was waited at waits) (λ both. both.0)) how visit wait known waits)
      (λ since. (
        since,
        known_now heard place how held now wait later
            (subst (λ v. IsKnownBy how wait v) here
            (known_by (get_or visits place None) how now visit wait known waits)),
      ))) all

  -- and where nobody is there
  pub as_heard_nobody : WaitAsHeard seated heard visits → get_or visits place None ≡ None
      → WaitAsHeard seated (heard ++ (((place, how), held), now) ∷ []) visits
  as_heard_nobody all none other visit wait at is = elim (eqb_tells other place) [
    | inl same ↦
        let clash : Some visit ≡ None =
        sym at ∙ subst (λ n. get_or visits n None ≡ None) (sym same.1) none in absurd cc
    | inr apart ↦
        ∥∥₁_map (all other visit wait at is)
        (λ (since, last). (
          since_more (AreSeatedBy seated other) heard other wait (((place, how), held), now)
              (λ here. absurd (apart.1 (sym here))) since,
          known_more heard other wait visit (((place, how), held), now) (λ here. apart.1 (sym here)) last,
        ))
  ]

-- those that were given places still had been by so much once more was heard
pub came_more : (seated : SeatedBy) (heard : HeardAt) (one : Heard × ℕ)
    → All (λ given. length given.1.items ≤ length heard) seated
    → All (λ given. length given.1.items ≤ length (heard ++ one ∷ [])) seated
came_more seated heard one came k d less = omega (arith, came k d less, length_push heard one)

-- also one more that is now
pub came_now : (seated : SeatedBy) (log : Log Heard ℕ) (place : ℕ)
    → All (λ one. length one.1.items ≤ length log.items) seated
    → All (λ one. length one.1.items ≤ length log.items) (seated ++ (place, log) ∷ [])
came_now seated log place came =
    All-push (λ (one : ℕ × Log Heard ℕ). length one.1.items ≤ length log.items) seated (place, log) came (omega arith)

some_wait : (visit : Visit) (now : ℕ) → HasExpired visit now ⊎ MayMakeRoom visit now
    → (wait : Wait) × (wait_in visit ≡ Some wait)
some_wait (Waiting wait) now may = (wait, refl)
some_wait (Searching wait) now may = (wait, refl)
some_wait (Ready (Some wait)) now may = (wait, refl)
some_wait (Ready None) now (inl expired) = absurd expired
some_wait (Ready None) now (inr room) = absurd room

-- the time after one more look
pub time_more : (looks : Looks) (one : Look × ℕ) → time_by (looks ++ one ∷ []) ≡ after_look (time_by looks) one
time_more looks one = fold-append after_look (0, 0) looks (one ∷ [])

pub still_asked : (looks : Looks) → AreMore looks looks
still_asked looks = ([], sym (append-nil looks))

pub asked_then : (old mid new : Looks) → AreMore old mid → AreMore mid new → AreMore old new
asked_then old mid new (some, is) (more, also) =
    (some ++ more, also ∙ ap (λ xs. xs ++ more) is ∙ append_assoc old some more)

-- Whoever may be let go has waited so long, where all was heard or it has left.
pub goes_now : (places : Places) (looks : Looks) (read place : ℕ)
    → WaitAsHeard places.seated.items places.heard.items places.visits.items
    → time_by looks ≡ (places.elapsed, read) → MayLetGo places place
    → ∥ IsHeardOut looks ∥₁ ⊎ StandsAt places place (λ visit. HasLeft visit places.elapsed)
    → ∥ HasWaited (AreSeatedBy places.seated.items place) places.heard.items looks place ∥₁
goes_now places looks read place waits time may out = by out
  where
    now : places.elapsed ≡ (time_by looks).0
    now = ap (λ t. t.0) (sym time)

    waited : (visit : Visit) → get_or places.visits.items place None ≡ Some visit
        → HasExpired visit places.elapsed ⊎ MayMakeRoom visit places.elapsed → MayGoNow visit looks
        → ∥ HasWaited (AreSeatedBy places.seated.items place) places.heard.items looks place ∥₁
    waited visit at why goes =
        let (wait, is) = some_wait visit places.elapsed why in
        ∥∥₁_map (waits place visit wait at is) (λ known. (visit, wait, known, goes))

    by : ∥ IsHeardOut looks ∥₁ ⊎ StandsAt places place (λ visit. HasLeft visit places.elapsed)
        → ∥ HasWaited (AreSeatedBy places.seated.items place) places.heard.items looks place ∥₁
    by (inl heard) =
        let (visit, at, why) = goes_there places place may in
        let either : HasExpired visit places.elapsed ⊎ MayMakeRoom visit places.elapsed =
        elim why [ inl ended ↦ inl ended | inr room ↦ inr room.1 ] in
        ∥∥₁_elim heard ∥∥₁_prop
        (λ all. waited visit at either (inr (all, subst (λ n. HasExpired visit n ⊎ MayMakeRoom visit n) now either)))
    by (inr (visit, at, left)) =
        waited visit at (inl (left_expired visit left)) (inl (subst (λ n. HasLeft visit n) now left))
      where
        left_expired : (visit : Visit) → HasLeft visit places.elapsed → HasExpired visit places.elapsed
        left_expired (Ready last) left = left
        left_expired (Waiting wait) left = absurd left
        left_expired (Searching wait) left = absurd left

module _ {P : Type 0} where
  -- nothing was next so far
  pub said_none : (heard : HeardAt) (asked : Looks) → AreSaidRightly {P = P} [] heard asked
  said_none heard asked = record {
    before = λ front rest one is. absurd (none front rest one is);
    go = λ front rest one is. absurd (none front rest one is);
    timed = λ front rest place looks one is. absurd (none front rest (next.Turn place, looks) is);
    more = λ front rest one is. absurd (none front rest one is);
    last = λ front rest place looks is. absurd (none front rest (next.Turn place, looks) is);
  }
    where
      none : (front rest : NextsBy P) (one : Next P × Log Look ℕ) → [] ≡ front ++ one ∷ rest → ⊥
      none [] rest one is = cc
      none (x ∷ front) rest one is = cc

  -- and nobody came
  pub come_none : (seated : SeatedBy) → ComeAsSeated {P = P} [] seated
  come_none seated place count by front rest peer looks is = absurd (none front is)
    where
      none : (front : NextsBy P) → [] ≡ front ++ (next.Newcomer place peer, looks) ∷ rest → ⊥
      none [] is = cc
      none (x ∷ front) is = cc

  turns_split : (front rest : NextsBy P) (one : Next P × Log Look ℕ)
      → turns_by (front ++ one ∷ rest) ≡ turns_by front + (turn one.0 + turns_by rest)
  turns_split front rest one =
      ap turns_in (map-append (λ said. said.0) front (one ∷ rest))
      ∙ turns_rest (map (λ said. said.0) front) (map (λ said. said.0) rest) one.0

  -- one more was next, once all turns before it were heard
  pub said_next : (nexts : NextsBy P) (heard : HeardAt) (asked now : Looks) (last : Next P) (looks : Log Look ℕ)
      → length heard ≡ turns_by nexts → looks.items ≡ now → AreMore asked now
      → GoesRightly (CameBy nexts) last heard now
      → AreSaidRightly nexts heard asked → AreSaidRightly (nexts ++ (last, looks) ∷ []) heard now
  said_next nexts heard asked now last looks all same grown goes said = record {
    before = λ front rest one is. elim (last_or front rest nexts one (last, looks) is) [
      | inl (none, it, whole) ↦ omega (arith, all, ap turns_by whole)
      | inr (less, more, split) ↦ said.before front less one split
    ];
    go = λ front rest one is. elim (last_or front rest nexts one (last, looks) is) [
      | inl (none, it, whole) ↦
          let part : take (turns_by front) heard ≡ heard =
          take_all (turns_by front) heard (omega (arith, all, ap turns_by whole)) in
          rw (it, part, same, whole) goes
      | inr (less, more, split) ↦ said.go front less one split
    ];
    timed = λ front rest place then one is after.
        elim (last_or front rest nexts (next.Turn place, then) (last, looks) is) [
          | inl (none, it, whole) ↦
              let (some, others, parts, count) = after in
              absurd (omega (arith, all, ap turns_by whole, count, ap length parts, length-append some (one ∷ others)))
          | inr (less, more, split) ↦ said.timed front less place then one split after
        ];
    more = λ front rest one is. elim (last_or front rest nexts one (last, looks) is) [
      | inl (none, it, whole) ↦
          let here : AreMore one.1.items now = rw (it, same) (still_asked now) in
          (rw none (All-nil (λ (later : Next P × Log Look ℕ). AreMore one.1.items later.1.items)), here)
      | inr (less, more, split) ↦
          let (others, asked_by) = said.more front less one split in
          let here = asked_then one.1.items asked now asked_by grown in (
            rw more (All-push (λ (later : Next P × Log Look ℕ). AreMore one.1.items later.1.items) less (last, looks)
                others (rw same here)),
            here,
          )
    ];
    last = λ front rest place then is few.
        elim (last_or front rest nexts (next.Turn place, then) (last, looks) is) [
          | inl (none, it, whole) ↦ ap (λ two. two.1.items) it ∙ same
          | inr (less, more, split) ↦
              absurd (omega (arith, all, few, ap turns_by split, turns_split front less (next.Turn place, then)))
        ];
  }

  -- this was heard of the last turn, at the millisecond that has counted by now
  pub said_heard : (nexts : NextsBy P) (heard : HeardAt) (asked : Looks) (told : Heard × ℕ)
      → told.1 ≡ (time_by asked).0 → AreSaidRightly nexts heard asked
      → AreSaidRightly nexts (heard ++ told ∷ []) asked
  said_heard nexts heard asked told now said = record {
    before = λ front rest one is. omega (arith, said.before front rest one is, length_push heard told);
    go = λ front rest one is.
        let part : take (turns_by front) (heard ++ told ∷ []) ≡ take (turns_by front) heard =
        take-append-le (turns_by front) heard (told ∷ []) (said.before front rest one is) in
        rw part (said.go front rest one is);
    timed = λ front rest place looks one is (some, others, parts, count).
        elim (last_or some others heard one told parts) [
          | inl (none, it, whole) ↦
              let by : looks.items ≡ asked =
              said.last front rest place looks is (omega (arith, count, ap length whole)) in
              ap (λ two. two.1) it ∙ now ∙ ap (λ xs. (time_by xs).0) (sym by)
          | inr (less, more, split) ↦ said.timed front rest place looks one is (some, less, split, count)
        ];
    more = said.more;
    last = λ front rest place looks is few.
        said.last front rest place looks is (omega (arith, few, length_push heard told));
  }

-- whoever comes was given its place by then
pub come_next : (nexts : NextsBy Socket) (last : Next Socket) (looks : Log Look ℕ) (old new : Places)
    → length old.heard.items ≡ turns_by nexts → GivesPlace old last new
    → ComeAsSeated nexts old.seated.items → ComeAsSeated (nexts ++ (last, looks) ∷ []) new.seated.items
come_next nexts last looks old new all gives come place count by front rest peer then is =
    elim (last_or front rest nexts (next.Newcomer place peer, then) (last, looks) is) [
      | inl (none, it, whole) ↦
          let (heard, same, given, known) =
          subst (λ said. GivesPlace old said new) (ap (λ two. two.0) (sym it)) gives in
          let early = All-pop (λ (one : ℕ × Log Heard ℕ). one.0 ≡ place → length one.1.items ≤ count) new.seated.items
          old.seated.items (Some (place, heard)) given by in
          omega (arith, all, ap turns_by whole, ap length same, early.1 refl)
      | inr (less, more, split) ↦ come place count (before last gives) front less peer then split
    ]
  where
    before : (said : Next Socket) → GivesPlace old said new → AreSeatedBy old.seated.items place count
    before (next.Newcomer other it) (heard, same, given, known) =
        (All-pop (λ (one : ℕ × Log Heard ℕ). one.0 ≡ place → length one.1.items ≤ count) new.seated.items
        old.seated.items (Some (other, heard)) given by).0
    before (next.Turn other) same = subst (λ xs. AreSeatedBy xs place count) same by
    before (next.Gone other) same = subst (λ xs. AreSeatedBy xs place count) same by
    before next.Answer same = subst (λ xs. AreSeatedBy xs place count) same by
    before next.End same = subst (λ xs. AreSeatedBy xs place count) same by
    before next.Refused same = subst (λ xs. AreSeatedBy xs place count) same by

-- and whoever goes had come so
pub goes_as_come : (nexts : NextsBy Socket) (last : Next Socket) (old new : Places) (heard : HeardAt) (now : Looks)
    → GivesPlace old last new → ComeAsSeated nexts old.seated.items
    → GoesRightly (AreSeatedBy new.seated.items) last heard now → GoesRightly (CameBy nexts) last heard now
goes_as_come nexts (next.Gone place) old new heard now same come goes =
    ∥∥₁_map goes
    (λ (visit, wait, ((front, rest, how, held, parts, begins, keeps, came), last), may).
    let before = come place (length front) (subst (λ xs. AreSeatedBy xs place (length front)) same came) in
    (visit, wait, ((front, rest, how, held, parts, begins, keeps, before), last), may))
goes_as_come nexts (next.Turn place) old new heard now same come goes = goes
goes_as_come nexts (next.Newcomer place peer) old new heard now same come goes = goes
goes_as_come nexts next.Answer old new heard now same come goes = goes
goes_as_come nexts next.End old new heard now same come goes = goes
goes_as_come nexts next.Refused old new heard now same come goes = goes

pub still_then : (old mid new : Places) → AreStill old mid → AreStill mid new → AreStill old new
still_then old mid new was is = (is.0 ∙ was.0, is.1 ∙ was.1, is.2 ∙ was.2, is.3 ∙ was.3, is.4 ∙ was.4)

-- what is handed out is so by the places before too, where they were still
pub hands_out_then : (old mid new : Places) (said : Next Socket) → AreStill old mid → HandsOut mid said new
    → HandsOut old said new
hands_out_then old mid new said still hands = record {
  fresh = subst (λ xs. IsFreshPeer traffic_of (length xs) said) still.0 hands.fresh;
  count = hands.count ∙ ap (λ xs. length xs + newcomer said) still.0;
  most = hands.most ∙ still.1;
  place = given said hands.place;
  gone = gone said hands.gone;
  freed = freed said hands.freed;
  heard = hands.heard ∙ still.3;
}
  where
    given : (said : Next Socket) → GivesPlace mid said new → GivesPlace old said new
    given (next.Newcomer place peer) (heard, same, is, known) =
        (heard, same ∙ still.3, is ∙ ap (λ xs. xs ++ (place, heard) ∷ []) still.0, known)
    given (next.Turn place) is = is ∙ still.0
    given (next.Gone place) is = is ∙ still.0
    given next.Answer is = is ∙ still.0
    given next.End is = is ∙ still.0
    given next.Refused is = is ∙ still.0

    gone : (said : Next Socket) → LetsOneGo mid said new → LetsOneGo old said new
    gone (next.Gone place) (one, at, is) = (one, at, is ∙ ap (λ xs. xs ++ one ∷ []) still.2)
    gone (next.Newcomer place peer) is = is ∙ still.2
    gone (next.Turn place) is = is ∙ still.2
    gone next.Answer is = is ∙ still.2
    gone next.End is = is ∙ still.2
    gone next.Refused is = is ∙ still.2

    freed : (said : Next Socket) → FreesPlace mid said new → FreesPlace old said new
    freed (next.Gone place) (now, is) = (now, is ∙ ap (λ xs. xs ++ (place, now) ∷ []) still.4)
    freed (next.Newcomer place peer) is = is ∙ still.4
    freed (next.Turn place) is = is ∙ still.4
    freed next.Answer is = is ∙ still.4
    freed next.End is = is ∙ still.4
    freed next.Refused is = is ∙ still.4
