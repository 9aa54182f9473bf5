-- Requests that are answered together: what is noted while they are told, one after another, is what was answered.
use Rattle.std.proofs.Common.{◌≡◌, ◌≢◌, ◌∙◌, ap, refl, sym, subst, inl, inr, ℕ, List, [], ◌∷◌, ◌++◌, append_assoc}
use Rattle.std.proofs.Common.{length}
use Rattle.std.proofs.Common.{arith, get_or, length-append, take, Option, Some, None}
use Rattle.std.specs.Prelude.{All, MatchOption, map}
use Rattle.std.proofs.lemmas.List.{append-nil, map-append}
use Rattle.std.proofs.lemmas.List.Elements.{All-cons, All-head, All-nil, All-push, All-tail}
use Rattle.hall_http.specs.Connection.{Exchange, of_groups}
use Rattle.hall_http.specs.Crowd.{AreOthersSame, IsSameAt, MayWaitAfter, Serves}
use Rattle.hall_policy.specs.declared.record.AnswerRow.{AnswerRow}
use Rattle.hall_http.specs.Group.{AreWaiting, Awaits, IsGathered, JoinsAt, answered_at, exchanges_at, place_of}
use Rattle.hall_http.specs.Group.{recording, requests_of}
use Rattle.hall_http.specs.Joining.{told_at_end}
use Rattle.hall_http.specs.Peer.{Traffic}
use Rattle.hall_http.specs.Resting.{AreRests, HasRested, IsGroup, RestingGroups}
use Rattle.hall_http.specs.Steps.{JoinsFront, StandsInFront, joined_told}
use Rattle.hall_http.specs.Turns.{GroupedSession, Service, exchanges_of}
use Rattle.hall_http.specs.declared.client.Client.{Client}
use Rattle.hall_http.specs.declared.clients.Clients.{Clients}
use Rattle.hall_http.specs.declared.clients.HeldRequest.{HeldRequest}
use Rattle.hall_http.specs.declared.connection.Joined.{Joined}
use Rattle.hall_http.specs.declared.connection.State.TheVariants as state
use Rattle.hall_http.specs.declared.group.Group.{Group}
use Rattle.hall_http.specs.declared.group.Member.{Member}
use Rattle.hall_http.specs.declared.group_end.GroupEnd.{GroupEnd}
use Rattle.hall_http.specs.declared.group_end.GroupEnd.TheVariants as group
use Rattle.hall_http.proofs.Became.{of_each}
use Rattle.hall_http.proofs.Crowds.{serves_none}
use Rattle.hall_http.proofs.Grouped.{grouped_joined, grouped_last}
use Rattle.hall_http.proofs.Heard.{may_rest, serves_more, waits_by}

rest_noted : (told : List Exchange) (left : List (List Exchange)) (then : List Exchange)
    → AreRests recording.rests told left then → then ≡ told
rest_noted told [] then same = same
rest_noted told (m ∷ left) then (rest, more) = rest_noted m left then more ∙ rest

group_noted : (told xs then : List Exchange) → IsGroup recording.answers recording.joins told xs then
    → then ≡ told ++ xs
group_noted told xs then (inl (x, is, says)) = says ∙ ap (λ (ys : List Exchange). told ++ ys) (sym is)
group_noted told xs then (inr says) = says

groups_noted : (told : List Exchange) (groups : List (List Exchange)) (then : List Exchange)
    → RestingGroups (IsGroup recording.answers recording.joins) recording.rests told groups then
    → then ≡ told ++ of_groups groups
groups_noted told [] then (left, rested) = rest_noted told left then rested ∙ sym (append-nil told)
groups_noted told (xs ∷ groups) then (read, after, (left, rested), says, rest) =
    groups_noted after groups then rest
    ∙ ap (λ (zs : List Exchange). zs ++ of_groups groups)
    (group_noted read xs after says ∙ ap (λ (zs : List Exchange). zs ++ xs) (rest_noted told left read rested))
    ∙ append_assoc told xs (of_groups groups)

-- what was noted is what was answered
pub all_noted : (told xs then : List Exchange) → GroupedSession recording told xs then → then ≡ told ++ xs
all_noted told xs then (groups, is, all) =
    groups_noted told groups then all ∙ ap (λ (zs : List Exchange). told ++ zs) is

-- where one more was noted, it was answered
pub some_noted : (told : List Exchange) (x : Exchange) → GroupedSession recording told [] (told ++ x ∷ []) → ⊥
some_noted told x session =
    let same = all_noted told [] (told ++ x ∷ []) session in
    let longer = ap length same in
    omega (arith, longer, length-append told (x ∷ []), length-append {A = Exchange} told [])

module _ {H P : Type 0} (service : Service H) (traffic : P → Traffic) where
  -- what was told one after another was answered together
  pub serves_together : (held : List HeldRequest) (h i : H) (xs : List Exchange) (s u : Clients P)
      → service.joins h xs i → Serves recording traffic held [] s xs u → Serves service traffic held h s i u
  serves_together held h i xs s u says serves = (
    serves.0,
    λ few many turns kept.
        let so = serves.1 few many turns kept in
        record {
          turns = so.turns;
          session = subst (λ (ys : List Exchange). GroupedSession service h ys i)
              (all_noted [] (exchanges_of so.turns) xs so.session) (grouped_joined service h xs i says);
          holds = (
            waits_by service traffic (MayWaitAfter recording [] xs so.turns) (MayWaitAfter service h i so.turns) s
                turns (λ some request wait. absurd wait.5) held so.turns so.holds.0,
            so.holds.1,
          );
        },
  )

  -- and then it rested
  pub serves_on : (held : List HeldRequest) (h m i : H) (s u : Clients P) → Serves service traffic held h s m u
      → HasRested service.rests m i → Serves service traffic held h s i u
  serves_on held h m i s u serves rested = (
    serves.0,
    λ few many turns kept.
        let so = serves.1 few many turns kept in
        record {
          turns = so.turns;
          session = grouped_last service h (exchanges_of so.turns) m i so.session rested;
          holds = (
            waits_by service traffic (MayWaitAfter service h m so.turns) (MayWaitAfter service h i so.turns) s turns
                (may_rest service h m i so.turns rested) held so.turns so.holds.0,
            so.holds.1,
          );
        },
  )

-- who waits with a request waits with it also for another answer
awaits_told : {P : Type 0} (end : GroupEnd) (place : Option (Client P)) (joined : Joined) → Awaits place joined
    → Awaits place (joined_told end joined)
awaits_told end None joined waits = absurd waits
awaits_told group.Stored (Some k) joined waits = waits
awaits_told group.Refused (Some k) joined (at, front) =
    (at, record { whole = front.whole; inside = front.inside; ends = front.ends })
awaits_told group.Shut (Some k) joined (at, front) =
    (at, record { whole = front.whole; inside = front.inside; ends = front.ends })

told_same : {P : Type 0} (end : GroupEnd) (place : Option (Client P)) (moment : Option ℕ) (joined : Joined)
    → answered_at place moment (joined_told end joined) ≡ told_at_end end (answered_at place moment joined)
told_same group.Stored place moment joined = refl
told_same group.Refused place moment joined = refl
told_same group.Shut place moment joined = refl

module _ {P : Type 0} (traffic : P → Traffic) (end : GroupEnd) (s : Clients P) where
  -- what these members are told
  abbrev pub told_in : List Member → List Exchange
  told_in members = map (told_at_end end) (exchanges_at s members)

  -- some of the members were told, and these wait still
  pub record TellsSoFar (members : List Member) (u : Clients P) (left : List Member) : Type 0 where
    pub done : List Member
    pub all : members ≡ done ++ left
    pub serves : Serves recording traffic (requests_of done) [] s (told_in done) u
    pub waiting : AreWaiting s left
    pub same : All (λ member. place_of u member ≡ place_of s member) left

  pub tells_none : (members : List Member) → AreWaiting s members → TellsSoFar members s members
  tells_none members waiting = record {
    done = [];
    all = refl;
    serves = serves_none traffic recording [] s;
    waiting = waiting;
    same = λ i d within. refl;
  }

  module _ (members : List Member) (u : Clients P) (member : Member) (rest : List Member)
      (so : TellsSoFar members u (member ∷ rest)) where
    here : place_of u member ≡ place_of s member
    here = All-head (λ (member : Member). place_of u member ≡ place_of s member) member rest so.same

    -- the first of those waits
    pub next_waits : Awaits (place_of u member) (joined_told end member.joined)
    next_waits = rw here (awaits_told end (place_of s member) member.joined so.waiting.0)

    told_more : told_in so.done ++ answered_at (place_of u member) member.request.moment (joined_told end member.joined) ∷ []
        ≡ told_in (so.done ++ member ∷ [])
    told_more =
        ap (λ (x : Exchange). told_in so.done ++ x ∷ [])
        (ap (λ (o : Option (Client P)). answered_at o member.request.moment (joined_told end member.joined)) here
        ∙ told_same end (place_of s member) member.request.moment member.joined)
        ∙ sym
        (ap (map (told_at_end end))
        (map-append (λ (m : Member). answered_at (place_of s m) m.request.moment m.joined) so.done (member ∷ []))
        ∙ map-append (told_at_end end) (exchanges_at s so.done) (exchanges_at s (member ∷ [])))

    -- nothing changes at the places of others
    pub tells_others : (w : Clients P)
        → ((place : ℕ) → All (λ member. member.request.place ≢ place) members → IsSameAt s u place)
        → AreOthersSame u member.request.place w
        → (place : ℕ) → All (λ member. member.request.place ≢ place) members → IsSameAt s w place
    tells_others w before others place differs =
        others place
        (λ same.
        of_each (λ member. member.request.place ≢ place) so.done rest member
        (subst (All (λ member. member.request.place ≢ place)) so.all differs) (sym same)) ∙ before place differs

    -- it was told
    pub tells_more : (w : Clients P)
        → ((told : List Exchange) → Serves recording traffic (member.request ∷ []) told u
        (told ++ answered_at (place_of u member) member.request.moment (joined_told end member.joined) ∷ []) w)
        → AreOthersSame u member.request.place w → TellsSoFar members w rest
    tells_more w serves others = record {
      done = so.done ++ member ∷ [];
      all = so.all ∙ sym (append_assoc so.done (member ∷ []) rest);
      serves = subst
          (λ (held : List HeldRequest). Serves recording traffic held [] s (told_in (so.done ++ member ∷ [])) w)
          (sym (map-append (λ (member : Member). member.request) so.done (member ∷ [])))
          (subst
          (λ (told : List Exchange).
          Serves recording traffic (requests_of so.done ++ member.request ∷ []) [] s told w) told_more
          (serves_more recording traffic (requests_of so.done) (member.request ∷ []) _ _ _ s u _
          (All-cons (λ one. IsSameAt s u one.place) member.request [] here (All-nil (λ one. IsSameAt s u one.place)))
          so.serves (serves (told_in so.done))));
      waiting = so.waiting.2;
      same = λ i d within.
          others ((get_or rest i d).request.place) (so.waiting.1 i d within)
          ∙ All-tail (λ (member : Member). place_of u member ≡ place_of s member) member rest so.same i d within;
    }

  -- all were told
  pub tells_all : (members : List Member) (u : Clients P) → TellsSoFar members u []
      → Serves recording traffic (requests_of members) [] s (told_in members) u
  tells_all members u so =
      subst (λ (ms : List Member). Serves recording traffic (requests_of ms) [] s (told_in ms) u)
      (sym (so.all ∙ append-nil so.done)) so.serves

-- one more waits
pub waiting_more : {P : Type 0} (s : Clients P) (members : List Member) (member : Member) → AreWaiting s members
    → Awaits (place_of s member) member.joined → All (λ other. other.request.place ≢ member.request.place) members
    → AreWaiting s (members ++ member ∷ [])
waiting_more s [] member waiting awaits others =
    (awaits, All-nil (λ (other : Member). other.request.place ≢ member.request.place), tt)
waiting_more s (m ∷ members) member (first, apart, waiting) awaits others = (
  first,
  All-push (λ (other : Member). other.request.place ≢ m.request.place) members member apart
      (λ same. All-head (λ (other : Member). other.request.place ≢ member.request.place) m members others (sym same)),
  waiting_more s members member waiting awaits
      (All-tail (λ (other : Member). other.request.place ≢ member.request.place) m members others),
)

-- a request that joined waits there
pub joins_at : {H P : Type 0} (have_joined : List Exchange → List AnswerRow → H → Type 0) (xs : List Exchange)
    (k : Client P) (moment : Option ℕ) (result : Option Joined) (rows : List AnswerRow) (h : H)
    → k.connection.state ≡ state.Looking → JoinsFront have_joined xs moment k.connection result rows h
    → JoinsAt have_joined xs (Some k) moment result rows h
joins_at have_joined xs k moment None rows h at joins = joins
joins_at have_joined xs k moment (Some joined) rows h at (front, have) = ((at, front), have)

-- one more has joined
pub gathered_more : {H P : Type 0} (have_joined : List Exchange → List AnswerRow → H → Type 0) (s : Clients P)
    (members : List Member) (one : HeldRequest) (joined : Joined) (rows : List AnswerRow) (h : H) (group : Group)
    → AreWaiting s members → All (λ other. other.request.place ≢ one.place) members
    → JoinsAt have_joined (exchanges_at s members) (get_or s.places.items one.place None) one.moment (Some joined) rows h
    → group.members.items ≡ members ++ record { request = one; joined = joined } ∷ [] → group.joint ≡ rows
    → IsGathered have_joined s group h
gathered_more have_joined s members one joined rows h group waiting others (awaits, have) is same = record {
  waiting = rw is (waiting_more s members (record { request = one; joined = joined }) waiting awaits others);
  joined = rw (is, same)
      (subst (λ (xs : List Exchange). have_joined xs rows h)
      (sym
      (map-append (λ (m : Member). answered_at (place_of s m) m.request.moment m.joined) members
      (record { request = one; joined = joined } ∷ []))) have);
}

-- the first of them was taken off
pub taken_off : (one : HeldRequest) (held rest left : List HeldRequest) (popped : Option HeldRequest)
    → held ≡ one ∷ rest → MatchOption popped ((held ≡ []) × (left ≡ [])) (λ other. held ≡ other ∷ left)
    → held ≡ one ∷ left
taken_off one held rest left None is (none, nothing) = let clash = sym none ∙ is in absurd cc
taken_off one held rest left (Some other) is all = let same : other ∷ left ≡ one ∷ rest = sym all ∙ is in
    let first : other ≡ one = cc in all ∙ ap (λ (x : HeldRequest). x ∷ left) first

-- some members are answered something
pub some_answered : {P : Type 0} (s : Clients P) (members : List Member) → members ≢ [] → exchanges_at s members ≢ []
some_answered s [] some = absurd (some refl)
some_answered s (m ∷ members) some = λ is. absurd cc

-- what is held no more are the requests of the members
pub order_more : (all : List HeldRequest) (members more : List Member) (held left : List HeldRequest)
    → all ≡ requests_of members ++ held → (member : Member) → more ≡ members ++ member ∷ []
    → held ≡ member.request ∷ left → all ≡ requests_of more ++ left
order_more all members more held left before member is off =
    before ∙ ap (λ (held : List HeldRequest). requests_of members ++ held) off
    ∙ sym (append_assoc (requests_of members) (member.request ∷ []) left)
    ∙ ap (λ (front : List HeldRequest). front ++ left)
    (sym (map-append (λ (member : Member). member.request) members (member ∷ [])))
    ∙ ap (λ (ms : List Member). requests_of ms ++ left) (sym is)

pub order_same : (all : List HeldRequest) (members more : List Member) (held left : List HeldRequest)
    → all ≡ requests_of members ++ held → more ≡ members → left ≡ held → all ≡ requests_of more ++ left
order_same all members more held left before is same = rw (is, same) before
