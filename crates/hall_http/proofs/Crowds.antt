-- What each step of the open connections keeps.
use Rattle.std.proofs.Common.{◌≡◌, ◌≢◌, ◌⊎◌, ◌∙◌, sym, ap, subst, refl, arith, ℕ, suc, ◌+◌, ◌<◌, ◌==◌, inl, inr, List}
use Rattle.std.proofs.Common.{[], ◌∷◌, ◌++◌, length, take, drop, get_or, Option, Some, None, append_assoc, true, false}
use Rattle.std.specs.Prelude.{Bool, All, slice_set}
use Rattle.std.specs.Vec.{with_item}
use Rattle.std.proofs.lemmas.Bool.{eqb-true, eqb-false}
use Rattle.std.proofs.lemmas.Option.{same_Some}
use Rattle.std.proofs.lemmas.List.{append-nil, take-append-drop, set-get_or}
use Rattle.std.proofs.lemmas.List.Elements.{All-nil, All-push, All-append}
use Rattle.hall_http.specs.Served.{refusal}
use Rattle.hall_http.specs.Connection.{Exchange, LeavesOpen, requests_of}
use Rattle.hall_http.specs.Peer.{Traffic, IsLaterOn, IsUntouched}
use Rattle.hall_http.specs.Crowd.{AreApart, AreKept, AreThose, AreConnectionsTold, HasGone, IsAt, AreGone, IsPast}
use Rattle.hall_http.specs.Crowd.{IsHandedOut, AnswersNoMore, AreAnsweredOf, AreStill, ComesTo, HasAt, IsHeldAt, MayGo}
use Rattle.hall_http.specs.Crowd.{MayWaitAfter, Past, Serves, WaitsAt, number_past, traffic_past}
use Rattle.hall_http.specs.Head.{HasNoWholeRequest, IsWholeRequest}
use Rattle.hall_http.specs.History.{ConnectionHistory, StandsSo, IsReplying, Ends}
use Rattle.hall_http.specs.Turns.{GroupedSession}
use Rattle.hall_http.specs.Turns.{Turn, Service, of, AreOpenButLast, AreSent, HasEnded, IsConnectionTold, IsClient}
use Rattle.hall_http.specs.Turns.{IsNextRequest}
use Rattle.hall_http.specs.Turns.{IsOneAt, IsRefusedAfter, IsRefusedRightly, IsPlaceAnswered, IsPlaceKept}
use Rattle.hall_http.specs.Reading.{at_first}
use Rattle.hall_http.specs.Progress.{AnswersFirst}
use Rattle.hall_http.specs.Steps.{HasRequest, KeepsWaiting}
use Rattle.hall_http.specs.declared.client.Client.{Client}
use Rattle.hall_http.specs.declared.clients.Away.{Away}
use Rattle.hall_http.specs.declared.clients.Clients.{Clients}
use Rattle.hall_http.specs.declared.clients.Departure.{Departure}
use Rattle.hall_http.specs.declared.clients.Departure.TheVariants as departure
use Rattle.hall_http.specs.declared.clients.HeldRequest.{HeldRequest}
use Rattle.hall_http.specs.declared.peer.Closed.{Closed}
use Rattle.hall_http.specs.declared.connection.Connection.{Connection}
use Rattle.hall_http.specs.declared.connection.ServeEnd.{ServeEnd}
use Rattle.hall_http.specs.declared.connection.ServeEnd.TheVariants as end
use Rattle.hall_http.specs.declared.connection.State.{State}
use Rattle.hall_http.specs.declared.connection.State.TheVariants as state
use Rattle.hall_http.proofs.Histories.{stands_at}
use Rattle.hall_http.proofs.Numbers.{numbered, exchanges_numbered, of_none, own_more, others_same, known_more, read_at}
use Rattle.hall_http.proofs.Numbers.{where_is, is_there, is_still}
use Rattle.hall_http.proofs.Grouped.{grouped_alone}
use Rattle.hall_http.proofs.Heard.{AreServedSo, handled_none, may_now}
use Rattle.hall_http.proofs.Peers.{later_same}
use Rattle.hall_http.proofs.SoFar.{still_same}

-- what is told by a history, where a read told that no more comes or none did, and these bytes were read off after its
-- end
abbrev Told : ConnectionHistory → Connection → Bool → List ℕ → Type 0
Told t k over off =
    AreSent t.exchanges t.went
    ⊎ (IsRefusedAfter t.exchanges t.went × IsRefusedRightly t.exchanges k.inbox over
    × HasNoWholeRequest (k.inbox ++ off))

replying_told : (t : ConnectionHistory) (k : Connection) (over : Bool) (off : List ℕ) → IsReplying t k
    → Told t k over off
replying_told t k over off r =
    inl (inr (
      r.before,
      r.last,
      take k.sent r.last.reply,
      drop k.sent r.last.reply,
      r.is_last.all,
      sym (take-append-drop k.sent r.last.reply),
      r.told,
    ))

no_request : (t : ConnectionHistory) (k : Connection) (off : List ℕ) → Ends end.BadHead t k.inbox → (off ≡ [])
    ⊎ (t.ended ≡ false)
    → HasNoWholeRequest (k.inbox ++ off)
no_request t k off (goes_on, inl (some, unfinished, over)) (inl none) =
    subst HasNoWholeRequest (sym (ap (λ s. k.inbox ++ s) none ∙ append-nil k.inbox)) unfinished.none
no_request t k off (goes_on, inl (some, unfinished, over)) (inr more) = let clash = sym more ∙ over in absurd cc
no_request t k off (goes_on, inr (never, more)) quiet = never off

refused_rightly : (t : ConnectionHistory) (k : Connection) (over : Bool) → Ends end.BadHead t k.inbox
    → (t.ended ≡ true → over ≡ true) → IsRefusedRightly t.exchanges k.inbox over
refused_rightly t k over (goes_on, inl (some, unfinished, ended)) at_end =
    (goes_on, inr (some, unfinished, at_end ended))
refused_rightly t k over (goes_on, inr (never, more)) at_end = (goes_on, inl never)

module _ (t : ConnectionHistory) (k : Connection) (over : Bool) (at_end : t.ended ≡ true → over ≡ true) (off : List ℕ)
    (quiet : (off ≡ []) ⊎ (t.ended ≡ false)) where
  refusing_told : IsRefusedAfter t.exchanges t.went → Ends end.BadHead t k.inbox → Told t k over off
  refusing_told refused why = inr (refused, refused_rightly t k over why at_end, no_request t k off why quiet)

  told_by : (s : State) → StandsSo s t k → Told t k over off
  told_by state.Looking free = inl (inl free.told)
  told_by state.Reading (free, unfinished, seldom) = inl (inl free.told)
  told_by (state.Writing None) (r, goes_on) = replying_told t k over off r
  told_by (state.Writing (Some end.Closed)) (r, why) = replying_told t k over off r
  told_by (state.Writing (Some end.Limit)) (r, why) = replying_told t k over off r
  told_by (state.Writing (Some end.BadHead)) (r, why) =
      refusing_told (take k.sent refusal, drop k.sent refusal, sym (take-append-drop k.sent refusal), r.told) why
  told_by (state.Writing (Some end.Device)) (r, why) = absurd why
  told_by (state.Ended end.Closed) (told, why) = inl (inl told)
  told_by (state.Ended end.Limit) (told, why) = inl (inl told)
  told_by (state.Ended end.BadHead) (told, why) = refusing_told (refusal, [], sym (append-nil refusal), told) why
  told_by (state.Ended end.Device) (told, why) = absurd why

replying_opened : (t : ConnectionHistory) (k : Connection) → IsReplying t k → AreOpenButLast t.exchanges
replying_opened t k r = inr (r.before, r.last, r.is_last.all, r.opened)

-- nothing was answered after a request that closes the connection
opened_by : (s : State) (t : ConnectionHistory) (k : Connection) → StandsSo s t k → AreOpenButLast t.exchanges
opened_by state.Looking t k free = inl free.goes_on.0
opened_by state.Reading t k (free, unfinished, seldom) = inl free.goes_on.0
opened_by (state.Writing None) t k (r, goes_on) = inl goes_on.0
opened_by (state.Writing (Some end.Closed)) t k (r, why) = replying_opened t k r
opened_by (state.Writing (Some end.Limit)) t k (r, why) = replying_opened t k r
opened_by (state.Writing (Some end.BadHead)) t k (r, why) = inl why.0.0
opened_by (state.Writing (Some end.Device)) t k (r, why) = absurd why
opened_by (state.Ended end.Closed) t k (told, inl (goes_on, none, over)) = inl goes_on.0
opened_by (state.Ended end.Closed) t k (told, inr ((before, last, is_last, opened, closing), more)) =
    inr (before, last, is_last.all, opened)
opened_by (state.Ended end.Limit) t k (told, why) = inl why.0
opened_by (state.Ended end.BadHead) t k (told, why) = inl why.0.0
opened_by (state.Ended end.Device) t k (told, why) = absurd why

-- of one of which nothing came and to which nothing went
told_none : (t : Traffic) → IsUntouched t → IsConnectionTold [] t
told_none t untouched = record {
  rest = [];
  spelled = untouched.came;
  whole = All-nil (λ x. IsWholeRequest x.request);
  opened = inl (All-nil (λ x. LeavesOpen x.request));
  told = inl (inl untouched.went);
  few = omega arith;
  pieces = 0;
  unread = [];
  off = [];
  read_off = 0;
  seldom = omega arith;
  counted = untouched.reads;
  some_off = omega arith;
  reading = at_first;
  bounded = omega arith;
  parts = refl;
  quiet = inl refl;
  closes = λ told. let clash = sym untouched.hung_up ∙ told in absurd cc;
}

module _ {P : Type 0} (traffic : P → Traffic) where
  abbrev number : Client P → ℕ
  number k = (traffic k.peer).number

  still_none : (xs : List Exchange) (k : Client P) → (is : IsClient traffic xs k)
      → (is.off ≡ []) ⊎ (is.history.ended ≡ false)
  still_none xs k is =
      elim is.quiet [
        | inl none ↦ inl none
        | inr x ↦ inr x.2
      ]

  module _ (xs : List Exchange) (k : Client P) (is : IsClient traffic xs k) where
    abbrev Ended : Bool → Type 0
    Ended ended =
        HasEnded is.history.exchanges is.history.pieces ended k.connection.inbox ((traffic k.peer).went)

    ended_so : (e : ServeEnd) → k.connection.state ≡ state.Ended e → (ended : Bool) → is.history.ended ≡ ended
        → Ended ended
    ended_so e at ended same =
        let (told, why) = stands_at is.history k.connection (state.Ended e) is.has at in
        (e, is.history, refl, refl, same, why, is.sent ∙ told)

    has_ended : (is.off ≡ []) ⊎ Ended false
    has_ended =
        elim is.quiet [
          | inl none ↦ inl none
          | inr x ↦ inr (ended_so x.0 x.1 false x.2)
        ]

    has_closed : (traffic k.peer).hung_up ≡ true
        → (ended : Bool) × (ended ≡ true → (traffic k.peer).over ≡ true) × Ended ended
    has_closed told =
        let (e, at) = is.leaving (sym is.hung_up ∙ told) in
        (is.history.ended, is.at_end, ended_so e at is.history.ended refl)

  pub client_told : (xs : List Exchange) (k : Client P) → IsClient traffic xs k → IsConnectionTold xs (traffic k.peer)
  client_told xs k is =
      let told =
      told_by is.history k.connection ((traffic k.peer).over) is.at_end is.off (still_none xs k is) k.connection.state
      is.has.stands in
      let spelled =
      is.heard ∙ ap (λ s. s ++ is.off) is.has.came
      ∙ append_assoc (requests_of is.history.exchanges) k.connection.inbox is.off in
      subst (λ (xs : List Exchange). IsConnectionTold xs (traffic k.peer)) is.answered
      (record {
        rest = k.connection.inbox ++ is.off;
        spelled = spelled;
        whole = is.has.whole;
        opened = opened_by k.connection.state is.history k.connection is.has.stands;
        told = rw is.sent told;
        few = is.has.few;
        pieces = is.history.pieces;
        unread = k.connection.inbox;
        off = is.off;
        read_off = is.read_off;
        seldom = omega (arith, is.has.seldom);
        counted = is.counted;
        some_off = is.some_off;
        reading = is.has.reading;
        bounded = is.has.bounded;
        parts = refl;
        quiet = has_ended xs k is;
        closes = has_closed xs k is;
      })

  -- ---- lists of those that have gone
  has_gone_more : (n : ℕ) (gone : List (Past P)) (one : Past P) → HasGone traffic n gone
      → HasGone traffic n (gone ++ one ∷ [])
  has_gone_more n gone one (front, it, rest, is, equal) = (
    front,
    it,
    rest ++ one ∷ [],
    ap (λ (all : List (Past P)). all ++ one ∷ []) is ∙ append_assoc front (it ∷ rest) (one ∷ []),
    equal,
  )

  apart_more : (gone : List (Past P)) (one : Past P) → AreApart traffic gone
      → All (λ other. number_past traffic other ≢ number_past traffic one) gone → AreApart traffic (gone ++ one ∷ [])
  apart_more [] one apart others =
      (All-nil (λ (other : Past P). number_past traffic other ≢ number_past traffic one), tt)
  apart_more (it ∷ gone) one (first, rest) others = (
    All-push (λ (other : Past P). number_past traffic other ≢ number_past traffic it) gone one first
        (λ equal. others 0 it (omega arith) (sym equal)),
    apart_more gone one rest (λ i d inside. others (suc i) d (omega arith)),
  )

  -- none came yet
  pub kept_none : (s : Clients P) → AreGone s → s.gone.items ≡ [] → (n : ℕ) → AreKept traffic n n [] s
  kept_none s empty none n = record {
    numbered = record {
      order = omega arith;
      known = All-nil (λ turn. IsHandedOut n n turn.0);
      counted = λ place k at. let clash = sym (empty place) ∙ at in absurd cc;
      apart = λ place other k l at there same. let clash = sym (empty place) ∙ at in absurd cc;
      left = λ place k at. let clash = sym (empty place) ∙ at in absurd cc;
      past = rw none (All-nil (λ (one : Past P). IsHandedOut n n (number_past traffic one)));
      once = rw none tt;
      found = λ number within. absurd (omega (arith, within.0, within.1));
    };
    here = λ place k at. let clash = sym (empty place) ∙ at in absurd cc;
    gone = rw none (All-nil (IsPast traffic []));
  }

  -- nothing changed
  kept_same : (few many : ℕ) (turns : List Turn) (s u : Clients P) → u.places.items ≡ s.places.items
      → u.gone.items ≡ s.gone.items → AreKept traffic few many turns s → AreKept traffic few many turns u
  kept_same few many turns s u items gone kept = record {
    numbered = record {
      order = kept.numbered.order;
      known = kept.numbered.known;
      counted = λ place k at. kept.numbered.counted place k (rw items at at);
      apart = λ place other k l at there same.
          kept.numbered.apart place other k l (rw items at at) (rw items at there) same;
      left = λ place k at. rw gone (kept.numbered.left place k (rw items at at));
      past = rw gone kept.numbered.past;
      once = rw gone kept.numbered.once;
      found = λ number within. rw (items, gone) (kept.numbered.found number within);
    };
    here = λ place k at. kept.here place k (rw items at at);
    gone = rw gone kept.gone;
  }

  -- all have gone
  module _ (few many : ℕ) (turns : List Turn) (s : Clients P) (kept : AreKept traffic few many turns s)
      (empty : AreGone s) where
    gone_of : (n : ℕ) → IsHandedOut few many n → HasGone traffic n s.gone.items
    gone_of n within =
        elim (kept.numbered.found n within) [
          | inl x ↦ let clash = sym (empty x.0) ∙ x.2 in absurd cc
          | inr gone ↦ gone
        ]

    pub kept_told : AreConnectionsTold traffic turns s.gone.items
    kept_told = record {
      known = λ i d inside. gone_of (get_or turns i d).0 (kept.numbered.known i d inside);
      apart = kept.numbered.once;
      told = kept.gone;
    }

    pub kept_those : AreThose traffic few many s.gone.items
    kept_those = record { within = kept.numbered.past; found = gone_of }

  module _ (few many : ℕ) (turns : List Turn) (s : Clients P) (kept : AreKept traffic few many turns s) where
    within_more : (n : ℕ) → IsHandedOut few many n → IsHandedOut few (many + 1) n
    within_more n within = (within.0, omega (arith, within.1))

    -- of the next number none is here or has gone, and nothing was answered
    unheard : of many turns ≡ []
    unheard = of_none many turns (λ i d inside. (kept.numbered.known i d inside).1)

    -- a newcomer was turned away
    module _ (u : Clients P) (closed : Closed P) (why : Away) (place : ℕ)
        (next : (traffic closed.peer).number ≡ many)
        (items : u.places.items ≡ s.places.items)
        (gone : u.gone.items ≡ s.gone.items ++ (closed, (departure.TurnedAway why, place)) ∷ [])
        (untouched : IsUntouched (traffic closed.peer)) where
      abbrev away : Past P
      away = (closed, (departure.TurnedAway why, place))

      away_found : (n : ℕ) (b : Bool) → (n == many) ≡ b → IsHandedOut few (many + 1) n
          → ((other : ℕ) × (w : Client P) × IsAt u other w × (number w ≡ n)) ⊎ HasGone traffic n u.gone.items
      away_found n true e within =
          inr (s.gone.items, away, [], gone, next ∙ sym (eqb-true _ _ e))
      away_found n false e within =
          let other : n ≢ many = eqb-false _ _ e in
          elim (kept.numbered.found n (within.0, omega (arith, other, within.1))) [
            | inl x ↦ inl (x.0, x.1, rw items x.2, x.3)
            | inr x ↦ inr (rw gone (has_gone_more n s.gone.items away x))
          ]

      away_past : IsPast traffic turns away
      away_past = (
        subst (λ (xs : List Exchange). IsConnectionTold xs (traffic closed.peer))
            (sym (ap (λ (n : ℕ). of n turns) next ∙ unheard))
            (told_none (traffic closed.peer) untouched),
        untouched,
      )

      pub kept_away : AreKept traffic few (many + 1) turns u
      kept_away = record {
        numbered = record {
          order = omega (arith, kept.numbered.order);
          known = λ i d inside. within_more (get_or turns i d).0 (kept.numbered.known i d inside);
          counted = λ other w at. within_more (number w) (kept.numbered.counted other w (rw items at at));
          apart = λ one two v w at there equal.
              kept.numbered.apart one two v w (rw items at at) (rw items at there) equal;
          left = λ other w at. rw gone
              (All-push (λ (one : Past P). number_past traffic one ≢ number w) s.gone.items away
              (kept.numbered.left other w (rw items at at))
              (λ equal.
              let low = (kept.numbered.counted other w (rw items at at)).1 in
              absurd (omega (arith, low, equal, next))));
          past = rw gone
              (All-push (λ (one : Past P). IsHandedOut few (many + 1) (number_past traffic one)) s.gone.items away
              (λ i d inside.
              within_more (number_past traffic (get_or s.gone.items i d)) (kept.numbered.past i d inside))
              (omega (arith, kept.numbered.order, next), omega (arith, next)));
          once = rw gone
              (apart_more s.gone.items away kept.numbered.once
              (λ i d inside equal.
              let low = (kept.numbered.past i d inside).1 in
              absurd (omega (arith, low, equal, next))));
          found = λ n within. away_found n (n == many) refl within;
        };
        here = λ other w at. kept.here other w (rw items at at);
        gone = rw gone (All-push (IsPast traffic turns) s.gone.items away kept.gone away_past);
      }

    module _ (place : ℕ) (inside : place < length s.places.items) where
      -- a newcomer
      module _ (k : Client P) (free : get_or s.places.items place None ≡ None) (next : number k ≡ many)
          (is : IsClient traffic [] k) where
        abbrev seated : Clients P
        seated = record { places = with_item s.places place (Some k); gone = s.gone }

        seated_at : (other : ℕ) (w : Client P) → IsAt seated other w
            → ((other ≡ place) × (w ≡ k)) ⊎ ((other ≢ place) × IsAt s other w)
        seated_at other w at =
            elim (where_is s.places.items place (Some k) inside other w at) [
              | inl x ↦ inl (x.0, sym (same_Some k w x.1))
              | inr x ↦ inr x
            ]

        seated_counted : (other : ℕ) (w : Client P)
            → ((other ≡ place) × (w ≡ k)) ⊎ ((other ≢ place) × IsAt s other w) → IsHandedOut few (many + 1) (number w)
        seated_counted other w (inl (here, same)) =
            rw (same, next) (kept.numbered.order, omega arith)
        seated_counted other w (inr (there, at)) = within_more (number w) (kept.numbered.counted other w at)

        seated_apart : (one two : ℕ) (v w : Client P)
            → ((one ≡ place) × (v ≡ k)) ⊎ ((one ≢ place) × IsAt s one v)
            → ((two ≡ place) × (w ≡ k)) ⊎ ((two ≢ place) × IsAt s two w) → number v ≡ number w → one ≡ two
        seated_apart one two v w (inl (here, same)) (inl (too, also)) equal = here ∙ sym too
        seated_apart one two v w (inl (here, same)) (inr (there, at)) equal =
            absurd (omega (arith, next, ap number same, equal, (kept.numbered.counted two w at).1))
        seated_apart one two v w (inr (there, at)) (inl (here, same)) equal =
            absurd (omega (arith, next, ap number same, equal, (kept.numbered.counted one v at).1))
        seated_apart one two v w (inr (there, at)) (inr (too, also)) equal =
            kept.numbered.apart one two v w at also equal

        seated_left : (other : ℕ) (w : Client P) → ((other ≡ place) × (w ≡ k)) ⊎ ((other ≢ place) × IsAt s other w)
            → All (λ one. number_past traffic one ≢ number w) s.gone.items
        seated_left other w (inl (here, same)) = λ i d within equal.
            let low = (kept.numbered.past i d within).1 in
            let high : number w ≡ many = ap number same ∙ next in
            absurd (omega (arith, low, high, equal))
        seated_left other w (inr (there, at)) = kept.numbered.left other w at

        seated_found : (n : ℕ) (b : Bool) → (n == many) ≡ b → IsHandedOut few (many + 1) n
            → ((other : ℕ) × (w : Client P) × IsAt seated other w × (number w ≡ n)) ⊎ HasGone traffic n s.gone.items
        seated_found n true e within =
            inl (place, k, is_there s.places.items place (Some k) inside, next ∙ sym (eqb-true _ _ e))
        seated_found n false e within =
            let other : n ≢ many = eqb-false _ _ e in
            elim (kept.numbered.found n (within.0, omega (arith, other, within.1))) [
              | inl x ↦ inl (
                x.0,
                x.1,
                is_still s.places.items place (Some k) inside x.0
                    (λ same. let clash : Some x.1 ≡ None = sym x.2 ∙ rw same free in absurd cc) ∙ x.2,
                x.3,
              )
              | inr x ↦ inr x
            ]

        seated_here : (other : ℕ) (w : Client P) → ((other ≡ place) × (w ≡ k)) ⊎ ((other ≢ place) × IsAt s other w)
            → IsClient traffic (of (number w) turns) w
        seated_here other w (inl (here, same)) =
            let none : of (number k) turns ≡ [] = ap (λ (n : ℕ). of n turns) next ∙ unheard in
            subst (λ (w : Client P). IsClient traffic (of (number w) turns) w) (sym same)
            (subst (λ (xs : List Exchange). IsClient traffic xs k) (sym none) is)
        seated_here other w (inr (there, at)) = kept.here other w at

        pub kept_seated : AreKept traffic few (many + 1) turns seated
        kept_seated = record {
          numbered = record {
            order = omega (arith, kept.numbered.order);
            known = λ i d within. within_more (get_or turns i d).0 (kept.numbered.known i d within);
            counted = λ other w at. seated_counted other w (seated_at other w at);
            apart = λ one two v w at there equal.
                seated_apart one two v w (seated_at one v at) (seated_at two w there) equal;
            left = λ other w at. seated_left other w (seated_at other w at);
            past = λ i d within.
                within_more (number_past traffic (get_or s.gone.items i d)) (kept.numbered.past i d within);
            once = kept.numbered.once;
            found = λ n within. seated_found n (n == many) refl within;
          };
          here = λ other w at. seated_here other w (seated_at other w at);
          gone = kept.gone;
        }

      -- the connection at the place goes
      module _ (k : Client P) (stood : IsAt s place k) (u : Clients P) (closed : Closed P) (had : Departure × ℕ)
          (peer : closed.peer ≡ k.peer) (may : MayGo had.0 (traffic k.peer))
          (places : u.places.items ≡ slice_set s.places.items place None)
          (gone : u.gone.items ≡ s.gone.items ++ (closed, had) ∷ []) where
        same_number : (traffic closed.peer).number ≡ number k
        same_number = ap (λ (p : P). (traffic p).number) peer

        still_at : (other : ℕ) (w : Client P) → IsAt u other w → (other ≢ place) × IsAt s other w
        still_at other w at =
            elim (where_is s.places.items place None inside other w (rw (sym places) at)) [
              | inl x ↦ let clash = x.1 in absurd cc
              | inr x ↦ x
            ]

        was_at : (n other : ℕ) (w : Client P) (b : Bool) → (other == place) ≡ b → IsAt s other w → number w ≡ n
            → ((other : ℕ) × (w : Client P) × IsAt u other w × (number w ≡ n)) ⊎ HasGone traffic n u.gone.items
        was_at n other w true e at equal =
            let here : other ≡ place = eqb-true _ _ e in
            let same : w ≡ k = same_Some w k (sym (rw here at at) ∙ stood) in
            inr (s.gone.items, (closed, had), [], gone, same_number ∙ sym (ap number same) ∙ equal)
        was_at n other w false e at equal =
            inl (other, w, rw places (is_still s.places.items place None inside other (eqb-false _ _ e) ∙ at), equal)

        gone_found : (n : ℕ)
            → ((other : ℕ) × (w : Client P) × IsAt s other w × (number w ≡ n)) ⊎ HasGone traffic n s.gone.items
            → ((other : ℕ) × (w : Client P) × IsAt u other w × (number w ≡ n)) ⊎ HasGone traffic n u.gone.items
        gone_found n (inl (other, w, at, equal)) = was_at n other w (other == place) refl at equal
        gone_found n (inr past) = inr (rw gone (has_gone_more n s.gone.items (closed, had) past))

        gone_past : IsPast traffic turns (closed, had)
        gone_past = (
          subst (λ (p : P). IsConnectionTold (of (traffic p).number turns) (traffic p)) (sym peer)
              (client_told (of (number k) turns) k (kept.here place k stood)),
          subst (λ (p : P). MayGo had.0 (traffic p)) (sym peer) may,
        )

        pub kept_gone : AreKept traffic few many turns u
        kept_gone = record {
          numbered = record {
            order = kept.numbered.order;
            known = kept.numbered.known;
            counted = λ other w at. kept.numbered.counted other w (still_at other w at).1;
            apart = λ one two v w at there equal.
                kept.numbered.apart one two v w (still_at one v at).1 (still_at two w there).1 equal;
            left = λ other w at. rw gone
                (All-push (λ (one : Past P). number_past traffic one ≢ number w) s.gone.items (closed, had)
                (kept.numbered.left other w (still_at other w at).1)
                (λ equal. (still_at other w at).0
                (kept.numbered.apart other place w k (still_at other w at).1 stood (sym equal ∙ same_number))));
            past = rw gone
                (All-push (λ (one : Past P). IsHandedOut few many (number_past traffic one)) s.gone.items (closed, had)
                kept.numbered.past (rw same_number (kept.numbered.counted place k stood)));
            once = rw gone
                (apart_more s.gone.items (closed, had) kept.numbered.once
                (λ i d within equal. kept.numbered.left place k stood i d within (equal ∙ same_number)));
            found = λ n within. gone_found n (kept.numbered.found n within);
          };
          here = λ other w at. kept.here other w (still_at other w at).1;
          gone = rw gone (All-push (IsPast traffic turns) s.gone.items (closed, had) kept.gone gone_past);
        }

      -- the connection at the place goes one step
      module _ (k l : Client P) (stood : IsAt s place k) (same_number : number l ≡ number k) (more : List Exchange)
          (is : IsClient traffic (of (number k) turns ++ more) l) where
        abbrev turned : Clients P
        turned = record { places = with_item s.places place (Some l); gone = s.gone }

        abbrev all : List Turn
        all = turns ++ numbered (number k) more

        turned_at : (other : ℕ) (w : Client P) → IsAt turned other w
            → ((other ≡ place) × (w ≡ l)) ⊎ ((other ≢ place) × IsAt s other w)
        turned_at other w at =
            elim (where_is s.places.items place (Some l) inside other w at) [
              | inl x ↦ inl (x.0, sym (same_Some l w x.1))
              | inr x ↦ inr x
            ]

        -- whose number it has, it stood at the same place
        stood_at : (other : ℕ) (w : Client P) → IsAt turned other w
            → (v : Client P) × IsAt s other v × (number v ≡ number w)
        stood_at other w at =
            elim (turned_at other w at) [
              | inl x ↦ (k, rw x.0 stood, sym same_number ∙ sym (ap number x.1))
              | inr x ↦ (w, x.1, refl)
            ]

        turned_here : (other : ℕ) (w : Client P) → ((other ≡ place) × (w ≡ l)) ⊎ ((other ≢ place) × IsAt s other w)
            → IsClient traffic (of (number w) all) w
        turned_here other w (inl (here, same)) =
            subst (λ (w : Client P). IsClient traffic (of (number w) all) w) (sym same)
            (subst (λ (xs : List Exchange). IsClient traffic xs l)
            (sym (own_more (number k) turns more) ∙ ap (λ (n : ℕ). of n all) (sym same_number)) is)
        turned_here other w (inr (differs, at)) =
            let other_number : number k ≢ number w = λ equal.
            differs (kept.numbered.apart other place w k at stood (sym equal)) in
            subst (λ (xs : List Exchange). IsClient traffic xs w)
            (sym (others_same (number w) (number k) turns more other_number))
            (kept.here other w at)

        was_there : (n other : ℕ) (w : Client P) (b : Bool) → (other == place) ≡ b → IsAt s other w → number w ≡ n
            → ((other : ℕ) × (w : Client P) × IsAt turned other w × (number w ≡ n)) ⊎ HasGone traffic n s.gone.items
        was_there n other w true e at equal =
            let here : other ≡ place = eqb-true _ _ e in
            let same : w ≡ k = same_Some w k (sym (rw here at at) ∙ stood) in
            inl (place, l, is_there s.places.items place (Some l) inside, same_number ∙ sym (ap number same) ∙ equal)
        was_there n other w false e at equal =
            inl (other, w, is_still s.places.items place (Some l) inside other (eqb-false _ _ e) ∙ at, equal)

        turned_found : (n : ℕ)
            → ((other : ℕ) × (w : Client P) × IsAt s other w × (number w ≡ n)) ⊎ HasGone traffic n s.gone.items
            → ((other : ℕ) × (w : Client P) × IsAt turned other w × (number w ≡ n)) ⊎ HasGone traffic n s.gone.items
        turned_found n (inl (other, w, at, equal)) = was_there n other w (other == place) refl at equal
        turned_found n (inr past) = inr past

        turned_past : (one : Past P) → number_past traffic one ≢ number k → IsPast traffic turns one
            → IsPast traffic all one
        turned_past one other (told, away) = (
          subst (λ (xs : List Exchange). IsConnectionTold xs (traffic_past traffic one))
              (sym (others_same (number_past traffic one) (number k) turns more (λ equal. other (sym equal)))) told,
          away,
        )

        pub kept_turned : AreKept traffic few many all turned
        kept_turned = record {
          numbered = record {
            order = kept.numbered.order;
            known = All-append (λ turn. IsHandedOut few many turn.0) turns (numbered (number k) more)
                kept.numbered.known
                (known_more (IsHandedOut few many) (number k) more (kept.numbered.counted place k stood));
            counted = λ other w at.
                let (v, there, equal) = stood_at other w at in
                subst (IsHandedOut few many) equal (kept.numbered.counted other v there);
            apart = λ one two v w at there equal.
                let (a, at_a, same_a) = stood_at one v at in
                let (b, at_b, same_b) = stood_at two w there in
                kept.numbered.apart one two a b at_a at_b (same_a ∙ equal ∙ sym same_b);
            left = λ other w at.
                let (v, there, equal) = stood_at other w at in
                subst (λ (n : ℕ). All (λ (one : Past P). number_past traffic one ≢ n) s.gone.items) equal
                (kept.numbered.left other v there);
            past = kept.numbered.past;
            once = kept.numbered.once;
            found = λ n within. turned_found n (kept.numbered.found n within);
          };
          here = λ other w at. turned_here other w (turned_at other w at);
          gone = λ i d within.
              turned_past (get_or s.gone.items i d) (kept.numbered.left place k stood i d within)
              (kept.gone i d within);
        }

  -- one of which no more were answered wasn't, and may wait
  pub not_answered : {H : Type 0} (may_wait : H → List ℕ → Type 0) (k l : Client P) (h : H) (xs : List Exchange)
      → IsClient traffic xs k → IsClient traffic xs l → k.connection.state ≡ state.Looking
      → HasRequest k.connection → AnswersFirst may_wait k h l → KeepsWaiting may_wait k.connection h
  not_answered may_wait k l h xs before after looking has first =
      elim (first looking has) [
        | inl more ↦
            let same = before.has.requests ∙ ap length before.answered in
            let still = after.has.requests ∙ ap length after.answered in
            absurd (omega (arith, more, same, still))
        | inr waits ↦ waits
      ]

  -- the request at the front of what waits is the next one
  next_request : (turns : List Turn) (k : Client P) → IsClient traffic (of (number k) turns) k → (size : ℕ)
      → IsWholeRequest (take size k.connection.inbox)
      → IsNextRequest (traffic k.peer) turns (take size k.connection.inbox)
  next_request turns k client size whole =
      let inbox = k.connection.inbox in
      let done = of (number k) turns in (
        drop size inbox ++ client.off,
        client.heard
            ∙ ap (λ (came : List ℕ). came ++ client.off)
            (client.has.came
            ∙ ap (λ (xs : List Exchange). requests_of xs ++ inbox) client.answered
            ∙ ap (λ (all : List ℕ). requests_of done ++ all) (sym (take-append-drop size inbox)))
            ∙ append_assoc (requests_of done) (take size inbox ++ drop size inbox) client.off
            ∙ ap (λ (all : List ℕ). requests_of done ++ all)
            (append_assoc (take size inbox) (drop size inbox) client.off)
            ∙ sym (append_assoc (requests_of done) (take size inbox) (drop size inbox ++ client.off)),
        whole,
      )

  module _ (s : Clients P) (place : ℕ) (inside : place < length s.places.items) (old new : Option (Client P))
      (is : old ≡ get_or s.places.items place old) where
    abbrev after : Clients P
    after = record { places = with_item s.places place new; gone = s.gone }

    unchanged : old ≡ None → new ≡ None → slice_set s.places.items place new ≡ s.places.items
    unchanged none still =
        ap (λ (o : Option (Client P)). slice_set s.places.items place o)
        (still ∙ sym (read_at s.places.items place old None inside is none))
        ∙ set-get_or s.places.items place None

    -- at the place there is nobody, or one that was there
    still_place : (u : Clients P) → u.places.items ≡ slice_set s.places.items place new
        → ((l : Client P) → new ≡ Some l → (k : Client P) × (old ≡ Some k) × IsLaterOn (traffic k.peer) (traffic l.peer))
        → AreStill traffic s u
    still_place u items one other l at =
        elim (where_is s.places.items place new inside other l (rw (sym items) at)) [
          | inl x ↦
              let (k, was, later) = one l x.1 in
              (k, rw x.0 (read_at s.places.items place old (Some k) inside is was), later)
          | inr x ↦ (l, x.1, later_same (traffic l.peer))
        ]

    pub still_free : (u : Clients P) → u.places.items ≡ slice_set s.places.items place new → new ≡ None
        → AreStill traffic s u
    still_free u items none = still_place u items (λ l e. let clash = sym none ∙ e in absurd cc)

    still_one : (k l : Client P) → old ≡ Some k → new ≡ Some l → IsLaterOn (traffic k.peer) (traffic l.peer)
        → AreStill traffic s after
    still_one k l was now later =
        still_place after refl
        (λ w e. (
          k,
          was,
          subst (λ (w : Client P). IsLaterOn (traffic k.peer) (traffic w.peer)) (same_Some l w (sym now ∙ e)) later,
        ))

    none_changed : old ≡ None → new ≡ None → (few many : ℕ) (turns : List Turn) → AreKept traffic few many turns s
        → AreKept traffic few many turns after
    none_changed none still few many turns kept =
        kept_same few many turns s after (unchanged none still) refl kept

    keep_one : IsPlaceKept traffic old new → (few many : ℕ) (turns : List Turn) → AreKept traffic few many turns s
        → AreKept traffic few many turns after
    keep_one (inl (none, still)) few many turns kept = none_changed none still few many turns kept
    keep_one (inr (k, l, was, now, keeps)) few many turns kept =
        let at : IsAt s place k = read_at s.places.items place old (Some k) inside is was in
        let client =
        subst (λ (xs : List Exchange). IsClient traffic xs l) (sym (append-nil (of (number k) turns)))
        (keeps.kept (of (number k) turns) (kept.here place k at)) in
        rw now
        (subst
        (λ (all : List Turn).
        AreKept traffic few many all (record { places = with_item s.places place (Some l); gone = s.gone }))
        (append-nil turns) (kept_turned few many turns s kept place inside k l at keeps.later.number [] client))

    kept_still : IsPlaceKept traffic old new → AreStill traffic s after
    kept_still (inl (none, still)) = still_free after refl still
    kept_still (inr (k, l, was, now, keeps)) = still_one k l was now keeps.later

    -- whoever stands at the place is answered nothing more
    pub keep_place : IsPlaceKept traffic old new → AnswersNoMore traffic s after
    keep_place keeps = (kept_still keeps, keep_one keeps)

    one_answered : (one : HeldRequest) (more : List Exchange) (n : ℕ) (MayPass : List Turn → HeldRequest → Type 0)
        → HasAt traffic s one.place n → IsOneAt one.moment more → (more ≡ [] → MayPass [] one)
        → AreAnsweredOf (IsHeldAt traffic s) MayPass [] (one ∷ []) (numbered n more)
    one_answered one more n MayPass there (inl none) passes = inl (passes none, ap (numbered n) none)
    one_answered one more n MayPass there (inr (x, only, at)) passes =
        inr (n, x, [], (there, at), ap (numbered n) only, refl)

    -- one that isn't answered may wait
    one_waits : {H : Type 0} (service : Service H) (before at : H) (one : HeldRequest) (k : Client P)
        → IsAt s one.place k → (turns : List Turn)
        → IsClient traffic (of (number k) turns) k → GroupedSession service before [] at
        → KeepsWaiting service.may_wait k.connection at → (more : List Exchange) → more ≡ []
        → WaitsAt (MayWaitAfter service before at (numbered (number k) more)) traffic s turns [] one
    one_waits service before at one k stood turns client session (size, whole, wait) more none =
        rw none (
          k,
          take size k.connection.inbox,
          stood,
          subst (λ (all : List Turn). IsNextRequest (traffic k.peer) all (take size k.connection.inbox))
              (sym (append-nil turns)) (next_request turns k client size whole),
          may_now service before at [] session (take size k.connection.inbox) wait,
        )

    -- whoever stands at the place is answered, at the moment, or may wait
    pub answer_place : {H : Type 0} (service : Service H) (before at : H) (one : HeldRequest) → one.place ≡ place
        → (old ≡ None → ⊥)
        → ((k l : Client P) (xs : List Exchange) → old ≡ Some k → new ≡ Some l → IsClient traffic xs k
        → IsClient traffic xs l → GroupedSession service before [] at → KeepsWaiting service.may_wait k.connection at)
        → IsPlaceAnswered service traffic one.moment before old at new
        → Serves service traffic (one ∷ []) before s at after
    answer_place service before at one here there waits (inl (none, still, same)) = absurd (there none)
    answer_place service before at one here there waits (inr (k, l, was, now, step)) = (
      still_one k l was now step.later,
      λ few many turns kept.
          let stood : IsAt s place k = read_at s.places.items place old (Some k) inside is was in
          let stands = kept.here place k stood in
          let (more, few_more, session, client) = step.answered (of (number k) turns) stands in
          let grouped = grouped_alone service more before at session in
          let is_at : IsAt s one.place k = rw here stood in
          record {
            turns = numbered (number k) more;
            session = subst (λ (xs : List Exchange). GroupedSession service before xs at)
                (sym (exchanges_numbered (number k) more)) grouped;
            holds = (
              one_answered one more (number k)
                  (WaitsAt (MayWaitAfter service before at (numbered (number k) more)) traffic s turns)
                  (k, is_at, refl) few_more
                  (λ none.
                  let alone = subst (λ (xs : List Exchange). GroupedSession service before xs at) none grouped in
                  one_waits service before at one k is_at turns stands alone
                  (waits k l (of (number k) turns) was now stands
                  (subst (λ (xs : List Exchange). IsClient traffic xs l)
                  (ap (λ (more : List Exchange). of (number k) turns ++ more) none
                  ∙ append-nil (of (number k) turns)) client) alone) more none),
              rw now (kept_turned few many turns s kept place inside k l stood step.later.number more client),
            );
          },
    )

  -- a newcomer is at the place
  pub comes_seated : (s : Clients P) (place : ℕ) (inside : place < length s.places.items) (k : Client P) (peer : P)
      → k.peer ≡ peer
      → ComesTo traffic place peer s (record { places = with_item s.places place (Some k); gone = s.gone })
  comes_seated s place inside k peer is other l at =
      elim (where_is s.places.items place (Some k) inside other l at) [
        | inl x ↦
            inr (x.0, sym (ap number (same_Some k l x.1)) ∙ ap (λ (p : P). (traffic p).number) is)
        | inr x ↦ inl (l, x.1, later_same (traffic l.peer))
      ]

  -- nobody is answered
  pub serves_none : {H : Type 0} (service : Service H) (at : H) (s : Clients P) → Serves service traffic [] at s at s
  serves_none service at s = (
    still_same traffic s,
    λ few many turns kept.
        handled_none service at (AreServedSo service traffic [] (at, s) (at, s) (few, many) turns)
        (refl, subst (λ (all : List Turn). AreKept traffic few many all s) (sym (append-nil turns)) kept),
  )
