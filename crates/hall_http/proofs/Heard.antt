-- What was answered, one turn after another, and what the sockets heard of it.
use Rattle.std.proofs.Common.{◌≡◌, ◌∙◌, sym, ap, subst, refl, arith, inl, inr, ℕ, ◌+◌, ◌≤◌, List, [], ◌∷◌, ◌++◌, ◌≢◌}
use Rattle.std.proofs.Common.{append_assoc, get_or, take, Option, Some, None}
use Rattle.std.specs.Prelude.{All}
use Rattle.std.proofs.lemmas.List.{append-nil, map-append}
use Rattle.hall_http.specs.Progress.{TakesTurnAt}
use Rattle.hall_http.specs.Peer.{Traffic}
use Rattle.hall_http.specs.Coming.{Heard, Nexts, Said, AreCounted, since}
use Rattle.hall_http.specs.Crowd.{Admits, AreAnsweredOf, AreHandled, AreKept, AreKeptAtTurns, AreSomeKept, Holding}
use Rattle.hall_http.specs.Crowd.{AnswersNoMore, AreAsSaid, AreAtTurns, AreHeard, AreStill, IsAt, IsFor, IsFree}
use Rattle.hall_http.specs.Crowd.{heard_answer, heard_first, heard_other, heard_turn, HaveHeard, IsNoTurn, IsHeldAt}
use Rattle.hall_http.specs.Crowd.{StandsThere, HaveBecome, IsToldRightly, MayWaitAfter, IsHereOrGone, IsSameAt}
use Rattle.hall_http.specs.Crowd.{NextMayWait, Serves, WaitsAt}
use Rattle.hall_http.specs.Resting.{HasRested}
use Rattle.hall_http.specs.Steps.{StandsRightly}
use Rattle.hall_http.specs.Turns.{GroupedSession, IsNextRequest, Turn, Service, exchanges_of}
use Rattle.hall_http.specs.declared.client.Client.{Client}
use Rattle.hall_http.specs.declared.connection.Connection.{Connection}
use Rattle.hall_http.specs.declared.client.Step.{Step}
use Rattle.hall_http.specs.declared.client.Step.TheVariants as step
use Rattle.hall_http.specs.declared.clients.Clients.{Clients}
use Rattle.hall_http.specs.declared.clients.HeldRequest.{HeldRequest}
use Rattle.hall_http.specs.declared.server.Next.{Next}
use Rattle.hall_http.specs.declared.server.Next.TheVariants as next
use Rattle.hall_http.proofs.Comings.{since_none}
use Rattle.hall_http.proofs.Grouped.{grouped_last, grouped_none, grouped_then}
use Rattle.hall_http.proofs.Became.{Passes, became_now, became_on, onward}
use Rattle.hall_http.proofs.Holdings.{answered_by, answered_then, held_before, next_by, turns_by}
use Rattle.hall_http.proofs.SoFar.{still_then}

-- who stands so may wait by the other too
pub stands_by : {A B : Type 0} (one : A → List ℕ → Type 0) (other : B → List ℕ → Type 0) (a : A) (b : B)
    → ((request : List ℕ) → one a request → other b request) → (k : Connection) (how : Step)
    → StandsRightly one k a how → StandsRightly other k b how
stands_by one other a b may k step.Again so = so
stands_by one other a b may k step.Leaves so = so
stands_by one other a b may k (step.Waits what requests) so = so
stands_by one other a b may k (step.Searches requests) (looking, (size, whole, waits), many) =
    (looking, (size, whole, may (take size k.inbox) waits), many)
stands_by one other a b may k step.Holds so = so
stands_by one other a b may k step.Over so = so

module _ {P : Type 0} (traffic : P → Traffic) where
  -- what was heard, of who may wait and who became what by others too
  module _ (one other : List Turn → List ℕ → Type 0) (was is : Clients P → Type 0)
      (may : (turns : List Turn) (request : List ℕ) → one turns request → other turns request)
      (became : (s : Clients P) → was s → is s) where
    there_by : (s : Clients P) (turns : List Turn) (told : ℕ × Step) → StandsThere one s turns told
        → StandsThere other s turns told
    there_by s turns told (inl gone) = inl gone
    there_by s turns told (inr (k, at, on, so)) =
        inr (k, at, on, stands_by one other turns turns (may turns) k.connection told.1 so)

    told_by : (few : ℕ) (steps : Nexts P) (turns : List Turn) (told : ℕ × Step)
        → IsToldRightly one traffic few was steps turns told → IsToldRightly other traffic few is steps turns told
    told_by few steps turns told rightly = record {
      many = rightly.many;
      clients = rightly.clients;
      came = rightly.came;
      kept = rightly.kept;
      said = rightly.said;
      heard = rightly.heard;
      held = rightly.held;
      moments = rightly.moments;
      turned = turns_by (IsFor traffic rightly.clients.gone.items) (IsFor traffic rightly.clients.gone.items)
          (NextMayWait one (IsHereOrGone traffic rightly.clients))
          (NextMayWait other (IsHereOrGone traffic rightly.clients)) (λ steps place number it. it)
          (next_by one other (IsHereOrGone traffic rightly.clients) (IsHereOrGone traffic rightly.clients) may
          (λ t it. it)) steps rightly.heard turns rightly.held rightly.moments rightly.turned;
      later = became rightly.clients rightly.later;
      stands = there_by rightly.clients turns told rightly.stands;
      took = rightly.took;
    }

    heard_by : (few : ℕ) (steps : Nexts P) (turns : List Turn) (heard : List Heard)
        → AreHeard one traffic few was steps turns heard → AreHeard other traffic few is steps turns heard
    heard_by few steps turns heard heard_first = heard_first
    heard_by few steps turns heard (heard_other before some told it none so) =
        heard_other before some told it none (heard_by few before some told so)
    heard_by few steps turns heard (heard_answer before some more told so) =
        heard_answer before some more told (heard_by few before some told so)
    heard_by few steps turns heard (heard_turn before some told place how held so rightly) =
        heard_turn before some told place how held (heard_by few before some told so)
        (told_by few (before ++ next.Turn place ∷ []) some (place, how) rightly)

    pub have_heard_by : (old new : Said P) (turns : List Turn) → HaveHeard one traffic was old new turns
        → HaveHeard other traffic is old new turns
    have_heard_by old new turns (heard, all, so) = (heard, all, heard_by old.count (since old new) turns heard so)

module _ {H : Type 0} (service : Service H) where
  -- nothing was answered
  pub handled_none : (at : H) (Holds : List Turn → Type 0) → Holds [] → AreHandled service Holds at at
  handled_none at Holds holds =
      record { turns = []; session = grouped_none service at; holds = holds }

  -- and so it is of what holds of the same
  pub handled_same : (before after : H) (Holds Also : List Turn → Type 0) → AreHandled service Holds before after
      → ((turns : List Turn) → Holds turns → Also turns) → AreHandled service Also before after
  handled_same before after Holds Also handled also =
      record { turns = handled.turns; session = handled.session; holds = also handled.turns handled.holds }

  -- some more were answered
  pub session_after : (before at after : H) (Holds More : List Turn → Type 0)
      → (handled : AreHandled service Holds before at) → (later : AreHandled service More at after)
      → GroupedSession service before (exchanges_of (handled.turns ++ later.turns)) after
  session_after before at after Holds More handled later =
      rw (map-append (λ (turn : Turn). turn.1) handled.turns later.turns)
      (grouped_then service (exchanges_of handled.turns) (exchanges_of later.turns) before at after
      handled.session later.session)

  pub handled_then : (before at after : H) (Holds More Also : List Turn → Type 0)
      → (handled : AreHandled service Holds before at) → (later : AreHandled service More at after)
      → Also (handled.turns ++ later.turns) → AreHandled service Also before after
  handled_then before at after Holds More Also handled later also = record {
    turns = handled.turns ++ later.turns;
    session = session_after before at after Holds More handled later;
    holds = also;
  }

  -- who may wait amid all requests that were answered
  pub may_now : (before after : H) (all : List Turn)
      → GroupedSession service before (exchanges_of all) after → (request : List ℕ)
      → service.may_wait after request → MayWaitAfter service before after all all request
  may_now before after all session request may =
      (after, [], sym (append-nil all), session, grouped_none service after, may)

  pub may_still : (before at after : H) (all some : List Turn)
      → GroupedSession service at (exchanges_of some) after → (turns : List Turn)
      (request : List ℕ)
      → MayWaitAfter service before at all turns request → MayWaitAfter service before after (all ++ some) turns request
  may_still before at after all some later turns request (h, rest, is, first, second, may) = (
    h,
    rest ++ some,
    ap (λ (all : List Turn). all ++ some) is ∙ append_assoc turns rest some,
    first,
    rw (map-append (λ (turn : Turn). turn.1) rest some)
        (grouped_then service (exchanges_of rest) (exchanges_of some) h at after second later),
    may,
  )

  -- who may wait once more were answered before
  pub may_ahead : (before at after : H) (all some : List Turn)
      → GroupedSession service before (exchanges_of all) at → (turns : List Turn)
      (request : List ℕ)
      → MayWaitAfter service at after some turns request
      → MayWaitAfter service before after (all ++ some) (all ++ turns) request
  may_ahead before at after all some sooner turns request (h, rest, is, first, second, may) = (
    h,
    rest,
    ap (λ (some : List Turn). all ++ some) is ∙ sym (append_assoc all turns rest),
    rw (map-append (λ (turn : Turn). turn.1) all turns)
        (grouped_then service (exchanges_of all) (exchanges_of turns) before at h sooner first),
    second,
    may,
  )

  pub may_rest : (before at after : H) (all : List Turn) → HasRested service.rests at after → (turns : List Turn)
      (request : List ℕ)
      → MayWaitAfter service before at all turns request → MayWaitAfter service before after all turns request
  may_rest before at after all rested turns request (h, rest, is, first, second, may) = (
    h,
    rest,
    is,
    first,
    grouped_last service h (exchanges_of rest) at after second rested,
    may,
  )

  module _ {P : Type 0} (traffic : P → Traffic) where
    -- so those that are held were served
    abbrev pub AreServedSo : List HeldRequest → H × Clients P → H × Clients P → ℕ × ℕ → List Turn → List Turn → Type 0
    AreServedSo held (before, s) (after, u) (few, many) turns more =
        AreAnsweredOf (IsHeldAt traffic s) (WaitsAt (MayWaitAfter service before after more) traffic s turns) [] held
        more × AreKept traffic few many (turns ++ more) u

    -- some requests were answered, and then none
    pub serves_then : (held : List HeldRequest) (before after : H) (s m u : Clients P)
        → Serves service traffic held before s after m → AnswersNoMore traffic m u
        → Serves service traffic held before s after u
    serves_then held before after s m u serves keeps = (
      still_then traffic s m u serves.0 keeps.0,
      λ few many turns kept.
          handled_same before after (AreServedSo held (before, s) (after, m) (few, many) turns)
          (AreServedSo held (before, s) (after, u) (few, many) turns)
          (serves.1 few many turns kept) (λ more holds. (holds.0, keeps.1 few many (turns ++ more) holds.1)),
    )

    -- those that were served are kept
    pub serves_kept : (held : List HeldRequest) (before after : H) (s u : Clients P) → AreSomeKept traffic s
        → Serves service traffic held before s after u → AreSomeKept traffic u
    serves_kept held before after s u (few, many, turns, kept) serves =
        let later = serves.1 few many turns kept in (few, many, turns ++ later.turns, later.holds.1)

    -- those that were answered, by who may wait otherwise
    pub waits_by : (one other : List Turn → List ℕ → Type 0) (s : Clients P) (turns : List Turn)
        → ((some : List Turn) (request : List ℕ) → one some request → other some request)
        → (held : List HeldRequest) (more : List Turn)
        → AreAnsweredOf (IsHeldAt traffic s) (WaitsAt one traffic s turns) [] held more
        → AreAnsweredOf (IsHeldAt traffic s) (WaitsAt other traffic s turns) [] held more
    waits_by one other s turns may held more answered =
        answered_by (IsHeldAt traffic s) (IsHeldAt traffic s) (WaitsAt one traffic s turns)
        (WaitsAt other traffic s turns) [] (λ x number moment it. it) held
        (λ i d inside some (k, request, at, next, wait). (k, request, at, next, may some request wait)) [] more
        answered

    -- those that were answered after others
    waits_later : (one other : List Turn → List ℕ → Type 0) (s m : Clients P) → AreStill traffic s m
        → (turns before : List Turn)
        → ((some : List Turn) (request : List ℕ) → one some request → other (before ++ some) request)
        → (held : List HeldRequest) → All (λ one. IsSameAt s m one.place) held → (more : List Turn)
        → AreAnsweredOf (IsHeldAt traffic m) (WaitsAt one traffic m (turns ++ before)) [] held more
        → AreAnsweredOf (IsHeldAt traffic s) (WaitsAt other traffic s turns) before held more
    waits_later one other s m still turns before may held same more answered =
        subst
        (λ (all : List Turn).
        AreAnsweredOf (IsHeldAt traffic s) (WaitsAt other traffic s turns) all held more) (append-nil before)
        (answered_by (IsHeldAt traffic m) (IsHeldAt traffic s) (WaitsAt one traffic m (turns ++ before))
        (WaitsAt other traffic s turns) before (held_before traffic s m still) held
        (λ i d inside some (k, request, at, next, wait). (
          k,
          request,
          sym (same i d inside) ∙ at,
          subst (λ (all : List Turn). IsNextRequest (traffic k.peer) all request) (append_assoc turns before some)
              next,
          may some request wait,
        )) [] more answered)

    -- some more of those that are held, at whose places nothing had changed
    pub serves_more : (held others : List HeldRequest) (before at after : H) (s m u : Clients P)
        → All (λ one. IsSameAt s m one.place) others → Serves service traffic held before s at m
        → Serves service traffic others at m after u
        → Serves service traffic (held ++ others) before s after u
    serves_more held others before at after s m u same first second = (
      still_then traffic s m u first.0 second.0,
      λ few many turns kept.
          let sooner = first.1 few many turns kept in
          let later = second.1 few many (turns ++ sooner.turns) sooner.holds.1 in
          let all = sooner.turns ++ later.turns in
          handled_then before at after (AreServedSo held (before, s) (at, m) (few, many) turns)
          (AreServedSo others (at, m) (after, u) (few, many) (turns ++ sooner.turns))
          (AreServedSo (held ++ others) (before, s) (after, u) (few, many) turns) sooner later (
            answered_then (IsHeldAt traffic s) (WaitsAt (MayWaitAfter service before after all) traffic s turns) []
                held others sooner.turns later.turns
                (waits_by (MayWaitAfter service before at sooner.turns) (MayWaitAfter service before after all) s
                turns (may_still before at after sooner.turns later.turns later.session) held sooner.turns
                sooner.holds.0)
                (waits_later (MayWaitAfter service at after later.turns) (MayWaitAfter service before after all) s m
                first.0 turns sooner.turns
                (may_ahead before at after sooner.turns later.turns sooner.session) others same later.turns
                later.holds.0),
            subst (λ (all : List Turn). AreKept traffic few many all u)
                (append_assoc turns sooner.turns later.turns) later.holds.1,
          ),
    )

    -- the connections stand so after all that was answered from the first state to the last
    abbrev pub StandAfter : Said P → Said P → H → H → Clients P → List Turn → Type 0
    StandAfter old now first last s turns =
        AreKeptAtTurns (MayWaitAfter service first last turns) traffic old now turns s

    pub stand_first : (at : H) (said : Said P) (s : Clients P) → AreKept traffic said.count said.count [] s
        → StandAfter said said at at s []
    stand_first at said s kept = (
      kept,
      (
        [],
        sym (append-nil said.heard),
        subst
            (λ (steps : Nexts P).
            AreHeard (MayWaitAfter service at at []) traffic said.count (HaveBecome traffic s) steps [] [])
            (sym (since_none said)) heard_first,
      ),
    )

    module _ (old now : Said P) (before at : H) (s : Clients P) (Q : List Turn → Type 0)
        (handled : AreHandled service (λ turns. StandAfter old now before at s turns × Q turns) before at)
        (then : Said P) (u : Clients P) (passes : Passes traffic now.count s u) (R : List Turn → Type 0) where
      -- nobody had a turn, nothing was answered, and nothing was heard
      module _ (one : Next P) (more : since old then ≡ since old now ++ one ∷ []) (quiet : then.heard ≡ now.heard)
          (none : IsNoTurn one)
          (later : (turns : List Turn)
          → ((t : Traffic) → IsHereOrGone traffic s t → IsHereOrGone traffic u t) → Q turns → R turns) where
        heard_still : (may : List Turn → List ℕ → Type 0) (many : ℕ) → now.count ≤ many → (turns : List Turn)
            → AreKept traffic old.count now.count turns s → AreKept traffic old.count many turns u
            → HaveHeard may traffic (HaveBecome traffic s) old now turns
            → HaveHeard may traffic (HaveBecome traffic u) old then turns
        heard_still may many order turns kept after heard =
            let (told, is, so) =
            have_heard_by traffic may may (HaveBecome traffic s) (HaveBecome traffic u) (λ turns request may. may)
            (became_on traffic old.count now.count many turns turns s u kept after order passes) old now turns
            heard in (
              told,
              quiet ∙ is,
              rw more (heard_other (since old now) turns told one none so),
            )

        pub handled_keeps : then.count ≡ now.count → AnswersNoMore traffic s u
            → AreHandled service (λ turns. StandAfter old then before at u turns × R turns) before at
        handled_keeps same keeps =
            handled_same before at (λ turns. StandAfter old now before at s turns × Q turns)
            (λ turns. StandAfter old then before at u turns × R turns) handled
            (λ turns holds.
            let after = keeps.1 old.count now.count turns holds.0.0 in (
              (
                subst (λ (n : ℕ). AreKept traffic old.count n turns u) (sym same) after,
                heard_still (MayWaitAfter service before at turns) now.count (omega arith) turns holds.0.0
                    after holds.0.1,
              ),
              later turns
                  (onward traffic old.count now.count now.count turns turns s u holds.0.0 after (omega arith) passes)
                  holds.1,
            ))

        pub handled_admits : (place : ℕ) (peer : P) → (traffic peer).number ≡ now.count
            → then.count ≡ now.count + 1 → Admits traffic place peer s u
            → AreHandled service (λ turns. StandAfter old then before at u turns × R turns) before at
        handled_admits place peer number is admits =
            handled_same before at (λ turns. StandAfter old now before at s turns × Q turns)
            (λ turns. StandAfter old then before at u turns × R turns) handled
            (λ turns holds.
            let after = admits.1 old.count now.count turns number holds.0.0 in (
              (
                subst (λ (n : ℕ). AreKept traffic old.count n turns u) (sym is) after,
                heard_still (MayWaitAfter service before at turns) (now.count + 1) (omega arith) turns
                    holds.0.0 after holds.0.1,
              ),
              later turns
                  (onward traffic old.count now.count (now.count + 1) turns turns s u holds.0.0 after (omega arith)
                  passes) holds.1,
            ))

      -- the one at the place had its turn, in which nothing was answered
      module _ (place : ℕ) (after : H) (more : since old then ≡ since old now ++ next.Turn place ∷ [])
          (rested : HasRested service.rests at after) (how : Step)
          (here : (k : Client P) → IsAt u place k
          → (how ≢ step.Over) × StandsRightly service.may_wait k.connection after how)
          (free : IsFree u place → how ≡ step.Over)
          (takes : TakesTurnAt traffic (get_or s.places.items place None) how (get_or u.places.items place None))
        where
          abbrev steps : Nexts P
          steps = since old now ++ next.Turn place ∷ []

          abbrev May : List Turn → List ℕ → Type 0
          May = MayWaitAfter service before after handled.turns

          session : GroupedSession service before (exchanges_of handled.turns) after
          session =
              grouped_last service before (exchanges_of handled.turns) at after handled.session
              rested

          there : (o : Option (Client P)) → get_or u.places.items place None ≡ o
              → StandsThere May u handled.turns (place, how)
          there None is = inl (is, free is)
          there (Some k) is =
              let (on, so) = here k is in
              inr (
                k,
                is,
                on,
                stands_by service.may_wait May after handled.turns (may_now before after handled.turns session)
                    k.connection how so,
              )

          pub handled_turn : (read : Option (Option ℕ)) → then.count ≡ now.count
              → then.heard ≡ now.heard ++ ((place, how), read) ∷ []
              → AreCounted traffic old.count steps now.count → AreAsSaid traffic steps u → AnswersNoMore traffic s u
              → (told : List Heard) (held : List Holding) (moments : List (Option ℕ))
              → AreAtTurns (IsFor traffic u.gone.items) (NextMayWait May (IsHereOrGone traffic u)) steps told
              handled.turns held moments → R handled.turns
              → AreHandled service (λ turns. StandAfter old then before after u turns × R turns) before after
          handled_turn read same hears came said keeps told held moments turned also =
              let turns = handled.turns in
              let kept = keeps.1 old.count now.count turns handled.holds.0.0 in
              let (heard, is, so) =
              have_heard_by traffic (MayWaitAfter service before at turns) May (HaveBecome traffic s)
              (HaveBecome traffic u) (may_rest before at after turns rested)
              (became_on traffic old.count now.count now.count turns turns s u handled.holds.0.0 kept (omega arith)
              passes) old now turns handled.holds.0.1 in
              record {
                turns = turns;
                session = session;
                holds = (
                  (
                    subst (λ (n : ℕ). AreKept traffic old.count n turns u) (sym same) kept,
                    (
                      heard ++ ((place, how), read) ∷ [],
                      hears ∙ ap (λ (all : List Heard). all ++ ((place, how), read) ∷ []) is
                          ∙ append_assoc old.heard heard (((place, how), read) ∷ []),
                      rw more
                          (heard_turn (since old now) turns heard place how read so (record {
                            many = now.count;
                            clients = u;
                            came = came;
                            kept = kept;
                            said = said;
                            heard = told;
                            held = held;
                            moments = moments;
                            turned = turned;
                            later = became_now traffic u;
                            stands = there (get_or u.places.items place None) refl;
                            took = (s, now.count, handled.holds.0.0, takes);
                          })),
                    ),
                  ),
                  also,
                );
              }

      -- of those that are held some were answered
      pub handled_answer : (after : H) (held : List HeldRequest)
          → since old then ≡ since old now ++ next.Answer ∷ [] → then.count ≡ now.count → then.heard ≡ now.heard
          → Serves service traffic held at s after u
          → ((more : List Turn)
          → AreAnsweredOf (IsHeldAt traffic s)
          (WaitsAt (MayWaitAfter service at after more) traffic s handled.turns) [] held more
          → ((t : Traffic) → IsHereOrGone traffic s t → IsHereOrGone traffic u t)
          → ((turns : List Turn) (request : List ℕ) → MayWaitAfter service before at handled.turns turns request
          → MayWaitAfter service before after (handled.turns ++ more) turns request)
          → ((some : List Turn) (request : List ℕ) → MayWaitAfter service at after more some request
          → MayWaitAfter service before after (handled.turns ++ more) (handled.turns ++ some) request)
          → Q handled.turns → R (handled.turns ++ more))
          → AreHandled service (λ turns. StandAfter old then before after u turns × R turns) before after
      handled_answer after held more same quiet serves also =
          let later = serves.1 old.count now.count handled.turns handled.holds.0.0 in
          let all = handled.turns ++ later.turns in
          let (heard, is, so) =
          have_heard_by traffic (MayWaitAfter service before at handled.turns)
          (MayWaitAfter service before after all) (HaveBecome traffic s) (HaveBecome traffic u)
          (may_still before at after handled.turns later.turns later.session)
          (became_on traffic old.count now.count now.count handled.turns all s u handled.holds.0.0 later.holds.1
          (omega arith) passes) old now handled.turns handled.holds.0.1 in
          handled_then before at after (λ turns. StandAfter old now before at s turns × Q turns)
          (AreServedSo held (at, s) (after, u) (old.count, now.count) handled.turns)
          (λ turns. StandAfter old then before after u turns × R turns) handled later (
            (
              subst (λ (n : ℕ). AreKept traffic old.count n all u) (sym same) later.holds.1,
              (
                heard,
                quiet ∙ is,
                rw more (heard_answer (since old now) handled.turns later.turns heard so),
              ),
            ),
            also later.turns later.holds.0
                (onward traffic old.count now.count now.count handled.turns all s u handled.holds.0.0 later.holds.1
                (omega arith) passes)
                (may_still before at after handled.turns later.turns later.session)
                (may_ahead before at after handled.turns later.turns handled.session) handled.holds.1,
          )
