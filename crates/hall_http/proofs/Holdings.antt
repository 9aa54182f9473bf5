-- Requests that are held, and how they are answered.
use Rattle.std.proofs.Common.{◌≡◌, ◌∙◌, sym, ap, subst, refl, arith, inl, inr, ℕ, ◌==◌, List, [], ◌∷◌, ◌++◌}
use Rattle.std.proofs.Common.{append_assoc}
use Rattle.std.proofs.Common.{get_or, length, Option, None, Some, true, false}
use Rattle.std.specs.Prelude.{All, Bool, cond, not, map}
use Rattle.std.proofs.lemmas.Option.{same_Some}
use Rattle.std.proofs.lemmas.List.{append-nil, length-map, map-append}
use Rattle.std.proofs.lemmas.List.Elements.{All-head, All-tail}
use Rattle.hall_http.specs.Coming.{Heard, Nexts, Said, since}
use Rattle.hall_http.specs.Connection.{AreReadings}
use Rattle.hall_http.specs.Crowd.{AreAllThere, AreAnsweredOf, AreAsSaid, AreAtMoments, AreAtTurns, AreReady, AreStill}
use Rattle.hall_http.specs.Crowd.{HasAt, Holding, IsAt, IsFor, IsFree, IsHeldAt, IsHeldFor, IsHereOrGone, IsNoTurn}
use Rattle.hall_http.specs.Crowd.{NextMayWait, WaitsAt, held_after, held_on, requests_in, without_holding}
use Rattle.hall_http.specs.Crowd.{at_answer, at_first, at_other, at_turn, at_visit}
use Rattle.hall_http.specs.Held.{HoldsNoMore, HoldsOne, IsShare, is_held, kept_on, without}
use Rattle.hall_http.specs.Peer.{Traffic}
use Rattle.hall_http.specs.Turns.{IsNextRequest, Turn}
use Rattle.hall_http.specs.declared.client.Client.{Client}
use Rattle.hall_http.specs.declared.client.Step.{Step}
use Rattle.hall_http.specs.declared.client.Step.TheVariants as step
use Rattle.hall_http.specs.declared.clients.Clients.{Clients}
use Rattle.hall_http.specs.declared.clients.HeldRequest.{HeldRequest}
use Rattle.hall_http.specs.declared.server.Next.{Next}
use Rattle.hall_http.specs.declared.server.Next.TheVariants as next
use Rattle.hall_http.proofs.Peers.{later_same}
use Rattle.hall_http.proofs.SoFar.{Grows, for_grown}

-- what was answered of those that are held was so by others too, after more requests
pub answered_by : {X : Type 0} (One Other : X → ℕ → Option ℕ → Type 0) (May Might : List Turn → X → Type 0)
    (first : List Turn)
    → ((x : X) (number : ℕ) (moment : Option ℕ) → One x number moment → Other x number moment) → (held : List X)
    → All (λ x. (some : List Turn) → May some x → Might (first ++ some) x) held → (some more : List Turn)
    → AreAnsweredOf One May some held more → AreAnsweredOf Other Might (first ++ some) held more
answered_by One Other May Might first by [] might some more none = none
answered_by One Other May Might first by (x ∷ held) might some more (inl (may, later)) =
    inl (
      All-head (λ x. (some : List Turn) → May some x → Might (first ++ some) x) x held might some may,
      answered_by One Other May Might first by held
          (All-tail (λ x. (some : List Turn) → May some x → Might (first ++ some) x) x held might) some more later,
    )
answered_by One Other May Might first by (x ∷ held) might some more (inr (number, exchange, later, there, is, rest)) =
    inr (
      number,
      exchange,
      later,
      by x number exchange.moment there,
      is,
      subst (λ (all : List Turn). AreAnsweredOf Other Might all held later)
          (sym (append_assoc first some ((number, exchange) ∷ [])))
          (answered_by One Other May Might first by held
          (All-tail (λ x. (some : List Turn) → May some x → Might (first ++ some) x) x held might)
          (some ++ (number, exchange) ∷ []) later rest),
    )

pub answered_then : {X : Type 0} (There : X → ℕ → Option ℕ → Type 0) (May : List Turn → X → Type 0)
    (turns : List Turn) (held others : List X) (some more : List Turn)
    → AreAnsweredOf There May turns held some → AreAnsweredOf There May (turns ++ some) others more
    → AreAnsweredOf There May turns (held ++ others) (some ++ more)
answered_then There May turns [] others some more none second =
    subst (λ (some : List Turn). AreAnsweredOf There May turns others (some ++ more)) (sym none)
    (subst (λ (all : List Turn). AreAnsweredOf There May all others more) (append-nil turns)
    (subst (λ (some : List Turn). AreAnsweredOf There May (turns ++ some) others more) none second))
answered_then There May turns (x ∷ held) others some more (inl (may, later)) second =
    inl (may, answered_then There May turns held others some more later second)
answered_then There May turns (x ∷ held) others some more (inr (number, exchange, later, there, is, rest)) second =
    inr (
      number,
      exchange,
      later ++ more,
      there,
      ap (λ (all : List Turn). all ++ more) is,
      answered_then There May (turns ++ (number, exchange) ∷ []) held others later more rest
          (subst (λ (all : List Turn). AreAnsweredOf There May all others more)
          (ap (λ (some : List Turn). turns ++ some) is ∙ sym (append_assoc turns ((number, exchange) ∷ []) later))
          second),
    )

-- and so they were at their turns, by others too
module _ {P : Type 0} (One Other : Nexts P → ℕ → ℕ → Type 0) (May Might : List Turn → ℕ → Type 0)
    (is_of : (steps : Nexts P) (place number : ℕ) → One steps place number → Other steps place number)
    (might : (turns : List Turn) (number : ℕ) → May turns number → Might turns number) where
  answers_by : (steps : Nexts P) (turns : List Turn) (held : List Holding) (more : List Turn)
      → AreAnsweredOf (IsHeldFor (One steps)) (λ before one. May before one.0) turns held more
      → AreAnsweredOf (IsHeldFor (Other steps)) (λ before one. Might before one.0) turns held more
  answers_by steps turns [] more none = none
  answers_by steps turns (one ∷ held) more (inl (may, later)) =
      inl (might turns one.0 may, answers_by steps turns held more later)
  answers_by steps turns (one ∷ held) more (inr (number, x, later, (is, was, moment), all, rest)) =
      inr (
        number,
        x,
        later,
        (is, is_of steps one.1.place number was, moment),
        all,
        answers_by steps (turns ++ (number, x) ∷ []) held later rest,
      )

  pub turns_by : (steps : Nexts P) (heard : List Heard) (turns : List Turn) (held : List Holding)
      (moments : List (Option ℕ))
      → AreAtTurns One May steps heard turns held moments → AreAtTurns Other Might steps heard turns held moments
  turns_by steps heard turns held moments at_first = at_first
  turns_by steps heard turns held moments (at_other before told same some read one quiet at) =
      at_other before told same some read one quiet (turns_by before told same some read at)
  turns_by steps heard turns held moments (at_visit before told same some read place how at over) =
      at_visit before told same some read place how (turns_by before told same some read at) over
  turns_by steps heard turns held moments (at_turn before told same some read number one at was none) =
      at_turn before told same some read number one (turns_by before told same some read at)
      (is_of before one.place number was) none
  turns_by steps heard turns held moments (at_answer before told some others front rest read at least answered) =
      at_answer before told some others front rest read (turns_by before told some (front ++ rest) read at) least
      (answers_by before some front others answered)

-- whose next request may wait, by others too, and became what it is known to have become
pub next_by : (may might : List Turn → List ℕ → Type 0) (Was Is : Traffic → Type 0)
    → ((turns : List Turn) (request : List ℕ) → may turns request → might turns request)
    → ((t : Traffic) → Was t → Is t) → (turns : List Turn) (number : ℕ)
    → NextMayWait may Was turns number → NextMayWait might Is turns number
next_by may might Was Is on became turns number (t, request, same, next, waits, was) =
    (t, request, same, next, on turns request waits, became t was)

-- one moment more was read
readings_more : {C : Type 0} (now_gives : C → Option ℕ → C → Type 0) (moments : List (Option ℕ)) (moment : Option ℕ)
    (clock at later : C)
    → AreReadings now_gives clock moments at → now_gives at moment later
    → AreReadings now_gives clock (moments ++ moment ∷ []) later
readings_more {C} now_gives [] moment clock at later same told =
    (later, subst (λ (c : C). now_gives c moment later) same told, refl)
readings_more now_gives (m ∷ moments) moment clock at later (next, first, rest) told =
    (next, first, readings_more now_gives moments moment next at later rest told)

-- a first part of them is that of a first part of what is held
parts : (held : List Holding) (front rest : List HeldRequest) → requests_in held ≡ front ++ rest
    → (a b : List Holding) × (held ≡ a ++ b) × (requests_in a ≡ front) × (requests_in b ≡ rest)
parts held [] rest is = ([], held, refl, refl, is)
parts [] (x ∷ front) rest is = absurd cc
parts (one ∷ held) (x ∷ front) rest is =
    let first : one.1 ≡ x = cc in
    let later : requests_in held ≡ front ++ rest = cc in
    let (a, b, all, same, last) = parts held front rest later in (one ∷ a, b, cc, cc, last)

without_one : (place : ℕ) (one : Holding) (held : List Holding) (b : Bool)
    → requests_in (without_holding place held) ≡ without place (requests_in held)
    → requests_in (cond (not b) (one ∷ without_holding place held) (without_holding place held))
    ≡ cond (not b) (one.1 ∷ without place (requests_in held)) (without place (requests_in held))
without_one place one held true same = same
without_one place one held false same = ap (λ (rest : List HeldRequest). one.1 ∷ rest) same

without_same : (place : ℕ) (held : List Holding)
    → requests_in (without_holding place held) ≡ without place (requests_in held)
without_same place [] = refl
without_same place (one ∷ held) =
    without_one place one held (one.1.place == place) (without_same place held)

-- after a turn that ended so
held_on_same : (place : ℕ) (how : Step) (held : List Holding)
    → requests_in (held_on place how held) ≡ kept_on place how (requests_in held)
held_on_same place step.Over held = without_same place held
held_on_same place step.Again held = refl
held_on_same place step.Leaves held = refl
held_on_same place (step.Waits what requests) held = refl
held_on_same place (step.Searches requests) held = refl
held_on_same place step.Holds held = refl

none_in : (held : List Holding) → requests_in held ≡ [] → held ≡ []
none_in [] none = refl
none_in (one ∷ held) none = absurd cc

module _ {P : Type 0} (traffic : P → Traffic) where
  pub held_before : (s m : Clients P) → AreStill traffic s m → (one : HeldRequest) (number : ℕ) (moment : Option ℕ)
      → IsHeldAt traffic m one number moment → IsHeldAt traffic s one number moment
  held_before s m still one number moment ((k, at, same), is) =
      let (j, was, later) = still one.place k at in ((j, was, sym later.number ∙ same), is)

  -- whoever is at the place of one that is held is the one of its number
  abbrev IsOf : Clients P → Holding → Type 0
  IsOf s one = (k : Client P) → IsAt s one.1.place k → (traffic k.peer).number ≡ one.0

  abbrev pub AreHere : Clients P → List Holding → Type 0
  AreHere s [] = Unit {0}
  AreHere s (one ∷ held) = IsOf s one × AreHere s held

  here_still : (s u : Clients P) → AreStill traffic s u → (held : List Holding) → AreHere s held → AreHere u held
  here_still s u still [] here = tt
  here_still s u still (one ∷ held) (is, here) = (
    λ k at. let (j, was, later) = still one.1.place k at in later.number ∙ is j was,
    here_still s u still held here,
  )

  -- whoever was at the place of one that is held is there still
  here_there : (s u : Clients P) → AreAllThere s u → (held : List Holding) → AreReady s (requests_in held)
      → AreHere s held → AreHere u held
  here_there s u there [] ready here = tt
  here_there s u there (one ∷ held) ((j, was, looking, has), apart, ready) (is, here) = (
    λ k at. let same : j ≡ k = same_Some j k (sym (there one.1.place j was) ∙ at) in
        ap (λ (k : Client P). (traffic k.peer).number) (sym same) ∙ is j was,
    here_there s u there held ready here,
  )

  here_one : (s : Clients P) (one : Holding) (rest : List Holding) (b : Bool) → IsOf s one → AreHere s rest
      → AreHere s (cond (not b) (one ∷ rest) rest)
  here_one s one rest true is here = here
  here_one s one rest false is here = (is, here)

  here_without : (s : Clients P) (place : ℕ) (held : List Holding) → AreHere s held
      → AreHere s (without_holding place held)
  here_without s place [] here = tt
  here_without s place (one ∷ held) (is, here) =
      here_one s one (without_holding place held) (one.1.place == place) is (here_without s place held here)

  here_on : (s : Clients P) (place : ℕ) (how : Step) (held : List Holding) → AreHere s held
      → AreHere s (held_on place how held)
  here_on s place step.Over held here = here_without s place held here
  here_on s place step.Again held here = here
  here_on s place step.Leaves held here = here
  here_on s place (step.Waits what requests) held here = here
  here_on s place (step.Searches requests) held here = here
  here_on s place step.Holds held here = here

  is_there : (u : Clients P) (place : ℕ) (how : Step) → how ≡ step.Holds → (IsFree u place → how ≡ step.Over)
      → (o : Option (Client P)) → get_or u.places.items place None ≡ o → (k : Client P) × IsAt u place k
  is_there u place how holds free None is = let clash = sym holds ∙ free is in absurd cc
  is_there u place how holds free (Some k) is = (k, is)

  here_more : (s : Clients P) (held : List Holding) (one : Holding) → AreHere s held → IsOf s one
      → AreHere s (held ++ one ∷ [])
  here_more s [] one here is = (is, tt)
  here_more s (x ∷ held) one (first, here) is = (first, here_more s held one here is)

  here_parts : (s : Clients P) (a b : List Holding) → AreHere s (a ++ b) → AreHere s a × AreHere s b
  here_parts s [] b here = (tt, here)
  here_parts s (x ∷ a) b (is, here) = let (first, last) = here_parts s a b here in ((is, first), last)

  -- those that were answered, or may wait, were so of those that are held
  answered_for : (IsIts : ℕ → ℕ → Type 0) (waits : List Turn → List ℕ → Type 0) (May : List Turn → ℕ → Type 0)
      (s : Clients P) (first : List Turn)
      → ((place number : ℕ) → HasAt traffic s place number → IsIts place number)
      → ((place : ℕ) (k : Client P) (some : List Turn) (request : List ℕ) → IsAt s place k
      → IsNextRequest (traffic k.peer) (first ++ some) request → waits some request
      → May (first ++ some) (traffic k.peer).number)
      → (held : List Holding) (some more : List Turn) → AreHere s held
      → AreAnsweredOf (IsHeldAt traffic s) (WaitsAt waits traffic s first) some (requests_in held) more
      → AreAnsweredOf (IsHeldFor IsIts) (λ before one. May before one.0) (first ++ some) held more
  answered_for IsIts waits May s first its may [] some more here none = none
  answered_for IsIts waits May s first its may (one ∷ held) some more (is, here)
      (inl ((k, request, at, next, wait), later)) =
      inl (
        subst (May (first ++ some)) (is k at) (may one.1.place k some request at next wait),
        answered_for IsIts waits May s first its may held some more here later,
      )
  answered_for IsIts waits May s first its may (one ∷ held) some more (is, here)
      (inr (number, x, later, (has, moment), all, rest)) =
      inr (
        number,
        x,
        later,
        (sym (is has.0 has.1) ∙ has.2, its one.1.place number has, moment),
        all,
        subst
            (λ (all : List Turn).
            AreAnsweredOf (IsHeldFor IsIts) (λ before one. May before one.0) all held later)
            (sym (append_assoc first some ((number, x) ∷ [])))
            (answered_for IsIts waits May s first its may held (some ++ (number, x) ∷ []) later here rest),
      )

  -- these requests are held, of the connections that are here, and so they were answered, as this was heard
  module _ {C : Type 0} (now_gives : C → Option ℕ → C → Type 0) (clock : C) (before : List Heard) where
    pub record AreHeldSo (may_wait : List Turn → List ℕ → Type 0) (steps : Nexts P) (now : List Heard)
        (s : Clients P) (requests : List HeldRequest) (later : C) (turns : List Turn) : Type 0 where
      pub heard : List Heard
      pub told : now ≡ before ++ heard
      pub held : List Holding
      pub moments : List (Option ℕ)
      pub same : requests_in held ≡ requests
      pub here : AreHere s held
      pub turned : AreAtTurns (IsFor traffic s.gone.items) (NextMayWait may_wait (IsHereOrGone traffic s)) steps heard
          turns held moments
      pub read : AreReadings now_gives clock moments later

    pub so_first : (may_wait : List Turn → List ℕ → Type 0) (s : Clients P)
        → AreHeldSo may_wait [] before s [] clock []
    so_first may_wait s = record {
      heard = [];
      told = sym (append-nil before);
      held = [];
      moments = [];
      same = refl;
      here = tt;
      turned = at_first;
      read = refl;
    }

    module _ (may might : List Turn → List ℕ → Type 0) (steps : Nexts P) (now : List Heard) (s u : Clients P)
        (grows : Grows traffic s.gone.items u.gone.items) (requests : List HeldRequest) (later : C)
        (turns : List Turn) (so : AreHeldSo may steps now s requests later turns)
        (became : (t : Traffic) → IsHereOrGone traffic s t → IsHereOrGone traffic u t) where
      -- where who may wait may so by the others
      module _ (on : (turns : List Turn) (request : List ℕ) → may turns request → might turns request) where
        grown : AreAtTurns (IsFor traffic u.gone.items) (NextMayWait might (IsHereOrGone traffic u)) steps so.heard
            turns so.held so.moments
        grown =
            turns_by (IsFor traffic s.gone.items) (IsFor traffic u.gone.items)
            (NextMayWait may (IsHereOrGone traffic s)) (NextMayWait might (IsHereOrGone traffic u))
            (for_grown traffic s.gone.items u.gone.items grows)
            (next_by may might (IsHereOrGone traffic s) (IsHereOrGone traffic u) on became) steps so.heard turns
            so.held so.moments so.turned

        -- one thing more was said
        so_said : (one : Next P) (then : List Heard) (rest : List HeldRequest) → IsNoTurn one → then ≡ now
            → requests_in (held_after one so.held) ≡ rest → AreHere u (held_after one so.held)
            → AreHeldSo might (steps ++ one ∷ []) then u rest later turns
        so_said one then rest quiet is same here = record {
          heard = so.heard;
          told = is ∙ so.told;
          held = held_after one so.held;
          moments = so.moments;
          same = same;
          here = here;
          turned = at_other steps so.heard turns so.held so.moments one quiet grown;
          read = so.read;
        }

        pub so_other : (one : Next P) (then : List Heard) → IsNoTurn one → held_after one so.held ≡ so.held
            → then ≡ now → AreStill traffic s u → AreHeldSo might (steps ++ one ∷ []) then u requests later turns
        so_other one then quiet none is still =
            so_said one then requests quiet is (ap requests_in none ∙ so.same)
            (subst (AreHere u) (sym none) (here_still s u still so.held so.here))

        -- a newcomer came
        pub so_comes : (place : ℕ) (peer : P) (then : List Heard) → then ≡ now → AreReady s requests
            → AreAllThere s u → AreHeldSo might (steps ++ next.Newcomer place peer ∷ []) then u requests later turns
        so_comes place peer then is ready there =
            so_said (next.Newcomer place peer) then requests tt is so.same
            (here_there s u there so.held (subst (AreReady s) (sym so.same) ready) so.here)

        -- one was let go
        pub so_goes : (place : ℕ) (then : List Heard) → then ≡ now → AreStill traffic s u
            → AreHeldSo might (steps ++ next.Gone place ∷ []) then u (without place requests) later turns
        so_goes place then is still =
            so_said (next.Gone place) then (without place requests) tt is
            (without_same place so.held ∙ ap (λ (all : List HeldRequest). without place all) so.same)
            (here_without u place so.held (here_still s u still so.held so.here))

        told_more : (one : Heard) (then : List Heard) → then ≡ now ++ one ∷ []
            → then ≡ before ++ (so.heard ++ one ∷ [])
        told_more one then is =
            is ∙ ap (λ (all : List Heard). all ++ one ∷ []) so.told ∙ append_assoc before so.heard (one ∷ [])

        -- one more is held, after a turn
        so_turn : (one : HeldRequest) (number : ℕ) (at : C) (then : List Heard)
            → then ≡ now ++ ((one.place, step.Holds), Some one.moment) ∷ [] → is_held one.place requests ≡ false
            → AreStill traffic s u → IsFor traffic u.gone.items steps one.place number
            → HasAt traffic u one.place number → now_gives later one.moment at
            → AreHeldSo might (steps ++ next.Turn one.place ∷ []) then u (requests ++ one ∷ []) at turns
        so_turn one number at then is none still is_for (k, there, same) told = record {
          heard = so.heard ++ ((one.place, step.Holds), Some one.moment) ∷ [];
          told = told_more ((one.place, step.Holds), Some one.moment) then is;
          held = so.held ++ (number, one) ∷ [];
          moments = so.moments ++ one.moment ∷ [];
          same = map-append (λ (one : Holding). one.1) so.held ((number, one) ∷ [])
              ∙ ap (λ (all : List HeldRequest). all ++ one ∷ []) so.same;
          here = here_more u so.held (number, one) (here_still s u still so.held so.here)
              (λ l on. ap (λ (k : Client P). (traffic k.peer).number) (same_Some l k (sym on ∙ there)) ∙ same);
          turned = at_turn steps so.heard turns so.held so.moments number one grown is_for (rw so.same none);
          read = readings_more now_gives so.moments one.moment clock later at so.read told;
        }

        -- no more is held after a turn
        so_visit : (place : ℕ) (how : Step) (then : List Heard) → then ≡ now ++ ((place, how), None) ∷ []
            → HoldsNoMore place how requests → AreStill traffic s u
            → AreHeldSo might (steps ++ next.Turn place ∷ []) then u (kept_on place how requests) later turns
        so_visit place how then is over still = record {
          heard = so.heard ++ ((place, how), None) ∷ [];
          told = told_more ((place, how), None) then is;
          held = held_on place how so.held;
          moments = so.moments;
          same = held_on_same place how so.held ∙ ap (λ (all : List HeldRequest). kept_on place how all) so.same;
          here = here_on u place how so.held (here_still s u still so.held so.here);
          turned = at_visit steps so.heard turns so.held so.moments place how grown (rw so.same over);
          read = so.read;
        }

        module _ (said : AreAsSaid traffic steps s) where
          has_kept : (place number : ℕ) → HasAt traffic s place number
              → IsFor traffic u.gone.items steps place number
          has_kept place number (k, at, same) =
              subst (IsFor traffic u.gone.items steps place) same
              (for_grown traffic s.gone.items u.gone.items grows steps place ((traffic k.peer).number)
              (said.here place k at))

          -- one had its turn, and its request is held or isn't
          pub so_held : (place : ℕ) (how : Step) (told : Option (Option ℕ)) (then : List Heard)
              → then ≡ now ++ ((place, how), told) ∷ [] → (at : C) (after : List HeldRequest)
              → HoldsOne now_gives ((place, how), told) later requests at after → AreStill traffic s u
              → (IsFree u place → how ≡ step.Over)
              → AreHeldSo might (steps ++ next.Turn place ∷ []) then u after at turns
          so_held place how told then is at after (inl (none, same, all, over)) still free =
              rw (same, all)
              (so_visit place how then
              (subst (λ (told : Option (Option ℕ)). then ≡ now ++ ((place, how), told) ∷ []) none is) over still)
          so_held place how told then is at after (inr (holds, apart, moment, some, gives, all)) still free =
              let (l, there) = is_there u place how holds free (get_or u.places.items place None) refl in
              let (k, was, newer) = still place l there in
              rw all
              (so_turn (record { place = place; moment = moment }) ((traffic k.peer).number) at then
              (subst (λ (told : Option (Option ℕ)). then ≡ now ++ ((place, step.Holds), told) ∷ []) some
              (subst (λ (how : Step). then ≡ now ++ ((place, how), told) ∷ []) holds is)) apart still
              (has_kept place ((traffic k.peer).number) (k, was, refl)) (l, there, newer.number) gives)

          module _ (ahead : List Turn → List ℕ → Type 0)
              (first : (some : List Turn) (request : List ℕ) → ahead some request
              → might (turns ++ some) request) where
            waits_on : (place : ℕ) (k : Client P) (some : List Turn) (request : List ℕ) → IsAt s place k
                → IsNextRequest (traffic k.peer) (turns ++ some) request → ahead some request
                → NextMayWait might (IsHereOrGone traffic u) (turns ++ some) (traffic k.peer).number
            waits_on place k some request at next wait = (
              traffic k.peer,
              request,
              refl,
              next,
              first some request wait,
              became (traffic k.peer) (inl (place, k, at, later_same (traffic k.peer))),
            )

            -- some of them were answered, or may wait, and the rest are held
            pub so_answer : (front rest : List HeldRequest) (then : List Heard) → then ≡ now
                → requests ≡ front ++ rest → IsShare front rest → AreStill traffic s u → (more : List Turn)
                → AreAnsweredOf (IsHeldAt traffic s) (WaitsAt ahead traffic s turns) [] front more
                → AreHeldSo might (steps ++ next.Answer ∷ []) then u rest later (turns ++ more)
            so_answer front rest then told is least still more answered =
                let (a, b, all, one, last) = parts so.held front rest (so.same ∙ is) in
                let (here, left) = here_parts s a b (subst (AreHere s) all so.here) in
                record {
                  heard = so.heard;
                  told = told ∙ so.told;
                  held = b;
                  moments = so.moments;
                  same = last;
                  here = here_still s u still b left;
                  turned = at_answer steps so.heard turns more a b so.moments
                      (subst
                      (λ (held : List Holding).
                      AreAtTurns (IsFor traffic u.gone.items) (NextMayWait might (IsHereOrGone traffic u)) steps
                      so.heard turns held so.moments) all grown) (
                        λ nothing. none_in b (last ∙ least.0 (sym one ∙ ap requests_in nothing)),
                        omega (arith, least.1, ap length one, length-map a (λ holding. holding.1)),
                      )
                      (subst
                      (λ (all : List Turn).
                      AreAnsweredOf (IsHeldFor (IsFor traffic u.gone.items steps))
                      (λ before one. NextMayWait might (IsHereOrGone traffic u) before one.0) all a more)
                      (append-nil turns)
                      (answered_for (IsFor traffic u.gone.items steps) ahead
                      (NextMayWait might (IsHereOrGone traffic u)) s turns has_kept waits_on a [] more here
                      (subst
                      (λ (all : List HeldRequest).
                      AreAnsweredOf (IsHeldAt traffic s) (WaitsAt ahead traffic s turns) [] all more) (sym one)
                      answered)));
                  read = so.read;
                }

  -- so they were at their moments
  pub so_moments : {C : Type 0} (now_gives : C → Option ℕ → C → Type 0) (clock : C) (old new : Said P)
      (may_wait : List Turn → List ℕ → Type 0) (s : Clients P) (requests : List HeldRequest) (later : C)
      (turns : List Turn)
      → AreHeldSo now_gives clock old.heard may_wait (since old new) new.heard s requests later turns
      → AreAtMoments (IsFor traffic s.gone.items) (NextMayWait may_wait (IsHereOrGone traffic s)) now_gives clock
      (old, new) turns later
  so_moments now_gives clock old new may_wait s requests later turns so =
      (so.heard, so.held, so.moments, so.told, so.turned, so.read)
