-- Connections that were served by a desk.
use Rattle.std.proofs.Common.{◌≡◌, ◌≢◌, ◌∙◌, ap, get_or, refl, sym, subst, inl, inr, ℕ, suc, List, [], ◌∷◌, ◌++◌}
use Rattle.std.proofs.Common.{Option, append_assoc, arith, true, false}
use Rattle.std.specs.Prelude.{All, Bool}
use Rattle.std.proofs.lemmas.List.{append-nil}
use Rattle.std.proofs.lemmas.List.Elements.{All-cons, All-nil}
use Rattle.hall_store.specs.Store.{Content, IsSettled, Kept}
use Rattle.hall_store.proofs.Knowing.{kept_same, kept_then}
use Rattle.hall_desk.specs.Sane.{Sane}
use Rattle.hall_desk.specs.Desk.{SaneThen}
use Rattle.hall_http.specs.Connection.{Exchange, of_groups}
use Rattle.hall_http.specs.Coming.{Nexts, Said, since, stays_open}
use Rattle.hall_http.specs.Crowd.{AreAtMoments, AreHandled, AreKept, AreKeptAtTurns, AreServed, AreServedAtTurns}
use Rattle.hall_http.specs.Crowd.{AreThose}
use Rattle.hall_http.specs.Crowd.{AreGone, AnswersNoMore, AllLeave, AreAsSaid, EndUnavailable, HaveGone, IsFor}
use Rattle.hall_http.specs.Crowd.{HaveGoneSince, HaveBecome, IsHereOrGone, MayWaitAfter, NextMayWait}
use Rattle.hall_http.specs.Crowd.{WaitsForWorkAfter, WentLater}
use Rattle.hall_http.specs.Groups.{AreAnsweredTogether, AreAnsweredWhileOpen, IsGroupAnswered}
use Rattle.hall_http.specs.Peer.{Traffic}
use Rattle.hall_http.specs.Resting.{AreRests, IsGroup, RestingGroups, still}
use Rattle.hall_http.specs.Serving.{GoesOn, IsAnsweredOver, RunsOver, WaitsForWork}
use Rattle.hall_http.specs.Steps.{AreUnavailable, gated, gated_group}
use Rattle.hall_http.specs.Turns.{Service, Turn, exchanges_of, service_of}
use Rattle.hall_http.specs.declared.clients.Clients.{Clients}
use Rattle.hall_http.specs.declared.server.ServeAllEnd.{ServeAllEnd}
use Rattle.hall_http.proofs.Crowds.{kept_told, kept_those}
use Rattle.hall_http.proofs.Groups.{groups_lead, groups_run, groups_stop}
use Rattle.hall_http.proofs.Rested.{still_on}
use Rattle.hall_http.proofs.Became.{all_became, all_went, became_on, leave_passes, onward}
use Rattle.hall_http.proofs.Heard.{have_heard_by}
use Rattle.hall_http.proofs.Holdings.{next_by, turns_by}
use Rattle.hall_http.proofs.SoFar.{for_grown, grows_by, left_grown}
use Rattle.hall_http.proofs.Runs.{answered_kept, runs_sane}

module _ {D H : Type 0} (kept : D → H) (content : H → Content) where
  abbrev over : D → Content
  over h = content (kept h)

  abbrev reads : D → D → Type 0
  reads h i = Kept (over h) (over i)

  abbrev desk_service : Service (D × Bool)
  desk_service =
      service_of (IsAnsweredOver over) (AreAnsweredTogether over) (GoesOn over) reads (WaitsForWork over)

  abbrev IsOne : D × Bool → List Exchange → D × Bool → Type 0
  IsOne = IsGroup (gated (IsAnsweredOver over) (GoesOn over)) (gated_group (AreAnsweredTogether over) (GoesOn over))

  abbrev Groups : D × Bool → List (List Exchange) → D × Bool → Type 0
  Groups = RestingGroups IsOne (still reads)

  one_kept : (h i : D) (reply : List ℕ) → GoesOn over h reply i → GoesOn content (kept h) reply (kept i)
  one_kept h i reply goes is =
      elim (goes is) [
        | inl same ↦ inl (ap kept same)
        | inr serves ↦ inr serves
      ]

  goes_kept : (h i : D) (xs : List Exchange) → All (λ x. GoesOn over h x.reply i) xs
      → All (λ x. GoesOn content (kept h) x.reply (kept i)) xs
  goes_kept h i xs goes n d inside =
      one_kept h i (get_or xs n d).reply (goes n d inside)

  -- what a group of either kind tells
  opened_by : (h : D × Bool) (xs : List Exchange) (i : D × Bool) → IsOne h xs i → h.1 ≡ true
  opened_by h xs i (inl (x, is, says)) = says.0
  opened_by h xs i (inr says) = says.0

  goes_group : (h : D × Bool) (xs : List Exchange) (i : D × Bool) → IsOne h xs i → i.1 ≡ true
      → All (λ x. GoesOn over h.0 x.reply i.0) xs
  goes_group h xs i (inl (x, is, says)) on =
      subst (λ (ys : List Exchange). All (λ y. GoesOn over h.0 y.reply i.0) ys) (sym is)
      (All-cons (λ y. GoesOn over h.0 y.reply i.0) x [] (says.2 on) (All-nil (λ y. GoesOn over h.0 y.reply i.0)))
  goes_group h xs i (inr says) on = says.2 on

  end_all : (xs : List Exchange) → AreUnavailable xs → EndUnavailable xs
  end_all [] (some, all) = absurd (some refl)
  end_all (x ∷ []) (some, all) = let (refused, reached) = all 0 x (omega arith) in ([], x, refl, refused, reached)
  end_all (x ∷ y ∷ xs) (some, all) =
      let (front, last, is, refused, reached) =
      end_all (y ∷ xs) ((λ e. absurd cc), (λ n d inside. all (suc n) d (omega arith))) in
      (x ∷ front, last, ap (λ (ys : List Exchange). x ∷ ys) is, refused, reached)

  end_group : (h : D × Bool) (xs : List Exchange) (i : D × Bool) → IsOne h xs i → i.1 ≡ false → EndUnavailable xs
  end_group h xs i (inl (x, is, says)) shut = let (refused, reached) = says.3 shut in ([], x, is, refused, reached)
  end_group h xs i (inr says) shut = end_all xs (says.3 shut)

  group_kept : (h : D × Bool) (xs : List Exchange) (i : D × Bool) → IsOne h xs i
      → IsGroupAnswered content (kept h.0) xs (kept i.0)
  group_kept h xs i (inl (x, is, says)) = inl (x, is, answered_kept kept content h.0 i.0 x says.1)
  group_kept h xs i (inr says) = inr (record {
    leads = says.1.leads;
    once = says.1.once;
    stops = says.1.stops;
    settled = says.1.settled;
    answers = says.1.answers;
    alike = says.1.alike;
  })

  -- a store that was read some times was only read
  rests_kept : (h : D × Bool) (left : List (D × Bool)) (i : D × Bool) → AreRests (still reads) h left i
      → Kept (over h.0) (over i.0)
  rests_kept h [] i same = subst (λ (i : D × Bool). Kept (over h.0) (over i.0)) (sym same) (kept_same (over h.0))
  rests_kept h (m ∷ left) i (rest, more) =
      kept_then (over h.0) (over m.0) (over i.0) rest.0 (rests_kept m left i more)

  -- a further group tells that the responder went on after the one before
  went_on : (m : D × Bool) (groups : List (List Exchange)) (n : D × Bool) → Groups m groups n → groups ≢ []
      → m.1 ≡ true
  went_on m [] n rested some = absurd (some refl)
  went_on m (xs ∷ groups) n (read, after, (left, rests), says, rest) some =
      sym (still_on reads m left read rests) ∙ opened_by read xs after says

  -- where the responder doesn't go on, the last request was put to the store, and its reply is 503
  pub ended_unavailable : (h : D × Bool) (groups : List (List Exchange)) (i : D × Bool) → Groups h groups i
      → h.1 ≡ true → i.1 ≡ false → EndUnavailable (of_groups groups)
  ended_unavailable h [] i (left, rests) opened shut =
      let clash = sym (still_on reads h left i rests ∙ opened) ∙ shut in absurd cc
  ended_unavailable h (xs ∷ []) i (read, after, rested, says, (left, rests)) opened shut =
      subst EndUnavailable (sym (append-nil xs))
      (end_group read xs after says (sym (still_on reads after left i rests) ∙ shut))
  ended_unavailable h (xs ∷ ys ∷ groups) i (read, after, rested, says, rest) opened shut =
      let (front, last, is, refused, reached) =
      ended_unavailable after (ys ∷ groups) i rest (went_on after (ys ∷ groups) i rest (λ e. absurd cc)) shut in (
        xs ++ front,
        last,
        ap (λ (zs : List Exchange). xs ++ zs) is ∙ sym (append_assoc xs front (last ∷ [])),
        refused,
        reached,
      )

  pub while_open : (h : D × Bool) (groups : List (List Exchange)) (i : D × Bool) → Groups h groups i
      → AreAnsweredWhileOpen content (kept h.0) groups (kept i.0)
  while_open h [] i (left, rests) = rests_kept h left i rests
  while_open h (xs ∷ groups) i (read, after, (left, rests), says, rest) = (
    kept read.0,
    kept after.0,
    rests_kept h left read rests,
    group_kept read xs after says,
    λ some. goes_kept read.0 after.0 xs (goes_group read xs after says (went_on after groups i rest some)),
    while_open after groups i rest,
  )

-- those that were here when no more was said have gone too
pub all_gone : {P : Type 0} (traffic : P → Traffic) (steps : Nexts P) (s u : Clients P) → AreAsSaid traffic steps s
    → AllLeave traffic s u → HaveGone traffic steps u.gone.items
all_gone traffic steps s u said (last, is, all) =
    let grows = grows_by traffic s.gone.items last u.gone.items is in
    record {
      left = s.gone.items;
      last = last;
      all = is;
      each = left_grown traffic s.gone.items u.gone.items grows steps s.gone.items said.gone;
      here = λ i d inside.
          let (ends, (k, at, later)) = all i d inside in
          let place = (get_or last i d).1.1 in (
            ends,
            subst (IsFor traffic u.gone.items steps place) (sym later.number)
                (for_grown traffic s.gone.items u.gone.items grows steps place ((traffic k.peer).number)
                (said.here place k at)),
          );
    }

-- what was true of the requests so far is true of them once all have gone
module _ {D H C P : Type 0} (kept : D → H) (content : H → Content) (now_gives : C → Option ℕ → C → Type 0)
    (traffic : P → Traffic) (old new : Said P) (h : D) (c : C) (i : D) (d : C) (why : ServeAllEnd) (s u : Clients P)
    (handled : AreHandled
    (desk_service kept content)
    (λ turns.
    AreKeptAtTurns (MayWaitAfter (desk_service kept content) (h, true) (i, stays_open why) turns) traffic old new
    turns s
    × AreAtMoments (IsFor traffic s.gone.items)
    (NextMayWait (MayWaitAfter (desk_service kept content) (h, true) (i, stays_open why) turns)
    (IsHereOrGone traffic s)) now_gives c (old, new) turns d)
    (h, true) (i, stays_open why))
    (keeps : AnswersNoMore traffic s u) (empty : AreGone u) where
  abbrev groups : List (List Exchange)
  groups = handled.session.0

  abbrev xs : List Exchange
  xs = exchanges_of handled.turns

  answered : AreAnsweredWhileOpen content (kept h) groups (kept i)
  answered = while_open kept content (h, true) groups (i, stays_open why) handled.session.2

  ran : (content (kept i)).honest → RunsOver (content (kept h)) xs (content (kept i))
  ran honest =
      subst (λ (ys : List Exchange). RunsOver (content (kept h)) ys (content (kept i))) handled.session.1
      (groups_run content (kept h) groups (kept i) answered honest)

  after : AreKept traffic old.count new.count handled.turns u
  after = keeps.1 old.count new.count handled.turns handled.holds.0.0

  pub crowd_served : IsSettled (content (kept h))
      → AreServed content traffic why (kept h) (kept i) u.gone.items
  crowd_served settled = record {
    turns = handled.turns;
    groups = groups;
    grouped = handled.session.1;
    settled = settled;
    answered = answered;
    leads = groups_lead content (kept h) groups (kept i) answered;
    run = ran;
    stops = groups_stop content (kept h) groups (kept i) settled answered;
    shut = λ is.
        subst EndUnavailable handled.session.1
        (ended_unavailable kept content (h, true) groups (i, stays_open why) handled.session.2 refl
        (ap stays_open is));
    told = kept_told traffic old.count new.count handled.turns u after empty;
  }

  -- who may be kept waiting in between
  waits_after : (turns : List Turn) (request : List ℕ)
      → MayWaitAfter (desk_service kept content) (h, true) (i, stays_open why) handled.turns turns request
      → WaitsForWorkAfter content (kept h) (kept i) handled.turns turns request
  waits_after turns request (m, rest, is, first, second, waits) = (
    kept m.0,
    rest,
    is,
    (first.0, first.1, while_open kept content (h, true) first.0 m first.2),
    (second.0, second.1, while_open kept content m second.0 (i, stays_open why) second.2),
    waits,
  )

  pub crowd_turned : IsSettled (content (kept h)) → AllLeave traffic s u
      → AreServedAtTurns content now_gives traffic why ((kept h, c), old) ((kept i, d), new) u.gone.items
  unfolding crowd_served
  crowd_turned settled (last, is, all) =
      let grows = grows_by traffic s.gone.items last u.gone.items is in
      let passes = leave_passes traffic new.count s u empty (last, is, all) in
      let moments = handled.holds.1 in (
        crowd_served settled,
        (
          moments.0,
          moments.1,
          moments.2,
          moments.3,
          turns_by (IsFor traffic s.gone.items) (IsFor traffic u.gone.items)
              (NextMayWait (MayWaitAfter (desk_service kept content) (h, true) (i, stays_open why) handled.turns)
              (IsHereOrGone traffic s))
              (NextMayWait (WaitsForWorkAfter content (kept h) (kept i) handled.turns)
              (WentLater traffic u.gone.items)) (for_grown traffic s.gone.items u.gone.items grows)
              (next_by (MayWaitAfter (desk_service kept content) (h, true) (i, stays_open why) handled.turns)
              (WaitsForWorkAfter content (kept h) (kept i) handled.turns) (IsHereOrGone traffic s)
              (WentLater traffic u.gone.items) waits_after
              (λ t was.
              all_went traffic u empty t
              (onward traffic old.count new.count new.count handled.turns handled.turns s u handled.holds.0.0 after
              (omega arith) passes t was))) (since old new) moments.0 handled.turns moments.1 moments.2 moments.4,
          moments.5,
        ),
        have_heard_by traffic
            (MayWaitAfter (desk_service kept content) (h, true) (i, stays_open why) handled.turns)
            (WaitsForWorkAfter content (kept h) (kept i) handled.turns) (HaveBecome traffic s)
            (HaveGoneSince traffic u.gone.items) waits_after
            (λ z was.
            all_became traffic z u empty
            (became_on traffic old.count new.count new.count handled.turns handled.turns s u handled.holds.0.0 after
            (omega arith) passes z was)) old new handled.turns handled.holds.0.1,
      )

  pub crowd_those : AreThose traffic old.count new.count u.gone.items
  crowd_those = kept_those traffic old.count new.count handled.turns u after empty

  pub crowd_sane : SaneThen Sane (content (kept h)) (content (kept i))
  crowd_sane = runs_sane (content (kept h)) xs (content (kept i)) ran
