-- A session over a store is a run of the hall over its requests.
use Rattle.std.proofs.Common.{◌≡◌, ◌∙◌, ◌⊎◌, ap, sym, subst, refl, ℕ, inl, inr, List, [], ◌∷◌, ◌++◌, Option, Some, None}
use Rattle.std.specs.Prelude.{Ok}
use Rattle.std.proofs.lemmas.List.Elements.{All-nil, All-cons, All-append}
use Rattle.hall_policy.specs.World.{World}
use Rattle.hall_policy.specs.declared.request.Request.{Request}
use Rattle.hall_store.specs.Store.{Content, IsSettled, Leads, Over, WritesOnce}
use Rattle.hall_store.proofs.Knowing.{leads_same, leads_then}
use Rattle.hall_desk.specs.Plans.{WritesIfAny}
use Rattle.hall_desk.specs.Run.{IsTimed, Run}
use Rattle.hall_desk.specs.Sane.{Sane}
use Rattle.hall_desk.specs.Desk.{SaneThen}
use Rattle.hall_desk.specs.declared.reply.Reply.{Reply}
use Rattle.hall_desk.proofs.StepsSane.{run_sane}
use Rattle.hall_http.specs.Request.{RequestOf, AsksNothing}
use Rattle.hall_http.specs.Answered.{AnswersOver, StopsAtBytes}
use Rattle.hall_http.specs.Connection.{Exchange}
use Rattle.hall_http.specs.Served.{Line, IsHandled, IsServed}
use Rattle.hall_http.specs.declared.connection.ServeEnd.{ServeEnd}
use Rattle.hall_http.specs.Serving.{AnswersAt, IsAnsweredOver, AreAnswered, IsNoRequestMade, AreRequestsMade, IsRunOver}
use Rattle.hall_http.specs.Serving.{RunsOver, IsLeftOver, LeavesRunOver}
use Rattle.hall_http.specs.Laws.{FirstPartsLast, RunsCompose}

-- the exchanges, one after another, over worlds
abbrev Answering : World → List Exchange → World → Type 0
Answering world [] last = last ≡ world
Answering world (x ∷ xs) last =
    (next : World) × AnswersAt world x.moment x.request x.reply next × Answering next xs last

-- they are a run of the hall
not_made : (w v : World) (x : Exchange) (xs : List Exchange) (last : World) → v ≡ w → IsNoRequestMade x
    → IsRunOver v xs last
    → IsRunOver w (x ∷ xs) last
not_made w v x xs last same other run = record {
  requests = run.requests;
  replies = run.replies;
  timed = run.timed;
  run = subst (λ w. Run w run.requests run.replies last) same run.run;
  made = inl (other, run.made);
}

-- the first exchange is a step of the hall, or none, and the others are a run
pub before_run : (world : World) (x : Exchange) (moment : Option ℕ) (next : World) (xs : List Exchange) (last : World)
    → x.moment ≡ moment → AnswersAt world moment x.request x.reply next → IsRunOver next xs last
    → IsRunOver world (x ∷ xs) last
before_run world x (Some t) next xs last at (inl step) run = record {
  requests = (t, step.request) ∷ run.requests;
  replies = step.reply ∷ run.replies;
  timed = All-cons IsTimed (t, step.request) run.requests step.timed run.timed;
  run = (next, step.step, run.run);
  made = inr (
    (t, step.request),
    step.reply,
    run.requests,
    run.replies,
    refl,
    refl,
    record { moment = at; reads = step.reads; written = step.written },
    run.made,
  );
}
before_run world x (Some t) next xs last at (inr (inl refused, same)) run =
    not_made world next x xs last same (inl (t, at, refused)) run
before_run world x (Some t) next xs last at (inr (inr unavailable, same)) run =
    not_made world next x xs last same (inr unavailable) run
before_run world x None next xs last at (unavailable, same) run =
    not_made world next x xs last same (inr unavailable) run

pub run_over : (world : World) (xs : List Exchange) (last : World) → Answering world xs last → IsRunOver world xs last
run_over world [] last same = record {
  requests = [];
  replies = [];
  timed = All-nil IsTimed;
  run = same;
  made =
      (refl, refl);
}
run_over world (x ∷ xs) last (next, step, rest) =
    before_run world x x.moment next xs last refl step (run_over next xs last rest)

-- the exchanges from a world on, which is the store's where it serves
abbrev pub Onward : World → List Exchange → Content → Type 0
Onward world xs new = (last : World) × Answering world xs last × (new.serves → new.world ≡ last)

pub onward_runs : (old : Content) (xs : List Exchange) (new : Content) → Onward old.world xs new → RunsOver old xs new
onward_runs old xs new (last, more, stays) = (last, run_over old.world xs last more, stays)

-- the first exchange, and then the others from whatever world it leaves
further : (old new : Content) (x : Exchange) (xs : List Exchange) (last : Content) (world : World)
    → (old.serves → old.world ≡ world) → (new.serves → old.serves)
    → Over (λ before after. AnswersAt before x.moment x.request x.reply after) old new
    → ((world : World) → (new.serves → new.world ≡ world) → Onward world xs last)
    → Onward world (x ∷ xs) last
further old new x xs last world own served (inl (always, left)) rest =
    let (end, more, stays) = rest world (λ s. left s ∙ own (served s)) in (end, (world, always world, more), stays)
further old new x xs last world own served (inr (before, after, says)) rest =
    let (end, more, stays) = rest new.world (λ s. refl) in
    (end, (new.world, subst (λ w. AnswersAt w x.moment x.request x.reply new.world) (own before) says, more), stays)

one_moment : (t u : ℕ) → Some t ≡ Some u → t ≡ u
one_moment t u same = cc

module _ {H : Type 0} (content : H → Content) where
  -- a request that was answered at a moment
  pub answered_at : (old : H) (moment : ℕ) (request reply : List ℕ) (new : H) → Leads (content old) (content new)
      → WritesOnce (content old) (content new)
      → ((asked : Request) → RequestOf request (Ok asked) → WritesIfAny (content old) moment asked (content new))
      → StopsAtBytes (content old) moment request reply (content new) → IsSettled (content new)
      → ((content new).honest → AnswersOver (content old) moment request reply (content new))
      → (AsksNothing request → new ≡ old) → IsAnsweredOver content old (Some moment) request reply new
  answered_at old moment request reply new leads once quiet stops settled answers untouched = record {
    leads = leads;
    once = once;
    quiet = λ t asked at reads.
        subst (λ (m : ℕ). WritesIfAny (content old) m asked (content new)) (one_moment moment t at) (quiet asked reads);
    stops = stops;
    settled = settled;
    answers = answers;
    untouched = λ quiet. elim quiet [ inl nothing ↦ untouched nothing | inr none ↦ absurd cc ];
  }

  pub session_leads : (h : H) (xs : List Exchange) (i : H) → AreAnswered content h xs i → Leads (content h) (content i)
  session_leads h [] i same =
      subst (λ (i : H). Leads (content h) (content i)) (sym same) (leads_same (content h))
  session_leads h (x ∷ xs) i (m, says, rest) =
      leads_then (content h) (content m) (content i) says.leads (session_leads m xs i rest)

  onward : (h : H) (xs : List Exchange) (i : H) (world : World) → AreAnswered content h xs i
      → ((content h).serves → (content h).world ≡ world) → (content i).honest → Onward world xs (content i)
  onward h [] i world same own honest =
      (world, refl, subst (λ (i : H). (content i).serves → (content i).world ≡ world) (sym same) own)
  onward h (x ∷ xs) i world (m, says, rest) own honest =
      let before = (session_leads m xs i rest).honest honest in
      further (content h) (content m) x xs (content i) world own (says.leads.serves before) (says.answers before)
      (λ next is. onward m xs i next rest is honest)

  pub session_runs : (h : H) (xs : List Exchange) (i : H) → AreAnswered content h xs i → (content i).honest
      → RunsOver (content h) xs (content i)
  session_runs h xs i session honest =
      onward_runs (content h) xs (content i) (onward h xs i (content h).world session (λ s. refl) honest)

-- a request that is answered before others, and what a stop leaves after these
one_before : (world : World) (x : Exchange) (next : World) (xs : List Exchange) (left : World)
    → AnswersAt world x.moment x.request x.reply next → IsLeftOver next xs left → IsLeftOver world (x ∷ xs) left
one_before world x next xs left at (inl run) = inl (before_run world x x.moment next xs left refl at run)
one_before world x next xs left at (inr with) = inr (record {
  before = x ∷ with.before;
  one = with.one;
  after = with.after;
  all = ap (λ ys. x ∷ ys) with.all;
  refused = with.refused;
  between = with.between;
  run = before_run world x x.moment next with.before with.between refl at with.run;
  made = with.made;
  answered = with.answered;
  stays = with.stays;
})

-- What a stop leaves of a store after these requests: what it could leave before them, which they leave; or the store
-- served before them, and they leave it of its world.
abbrev Leaves : Content → List Exchange → World → Type 0
Leaves old xs left = (old.may_leave left × IsRunOver left xs left) ⊎ (old.serves × IsLeftOver old.world xs left)

-- where it was settled before them, they leave it of its world
leaves_over : (old : Content) (xs : List Exchange) (left : World) → IsSettled old → old.honest → old.serves
    → Leaves old xs left → IsLeftOver old.world xs left
leaves_over old xs left settled honest serves (inl (may, run)) =
    inl (subst (λ (w : World). IsRunOver w xs left) (settled honest serves left may) run)
leaves_over old xs left settled honest serves (inr (was, run)) = run

-- a store that was only read before them
module _ {H : Type 0} (content : H → Content) where
  -- a request that is answered before them
  module _ (h m : H) (x : Exchange) (says : IsAnsweredOver content h x.moment x.request x.reply m)
      (honest : (content m).honest) (xs : List Exchange) (left : World) where
    abbrev here : Content
    here = content h

    abbrev there : Content
    there = content m

    abbrev Answered : Type 0
    Answered = Over (λ before after. AnswersAt before x.moment x.request x.reply after) here there

    served : Answered → there.serves → IsLeftOver there.world xs left → Leaves here (x ∷ xs) left
    served (inl (always, same)) serves run = inr (
      says.leads.serves honest serves,
      one_before here.world x there.world xs left
          (subst (λ (w : World). AnswersAt here.world x.moment x.request x.reply w) (sym (same serves))
          (always here.world)) run,
    )
    served (inr (was, now, step)) serves run = inr (was, one_before here.world x there.world xs left step run)

    stayed : Answered → here.may_leave left → there.may_leave left → IsRunOver left xs left → Leaves here (x ∷ xs) left
    stayed (inl (always, same)) before may run = inl (
      before,
      before_run left x x.moment left xs left refl (always left)
          run,
    )
    stayed (inr (was, serves, step)) before may run = inr (
      was,
      inl (before_run here.world x x.moment left xs left refl
          (subst (λ (w : World). AnswersAt here.world x.moment x.request x.reply w)
          (sym (says.settled honest serves left may)) step)
          run),
    )

    leaves_one : Leaves there xs left → Leaves here (x ∷ xs) left
    leaves_one (inr (serves, run)) = served (says.answers honest) serves run
    leaves_one (inl (may, run)) = elim (says.stops honest left may) [
      | inl before ↦ stayed (says.answers honest) before may run
      | inr (was, (made, which, step)) ↦ inr (
        was,
        elim which [
          | inl same ↦
              inl (before_run here.world x x.moment left xs left refl
              (subst (λ (reply : List ℕ). AnswersAt here.world x.moment x.request reply left) same step) run)
          | inr refused ↦ inr (record {
            before = [];
            one = x;
            after = xs;
            all = refl;
            refused = refused;
            between = here.world;
            run = run_over here.world [] here.world refl;
            made = made;
            answered = step;
            stays = run;
          })
        ],
      )
    ]

  session_leaves : (h : H) (xs : List Exchange) (i : H) → AreAnswered content h xs i → (content i).honest
      → (left : World)
      → (content i).may_leave left → Leaves (content h) xs left
  session_leaves h [] i same honest left may =
      inl (subst (λ (i : H). (content i).may_leave left) same may, run_over left [] left refl)
  session_leaves h (x ∷ xs) i (m, says, rest) honest left may =
      leaves_one h m x says ((session_leads content m xs i rest).honest honest) xs left
      (session_leaves m xs i rest honest left may)

  pub session_stops : (h : H) (xs : List Exchange) (i : H) → IsSettled (content h) → AreAnswered content h xs i
      → LeavesRunOver (content h) xs (content i)
  session_stops h xs i settled session honest serves left may =
      leaves_over (content h) xs left settled ((session_leads content h xs i session).honest honest) serves
      (session_leaves h xs i session honest left may)

  session_parts : (h : H) (xs ys : List Exchange) (i : H) → AreAnswered content h (xs ++ ys) i
      → (m : H) × AreAnswered content h xs m × AreAnswered content m ys i
  session_parts h [] ys i session = (h, refl, session)
  session_parts h (x ∷ xs) ys i (m, says, rest) =
      let (n, first, second) = session_parts m xs ys i rest in (n, (m, says, first), second)

  pub first_parts_last : FirstPartsLast content (AreAnswered content) LeavesRunOver
  first_parts_last old xs ys new settled session =
      let (mid, first, second) = session_parts old xs ys new session in
      (mid, first, second, session_stops old xs mid settled first)

-- what was answered keeps a sane world sane
pub runs_sane : (old : Content) (xs : List Exchange) (new : Content) → (new.honest → RunsOver old xs new)
    → SaneThen Sane old new
runs_sane old xs new run h s sane =
    let over = run h in
    subst Sane (sym (over.2 s)) (run_sane old.world over.1.requests over.1.replies over.0 over.1.timed over.1.run sane)

-- what was answered over desks was answered over what they keep
module _ {D H : Type 0} (kept : D → H) (content : H → Content) where
  pub answered_kept : (h m : D) (x : Exchange) → IsAnsweredOver (λ h. content (kept h)) h x.moment x.request x.reply m
      → IsAnsweredOver content (kept h) x.moment x.request x.reply (kept m)
  answered_kept h m x says = record {
    leads = says.leads;
    once = says.once;
    quiet = says.quiet;
    stops = says.stops;
    settled = says.settled;
    answers = says.answers;
    untouched = λ nothing. ap kept (says.untouched nothing);
  }

  pub session_kept : (h : D) (xs : List Exchange) (i : D) → AreAnswered (λ h. content (kept h)) h xs i
      → AreAnswered content (kept h) xs (kept i)
  session_kept h [] i same = ap kept same
  session_kept h (x ∷ xs) i (m, says, rest) =
      (kept m, answered_kept h m x says, session_kept m xs i rest)

module _ {D H C : Type 0} (kept : D → H) (content : H → Content) (now_gives : C → Option ℕ → C → Type 0)
    (old : Line) (h : D) (c : C) (new : Line) (i : D) (d : C) (e : ServeEnd) where
  pub handled_served : IsSettled (content (kept h))
      → IsHandled (IsAnsweredOver (λ h. content (kept h))) now_gives old (h, c) new (i, d) e
      → IsServed content now_gives old (kept h, c) new (kept i, d) e
  handled_served settled handled = let over : D → Content = λ h. content (kept h) in record {
    exchanges = handled.exchanges;
    unread = handled.unread;
    settled = settled;
    answered = session_kept kept content h handled.exchanges i handled.session;
    whole = handled.whole;
    moments = handled.moments;
    leads = session_leads over h handled.exchanges i handled.session;
    run = session_runs over h handled.exchanges i handled.session;
    stops = session_stops over h handled.exchanges i settled handled.session;
    pieces = handled.pieces;
    reads = handled.reads;
    few = handled.few;
    seldom = handled.seldom;
    made = handled.made;
    reading = handled.reading;
    consumed = handled.consumed;
    bounded = handled.bounded;
    ended = handled.ended;
  }

module _ {H C : Type 0} (content : H → Content) (now_gives : C → Option ℕ → C → Type 0)
    (old : Line) (h : H) (c : C) (new : Line) (i : H) (d : C) where
  pub handled_sane : (e : ServeEnd) → IsHandled (IsAnsweredOver content) now_gives old (h, c) new (i, d) e
      → SaneThen Sane (content h) (content i)
  handled_sane e handled =
      runs_sane (content h) handled.exchanges (content i)
      (session_runs content h handled.exchanges i handled.session)

-- a run, and a run from where it ended
run_then : (old mid new : World) (requests more : List (ℕ × Request)) (replies others : List Reply)
    → Run old requests replies mid → Run mid more others new
    → Run old (requests ++ more) (replies ++ others) new
run_then old mid new [] more [] others same rest = subst (λ (w : World). Run w more others new) same rest
run_then old mid new [] more (r ∷ replies) others run rest = absurd run
run_then old mid new (q ∷ requests) more [] others run rest = absurd run
run_then old mid new (q ∷ requests) more (r ∷ replies) others (next, step, run) rest =
    (next, step, run_then next mid new requests more replies others run rest)

-- the requests of both, and their replies
made_then : (xs ys : List Exchange) (requests more : List (ℕ × Request)) (replies others : List Reply)
    → AreRequestsMade xs requests replies → AreRequestsMade ys more others
    → AreRequestsMade (xs ++ ys) (requests ++ more) (replies ++ others)
made_then [] ys requests more replies others (asks, tells) rest =
    subst (λ (qs : List (ℕ × Request)). AreRequestsMade ys (qs ++ more) (replies ++ others)) (sym asks)
    (subst (λ (rs : List Reply). AreRequestsMade ys more (rs ++ others)) (sym tells) rest)
made_then (x ∷ xs) ys requests more replies others (inl (other, made)) rest =
    inl (other, made_then xs ys requests more replies others made rest)
made_then (x ∷ xs) ys requests more replies others (inr (request, reply, later, left, asks, tells, is, made)) rest =
    inr (
      request,
      reply,
      later ++ more,
      left ++ others,
      ap (λ (qs : List (ℕ × Request)). qs ++ more) asks,
      ap (λ (rs : List Reply). rs ++ others) tells,
      is,
      made_then xs ys later more left others made rest,
    )

pub runs_compose : RunsCompose
runs_compose old mid new xs ys first second = record {
  requests = first.requests ++ second.requests;
  replies = first.replies ++ second.replies;
  timed = All-append IsTimed first.requests second.requests first.timed second.timed;
  run = run_then old mid new first.requests second.requests first.replies second.replies first.run second.run;
  made = made_then xs ys first.requests second.requests first.replies second.replies first.made second.made;
}
