-- A run of the hall is a life of it, in which each of its requests was answered.
use Rattle.std.proofs.Common.{◌≡◌, ◌⊎◌, ap, sym, subst, refl, inl, inr, ℕ, List, [], ◌∷◌, ◌++◌, Option, Some, None}
use Rattle.std.specs.Prelude.{All}
use Rattle.std.proofs.lemmas.List.Elements.{All-head, All-tail}
use Rattle.hall_policy.specs.World.{World}
use Rattle.hall_policy.specs.declared.request.Request.{Request}
use Rattle.hall_desk.specs.History.{Event, requested, History}
use Rattle.hall_desk.specs.Run.{IsTimed, Run}
use Rattle.hall_desk.specs.declared.reply.Reply.{Reply}
use Rattle.hall_desk.specs.declared.reply.Reply.TheVariants.{Unavailable}
use Rattle.hall_http.specs.Answered.{Answers, IsRefused}
use Rattle.hall_http.specs.Connection.{Exchange}
use Rattle.hall_http.specs.Groups.{AnswersInTurn, AreRefusedAlike}
use Rattle.hall_http.specs.Reply.{BytesOf}
use Rattle.hall_http.specs.Serving.{AnswersAt, AreRequestsMade, IsRunOver}
use Rattle.hall_laws.specs.Happened.{AreEventsOf, HaveHappened}

-- some life leads from one world to another
abbrev pub Life : World → World → Type 0
Life world last = (events : List Event) × History world events last

pub life_then : (first second : List Event) (world mid last : World) → History world first mid
    → History mid second last → History world (first ++ second) last
life_then [] second world mid last same rest = subst (λ (w : World). History w second last) same rest
life_then (event ∷ first) second world mid last (next, happens, more) rest =
    (next, happens, life_then first second next mid last more rest)

pub lives_on : (world mid last : World) → Life world mid → Life mid last → Life world last
lives_on world mid last (first, life) (second, more) =
    (first ++ second, life_then first second world mid last life more)

pub life_of : (world : World) (xs : List Exchange) (last : World) → HaveHappened world xs last → Life world last
life_of world xs last (events, of, life) = (events, life)

-- ---- the events of requests
events_then : (xs ys : List Exchange) (first second : List Event) → AreEventsOf xs first → AreEventsOf ys second
    → AreEventsOf (xs ++ ys) (first ++ second)
events_then [] ys first second none of =
    subst (λ (es : List Event). AreEventsOf ys (es ++ second)) (sym none) of
events_then (x ∷ xs) ys first second (inl (none, more)) of = inl (none, events_then xs ys first second more of)
events_then (x ∷ xs) ys first second (inr (t, request, given, later, is, event, more)) of = inr (
  t,
  request,
  given,
  later ++ second,
  ap (λ (es : List Event). es ++ second) is,
  event,
  events_then xs ys later second more of,
)

pub happened_then : (world : World) (xs : List Exchange) (mid : World) (ys : List Exchange) (last : World)
    → HaveHappened world xs mid → HaveHappened mid ys last → HaveHappened world (xs ++ ys) last
happened_then world xs mid ys last (first, of, life) (second, and, more) = (
  first ++ second,
  events_then xs ys first second of and,
  life_then first second world mid last life more,
)

-- a request that was answered so, or was answered 503 and made so all the same
one_happened : (world : World) (x : Exchange) (moment : Option ℕ) (reply : List ℕ) (next : World) → x.moment ≡ moment
    → (reply ≡ x.reply) ⊎ BytesOf Unavailable x.reply → AnswersAt world moment x.request reply next
    → HaveHappened world (x ∷ []) next
one_happened world x (Some t) reply next at which (inl made) = (
  requested t made.request made.reply ∷ [],
  inr (
    t,
    made.request,
    made.reply,
    [],
    refl,
    record {
      moment = at;
      reads = made.reads;
      told = elim which [
        | inl same ↦ inl (subst (λ (bytes : List ℕ). BytesOf made.reply bytes) same made.written)
        | inr none ↦ inr none
      ];
    },
    refl,
  ),
  (next, made.step, refl),
)
one_happened world x (Some t) reply next at (inl same) (inr (inl refused, stays)) = (
  [],
  inl (inl (t, at, subst (λ (bytes : List ℕ). IsRefused x.request bytes) same refused), refl),
  stays,
)
one_happened world x (Some t) reply next at (inl same) (inr (inr none, stays)) =
    ([], inl (inr (subst (λ (bytes : List ℕ). BytesOf Unavailable bytes) same none), refl), stays)
one_happened world x (Some t) reply next at (inr none) (inr (other, stays)) = ([], inl (inr none, refl), stays)
one_happened world x None reply next at (inl same) (none, stays) =
    ([], inl (inr (subst (λ (bytes : List ℕ). BytesOf Unavailable bytes) same none), refl), stays)
one_happened world x None reply next at (inr none) (other, stays) = ([], inl (inr none, refl), stays)

pub answer_happened : (world : World) (x : Exchange) (next : World)
    → AnswersAt world x.moment x.request x.reply next → HaveHappened world (x ∷ []) next
answer_happened world x next answered = one_happened world x x.moment x.reply next refl (inl refl) answered

pub made_happened : (xs made : List Exchange) (world next : World) → AreRefusedAlike xs made
    → AnswersInTurn made world next → HaveHappened world xs next
made_happened [] made world next none answered =
    ([], refl, subst (λ (ys : List Exchange). AnswersInTurn ys world next) none answered)
made_happened (x ∷ xs) made world next (told, reply, more, is, refused) answered =
    let (mid, first, rest) = subst (λ (ys : List Exchange). AnswersInTurn ys world next) is answered in
    happened_then world (x ∷ []) mid xs next (one_happened world x x.moment reply mid refl (inr told) first)
    (made_happened xs more mid next refused rest)

unserved : (world : World) (moment : Option ℕ) (request reply : List ℕ) → BytesOf Unavailable reply
    → AnswersAt world moment request reply world
unserved world (Some t) request reply none = inr (inr none, refl)
unserved world None request reply none = (none, refl)

at_moment : (world : World) (x : Exchange) (next : World) (t : ℕ) → x.moment ≡ Some t
    → Answers world t x.request x.reply next → AnswersAt world x.moment x.request x.reply next
at_moment world x next t at says = subst (λ (m : Option ℕ). AnswersAt world m x.request x.reply next) (sym at) says

-- the first exchange of a run was answered, and the others are a run from the world that this left
abbrev Begins : World → Exchange → List Exchange → World → Type 0
Begins world x xs last =
    (next : World) × AnswersAt world x.moment x.request x.reply next × IsRunOver next xs last

begins : (world : World) (x : Exchange) (xs : List Exchange) (last : World) (requests : List (ℕ × Request))
    (replies : List Reply) → All IsTimed requests → Run world requests replies last
    → AreRequestsMade (x ∷ xs) requests replies → Begins world x xs last
begins world x xs last requests replies timed run (inl (inl (moment, at, refused), made)) = (
  world,
  at_moment world x world moment at (inr (inl refused, refl)),
  record { requests = requests; replies = replies; timed = timed; run = run; made = made },
)
begins world x xs last requests replies timed run (inl (inr none, made)) = (
  world,
  unserved world x.moment x.request x.reply none,
  record { requests = requests; replies = replies; timed = timed; run = run; made = made },
)
begins world x xs last requests replies timed run (inr (request, reply, later, rest, asks, tells, is, made)) =
    let known : All IsTimed (request ∷ later) = subst (All IsTimed) asks timed in
    let stepped : Run world (request ∷ later) (reply ∷ rest) last =
    subst (λ (qs : List (ℕ × Request)). Run world qs (reply ∷ rest) last) asks
    (subst (λ (rs : List Reply). Run world requests rs last) tells run) in (
      stepped.0,
      at_moment world x stepped.0 request.0 is.moment (inl (record {
        request = request.1;
        reply = reply;
        reads = is.reads;
        timed = All-head IsTimed request later known;
        step = stepped.1;
        written = is.written;
      })),
      record {
        requests = later;
        replies = rest;
        timed = All-tail IsTimed request later known;
        run = stepped.2;
        made = made;
      },
    )

pub run_happened : (xs : List Exchange) (world last : World) → IsRunOver world xs last → HaveHappened world xs last
run_happened [] world last run =
    let none : Run world [] run.replies last =
    subst (λ (qs : List (ℕ × Request)). Run world qs run.replies last) run.made.0 run.run in
    ([], refl, subst (λ (rs : List Reply). Run world [] rs last) run.made.1 none)
run_happened (x ∷ xs) world last run =
    let (next, answered, rest) = begins world x xs last run.requests run.replies run.timed run.run run.made in
    happened_then world (x ∷ []) next xs last (answer_happened world x next answered) (run_happened xs next last rest)

-- each request of a run was answered in the world that those before it led to, and those after it are a run from there
pub record IsPartOfRun (world : World) (before : List Exchange) (x : Exchange) (after : List Exchange) (last : World)
    : Type 0 where
  pub between : World
  pub kept : World
  pub led : HaveHappened world before between
  pub answered : AnswersAt between x.moment x.request x.reply kept
  pub run : IsRunOver kept after last

pub in_run : (before : List Exchange) (x : Exchange) (after : List Exchange) (world last : World)
    → IsRunOver world (before ++ x ∷ after) last → IsPartOfRun world before x after last
in_run [] x after world last run =
    let (next, answered, rest) = begins world x after last run.requests run.replies run.timed run.run run.made in
    record { between = world; kept = next; led = ([], refl, refl); answered = answered; run = rest }
in_run (y ∷ before) x after world last run =
    let (next, answered, rest) =
    begins world y (before ++ x ∷ after) last run.requests run.replies run.timed run.run run.made in
    let part = in_run before x after next last rest in
    record {
      between = part.between;
      kept = part.kept;
      led = happened_then world (y ∷ []) next before part.between (answer_happened world y next answered) part.led;
      answered = part.answered;
      run = part.run;
    }
