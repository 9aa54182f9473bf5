use Rattle.std.proofs.Common.{inl, ◌≡◌, ◌+◌, ◌++◌, ◌∷◌, [], ℕ, List, take, refl, sym, ◌∙◌, subst, arith}
use Rattle.std.proofs.lemmas.List.{take_more}
use Rattle.hall_policy.specs.declared.request.Request.{Request}
use Rattle.hall_policy.specs.World.{World}
use Rattle.hall_desk.specs.Run.{IsLeftBy, Run}
use Rattle.hall_desk.specs.Plans.{LeavesRun, Runs, AreStepped, IsNobodys, AreNobodys, NobodysAreAnswered}
use Rattle.hall_desk.specs.declared.reply.Reply.{Reply}
use Rattle.hall_desk.proofs.Runs.{left_more, runs_more, take_all, nobodys_more, stepped_more}
use Rattle.hall_store.proofs.Knowing.{leads_same, leads_then}
use Rattle.hall_desk.proofs.step.run.Goals as goal

pub loop-asked-init : goal.loop-asked-init
loop-asked-init g c =
    let world = (g.S.ReadStore.content c.args.store.now).world in
    let made = c.in_ok-replies.ensures in
    record {
      count = made.len;
      room = made.capacity;
      within = omega arith;
      leads = leads_same (g.S.ReadStore.content c.args.store.now);
      few = omega arith;
      runs = λ h. (
        world,
        subst (λ (replies : List Reply). Run world [] replies world) (sym made.items) refl,
        λ s.
            refl,
      );
      left = λ h serves left may.
          subst (λ (replies : List Reply). IsLeftBy world [] replies left) (sym made.items)
          (inl (c.at_rest.ensures h serves left may));
      stepped = subst (λ (replies : List Reply). AreStepped g.S.ReadStore.content c.args.store.now [] replies
          c.args.store.now) (sym made.items) refl;
      answered = subst (λ (replies : List Reply). NobodysAreAnswered [] replies) (sym made.items) tt;
      untouched = λ nobodys. refl;
      sane = λ h s world_sane. world_sane;
    }

pub loop-asked-preserved : goal.loop-asked-preserved
loop-asked-preserved g c =
    let old = c.loop-asked.invariant in
    let step = c.step-reply.ensures in
    let kept = c.keep.ensures in
    let first = g.S.ReadStore.content c.args.store.now in
    let before = g.S.ReadStore.content c.loop-asked.store in
    let new = g.S.ReadStore.content c.step-reply.new.store in
    let requests = c.args.requests.now in
    let index = c.loop-asked.asked-index in
    let asked = c.asked-item.result in
    let more : take (index + 1) requests ≡ take index requests ++ asked
    ∷ [] = take_more requests index asked c.loop-asked-test.true
    ∙ (let there = sym c.asked-item.is in λ i. take index requests ++ there i ∷ []) in
    let here : AreNobodys requests → IsNobodys asked.1 =
    λ nobodys. subst (λ (item : ℕ × Request). IsNobodys item.1) (sym c.asked-item.is)
    (nobodys index asked c.loop-asked-test.true) in
    record {
      count = omega (arith, kept.len, old.count);
      room = omega (arith, kept.capacity, old.room);
      within = omega (arith, c.loop-asked-test.true);
      leads = leads_then first before new old.leads step.leads;
      few = omega (arith, old.few, step.once);
      runs = λ h.
          subst (λ (list : List (ℕ × Request)). Runs first list c.keep.new.replies.items new) (sym more)
          (subst (λ (replies : List Reply). Runs first (take index requests ++ asked ∷ []) replies new) (sym kept.items)
          (runs_more first before new (take index requests) c.loop-asked.replies.items asked c.step-reply.result
          (step.leads.serves h) (old.runs (step.leads.honest h)) (step.steps h)));
      left = λ h serves.
          let was = step.leads.honest h in
          subst (λ (list : List (ℕ × Request)). (left : World) → new.may_leave left
          → IsLeftBy first.world list c.keep.new.replies.items left) (sym more)
          (subst (λ (replies : List Reply). (left : World) → new.may_leave left
          → IsLeftBy first.world (take index requests ++ asked ∷ []) replies left) (sym kept.items)
          (left_more first before new (take index requests) c.loop-asked.replies.items asked c.step-reply.result
          (old.runs was) (step.steps h) step.stops step.settled h
          (old.left was serves)));
      stepped =
          subst (λ (list : List (ℕ × Request)). AreStepped g.S.ReadStore.content c.args.store.now list
          c.keep.new.replies.items c.step-reply.new.store) (sym more)
          (subst (λ (replies : List Reply). AreStepped g.S.ReadStore.content c.args.store.now
          (take index requests ++ asked ∷ []) replies c.step-reply.new.store) (sym kept.items)
          (stepped_more g.S.ReadStore.content c.args.store.now c.loop-asked.store c.step-reply.new.store
          (take index requests) c.loop-asked.replies.items asked c.step-reply.result old.stepped
          (record {
            leads = step.leads;
            once = step.once;
            quiet = step.quiet;
            steps = step.steps;
            stops = step.stops;
            untouched = step.untouched;
          })));
      answered =
          subst (λ (list : List (ℕ × Request)). NobodysAreAnswered list c.keep.new.replies.items) (sym more)
          (subst (λ (replies : List Reply). NobodysAreAnswered (take index requests ++ asked ∷ []) replies)
          (sym kept.items)
          (nobodys_more (take index requests) c.loop-asked.replies.items asked c.step-reply.result old.answered
          step.answered));
      untouched = λ nobodys. step.untouched (here nobodys) ∙ old.untouched nobodys;
      sane = λ h s world_sane. step.sane h s (old.sane (step.leads.honest h) (step.leads.serves h s) world_sane);
    }

pub returns-clause-runs : goal.returns-clause-runs
returns-clause-runs g c =
    let whole : take c.loop-asked.asked-index c.args.requests.now ≡ c.args.requests.now = take_all c.args.requests.now
    c.loop-asked.asked-index c.loop-asked-test.false in
    λ h. subst (λ (list : List (ℕ × Request)). Runs (g.S.ReadStore.content c.args.store.now) list
    c.loop-asked.replies.items (g.S.ReadStore.content c.loop-asked.store)) whole (c.loop-asked.invariant.runs h)

pub returns-clause-stepped : goal.returns-clause-stepped
returns-clause-stepped g c =
    let whole : take c.loop-asked.asked-index c.args.requests.now ≡ c.args.requests.now = take_all c.args.requests.now
    c.loop-asked.asked-index c.loop-asked-test.false in
    subst (λ (list : List (ℕ × Request)). AreStepped g.S.ReadStore.content c.args.store.now list
    c.loop-asked.replies.items c.loop-asked.store) whole c.loop-asked.invariant.stepped

pub returns-clause-answered : goal.returns-clause-answered
returns-clause-answered g c =
    let whole : take c.loop-asked.asked-index c.args.requests.now ≡ c.args.requests.now = take_all c.args.requests.now
    c.loop-asked.asked-index c.loop-asked-test.false in
    subst (λ (list : List (ℕ × Request)). NobodysAreAnswered list c.loop-asked.replies.items) whole
    c.loop-asked.invariant.answered

pub returns-clause-few : goal.returns-clause-few
returns-clause-few g c = omega (arith, c.loop-asked.invariant.few, c.loop-asked.invariant.within)

pub returns-clause-left : goal.returns-clause-left
returns-clause-left g c =
    let whole : take c.loop-asked.asked-index c.args.requests.now ≡ c.args.requests.now = take_all c.args.requests.now
    c.loop-asked.asked-index c.loop-asked-test.false in
    subst (λ (list : List (ℕ × Request)). LeavesRun (g.S.ReadStore.content c.args.store.now) list
    c.loop-asked.replies.items (g.S.ReadStore.content c.loop-asked.store)) whole c.loop-asked.invariant.left
