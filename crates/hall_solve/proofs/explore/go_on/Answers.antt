use Rattle.std.proofs.lemmas.Result.{IfOk-from_err}
use Rattle.std.proofs.Common.{◌≡◌, IsTrue, false, arith, refl, sym, ◌∙◌, subst, inl, inr}
use Rattle.hall_solve.specs.declared.visit.Visited.{Visited}
use Rattle.hall_solve.specs.declared.visit.Visited.TheVariants.{Open}
use Rattle.hall_solve.specs.Visit.{IsVisit}
use Rattle.hall_solve.proofs.Boards.{same_twice}
use Rattle.hall_solve.proofs.Underway.{IsEnded, IsTurning, AreMade-grows, answer_of, opened_after, turned_among}
use Rattle.hall_solve.proofs.Underway.{turning_after, told_all, gave_up}
use Rattle.hall_solve.proofs.explore.go_on.Goals as goal
use Rattle.hall_solve.proofs.explore.go_on.Given.{Over}
use Rattle.hall_solve.proofs.explore.go_on.Goals.{After-turn, in-Open+in_ok-descend-in-Open+else-not-is_refused}
use Rattle.hall_solve.proofs.explore.go_on.Goals.{in-Closed, in-Whole+in-None, in-None-found, in-Some-found}

pub descend-requires-clause-made : goal.descend-requires-clause-made
descend-requires-clause-made g c =
    let q = g.R.Rules.question c.args.rules.now in
    let u = c.visiting.invariant.under_way in
    let open_there : IsVisit (g.R.Rules.question c.visiting.rules) c.visiting.board c.visit.new.partial
    (Open c.in-Open.place) = subst (λ (v : Visited). IsVisit (g.R.Rules.question c.visiting.rules) c.visiting.board
    c.visit.new.partial v) c.in-Open.is c.in_ok-place.ensures.visit in
    AreMade-grows q c.args.start.now.places c.visiting.board c.visiting.stack.items 0 c.visit.new.partial u.trailed
    open_there.1 u.made

pub visiting-preserved-then-not-is_refused : goal.visiting-preserved-then-not-is_refused
visiting-preserved-then-not-is_refused g c =
    let q = g.R.Rules.question c.args.rules.now in
    let r = g.R.Rules.question c.visiting.rules in
    let b = c.visiting.board in
    let n = c.visit.new.partial in
    let place = c.in-Open.place in
    let open_there : IsVisit r b n (Open place) = subst (λ (v : Visited). IsVisit r b n v) c.in-Open.is
    c.in_ok-place.ensures.visit in
    let after = c.in_ok-descend-in-Open.ensures in
    record {
      same = same_twice q r (g.R.Rules.question c.visit.new.rules) c.visiting.invariant.same c.visit.ensures.same;
      at_visits = c.visit.ensures.at_visits;
      within = omega (arith, c.visit.ensures.counted, c.visiting-test.true, c.visits.ensures);
      under_way = opened_after q r c.args.start.now.places b c.visiting.stack.items (g.R.Rules.visits c.visiting.rules)
          (g.R.Rules.visits c.visit.new.rules) c.visiting.found n c.descend.new.board c.descend.new.stack.items place
          c.visiting.invariant.same c.visiting.invariant.under_way open_there c.visit.ensures.counted
          c.descend.ensures.places after.made after.trailed after.ahead after.paid;
    }

pub returns-in-Some-clause-frugal : goal.returns-in-Some-clause-frugal
returns-in-Some-clause-frugal g c =
    let q = g.R.Rules.question c.args.rules.now in
    let more = gave_up q c.args.start.now.places c.visiting.board c.visiting.stack.items
    (g.R.Rules.visits c.visiting.rules) c.visiting.found c.visiting.invariant.under_way in
    omega (arith, more, c.visit.ensures.counted)

pub turn-requires : goal.turn-requires
turn-requires g c =
    let q = g.R.Rules.question c.args.rules.now in
    let r = g.R.Rules.question c.visiting.rules in
    let s = g.R.Rules.question c.visit.new.rules in
    let visits = g.R.Rules.visits c.visit.new.rules in
    let m = c.match-branch-2.board in
    let rest = c.match-branch-2.stack.items in
    let found = c.match-branch-2.found in
    let same = same_twice q r s c.visiting.invariant.same c.visit.ensures.same in
    let ended : IsEnded s c.visit.new.partial c.visiting.stack.items c.visiting.found m rest found
    c.in_ok-place.field-0 = elim c.match-branch-2.branch [
      | in-Closed w ↦ inl (inl (w.in-Closed.is, w.found-is), w.board-is, rw w.stack-is refl)
      | in-Whole+in-None w ↦ inl (
        inr (w.in-Whole.filling, w.in-Whole.is, w.in-None.ensures.value, w.found-is),
        w.board-is,
        rw w.stack-is refl,
      )
      | in-Open+in_ok-descend-in-Open+else-not-is_refused w ↦ inr (
        rw (w.board-is, w.stack-is) (let after = w.in_ok-descend-in-Open.ensures in record {
          place = w.in-Open.place;
          is = w.in-Open.is;
          places = w.descend.ensures.places;
          made = after.made;
          trailed = after.trailed;
          ahead = after.ahead;
          paid = after.paid;
          hopeless = w.is_refused.ensures.hopeless cc;
        }),
        w.found-is,
      )
    ] in
    let turning = turning_after q r s c.args.start.now.places c.visiting.board c.visit.new.partial
    c.visiting.stack.items (g.R.Rules.visits c.visiting.rules) visits c.in_ok-place.field-0 c.visiting.found m rest
    found c.visiting.invariant.same same c.visiting.invariant.under_way c.in_ok-place.ensures.visit
    c.visit.ensures.counted ended in
    record {
      partial = record {
        size = turning.partial.size ∙ sym same.cells;
        in_range = λ i v at. rw same.values
            (turning.partial.in_range i v at);
      };
      made = turning.made;
    }

-- after a visit below which nothing is left
turning : (g : Over) (c : After-turn g)
    → IsTurning (g.R.Rules.question c.args.rules.now) c.args.start.now.places c.match-branch-2.board
    c.match-branch-2.stack.items c.match-branch-2.found (g.R.Rules.visits c.visit.new.rules)
turning g c =
    let q = g.R.Rules.question c.args.rules.now in
    let r = g.R.Rules.question c.visiting.rules in
    let s = g.R.Rules.question c.visit.new.rules in
    let visits = g.R.Rules.visits c.visit.new.rules in
    let m = c.match-branch-2.board in
    let rest = c.match-branch-2.stack.items in
    let found = c.match-branch-2.found in
    let same = same_twice q r s c.visiting.invariant.same c.visit.ensures.same in
    let ended : IsEnded s c.visit.new.partial c.visiting.stack.items c.visiting.found m rest found
    c.in_ok-place.field-0 = elim c.match-branch-2.branch [
      | in-Closed w ↦ inl (inl (w.in-Closed.is, w.found-is), w.board-is, rw w.stack-is refl)
      | in-Whole+in-None w ↦ inl (
        inr (w.in-Whole.filling, w.in-Whole.is, w.in-None.ensures.value, w.found-is),
        w.board-is,
        rw w.stack-is refl,
      )
      | in-Open+in_ok-descend-in-Open+else-not-is_refused w ↦ inr (
        rw (w.board-is, w.stack-is) (let after = w.in_ok-descend-in-Open.ensures in record {
          place = w.in-Open.place;
          is = w.in-Open.is;
          places = w.descend.ensures.places;
          made = after.made;
          trailed = after.trailed;
          ahead = after.ahead;
          paid = after.paid;
          hopeless = w.is_refused.ensures.hopeless cc;
        }),
        w.found-is,
      )
    ] in
    turning_after q r s c.args.start.now.places c.visiting.board c.visit.new.partial c.visiting.stack.items
    (g.R.Rules.visits c.visiting.rules) visits c.in_ok-place.field-0 c.visiting.found m rest found
    c.visiting.invariant.same same c.visiting.invariant.under_way c.in_ok-place.ensures.visit
    c.visit.ensures.counted ended

pub returns-then-not-turn-clause-progress : goal.returns-then-not-turn-clause-progress
returns-then-not-turn-clause-progress g c =
    let q = g.R.Rules.question c.args.rules.now in
    let s = g.R.Rules.question c.visit.new.rules in
    let visits = g.R.Rules.visits c.visit.new.rules in
    let m = c.match-branch-2.board in
    let rest = c.match-branch-2.stack.items in
    let found = c.match-branch-2.found in
    let same = same_twice q (g.R.Rules.question c.visiting.rules) s c.visiting.invariant.same c.visit.ensures.same in
    let ended = turning g (goal.at.returns-then-not-turn-clause-progress g c).After-turn in
    let told : c.match-found-5.result ≡ answer_of found = elim c.match-found-5.branch [
      | in-None-found w ↦ rw w.in-None-found.is w.result-is
      | in-Some-found w ↦ rw w.in-Some-found.is w.result-is
    ] in
    let off : c.turn.result ≡ false = cc in
    told_all q s c.args.start.now.places m rest visits found c.match-found-5.result same ended (c.turn.ensures.over off)
    told

pub returns-then-not-turn-clause-frugal : goal.returns-then-not-turn-clause-frugal
returns-then-not-turn-clause-frugal g c =
    let q = g.R.Rules.question c.args.rules.now in
    let more = gave_up q c.args.start.now.places c.visiting.board c.visiting.stack.items
    (g.R.Rules.visits c.visiting.rules) c.visiting.found c.visiting.invariant.under_way in
    omega (arith, more, c.visit.ensures.counted)

pub visiting-preserved : goal.visiting-preserved
visiting-preserved g c =
    let q = g.R.Rules.question c.args.rules.now in
    let s = g.R.Rules.question c.visit.new.rules in
    let visits = g.R.Rules.visits c.visit.new.rules in
    let m = c.match-branch-2.board in
    let rest = c.match-branch-2.stack.items in
    let found = c.match-branch-2.found in
    let same = same_twice q (g.R.Rules.question c.visiting.rules) s c.visiting.invariant.same c.visit.ensures.same in
    let ended = turning g (goal.at.visiting-preserved g c).After-turn in
    let on : IsTrue c.turn.result = cc in
    let after = c.turn.ensures in
    record {
      same = same;
      at_visits = c.visit.ensures.at_visits;
      within = omega (arith, c.visit.ensures.counted, c.visiting-test.true, c.visits.ensures);
      under_way = turned_among q s c.args.start.now.places m rest visits found c.turn.new.board c.turn.new.stack.items
          same ended (after.partial on) (after.made on) (after.trailed on) (after.ahead on) (after.waited on)
          (after.paid on);
    }
