use Rattle.std.proofs.Common.{◌≡◌, ℕ, ◌-◌, ◌<◌, ◌≤◌, List, Option, length, arith, refl, ◌∙◌, ap, subst, inl, inr}
use Rattle.hall_solve.specs.declared.choice.Choice.{Choice}
use Rattle.hall_solve.specs.Question.{Question, IsPartial, IsQuestionFilling, IsHopeless}
use Rattle.hall_solve.specs.Trail.{Trailed}
use Rattle.hall_solve.specs.Choices.{InRange, visits_left, visits_ahead}
use Rattle.hall_solve.proofs.Trees.{plain_tree-pos}
use Rattle.hall_solve.proofs.explore.turn.Goals as goal

range : (q : Question) (p : List (Option ℕ)) (values : ℕ) (f : List ℕ) → IsPartial q p → values ≡ q.values
    → IsQuestionFilling q f → InRange (length p) values f
range q p values f s e h i lt = rw e (h.in_range i (omega (arith, lt, s.size)))

-- what awaits its turn takes fewer visits than before
fewer : (v w size : ℕ) (n b : Trailed) (rest stack : List Choice) → v ≡ w → length n.places ≡ size
    → length b.places ≡ size → visits_ahead v n rest ≤ visits_left (length b.places) v stack
    → visits_left size w rest < visits_left size w stack
fewer v w size n b rest stack e new old paid =
    let told : visits_ahead w n rest ≤ visits_left (length b.places) w stack = subst
    (λ (x : ℕ). visits_ahead x n rest ≤ visits_left (length b.places) x stack) e paid in
    omega (
      arith,
      told,
      plain_tree-pos w (length n.places - length n.trail),
      ap (λ (x : ℕ). visits_left x w rest) new,
      ap (λ (x : ℕ). visits_left x w stack) old,
    )

pub turning-smaller : goal.turning-smaller
turning-smaller g c =
    let size = c.advance.ensures.size in
    let less = fewer c.values.result (g.R.Rules.question c.args.rules.now).values (length c.turning.board.places)
    c.advance.new.board c.turning.board c.advance.new.stack.items c.turning.stack.items c.values.ensures size refl
    (c.advance.ensures.paid c.turning-test.true) in
    omega (
      arith,
      less,
      ap (λ (x : ℕ). visits_left x (g.R.Rules.question c.args.rules.now).values
          c.advance.new.stack.items) size,
    )

pub turning-preserved : goal.turning-preserved
turning-preserved g c =
    let q = g.R.Rules.question c.args.rules.now in
    let before = c.turning.invariant in
    let after = c.advance.ensures in
    let on = c.turning-test.true in
    let n = c.advance.new.board in
    let hopeless : IsHopeless q n.places = c.is_refused.ensures.hopeless cc in
    let within = λ (f : List ℕ) (h : IsQuestionFilling q f). range q c.turning.board.places c.values.result f
    before.partial c.values.ensures h in
    record {
      partial = record {
        size = after.size ∙ before.partial.size;
        in_range = λ i v h. elim (after.values on i v h)
            [ inl old ↦ before.partial.in_range i v old | inr small ↦ rw (← c.values.ensures) small ];
      };
      made = after.made on;
      size = after.size ∙ before.size;
      waited = λ f h w. before.waited f h ((after.ahead on f (within f h)).1 (inr w));
      waits = λ f h right w. elim ((after.ahead on f (within f h)).0 (before.waits f h right w)) [
        | inl e ↦ absurd (hopeless f (record { filling = h; extends = e; right = right }))
        | inr later ↦ later
      ];
      paid =
          let less = fewer c.values.result q.values (length c.args.board.now.places) n c.turning.board
          c.advance.new.stack.items c.turning.stack.items c.values.ensures (after.size ∙ before.size) before.size
          (after.paid on) in
          omega (arith, less, before.paid);
    }

pub returns-then-not-is_refused-clause-waited : goal.returns-then-not-is_refused-clause-waited
returns-then-not-is_refused-clause-waited g c = λ yes f h a.
    let q = g.R.Rules.question c.args.rules.now in
    let before = c.turning.invariant in
    before.waited f h ((c.advance.ensures.ahead c.turning-test.true f
    (range q c.turning.board.places c.values.result f before.partial c.values.ensures h)).1 a)
