use Rattle.std.proofs.Common.{◌≡◌, ℕ, ◌+◌, ◌-◌, ◌*◌, ◌<◌, ◌∷◌, [], ◌++◌, List, length, arith, sym, ◌∙◌, ap, subst, refl}
use Rattle.std.proofs.Common.{inl, inr}
use Rattle.std.specs.Prelude.{vec_capacity, vec_len}
use Rattle.std.proofs.lemmas.List.Sums.{sum_by_push}
use Rattle.hall_solve.specs.declared.choice.Choice.{Choice}
use Rattle.hall_solve.specs.Question.{plain_tree}
use Rattle.hall_solve.specs.Trail.{Trailed}
use Rattle.hall_solve.specs.Choices.{AreMade, AwaitsTurn, IsLater, visits_left}
use Rattle.hall_solve.proofs.Trails.{pushed}
use Rattle.hall_solve.proofs.Back.{popped_made, popped_waiting, popped_within, popped_unset, exhausted, advanced_made}
use Rattle.hall_solve.proofs.Back.{advanced_trailed, advanced_ahead, advanced_paid, advanced_values, undone_keeps}
use Rattle.hall_solve.proofs.explore.advance.Goals as goal

-- the choices before the newest one was taken off
made_before : (b : Trailed) (all s : List Choice) (d : Choice) → all ≡ s ++ d ∷ [] → AreMade b all
    → AreMade b (s ++ d ∷ [])
made_before b all s d e made = subst (λ (x : List Choice). AreMade b x) e made

pub set-requires : goal.set-requires
set-requires c =
    let b = c.popping.board in
    let s = c.pop.new.self.items in
    let d = c.in-Some.choice in
    let made = made_before b c.popping.stack.items s d c.in-Some.ensures.items c.popping.invariant.made in
    let undo = c.undo_to.ensures in
    record {
      unset = (
        popped_within b c.undo_to.new.self s d undo.before made undo.undone,
        popped_unset b
            c.undo_to.new.self s d undo.before made undo.undone,
      );
    }

abbrev next_of : Choice → Choice
next_of d = record { mark = d.mark; place = d.place; value = d.value + 1 }

-- there is room where a choice was taken off
module _ (c : goal.After-push) where
  abbrev b : Trailed
  b = c.popping.board

  abbrev s : List Choice
  s = c.pop.new.self.items

  abbrev d : Choice
  d = c.in-Some.choice

  made : AreMade b (s ++ d ∷ [])
  made = made_before b c.popping.stack.items s d c.in-Some.ensures.items c.popping.invariant.made

  items : c.push.new.self.items ≡ s ++ next_of d ∷ []
  items = pushed c.push.result s c.push.new.self.items (next_of d) (vec_capacity c.pop.new.self)
      (vec_len c.pop.new.self) c.pop.new.self.ok.0 (omega (
        arith,
        c.pop.ensures.capacity,
        c.in-Some.ensures.len,
        c.popping.stack.ok.1,
        c.popping.stack.ok.0,
        c.pop.new.self.ok.0,
        ap length c.in-Some.ensures.items,
      ))
      c.push.ensures.items c.push.ensures.full

pub returns-then-choice-saturating_sub-clause-made : goal.returns-then-choice-saturating_sub-clause-made
returns-then-choice-saturating_sub-clause-made c = λ yes.
    advanced_made (b c) c.undo_to.new.self c.set.new.self (s c) c.push.new.self.items (d c) (next_of (d c))
    c.undo_to.ensures.before c.undo_to.ensures.trailed (made c) c.undo_to.ensures.undone c.set.ensures.places
    c.set.ensures.trail (items c) refl refl refl

pub returns-then-choice-saturating_sub-clause-trailed : goal.returns-then-choice-saturating_sub-clause-trailed
returns-then-choice-saturating_sub-clause-trailed c = λ yes.
    advanced_trailed (b c) c.undo_to.new.self c.set.new.self (s c) c.push.new.self.items (d c) (next_of (d c))
    c.undo_to.ensures.before c.undo_to.ensures.trailed (made c) c.undo_to.ensures.undone c.set.ensures.places
    c.set.ensures.trail (items c) refl refl refl

pub returns-then-choice-saturating_sub-clause-ahead : goal.returns-then-choice-saturating_sub-clause-ahead
returns-then-choice-saturating_sub-clause-ahead c = λ yes f range.
    let was = c.popping.invariant.waiting f range in
    let now = advanced_ahead (b c) c.undo_to.new.self c.set.new.self (s c) c.push.new.self.items (d c) (next_of (d c))
    c.undo_to.ensures.before c.undo_to.ensures.trailed (made c) c.undo_to.ensures.undone c.set.ensures.places
    c.set.ensures.trail (items c) refl refl refl f in (
      λ w. now.0 (subst (λ (x : List Choice). AwaitsTurn (b c) x f) c.in-Some.ensures.items (was.0 w)),
      λ w. was.1 (subst (λ (x : List Choice). AwaitsTurn (b c) x f) (sym c.in-Some.ensures.items) (now.1 w)),
    )

pub returns-then-choice-saturating_sub-clause-paid : goal.returns-then-choice-saturating_sub-clause-paid
returns-then-choice-saturating_sub-clause-paid c = λ yes.
    let values = c.args.values in
    let size : length (b c).places ≡ length c.args.board.now.places = c.popping.invariant.size in
    let now = advanced_paid (b c) c.undo_to.new.self c.set.new.self (s c) c.push.new.self.items (d c) (next_of (d c))
    c.undo_to.ensures.before c.undo_to.ensures.trailed (made c) c.undo_to.ensures.undone c.set.ensures.places
    c.set.ensures.trail (items c) refl refl refl values (omega
    (arith, c.if-choice-saturating_sub.true, c.saturating_sub.ensures)) in
    let all : visits_left (length (b c).places) values ((s c) ++ (d c) ∷ []) ≡ visits_left
    (length c.args.board.now.places) values c.popping.stack.items = ap
    (λ (n : ℕ). visits_left n values ((s c) ++ (d c) ∷ [])) size
    ∙ sym (ap (visits_left (length c.args.board.now.places) values) c.in-Some.ensures.items) in
    omega (arith, now, all, c.popping.invariant.paid)

pub returns-then-choice-saturating_sub-clause-values : goal.returns-then-choice-saturating_sub-clause-values
returns-then-choice-saturating_sub-clause-values c = λ yes i v h.
    let less : (d c).value + 1 < c.args.values = omega (
      arith,
      c.if-choice-saturating_sub.true,
      c.saturating_sub.ensures,
    ) in
    elim (advanced_values (b c) c.undo_to.new.self c.set.new.self (s c) c.push.new.self.items (d c) (next_of (d c))
    c.undo_to.ensures.before c.undo_to.ensures.trailed (made c) c.undo_to.ensures.undone c.set.ensures.places
    c.set.ensures.trail (items c) refl refl refl c.args.values less i v h) [
      | inl old ↦ inl (c.popping.invariant.keeps i v old)
      | inr small ↦ inr small
    ]

pub popping-preserved : goal.popping-preserved
popping-preserved c =
    let s = c.pop.new.self.items in
    let d = c.in-Some.choice in
    let b = c.popping.board in
    let n = c.undo_to.new.self in
    let undo = c.undo_to.ensures in
    let made = made_before b c.popping.stack.items s d c.in-Some.ensures.items c.popping.invariant.made in
    let within = popped_within b n s d undo.before made undo.undone in
    record {
      made = popped_made b n s d undo.before made undo.undone;
      size = undo.undone.size ∙ c.popping.invariant.size;
      keeps = λ i v h. c.popping.invariant.keeps i v (undone_keeps d.mark b n undo.undone i v h);
      waiting = λ f range.
          let was = c.popping.invariant.waiting f range in
          let now = popped_waiting b n s d undo.before made undo.undone f in
          let none : IsLater n f d → ⊥ = exhausted n f d c.args.values within
          (λ i h. range i (omega (arith, h, undo.undone.size, c.popping.invariant.size)))
          (omega (arith, c.saturating_sub.ensures)) in (
            λ w. elim (now.0 (subst (λ (x : List Choice). AwaitsTurn b x f) c.in-Some.ensures.items (was.0 w)))
                [ inl v ↦ v | inr l ↦ absurd (none l) ],
            λ w. was.1 (subst (λ (x : List Choice). AwaitsTurn b x f) (sym c.in-Some.ensures.items) (now.1 (inl w))),
          );
      paid =
          let size = length c.args.board.now.places in
          let all : visits_left size c.args.values c.popping.stack.items ≡ visits_left size c.args.values
          (s ++ d ∷ []) = ap (visits_left size c.args.values) c.in-Some.ensures.items in
          let push = sum_by_push (λ (x : Choice). (c.args.values - 1 - x.value) * plain_tree c.args.values
          (size - 1 - x.mark)) s d in
          omega (arith, all, push, c.popping.invariant.paid);
    }
