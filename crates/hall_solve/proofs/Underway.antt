-- How far a search has come: what it found, and what is still ahead.
use Rattle.std.proofs.Common.{◌≡◌, ◌≢◌, ◌↔◌, ◌⊎◌, ℕ, ◌+◌, ◌-◌, ◌<◌, ◌≤◌, List, [], Option, Some, None, length, set}
use Rattle.std.proofs.Common.{refl, sym, ◌∙◌, ap, arith, subst, inl, inr}
use Rattle.std.specs.Prelude.{All}
use Rattle.std.proofs.lemmas.Bool.{cases_eq}
use Rattle.std.proofs.lemmas.List.{length-take}
use Rattle.hall_solve.specs.declared.choice.Choice.{Choice}
use Rattle.hall_solve.specs.declared.outcome.Outcome.{Outcome}
use Rattle.hall_solve.specs.declared.outcome.Outcome.TheVariants.{None as Nothing, One, More, GaveUp}
use Rattle.hall_solve.specs.declared.visit.Visited.{Visited}
use Rattle.hall_solve.specs.declared.visit.Visited.TheVariants.{Closed, Whole, Open}
use Rattle.hall_solve.specs.Question.{Question, IsSameQuestion, IsQuestionFilling, IsPartial, IsHopeless, Extends}
use Rattle.hall_solve.specs.Question.{Solves, Narrows, open_places, plain_tree}
use Rattle.hall_solve.specs.Answer.{IsTrueOf, OutcomeOf}
use Rattle.hall_solve.specs.Trail.{Trailed, IsTrailed, Grows}
use Rattle.hall_solve.specs.Choices.{AreMade, AwaitsTurn, IsAhead, SameBelow, visits_left, visits_ahead}
use Rattle.hall_solve.specs.Visit.{IsVisit}
use Rattle.hall_solve.specs.Underway.{IsUnderWay, IsOutcomeTold}
use Rattle.hall_solve.proofs.Boards.{Solves-same, same_turned, IsPartial-set}
use Rattle.hall_solve.proofs.Trees.{plain_tree-le, plain_tree-pos}
use Rattle.hall_solve.proofs.Ahead.{SameBelow-grows, SameBelow-turned, AwaitsTurn-same, not_awaiting}

-- after a visit below which nothing is left
pub record IsTurning (q : Question) (start : List (Option ℕ)) (b : Trailed) (stack : List Choice)
    (got : Option (List ℕ)) (visits : ℕ) : Type 0 where
  pub partial : IsPartial q b.places
  pub made : AreMade b stack
  pub solutions : (f : List ℕ) → Solves q start f → (got ≡ Some f) ⊎ AwaitsTurn b stack f
  pub found : (f : List ℕ) → got ≡ Some f → Solves q start f × (AwaitsTurn b stack f → ⊥) × (stack ≢ [] → 2 ≤ visits)
  pub ahead : (f : List ℕ) → IsQuestionFilling q f → AwaitsTurn b stack f → Extends f start
  pub paid : visits + visits_left (length b.places) q.values stack ≤ plain_tree q.values (open_places start)
  pub visited : 0 < visits

-- the answer where this is all that solves: none, or one
abbrev pub answer_of : Option (List ℕ) → Outcome
answer_of None = Nothing
answer_of (Some f) = One f

pub IsVisit-same : (q r : Question) (old new : Trailed) (v : Visited) → IsSameQuestion q r → IsVisit r old new v
    → IsVisit q old new v
IsVisit-same q r old new Closed e h = (λ f s. h.0 f (Solves-same q r old.places f e s), h.1)
IsVisit-same q r old new (Whole g) e h = (
  (
    Solves-same r q old.places g (same_turned q r e) h.0.0,
    λ f s. h.0.1 f
        (Solves-same q r old.places f e s),
  ),
  h.1,
)
IsVisit-same q r old new (Open i) e h = (
  (
    record {
      partial = record {
        size = h.0.0.partial.size ∙ e.cells;
        in_range = λ j v at. rw (sym e.values)
            (h.0.0.partial.in_range j v at);
      };
      keeps = h.0.0.keeps;
      solutions = λ f s. Solves-same r q new.places f (same_turned q r e)
          (h.0.0.solutions f (Solves-same q r old.places f e s));
    },
    h.0.1,
    rw (sym e.values) h.0.2,
  ),
  h.1,
)

module _ (q : Question) (start : List (Option ℕ)) (b : Trailed) (stack : List Choice) (visits : ℕ) where
  -- what solves below the board solves the start
  below : (got : Option (List ℕ)) → IsUnderWay q start b stack got visits → (f : List ℕ) → Solves q b.places f
      → Solves q start f
  below got u f s = record { filling = s.filling; extends = u.ahead f s.filling (inl s.extends); right = s.right }

  again : (got : Option (List ℕ)) → IsUnderWay q start b stack got visits → (f : List ℕ) → Solves q start f
      → Extends f b.places → Solves q b.places f
  again got u f s e = record { filling = s.filling; extends = e; right = s.right }

  left : (got : Option (List ℕ)) → IsUnderWay q start b stack got visits
      → visits + 1 + visits_left (length b.places) q.values stack ≤ plain_tree q.values (open_places start)
  left got u = omega (arith, u.paid, plain_tree-pos q.values (length b.places - length b.trail))

  pub closed_turning : (got : Option (List ℕ)) → IsUnderWay q start b stack got visits → IsHopeless q b.places
      → IsTurning q start b stack got (visits + 1)
  closed_turning got u none = record {
    partial = u.partial;
    made = u.made;
    solutions = λ f s. elim (u.solutions f s) [
      | inl e ↦ inl e
      | inr a ↦ elim a
          [ inl e ↦ absurd (none f (again got u f s e)) | inr w ↦ inr w ]
    ];
    found = λ f e. let h = u.found f e in (h.0, λ w. h.1 (inr w), λ more. omega (arith, h.2));
    ahead = λ f s w. u.ahead f s (inr w);
    paid = left got u;
    visited = omega arith;
  }

  -- a board that was refused is not visited
  pub refused_turning : (got : Option (List ℕ)) → IsUnderWay q start b stack got visits → IsHopeless q b.places
      → 0 < visits → IsTurning q start b stack got visits
  refused_turning got u none some = record {
    partial = u.partial;
    made = u.made;
    solutions = λ f s. elim (u.solutions f s) [
      | inl e ↦ inl e
      | inr a ↦ elim a
          [ inl e ↦ absurd (none f (again got u f s e)) | inr w ↦ inr w ]
    ];
    found = λ f e. let h = u.found f e in (h.0, λ w. h.1 (inr w), λ more. h.2);
    ahead = λ f s w. u.ahead f s (inr w);
    paid = omega (arith, u.paid);
    visited = some;
  }

  pub whole_turning : (g : List ℕ) → IsUnderWay q start b stack None visits → Solves q b.places g
      → ((f : List ℕ) → Solves q b.places f → f ≡ g) → IsTurning q start b stack (Some g) (visits + 1)
  whole_turning g u s one = record {
    partial = u.partial;
    made = u.made;
    solutions = λ f t. elim (u.solutions f t) [
      | inl e ↦ absurd (no f e)
      | inr a ↦ elim a
          [ inl e ↦ inl (ap Some (sym (one f (again None u f t e)))) | inr w ↦ inr w ]
    ];
    found = λ f e.
        let same : g ≡ f = cc in
        subst (λ (h : List ℕ). Solves q start h × (AwaitsTurn b stack h → ⊥) × (stack ≢ [] → 2 ≤ visits + 1)) same
        (below None u g s, not_awaiting b stack g u.made s.extends, λ more. two more);
    ahead = λ f t w. u.ahead f t (inr w);
    paid = left None u;
    visited = omega arith;
  }
    where
      no : (f : List ℕ) → None ≡ Some f → ⊥
      no f e = cc

      two : stack ≢ [] → 2 ≤ visits + 1
      two more = elim (cases_eq visits 0) [ inl e ↦ absurd (more (u.begun e)) | inr ne ↦ omega arith ]

  pub second_found : (a g : List ℕ) → IsUnderWay q start b stack (Some a) visits → Solves q b.places g
      → IsTrueOf (Solves q start) (More a g) × (3 ≤ visits + 1)
  second_found a g u s =
      let first = u.found a refl in (
        (
          first.0,
          below (Some a) u g s,
          λ e. first.1 (inl (subst (λ (f : List ℕ). Extends f b.places) (sym e)
              s.extends)),
        ),
        omega (arith, first.2),
      )

  pub gave_up : (got : Option (List ℕ)) → IsUnderWay q start b stack got visits
      → visits < plain_tree q.values (open_places start)
  gave_up got u = omega (arith, u.paid, plain_tree-pos q.values (length b.places - length b.trail))

  -- every choice was tried to its end
  pub all_found : (got : Option (List ℕ)) → IsTurning q start b stack got visits
      → ((f : List ℕ) → IsQuestionFilling q f → q.right f → AwaitsTurn b stack f → ⊥)
      → IsTrueOf (Solves q start) (answer_of got)
  all_found None t over = λ f s. elim (t.solutions f s) [ inl e ↦ absurd cc | inr w ↦ over f s.filling s.right w ]
  all_found (Some g) t over = (
    (t.found g refl).0,
    λ f s. elim (t.solutions f s) [
      | inl e ↦ (let same : Some g ≡ Some f = e in cc)
      | inr w ↦ absurd
          (over f s.filling s.right w)
    ],
  )

  -- a choice has a next value
  pub turned : (got : Option (List ℕ)) (n : Trailed) (rest : List Choice) → IsTurning q start b stack got visits
      → IsPartial q n.places → AreMade n rest → IsTrailed n →
      ((f : List ℕ) → IsQuestionFilling q f → q.right f → AwaitsTurn b stack f → IsAhead n rest f)
      → ((f : List ℕ) → IsQuestionFilling q f → IsAhead n rest f → AwaitsTurn b stack f)
      → visits_ahead q.values n rest ≤ visits_left (length b.places) q.values stack
      → IsUnderWay q start n rest got visits
  turned got n rest t partial made trailed next waited paid = record {
    partial = partial;
    trailed = trailed;
    made = made;
    solutions = λ f s. elim (t.solutions f s) [ inl e ↦ inl e | inr w ↦ inr (next f s.filling s.right w) ];
    found = λ f e. let h = t.found f e in (h.0, λ a. h.1 (waited f h.0.filling a), h.2 (λ none. some none));
    ahead = λ f s a. t.ahead f s (waited f s a);
    paid = omega (arith, t.paid);
    begun = λ e. absurd (omega (arith, t.visited));
  }
    where
      some : stack ≡ [] → ⊥
      some none =
          let nothing : visits_left (length b.places) q.values stack ≡ 0 = rw none refl in
          omega (arith, plain_tree-pos q.values (length n.places - length n.trail))

  marks : AreMade b stack → All (λ (x : Choice). x.mark ≤ length b.trail) stack
  marks made k d h = let m = made.each k d h in omega (arith, m.within)

  longer : (n : Trailed) → Grows b n → length b.trail ≤ length n.trail
  longer n g = omega (arith, ap length g.trail, length-take (length b.trail) n.trail)

  -- the choices stand after a visit
  pub AreMade-grows : (n : Trailed) → IsTrailed b → Grows b n → AreMade b stack → AreMade n stack
  AreMade-grows n trailed g made = record {
    each = λ k d h.
        let m = made.each k d h in
        record {
          within = omega (arith, m.within, longer n g);
          place = (SameBelow-grows b n trailed g).trail _ m.within
              ∙ m.place;
          value = g.keeps _ _ m.value;
        };
    in_order = made.in_order;
  }

  -- a place is open, and its first value chosen
  pub opened : (got : Option (List ℕ)) (n m : Trailed) (rest : List Choice) (place : ℕ)
      → IsUnderWay q start b stack got visits → Narrows q b.places n.places → Grows b n → place < length n.places
      → 0 < q.values → m.places ≡ set n.places place (Some 0) → AreMade m rest → IsTrailed m
      → ((f : List ℕ) → IsAhead n stack f ↔ IsAhead m rest f) → visits_ahead q.values m rest + 1 ≡ visits_ahead q.values
      n stack → IsUnderWay q start m rest got (visits + 1)
  opened got n m rest place u narrows g within some places made trailed next paid = record {
    partial = rw places (IsPartial-set q n.places place 0 within some narrows.partial);
    trailed = trailed;
    made = made;
    solutions = λ f s. elim (u.solutions f s) [ inl e ↦ inl e | inr a ↦ inr ((next f).0 (forth f s a)) ];
    found = λ f e. let h = u.found f e in (h.0, λ a. h.1 (back f ((next f).1 a)), omega (arith, h.2));
    ahead = λ f s a. u.ahead f s (back f ((next f).1 a));
    paid = omega (arith, u.paid, paid, fewer, same_left);
    begun = λ e. absurd (omega arith);
  }
    where
      same : SameBelow (length b.trail) b n
      same = SameBelow-grows b n u.trailed g

      forth : (f : List ℕ) → Solves q start f → IsAhead b stack f → IsAhead n stack f
      forth f s a = elim a [
        | inl e ↦ inl (narrows.solutions f (again got u f s e)).extends
        | inr w ↦ inr (AwaitsTurn-same (length b.trail) b n stack f same (marks u.made) w)
      ]

      back : (f : List ℕ) → IsAhead n stack f → IsAhead b stack f
      back f a = elim a [
        | inl e ↦ inl (λ i v h. e i v (narrows.keeps i v h))
        | inr w ↦ inr (AwaitsTurn-same (length b.trail) n b stack f (SameBelow-turned (length b.trail) b n same)
            (marks u.made) w)
      ]

      fewer : plain_tree q.values (length n.places - length n.trail) ≤ plain_tree q.values
          (length b.places - length b.trail)
      fewer = plain_tree-le q.values (length n.places - length n.trail) (length b.places - length b.trail)
          (omega (arith, longer n g, g.size))

      same_left : visits_left (length n.places) q.values stack ≡ visits_left (length b.places) q.values stack
      same_left = ap (λ k. visits_left k q.values stack) g.size

IsFilling-same : (q r : Question) (f : List ℕ) → IsSameQuestion q r → IsQuestionFilling q f → IsQuestionFilling r f
IsFilling-same q r f e h = record {
  size = h.size ∙ sym e.cells;
  in_range = λ i lt. rw e.values
      (h.in_range i (omega (arith, lt, e.cells)));
}

-- a search that is under way, told of a question that asks the same
pub IsUnderWay-same : (q r : Question) (start : List (Option ℕ)) (b : Trailed) (stack : List Choice)
    (got : Option (List ℕ)) (visits : ℕ) → IsSameQuestion q r → IsUnderWay q start b stack got visits
    → IsUnderWay r start b stack got visits
IsUnderWay-same q r start b stack got visits e u = record {
  partial = record {
    size = u.partial.size ∙ sym e.cells;
    in_range = λ i v at. rw e.values
        (u.partial.in_range i v at);
  };
  trailed = u.trailed;
  made = u.made;
  solutions = λ f s. u.solutions f (Solves-same r q start f (same_turned q r e) s);
  found = λ f h. let x = u.found f h in (Solves-same q r start f e x.0, x.1, x.2);
  ahead = λ f s a. u.ahead f (IsFilling-same r q f (same_turned q r e) s) a;
  paid = rw e.values u.paid;
  begun = u.begun;
}

-- a place is open, told of a question that asks the same
pub opened_after : (q r : Question) (start : List (Option ℕ)) (b : Trailed) (stack : List Choice) (visits after : ℕ)
    (got : Option (List ℕ)) (n m : Trailed) (rest : List Choice) (place : ℕ) → IsSameQuestion q r
    → IsUnderWay q start b stack got visits → IsVisit r b n (Open place) → after ≡ visits + 1
    → m.places ≡ set n.places place (Some 0) → AreMade m rest → IsTrailed m
    → ((f : List ℕ) → IsAhead n stack f ↔ IsAhead m rest f) →
    ((k : ℕ) → 0 < k → visits_ahead k m rest + 1 ≡ visits_ahead k n stack) → IsUnderWay q start m rest got after
opened_after q r start b stack visits after got n m rest place same u visit count places made trailed next paid =
    let h = IsVisit-same q r b n (Open place) same visit in
    subst (λ (k : ℕ). IsUnderWay q start m rest got k) (sym count)
    (opened q start b stack visits got n m rest place u h.0.0 h.1 h.0.1.0 h.0.2 places made trailed next
    (paid q.values h.0.2))

-- a choice has a next value, told of a question that asks the same
pub turned_among : (q r : Question) (start : List (Option ℕ)) (b : Trailed) (stack : List Choice) (visits : ℕ)
    (got : Option (List ℕ)) (n : Trailed) (rest : List Choice) → IsSameQuestion q r
    → IsTurning q start b stack got visits → IsPartial r n.places → AreMade n rest → IsTrailed n
    → ((f : List ℕ) → IsQuestionFilling r f → r.right f → AwaitsTurn b stack f → IsAhead n rest f)
    → ((f : List ℕ) → IsQuestionFilling r f → IsAhead n rest f → AwaitsTurn b stack f)
    → visits_ahead r.values n rest ≤ visits_left (length b.places) r.values stack → IsUnderWay q start n rest got visits
turned_among q r start b stack visits got n rest e t partial made trailed next waited paid =
    turned q start b stack visits got n rest t
    (record { size = partial.size ∙ e.cells; in_range = λ i v at. rw (sym e.values) (partial.in_range i v at) })
    made trailed
    (λ f filling right. next f (IsFilling-same q r f e filling) ((e.right f).1 right))
    (λ f filling. waited f (IsFilling-same q r f e filling))
    (subst (λ (x : ℕ). visits_ahead x n rest ≤ visits_left (length b.places) x stack) e.values paid)

-- nothing awaits its turn: the answer
pub told_all : (q r : Question) (start : List (Option ℕ)) (b : Trailed) (stack : List Choice) (visits : ℕ)
    (got : Option (List ℕ)) (o : Outcome) → IsSameQuestion q r → IsTurning q start b stack got visits
    → ((f : List ℕ) → IsQuestionFilling r f → r.right f → AwaitsTurn b stack f → ⊥) → o ≡ answer_of got
    → IsOutcomeTold q start visits o
told_all q r start b stack visits got o e t over is =
    subst (λ (x : Outcome). IsOutcomeTold q start visits x) (sym is)
    (told got (all_found q start b stack visits got t (λ f filling right. over f (IsFilling-same q r f e filling)
    ((e.right f).1 right))))
  where
    told : (g : Option (List ℕ)) → IsTrueOf (Solves q start) (answer_of g) → IsOutcomeTold q start visits (answer_of g)
    told None h = record {
      answer = h;
      no_giving_up = λ (eq : Nothing ≡ GaveUp). absurd cc;
      enough = omega
          (arith, t.visited);
    }
    told (Some f) h = record {
      answer = h;
      no_giving_up = λ (eq : One f ≡ GaveUp). absurd cc;
      enough = omega
          (arith, t.visited);
    }

-- a search that made no visit yet
pub begun_under_way : (q : Question) (start : List (Option ℕ)) (b : Trailed) → IsPartial q start → b.places ≡ start
    → IsTrailed b → IsUnderWay q start b [] None 0
begun_under_way q start b partial same trailed = record {
  partial = rw same partial;
  trailed = trailed;
  made = record { each = λ k d h. absurd (omega (arith, h)); in_order = λ i j d lt h. absurd (omega (arith, lt, h)) };
  solutions = λ f s. inr (inl (rw same s.extends));
  found = λ f e. absurd cc;
  ahead = λ f filling a. elim a [ inl e ↦ (rw same at e) | inr w ↦ absurd (omega (arith, w.2)) ];
  paid = rw (sym same) (let left : length b.places - length b.trail ≡ open_places b.places = omega
      (arith, trailed.counted) in rw left (omega arith));
  begun = λ e. refl;
}

-- what is told within a budget may be answered
pub told_outcome : (q : Question) (start : List (Option ℕ)) (visits budget : ℕ) (o : Outcome)
    → IsOutcomeTold q start visits o → visits ≤ budget → OutcomeOf q start budget o
told_outcome q start visits budget o t le = record {
  answer = t.answer;
  gives_up_late = λ e. absurd (t.no_giving_up e);
  within_budget = omega (arith, t.enough);
}

-- a search that is under way may be given up after its last visit
pub given_up : (q : Question) (start : List (Option ℕ)) (b : Trailed) (stack : List Choice) (got : Option (List ℕ))
    (visits budget : ℕ) → IsUnderWay q start b stack got visits → visits ≡ budget → OutcomeOf q start budget GaveUp
given_up q start b stack got visits budget u e = record {
  answer = tt;
  gives_up_late = λ _. omega
      (arith, gave_up q start b stack visits got u);
  within_budget = omega arith;
}

-- the visit left a place open, whose first value was chosen and refused
pub record IsRefused (q : Question) (n : Trailed) (stack : List Choice) (m : Trailed) (rest : List Choice)
    (v : Visited) : Type 0 where
  pub place : ℕ
  pub is : v ≡ Open place
  pub places : m.places ≡ set n.places place (Some 0)
  pub made : AreMade m rest
  pub trailed : IsTrailed m
  pub ahead : (f : List ℕ) → IsAhead n stack f ↔ IsAhead m rest f
  pub paid : (k : ℕ) → 0 < k → visits_ahead k m rest + 1 ≡ visits_ahead k n stack
  pub hopeless : IsHopeless q m.places

-- after the visit nothing is left below the board: it was closed, it was whole and the first such, or its first value
-- was refused
abbrev pub IsEnded : Question → Trailed → List Choice → Option (List ℕ) → Trailed → List Choice → Option (List ℕ)
    → Visited → Type 0
IsEnded q n stack old m rest new v =
    (((v ≡ Closed) × (new ≡ old)) ⊎ ((g : List ℕ) × (v ≡ Whole g) × (None ≡ old) × (new ≡ Some g))) × (m ≡ n)
    × (rest ≡ stack)
    ⊎ IsRefused q n stack m rest v × (new ≡ old)

-- what a visit closed, or the first that it found
pub turning_of : (q r : Question) (start : List (Option ℕ)) (b n : Trailed) (stack : List Choice) (visits after : ℕ)
    (v : Visited) (old new : Option (List ℕ)) → IsSameQuestion q r → IsUnderWay q start b stack old visits
    → IsVisit r b n v → after ≡ visits + 1 → ((v ≡ Closed) × (new ≡ old))
    ⊎ ((g : List ℕ) × (v ≡ Whole g) × (None ≡ old) × (new ≡ Some g)) → IsTurning q start n stack new after
turning_of q r start b n stack visits after v old new same u h count (inl e) =
    let closed : IsVisit q b n Closed = subst (λ (x : Visited). IsVisit q b n x) e.0 (IsVisit-same q r b n v same h) in
    rw (closed.1, e.1, count) (closed_turning q start b stack visits old u closed.0)
turning_of q r start b n stack visits after v old new same u h count (inr w) =
    let whole : IsVisit q b n (Whole w.0) = subst (λ (x : Visited). IsVisit q b n x) w.1
    (IsVisit-same q r b n v same h) in
    rw (whole.1, w.3, count) (whole_turning q start b stack visits w.0
    (subst (λ (o : Option (List ℕ)). IsUnderWay q start b stack o visits) (sym w.2) u) whole.0.0 whole.0.1)

-- whichever way nothing is left below the board
pub turning_after : (q r s : Question) (start : List (Option ℕ)) (b n : Trailed) (stack : List Choice)
    (visits after : ℕ) (v : Visited) (old : Option (List ℕ)) (m : Trailed) (rest : List Choice) (new : Option (List ℕ))
    → IsSameQuestion q r → IsSameQuestion q s → IsUnderWay q start b stack old visits → IsVisit r b n v
    → after ≡ visits + 1 → IsEnded s n stack old m rest new v → IsTurning q start m rest new after
turning_after q r s start b n stack visits after v old m rest new same same_after u h count (inl e) = rw (e.1, e.2)
    (turning_of q r start b n stack visits after v old new same u h count e.0)
turning_after q r s start b n stack visits after v old m rest new same same_after u h count (inr e) =
    let under_way = opened_after q r start b stack visits after old n m rest e.0.place same u
    (subst (λ (x : Visited). IsVisit r b n x) e.0.is h) count e.0.places e.0.made e.0.trailed e.0.ahead e.0.paid in
    rw e.1 (refused_turning q start m rest after old under_way
    (λ f t. e.0.hopeless f (Solves-same q s m.places f same_after t)) (omega (arith, count)))

-- what may be answered to a question that asks the same
pub OutcomeOf-same : (q r : Question) (start : List (Option ℕ)) (budget : ℕ) (o : Outcome) → IsSameQuestion q r
    → OutcomeOf r start budget o → OutcomeOf q start budget o
OutcomeOf-same q r start budget o e h = record {
  answer = told o h.answer;
  gives_up_late = λ gave. rw (sym e.values) (h.gives_up_late gave);
  within_budget = h.within_budget;
}
  where
    told : (x : Outcome) → IsTrueOf (Solves r start) x → IsTrueOf (Solves q start) x
    told Nothing t = λ f s. t f (Solves-same q r start f e s)
    told (One g) t = (Solves-same r q start g (same_turned q r e) t.0, λ f s. t.1 f (Solves-same q r start f e s))
    told (More a b) t = (
      Solves-same r q start a (same_turned q r e) t.0,
      Solves-same r q start b (same_turned q r e)
          t.1,
      t.2,
    )
    told GaveUp t = tt
