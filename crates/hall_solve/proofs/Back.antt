-- A search takes the newest choice back, and goes on with its next value.
use Rattle.std.proofs.Common.{◌≡◌, ◌↔◌, ◌⊎◌, ℕ, ◌+◌, ◌-◌, ◌*◌, ◌<◌, ◌≤◌, List, [], ◌∷◌, ◌++◌, Option, Some, None}
use Rattle.std.proofs.Common.{length, get_or, set, drop, refl, sym, ◌∙◌, ap, arith, subst, inl, inr, length-append}
use Rattle.std.proofs.Common.{add-zero}
use Rattle.std.specs.Prelude.{All}
use Rattle.std.proofs.lemmas.Bool.{cases_eq, cases_lt}
use Rattle.std.proofs.lemmas.List.{get_or-set_same, get_or-set_other, get_or_append_left, length-set, get_or_push}
use Rattle.std.proofs.lemmas.List.{length-take, get_or-drop, length-drop, get_or_default}
use Rattle.std.proofs.lemmas.List.Sums.{sum_by_push}
use Rattle.hall_solve.specs.declared.choice.Choice.{Choice}
use Rattle.hall_solve.specs.Trail.{Trailed, IsTrailed, IsUndone}
use Rattle.hall_solve.specs.Question.{Extends, Keeps, plain_tree}
use Rattle.hall_solve.specs.Choices.{Agrees, IsMade, AreMade, IsLater, AwaitsTurn, IsAhead, InRange, SameBelow}
use Rattle.hall_solve.specs.Choices.{visits_left, visits_ahead}
use Rattle.hall_solve.proofs.Boards.{set_keeps, set_within}
use Rattle.hall_solve.proofs.Trails.{IsTrailed-set, at_end, board_is}
use Rattle.hall_solve.proofs.Ahead.{Agrees-same, SameBelow-turned, SameBelow-undone, SameBelow-set, AwaitsTurn-same}
use Rattle.hall_solve.proofs.Ahead.{AwaitsTurn-push, Agrees-extends, Extends-agrees}

-- the board before and after the newest choice is taken back
module _ (b b' : Trailed) (s : List Choice) (c : Choice) (board : IsTrailed b) (made : AreMade b (s ++ c ∷ []))
    (undone : IsUndone c.mark b b') where
  last : IsMade b c
  last = subst (λ (x : Choice). IsMade b x) (get_or_push s c c (length s) refl)
      (made.each (length s) c (omega (arith, length-append s (c ∷ []))))

  same : SameBelow c.mark b b'
  same = SameBelow-undone c.mark b b' board (let w = last.within in omega arith) undone

  below : (k : ℕ) (d : Choice) → k < length s → (get_or s k d).mark < c.mark
  below k d h =
      let low = made.in_order k (length s) d h (omega (arith, length-append s (c ∷ []))) in
      rw (get_or_append_left s (c ∷ []) d k h, get_or_push s c d (length s) refl) at low

  pub popped_made : AreMade b' s
  popped_made = record {
    each = λ k d h.
        let x : Choice = get_or s k d in
        let m : IsMade b x = subst (λ (y : Choice). IsMade b y) (get_or_append_left s (c ∷ []) d k h)
        (made.each k d (omega (arith, length-append s (c ∷ [])))) in
        let low : x.mark < c.mark = below k d h in
        let value : get_or b'.places x.place None ≡ get_or b.places x.place None = subst
        (λ (i : ℕ). get_or b'.places i None ≡ get_or b.places i None) m.place (same.values x.mark low) in
        record {
          within = omega (arith, low, ap length undone.trail, length-take c.mark b.trail, last.within);
          place = same.trail x.mark low ∙ m.place;
          value = value ∙ m.value;
        };
    in_order = λ i j d lt h.
        let order = made.in_order i j d lt (omega (arith, length-append s (c ∷ []))) in
        let first : i < length s = omega arith in
        rw (get_or_append_left s (c ∷ []) d i first, get_or_append_left s (c ∷ []) d j h) at order;
  }

  pub popped_waiting : (f : List ℕ) → AwaitsTurn b (s ++ c ∷ []) f ↔ (AwaitsTurn b' s f ⊎ IsLater b' f c)
  popped_waiting f = (forth, back)
    where
      marks : All (λ (x : Choice). x.mark ≤ c.mark) s
      marks = λ k d h. let m = below k d h in omega arith

      forth : AwaitsTurn b (s ++ c ∷ []) f → AwaitsTurn b' s f ⊎ IsLater b' f c
      forth w = elim ((AwaitsTurn-push b s c f).0 w) [
        | inl old ↦ inl (AwaitsTurn-same c.mark b b' s f same marks old)
        | inr later ↦ inr (record {
          agrees = Agrees-same c.mark c.mark b b' f same (omega arith) later.agrees;
          later =
              later.later;
        })
      ]

      back : AwaitsTurn b' s f ⊎ IsLater b' f c → AwaitsTurn b (s ++ c ∷ []) f
      back h = (AwaitsTurn-push b s c f).1 (elim h [
        | inl old ↦ inl (AwaitsTurn-same c.mark b' b s f (SameBelow-turned c.mark b b' same) marks old)
        | inr later ↦ inr (record {
          agrees = Agrees-same c.mark c.mark b' b f (SameBelow-turned c.mark b b' same)
              (omega arith) later.agrees;
          later = later.later;
        })
      ])

  -- the place of the choice is on the board, and cleared
  pub popped_within : c.place < length b'.places
  popped_within = omega (arith, set_within b.places c.place c.value last.value, undone.size)

-- the next value of a choice
module _ (p : List (Option ℕ)) (t : List ℕ) (i v : ℕ) (s : List Choice) (c d : Choice)
    (board : IsTrailed (record { places = p; trail = t })) (within : i < length p) (unset : get_or p i None ≡ None)
    (marks : All (λ (x : Choice). x.mark ≤ length t) s) (old_mark : c.mark ≡ length t) (old_place : c.place ≡ i)
    (old_value : c.value ≡ v) (mark : d.mark ≡ length t) (place : d.place ≡ i) (value : d.value ≡ v + 1) where
  pub next_ahead : (f : List ℕ) → (AwaitsTurn (record { places = p; trail = t }) s f
      ⊎ IsLater (record { places = p; trail = t }) f c) ↔ IsAhead
      (record { places = set p i (Some (v + 1)); trail = t ++ i ∷ [] }) (s ++ d ∷ []) f
  next_ahead f = (forth, back)
    where
      old : Trailed
      old = record { places = p; trail = t }

      new : Trailed
      new = record { places = set p i (Some (v + 1)); trail = t ++ i ∷ [] }

      same' : SameBelow (length t) (record { places = p; trail = t })
          (record { places = set p i (Some (v + 1)); trail = t ++ i ∷ [] })
      same' = SameBelow-set p t i (v + 1) board unset

      turned : SameBelow (length t) (record { places = set p i (Some (v + 1)); trail = t ++ i ∷ [] })
          (record { places = p; trail = t })
      turned = SameBelow-turned (length t) (record { places = p; trail = t })
          (record { places = set p i (Some (v + 1)); trail = t ++ i ∷ [] }) same'

      extends : Extends f p → get_or f i 0 ≡ v + 1 → Extends f (set p i (Some (v + 1)))
      extends e there = λ j w at. elim (cases_eq j i) [
        | inl k ↦ (let x : get_or (set p i (Some (v + 1))) i None ≡ Some w = subst
            (λ (y : ℕ). get_or (set p i (Some (v + 1))) y None ≡ Some w) k at in
            let both : Some (v + 1) ≡ Some w = sym (get_or-set_same p i (Some (v + 1)) None within) ∙ x in
            let w_is : v + 1 ≡ w = cc in rw k (there ∙ w_is))
        | inr ne ↦ e j w (rw get_or-set_other at at)
      ]

      forth : AwaitsTurn (record { places = p; trail = t }) s f ⊎ IsLater (record { places = p; trail = t }) f c
          → IsAhead (record { places = set p i (Some (v + 1)); trail = t ++ i ∷ [] }) (s ++ d ∷ []) f
      forth h = elim h [
        | inl w ↦ inr ((AwaitsTurn-push (record { places = set p i (Some (v + 1)); trail = t ++ i ∷ [] }) s d f).1
            (inl (AwaitsTurn-same (length t) (record { places = p; trail = t })
            (record { places = set p i (Some (v + 1)); trail = t ++ i ∷ [] }) s f same' marks w)))
        | inr l ↦ (
            let agrees : Agrees (record { places = p; trail = t }) (length t) f = (rw old_mark at l.agrees) in
            let later : v < get_or f i 0 = (rw (old_value, old_place) at l.later) in
            elim (cases_eq (get_or f i 0) (v + 1)) [
              | inl there ↦ inl (extends (Extends-agrees (record { places = p; trail = t }) f board agrees) there)
              | inr ne ↦ inr ((AwaitsTurn-push (record { places = set p i (Some (v + 1)); trail = t ++ i ∷ [] }) s d
                  f).1 (inr (record {
                    agrees = rw mark (Agrees-same (length t) (length t)
                        (record { places = p; trail = t }) (record
                        { places = set p i (Some (v + 1)); trail = t ++ i ∷ [] }) f
                        same' (omega arith) agrees);
                    later = rw (value, place) (omega arith);
                  })))
            ])
      ]

      back : IsAhead (record { places = set p i (Some (v + 1)); trail = t ++ i ∷ [] }) (s ++ d ∷ []) f
          → AwaitsTurn (record { places = p; trail = t }) s f ⊎ IsLater (record { places = p; trail = t }) f c
      back h = elim h [
        | inl e ↦ (let there = e i (v + 1) (get_or-set_same p i (Some (v + 1)) None within) in
            inr (record {
              agrees = rw old_mark (Agrees-extends (record { places = p; trail = t }) f board
                  (λ j w at. e j w (set_keeps p i (v + 1) unset j w at)));
              later = rw (old_value, old_place)
                  (omega (arith, there));
            }))
        | inr w ↦ elim ((AwaitsTurn-push (record { places = set p i (Some (v + 1)); trail = t ++ i ∷ [] }) s d f).0 w) [
          | inl waits ↦ inl (AwaitsTurn-same (length t) (record
              { places = set p i (Some (v + 1)); trail = t ++ i ∷ [] }) (record { places = p; trail = t }) s f turned
              marks waits)
          | inr l ↦ (let later : v + 1 < get_or f i 0 = (rw (value, place) at l.later) in
              inr (record {
                agrees = rw old_mark (Agrees-same (length t) (length t)
                    (record { places = set p i (Some (v + 1)); trail = t ++ i ∷ [] }) (record { places = p; trail = t })
                    f
                    turned (omega arith) (rw mark at l.agrees));
                later = rw (old_value, old_place)
                    (omega (arith, later));
              }))
        ]
      ]

-- a choice of the last value has no later one
pub exhausted : (b : Trailed) (f : List ℕ) (c : Choice) (values : ℕ) → c.place < length b.places
    → InRange (length b.places) values f → values ≤ c.value + 1 → IsLater b f c → ⊥
exhausted b f c values within range last l = omega (arith, range c.place within, l.later)

-- the place of a choice that is taken back is cleared
pub popped_unset : (b b' : Trailed) (s : List Choice) (c : Choice) → IsTrailed b → AreMade b (s ++ c ∷ [])
    → IsUndone c.mark b b' → get_or b'.places c.place None ≡ None
popped_unset b b' s c board made undone =
    let m : IsMade b c = subst (λ (x : Choice). IsMade b x) (get_or_push s c c (length s) refl)
    (made.each (length s) c (omega (arith, length-append s (c ∷ [])))) in
    let first : get_or (drop c.mark b.trail) 0 0 ≡ c.place = get_or-drop c.mark b.trail 0 0 ∙ rw add-zero m.place in
    let cleared = undone.cleared 0 0 (omega (arith, length-drop c.mark b.trail, m.within)) in
    rw first at cleared

-- what is still set was set before
pub undone_keeps : (m : ℕ) (b b' : Trailed) → IsUndone m b b' → Keeps b'.places b.places
undone_keeps m b b' u i v h =
    sym (u.others i (λ hit.
    let there : get_or (drop m b.trail) hit.0 0 ≡ i = get_or_default (drop m b.trail) hit.0 0 i hit.1 ∙ hit.2 in
    let cleared : get_or b'.places i None ≡ None = subst (λ (j : ℕ). get_or b'.places j None ≡ None) there
    (u.cleared hit.0 0 hit.1) in
    let clash : None ≡ Some v = sym cleared ∙ h in cc)) ∙ h

-- one choice more
pub AreMade-push : (p : List (Option ℕ)) (t : List ℕ) (i v : ℕ) (s : List Choice) (d : Choice) → i < length p
    → get_or p i None ≡ None → AreMade (record { places = p; trail = t }) s → d.mark ≡ length t → d.place ≡ i
    → d.value ≡ v → AreMade (record { places = set p i (Some v); trail = t ++ i ∷ [] }) (s ++ d ∷ [])
AreMade-push p t i v s d within unset made mark place value = record {
  each = λ k x h.
      elim (cases_lt k (length s)) [
        | inl lt ↦ subst (λ (y : Choice). IsMade new y) (sym (get_or_append_left s (d ∷ []) x k lt))
            (old (get_or s k x) (made.each k x lt))
        | inr ge ↦ subst (λ (y : Choice). IsMade new y) (sym
            (get_or_push s d x k (omega (arith, length-append s (d ∷ []))))) newest
      ];
  in_order = λ j k x lt h.
      let short : j < length s = omega (arith, length-append s (d ∷ [])) in
      elim (cases_lt k (length s)) [
        | inl below ↦ rw (get_or_append_left s (d ∷ []) x j short, get_or_append_left s (d ∷ []) x k below)
            (made.in_order j k x lt below)
        | inr ge ↦ (let low = made.each j x short in rw (
          get_or_append_left s (d ∷ []) x j short,
          get_or_push s d x k
              (omega (arith, length-append s (d ∷ []))),
        ) (omega (arith, low.within, mark)))
      ];
}
  where
    new : Trailed
    new = record { places = set p i (Some v); trail = t ++ i ∷ [] }

    old : (y : Choice) → IsMade (record { places = p; trail = t }) y → IsMade new y
    old y m = record {
      within = omega (arith, m.within, length-append t (i ∷ []));
      place = get_or_append_left t (i ∷ []) 0 y.mark m.within ∙ m.place;
      value = set_keeps p i v unset y.place y.value m.value;
    }

    newest : IsMade new d
    newest = record {
      within = omega (arith, mark, length-append t (i ∷ []));
      place = ap (λ k. get_or (t ++ i ∷ []) k 0) mark ∙ at_end t i ∙ sym place;
      value = ap (λ k. get_or (set p i (Some v)) k None) place ∙ get_or-set_same p i (Some v) None within
          ∙ ap Some (sym value);
    }

-- the newest choice is taken back, and its next value chosen
module _ (b b' n : Trailed) (s stack : List Choice) (c d : Choice) (board : IsTrailed b) (cleared : IsTrailed b')
    (made : AreMade b (s ++ c ∷ [])) (undone : IsUndone c.mark b b')
    (places : n.places ≡ set b'.places c.place (Some (c.value + 1))) (trail : n.trail ≡ b'.trail ++ c.place ∷ [])
    (pushed : stack ≡ s ++ d ∷ []) (mark : d.mark ≡ c.mark) (place : d.place ≡ c.place) (value : d.value ≡ c.value + 1)
  where
    newest : IsMade b c
    newest = subst (λ (x : Choice). IsMade b x) (get_or_push s c c (length s) refl)
        (made.each (length s) c (omega (arith, length-append s (c ∷ []))))

    cut : c.mark ≡ length b'.trail
    cut = omega (arith, ap length undone.trail, length-take c.mark b.trail, newest.within)

    on_board : c.place < length b'.places
    on_board = popped_within b b' s c board made undone

    open_again : get_or b'.places c.place None ≡ None
    open_again = popped_unset b b' s c board made undone

    after : n ≡ record { places = set b'.places c.place (Some (c.value + 1)); trail = b'.trail ++ c.place ∷ [] }
    after = board_is n (set b'.places c.place (Some (c.value + 1))) (b'.trail ++ c.place ∷ []) places trail

    pub advanced_made : AreMade n stack
    advanced_made = rw (after, pushed) (AreMade-push b'.places b'.trail c.place (c.value + 1) s d on_board open_again
        (popped_made b b' s c board made undone) (mark ∙ cut) place value)

    pub advanced_trailed : IsTrailed n
    advanced_trailed = rw after (IsTrailed-set b'.places b'.trail c.place (c.value + 1) cleared on_board open_again)

    pub advanced_ahead : (f : List ℕ) → AwaitsTurn b (s ++ c ∷ []) f ↔ IsAhead n stack f
    advanced_ahead f =
        let marks : All (λ (x : Choice). x.mark ≤ length b'.trail) s = λ k x h.
        (let m = (popped_made b b' s c board made undone).each k x h in omega (arith, m.within)) in
        let waiting = popped_waiting b b' s c board made undone f in
        let next = next_ahead b'.places b'.trail c.place c.value s c d cleared on_board open_again marks cut refl refl
        (mark ∙ cut) place value f in
        rw (after, pushed) (λ w. next.0 (waiting.0 w), λ w. waiting.1 (next.1 w))

    pub advanced_paid : (k : ℕ) → c.value + 1 < k → visits_ahead k n stack ≤ visits_left (length b.places) k
        (s ++ c ∷ [])
    advanced_paid k more =
        let size : length (set b'.places c.place (Some (c.value + 1))) ≡ length b.places = length-set b'.places c.place
        (Some (c.value + 1)) ∙ undone.size in
        let longer : length (b'.trail ++ c.place ∷ []) ≡ c.mark + 1 = omega
        (arith, length-append b'.trail (c.place ∷ []), cut) in
        let old = sum_by_push (λ (x : Choice). (k - 1 - x.value) * plain_tree k (length b.places - 1 - x.mark)) s c in
        let new = sum_by_push (λ (x : Choice). (k - 1 - x.value) * plain_tree k (length b.places - 1 - x.mark)) s d in
        let depth : length b.places - (c.mark + 1) ≡ length b.places - 1 - c.mark = omega arith in
        rw (after, pushed) (rw (size, longer, depth, old, new, mark, value)
        (one_less (k - 1 - c.value) (k - 1 - (c.value + 1)) (plain_tree k (length b.places - 1 - c.mark))
        (visits_left (length b.places) k s) (omega arith)))
      where
        one_less : (x y t r : ℕ) → x ≡ y + 1 → t + (r + y * t) ≤ r + x * t
        one_less x y t r e = rw e (grind arith)

    -- each value is an old one, or the next one
    pub advanced_values : (k : ℕ) → c.value + 1 < k → (i v : ℕ) → get_or n.places i None ≡ Some v
        → (get_or b.places i None ≡ Some v) ⊎ (v < k)
    advanced_values k less i v h =
        elim (cases_eq i c.place) [
          | inl e ↦ (let there : get_or n.places c.place None ≡ Some v = subst
              (λ (j : ℕ). get_or n.places j None ≡ Some v) e h in
              let both : Some (c.value + 1) ≡ Some v = sym (ap (λ p. get_or p c.place None) places
              ∙ get_or-set_same b'.places c.place (Some (c.value + 1)) None on_board) ∙ there in
              let v_is : c.value + 1 ≡ v = cc in inr (omega arith))
          | inr ne ↦ inl (undone_keeps c.mark b b' undone i v (sym
              (get_or-set_other b'.places c.place i (Some (c.value + 1)) None ne)
              ∙ sym (ap (λ p. get_or p i None) places)
              ∙ h))
        ]
