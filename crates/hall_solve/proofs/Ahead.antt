-- What is still ahead of a search, and what a step does to it.
use Rattle.std.proofs.Common.{◌≡◌, ◌↔◌, ◌⊎◌, ℕ, suc, ◌+◌, ◌-◌, ◌*◌, ◌<◌, ◌≤◌, zero, List, [], ◌∷◌, ◌++◌, Option, Some}
use Rattle.std.proofs.Common.{None, length, get_or, set, drop, refl, sym, ◌∙◌, ap, arith, subst, inl, inr}
use Rattle.std.proofs.Common.{length-append}
use Rattle.std.specs.Prelude.{Contains, All}
use Rattle.std.proofs.lemmas.Bool.{cases_eq, cases_lt}
use Rattle.std.proofs.lemmas.List.{get_or-set_same, get_or-set_other, get_or_append_left, length-set, get_or_push}
use Rattle.std.proofs.lemmas.List.{get_or-take, get_or-drop, length-drop, get_or_default}
use Rattle.std.proofs.lemmas.List.Sums.{sum_by_push}
use Rattle.hall_solve.specs.declared.choice.Choice.{Choice}
use Rattle.hall_solve.specs.Trail.{Trailed, IsTrailed, IsUndone, Grows}
use Rattle.hall_solve.specs.Question.{Extends, plain_tree}
use Rattle.hall_solve.specs.Choices.{Agrees, IsMade, AreMade, IsLater, AwaitsTurn, IsAhead, SameBelow, visits_ahead}
use Rattle.hall_solve.proofs.Boards.{set_keeps}
use Rattle.hall_solve.proofs.Trails.{room_for}
use Rattle.hall_solve.proofs.Trees.{plain_tree-suc}

-- agreement with a part of the trail is kept with that part
pub Agrees-same : (m n : ℕ) (b c : Trailed) (f : List ℕ) → SameBelow m b c → n ≤ m → Agrees b n f → Agrees c n f
Agrees-same m n b c f s le h k lt =
    let short : k < m = omega arith in
    rw (s.trail k short, s.values k short) (h k lt)

pub SameBelow-turned : (m : ℕ) (b c : Trailed) → SameBelow m b c → SameBelow m c b
SameBelow-turned m b c s = record {
  trail = λ k h. sym (s.trail k h);
  values = λ k h. rw (s.trail k h) (sym (s.values k h));
}

-- a filling extends a board where it agrees with the whole trail
pub Agrees-extends : (b : Trailed) (f : List ℕ) → IsTrailed b → Extends f b.places → Agrees b (length b.trail) f
Agrees-extends b f h e k lt =
    let there = h.set k lt in
    there.1 ∙ ap Some (sym (e (get_or b.trail k 0) there.0 there.1))

pub Extends-agrees : (b : Trailed) (f : List ℕ) → IsTrailed b → Agrees b (length b.trail) f → Extends f b.places
Extends-agrees b f h a i v at =
    let listed = h.listed i v at in
    let place : get_or b.trail listed.0 0 ≡ i = get_or_default b.trail listed.0 0 i listed.1 ∙ listed.2 in
    let agrees : get_or b.places i None ≡ Some (get_or f i 0) = subst
    (λ (j : ℕ). get_or b.places j None ≡ Some (get_or f j 0)) place (a listed.0 listed.1) in
    let both : Some v ≡ Some (get_or f i 0) = sym at ∙ agrees in cc

-- after a place is set, what was set before is the same
pub SameBelow-set : (p : List (Option ℕ)) (t : List ℕ) (i v : ℕ) → IsTrailed (record { places = p; trail = t })
    → get_or p i None ≡ None → SameBelow (length t) (record { places = p; trail = t })
    (record { places = set p i (Some v); trail = t ++ i ∷ [] })
SameBelow-set p t i v b unset = record {
  trail = λ k h. get_or_append_left t (i ∷ []) 0 k h;
  values = λ k h.
      let there = b.set k h in
      set_keeps p i v unset (get_or t k 0) there.0 there.1 ∙ sym there.1;
}

-- after a visit
pub SameBelow-grows : (b c : Trailed) → IsTrailed b → Grows b c → SameBelow (length b.trail) b c
SameBelow-grows b c h g = record {
  trail = λ k lt. sym (get_or-take (length b.trail) c.trail k 0 lt) ∙ ap (λ x. get_or x k 0) g.trail;
  values = λ k lt. let there = h.set k lt in g.keeps (get_or b.trail k 0) there.0 there.1 ∙ sym there.1;
}

-- after places are cleared
pub SameBelow-undone : (m : ℕ) (b c : Trailed) → IsTrailed b → m ≤ length b.trail → IsUndone m b c → SameBelow m b c
SameBelow-undone m b c h le u = record {
  trail = λ k lt. rw u.trail (get_or-take m b.trail k 0 lt);
  values = λ k lt. u.others (get_or b.trail k 0) (λ hit. apart k lt hit);
}
  where
    apart : (k : ℕ) → k < m → Contains (drop m b.trail) (get_or b.trail k 0) → ⊥
    apart k lt hit =
        let there : m + hit.0 < length b.trail = omega (arith, hit.1, length-drop m b.trail) in
        h.once k (m + hit.0) (omega arith) there (sym hit.2 ∙ get_or-drop m b.trail hit.0 (get_or b.trail k 0)
        ∙ get_or_default b.trail (m + hit.0) (get_or b.trail k 0) 0 there)

-- the choices below the mark still wait
pub AwaitsTurn-same : (m : ℕ) (b c : Trailed) (stack : List Choice) (f : List ℕ) → SameBelow m b c
    → All (λ x. x.mark ≤ m) stack → AwaitsTurn b stack f → AwaitsTurn c stack f
AwaitsTurn-same m b c stack f s marks w =
    let low : w.1.mark ≤ m = rw w.3 at (marks w.0 w.1 w.2) in
    (w.0, w.1, w.2, w.3, record { agrees = Agrees-same m w.1.mark b c f s low w.4.agrees; later = w.4.later })

-- no filling that extends the board awaits a turn
pub not_awaiting : (b : Trailed) (stack : List Choice) (f : List ℕ) → AreMade b stack → Extends f b.places
    → AwaitsTurn b stack f → ⊥
not_awaiting b stack f made e w =
    let here : IsMade b w.1 = rw w.3 at (made.each w.0 w.1 w.2) in
    let at = e w.1.place w.1.value here.value in
    omega (arith, at, w.4.later)

-- with one more choice, those that await a turn are as before, or wait for it
pub AwaitsTurn-push : (b : Trailed) (stack : List Choice) (c : Choice) (f : List ℕ) → AwaitsTurn b (stack ++ c ∷ []) f
    ↔ (AwaitsTurn b stack f ⊎ IsLater b f c)
AwaitsTurn-push b stack c f = (forth, back)
  where
    forth : AwaitsTurn b (stack ++ c ∷ []) f → AwaitsTurn b stack f ⊎ IsLater b f c
    forth w = elim (cases_lt w.0 (length stack)) [
      | inl lt ↦ inl (w.0, w.1, lt, sym (get_or_append_left stack (c ∷ []) w.1 w.0 lt) ∙ w.3, w.4)
      | inr ge ↦ (let last : length stack ≡ w.0 = omega (arith, w.2, length-append stack (c ∷ [])) in
          inr (subst (λ (x : Choice). IsLater b f x) (sym w.3 ∙ get_or_push stack c w.1 w.0 last) w.4))
    ]

    back : AwaitsTurn b stack f ⊎ IsLater b f c → AwaitsTurn b (stack ++ c ∷ []) f
    back h = elim h [
      | inl w ↦ (
        w.0,
        w.1,
        omega (arith, w.2, length-append stack (c ∷ [])),
        get_or_append_left stack (c ∷ []) w.1 w.0
            w.2 ∙ w.3,
        w.4,
      )
      | inr l ↦ (
        length stack,
        c,
        omega (arith, length-append stack (c ∷ [])),
        get_or_push stack c c (length stack)
            refl,
        l,
      )
    ]

-- a choice of the first value takes as many visits as the place
pub visits_ahead-choose : (k n t : ℕ) → 0 < k → t < n → plain_tree k (n - (t + 1)) + (k - 1 - 0) * plain_tree k
    (n - 1 - t) + 1 ≡ plain_tree k (n - t)
visits_ahead-choose zero n t pos lt = absurd (omega arith)
visits_ahead-choose (suc j) n t pos lt =
    let rest : n - (t + 1) ≡ n - 1 - t = omega arith in
    let more : n - t ≡ suc (n - 1 - t) = omega arith in
    let values : suc j - 1 - 0 ≡ j = omega arith in
    rw (rest, more, values) (omega (arith, plain_tree-suc (suc j) (n - 1 - t)))

-- the boards before and after the choice of the first value for a place
module _ (p : List (Option ℕ)) (t : List ℕ) (i : ℕ) (stack : List Choice) (c : Choice)
    (board : IsTrailed (record { places = p; trail = t })) (within : i < length p) (unset : get_or p i None ≡ None)
    (made : AreMade (record { places = p; trail = t }) stack) (mark : c.mark ≡ length t) (place : c.place ≡ i)
    (value : c.value ≡ 0) where
  same : SameBelow (length t) (record { places = p; trail = t })
      (record { places = set p i (Some 0); trail = t ++ i ∷ [] })
  same = SameBelow-set p t i 0 board unset

  marks : All (λ (x : Choice). x.mark ≤ length t) stack
  marks = λ k d h. let m = made.each k d h in omega (arith, m.within)

  pub choose-ahead : (f : List ℕ) → IsAhead (record { places = p; trail = t }) stack f
      ↔ IsAhead (record { places = set p i (Some 0); trail = t ++ i ∷ [] }) (stack ++ c ∷ []) f
  choose-ahead f = (forth, back)
    where
      agreed : Extends f p → Agrees (record { places = set p i (Some 0); trail = t ++ i ∷ [] }) (length t) f
      agreed e = Agrees-same (length t) (length t) (record { places = p; trail = t })
          (record { places = set p i (Some 0); trail = t ++ i ∷ [] }) f same (omega arith)
          (Agrees-extends (record { places = p; trail = t }) f board e)

      forth : IsAhead (record { places = p; trail = t }) stack f
          → IsAhead (record { places = set p i (Some 0); trail = t ++ i ∷ [] }) (stack ++ c ∷ []) f
      forth h = elim h [
        | inl e ↦ elim (cases_eq (get_or f i 0) 0) [
          | inl zero_there ↦ inl (λ j w at. elim (cases_eq j i) [
            | inl k ↦ (let v : get_or (set p i (Some 0)) i None ≡ Some w = subst
                (λ (x : ℕ). get_or (set p i (Some 0)) x None ≡ Some w) k at in
                let both : Some 0 ≡ Some w = sym (get_or-set_same p i (Some 0) None within) ∙ v in
                let w_is : 0 ≡ w = cc in rw k (zero_there ∙ w_is))
            | inr ne ↦ e j w (rw get_or-set_other at at)
          ])
          | inr ne ↦ inr ((AwaitsTurn-push (record { places = set p i (Some 0); trail = t ++ i ∷ [] }) stack c f).1
              (inr (record { agrees = rw mark (agreed e); later = rw (value, place) (omega arith) })))
        ]
        | inr w ↦ inr ((AwaitsTurn-push (record { places = set p i (Some 0); trail = t ++ i ∷ [] }) stack c f).1
            (inl (AwaitsTurn-same (length t) (record { places = p; trail = t })
            (record { places = set p i (Some 0); trail = t ++ i ∷ [] }) stack f same marks w)))
      ]

      back : IsAhead (record { places = set p i (Some 0); trail = t ++ i ∷ [] }) (stack ++ c ∷ []) f
          → IsAhead (record { places = p; trail = t }) stack f
      back h = elim h [
        | inl e ↦ inl (λ j w at. e j w (set_keeps p i 0 unset j w at))
        | inr w ↦ elim ((AwaitsTurn-push (record { places = set p i (Some 0); trail = t ++ i ∷ [] }) stack c f).0 w) [
          | inl old ↦ inr (AwaitsTurn-same (length t) (record { places = set p i (Some 0); trail = t ++ i ∷ [] })
              (record { places = p; trail = t }) stack f (SameBelow-turned (length t) (record { places = p; trail = t })
              (record { places = set p i (Some 0); trail = t ++ i ∷ [] }) same) marks old)
          | inr later ↦ inl (Extends-agrees (record { places = p; trail = t }) f board
              (Agrees-same (length t) (length t) (record { places = set p i (Some 0); trail = t ++ i ∷ [] })
              (record { places = p; trail = t }) f (SameBelow-turned (length t) (record { places = p; trail = t })
              (record { places = set p i (Some 0); trail = t ++ i ∷ [] }) same) (omega arith)
              (rw mark at later.agrees)))
        ]
      ]

  pub choose-paid : (k : ℕ) → 0 < k → visits_ahead k (record { places = set p i (Some 0); trail = t ++ i ∷ [] })
      (stack ++ c ∷ []) + 1 ≡ visits_ahead k (record { places = p; trail = t }) stack
  choose-paid k pos =
      let short : length t < length p = room_for p t i board within unset in
      let tree = visits_ahead-choose k (length p) (length t) pos short in
      let push = sum_by_push (λ (x : Choice). (k - 1 - x.value) * plain_tree k (length p - 1 - x.mark)) stack c in
      rw (length-set p i (Some 0), length-append t (i ∷ []), push, value, mark) (omega (arith, tree))
