-- The trail of a board: after a place is set, and after it is cleared.
use Rattle.std.proofs.Common.{◌≡◌, ◌≢◌, ℕ, suc, ◌+◌, ◌<◌, ◌≤◌, List, [], ◌∷◌, ◌++◌, Option, Some, None, length, get_or}
use Rattle.std.proofs.Common.{set, take, drop, refl, sym, ◌∙◌, ap, arith, subst, inl, inr, length-append}
use Rattle.std.specs.Prelude.{Contains, Result, Ok, Err, OnErr, is_ok, if◌then◌else◌}
use Rattle.std.proofs.Math.Seq.{drop-cons, take-append_seam}
use Rattle.std.proofs.lemmas.Bool.{cases_eq, cases_lt}
use Rattle.std.proofs.lemmas.List.{get_or-set_same, get_or-set_other, get_or_append_left, length-set, length-take}
use Rattle.std.proofs.lemmas.List.{length-drop, take_all, drop_all, take-take, get_or-take, get_or-drop, get_or_default}
use Rattle.std.proofs.lemmas.List.{same_lists}
use Rattle.std.proofs.lemmas.List.Elements.{Contains-push, Contains-append_left, Contains-push_cases, All-cons}
use Rattle.std.proofs.lemmas.List.Elements.{All-weaker}
use Rattle.std.proofs.lemmas.List.Sums.{sum_by-set}
use Rattle.hall_solve.specs.Trail.{Trailed, IsTrailed, IsUndone, Grows}
use Rattle.hall_solve.proofs.Boards.{open-set, weight, set_within, set_keeps}

-- the number at the end of a list
pub at_end : (t : List ℕ) (i : ℕ) → get_or (t ++ i ∷ []) (length t) 0 ≡ i
at_end [] i = refl
at_end (x ∷ t) i = at_end t i

before_end : (t : List ℕ) (i k : ℕ) → k < length t → get_or (t ++ i ∷ []) k 0 ≡ get_or t k 0
before_end t i k h = get_or_append_left t (i ∷ []) 0 k h

pub IsTrailed-set : (p : List (Option ℕ)) (t : List ℕ) (i v : ℕ) → IsTrailed (record { places = p; trail = t })
    → i < length p → get_or p i None ≡ None → IsTrailed (record { places = set p i (Some v); trail = t ++ i ∷ [] })
IsTrailed-set p t i v b within unset = record {
  set = λ k h.
      elim (cases_lt k (length t)) [
        | inl lt ↦ (let there = b.set k lt in
            (there.0, rw (before_end t i k lt, get_or-set_other p i (get_or t k 0) (Some v) None (apart k lt)) there.1))
        | inr ge ↦ (let last : k ≡ length t = omega (arith, length-append t (i ∷ [])) in
            (v, rw (last, at_end t i) (get_or-set_same p i (Some v) None within)))
      ];
  listed = λ j w h.
      elim (cases_eq j i) [
        | inl e ↦ rw e (Contains-push t i)
        | inr ne ↦ Contains-append_left t (i ∷ []) j (b.listed j w (rw get_or-set_other at h))
      ];
  once = λ j k lt h.
      let short : j < length t = omega (arith, length-append t (i ∷ [])) in
      elim (cases_lt k (length t)) [
        | inl below ↦ rw (before_end t i j short, before_end t i k below) (b.once j k lt below)
        | inr ge ↦ (let last : k ≡ length t = omega (arith, length-append t (i ∷ [])) in
            rw (last, before_end t i j short, at_end t i) (apart j short))
      ];
  counted = omega (arith, b.counted, open-set p i v within unset, length-append t (i ∷ []), length-set p i (Some v));
}
  where
    apart : (k : ℕ) → k < length t → get_or t k 0 ≢ i
    apart k lt e = let there = b.set k lt in let hit : get_or p i None ≡ Some there.0 = subst
        (λ (j : ℕ). get_or p j None ≡ Some there.0) e there.1 in let no_value : None ≡ Some there.0 = sym unset
        ∙ hit in cc

-- the last place of the trail is cleared
pub IsTrailed-pop : (p : List (Option ℕ)) (t : List ℕ) (i : ℕ) → IsTrailed (record { places = p; trail = t ++ i ∷ [] })
    → IsTrailed (record { places = set p i None; trail = t })
IsTrailed-pop p t i b = record {
  set = λ k h.
      let there = b.set k (omega (arith, length-append t (i ∷ []))) in
      let at : get_or p (get_or t k 0) None ≡ Some there.0 = (rw (before_end t i k h) at there.1) in
      (there.0, rw (get_or-set_other p i (get_or t k 0) None None (apart k h)) at);
  listed = λ j w h.
      elim (cases_eq j i) [
        | inl e ↦ (let cleared : get_or (set p i None) i None ≡ None = get_or-set_same p i None None within in
            let set_there : get_or (set p i None) i None ≡ Some w = subst
            (λ (x : ℕ). get_or (set p i None) x None ≡ Some w) e h in
            let clash : None ≡ Some w = sym cleared ∙ set_there in cc)
        | inr ne ↦ (let there : get_or p j None ≡ Some w = (rw get_or-set_other at h) in
            elim (Contains-push_cases t i j (b.listed j w there)) [ inl here ↦ here | inr e ↦ absurd (ne (sym e)) ])
      ];
  once = λ j k lt h. (λ e. b.once j k lt (omega (arith, length-append t (i ∷ [])))
      (before_end t i j (omega arith) ∙ e ∙ sym (before_end t i k h)));
  counted =
      let value = b.set (length t) (omega (arith, length-append t (i ∷ []))) in
      let at : get_or p i None ≡ Some value.0 = (rw (at_end t i) at value.1) in
      let open' = (rw at at (sum_by-set weight p i None None within)) in
      omega (arith, b.counted, open', length-append t (i ∷ []), length-set p i None);
}
  where
    last : (v : ℕ) × (get_or p (get_or (t ++ i ∷ []) (length t) 0) None ≡ Some v)
    last = b.set (length t) (omega (arith, length-append t (i ∷ [])))

    within : i < length p
    within = set_within p i last.0 (rw (at_end t i) at last.1)

    apart : (k : ℕ) → k < length t → get_or t k 0 ≢ i
    apart k lt e = b.once k (length t) lt (omega (arith, length-append t (i ∷ [])))
        (before_end t i k lt ∙ e ∙ sym (at_end t i))

Contains-tail : (x : ℕ) (xs : List ℕ) (y : ℕ) → Contains xs y → Contains (x ∷ xs) y
Contains-tail x xs y h = (suc h.0, omega (arith, h.1), h.2)

-- a push within the room succeeds
pub pushed : {A E : Type 0} (r : Result Unit E) (t new : List A) (i : A) (cap n : ℕ) → n ≡ length t → length t < cap
    → new ≡ (if is_ok r then t ++ i ∷ [] else t) → OnErr r (cap ≤ n) → new ≡ t ++ i ∷ []
pushed (Ok u) t new i cap n size room e full = e
pushed (Err x) t new i cap n size room e full = absurd (omega arith)

-- there is room for a place that is not set
pub room_for : (p : List (Option ℕ)) (t : List ℕ) (i : ℕ) → IsTrailed (record { places = p; trail = t }) → i < length p
    → get_or p i None ≡ None → length t < length p
room_for p t i b within unset = omega (arith, b.counted, open-set p i 0 within unset)

-- nothing is undone yet
pub IsUndone-none : (b : Trailed) → IsUndone (length b.trail) b b
IsUndone-none b = record {
  size = refl;
  trail = sym (take_all (length b.trail) b.trail (omega arith));
  cleared = rw (drop_all (length b.trail) b.trail (omega arith)) (λ k d h. absurd (omega arith));
  others = λ i h. refl;
}

-- one more place is undone
pub IsUndone-pop : (b : Trailed) (p : List (Option ℕ)) (t : List ℕ) (i : ℕ) → i < length p
    → IsUndone (length (t ++ i ∷ [])) b (record { places = p; trail = t ++ i ∷ [] })
    → length (t ++ i ∷ []) ≤ length b.trail → IsUndone (length t) b (record { places = set p i None; trail = t })
IsUndone-pop b p t i within u le = record {
  size = length-set p i None ∙ u.size;
  trail = sym (take-append_seam t (i ∷ [])) ∙ ap (take (length t)) u.trail ∙ take-take (length t) (length (t ++ i ∷ []))
      b.trail (omega (arith, size));
  cleared = rw here (All-cons (λ j. get_or (set p i None) j None ≡ None) i (drop (suc (length t)) b.trail)
      (get_or-set_same p i None None within) (All-weaker (λ j. get_or p j None ≡ None)
      (λ j. get_or (set p i None) j None ≡ None) (λ j h. stays j h) (drop (suc (length t)) b.trail)
      (rw size at u.cleared)));
  others = λ j h.
      let apart : j ≢ i = λ e. h (rw (here, e) (0, omega arith, refl)) in
      get_or-set_other p i j None None apart ∙ u.others j (λ k. h
      (rw here (Contains-tail i (drop (suc (length t)) b.trail) j (rw size at k))));
}
  where
    size : length (t ++ i ∷ []) ≡ suc (length t)
    size = omega (arith, length-append t (i ∷ []))

    at : get_or b.trail (length t) 0 ≡ i
    at = sym (get_or-take (length (t ++ i ∷ [])) b.trail (length t) 0 (omega (arith, size)))
        ∙ ap (λ x. get_or x (length t) 0) (sym u.trail) ∙ at_end t i

    here : drop (length t) b.trail ≡ i ∷ drop (suc (length t)) b.trail
    here = drop-cons b.trail (length t) 0 (omega (arith, size)) ∙ ap (λ x. x ∷ drop (suc (length t)) b.trail) at

    stays : (j : ℕ) → get_or p j None ≡ None → get_or (set p i None) j None ≡ None
    stays j h = elim (cases_eq j i) [
      | inl e ↦ rw e (get_or-set_same p i None None within)
      | inr ne ↦
          rw (get_or-set_other p i j None None ne) h
    ]

-- the last place of the trail is on the board
pub end_within : (p : List (Option ℕ)) (t : List ℕ) (i : ℕ) → IsTrailed (record { places = p; trail = t ++ i ∷ [] })
    → i < length p
end_within p t i b =
    let last = b.set (length t) (omega (arith, length-append t (i ∷ []))) in
    set_within p i last.0 (rw (at_end t i) at last.1)

-- a board is its places and its trail
pub board_is : (b : Trailed) (p : List (Option ℕ)) (t : List ℕ) → b.places ≡ p → b.trail ≡ t
    → b ≡ record { places = p; trail = t }
board_is b p t e f = rw (← e, ← f) refl

pub Grows-itself : (b : Trailed) → Grows b b
Grows-itself b = record { size = refl; trail = take_all (length b.trail) b.trail (omega arith); keeps = λ i v h. h }

pub Grows-twice : (a b c : Trailed) → Grows a b → Grows b c → Grows a c
Grows-twice a b c g h = record {
  size = h.size ∙ g.size;
  trail = sym (take-take (length a.trail) (length b.trail) c.trail
      (omega (arith, ap length g.trail, length-take (length a.trail) b.trail))) ∙ ap (take (length a.trail)) h.trail
      ∙ g.trail;
  keeps = λ i v at. h.keeps i v (g.keeps i v at);
}

-- to set a place that is open
pub Grows-set : (b c : Trailed) (i v : ℕ) → get_or b.places i None ≡ None → c.places ≡ set b.places i (Some v)
    → c.trail ≡ b.trail ++ i ∷ [] → Grows b c
Grows-set b c i v unset e t = record {
  size = ap length e ∙ length-set b.places i (Some v);
  trail = ap (take (length b.trail)) t ∙ take-append_seam b.trail (i ∷ []);
  keeps = λ j w h. rw e (set_keeps b.places i v unset j w h);
}

-- what has grown, and a place set after
pub Grows-then_set : (a b c : Trailed) (i v : ℕ) → Grows a b → get_or b.places i None ≡ None
    → c.places ≡ set b.places i (Some v) → c.trail ≡ b.trail ++ i ∷ [] → Grows a c
Grows-then_set a b c i v g unset e t = Grows-twice a b c g (Grows-set b c i v unset e t)

-- what has grown, and is cut back to its old trail, is as before
pub undone_same : (a b c : Trailed) → IsTrailed a → IsTrailed b → IsTrailed c → Grows a b
    → IsUndone (length a.trail) b c → c ≡ a
undone_same a b c oa ob oc g u = board_is c a.places a.trail places trail
  where
    trail : c.trail ≡ a.trail
    trail = u.trail ∙ g.trail

    same : (k : ℕ) (x y : Option ℕ) → get_or c.places k None ≡ x → get_or a.places k None ≡ y → x ≡ y
    same k None None e f = refl
    same k (Some v) None e f =
        let listed = oc.listed k v e in
        let there = oa.set listed.0 (omega (arith, listed.1, ap length trail)) in
        let place : get_or a.trail listed.0 0 ≡ k = ap (λ t. get_or t listed.0 0) (sym trail)
        ∙ get_or_default c.trail listed.0 0 k listed.1 ∙ listed.2 in
        let hit : get_or a.places k None ≡ Some there.0 = subst (λ (j : ℕ). get_or a.places j None ≡ Some there.0) place
        there.1 in
        let clash : None ≡ Some there.0 = sym f ∙ hit in cc
    same k x (Some w) e f =
        let listed = oa.listed k w f in
        let place : get_or a.trail listed.0 0 ≡ k = get_or_default a.trail listed.0 0 k listed.1 ∙ listed.2 in
        let there = oc.set listed.0 (omega (arith, listed.1, ap length trail)) in
        let hit : get_or c.places k None ≡ Some there.0 = subst (λ (j : ℕ). get_or c.places j None ≡ Some there.0)
        (ap (λ t. get_or t listed.0 0) trail ∙ place) there.1 in
        let below : get_or b.places k None ≡ Some w = g.keeps k w f in
        let kept : get_or c.places k None ≡ get_or b.places k None = u.others k (λ beyond.
        let at : length a.trail + beyond.0 < length b.trail = omega
        (arith, beyond.1, length-drop (length a.trail) b.trail) in
        let early : get_or b.trail listed.0 0 ≡ k = sym (get_or-take (length a.trail) b.trail listed.0 0 listed.1)
        ∙ ap (λ t. get_or t listed.0 0) g.trail ∙ place in
        let late : get_or b.trail (length a.trail + beyond.0) 0 ≡ k = get_or_default b.trail (length a.trail + beyond.0)
        0 k at ∙ sym (get_or-drop (length a.trail) b.trail beyond.0 k) ∙ beyond.2 in
        ob.once listed.0 (length a.trail + beyond.0) (omega (arith, listed.1)) at (early ∙ sym late)) in
        sym e ∙ kept ∙ below

    places : c.places ≡ a.places
    places = same_lists c.places a.places (u.size ∙ g.size) (λ k d h. get_or_default c.places k d None h
        ∙ same k (get_or c.places k None) (get_or a.places k None) refl refl
        ∙ get_or_default a.places k None d (omega (arith, h, u.size, g.size)))
