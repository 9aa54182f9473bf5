-- Steps of a flood: labels that were given, and nodes that were put onto the stack.
use Rattle.std.proofs.Common.{◌≡◌, ℕ, zero, suc, ◌+◌, ◌<◌, ◌⊎◌, ◌++◌, List, [], ◌∷◌, length, get_or, set, take, Option}
use Rattle.std.proofs.Common.{Some, None, refl, sym, ap, ◌∙◌, subst, inl, inr, arith}
use Rattle.std.specs.Prelude.{Contains, Bool, true, false, not}
use Rattle.std.specs.Option.{is_some}
use Rattle.std.proofs.lemmas.List.{get_or-set_same, get_or-set_other, length-set, length_push, take_more}
use Rattle.std.proofs.lemmas.List.Elements.{Contains-append_left, Contains-push, Contains-push_cases, Contains-get_or}
use Rattle.std.proofs.lemmas.Bool.{cases_eq}
use Rattle.hall_grid.specs.Component.{IsLabelled}
use Rattle.hall_grid.specs.Flood.{Labels, unlabelled}

unlabelled-set : (labels : List (Option ℕ)) (i label : ℕ)
    → i < length labels
    → get_or labels i None ≡ None
    → unlabelled (set labels i (Some label)) + 1 ≡ unlabelled labels
unlabelled-set [] i label h e = omega arith
unlabelled-set (Some x ∷ labels) zero label h e = absurd (cc)
unlabelled-set (None ∷ labels) zero label h e = refl
unlabelled-set (Some x ∷ labels) (suc i) label h e = unlabelled-set labels i label (omega arith) e
unlabelled-set (None ∷ labels) (suc i) label h e = let r = unlabelled-set labels i label (omega arith) e in omega arith

pub labelled_below : (labels : List (Option ℕ)) (i label : ℕ) → IsLabelled labels i label → i < length labels
labelled_below [] i label e = absurd (cc)
labelled_below (x ∷ labels) zero label e = omega arith
labelled_below (x ∷ labels) (suc i) label e = let r = labelled_below labels i label e in omega arith

pub one_label : (labels : List (Option ℕ)) (a x y : ℕ) → IsLabelled labels a x → IsLabelled labels a y → x ≡ y
one_label labels a x y p q = cc

-- no label was given
pub Labels-none : (IsTarget IsMember : ℕ → Type 0) (root : ℕ) (labels : List (Option ℕ)) (stack : List ℕ)
    → ((a : ℕ) → IsTarget a → IsMember a → (label : ℕ) × IsLabelled labels a label)
    → Labels IsTarget IsMember root labels labels stack stack
Labels-none IsTarget IsMember root labels stack covered = record {
  exact = refl;
  kept = λ a label h. h;
  covered = covered;
  only = λ a label h. inl h;
  stacked = λ a h. h;
  fresh = λ a h. inl h;
  work = omega arith;
}

-- one node got the label
pub Labels-one : (IsMember : ℕ → Type 0) (root : ℕ) (labels : List (Option ℕ)) (stack : List ℕ) (node : ℕ)
    → node < length labels
    → IsMember node
    → get_or labels node None ≡ None
    → Labels (λ x. x ≡ node) IsMember root labels (set labels node (Some root)) stack (stack ++ node ∷ [])
Labels-one IsMember root labels stack node within member fresh =
    let new : List (Option ℕ) = set labels node (Some root) in
    let here : IsLabelled new node root = get_or-set_same labels node (Some root) None within in
    record {
      exact = length-set labels node (Some root);
      kept = λ a label h. elim (cases_eq a node) [
        | inl e ↦
            absurd (let k : get_or labels node None ≡ Some label = subst (λ a. IsLabelled labels a label) e h in cc)
        | inr ne ↦ get_or-set_other labels node a (Some root) None ne ∙ h
      ];
      covered = λ a t m. (root, subst (λ a. IsLabelled new a root) (sym t) here);
      only = λ a label h. elim (cases_eq a node) [
        | inl e ↦ inr (
          one_label new node label root (subst (λ a. IsLabelled new a label) e h) here,
          e,
          subst (λ a. IsMember a) (sym e) member,
          subst (λ a. Contains (stack ++ node ∷ []) a) (sym e) (Contains-push stack node),
        )
        | inr ne ↦ inl (sym (get_or-set_other labels node a (Some root) None ne) ∙ h)
      ];
      stacked = λ a h. Contains-append_left stack (node ∷ []) a h;
      fresh = λ a h. elim (Contains-push_cases stack node a h) [
        | inl k ↦ inl k
        | inr e ↦ inr (subst (λ a. IsLabelled new a root) e here)
      ];
      work = let r = unlabelled-set labels node root within fresh in let k = length_push stack node in omega arith;
    }

-- one step after the other
pub Labels-then : (S T IsMember : ℕ → Type 0) (root : ℕ) (l0 l1 l2 : List (Option ℕ)) (s0 s1 s2 : List ℕ)
    → Labels S IsMember root l0 l1 s0 s1
    → Labels T IsMember root l1 l2 s1 s2
    → Labels (λ a. S a ⊎ T a) IsMember root l0 l2 s0 s2
Labels-then S T IsMember root l0 l1 l2 s0 s1 s2 p q = record {
  exact = q.exact ∙ p.exact;
  kept = λ a label h. q.kept a label (p.kept a label h);
  covered = λ a t m. elim t [ inl s ↦ (let k = p.covered a s m in (k.0, q.kept a k.0 k.1)) | inr t ↦ q.covered a t m ];
  only = λ a label h. elim (q.only a label h) [
    | inl k ↦ elim (p.only a label k) [ inl j ↦ inl j | inr j ↦ inr (j.0, inl j.1, j.2, q.stacked a j.3) ]
    | inr k ↦ inr (k.0, inr k.1, k.2, k.3)
  ];
  stacked = λ a h. q.stacked a (p.stacked a h);
  fresh = λ a h. elim (q.fresh a h) [
    | inl k ↦ elim (p.fresh a k) [ inl j ↦ inl j | inr j ↦ inr (q.kept a root j) ]
    | inr k ↦ inr k
  ];
  work = let x = p.work in let y = q.work in omega arith;
}

-- other targets, with the same members among them but for those that have a label
pub Labels-retarget : (S T IsMember : ℕ → Type 0) (root : ℕ) (old new : List (Option ℕ)) (before after : List ℕ)
    → ((a : ℕ) → S a → T a) → ((a : ℕ) → T a → IsMember a → S a ⊎ ((label : ℕ) × IsLabelled old a label))
    → Labels S IsMember root old new before after → Labels T IsMember root old new before after
Labels-retarget S T IsMember root old new before after to back l = record {
  exact = l.exact;
  kept = l.kept;
  covered = λ a t m. elim (back a t m) [ inl s ↦ l.covered a s m | inr k ↦ (k.0, l.kept a k.0 k.1) ];
  only = λ a label h. elim (l.only a label h) [ inl k ↦ inl k | inr k ↦ inr (k.0, to a k.1, k.2, k.3) ];
  stacked = l.stacked;
  fresh = l.fresh;
  work = l.work;
}

pub if_none : (o : Option ℕ) (b : Bool) → is_some o ≡ not b → b ≡ true → o ≡ None
if_none None b e h = refl
if_none (Some x) true e h = absurd (cc)
if_none (Some x) false e h = absurd (cc)

pub if_some : (o : Option ℕ) (b : Bool) → is_some o ≡ not b → b ≡ false → (x : ℕ) × (o ≡ Some x)
if_some (Some x) b e h = (x, refl)
if_some None true e h = absurd (cc)
if_some None false e h = absurd (cc)

-- the places up to an index and the place there
pub more_place : (places : List (Option ℕ)) (i : ℕ) (d x : Option ℕ)
    → i < length places
    → Contains (take (i + 1) places) x
    → Contains (take i places) x ⊎ (get_or places i d ≡ x)
more_place places i d x h k =
    Contains-push_cases (take i places) (get_or places i d) x (subst (λ l. Contains l x) (take_more places i d h) k)

place_before : (places : List (Option ℕ)) (i : ℕ) (d x : Option ℕ)
    → i < length places
    → Contains (take i places) x
    → Contains (take (i + 1) places) x
place_before places i d x h k =
    subst (λ l. Contains l x) (sym (take_more places i d h))
    (Contains-append_left (take i places) (get_or places i d ∷ []) x k)

place_here : (places : List (Option ℕ)) (i : ℕ) (d x : Option ℕ)
    → i < length places
    → get_or places i d ≡ x
    → Contains (take (i + 1) places) x
place_here places i d x h e =
    subst (λ l. Contains l x) (sym (take_more places i d h))
    (subst (λ y. Contains (take i places ++ get_or places i d ∷ []) y) e
    (Contains-push (take i places) (get_or places i d)))

pub place_in : (places : List (Option ℕ)) (i : ℕ) (d x : Option ℕ)
    → i < length places
    → get_or places i d ≡ x
    → Contains places x
place_in places i d x h e = subst (λ y. Contains places y) e (Contains-get_or places i d h)

abbrev pub AmongFirst : List (Option ℕ) → ℕ → ℕ → Type 0
AmongFirst places i x = Contains (take i places) (Some x)

module _ (IsMember : ℕ → Type 0) (root : ℕ) (places : List (Option ℕ)) (i : ℕ) (d : Option ℕ)
    (within : i < length places) where
  -- one more place that holds no node
  pub Labels-empty_place : (old new : List (Option ℕ)) (before after : List ℕ)
      → ((x : ℕ) → get_or places i d ≡ Some x → ⊥)
      → Labels (AmongFirst places i) IsMember root old new before after
      → Labels (AmongFirst places (i + 1)) IsMember root old new before after
  Labels-empty_place old new before after none =
      Labels-retarget (AmongFirst places i) (AmongFirst places (i + 1)) IsMember root old new before after
      (λ x h. place_before places i d (Some x) within h)
      (λ x h m. elim (more_place places i d (Some x) within h) [ inl k ↦ inl k | inr e ↦ absurd (none x e) ])

  -- one more place that holds a node
  pub Labels-place : (l0 l1 l2 : List (Option ℕ)) (s0 s1 s2 : List ℕ) (other : ℕ) → get_or places i d ≡ Some other
      → Labels (AmongFirst places i) IsMember root l0 l1 s0 s1 → Labels (λ x. x ≡ other) IsMember root l1 l2 s1 s2
      → Labels (AmongFirst places (i + 1)) IsMember root l0 l2 s0 s2
  Labels-place l0 l1 l2 s0 s1 s2 other here p q =
      Labels-retarget (λ x. AmongFirst places i x ⊎ (x ≡ other)) (AmongFirst places (i + 1)) IsMember root l0 l2 s0 s2
      (λ x h. elim h [
        | inl k ↦ place_before places i d (Some x) within k
        | inr e ↦ place_here places i d (Some x) within (here ∙ ap Some (sym e))
      ])
      (λ x h m. elim (more_place places i d (Some x) within h) [
        | inl k ↦ inl (inl k)
        | inr e ↦ inl (inr (let r : Some other ≡ Some x = sym here ∙ e in cc))
      ])
      (Labels-then (AmongFirst places i) (λ x. x ≡ other) IsMember root l0 l1 l2 s0 s1 s2 p q)
