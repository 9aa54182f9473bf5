-- A flood: what has the new label is joined to the root, and what has it and isn't on the stack has its neighbours
-- labelled.
use Rattle.std.proofs.Common.{◌≡◌, ℕ, zero, suc, ◌+◌, ◌<◌, ◌⊎◌, ◌++◌, List, [], ◌∷◌, length, replicate, take, drop, map}
use Rattle.std.proofs.Common.{Option, Some, None, refl, sym, ◌∙◌, subst, inl, inr, arith}
use Rattle.std.specs.Prelude.{Contains}
use Rattle.std.specs.Option.{is_some}
use Rattle.std.proofs.lemmas.List.{length-replicate, length-map, take_at}
use Rattle.std.proofs.lemmas.List.Elements.{Contains-append_left, Contains-push, Contains-push_cases}
use Rattle.std.proofs.lemmas.Bool.{cases_lt}
use Rattle.hall_grid.specs.Walk.{Walk, at, on}
use Rattle.hall_grid.specs.Component.{IsLabelled, AreComponents}
use Rattle.hall_grid.specs.Flood.{HasComponents, Floods, Labels}
use Rattle.hall_grid.specs.Reached.{IsMarked, IsReach}
use Rattle.hall_grid.proofs.Labelling.{one_label, labelled_below}
use Rattle.hall_grid.proofs.Walks.{Walk-along, Walk-start, Walk-end}

pub record Flooding (nodes : ℕ) (IsNext : ℕ → ℕ → Type 0) (IsMember : ℕ → Type 0) (root : ℕ)
    (old labels : List (Option ℕ)) (stack : List ℕ) : Type 0 where
  pub exact : length labels ≡ nodes
  pub joined : (a label : ℕ) → IsLabelled labels a label → Walk IsNext IsMember label a
  pub closed : (a label : ℕ) → IsLabelled labels a label
      → Contains stack a ⊎ ((b : ℕ) → IsNext a b → IsMember b → IsLabelled labels b label)
  pub stacked : (a : ℕ) → Contains stack a → IsLabelled labels a root
  pub kept : (a label : ℕ) → IsLabelled old a label → IsLabelled labels a label
  pub only : (a label : ℕ) → IsLabelled labels a label → IsLabelled old a label ⊎ (label ≡ root)
  pub begun : IsMember root → (label : ℕ) × IsLabelled labels root label

module _ (nodes : ℕ) (IsNext : ℕ → ℕ → Type 0) (IsMember : ℕ → Type 0) (root : ℕ) where
  -- the root is labelled, if it is a member without a label
  pub Flooding-start : (old new : List (Option ℕ)) (after : List ℕ) → HasComponents nodes IsNext IsMember old
      → Labels (λ x. x ≡ root) IsMember root old new [] after → Flooding nodes IsNext IsMember root old new after
  Flooding-start old new after has l = record {
    exact = l.exact ∙ has.exact;
    joined = λ a label h. elim (l.only a label h) [
      | inl k ↦ has.joined a label k
      | inr k ↦ subst (λ x. Walk IsNext IsMember x a) (k.1 ∙ sym k.0) (at k.2)
    ];
    closed = λ a label h. elim (l.only a label h) [
      | inl k ↦ inr (λ b n m. l.kept b label (has.closed a b label k n m))
      | inr k ↦ inl k.3
    ];
    stacked = λ a h. elim (l.fresh a h) [ inl k ↦ absurd (let low = k.1 in omega arith) | inr k ↦ k ];
    kept = l.kept;
    only = λ a label h. elim (l.only a label h) [ inl k ↦ inl k | inr k ↦ inr k.0 ];
    begun = λ m. l.covered root refl m;
  }

  module _ (old labels : List (Option ℕ)) (stack rest : List ℕ) (node : ℕ) (split : stack ≡ rest ++ node ∷ [])
      (f : Flooding nodes IsNext IsMember root old labels stack) where
    pub taken : IsLabelled labels node root
    taken = f.stacked node (subst (λ s. Contains s node) (sym split) (Contains-push rest node))

    pub taken_below : node < nodes
    taken_below = let k = labelled_below labels node root taken in let e = f.exact in omega arith

    -- a neighbour of the node that has a label has this label
    same : ((a b : ℕ) → IsNext a b → IsNext b a)
        → (b label : ℕ)
        → IsNext node b
        → IsLabelled labels b label
        → label ≡ root
    same turn b label n h =
        elim (f.closed b label h) [
          | inl s ↦ one_label labels b label root h (f.stacked b s)
          | inr k ↦
              one_label labels node label root
              (k node (turn node b n) (Walk-end IsNext IsMember root node (f.joined node root taken))) taken
        ]

    pub taken_member : IsMember node
    taken_member = Walk-end IsNext IsMember root node (f.joined node root taken)

    -- a node is taken from the stack and its neighbours are labelled
    pub Flooding-step : (new : List (Option ℕ)) (after : List ℕ) → ((a b : ℕ) → IsNext a b → IsNext b a)
        → Labels (IsNext node) IsMember root labels new rest after → Flooding nodes IsNext IsMember root old new after
    Flooding-step new after turn l = record {
      exact = l.exact ∙ f.exact;
      joined = λ a label h. elim (l.only a label h) [
        | inl k ↦ f.joined a label k
        | inr k ↦ subst (λ x. Walk IsNext IsMember x a) (sym k.0) (on (f.joined node root taken) k.1 k.2)
      ];
      closed = λ a label h. elim (l.only a label h) [
        | inr k ↦ inl k.3
        | inl k ↦ elim (f.closed a label k) [
          | inr closed ↦ inr (λ b n m. l.kept b label (closed b n m))
          | inl s ↦ elim (Contains-push_cases rest node a (subst (λ s. Contains s a) split s)) [
            | inl r ↦ inl (l.stacked a r)
            | inr e ↦ inr (λ b n m.
                let n2 : IsNext node b = subst (λ x. IsNext x b) (sym e) n in
                let c = l.covered b n2 m in
                let r : label ≡ root =
                one_label labels node label root (subst (λ x. IsLabelled labels x label) (sym e) k) taken in
                let q : c.0 ≡ root = elim (l.only b c.0 c.1) [ inl j ↦ same turn b c.0 n2 j | inr j ↦ j.0 ] in
                subst (λ x. IsLabelled new b x) (q ∙ sym r) c.1)
          ]
        ]
      ];
      stacked = λ a h. elim (l.fresh a h) [
        | inl k ↦
            l.kept a root
            (f.stacked a (subst (λ s. Contains s a) (sym split) (Contains-append_left rest (node ∷ []) a k)))
        | inr k ↦ k
      ];
      kept = λ a label h. l.kept a label (f.kept a label h);
      only = λ a label h. elim (l.only a label h) [ inl k ↦ f.only a label k | inr k ↦ inr k.0 ];
      begun = λ m. let b = f.begun m in (b.0, l.kept root b.0 b.1);
    }

  pub Floods-from_Flooding : (old labels : List (Option ℕ)) → Flooding nodes IsNext IsMember root old labels []
      → Floods nodes IsNext IsMember root old labels
  Floods-from_Flooding old labels f = record {
    components = record {
      exact = f.exact;
      joined = f.joined;
      closed =
          λ a b label h n m. elim (f.closed a label h) [
            | inl k ↦ absurd (let low = k.1 in omega arith)
            | inr closed ↦
                closed b n m
          ];
    };
    kept = f.kept;
    only = f.only;
    begun = f.begun;
  }

none_labelled : (n a label : ℕ) → IsLabelled (replicate n None) a label → ⊥
none_labelled zero a label h = absurd (cc)
none_labelled (suc n) zero label h = absurd (cc)
none_labelled (suc n) (suc a) label h = none_labelled n a label h

-- no label at all
pub HasComponents-none : (nodes : ℕ) (IsNext : ℕ → ℕ → Type 0) (IsMember : ℕ → Type 0) (n : ℕ) → n ≡ nodes
    → HasComponents nodes IsNext IsMember (replicate n None)
HasComponents-none nodes IsNext IsMember n e = record {
  exact = length-replicate n None ∙ e;
  joined = λ a label h. absurd (none_labelled n a label h);
  closed = λ a b label h _ _. absurd (none_labelled n a label h);
}

-- all members below a number have labels
pub record Labelling (nodes : ℕ) (IsNext : ℕ → ℕ → Type 0) (IsMember : ℕ → Type 0) (labels : List (Option ℕ))
    (done : ℕ) : Type 0 where
  pub components : HasComponents nodes IsNext IsMember labels
  pub labelled : (a : ℕ) → a < done → IsMember a → (label : ℕ) × IsLabelled labels a label

pub Labelling-none : (nodes : ℕ) (IsNext : ℕ → ℕ → Type 0) (IsMember : ℕ → Type 0) (n : ℕ) → n ≡ nodes
    → Labelling nodes IsNext IsMember (replicate n None) 0
Labelling-none nodes IsNext IsMember n e = record {
  components = HasComponents-none nodes IsNext IsMember n e;
  labelled = λ a h m. absurd (omega arith);
}

below_or_at : (a b : ℕ) → a < b + 1 → (a < b) ⊎ (a ≡ b)
below_or_at a b h = elim (cases_lt a b) [ inl k ↦ inl k | inr k ↦ inr (omega arith) ]

pub Labelling-step : (nodes : ℕ) (IsNext : ℕ → ℕ → Type 0) (IsMember : ℕ → Type 0) (old new : List (Option ℕ))
    (node : ℕ)
    → Labelling nodes IsNext IsMember old node
    → Floods nodes IsNext IsMember node old new
    → Labelling nodes IsNext IsMember new (node + 1)
Labelling-step nodes IsNext IsMember old new node l f = record {
  components = f.components;
  labelled = λ a h m. elim (below_or_at a node h) [
    | inl k ↦ (let j = l.labelled a k m in (j.0, f.kept a j.0 j.1))
    | inr e ↦ subst (λ a. (label : ℕ) × IsLabelled new a label) (sym e) (f.begun (subst (λ a. IsMember a) e m))
  ];
}

pub AreComponents-from_Labelling : (nodes : ℕ) (IsNext : ℕ → ℕ → Type 0) (IsMember : ℕ → Type 0)
    (labels : List (Option ℕ))
    → ((a : ℕ) → IsMember a → a < nodes) → (done : ℕ) → done ≡ nodes → Labelling nodes IsNext IsMember labels done
    → AreComponents nodes IsNext IsMember labels
AreComponents-from_Labelling nodes IsNext IsMember labels below done e l = record {
  exact = l.components.exact;
  labelled = λ a m. l.labelled a (let k = below a m in omega arith) m;
  joined = l.components.joined;
  shared = λ a b label w h.
      Walk-along IsNext IsMember (λ x. IsLabelled labels x label)
      (λ x y k n m. l.components.closed x y label k n m) a b h w;
}

-- what a borrowed vector holds after its whole slice was written
pub written : {A : Type 0} → (n : ℕ) (xs ys : List A) → length xs ≡ n → take n (xs ++ drop (length xs) ys) ≡ xs
written n xs ys e = take_at xs (drop (length xs) ys) n e

marked_label : (labels : List (Option ℕ)) (a : ℕ)
    → IsMarked (map is_some labels) a
    → (label : ℕ) × IsLabelled labels a label
marked_label [] a h = absurd (cc)
marked_label (None ∷ labels) zero h = absurd (cc)
marked_label (Some x ∷ labels) zero h = (x, refl)
marked_label (x ∷ labels) (suc a) h = marked_label labels a h

label_marked : (labels : List (Option ℕ)) (a label : ℕ) → IsLabelled labels a label → IsMarked (map is_some labels) a
label_marked [] a label h = absurd (cc)
label_marked (None ∷ labels) zero label h = absurd (cc)
label_marked (Some x ∷ labels) zero label h = refl
label_marked (x ∷ labels) (suc a) label h = label_marked labels a label h

-- after a flood over no labels those with a label are reached
pub IsReach-from_Floods : (nodes : ℕ) (IsNext : ℕ → ℕ → Type 0) (IsMember : ℕ → Type 0) (from n : ℕ)
    (labels : List (Option ℕ))
    → Floods nodes IsNext IsMember from (replicate n None) labels
    → IsReach nodes IsNext IsMember from (map is_some labels)
IsReach-from_Floods nodes IsNext IsMember from n labels f = record {
  exact = length-map labels is_some ∙ f.components.exact;
  walks = λ a. (
    (λ h.
        let l = marked_label labels a h in
        elim (f.only a l.0 l.1) [
          | inl k ↦ absurd (none_labelled n a l.0 k)
          | inr e ↦ subst (λ x. Walk IsNext IsMember x a) e (f.components.joined a l.0 l.1)
        ]),
    (λ w.
        let l = f.begun (Walk-start IsNext IsMember from a w) in
        label_marked labels a l.0
        (Walk-along IsNext IsMember (λ x. IsLabelled labels x l.0)
        (λ x y k n m. f.components.closed x y l.0 k n m) from a l.1 w)),
  );
}
