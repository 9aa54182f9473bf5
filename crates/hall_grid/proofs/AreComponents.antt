-- What the labels of components say of two nodes.
use Rattle.std.proofs.Common.{◌≡◌, ℕ, ◌↔◌, List, Option, None, get_or, sym, subst, ◌∙◌}
use Rattle.hall_grid.specs.Walk.{Walk}
use Rattle.hall_grid.specs.Component.{IsLabelled, AreComponents, LabelsDiffer}
use Rattle.hall_grid.proofs.Walks.{Walk-start, Walk-end, Walk-join, Walk-reverse, Walk-map}

module _ (nodes : ℕ) (IsNext : ℕ → ℕ → Type 0) (IsMember : ℕ → Type 0) (labels : List (Option ℕ))
    (are : AreComponents nodes IsNext IsMember labels) where
  -- only members have labels, and a label is a member that has itself as its label
  pub labelled_member : (a label : ℕ) → IsLabelled labels a label → IsMember a
  labelled_member a label h = Walk-end IsNext IsMember label a (are.joined a label h)

  pub label_member : (a label : ℕ) → IsLabelled labels a label → IsMember label
  label_member a label h = Walk-start IsNext IsMember label a (are.joined a label h)

  pub own_label : (turn : (a b : ℕ) → IsNext a b → IsNext b a)
      → (a label : ℕ)
      → IsLabelled labels a label
      → IsLabelled labels label label
  own_label turn a label h =
      are.shared a label label (Walk-reverse IsNext IsMember turn label a (are.joined a label h)) h

  -- nodes with one label are joined
  pub walk_from_label : (turn : (a b : ℕ) → IsNext a b → IsNext b a)
      → (a b label : ℕ)
      → IsLabelled labels a label
      → IsLabelled labels b label
      → Walk IsNext IsMember a b
  walk_from_label turn a b label p q =
      Walk-join IsNext IsMember a label b (Walk-reverse IsNext IsMember turn label a (are.joined a label p))
      (are.joined b label q)

  -- joined nodes have one label
  pub label_from_walk : (a b : ℕ)
      → Walk IsNext IsMember a b
      → (label : ℕ) × IsLabelled labels a label × IsLabelled labels b label
  label_from_walk a b w = let l = are.labelled a (Walk-start IsNext IsMember a b w) in
      (l.0, l.1, are.shared a b l.0 w l.1)

  -- of members, the labels are equal exactly where a walk joins them
  pub same_label : (turn : (a b : ℕ) → IsNext a b → IsNext b a) → (a b : ℕ) → IsMember a → IsMember b
      → (get_or labels a None ≡ get_or labels b None) ↔ Walk IsNext IsMember a b
  same_label turn a b m n = (
    (λ e. let l = are.labelled a m in walk_from_label turn a b l.0 l.1 (sym e ∙ l.1)),
    (λ w. let l = label_from_walk a b w in l.1 ∙ sym l.2),
  )

  differing_apart : (turn : (a b : ℕ) → IsNext a b → IsNext b a) → LabelsDiffer labels
      → (a b : ℕ) × IsMember a × IsMember b × (Walk IsNext IsMember a b → ⊥)
  differing_apart turn (a, b, x, y, p, q, other) = (
    a,
    b,
    labelled_member a x p,
    labelled_member b y q,
    (λ w. let l = label_from_walk a b w in other (let r = l.1 in let s = l.2 in cc)),
  )

  apart_differing : (turn : (a b : ℕ) → IsNext a b → IsNext b a)
      → (a b : ℕ) × IsMember a × IsMember b × (Walk IsNext IsMember a b → ⊥)
      → LabelsDiffer labels
  apart_differing turn (a, b, m, n, apart) =
      let x = are.labelled a m in
      let y = are.labelled b n in (
        a,
        b,
        x.0,
        y.0,
        x.1,
        y.1,
        (λ e. apart (walk_from_label turn a b x.0 x.1 (subst (λ l. IsLabelled labels b l) (sym e) y.1))),
      )

  -- labels differ exactly where no walk joins two of the members
  pub labels_apart : (turn : (a b : ℕ) → IsNext a b → IsNext b a)
      → LabelsDiffer labels ↔ ((a b : ℕ) × IsMember a × IsMember b × (Walk IsNext IsMember a b → ⊥))
  labels_apart turn = (differing_apart turn, apart_differing turn)

-- labels of components where the same nodes are said to be members in other words
pub AreComponents-members : (nodes : ℕ) (IsNext : ℕ → ℕ → Type 0) (S T : ℕ → Type 0) (labels : List (Option ℕ))
    → ((a : ℕ) → S a ↔ T a)
    → AreComponents nodes IsNext S labels → AreComponents nodes IsNext T labels
AreComponents-members nodes IsNext S T labels same are = record {
  exact = are.exact;
  labelled = λ a m. are.labelled a ((same a).1 m);
  joined = λ a label h. Walk-map IsNext IsNext S T (λ x. (same x).0) (λ x y _ _ n. n) label a (are.joined a label h);
  shared =
      λ a b label w h. are.shared a b label (Walk-map IsNext IsNext T S (λ x. (same x).1) (λ x y _ _ n. n) a b w) h;
}
