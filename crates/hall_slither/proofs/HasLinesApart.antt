-- Lines are apart where their components have different labels.
use Rattle.std.proofs.Common.{ℕ, ◌↔◌, Bool, List, Option, sym, subst}
use Rattle.std.specs.Prelude.{IsTrue}
use Rattle.hall_grid.specs.declared.board.Size.{Size}
use Rattle.hall_grid.specs.Slither.{all_sides, IsLine, ShareDot, HasLinesApart}
use Rattle.hall_grid.specs.Component.{IsLabelled, AreComponents, LabelsDiffer}
use Rattle.hall_grid.proofs.AreComponents.{labelled_member, walk_from_label, label_from_walk}

module _ (size : Size) (f : List ℕ) (labels : List (Option ℕ))
    (are : AreComponents (all_sides size) (ShareDot size) (IsLine size f) labels) where
  turn : (a b : ℕ) → ShareDot size a b → ShareDot size b a
  turn a b s = (s.0, s.2, s.1)

  apart_from_labels : LabelsDiffer labels → HasLinesApart size f
  apart_from_labels d = (
    d.0,
    d.1,
    labelled_member (all_sides size) (ShareDot size) (IsLine size f) labels are d.0 d.2 d.4,
    labelled_member (all_sides size) (ShareDot size) (IsLine size f) labels are d.1 d.3 d.5,
    (λ w. let l = label_from_walk (all_sides size) (ShareDot size) (IsLine size f) labels are d.0 d.1 w in
        d.6 (let p = d.4 in let q = d.5 in let r = l.1 in let s = l.2 in cc)),
  )

  labels_from_apart : HasLinesApart size f → LabelsDiffer labels
  labels_from_apart h =
      let x = are.labelled h.0 h.2 in
      let y = are.labelled h.1 h.3 in (
        h.0,
        h.1,
        x.0,
        y.0,
        x.1,
        y.1,
        (λ e. h.4 (walk_from_label (all_sides size) (ShareDot size) (IsLine size f) labels are turn h.0 h.1 x.0 x.1
            (subst (λ l. IsLabelled labels h.1 l) (sym e) y.1))),
      )

  pub apart_by_labels : (b : Bool) → IsTrue b ↔ LabelsDiffer labels → IsTrue b ↔ HasLinesApart size f
  apart_by_labels b e = (λ t. apart_from_labels (e.0 t), λ h. e.1 (labels_from_apart h))
