-- Regions that must grow.
use Rattle.std.proofs.Common.{◌≡◌, ℕ, List, Option, ◌∙◌, inl, inr}
use Rattle.std.proofs.lemmas.Bool.{cases_eq}
use Rattle.hall_grid.specs.declared.rule.Rule.TheVariants.{N3}
use Rattle.hall_grid.specs.Board.{Board, cells, Touch}
use Rattle.hall_grid.specs.Nurikabe.{IsWall}
use Rattle.hall_grid.specs.Component.{IsLabelled, LabelsDiffer, AreComponents}
use Rattle.hall_grid.proofs.Labelling.{one_label}
use Rattle.hall_grid.proofs.AreComponents.{labelled_member}
use Rattle.hall_solve.specs.Question.{IsPartial}
use Rattle.hall_grid.specs.declared.board.Kind.TheVariants.{Nurikabe}
use Rattle.hall_solve.specs.Puzzle.{question_of}
use Rattle.hall_nurikabe.specs.Forced.{IsSetTo}
use Rattle.hall_nurikabe.specs.Exit.{MustGrow}
use Rattle.hall_nurikabe.proofs.Solves.{no_rule_broken, set_wall}

module _ (board : Board) (kind : board.kind ≡ Nurikabe) (p : List (Option ℕ))
    (part : IsPartial (question_of Nurikabe board) p) where
  -- one of two parts of the walls
  pub wall_grows : (labels : List (Option ℕ)) → AreComponents (cells board.size) (Touch board.size) (IsSetTo p 1) labels
      → LabelsDiffer labels → (label : ℕ) → IsLabelled labels label label
      → MustGrow board p 1 labels label
  wall_grows labels a (c, d, x, y, hc, hd, ne) label own = λ f s out.
      let wall : (z l : ℕ) → IsLabelled labels z l → IsWall board.size f z = λ z l h.
      set_wall board p f part s z (labelled_member (cells board.size) (Touch board.size) (IsSetTo p 1) labels a z l
      h) in
      elim (cases_eq x label) [
        | inl e ↦ no_rule_broken board f kind s.right N3 (
          label,
          d,
          wall label label own,
          wall d y hd,
          (λ w. out label d own (λ l. ne (e ∙ one_label labels d label y l hd)) w),
        )
        | inr other ↦ no_rule_broken board f kind s.right N3 (
          label,
          c,
          wall label label own,
          wall c x hc,
          (λ w. out label c own
              (λ l. other (one_label labels c x label hc l)) w),
        )
      ]
