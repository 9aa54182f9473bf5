-- What regions of a partial filling say of its solutions.
use Rattle.std.proofs.Common.{◌≡◌, ℕ, ◌<◌, List, Option, Some, None, length, get_or, refl, sym, ◌∙◌, subst, inl, inr}
use Rattle.std.proofs.Common.{arith}
use Rattle.std.specs.Prelude.{slice_get}
use Rattle.std.proofs.lemmas.Bool.{cases_eq}
use Rattle.hall_grid.specs.declared.board.Clue.TheVariants.{Number}
use Rattle.hall_grid.specs.declared.board.Size.{Size}
use Rattle.hall_grid.specs.declared.rule.Rule.TheVariants.{N3, N5, N6}
use Rattle.hall_grid.specs.Board.{Board, cells, Touch}
use Rattle.hall_grid.specs.Walk.{Walk, on}
use Rattle.hall_grid.specs.Nurikabe.{IsWhite, IsWall, InIsland}
use Rattle.hall_grid.specs.Component.{IsLabelled, AreComponents, LabelsDiffer}
use Rattle.hall_grid.specs.RegionLaws.{Touch-turn}
use Rattle.hall_grid.proofs.Labelling.{one_label, labelled_below}
use Rattle.hall_grid.proofs.Walks.{Walk-map, Walk-join, Walk-start, Walk-end}
use Rattle.hall_grid.proofs.AreComponents.{labelled_member, walk_from_label}
use Rattle.hall_solve.specs.Question.{IsPartial, IsHopeless, Solves}
use Rattle.hall_solve.specs.Deduction.{HasAlways}
use Rattle.hall_nurikabe.specs.Counts.{HasCount}
use Rattle.hall_grid.specs.declared.board.Kind.TheVariants.{Nurikabe}
use Rattle.hall_solve.specs.Puzzle.{question_of}
use Rattle.hall_nurikabe.specs.Forced.{IsSetTo, IsOpenTo, AreRegions, AreOwners, HaveTwoOwners, IsBeside, AreKept}
use Rattle.hall_nurikabe.proofs.Marks.{numbered_below}
use Rattle.hall_nurikabe.proofs.HasCount.{HasCount-within, HasCount-lacks, not_uncounted}
use Rattle.hall_nurikabe.proofs.Solves.{set_wall, set_white, white_or_wall, wall_or_white, number_is_white}
use Rattle.hall_nurikabe.proofs.Solves.{no_rule_broken}

module _ (board : Board) (kind : board.kind ≡ Nurikabe) (p : List (Option ℕ))
    (part : IsPartial (question_of Nurikabe board) p) where
  -- what is white in a solution isn't set to wall, and the other way round
  pub open_white : (f : List ℕ) → Solves (question_of Nurikabe board) p f → (x : ℕ) → IsWhite board.size f x
      → IsOpenTo p 1 x
  open_white f s x w = (
    let low = w.0 in let size = part.size in omega arith,
    λ h. let one = s.extends x 1 h in
        let none = w.1 in omega arith,
  )

  open_wall : (f : List ℕ) → Solves (question_of Nurikabe board) p f → (x : ℕ) → IsWall board.size f x → IsOpenTo p 0 x
  open_wall f s x w = (
    let low = w.0 in let size = part.size in omega arith,
    λ h. let none = s.extends x 0 h in
        let one = w.1 in omega arith,
  )

  -- walls that no walk over cells that may be wall joins
  pub apart_hopeless : (labels walls : List (Option ℕ)) → AreComponents (cells board.size) (Touch board.size)
      (IsOpenTo p 0) labels
      → AreKept p 1 labels walls → LabelsDiffer walls → IsHopeless (question_of Nurikabe board) p
  apart_hopeless labels walls a kept (c, d, x, y, at_c, at_d, ne) = λ f s.
      let (lc, pc) = (kept.kept c x).0 at_c in
      let (ld, pd) = (kept.kept d y).0 at_d in
      no_rule_broken board f kind s.right N3 (
        c,
        d,
        set_wall board p f part s c pc,
        set_wall board p f part s d pd,
        (λ w.
            let v = Walk-map (Touch board.size) (Touch board.size) (IsWall board.size f) (IsOpenTo p 0) (open_wall f s)
            (λ _ _ _ _ n. n) c d w in
            ne (one_label labels d x y (a.shared c d x v lc) ld)),
      )

  pub white_walk : (f : List ℕ) → Solves (question_of Nurikabe board) p f → (c d : ℕ)
      → Walk (Touch board.size) (IsSetTo p 0) c d → InIsland board.size f c d
  white_walk f s c d w =
      Walk-map (Touch board.size) (Touch board.size) (IsSetTo p 0) (IsWhite board.size f) (set_white board p f part s)
      (λ _ _ _ _ n. n) c d w

  -- the white cells of one group
  module _ (labels : List (Option ℕ)) (a : AreComponents (cells board.size) (Touch board.size) (IsSetTo p 0) labels)
    where
      pub island : (f : List ℕ) → Solves (question_of Nurikabe board) p f → (c d label : ℕ) → IsLabelled labels c label
          → IsLabelled labels d label → InIsland board.size f c d
      island f s c d label h k =
          white_walk f s c d (walk_from_label (cells board.size) (Touch board.size) (IsSetTo p 0) labels a
          (Touch-turn board.size) c d label h k)

      -- two numbers in one group
      pub two_hopeless : HaveTwoOwners board labels → IsHopeless (question_of Nurikabe board) p
      two_hopeless (c, d, label, ne, nc, nd, lc, ld) = λ f s. no_rule_broken board f kind s.right N5
          (c, d, ne, nc, nd, island f s c d label lc ld)

  -- the island of a known number has that many cells
  module _ (whole : length board.clues ≡ cells board.size) (cell given : ℕ)
      (clue : slice_get board.clues cell ≡ Some (Number given)) where
    white : (f : List ℕ) → Solves (question_of Nurikabe board) p f → IsWhite board.size f cell
    white f s = (
      (let low = numbered_below board cell (inl (given, clue)) in omega arith),
      number_is_white board kind f cell whole s.filling s.right (inl (given, clue)),
    )

    count_is : (f : List ℕ) (m : ℕ) → Solves (question_of Nurikabe board) p f → HasCount (InIsland board.size f cell) m
        → m ≡ given
    count_is f m s (xs, lists, e) = elim (cases_eq (length xs) given) [
      | inl same ↦ sym e ∙ same
      | inr ne ↦ absurd (no_rule_broken board f kind s.right N6 (cell, given, xs, clue, white f s, lists, ne))
    ]

    pub counted : (f : List ℕ) → Solves (question_of Nurikabe board) p f
        → (HasCount (InIsland board.size f cell) given → ⊥) → ⊥
    counted f s none =
        not_uncounted (InIsland board.size f cell) (cells board.size)
        (λ x w. (Walk-end (Touch board.size) (IsWhite board.size f) cell x w).0)
        (λ m c. none (subst (HasCount (InIsland board.size f cell)) (count_is f m s c) c))

    -- the cells that a known number reaches without wall
    module _ (labels : List (Option ℕ)) (sizes : List ℕ) (r : AreRegions board.size (IsOpenTo p 1) labels sizes)
        (label : ℕ) (here : IsLabelled labels cell label) where
      in_reach : (f : List ℕ) → Solves (question_of Nurikabe board) p f → (x : ℕ) → InIsland board.size f cell x
          → IsLabelled labels x label
      in_reach f s x w =
          r.components.shared cell x label
          (Walk-map (Touch board.size) (Touch board.size) (IsWhite board.size f) (IsOpenTo p 1) (open_white f s)
          (λ _ _ _ _ n. n) cell x w) here

      reach_count : HasCount (λ x. IsLabelled labels x label) (get_or sizes label 0)
      reach_count =
          let m = Walk-start (Touch board.size) (IsOpenTo p 1) label cell (r.components.joined cell label here) in
          r.counted label (let size = part.size in let low = m.0 in omega arith)

      pub small_hopeless : get_or sizes label 0 < given → IsHopeless (question_of Nurikabe board) p
      small_hopeless few = λ f s. counted f s (λ c.
          let k = HasCount-within (InIsland board.size f cell) (λ x. IsLabelled labels x label) given _ (in_reach f s) c
          reach_count in omega arith)

      pub tight_forced : get_or sizes label 0 ≡ given → (x : ℕ) → IsLabelled labels x label
          → HasAlways (question_of Nurikabe board) p x 0
      tight_forced tight x h = λ f s.
          let low = labelled_below labels x label h in
          let e = r.components.exact in
          white_or_wall board f x s.filling (omega arith) (λ wall. counted f s (λ c.
          let k = HasCount-lacks (InIsland board.size f cell) (λ x. IsLabelled labels x label) given _ x (in_reach f s)
          h
          (λ w. let v = (Walk-end (Touch board.size) (IsWhite board.size f) cell x w).1 in let one = wall.1 in absurd
          (omega arith)) c reach_count in
          omega arith))
