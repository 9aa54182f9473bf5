-- What marks, labels and counts say of the rules.
use Rattle.std.proofs.Common.{◌≡◌, ◌≢◌, ℕ, ◌<◌, ◌↔◌, Bool, List, length, Option, Some, sym, ◌∙◌, subst, inl, inr, arith}
use Rattle.std.specs.Prelude.{slice_index, slice_get}
use Rattle.std.proofs.lemmas.Bool.{cases_eq}
use Rattle.hall_grid.specs.declared.board.Size.{Size}
use Rattle.hall_grid.specs.declared.board.Clue.TheVariants.{Number}
use Rattle.hall_grid.specs.Board.{Board, cells, Touch}
use Rattle.hall_grid.specs.Component.{IsLabelled, LabelsDiffer, AreComponents}
use Rattle.hall_grid.specs.Reached.{IsMarked}
use Rattle.hall_grid.specs.RegionLaws.{Touch-turn}
use Rattle.hall_grid.specs.Nurikabe.{IsNumbered, IsWhite, IsWall, InIsland, HasNumberInWall, HasWallsApart}
use Rattle.hall_grid.specs.Nurikabe.{HasIslandWithoutNumber, HasIslandWithTwo, HasIslandOfOtherSize}
use Rattle.hall_grid.proofs.Labelling.{one_label, labelled_below}
use Rattle.hall_grid.proofs.AreComponents.{own_label, labelled_member, walk_from_label, label_from_walk}
use Rattle.hall_nurikabe.specs.Counts.{HasCount, IsCounted, AreCounts, AreCells}
use Rattle.hall_nurikabe.specs.Marks.{IsColoured, MarksWhere}
use Rattle.hall_nurikabe.proofs.HasCount.{same_length, HasCount-same, HasCount-empty, HasCount-some, HasCount-two}
use Rattle.hall_nurikabe.proofs.HasCount.{two_HasCount}

-- the labels are numbers of cells
pub AreCells-from_regions : (n : ℕ) (size : Size) (IsMember : ℕ → Type 0) (labels : List (Option ℕ))
    → AreComponents n (Touch size) IsMember labels
    → AreCells labels
AreCells-from_regions n size IsMember labels a cell label h =
    labelled_below labels label label (own_label n (Touch size) IsMember labels a (Touch-turn size) cell label h)

-- two labels of walls
module _ (size : Size) (f : List ℕ) (labels : List (Option ℕ))
    (a : AreComponents (cells size) (Touch size) (IsWall size f) labels) where
  walls_apart : LabelsDiffer labels → HasWallsApart size f
  walls_apart (c, d, x, y, p, q, ne) = (
    c,
    d,
    labelled_member (cells size) (Touch size) (IsWall size f) labels a c x p,
    labelled_member (cells size) (Touch size) (IsWall size f) labels a d y q,
    (λ w. ne (one_label labels d x y (a.shared c d x w p) q)),
  )

  labels_apart : HasWallsApart size f → LabelsDiffer labels
  labels_apart (c, d, p, q, none) =
      let x = a.labelled c p in
      let y = a.labelled d q in (
        c,
        d,
        x.0,
        y.0,
        x.1,
        y.1,
        (λ e. none (walk_from_label (cells size) (Touch size) (IsWall size f) labels a (Touch-turn size) c d y.0
            (subst (λ l. IsLabelled labels c l) e x.1) y.1)),
      )

  pub apart_are : LabelsDiffer labels ↔ HasWallsApart size f
  apart_are = (walls_apart, labels_apart)

-- the numbers and the sizes of islands
module _ (board : Board) (f : List ℕ) (labels : List (Option ℕ))
    (a : AreComponents (cells board.size) (Touch board.size) (IsWhite board.size f) labels) where
  IsIsland : ℕ → ℕ → Type 0
  IsIsland label cell = IsLabelled labels cell label

  label_low : (cell label : ℕ) → IsLabelled labels cell label → label < length labels
  label_low cell label h = AreCells-from_regions (cells board.size) board.size (IsWhite board.size f) labels a cell
      label h

  white : (cell label : ℕ) → IsLabelled labels cell label → IsWhite board.size f cell
  white cell label h = labelled_member (cells board.size) (Touch board.size) (IsWhite board.size f) labels a cell label
      h

  walk : (c d label : ℕ) → IsLabelled labels c label → IsLabelled labels d label → InIsland board.size f c d
  walk c d label p q = walk_from_label (cells board.size) (Touch board.size) (IsWhite board.size f) labels a
      (Touch-turn board.size) c d label p q

  module _ (marks : List Bool) (numbers : List ℕ) (n : MarksWhere (IsNumbered board) (cells board.size) marks)
      (t : AreCounts labels marks (length labels) numbers) where
    without_number : ((cell label : ℕ) × IsLabelled labels cell label × (slice_index numbers label ≡ 0))
        → HasIslandWithoutNumber board f
    without_number (cell, label, h, e) = (
      cell,
      white cell label h,
      (λ other w numbered.
          let there = a.shared cell other label w h in
          HasCount-empty (IsCounted labels marks (length labels) label) other
          (subst (HasCount (IsCounted labels marks (length labels) label)) e (t.counted label (label_low cell label h)))
          (labelled_below labels other label there, there, (n.marked other).1 numbered)),
    )

    none_counted : HasIslandWithoutNumber board f → (cell label : ℕ) × IsLabelled labels cell label
        × (slice_index numbers label ≡ 0)
    none_counted (cell, is_white, none) =
        let l = a.labelled cell is_white in (
          cell,
          l.0,
          l.1,
          elim (cases_eq (slice_index numbers l.0) 0) [
            | inl e ↦ e
            | inr ne ↦
                let some = HasCount-some (IsCounted labels marks (length labels) l.0) _ (omega arith)
                (t.counted l.0 (label_low cell l.0 l.1)) in
                absurd (none some.0 (walk cell some.0 l.0 l.1 some.1.1) ((n.marked some.0).0 some.1.2))
          ],
        )

    pub without_number_are : ((cell label : ℕ) × IsLabelled labels cell label × (slice_index numbers label ≡ 0))
        ↔ HasIslandWithoutNumber board f
    without_number_are = (without_number, none_counted)

    with_two : ((label : ℕ) × (label < length numbers) × (1 < slice_index numbers label)) → HasIslandWithTwo board f
    with_two (label, low, many) =
        let whole = t.exact in
        let p = HasCount-two (IsCounted labels marks (length labels) label) _ many (t.counted label (omega arith)) in
        (p.0, p.1, p.4, (n.marked p.0).0 p.2.2, (n.marked p.1).0 p.3.2, walk p.0 p.1 label p.2.1 p.3.1)

    two_counted : HasIslandWithTwo board f → (label : ℕ) × (label < length numbers) × (1 < slice_index numbers label)
    two_counted (c, d, ne, p, q, w) =
        let l = label_from_walk (cells board.size) (Touch board.size) (IsWhite board.size f) labels a c d w in
        let low = label_low c l.0 l.1 in
        let whole = t.exact in (
          l.0,
          omega arith,
          two_HasCount (IsCounted labels marks (length labels) l.0) _ c d ne
              (labelled_below labels c l.0 l.1, l.1, (n.marked c).1 p)
              (labelled_below labels d l.0 l.2, l.2, (n.marked d).1 q) (t.counted l.0 low),
        )

    pub with_two_are : ((label : ℕ) × (label < length numbers) × (1 < slice_index numbers label))
        ↔ HasIslandWithTwo board f
    with_two_are = (with_two, two_counted)

  module _ (marks : List Bool) (sizes : List ℕ) (m : (cell : ℕ) → IsWhite board.size f cell → IsMarked marks cell)
      (t : AreCounts labels marks (length labels) sizes) where
    island_is : (cell label : ℕ) → IsLabelled labels cell label → (x : ℕ) → IsCounted labels marks (length labels) label
        x ↔ InIsland board.size f cell x
    island_is cell label h x = (
      (λ k. walk cell x label h k.1),
      (λ w.
          let there = a.shared cell x label w h in
          (labelled_below labels x label there, there, m x (white x label there))),
    )

    other_size : ((cell given label : ℕ) × (slice_get board.clues cell ≡ Some (Number given))
        × IsLabelled labels cell label × (slice_index sizes label ≢ given))
        → HasIslandOfOtherSize board f
    other_size (cell, given, label, clue, h, ne) =
        let c = HasCount-same _ (InIsland board.size f cell) _ (island_is cell label h)
        (t.counted label (label_low cell label h)) in
        (cell, given, c.0, clue, white cell label h, c.1, (λ e. ne (sym c.2 ∙ e)))

    other_count : HasIslandOfOtherSize board f
        → (cell given label : ℕ) × (slice_get board.clues cell ≡ Some (Number given)) × IsLabelled labels cell label
        × (slice_index sizes label ≢ given)
    other_count (cell, given, members, clue, is_white, lists, ne) =
        let l = a.labelled cell is_white in
        let c = t.counted l.0 (label_low cell l.0 l.1) in (
          cell,
          given,
          l.0,
          clue,
          l.1,
          (λ e. ne
              (sym (same_length _ (InIsland board.size f cell) c.0 members (island_is cell l.0 l.1) c.1 lists) ∙ c.2
              ∙ e)),
        )

    pub other_size_are :
        ((cell given label : ℕ) × (slice_get board.clues cell ≡ Some (Number given)) × IsLabelled labels cell label
        × (slice_index sizes label ≢ given))
        ↔ HasIslandOfOtherSize board f
    other_size_are = (other_size, other_count)

-- a number in a wall
pub number_in_wall_are : (board : Board) (f : List ℕ) (numbered walls : List Bool) → length f ≡ cells board.size
    → MarksWhere (IsNumbered board) (cells board.size) numbered → MarksWhere (IsColoured f 1) (length f) walls
    → ((cell : ℕ) × IsMarked numbered cell × IsMarked walls cell) ↔ HasNumberInWall board f
number_in_wall_are board f numbered walls e n w = (
  (λ (c, p, q). (c, (n.marked c).0 p, (let k = (w.marked c).0 q in (let low = k.0 in omega arith, k.1)))),
  (λ (c, p, q). (c, (n.marked c).1 p, (w.marked c).1 (let low = q.0 in omega arith, q.1))),
)
