-- Chains that are loops, and a side that would close one.
use Rattle.std.proofs.Common.{◌≡◌, ◌≢◌, ℕ, ◌+◌, ◌<◌, ◌≤◌, ◌⊎◌, ◌∙◌, Bool, true, false, List, length, get_or, set}
use Rattle.std.proofs.Common.{Option, Some, None, refl, sym, ap, subst, inl, inr, arith}
use Rattle.std.specs.Prelude.{slice_index, count_by, is_some}
use Rattle.std.proofs.lemmas.Bool.{cases_eq, eq-eqb, ne_eqb}
use Rattle.std.proofs.lemmas.Nat.{div_below, mod_below, mul-add-lt}
use Rattle.std.proofs.lemmas.Option.{slice_get_within}
use Rattle.std.proofs.lemmas.List.{get_or-set_same, get_or-set_other}
use Rattle.hall_grid.specs.declared.board.Size.{Size}
use Rattle.hall_grid.specs.declared.board.Kind.TheVariants.{Slither}
use Rattle.hall_grid.specs.declared.rule.Rule.TheVariants.{S5}
use Rattle.hall_grid.specs.Board.{Board, IsBoard, IsSize, HasSize, cells, row, col}
use Rattle.hall_grid.specs.Walk.{at, on}
use Rattle.hall_grid.specs.Slither.{dots, all_sides, flat_side, upright_side, sides_of, is_line, is_end, IsLine}
use Rattle.hall_grid.specs.Slither.{ShareDot, degree, HasOtherCount}
use Rattle.hall_grid.specs.Component.{IsLabelled, LabelsDiffer}
use Rattle.hall_grid.proofs.Walks.{Walk-along}
use Rattle.hall_grid.proofs.AreComponents.{labelled_member}
use Rattle.hall_solve.specs.Puzzle.{IsRight}
use Rattle.hall_solve.specs.Question.{Solves, IsHopeless, IsOpen}
use Rattle.hall_solve.specs.Deduction.{IsForced}
use Rattle.hall_slither.specs.Chain.{IsEndOf, Touches}
use Rattle.hall_slither.specs.declared.chain.Ends.TheVariants.{Closed, Two}
use Rattle.hall_slither.specs.Close.{Layout, IsLayout, IsClosed, HasWrongLoop, layout_question, Closes}
use Rattle.hall_slither.proofs.CountBelow.{worth, count_by-numbers, count_below-le, count_below-two, count_below-full}
use Rattle.hall_slither.proofs.SidesBeside.{first_end, second_end, is_end_cases, is_end_first, is_end_second}
use Rattle.hall_slither.proofs.Demand.{keeps_rules, passes, counts}
use Rattle.hall_slither.proofs.LineEnd.{line_end, line_end_from, line_end_parts, end_below}

-- f: a solution. k: some of its lines
module _ (board : Board) (f k : List ℕ) (kind : board.kind ≡ Slither) (some : 0 < board.size.cols)
    (right : IsRight board f)
    (sub : (s : ℕ) → IsLine board.size k s → IsLine board.size f s) where
  sub_end : (d s : ℕ) → s < all_sides board.size → line_end board.size k d s ≡ true → line_end board.size f d s ≡ true
  sub_end d s low e = let p = line_end_parts board.size k d s e in line_end_from board.size f d s (sub s (low, p.0)).1
      p.1

  -- where k has two lines at a dot, the solution has no other there
  pub no_further : (d y : ℕ) → d < dots board.size → 2 ≤ degree board.size k d → IsLine board.size f y
      → is_end board.size d y ≡ true → IsLine board.size k y
  no_further d y low two line at_dot =
      let n = all_sides board.size in
      let a = count_by-numbers (line_end board.size k d) n in
      let b = count_by-numbers (line_end board.size f d) n in
      let most : degree board.size f d ≤ 2 = elim (passes board f d kind some right low)
      [ inl h ↦ omega arith | inr h ↦ omega arith ] in
      let there = count_below-full (line_end board.size k d) (line_end board.size f d) n y (sub_end d) (omega arith)
      line.0 (line_end_from board.size f d y line.1 at_dot) in
      (line.0, (line_end_parts board.size k d y there).0)

  -- C: sides that lines of k don't leave, with two lines of k at each of their dots
  pub all_within : (C : ℕ → Type 0) → ((x : ℕ) → C x → x < all_sides board.size) → ((y : ℕ) → C y ⊎ (C y → ⊥))
      → ((x d : ℕ) → C x → is_end board.size d x ≡ true → 2 ≤ degree board.size k d)
      → ((x y d : ℕ) → C x → is_end board.size d x ≡ true → is_end board.size d y ≡ true → IsLine board.size k y → C y)
      → (x0 : ℕ) → C x0 → IsLine board.size f x0 → (y : ℕ) → IsLine board.size f y → C y
  all_within C below decide two turn x0 here line0 y line =
      elim (decide y) [
        | inl h ↦ h
        | inr out ↦ absurd (keeps_rules board f kind right S5 (
          x0,
          y,
          line0,
          line,
          λ w. out (Walk-along (ShareDot board.size) (IsLine board.size f) C
              (λ b c has share member.
              turn b c share.0 has share.1 share.2
              (no_further share.0 c (end_below board.size share.0 b some (below b has) share.1)
              (two b share.0 has share.1) member share.2))
              x0 y here w),
        ))
      ]

pub size_of_board : (board : Board) → board.kind ≡ Slither → IsBoard board → IsSize board.size
size_of_board board kind is = subst (λ k. HasSize k board.size) kind is.size

-- the four sides of a cell are on the board
sides_on_board : (size : Size) (cell : ℕ) → 0 < size.cols → cell < cells size → (P : ℕ → Type 0)
    → ((s : ℕ) → s < all_sides size → P s)
    → P (flat_side size (row size cell) (col size cell)) × P (upright_side size (row size cell) (col size cell))
    × P (upright_side size (row size cell) (col size cell + 1)) × P (flat_side size (row size cell + 1) (col size cell))
sides_on_board size cell some low P h =
    let r = div_below cell size.cols size.rows some low in
    let c = mod_below cell size.cols some in
    let top = mul-add-lt (row size cell) size.cols (col size cell) (size.rows + 1) (omega arith) c in
    let left = mul-add-lt (row size cell) (size.cols + 1) (col size cell) size.rows r (omega arith) in
    let right = mul-add-lt (row size cell) (size.cols + 1) (col size cell + 1) size.rows r (omega arith) in
    let bottom = mul-add-lt (row size cell + 1) size.cols (col size cell) (size.rows + 1) (omega arith) c in
    (h _ (omega arith), h _ (omega arith), h _ (omega arith), h _ (omega arith))

-- tests that agree on the board count the same round a cell
same_count : (size : Size) (p q : ℕ → Bool) (cell : ℕ) → 0 < size.cols → cell < cells size
    → ((s : ℕ) → s < all_sides size → p s ≡ q s)
    → count_by p (sides_of size cell) ≡ count_by q (sides_of size cell)
same_count size p q cell some low same =
    let e = sides_on_board size cell some low (λ s. worth (p s) ≡ worth (q s)) (λ s l. ap worth (same s l)) in
    let e0 = e.0 in let e1 = e.1 in let e2 = e.2 in let e3 = e.3 in
    omega arith

labelled_or : (v : Option ℕ) (label : ℕ) → (v ≡ Some label) ⊎ (v ≡ Some label → ⊥)
labelled_or None label = inr (λ e. cc)
labelled_or (Some l) label = elim (cases_eq l label) [ inl e ↦ inl (ap Some e) | inr ne ↦ inr (λ e. ne (cc)) ]

-- f: a solution. g: the same lines
module _ (board : Board) (f g : List ℕ) (kind : board.kind ≡ Slither) (is : IsBoard board) (right : IsRight board f)
    (to : (y : ℕ) → IsLine board.size f y → slice_index g y ≡ 1)
    (from : (y : ℕ) → IsLine board.size g y → IsLine board.size f y) where
  same_line : (y : ℕ) → y < all_sides board.size → is_line f y ≡ is_line g y
  same_line y low = elim (cases_eq (slice_index f y) 1) [
    | inl e ↦ eq-eqb (slice_index f y) 1 e ∙ sym (eq-eqb (slice_index g y) 1 (to y (low, e)))
    | inr ne ↦ elim (cases_eq (slice_index g y) 1) [
      | inl e ↦ absurd (ne (from y (low, e)).1)
      | inr ns ↦ ne_eqb (slice_index f y) 1 ne ∙ sym (ne_eqb (slice_index g y) 1 ns)
    ]
  ]

  pub same_lines_meet : HasOtherCount board g → ⊥
  same_lines_meet other =
      let low_cell : other.0 < cells board.size =
      (let k = slice_get_within board.clues other.0 _ other.2 in let e = is.clues in omega arith) in
      let same = same_count board.size (is_line f) (is_line g) other.0 (size_of_board board kind is).some_cols low_cell
      same_line in
      other.3 (sym same ∙ counts board f other.0 other.1 kind right other.2)

module _ (layout : Layout) (is : IsLayout layout) (p : List (Option ℕ)) (f : List ℕ)
    (sol : Solves (layout_question layout) p f) where
  some_cols : 0 < layout.board.size.cols
  some_cols = (size_of_board layout.board is.kind is.board).some_cols

  member : (side label : ℕ) → IsLabelled layout.labels side label → IsLine layout.board.size layout.lines side
  member side label h = labelled_member (all_sides layout.board.size) (ShareDot layout.board.size)
      (IsLine layout.board.size layout.lines) layout.labels is.components side label h

  solution_line : (side : ℕ) → IsLine layout.board.size layout.lines side → IsLine layout.board.size f side
  solution_line side h = (h.0, sol.right.1 side h.1)

  -- a line at a dot of a labelled line has its label
  same_label : (x y d label : ℕ) → IsLabelled layout.labels x label → is_end layout.board.size d x ≡ true
      → is_end layout.board.size d y ≡ true
      → IsLine layout.board.size layout.lines y → IsLabelled layout.labels y label
  same_label x y d label h ex ey line = is.components.shared x y label (on (at (member x label h)) (d, ex, ey) line) h

  -- beside a loop a solution has no line
  pub loop_is_all : (label : ℕ) → IsClosed layout.labels layout.ends label → (y : ℕ) → IsLine layout.board.size f y
      → IsLabelled layout.labels y label
  loop_is_all label closed =
      all_within layout.board f layout.lines is.kind some_cols sol.right.0 solution_line
      (λ y. IsLabelled layout.labels y label)
      (λ x h. (member x label h).0)
      (λ y. labelled_or (get_or layout.labels y None) label)
      (λ x d h e. elim (is.ends.loose label d (end_below layout.board.size d x some_cols (member x label h).0 e)
      (x, h, e)) [
        | inl two ↦ two
        | inr end ↦ absurd (subst (λ ends. IsEndOf ends d) closed.1 end)
      ])
      (λ x y d h ex ey line. same_label x y d label h ex ey line)
      label closed.0 (solution_line label (member label label closed.0))

  pub beside_loop : (label side : ℕ) → IsClosed layout.labels layout.ends label → slice_index layout.lines side ≢ 1
      → side < all_sides layout.board.size → slice_index f side ≡ 1 → ⊥
  beside_loop label side closed off low line = off (member side label (loop_is_all label closed side (low, line))).1

  pub loop_is_alone : (label : ℕ) → IsClosed layout.labels layout.ends label → LabelsDiffer layout.labels → ⊥
  loop_is_alone label closed differ =
      let one = loop_is_all label closed differ.0 (solution_line differ.0 (member differ.0 differ.2 differ.4)) in
      let two = loop_is_all label closed differ.1 (solution_line differ.1 (member differ.1 differ.3 differ.5)) in
      differ.6 (let e = differ.4 in let g = differ.5 in cc)

  pub loop_meets : (label : ℕ) → IsClosed layout.labels layout.ends label → HasOtherCount layout.board layout.lines → ⊥
  loop_meets label closed =
      same_lines_meet layout.board f layout.lines is.kind is.board sol.right.0
      (λ y line. (member y label (loop_is_all label closed y line)).1) solution_line

  -- a side that joins the ends a and b of a chain, and is a line of the solution
  module _ (side label a b : ℕ) (low : side < all_sides layout.board.size) (off : slice_index layout.lines side ≢ 1)
      (line : slice_index f side ≡ 1)
      (ends_are : get_or layout.ends label Closed ≡ Two a b) (at_a : is_end layout.board.size a side ≡ true)
      (at_b : is_end layout.board.size b side ≡ true)
      (no_other : (d : ℕ) → is_end layout.board.size d side ≡ true → (d ≡ a) ⊎ (d ≡ b)) where
    with_side : List ℕ
    with_side = set layout.lines side 1

    room : side < length layout.lines
    room = let e = is.exact in omega arith

    now_line : slice_index with_side side ≡ 1
    unfolding with_side
    now_line = get_or-set_same layout.lines side 1 0 room

    kept_line : (y : ℕ) → slice_index layout.lines y ≡ 1 → slice_index with_side y ≡ 1
    unfolding with_side
    kept_line y h = elim (cases_eq y side) [
      | inl e ↦ absurd (off (subst (λ y. slice_index layout.lines y ≡ 1) e h))
      | inr ne ↦ get_or-set_other layout.lines side y 1 0 ne ∙ h
    ]

    split_line : (y : ℕ) → slice_index with_side y ≡ 1 → (y ≡ side) ⊎ (slice_index layout.lines y ≡ 1)
    unfolding with_side
    split_line y h = elim (cases_eq y side) [
      | inl e ↦ inl e
      | inr ne ↦ inr
          (sym (get_or-set_other layout.lines side y 1 0 ne) ∙ h)
    ]

    -- the side and the chain's lines
    InLoop : ℕ → Type 0
    InLoop y = IsLabelled layout.labels y label ⊎ (y ≡ side)

    touch : (d : ℕ) → is_end layout.board.size d side ≡ true → Touches layout.board.size layout.labels label d
    touch d e = let t = is.ends.both label a b ends_are in elim (no_other d e) [
      | inl k ↦ subst (Touches layout.board.size layout.labels label) (sym k) t.0
      | inr k ↦ subst (Touches layout.board.size layout.labels label) (sym k) t.1
    ]

    two_with : (d x : ℕ) → IsLabelled layout.labels x label → is_end layout.board.size d x ≡ true
        → is_end layout.board.size d side ≡ true
        → 2 ≤ degree layout.board.size with_side d
    two_with d x h ex es =
        let m = member x label h in
        let e = count_by-numbers (line_end layout.board.size with_side d) (all_sides layout.board.size) in
        let two = count_below-two (line_end layout.board.size with_side d) (all_sides layout.board.size) x side m.0 low
        (λ same. off (subst (λ y. slice_index layout.lines y ≡ 1) same m.1))
        (line_end_from layout.board.size with_side d x (kept_line x m.1) ex)
        (line_end_from layout.board.size with_side d side now_line es) in
        omega arith

    more_with : (d : ℕ) → 2 ≤ degree layout.board.size layout.lines d → 2 ≤ degree layout.board.size with_side d
    more_with d two =
        let e = count_by-numbers (line_end layout.board.size with_side d) (all_sides layout.board.size) in
        let g = count_by-numbers (line_end layout.board.size layout.lines d) (all_sides layout.board.size) in
        let le = count_below-le (line_end layout.board.size layout.lines d) (line_end layout.board.size with_side d)
        (all_sides layout.board.size)
        (λ s l t. let parts = line_end_parts layout.board.size layout.lines d s t in
        line_end_from layout.board.size with_side d s (kept_line s parts.0) parts.1) in
        omega arith

    two_at : (x d : ℕ) → InLoop x → is_end layout.board.size d x ≡ true → 2 ≤ degree layout.board.size with_side d
    unfolding InLoop
    two_at x d h e = elim h [
      | inl l ↦ elim (is.ends.loose label d (end_below layout.board.size d x some_cols (member x label l).0 e)
          (x, l, e)) [
            | inl two ↦ more_with d two
            | inr end ↦ two_with d x l e (elim (subst (λ ends. IsEndOf ends d) ends_are end) [
              | inl k ↦ subst (λ d. is_end layout.board.size d side ≡ true) (sym k) at_a
              | inr k ↦ subst (λ d. is_end layout.board.size d side ≡ true) (sym k) at_b
            ])
          ]
      | inr same ↦
          let es = subst (λ x. is_end layout.board.size d x ≡ true) same e in
          let t = touch d es in
          two_with d t.0 t.1 t.2 es
    ]

    turn_at : (x y d : ℕ) → InLoop x → is_end layout.board.size d x ≡ true → is_end layout.board.size d y ≡ true
        → IsLine layout.board.size with_side y → InLoop y
    unfolding InLoop
    turn_at x y d h ex ey l = elim (split_line y l.1) [
      | inl same ↦ inr same
      | inr old ↦ elim h [
        | inl k ↦ inl (same_label x y d label k ex ey (l.0, old))
        | inr same ↦
            let t = touch d (subst (λ x. is_end layout.board.size d x ≡ true) same ex) in
            inl (same_label t.0 y d label t.1 t.2 ey (l.0, old))
      ]
    ]

    sub_with : (y : ℕ) → IsLine layout.board.size with_side y → IsLine layout.board.size f y
    sub_with y l = elim (split_line y l.1) [
      | inl same ↦ (l.0, subst (λ y. slice_index f y ≡ 1) (sym same) line)
      | inr old ↦ solution_line y (l.0, old)
    ]

    in_loop_below : (x : ℕ) → InLoop x → x < all_sides layout.board.size
    unfolding InLoop
    in_loop_below x h = elim h [
      | inl l ↦ (member x label l).0
      | inr e ↦ subst (λ x. x < all_sides layout.board.size)
          (sym e) low
    ]

    in_loop_or : (y : ℕ) → InLoop y ⊎ (InLoop y → ⊥)
    unfolding InLoop
    in_loop_or y = elim (labelled_or (get_or layout.labels y None) label) [
      | inl h ↦ inl (inl h)
      | inr out ↦ elim (cases_eq y side) [
        | inl e ↦ inl (inr e)
        | inr ne ↦ inr (λ h. elim h [ inl l ↦ out l | inr e ↦ ne e ])
      ]
    ]

    start_in : InLoop side
    unfolding InLoop
    start_in = inr refl

    -- the closed loop has all lines of the solution
    all_in_loop : (y : ℕ) → IsLine layout.board.size f y → InLoop y
    all_in_loop = all_within layout.board f with_side is.kind some_cols sol.right.0 sub_with InLoop in_loop_below
        in_loop_or two_at turn_at side start_in (low, line)

    labelled_so : (x l : ℕ) → IsLabelled layout.labels x l → l ≡ label
    unfolding InLoop
    labelled_so x l h = elim (all_in_loop x (solution_line x (member x l h))) [
      | inl k ↦ (cc)
      | inr same ↦ absurd (off (subst (λ y. slice_index layout.lines y ≡ 1) same (member x l h).1))
    ]

    pub not_apart : LabelsDiffer layout.labels → ⊥
    not_apart differ = differ.6 (labelled_so differ.0 differ.2 differ.4 ∙ sym (labelled_so differ.1 differ.3 differ.5))

    -- so it meets all numbers
    line_with : (y : ℕ) → IsLine layout.board.size f y → slice_index with_side y ≡ 1
    unfolding InLoop
    line_with y l = elim (all_in_loop y l) [
      | inl h ↦ kept_line y (member y label h).1
      | inr e ↦ subst (λ y. slice_index with_side y ≡ 1) (sym e) now_line
    ]

    pub meets_numbers : HasOtherCount layout.board (set layout.lines side 1) → ⊥
    unfolding with_side
    meets_numbers = same_lines_meet layout.board f with_side is.kind is.board sol.right.0 line_with sub_with

pub not_one : (n : ℕ) → n < 2 → (n ≡ 1 → ⊥) → n ≡ 0
not_one n small ne = elim (cases_eq n 1) [ inl e ↦ absurd (ne e) | inr h ↦ omega arith ]

module _ (layout : Layout) (is : IsLayout layout) (p : List (Option ℕ)) where
  -- a loop beside another chain, or with another count than a number's
  pub hopeless_loop : HasWrongLoop layout → IsHopeless (layout_question layout) p
  hopeless_loop wrong f sol = elim wrong.1 [
    | inl differ ↦ loop_is_alone layout is p f sol wrong.0.0 wrong.0.1 differ
    | inr other ↦ loop_meets layout is p f sol wrong.0.0 wrong.0.1 other
  ]

  forced_off : (side : ℕ) → IsOpen p side → side < all_sides layout.board.size
      → ((f : List ℕ) → Solves (layout_question layout) p f → slice_index f side ≡ 1 → ⊥)
      → IsForced (layout_question layout) p side 0
  forced_off side unset low off = record {
    unset = unset;
    in_range = omega arith;
    forced = λ f sol. not_one (slice_index f side) (sol.filling.in_range side low) (off f sol);
  }

  pub forced_beside : (label side : ℕ) → IsClosed layout.labels layout.ends label → IsOpen p side
      → side < all_sides layout.board.size → slice_index layout.lines side ≢ 1
      → IsForced (layout_question layout) p side 0
  forced_beside label side closed unset low off =
      forced_off side unset low (λ f sol. beside_loop layout is p f sol label side closed off low)

  -- a side that would close a loop too early
  pub forced_closing : (side : ℕ) → Closes layout side → IsOpen p side → side < all_sides layout.board.size
      → slice_index layout.lines side ≢ 1
      → LabelsDiffer layout.labels ⊎ HasOtherCount layout.board (set layout.lines side 1)
      → IsForced (layout_question layout) p side 0
  forced_closing side closes unset low off wrong =
      let size = layout.board.size in
      let a = first_end size side in
      let b = second_end size side in
      let cases : (d : ℕ) → is_end size d side ≡ true → (d ≡ a) ⊎ (d ≡ b) =
      λ d e. elim (is_end_cases size d side e) [ inl k ↦ inl (sym k) | inr k ↦ inr (sym k) ] in
      let turned : (d : ℕ) → is_end size d side ≡ true → (d ≡ b) ⊎ (d ≡ a) =
      λ d e. elim (is_end_cases size d side e) [ inl k ↦ inr (sym k) | inr k ↦ inl (sym k) ] in
      forced_off side unset low
      (λ f sol line. elim closes.1 [
        | inl ends ↦ elim wrong [
          | inl differ ↦ not_apart layout is p f sol side closes.0 a b low off line ends (is_end_first size side)
              (is_end_second size side) cases differ
          | inr other ↦ meets_numbers layout is p f sol side closes.0 a b low off line ends (is_end_first size side)
              (is_end_second size side) cases other
        ]
        | inr ends ↦ elim wrong [
          | inl differ ↦ not_apart layout is p f sol side closes.0 b a low off line ends (is_end_second size side)
              (is_end_first size side) turned differ
          | inr other ↦ meets_numbers layout is p f sol side closes.0 b a low off line ends (is_end_second size side)
              (is_end_first size side) turned other
        ]
      ])

pub none_from : (o : Option ℕ) → is_some o ≡ false → o ≡ None
none_from None e = refl
none_from (Some n) e = absurd (cc)
