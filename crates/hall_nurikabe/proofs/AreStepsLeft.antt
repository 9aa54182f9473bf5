-- A cell that no number reaches is wall in each solution.
use Rattle.std.proofs.Common.{◌≡◌, ℕ, zero, suc, ◌+◌, ◌-◌, ◌<◌, ◌≤◌, ◌⊎◌, List, Option, Some, None, length, get_or}
use Rattle.std.proofs.Common.{refl, sym, ◌∙◌, subst, inl, inr, arith}
use Rattle.std.specs.Prelude.{slice_get}
use Rattle.std.proofs.lemmas.Bool.{cases_lt, cases_eq}
use Rattle.hall_grid.specs.declared.board.Clue.{Clue}
use Rattle.hall_grid.specs.declared.board.Clue.TheVariants.{Unknown, Number, Blank}
use Rattle.hall_grid.specs.declared.board.Size.{Size}
use Rattle.hall_grid.specs.declared.rule.Rule.TheVariants.{N4, N5}
use Rattle.hall_grid.specs.Board.{Board, cells, Touch}
use Rattle.hall_grid.specs.Walk.{Walk, at, on}
use Rattle.hall_grid.specs.Nurikabe.{IsWhite, IsNumbered, InIsland}
use Rattle.hall_grid.specs.Component.{IsLabelled}
use Rattle.hall_grid.specs.RegionLaws.{Touch-turn}
use Rattle.hall_grid.proofs.Labelling.{one_label}
use Rattle.hall_grid.proofs.Walks.{Walk-reverse, Walk-join, Walk-start, Walk-end}
use Rattle.hall_grid.proofs.AreComponents.{labelled_member}
use Rattle.hall_solve.specs.Question.{IsPartial, Solves}
use Rattle.hall_solve.specs.Deduction.{HasAlways}
use Rattle.hall_nurikabe.specs.Counts.{HasCount}
use Rattle.hall_grid.specs.declared.board.Kind.TheVariants.{Nurikabe}
use Rattle.hall_solve.specs.Puzzle.{question_of}
use Rattle.hall_nurikabe.specs.Forced.{IsSetTo, AreRegions, AreOwners}
use Rattle.hall_nurikabe.specs.Steps.{IsMost, AreStepsLeft}
use Rattle.hall_nurikabe.proofs.AreBroken.{AreCells-from_regions}
use Rattle.hall_nurikabe.proofs.HasCount.{HasCount-none, HasCount-more, HasCount-within, HasCount-lacks, HasCount-bound}
use Rattle.hall_nurikabe.proofs.HasCount.{HasCount-empty, not_uncounted}
use Rattle.hall_nurikabe.proofs.Solves.{no_rule_broken, wall_or_white, set_white}
use Rattle.hall_nurikabe.proofs.HasAlways.{open_white, counted, island}

-- a group of so many cells in a region, each with more left than the group may get till it has the most cells, where
-- what is left falls by one at most with each step
module _ (size : Size) (IsMember IsGroup : ℕ → Type 0) (left : List ℕ) (c g n : ℕ) (group : HasCount IsGroup g)
    (within : (y : ℕ) → IsGroup y → Walk (Touch size) IsMember c y × (n < get_or left y 0 + g))
    (begin : n < get_or left c 0 + g)
    (falls : (a b v : ℕ) → Walk (Touch size) IsMember c a → Touch size a b → IsMember b → v + g ≤ n
    → v < get_or left a 0 → v ≤ get_or left b 0) where
  -- on a walk each value between those of its ends is taken
  taken : (d x v : ℕ) → d ≡ c → Walk (Touch size) IsMember d x → v + g ≤ n → get_or left x 0 ≤ v → (y : ℕ)
      × Walk (Touch size) IsMember c y × (get_or left y 0 ≡ v)
  taken d x v e (at m) room low = absurd (let high = subst (λ z. n < get_or left z 0 + g) (sym e) begin in omega arith)
  taken d x v e (on {b = b} w t k) room low =
      elim (cases_lt v (get_or left b 0)) [
        | inr more ↦ taken d b v e w room more
        | inl less ↦ (
            let before = subst (λ z. Walk (Touch size) IsMember z b) e w in
            let high = falls b x v before t k room less in
            (x, on before t k, omega arith))
      ]

  module _ (x : ℕ) (w : Walk (Touch size) IsMember c x) (none : get_or left x 0 ≡ 0) (end : ℕ)
      (low : (y : ℕ) → IsMember y → y < end) where
    -- the group, and the cells of the region that have at most so much left
    abbrev IsPart : ℕ → ℕ → Type 0
    IsPart v y = IsGroup y ⊎ (Walk (Touch size) IsMember c y × (get_or left y 0 ≤ v))

    part_walk : (v y : ℕ) → IsPart v y → Walk (Touch size) IsMember c y
    part_walk v y (inl i) = (within y i).0
    part_walk v y (inr j) = j.0

    -- are more than the group and that
    many : (v m : ℕ) → v + g ≤ n → HasCount (IsPart v) m → v + g < m
    many zero m room count =
        let k = HasCount-lacks IsGroup (IsPart 0) g m x (λ y h. inl h) (inr (w, omega arith))
        (λ h. let far = (within x h).1 in absurd (omega arith)) group count in
        omega arith
    many (suc v) m room count =
        let there = taken c x (suc v) refl w room (omega arith) in
        elim (cases_lt (suc v + g) m) [
          | inl more ↦ more
          | inr few ↦ absurd (not_uncounted (IsPart v) end (λ y h. low y
              (Walk-end (Touch size) IsMember c y (part_walk v y h))) (λ k fewer.
              let before = many v k (omega arith) fewer in
              let more = HasCount-lacks (IsPart v) (IsPart (suc v)) k m there.0
              (λ y h. elim h [ inl i ↦ inl i | inr j ↦ inr (j.0, let l = j.1 in omega arith) ])
              (inr (there.1, let e = there.2 in omega arith))
              (λ h. elim h [
                | inl i ↦ let far = (within there.0 i).1 in let e = there.2 in absurd (omega arith)
                | inr j ↦ let l = j.1 in let e = there.2 in absurd (omega arith)
              ]) fewer count in
              omega arith))
        ]

    -- so the region has more cells than the most
    pub more_cells : (m : ℕ) → HasCount (Walk (Touch size) IsMember c) m → n < m
    more_cells m count = elim (cases_lt n m) [
      | inl more ↦ more
      | inr few ↦ elim (cases_lt n g) [
        | inl small ↦ absurd (let k = HasCount-within IsGroup (Walk (Touch size) IsMember c) g m (λ y h. (within y h).0)
            group count in omega arith)
        | inr fits ↦ absurd (not_uncounted (IsPart (n - g)) end
            (λ y h. low y (Walk-end (Touch size) IsMember c y (part_walk (n - g) y h))) (λ k part.
            let p = many (n - g) k (omega arith) part in
            let q = HasCount-within (IsPart (n - g)) (Walk (Touch size) IsMember c) k m (part_walk (n - g)) part
            count in
            omega arith))
      ]
    ]

-- a cell has a number or none
numbered_or_not : (board : Board) (cell : ℕ) → IsNumbered board cell ⊎ (IsNumbered board cell → ⊥)
numbered_or_not board cell = decide (slice_get board.clues cell) refl
  where
    decide : (o : Option Clue) → slice_get board.clues cell ≡ o → IsNumbered board cell ⊎ (IsNumbered board cell → ⊥)
    decide None e = inr (λ h. elim h [
      | inl (n, k) ↦ (let x : None ≡ Some (Number n) = sym e ∙ k in cc)
      | inr k ↦ (let x : None ≡ Some Unknown = sym e ∙ k in cc)
    ])
    decide (Some Blank) e = inr (λ h. elim h [
      | inl (n, k) ↦ (let x : Some Blank ≡ Some (Number n) = sym e ∙ k in cc)
      | inr k ↦ (let x : Some Blank ≡ Some Unknown = sym e ∙ k in cc)
    ])
    decide (Some Unknown) e = inl (inr e)
    decide (Some (Number n)) e = inl (inl (n, e))

module _ (board : Board) (kind : board.kind ≡ Nurikabe) (p : List (Option ℕ))
    (part : IsPartial (question_of Nurikabe board) p) (whole : length board.clues ≡ cells board.size)
    (labels : List (Option ℕ)) (sizes : List ℕ) (owners : List (Option ℕ))
    (r : AreRegions board.size (IsSetTo p 0) labels sizes) (o : AreOwners board labels owners)
    (left : List ℕ) (steps : AreStepsLeft board p labels sizes owners left) where
  module _ (f : List ℕ) (s : Solves (question_of Nurikabe board) p f) (root : ℕ) (numbered : IsNumbered board root)
    where
      -- no other number is in the number's island
      only : (other : ℕ) → IsNumbered board other → InIsland board.size f root other → other ≡ root
      only other number w = elim (cases_eq other root) [
        | inl e ↦ e
        | inr ne ↦ absurd (no_rule_broken board f kind s.right N5 (root, other, (λ e. ne (sym e)), numbered, number, w))
      ]

      -- a group with a number in the number's island is its own
      own : (x label owner : ℕ) → InIsland board.size f root x → IsLabelled labels x label
          → get_or owners label None ≡ Some owner
          → IsLabelled labels root label × (owner ≡ root)
      own x label owner w here has =
          let k = o.owner label owner has in
          let there = Walk-join (Touch board.size) (IsWhite board.size f) root x owner w
          (island board kind p part labels r.components f s x owner label here k.1) in
          let e = only owner k.0 there in
          (subst (λ y. IsLabelled labels y label) e k.1, e)

      module _ (n : ℕ) (most : IsMost board root n) where
        of_root : (y : ℕ) → y ≡ root → IsMost board y n
        of_root y e = subst (λ z. IsMost board z n) (sym e) most

        -- what is left in a cell of a group with a number
        group_has : (y label owner : ℕ) → InIsland board.size f root y → IsLabelled labels y label
            → get_or owners label None ≡ Some owner → n ≤ get_or left y 0
        group_has y label owner w here has =
            let source = steps.each y (open_white board kind p part f s y
            (Walk-end (Touch board.size) (IsWhite board.size f) root y w)) in
            elim (numbered_or_not board y) [
              | inl number ↦ source.number n (of_root y (only y number w))
              | inr none ↦ source.group none label owner n here has (of_root owner (own y label owner w here has).1)
            ]

        falls : (g : ℕ) → ((label : ℕ) → IsLabelled labels root label → get_or sizes label 0 ≡ g) → (a b v : ℕ)
            → InIsland board.size f root a → Touch board.size a b
            → IsWhite board.size f b → v + g ≤ n → v < get_or left a 0 → v ≤ get_or left b 0
        falls g sized a b v w t white room high =
            let source = steps.each b (open_white board kind p part f s b white) in
            let there = on w t white in
            elim source.known [
              | inl (label, owner, here, has) ↦ let enough = group_has b label owner there here has in omega arith
              | inr (inl number) ↦
                  let enough = source.number n (of_root b (only b number there)) in
                  omega arith
              | inr (inr (inl (label, owner, (x, beside, here), has, room_left))) ↦
                  let near = on there beside (set_white board p f part s x
                  (labelled_member (cells board.size) (Touch board.size) (IsSetTo p 0) labels r.components x label
                  here)) in
                  let k = own x label owner near here has in
                  let enough = room_left n (of_root owner k.1) in
                  let same = sized label k.0 in
                  omega arith
              | inr (inr (inr reached)) ↦ let enough = reached a t in omega arith
            ]

        -- an island in which some cell has nothing left is too large
        module _ (x : ℕ) (none : get_or left x 0 ≡ 0) (w : InIsland board.size f root x) (m : ℕ)
            (count : HasCount (InIsland board.size f root) m) where
          white_root : IsWhite board.size f root
          white_root = Walk-start (Touch board.size) (IsWhite board.size f) root x w

          many_cells : (IsGroup : ℕ → Type 0) (g : ℕ) → HasCount IsGroup g
              → ((y : ℕ) → IsGroup y → InIsland board.size f root y × (n < get_or left y 0 + g))
              → IsGroup root → ((label : ℕ) → IsLabelled labels root label → get_or sizes label 0 ≡ g) → n < m
          many_cells IsGroup g group within there sized =
              more_cells board.size (IsWhite board.size f) IsGroup left root g n group within (within root there).1
              (falls g sized) x w none (cells board.size) (λ y h. h.0) m count

          large : (l : Option ℕ) → get_or labels root None ≡ l → n < m
          large None e =
              many_cells (λ y. y ≡ root) 1
              (HasCount-more (λ _. ⊥) (λ y. y ≡ root) 0 root (λ h. h)
              (λ y. ((λ h. inr h), (λ h. elim h [ inl i ↦ absurd i | inr j ↦ j ])))
              (HasCount-none (λ _. ⊥) (λ y h. h)))
              (λ y h. subst (λ z. InIsland board.size f root z × (n < get_or left z 0 + 1)) (sym h) (
                at white_root,
                let enough = (steps.each root (open_white board kind p part f s root white_root)).number n
                    most in omega arith,
              ))
              refl (λ label h. absurd (let none : None ≡ Some label = sym e ∙ h in cc))
          large (Some label) e =
              many_cells (λ y. IsLabelled labels y label) (get_or sizes label 0) sized
              (λ y h.
              let walk = island board kind p part labels r.components f s root y label e h in
              let has = o.found label root numbered e in
              let enough = group_has y label has.0 walk h has.1 in
              (walk, let some = positive in omega arith))
              e (λ other h. subst (λ z. get_or sizes z 0 ≡ get_or sizes label 0) (one_label labels root label other e h)
              refl)
            where
              sized : HasCount (λ y. IsLabelled labels y label) (get_or sizes label 0)
              sized = r.counted label (let low = AreCells-from_regions _ board.size _ _ r.components root label e in
                  let exact = r.components.exact in omega arith)

              positive : 0 < get_or sizes label 0
              positive = elim (cases_lt 0 (get_or sizes label 0)) [
                | inl some ↦ some
                | inr empty ↦ absurd (HasCount-empty (λ y. IsLabelled labels y label) root
                    (subst (HasCount (λ y. IsLabelled labels y label))
                    (let zero : get_or sizes label 0 ≡ 0 = omega arith in zero) sized) e)
              ]

  -- the island of a white cell with nothing left has no number
  numberless : (f : List ℕ) (s : Solves (question_of Nurikabe board) p f) (x : ℕ) → get_or left x 0 ≡ 0 → (other : ℕ)
      → InIsland board.size f x other
      → IsNumbered board other → ⊥
  numberless f s x none other w (inl (n, clue)) =
      let back = Walk-reverse (Touch board.size) (IsWhite board.size f) (Touch-turn board.size) x other w in
      counted board kind p part whole other n clue f s (λ c.
      let k = large f s other (inl (n, clue)) n (inl clue) x none back n c (get_or labels other None) refl in
      omega arith)
  numberless f s x none other w (inr clue) =
      let back = Walk-reverse (Touch board.size) (IsWhite board.size f) (Touch-turn board.size) x other w in
      let low : (y : ℕ) → InIsland board.size f other y → y < cells board.size = λ y h.
      (Walk-end (Touch board.size) (IsWhite board.size f) other y h).0 in
      not_uncounted (InIsland board.size f other) (cells board.size) low (λ m c.
      let k = large f s other (inr clue) (cells board.size) (inr (clue, refl)) x none back m c
      (get_or labels other None) refl in
      let b = HasCount-bound (InIsland board.size f other) m (cells board.size) low c in
      omega arith)

  pub far_forced : (x : ℕ) → x < cells board.size → get_or left x 0 ≡ 0 → HasAlways (question_of Nurikabe board) p x 1
  far_forced x low none = λ f s. wall_or_white board f x s.filling low
      (λ white. no_rule_broken board f kind s.right N4 (
        x,
        white,
        λ other w numbered. numberless f s x none other w
            numbered,
      ))
