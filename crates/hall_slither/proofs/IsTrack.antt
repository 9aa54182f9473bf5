-- Lines along which a side leads back to itself, and that no solution has a line there where it has one besides.
use Rattle.std.proofs.Common.{◌≡◌, ◌≢◌, ℕ, zero, suc, ◌<◌, ◌≤◌, ◌⊎◌, ◌++◌, ◌∷◌, [], true, List, length, get_or, Option}
use Rattle.std.proofs.Common.{Some, None, sym, subst, inl, inr, arith}
use Rattle.std.specs.Prelude.{Contains, slice_index}
use Rattle.std.proofs.lemmas.Bool.{cases_eq, cases_lt}
use Rattle.std.proofs.lemmas.List.{get_or_past}
use Rattle.std.proofs.lemmas.List.Elements.{Contains-push, Contains-push_cases, Contains-append_left}
use Rattle.hall_grid.specs.declared.board.Size.{Size}
use Rattle.hall_grid.specs.declared.board.Kind.TheVariants.{Slither}
use Rattle.hall_grid.specs.Board.{Board}
use Rattle.hall_grid.specs.Slither.{all_sides, dots, is_end, IsLine, degree}
use Rattle.hall_solve.specs.Question.{Solves, IsPartial}
use Rattle.hall_solve.specs.Puzzle.{question_of}
use Rattle.hall_slither.specs.Dot.{sides_at}
use Rattle.hall_slither.specs.Early.{IsOnward, IsTrack, IsLoop, MeetAt}
use Rattle.hall_slither.specs.Trial.{IsKnown}
use Rattle.hall_slither.proofs.CountBelow.{count_by-numbers, count_below-two, count_below-three}
use Rattle.hall_slither.proofs.Demand.{passes}
use Rattle.hall_slither.proofs.IsLayout.{all_within, not_one}
use Rattle.hall_slither.proofs.LineEnd.{line_end, line_end_from, end_below}
use Rattle.hall_slither.proofs.SidesBeside.{end_of_contained}

-- what is set is on the board
pub set_below : (p : List (Option ℕ)) (i v : ℕ) → get_or p i None ≡ Some v → i < length p
set_below p i v e = elim (cases_lt i (length p)) [
  | inl h ↦ h
  | inr h ↦ absurd
      (let past = get_or_past p i None h in cc)
]

pub line_not_open : (p : List (Option ℕ)) (side x : ℕ) → get_or p side None ≡ None → get_or p x None ≡ Some 1 → x ≢ side
line_not_open p side x unset line = λ e. (let same = subst (λ s. get_or p s None ≡ Some 1) e line in cc)

no_element : (x : ℕ) → Contains [] x → ⊥
no_element x h = let low = h.1 in omega arith

not_first : (x : ℕ) (xs : List ℕ) (y : ℕ) → (x ≡ y → ⊥) → (Contains xs y → ⊥) → (i : ℕ) → i < length (x ∷ xs)
    → get_or (x ∷ xs) i y ≡ y → ⊥
not_first x xs y ne out zero low e = ne e
not_first x xs y ne out (suc i) low e = out (i, omega arith, e)

-- a number is among these or isn't
contains_or : (xs : List ℕ) (y : ℕ) → Contains xs y ⊎ (Contains xs y → ⊥)
contains_or [] y = inr (no_element y)
contains_or (x ∷ xs) y =
    elim (cases_eq x y) [
      | inl e ↦ inl (zero, omega arith, e)
      | inr ne ↦ elim (contains_or xs y) [
        | inl h ↦ let low = h.1 in inl (suc h.0, omega arith, h.2)
        | inr out ↦ inr (λ h. not_first x xs y ne out h.0 h.1 h.2)
      ]
    ]

-- dots that may have one of the sides alone: where they begin and where they end
abbrev pub LooseAt : ℕ → ℕ → ℕ → Type 0
LooseAt first at d = (d ≡ first) ⊎ (d ≡ at)

module _ (size : Size) (p : List (Option ℕ)) (side : ℕ) where
  meet_more : (passed : List ℕ) (next d : ℕ) → MeetAt size passed d → MeetAt size (passed ++ next ∷ []) d
  meet_more passed next d m = (
    m.0,
    m.1,
    Contains-append_left passed (next ∷ []) m.0 m.2,
    Contains-append_left passed (next ∷ []) m.1 m.3,
    m.4,
    m.5,
    m.6,
  )

  -- one line more, from the dot where the last one ends
  pub IsTrack-more : (first at after last next : ℕ) (passed more : List ℕ) → more ≡ passed ++ next ∷ []
      → Contains passed last → is_end size at last ≡ true
      → is_end size at next ≡ true → next ≢ last → get_or p next None ≡ Some 1
      → ((d : ℕ) → is_end size d next ≡ true → (d ≡ at) ⊎ (d ≡ after))
      → IsTrack size p side (LooseAt first at) passed → IsTrack size p side (LooseAt first after) more
  IsTrack-more first at after last next passed more e has_last last_at next_at ne line turn t =
      let grown = passed ++ next ∷ [] in
      let here : (d : ℕ) → d ≡ at → MeetAt size grown d =
      λ d same. (
        last,
        next,
        Contains-append_left passed (next ∷ []) last has_last,
        Contains-push passed next,
        (λ k. ne (sym k)),
        subst (λ d. is_end size d last ≡ true) (sym same) last_at,
        subst (λ d. is_end size d next ≡ true) (sym same) next_at,
      ) in
      subst (IsTrack size p side (LooseAt first after)) (sym e) record {
        begun = Contains-append_left passed (next ∷ []) side t.begun;
        lines = λ x h. elim (Contains-push_cases passed next x h)
            [ inl old ↦ t.lines x old | inr same ↦ inr (subst (λ x. get_or p x None ≡ Some 1) same line) ];
        met = λ x d h end. elim (Contains-push_cases passed next x h) [
          | inl old ↦ elim (t.met x d old end) [
            | inl loose ↦ elim loose [ inl k ↦ inl (inl k) | inr k ↦ inr (here d k) ]
            | inr m ↦ inr (meet_more passed next d m)
          ]
          | inr same ↦ elim (turn d (subst (λ x. is_end size d x ≡ true) (sym same) end))
              [ inl k ↦ inr (here d k) | inr k ↦ inl (inr k) ]
        ];
      }

  pub IsTrack-onward : (first at after last next : ℕ) (sides : List (Option ℕ)) (passed more : List ℕ) → 0 < size.cols
      → at < dots size → sides ≡ sides_at size at
      → IsOnward p sides last next → more ≡ passed ++ next ∷ [] → Contains passed last → is_end size at last ≡ true
      → ((d : ℕ) → is_end size at next ≡ true → is_end size d next ≡ true → (d ≡ at) ⊎ (d ≡ after))
      → IsTrack size p side (LooseAt first at) passed → IsTrack size p side (LooseAt first after) more
  IsTrack-onward first at after last next sides passed more some low e onward grown has_last last_at both t =
      let here = end_of_contained size at next some low (subst (λ xs. Contains xs (Some next)) e onward.among) in
      IsTrack-more first at after last next passed more grown has_last last_at here onward.other onward.line
      (λ d far. both d here far) t

  -- the last line ends where the side begins
  pub IsTrack-closed : (first last : ℕ) (passed : List ℕ) → Contains passed last → is_end size first last ≡ true
      → is_end size first side ≡ true → last ≢ side
      → IsTrack size p side (LooseAt first first) passed → IsLoop size p side passed
  IsTrack-closed first last passed has_last last_at side_at ne t =
      let here : (d : ℕ) → d ≡ first → MeetAt size passed d =
      λ d same. (
        last,
        side,
        has_last,
        t.begun,
        ne,
        subst (λ d. is_end size d last ≡ true) (sym same) last_at,
        subst (λ d. is_end size d side ≡ true) (sym same) side_at,
      ) in
      record {
        begun = t.begun;
        lines = t.lines;
        met = λ x d h end. elim (t.met x d h end) [
          | inl loose ↦ inr (here d (elim loose [ inl k ↦ k | inr k ↦ k ]))
          | inr m ↦ inr m
        ];
      }

-- f: a solution that has a line at the side
module _ (board : Board) (p : List (Option ℕ)) (f : List ℕ) (side : ℕ) (passed : List ℕ) (kind : board.kind ≡ Slither)
    (some : 0 < board.size.cols)
    (exact : length p ≡ all_sides board.size) (sol : Solves (question_of Slither board) p f)
    (low : side < all_sides board.size) (line : slice_index f side ≡ 1)
    (track : IsLoop board.size p side passed) where
  solution_line : (x : ℕ) → get_or p x None ≡ Some 1 → IsLine board.size f x
  solution_line x l = let below = set_below p x 1 l in (omega arith, sol.extends x 1 l)

  passed_line : (x : ℕ) → Contains passed x → IsLine board.size f x
  passed_line x h = elim (track.lines x h) [
    | inl e ↦ subst (IsLine board.size f) (sym e) (low, line)
    | inr l ↦
        solution_line x l
  ]

  meeting : (x d : ℕ) → Contains passed x → is_end board.size d x ≡ true → MeetAt board.size passed d
  meeting x d h e = elim (track.met x d h e) [ inl none ↦ absurd none | inr m ↦ m ]

  two_at : (x d : ℕ) → Contains passed x → is_end board.size d x ≡ true → 2 ≤ degree board.size f d
  two_at x d h e =
      let m = meeting x d h e in
      let n = all_sides board.size in
      let count = count_by-numbers (line_end board.size f d) n in
      let a = passed_line m.0 m.2 in
      let b = passed_line m.1 m.3 in
      let two = count_below-two (line_end board.size f d) n m.0 m.1 a.0 b.0 m.4
      (line_end_from board.size f d m.0 a.1 m.5) (line_end_from board.size f d m.1 b.1 m.6) in
      omega arith

  turn_at : (x y d : ℕ) → Contains passed x → is_end board.size d x ≡ true → is_end board.size d y ≡ true
      → IsLine board.size f y → Contains passed y
  turn_at x y d h e ey ly =
      elim (contains_or passed y) [
        | inl has ↦ has
        | inr out ↦
            let m = meeting x d h e in
            let n = all_sides board.size in
            let count = count_by-numbers (line_end board.size f d) n in
            let a = passed_line m.0 m.2 in
            let b = passed_line m.1 m.3 in
            let three = count_below-three (line_end board.size f d) n m.0 m.1 y a.0 b.0 ly.0 m.4
            (λ k. out (subst (Contains passed) k m.2)) (λ k. out (subst (Contains passed) k m.3))
            (line_end_from board.size f d m.0 a.1 m.5) (line_end_from board.size f d m.1 b.1 m.6)
            (line_end_from board.size f d y ly.1 ey) in
            let most : degree board.size f d ≤ 2 =
            elim (passes board f d kind some sol.right (end_below board.size d y some ly.0 ey))
            [ inl k ↦ omega arith | inr k ↦ omega arith ] in
            absurd (omega arith)
      ]

  pub all_passed : (y : ℕ) → get_or p y None ≡ Some 1 → Contains passed y
  all_passed y l =
      all_within board f f kind some sol.right (λ s k. k) (Contains passed) (λ x h. (passed_line x h).0)
      (contains_or passed) two_at turn_at side track.begun (low, line) y
      (solution_line y l)

-- where there is a line besides, every solution has none at the side
pub known_early : (board : Board) (p : List (Option ℕ)) (side other : ℕ) (passed : List ℕ) → board.kind ≡ Slither
    → 0 < board.size.cols
    → IsPartial (question_of Slither board) p → side < length p → IsLoop board.size p side passed
    → get_or p other None ≡ Some 1
    → (Contains passed other → ⊥) → IsKnown (question_of Slither board) p (record { side = side; value = 0 })
known_early board p side other passed kind some partial low track line out = record {
  in_range = omega arith;
  always = λ f sol.
      let exact : length p ≡ all_sides board.size = partial.size in
      let below : side < all_sides board.size = omega arith in
      not_one (slice_index f side) (sol.filling.in_range side below)
      (λ one. out (all_passed board p f side passed kind some exact sol below one track other line));
}
