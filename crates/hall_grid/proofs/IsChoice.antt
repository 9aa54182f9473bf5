-- The writer's forms are forms of the table, with the clues that stand there.
use Rattle.std.proofs.Common.{◌≡◌, ℕ, zero, suc, ◌+◌, ◌*◌, ◌/◌, ◌%◌, ◌<◌, ◌≤◌, false, List, [], ◌∷◌, ◌++◌, length}
use Rattle.std.proofs.Common.{get_or, replicate, Option, Some, None, refl, sym, ap, ◌∙◌, subst, inl, inr, arith, nat_lt}
use Rattle.std.proofs.Common.{if◌then◌else◌, add-zero, add-one}
use Rattle.std.proofs.lemmas.Bool.{cases_lt, lt-ltb, le-ltb, ne_eqb, eq-eqb}
use Rattle.std.proofs.lemmas.Bool.Decides.{nat_tests}
use Rattle.std.proofs.lemmas.List.{length-replicate, get_or_past}
use Rattle.std.proofs.lemmas.List.Elements.{All-get_or, All-cons, All-replicate}
use Rattle.std.proofs.lemmas.Option.{slice_get_within, get_or_from_slice_get, slice_get_cases}
use Rattle.std.proofs.lemmas.Fmt.{hex_one_digit, hex_two_digits}
use Rattle.std.specs.Fmt.{digits, digits_onto, digit_glyph}
use Rattle.std.specs.Prelude.{All, option_to_list, slice_get}
use Rattle.hall_grid.specs.declared.board.Size.{Size}
use Rattle.hall_grid.specs.declared.board.Kind.{Kind}
use Rattle.hall_grid.specs.declared.board.Kind.TheVariants.{Sudoku, Slither, Nurikabe}
use Rattle.hall_grid.specs.declared.board.Clue.{Clue}
use Rattle.hall_grid.specs.declared.board.Clue.TheVariants.{Blank, Unknown, Number}
use Rattle.hall_grid.specs.Board.{HasSize, IsClue}
use Rattle.hall_grid.specs.Body.{IsHexDigit, HasNumber16, Form, one, two, three, some_number, alone, before_one}
use Rattle.hall_grid.specs.Body.{before_two, some_count, run}
use Rattle.hall_grid.specs.Canonical.{IsEmpty, IsFull, Takes, IsChosen}
use Rattle.hall_grid.proofs.Bodies.{blank_in_range}
use Rattle.hall_grid.proofs.Spells.{some_bytes}
use Rattle.hall_grid.specs.Writing.{IsRunAt, IsChoiceAt, IsShort, number16_bytes, form_bytes}

glyph_is : (n : ℕ) → n < 16 → IsHexDigit (digit_glyph false n) n
glyph_is n small =
    elim (cases_lt n 10) [
      | inl low ↦ rw (lt-ltb n 10 low) (inl (low, refl))
      | inr high ↦ rw (le-ltb n 10 high) (inr (high, small, refl))
    ]

digits_onto_step : (k n : ℕ) (after : List ℕ)
    → 16 ≤ n
    → digits_onto (suc k) 16 false n after ≡ digits_onto k 16 false (n / 16) (digit_glyph false (n % 16) ∷ after)
digits_onto_step k n after large = rw (ne_eqb (n / 16) 0 (λ e. omega arith)) refl

digits_onto_last : (k n : ℕ) (after : List ℕ)
    → n < 16
    → digits_onto (suc k) 16 false n after ≡ digit_glyph false (n % 16) ∷ after
digits_onto_last k n after small = rw (eq-eqb (n / 16) 0 (omega arith)) refl

three_digits_onto : (k n : ℕ) → 256 ≤ n → n < 4096
    → digits_onto (suc (suc (suc k))) 16 false n []
    ≡ digit_glyph false (n / 256) ∷ digit_glyph false (n / 16 % 16) ∷ digit_glyph false (n % 16) ∷ []
three_digits_onto k n large small =
    let same : n / 16 / 16 % 16 ≡ n / 256 = omega arith in
    digits_onto_step (suc (suc k)) n [] (omega arith) ∙ digits_onto_step (suc k) (n / 16) _ (omega arith)
    ∙ digits_onto_last k (n / 16 / 16) _ (omega arith)
    ∙ ap (λ d. digit_glyph false d ∷ digit_glyph false (n / 16 % 16) ∷ digit_glyph false (n % 16) ∷ []) same

hex_three_digits : (n : ℕ) → 256 ≤ n → n < 4096
    → digits 16 false n
    ≡ digit_glyph false (n / 256) ∷ digit_glyph false (n / 16 % 16) ∷ digit_glyph false (n % 16) ∷ []
unfolding digits
hex_three_digits n large small = three_digits_onto 61 n large small

-- a number of up to three hexadecimal digits is written as a form
number16_is_form : (kind : Kind) (n : ℕ) → HasNumber16 kind → n < 4096 → Form kind (number16_bytes n) (Number n ∷ [])
number16_is_form kind n h small =
    elim (cases_lt n 16) [
      | inl one_digit ↦ rw (lt-ltb n 16 one_digit, hex_one_digit false n one_digit) (one h (glyph_is n one_digit))
      | inr more ↦ elim (cases_lt n 256) [
        | inl two_digits ↦
            let is : 16 * (n / 16) + n % 16 ≡ n = omega arith in
            rw (le-ltb n 16 more, lt-ltb n 256 two_digits, hex_two_digits false n more two_digits)
            (subst (λ m. Form kind (45 ∷ digit_glyph false (n / 16) ∷ digit_glyph false (n % 16) ∷ [])
            (Number m ∷ [])) is
            (two h (glyph_is (n / 16) (omega arith)) (glyph_is (n % 16) (omega arith))))
        | inr three_digits ↦
            let is : 256 * (n / 256) + 16 * (n / 16 % 16) + n % 16 ≡ n = omega arith in
            rw (le-ltb n 16 more, le-ltb n 256 three_digits, hex_three_digits n three_digits small)
            (subst (λ m. Form kind
            (43 ∷ digit_glyph false (n / 256) ∷ digit_glyph false (n / 16 % 16) ∷ digit_glyph false (n % 16) ∷ [])
            (Number m ∷ [])) is
            (three h (glyph_is (n / 256) (omega arith)) (glyph_is (n / 16 % 16) (omega arith))
            (glyph_is (n % 16) (omega arith))))
      ]
    ]

hex_below : (b n : ℕ) → IsHexDigit b n → n < 16
hex_below b n (inl h) = omega arith
hex_below b n (inr h) = omega arith

-- past the empty cells there are none but empty cells
pub get_or_blanks : (k j : ℕ) → get_or (replicate k Blank) j Blank ≡ Blank
get_or_blanks zero j = refl
get_or_blanks (suc k) zero = refl
get_or_blanks (suc k) (suc j) = get_or_blanks k j

-- no form of a number has fewer bytes
length-number16_bytes : (n : ℕ)
    → n < 4096
    → length (number16_bytes n) ≡ (if nat_lt n 16 then 1 else (if nat_lt n 256 then 3 else 4))
length-number16_bytes n small =
    elim (cases_lt n 16) [
      | inl one_digit ↦ rw (lt-ltb n 16 one_digit, hex_one_digit false n one_digit) refl
      | inr more ↦ elim (cases_lt n 256) [
        | inl two_digits ↦ rw (le-ltb n 16 more, lt-ltb n 256 two_digits, hex_two_digits false n more two_digits) refl
        | inr three_digits ↦
            rw (le-ltb n 16 more, le-ltb n 256 three_digits, hex_three_digits n three_digits small) refl
      ]
    ]

shortest_number : (kind : Kind) (n : ℕ) (bytes : List ℕ) (clues : List Clue)
    → HasNumber16 kind
    → n < 4096
    → Form kind bytes clues
    → clues ≡ Number n ∷ []
    → length (number16_bytes n) ≤ length bytes
shortest_number kind n bytes clues h small (one {m = m} _ d) e =
    let same : m ≡ n = cc in
    let digit : m < 16 = hex_below _ m d in
    let l = length-number16_bytes n small in grind (arith, nat_tests)
shortest_number kind n bytes clues h small (two {m = m} {n = k} _ d d') e =
    let same : 16 * m + k ≡ n = cc in
    let digit : m < 16 = hex_below _ m d in
    let digit' : k < 16 = hex_below _ k d' in
    let l = length-number16_bytes n small in grind (arith, nat_tests)
shortest_number kind n bytes clues h small (three _ _ _ _) e =
    let l = length-number16_bytes n small in grind (arith, nat_tests)
shortest_number kind n bytes clues h small some_number e = absurd (cc)
shortest_number kind n bytes clues h small (alone _ _) e = absurd h
shortest_number kind n bytes clues h small (before_one _ _) e = absurd h
shortest_number kind n bytes clues h small (before_two _ _) e = absurd h
shortest_number kind n bytes clues h small some_count e = absurd h
shortest_number kind n bytes clues h small (run {n = k} _) e =
    let blank = get_or_blanks k 0 in let first = ap (λ cs. get_or cs 0 Blank) e in absurd (cc)

-- what a cell of a board shows is in range
clue_in_range : (kind : Kind) (size : Size) (clues : List Clue) (cell : ℕ) (x : Clue)
    → All (IsClue kind size) clues
    → slice_get clues cell ≡ Some x
    → IsClue kind size x
clue_in_range kind size clues cell x all e =
    subst (λ y. IsClue kind size y) (get_or_from_slice_get clues cell x x e)
    (All-get_or (IsClue kind size) clues cell x (slice_get_within clues cell x e) all)

number_below : (kind : Kind) (size : Size) (n : ℕ)
    → HasNumber16 kind
    → HasSize kind size
    → IsClue kind size (Number n)
    → n < 4096
number_below Sudoku size n h (_, inl side) r = omega arith
number_below Sudoku size n h (_, inr (inl side)) r = omega arith
number_below Sudoku size n h (_, inr (inr (inl side))) r = omega arith
number_below Sudoku size n h (_, inr (inr (inr (inl side)))) r = omega arith
number_below Sudoku size n h (_, inr (inr (inr (inr side)))) r = omega arith
number_below Slither size n h fits r = absurd h
number_below Nurikabe size n h fits r = omega arith

abbrev clues_from : Option Clue → ℕ → List Clue
clues_from clue blanks = option_to_list clue ++ replicate blanks Blank

-- a run has a cell at least
some_cell : (clues : List Clue) (cell blanks : ℕ) → IsEmpty clues cell → IsRunAt clues cell blanks → 1 ≤ blanks
some_cell clues cell zero empty r = absurd (r.stops (omega arith) (rw add-zero empty))
some_cell clues cell (suc k) empty r = omega arith

-- what the writer chooses is a form
pub choice_form : (kind : Kind) (size : Size) (clues : List Clue) (cell : ℕ) (clue : Option Clue) (blanks : ℕ)
    → HasSize kind size
    → All (IsClue kind size) clues
    → IsChoiceAt kind clues cell clue blanks → Form kind (form_bytes kind clue blanks) (clues_from clue blanks)
choice_form kind size clues cell None blanks fits all (empty, r) =
    run (some_cell clues cell blanks empty r, r.few, refl)
choice_form kind size clues cell (Some Blank) blanks fits all c = absurd c
choice_form Sudoku size clues cell (Some Unknown) blanks fits all c =
    absurd (clue_in_range Sudoku size clues cell Unknown all c.0)
choice_form Slither size clues cell (Some Unknown) blanks fits all c = rw c.1 some_count
choice_form Nurikabe size clues cell (Some Unknown) blanks fits all c = rw c.1 some_number
choice_form Sudoku size clues cell (Some (Number n)) blanks fits all c =
    rw c.1
    (number16_is_form Sudoku n tt
    (number_below Sudoku size n tt fits (clue_in_range Sudoku size clues cell (Number n) all c.0)))
choice_form Slither size clues cell (Some (Number n)) blanks fits all (shows, inl (_, e)) =
    rw e (alone (clue_in_range Slither size clues cell (Number n) all shows) refl)
choice_form Slither size clues cell (Some (Number n)) blanks fits all (shows, inr (inl (_, _, e))) =
    rw e (before_one (clue_in_range Slither size clues cell (Number n) all shows) refl)
choice_form Slither size clues cell (Some (Number n)) blanks fits all (shows, inr (inr (_, _, e))) =
    rw e (before_two (clue_in_range Slither size clues cell (Number n) all shows) refl)
choice_form Nurikabe size clues cell (Some (Number n)) blanks fits all c =
    rw c.1
    (number16_is_form Nurikabe n tt
    (number_below Nurikabe size n tt fits (clue_in_range Nurikabe size clues cell (Number n) all c.0)))

blanks_in_range : (kind : Kind) (size : Size) (blanks : ℕ) → All (IsClue kind size) (replicate blanks Blank)
blanks_in_range kind size blanks = All-replicate (IsClue kind size) blanks Blank (blank_in_range kind size)

shown_in_range : (kind : Kind) (size : Size) (clues : List Clue) (cell : ℕ) (x : Clue) (blanks : ℕ)
    → All (IsClue kind size) clues
    → slice_get clues cell ≡ Some x
    → All (IsClue kind size) (clues_from (Some x) blanks)
shown_in_range kind size clues cell x blanks all e =
    All-cons (IsClue kind size) x (replicate blanks Blank) (clue_in_range kind size clues cell x all e)
    (blanks_in_range kind size blanks)

-- the clue that a choice shows stands at the cell
abbrev Shows : List Clue → ℕ → Option Clue → Type 0
Shows clues cell None = IsEmpty clues cell
Shows clues cell (Some x) = slice_get clues cell ≡ Some x

choice_shows : (kind : Kind) (clues : List Clue) (cell : ℕ) (clue : Option Clue) (blanks : ℕ)
    → IsChoiceAt kind clues cell clue blanks
    → Shows clues cell clue
choice_shows kind clues cell None blanks c = c.0
choice_shows kind clues cell (Some Blank) blanks c = absurd c
choice_shows kind clues cell (Some Unknown) blanks c = c.0
choice_shows Sudoku clues cell (Some (Number n)) blanks c = c.0
choice_shows Slither clues cell (Some (Number n)) blanks c = c.0
choice_shows Nurikabe clues cell (Some (Number n)) blanks c = c.0

-- its clues are in range
pub choice_ranges : (kind : Kind) (size : Size) (clues : List Clue) (cell : ℕ) (clue : Option Clue) (blanks : ℕ)
    → All (IsClue kind size) clues
    → IsChoiceAt kind clues cell clue blanks → All (IsClue kind size) (clues_from clue blanks)
choice_ranges kind size clues cell None blanks all c = blanks_in_range kind size blanks
choice_ranges kind size clues cell (Some x) blanks all c =
    shown_in_range kind size clues cell x blanks all (choice_shows kind clues cell (Some x) blanks c)

pub choice_short : (kind : Kind) (size : Size) (clues : List Clue) (cell : ℕ) (clue : Option Clue) (blanks : ℕ)
    → All (IsClue kind size) clues
    → IsChoiceAt kind clues cell clue blanks → IsShort kind clue
choice_short Sudoku size clues cell clue blanks all c = tt
choice_short Nurikabe size clues cell clue blanks all c = tt
choice_short Slither size clues cell None blanks all c = tt
choice_short Slither size clues cell (Some Blank) blanks all c = tt
choice_short Slither size clues cell (Some Unknown) blanks all c = tt
choice_short Slither size clues cell (Some (Number n)) blanks all c =
    clue_in_range Slither size clues cell (Number n) all c.0

takes_few : (clues : List Clue) (cell count : ℕ) → Takes clues cell count → count ≤ 2
takes_few clues cell count (inl h) = omega (arith, h.1)
takes_few clues cell count (inr (inl h)) = omega (arith, h.2)
takes_few clues cell count (inr (inr h)) = omega (arith, h.2)

pub choice_few : (kind : Kind) (clues : List Clue) (cell : ℕ) (clue : Option Clue) (blanks : ℕ)
    → IsChoiceAt kind clues cell clue blanks
    → blanks ≤ 20
choice_few kind clues cell None blanks c = c.1.few
choice_few kind clues cell (Some Blank) blanks c = absurd c
choice_few kind clues cell (Some Unknown) blanks c = omega (arith, c.1)
choice_few Sudoku clues cell (Some (Number n)) blanks c = omega (arith, c.1)
choice_few Slither clues cell (Some (Number n)) blanks c = omega (arith, takes_few clues cell blanks c.1)
choice_few Nurikabe clues cell (Some (Number n)) blanks c = omega (arith, c.1)

-- a choice covers a cell at least
pub choice_covers : (kind : Kind) (clues : List Clue) (cell : ℕ) (clue : Option Clue) (blanks : ℕ)
    → IsChoiceAt kind clues cell clue blanks
    → 1 ≤ length (clues_from clue blanks)
choice_covers kind clues cell None blanks c =
    omega (arith, some_cell clues cell blanks c.0 c.1, length-replicate blanks Blank)
choice_covers kind clues cell (Some x) blanks c = omega arith

one_byte : (kind : Kind) (clues : List Clue) (n : ℕ)
    → n ≡ 1
    → (bytes : List ℕ)
    → Form kind bytes clues
    → n ≤ length bytes
one_byte kind clues n e bytes f = omega (arith, some_bytes kind bytes clues f)

-- no form of fewer bytes gives these clues
pub choice_shortest : (kind : Kind) (size : Size) (clues : List Clue) (cell : ℕ) (clue : Option Clue) (blanks : ℕ)
    → HasSize kind size
    → All (IsClue kind size) clues
    → IsChoiceAt kind clues cell clue blanks
    → (bytes : List ℕ)
    → Form kind bytes (clues_from clue blanks)
    → length (form_bytes kind clue blanks) ≤ length bytes
choice_shortest kind size clues cell None blanks fits all c bytes f = one_byte kind _ _ refl bytes f
choice_shortest kind size clues cell (Some Blank) blanks fits all c bytes f = absurd c
choice_shortest kind size clues cell (Some Unknown) blanks fits all c bytes f = one_byte kind _ _ refl bytes f
choice_shortest Sudoku size clues cell (Some (Number n)) blanks fits all c bytes f =
    shortest_number Sudoku n bytes _ tt
    (number_below Sudoku size n tt fits (clue_in_range Sudoku size clues cell (Number n) all c.0)) f (rw c.1 refl)
choice_shortest Slither size clues cell (Some (Number n)) blanks fits all c bytes f = one_byte Slither _ _ refl bytes f
choice_shortest Nurikabe size clues cell (Some (Number n)) blanks fits all c bytes f =
    shortest_number Nurikabe n bytes _ tt
    (number_below Nurikabe size n tt fits (clue_in_range Nurikabe size clues cell (Number n) all c.0)) f
    (rw c.1 refl)

empty_at : (clues : List Clue) (cell : ℕ) → IsEmpty clues cell → get_or clues cell Blank ≡ Blank
empty_at clues cell e = get_or_from_slice_get clues cell Blank Blank e

-- a cell that isn't full is empty, or past the end
pub not_full : (clues : List Clue) (cell : ℕ) → (IsFull clues cell → ⊥) → get_or clues cell Blank ≡ Blank
not_full clues cell empty =
    elim (slice_get_cases clues cell).1 [
      | inl (Blank, within, e, _) ↦ empty_at clues cell e
      | inl (Unknown, within, e, _) ↦ absurd (empty (Unknown, (λ same. cc), e))
      | inl (Number n, within, e, _) ↦ absurd (empty (Number n, (λ same. cc), e))
      | inr (past, _) ↦ get_or_past clues cell Blank past
    ]

shown_gives : (clues : List Clue) (cell : ℕ) (x : Clue) (blanks : ℕ)
    → slice_get clues cell ≡ Some x
    → ((j : ℕ) → j < blanks → get_or clues (cell + (j + 1)) Blank ≡ Blank)
    → (j : ℕ)
    → j < length (clues_from (Some x) blanks)
    → get_or (clues_from (Some x) blanks) j Blank ≡ get_or clues (cell + j) Blank
shown_gives clues cell x blanks e after zero h = rw add-zero (sym (get_or_from_slice_get clues cell x Blank e))
shown_gives clues cell x blanks e after (suc j) h =
    get_or_blanks blanks j ∙ sym (rw add-one at (after j (omega (arith, length-replicate blanks Blank))))

takes_blanks : (clues : List Clue) (cell count : ℕ)
    → Takes clues cell count
    → (j : ℕ)
    → j < count
    → get_or clues (cell + (j + 1)) Blank ≡ Blank
takes_blanks clues cell count (inl h) j below = absurd (omega (arith, h.1))
takes_blanks clues cell count (inr (inl h)) j below =
    let first : j + 1 ≡ 1 = omega (arith, h.2) in
    subst (λ k. get_or clues (cell + k) Blank ≡ Blank) (sym first) (not_full clues (cell + 1) h.0)
takes_blanks clues cell count (inr (inr h)) zero below = not_full clues (cell + 1) h.0
takes_blanks clues cell count (inr (inr h)) (suc j) below =
    let second : suc j + 1 ≡ 2 = omega (arith, h.2) in
    subst (λ k. get_or clues (cell + k) Blank ≡ Blank) (sym second) (not_full clues (cell + 2) h.1)

no_blanks : (clues : List Clue) (cell blanks : ℕ)
    → blanks ≡ 0
    → (j : ℕ)
    → j < blanks
    → get_or clues (cell + (j + 1)) Blank ≡ Blank
no_blanks clues cell blanks e j below = absurd (omega arith)

-- the clues of a choice stand at the cell and after it
pub choice_gives : (kind : Kind) (clues : List Clue) (cell : ℕ) (clue : Option Clue) (blanks : ℕ)
    → IsChoiceAt kind clues cell clue blanks
    → (j : ℕ)
    → j < length (clues_from clue blanks)
    → get_or (clues_from clue blanks) j Blank ≡ get_or clues (cell + j) Blank
choice_gives kind clues cell None blanks c j h =
    get_or_blanks blanks j
    ∙ sym (empty_at clues (cell + j) (c.1.empty j (omega (arith, length-replicate blanks Blank))))
choice_gives kind clues cell (Some Blank) blanks c j h = absurd c
choice_gives kind clues cell (Some Unknown) blanks c j h =
    shown_gives clues cell Unknown blanks c.0 (no_blanks clues cell blanks c.1) j h
choice_gives Sudoku clues cell (Some (Number n)) blanks c j h =
    shown_gives clues cell (Number n) blanks c.0 (no_blanks clues cell blanks c.1) j h
choice_gives Slither clues cell (Some (Number n)) blanks c j h =
    shown_gives clues cell (Number n) blanks c.0 (takes_blanks clues cell blanks c.1) j h
choice_gives Nurikabe clues cell (Some (Number n)) blanks c j h =
    shown_gives clues cell (Number n) blanks c.0 (no_blanks clues cell blanks c.1) j h

-- the writer chooses these clues
pub choice_chosen : (kind : Kind) (clues : List Clue) (cell : ℕ) (clue : Option Clue) (blanks : ℕ)
    → IsChoiceAt kind clues cell clue blanks
    → IsChosen kind clues cell (clues_from clue blanks)
choice_chosen kind clues cell None zero c = absurd (omega (arith, some_cell clues cell 0 c.0 c.1))
choice_chosen kind clues cell None (suc k) c =
    let count : length (replicate k Blank) + 1 ≡ suc k = omega (arith, length-replicate k Blank) in
    rw count (record {
      within = let last = slice_get_within clues (cell + k) Blank (c.1.empty k (omega arith)) in omega arith;
      stops = elim (cases_lt (suc k) 20) [ inl less ↦ inr (c.1.stops less) | inr many ↦ inl (omega (arith, c.1.few)) ];
    })
choice_chosen kind clues cell (Some Blank) blanks c = absurd c
choice_chosen kind clues cell (Some Unknown) blanks c = tt
choice_chosen Sudoku clues cell (Some (Number n)) blanks c = tt
choice_chosen Slither clues cell (Some (Number n)) blanks c = rw (length-replicate blanks Blank) c.1
choice_chosen Nurikabe clues cell (Some (Number n)) blanks c = tt
