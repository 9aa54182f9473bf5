-- What each puzzle gives by the rules, and that these together are what the answers give.
use Rattle.std.proofs.Common.{arith, ◌≡◌, ◌≢◌, ◌≤◌, ◌<◌, ◌+◌, ◌-◌, ◌*◌, ◌==◌, ◌&&◌, ◌⊎◌, inl, inr, ℕ, zero, suc, Bool}
use Rattle.std.proofs.Common.{true, false, not, cond, List, [], ◌∷◌, length, Contains, Some, is_some, refl, sym, ap}
use Rattle.std.proofs.Common.{subst, get_or, ◌∙◌, sum_by, nat_lt}
use Rattle.std.specs.List.{list_any, range_with_len}
use Rattle.std.proofs.lemmas.List.Folds.{list_any_none, list_any_at}
use Rattle.std.proofs.lemmas.List.Elements.{Contains-get_or}
use Rattle.std.proofs.lemmas.List.Sums.{sum_by-cons}
use Rattle.std.proofs.lemmas.Bool.Decides.{nat_tests}
use Rattle.hall_policy.specs.World.{entry_at}
use Rattle.hall_policy.specs.declared.record.Entry.{Entry}
use Rattle.hall_policy.specs.declared.record.RoundRow.{RoundRow}
use Rattle.hall_policy.specs.declared.record.AnswerRow.{AnswerRow}
use Rattle.hall_policy.specs.declared.record.Mode.{Mode}
use Rattle.hall_policy.specs.declared.record.Mode.TheVariants.{Instant, Sealed}
use Rattle.hall_score.specs.Total.{is_right, same_puzzle, has_right_before, has_later, does_count, cost_of, does_score}
use Rattle.hall_score.specs.Total.{points_for, points_of}
use Rattle.hall_score.specs.Laws.{AreNumbered, IsAnswerRight, IsAnswerTo, IsFirstRight, IsLast, wrong_before_n}
use Rattle.hall_score.specs.Laws.{GivesInstant, GivesSealed, GivesPoints, CountsAsRight}
use Rattle.hall_score.proofs.Gains.{sum_once}
use Rattle.hall_score.proofs.Once.{counts_once}
use Rattle.hall_score.proofs.Scores.{no_points, true_false}
use Rattle.hall_score.proofs.Tried.{not_true}

-- ---- tests
pub eqb_true : (a b : ℕ) → (a == b) ≡ true → a ≡ b
eqb_true a b e = grind (arith, nat_tests)

pub eqb_same : (a b : ℕ) → a ≡ b → (a == b) ≡ true
eqb_same a b e = grind (arith, nat_tests)

pub by_bool : (P : Type 0) (b : Bool) → (b ≡ true → P) → (b ≡ false → P) → P
by_bool P true passes fails = passes refl
by_bool P false passes fails = fails refl

pub two_parts : (a b : Bool) → (a && b) ≡ true → (a ≡ true) × (b ≡ true)
two_parts true b e = (refl, e)
two_parts false b e = absurd (cc)

pub both_true : (a b : Bool) → a ≡ true → b ≡ true → (a && b) ≡ true
both_true true b e f = f
both_true false b e f = absurd (cc)

not_false : (b : Bool) → b ≡ false → not b ≡ true
not_false true e = absurd (cc)
not_false false e = refl

-- ---- the numbers of a round
sum_zeros : {X : Type 0} (f : X → ℕ) (xs : List X) → ((k : ℕ) (d : X) → k < length xs → f (get_or xs k d) ≡ 0)
    → sum_by f xs ≡ 0
sum_zeros f [] none = refl
sum_zeros f (x ∷ xs) none =
    let here : f x ≡ 0 = none 0 x (omega arith) in
    let rest = sum_zeros f xs (λ k d within. none (suc k) d (omega arith)) in
    omega (arith, here, rest, sum_by-cons f x xs)

pub sum_equal : {X : Type 0} (f g : X → ℕ) (xs : List X) → ((k : ℕ) (d : X) → k < length xs
    → f (get_or xs k d) ≡ g (get_or xs k d)) → sum_by f xs ≡ sum_by g xs
sum_equal f g [] same = refl
sum_equal f g (x ∷ xs) same =
    let here : f x ≡ g x = same 0 x (omega arith) in
    let rest = sum_equal f g xs (λ k d within. same (suc k) d (omega arith)) in
    omega (arith, here, rest, sum_by-cons f x xs, sum_by-cons g x xs)

sum_plus : (f g h : ℕ → ℕ) (ks : List ℕ) → ((k : ℕ) → f k ≡ g k + h k) → sum_by f ks ≡ sum_by g ks + sum_by h ks
sum_plus f g h [] parts = refl
sum_plus f g h (k ∷ ks) parts =
    let here = parts k in
    let rest = sum_plus f g h ks parts in
    omega (arith, here, rest, sum_by-cons f k ks, sum_by-cons g k ks, sum_by-cons h k ks)

-- what the rows to this number give together
abbrev pub sum_at : (AnswerRow → ℕ) → List AnswerRow → ℕ → ℕ
sum_at f rows number = sum_by (λ row. cond (row.key.number == number) (f row) 0) rows

no_gain : (b : Bool) (x : ℕ) → x ≡ 0 → cond b x 0 ≡ 0
no_gain true x e = e
no_gain false x e = refl

-- a row gives at its own number alone
row_at : (f : AnswerRow → ℕ) (count : ℕ) (row : AnswerRow) → (f row ≡ 0)
    ⊎ ((1 ≤ row.key.number) × (row.key.number ≤ count)) → sum_by (λ k. cond (row.key.number == k) (f row) 0)
    (range_with_len 1 count) ≡ f row
row_at f count row (inl none) = sum_zeros (λ k. cond (row.key.number == k) (f row) 0) (range_with_len 1 count)
    (λ k d within. no_gain (row.key.number == get_or (range_with_len 1 count) k d) (f row) none) ∙ sym none
row_at f count row (inr within) = sum_once (f row) row.key.number 1 count within.0 (omega arith)

-- what the rows give together is the sum over the numbers of what the rows to each give
pub sum_by_number : (f : AnswerRow → ℕ) (count : ℕ) (rows : List AnswerRow)
    → ((row : AnswerRow) → (f row ≡ 0) ⊎ ((1 ≤ row.key.number) × (row.key.number ≤ count)))
    → sum_by f rows ≡ sum_by (sum_at f rows) (range_with_len 1 count)
sum_by_number f count [] fits = sym (sum_zeros (sum_at f []) (range_with_len 1 count) (λ k d within. refl))
sum_by_number f count (row ∷ rows) fits =
    let ks = range_with_len 1 count in
    let here = row_at f count row (fits row) in
    let rest = sum_by_number f count rows fits in
    let parts = sum_plus (sum_at f (row ∷ rows)) (λ k. cond (row.key.number == k) (f row) 0) (sum_at f rows) ks
    (λ k. sum_by-cons (λ r. cond (r.key.number == k) (f r) 0) row rows) in
    omega (arith, here, rest, parts, sum_by-cons f row rows)

-- at a place of the list any default reads the same
pub same_default : (xs : List AnswerRow) (k : ℕ) (a b : AnswerRow) → k < length xs → get_or xs k a ≡ get_or xs k b
same_default [] k a b within = absurd (omega arith)
same_default (x ∷ xs) zero a b within = refl
same_default (x ∷ xs) (suc k) a b within = same_default xs k a b (omega arith)

-- where one row alone gives something, all together give that
pub sum_alone : (f : AnswerRow → ℕ) (rows : List AnswerRow) (i : ℕ) (d : AnswerRow) → i < length rows
    → ((j : ℕ) → j < length rows → j ≢ i → f (get_or rows j d) ≡ 0) → sum_by f rows ≡ f (get_or rows i d)
sum_alone f [] i d within others = absurd (omega arith)
sum_alone f (row ∷ rows) zero d within others =
    let rest = sum_zeros f rows (λ k e in_rest. subst (λ r. f r ≡ 0) (same_default rows k d e in_rest)
    (others (suc k) (omega arith) (λ same. cc))) in
    omega (arith, rest, sum_by-cons f row rows)
sum_alone f (row ∷ rows) (suc i) d within others =
    let here : f row ≡ 0 = others 0 (omega arith) (λ same. cc) in
    let rest = sum_alone f rows i d (omega arith) (λ j in_rest apart. others (suc j) (omega arith)
    (λ same. apart (omega arith))) in
    omega (arith, here, rest, sum_by-cons f row rows)

-- ---- a first and a last one of the answers that pass a test
cons_there : (x y : AnswerRow) (xs : List AnswerRow) → Contains xs y → Contains (x ∷ xs) y
cons_there x y xs among = (suc among.0, omega (arith, among.1), among.2)

cons_here : (x : AnswerRow) (xs : List AnswerRow) → Contains (x ∷ xs) x
cons_here x xs = (0, omega arith, refl)

cons_cases : (x y : AnswerRow) (xs : List AnswerRow) → Contains (x ∷ xs) y → (x ≡ y) ⊎ Contains xs y
cons_cases x y xs (zero, within, same) = inl same
cons_cases x y xs (suc k, within, same) = inr (k, omega arith, same)

-- the row passes, and stands so to each other one that passes
record IsBest (R : AnswerRow → AnswerRow → Type 0) (p : AnswerRow → Bool) (rows : List AnswerRow) (row : AnswerRow) :
    Type 0 where
  among : Contains rows row
  passes : p row ≡ true
  best : (other : AnswerRow) → Contains rows other → p other ≡ true → R row other

abbrev NonePasses : (AnswerRow → Bool) → List AnswerRow → Type 0
NonePasses p rows = (other : AnswerRow) → Contains rows other → p other ≡ false

-- a relation by which two numbers can always be compared
record IsRanking (R : AnswerRow → AnswerRow → Type 0) : Type 0 where
  either : (a b : AnswerRow) → R a b ⊎ R b a
  through : (a b c : AnswerRow) → R a b → R b c → R a c

itself : (R : AnswerRow → AnswerRow → Type 0) → IsRanking R → (a : AnswerRow) → R a a
itself R ranks a = elim (ranks.either a a) [ inl h ↦ h | inr h ↦ h ]

keeps_best : (R : AnswerRow → AnswerRow → Type 0) (p : AnswerRow → Bool) (row found : AnswerRow) (rows : List AnswerRow)
    → IsBest R p rows found → (p row ≡ true → R found row) → IsBest R p (row ∷ rows) found
keeps_best R p row found rows is below = record {
  among = cons_there row found rows is.among;
  passes = is.passes;
  best = λ other among passes. elim (cons_cases row other rows among) [
    | inl same ↦ subst (R found) same (below (subst (λ r. p r ≡ true) (sym same) passes))
    | inr rest ↦ is.best other rest passes
  ];
}

takes_best : (R : AnswerRow → AnswerRow → Type 0) (p : AnswerRow → Bool) → IsRanking R
    → (row : AnswerRow) (rows : List AnswerRow) → p row ≡ true
    → ((other : AnswerRow) → Contains rows other → p other ≡ true → R row other) → IsBest R p (row ∷ rows) row
takes_best R p ranks row rows passes above = record {
  among = cons_here row rows;
  passes = passes;
  best = λ other among also. elim (cons_cases row other rows among) [
    | inl same ↦ subst (R row) same (itself R ranks row)
    | inr rest ↦ above other rest also
  ];
}

best_of : (R : AnswerRow → AnswerRow → Type 0) (p : AnswerRow → Bool) → IsRanking R → (rows : List AnswerRow)
    → ((row : AnswerRow) × IsBest R p rows row) ⊎ NonePasses p rows
best_of R p ranks [] = inr (λ other among. absurd (omega (arith, among.1)))
best_of R p ranks (row ∷ rows) =
    by_bool (((r : AnswerRow) × IsBest R p (row ∷ rows) r) ⊎ NonePasses p (row ∷ rows)) (p row)
    (λ passes. elim (best_of R p ranks rows) [
      | inl found ↦ elim (ranks.either row found.0) [
        | inl before ↦ inl (
          row,
          takes_best R p ranks row rows passes
              (λ other among also. ranks.through row found.0 other before (found.1.best other among also)),
        )
        | inr after ↦ inl (found.0, keeps_best R p row found.0 rows found.1 (λ _. after))
      ]
      | inr none ↦ inl (
        row,
        takes_best R p ranks row rows passes
            (λ other among also. absurd (true_false (p other) also (none other among))),
      )
    ])
    (λ fails. elim (best_of R p ranks rows) [
      | inl found ↦ inl (
        found.0,
        keeps_best R p row found.0 rows found.1
            (λ passes. absurd (true_false (p row) passes fails)),
      )
      | inr none ↦ inr (λ other among. elim (cons_cases row other rows among) [
        | inl same ↦ subst (λ r. p r ≡ false) same fails
        | inr rest ↦ none other rest
      ])
    ])

pub not_less : (a b : ℕ) → nat_lt a b ≡ false → b ≤ a
not_less a b e = grind (arith, nat_tests)

pub less : (a b : ℕ) → nat_lt a b ≡ true → a < b
less a b e = grind (arith, nat_tests)

le_either : (a b : ℕ) → (a ≤ b) ⊎ (b ≤ a)
le_either a b = by_bool ((a ≤ b) ⊎ (b ≤ a)) (nat_lt a b) (λ e. let h = less a b e in inl (omega (arith, h)))
    (λ e. inr (not_less a b e))

rising : IsRanking (λ a b. a.n ≤ b.n)
rising = record { either = λ a b. le_either a.n b.n; through = λ a b c h g. omega arith }

falling : IsRanking (λ a b. b.n ≤ a.n)
falling = record { either = λ a b. le_either b.n a.n; through = λ a b c h g. omega arith }

first_right : (answers : List AnswerRow) (number : ℕ) → ((row : AnswerRow) × IsFirstRight number answers row)
    ⊎ ((row : AnswerRow) → IsAnswerTo number answers row → ¬ (IsAnswerRight row))
first_right answers number = elim (best_of (λ a b. a.n ≤ b.n) (λ row. (row.key.number == number) && is_right row) rising
    answers) [
      | inl found ↦
          let parts = two_parts (found.0.key.number == number) (is_right found.0) found.1.passes in
          inl (
            found.0,
            record {
              to = record { given = found.1.among; puzzle = eqb_true found.0.key.number number parts.0 };
              right = eqb_true found.0.verdict 0 parts.1;
              first = λ other to right. found.1.best other to.given
                  (both_true (other.key.number == number) (is_right other) (eqb_same other.key.number number to.puzzle)
                  (eqb_same other.verdict 0 right));
            },
          )
      | inr none ↦ inr (λ row to right. true_false ((row.key.number == number) && is_right row)
          (both_true (row.key.number == number) (is_right row) (eqb_same row.key.number number to.puzzle)
          (eqb_same row.verdict 0 right)) (none row to.given))
    ]

last_answer : (answers : List AnswerRow) (number : ℕ) → ((row : AnswerRow) × IsLast number answers row)
    ⊎ ((row : AnswerRow) → ¬ (IsAnswerTo number answers row))
last_answer answers number = elim (best_of (λ a b. b.n ≤ a.n) (λ row. row.key.number == number) falling answers) [
  | inl found ↦ inl (
    found.0,
    record {
      to = record { given = found.1.among; puzzle = eqb_true found.0.key.number number found.1.passes };
      last = λ other to. found.1.best other to.given (eqb_same other.key.number number to.puzzle);
    },
  )
  | inr none ↦ inr (λ row to. true_false (row.key.number == number) (eqb_same row.key.number number to.puzzle)
      (none row to.given))
]

-- ---- the answer that counts
first_counts : (answers : List AnswerRow) (number : ℕ) (row : AnswerRow) → IsFirstRight number answers row
    → does_count Instant answers row ≡ true
first_counts answers number row is =
    let test = λ (other : AnswerRow). same_puzzle other row && (is_right other && nat_lt other.n row.n) in
    let none : has_right_before answers row ≡ false = list_any_none test answers
    (λ k d within. not_true (test (get_or answers k d)) (λ e.
    let other = get_or answers k d in
    let puzzle = two_parts (same_puzzle other row) (is_right other && nat_lt other.n row.n) e in
    let right = two_parts (is_right other) (nat_lt other.n row.n) puzzle.1 in
    let to : IsAnswerTo number answers other = record {
      given = Contains-get_or answers k d within;
      puzzle = eqb_true
          other.key.number row.key.number puzzle.0 ∙ is.to.puzzle;
    } in
    let above = is.first other to (eqb_true other.verdict 0 right.0) in
    let below = less other.n row.n right.1 in
    omega (arith, above, below))) in
    both_true (is_right row) (not (has_right_before answers row)) (eqb_same row.verdict 0 is.right)
    (not_false (has_right_before answers row) none)

last_counts : (answers : List AnswerRow) (number : ℕ) (row : AnswerRow) → IsLast number answers row
    → does_count Sealed answers row ≡ true
last_counts answers number row is =
    let test = λ (other : AnswerRow). same_puzzle other row && nat_lt row.n other.n in
    let none : has_later answers row ≡ false = list_any_none test answers
    (λ k d within. not_true (test (get_or answers k d)) (λ e.
    let other = get_or answers k d in
    let puzzle = two_parts (same_puzzle other row) (nat_lt row.n other.n) e in
    let to : IsAnswerTo number answers other = record {
      given = Contains-get_or answers k d within;
      puzzle = eqb_true
          other.key.number row.key.number puzzle.0 ∙ is.to.puzzle;
    } in
    let below = is.last other to in
    let above = less row.n other.n puzzle.1 in
    omega (arith, above, below))) in
    not_false (has_later answers row) none

-- no two answers to one puzzle count
others_idle : (mode : Mode) (answers : List AnswerRow) → AreNumbered answers → (i j : ℕ) (d : AnswerRow)
    → i < length answers → j < length answers → j ≢ i → (get_or answers j d).key.number ≡
    (get_or answers i d).key.number → does_count mode answers (get_or answers i d) ≡ true
    → does_count mode answers (get_or answers j d) ≡ false
others_idle mode answers numbered i j d in_i in_j apart puzzle one = not_true
    (does_count mode answers (get_or answers j d)) (λ other.
    let n = counts_once mode answers i j d in_i in_j (eqb_same (get_or answers i d).key.number
    (get_or answers j d).key.number (sym puzzle)) one other in
    by_bool ⊥ (nat_lt i j)
    (λ e. numbered i j d (less i j e) in_j (sym puzzle) n)
    (λ e. let h = not_less i j e in numbered j i d (omega (arith, apart, h)) in_i puzzle (sym n)))

idle_gain : (b : Bool) (x : ℕ) → (b ≡ true → x ≡ 0) → cond b x 0 ≡ 0
idle_gain true x none = none refl
idle_gain false x none = refl

middle_false : (a b c : Bool) → b ≡ false → (a && (b && c)) ≡ false
middle_false true b c e = rw e refl
middle_false false b c e = refl

end_false : (a b c : Bool) → c ≡ false → (a && (b && c)) ≡ false
end_false true true c e = e
end_false true false c e = refl
end_false false b c e = refl

-- where an answer counts, its puzzle gives what the answer gives
given_is : (round : RoundRow) (answers : List AnswerRow) → AreNumbered answers → (number : ℕ) (row : AnswerRow)
    → IsAnswerTo number answers row → does_count round.round.mode answers row ≡ true
    → sum_at (points_for round answers) answers number ≡ points_for round answers row
given_is round answers numbered number row to counts =
    let i = to.given.0 in
    let gain = λ (r : AnswerRow). cond (r.key.number == number) (points_for round answers r) 0 in
    let here : get_or answers i row ≡ row = to.given.2 in
    let counts_here : does_count round.round.mode answers (get_or answers i row) ≡ true = subst
    (λ r. does_count round.round.mode answers r ≡ true) (sym here) counts in
    let puzzle_here : (get_or answers i row).key.number ≡ number = ap (λ r. r.key.number) here ∙ to.puzzle in
    sum_alone gain answers i row to.given.1
    (λ j within apart. let other = get_or answers j row in idle_gain (other.key.number == number)
    (points_for round answers other) (λ e.
    let idle = others_idle round.round.mode answers numbered i j row to.given.1 within apart
    (eqb_true other.key.number number e ∙ sym puzzle_here) counts_here in
    no_points round answers other (middle_false (is_some (entry_at round.puzzles other.key.number))
    (does_count round.round.mode answers other) (is_right other) idle)))
    ∙ (ap gain here ∙ ap (λ b. cond b (points_for round answers row) 0) (eqb_same row.key.number number to.puzzle))

-- what an answer gives where it scores
scored : (round : RoundRow) (answers : List AnswerRow) (row : AnswerRow) (entry : Entry) (mode : Mode)
    → round.round.mode ≡ mode → entry_at round.puzzles row.key.number ≡ Some entry → does_count mode answers row ≡ true
    → IsAnswerRight row → points_for round answers row ≡ entry.points - cost_of round mode answers row
scored round answers row entry mode is at counts right =
    let scores : does_score round answers row ≡ true =
    both_true (is_some (entry_at round.puzzles row.key.number))
    (does_count round.round.mode answers row && is_right row) (ap is_some at)
    (both_true (does_count round.round.mode answers row) (is_right row) (ap (λ m. does_count m answers row) is ∙ counts)
    (eqb_same row.verdict 0 right)) in
    ap (λ b. cond b (points_of (entry_at round.puzzles row.key.number) - cost_of round round.round.mode answers row) 0)
    scores
    ∙ (ap (λ e. points_of e - cost_of round round.round.mode answers row) at
    ∙ ap (λ m. entry.points - cost_of round m answers row) is)

gives_instant : (round : RoundRow) (answers : List AnswerRow) → AreNumbered answers → (number : ℕ) (entry : Entry)
    → entry_at round.puzzles number ≡ Some entry → round.round.mode ≡ Instant
    → GivesInstant round.round.penalty answers number entry.points (sum_at (points_for round answers) answers number)
gives_instant round answers numbered number entry at mode = elim (first_right answers number) [
  | inl found ↦
      let row = found.0 in
      let is = found.1 in
      let counts = first_counts answers number row is in
      inl (
        row,
        is,
        given_is round answers numbered number row is.to (ap (λ m. does_count m answers row) mode ∙ counts)
            ∙ (scored round answers row entry Instant mode (ap (entry_at round.puzzles) is.to.puzzle ∙ at) counts
            is.right
            ∙ ap (λ k. entry.points - wrong_before_n k answers row.n * round.round.penalty) is.to.puzzle),
      )
  | inr none ↦ inr (
    none,
    sum_zeros (λ r. cond (r.key.number == number) (points_for round answers r) 0) answers (λ k d within.
        let row = get_or answers k d in
        idle_gain (row.key.number == number) (points_for round answers row) (λ e.
        let wrong : is_right row ≡ false = not_true (is_right row)
        (λ right. none row (record {
          given = Contains-get_or answers k d within;
          puzzle = eqb_true row.key.number
              number e;
        }) (eqb_true row.verdict 0 right)) in
        no_points round answers row (end_false (is_some (entry_at round.puzzles row.key.number))
        (does_count round.round.mode answers row) (is_right row) wrong))),
  )
]

gives_sealed : (round : RoundRow) (answers : List AnswerRow) → AreNumbered answers → (number : ℕ) (entry : Entry)
    → entry_at round.puzzles number ≡ Some entry → round.round.mode ≡ Sealed
    → GivesSealed answers number entry.points (sum_at (points_for round answers) answers number)
gives_sealed round answers numbered number entry at mode = elim (last_answer answers number) [
  | inl found ↦
      let row = found.0 in
      let is = found.1 in
      let counts = last_counts answers number row is in
      let given = given_is round answers numbered number row is.to (ap (λ m. does_count m answers row) mode ∙ counts) in
      inl (
        row,
        is,
        (λ right. let points = scored round answers row entry Sealed mode
            (ap (entry_at round.puzzles) is.to.puzzle ∙ at) counts right in omega (arith, given, points)),
        (λ wrong. given ∙ no_points round answers row (end_false (is_some (entry_at round.puzzles row.key.number))
            (does_count round.round.mode answers row) (is_right row)
            (not_true (is_right row) (λ e. wrong (eqb_true row.verdict 0 e))))),
      )
  | inr none ↦ inr (
    none,
    sum_zeros (λ r. cond (r.key.number == number) (points_for round answers r) 0) answers (λ k d within.
        let row = get_or answers k d in
        idle_gain (row.key.number == number) (points_for round answers row)
        (λ e. absurd (none row (record {
          given = Contains-get_or answers k d within;
          puzzle = eqb_true
              row.key.number number e;
        })))),
  )
]

-- each puzzle gives what the rules say, by the round's mode
pub gives_by : (mode : Mode) (round : RoundRow) (answers : List AnswerRow) → AreNumbered answers
    → (number : ℕ) (entry : Entry) → entry_at round.puzzles number ≡ Some entry → round.round.mode ≡ mode
    → GivesPoints mode round.round.penalty answers number entry.points
    (sum_at (points_for round answers) answers number)
gives_by Instant round answers numbered number entry at is = gives_instant round answers numbered number entry at is
gives_by Sealed round answers numbered number entry at is = gives_sealed round answers numbered number entry at is

-- ---- the answers that score
-- a right answer that counts
pub solves_counts : (mode : Mode) (number : ℕ) (answers : List AnswerRow) (row : AnswerRow)
    → CountsAsRight mode number answers row → IsAnswerTo number answers row × (does_count mode answers row ≡ true)
    × IsAnswerRight row
solves_counts Instant number answers row is = (is.to, first_counts answers number row is, is.right)
solves_counts Sealed number answers row is = (is.0.to, last_counts answers number row is.0, is.1)

negated : (b : Bool) → not b ≡ true → b ≡ false
negated true e = absurd (cc)
negated false e = refl

pub any_at : (p : AnswerRow → Bool) (rows : List AnswerRow) (row : AnswerRow) → Contains rows row → p row ≡ true
    → list_any p rows ≡ true
any_at p rows row among passes = list_any_at p rows among.0 row among.1 (subst (λ r. p r ≡ true) (sym among.2) passes)

pub counts_solves : (mode : Mode) (number : ℕ) (answers : List AnswerRow) (row : AnswerRow)
    → IsAnswerTo number answers row → does_count mode answers row ≡ true → is_right row ≡ true
    → CountsAsRight mode number answers row
counts_solves Instant number answers row to counts right = record {
  to = to;
  right = eqb_true row.verdict 0 right;
  first = λ other also correct.
      let none = negated (has_right_before answers row) (two_parts (is_right row) (not (has_right_before answers row))
      counts).1 in
      not_less other.n row.n (not_true (nat_lt other.n row.n) (λ e.
      let test = λ (o : AnswerRow). same_puzzle o row && (is_right o && nat_lt o.n row.n) in
      true_false (has_right_before answers row) (any_at test answers other also.given
      (both_true (same_puzzle other row) (is_right other && nat_lt other.n row.n)
      (eqb_same other.key.number row.key.number (also.puzzle ∙ sym to.puzzle))
      (both_true (is_right other) (nat_lt other.n row.n) (eqb_same other.verdict 0 correct) e))) none));
}
counts_solves Sealed number answers row to counts right = (
  record {
    to = to;
    last = λ other also.
        let none = negated (has_later answers row) counts in
        not_less row.n other.n (not_true (nat_lt row.n other.n) (λ e.
        let test = λ (o : AnswerRow). same_puzzle o row && nat_lt row.n o.n in
        true_false (has_later answers row) (any_at test answers other also.given
        (both_true (same_puzzle other row) (nat_lt row.n other.n)
        (eqb_same other.key.number row.key.number (also.puzzle ∙ sym to.puzzle)) e)) none));
  },
  eqb_true row.verdict 0 right,
)
