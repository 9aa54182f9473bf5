-- Of one entrant's answers to a puzzle, those that score have one number; so where no two have one number, one at most
-- scores.
use Rattle.std.proofs.Common.{arith, ◌≡◌, ◌≤◌, ◌<◌, ◌&&◌, ℕ, List, length, Bool, true, false, not, refl, get_or, nat_lt}
use Rattle.std.proofs.lemmas.Bool.Decides.{nat_tests}
use Rattle.std.proofs.lemmas.List.Folds.{list_any_at}
use Rattle.hall_policy.specs.declared.record.AnswerRow.{AnswerRow}
use Rattle.hall_policy.specs.declared.record.Mode.{Mode}
use Rattle.hall_policy.specs.declared.record.Mode.TheVariants.{Instant, Sealed}
use Rattle.hall_score.specs.Total.{is_right, same_puzzle, has_right_before, has_later, does_count}

-- none of the right answers to the puzzle comes before one that has none before it
first : (rows : List AnswerRow) (row d : AnswerRow) (j : ℕ) → j < length rows → same_puzzle (get_or rows j d) row ≡ true
    → is_right (get_or rows j d) ≡ true → has_right_before rows row ≡ false → row.n ≤ (get_or rows j d).n
first rows row d j in_list same right none =
    let found = list_any_at (λ other. same_puzzle other row && (is_right other && nat_lt other.n row.n)) rows j d
    in_list in
    grind (arith, nat_tests, found)

-- none of the answers to the puzzle comes after one that has none after it
last : (rows : List AnswerRow) (row d : AnswerRow) (j : ℕ) → j < length rows → same_puzzle (get_or rows j d) row ≡ true
    → has_later rows row ≡ false → (get_or rows j d).n ≤ row.n
last rows row d j in_list same none =
    let found = list_any_at (λ other. same_puzzle other row && nat_lt row.n other.n) rows j d in_list in
    grind (arith, nat_tests, found)

both : (p q : Bool) → (p && q) ≡ true → (p ≡ true) × (q ≡ true)
both true true e = (refl, refl)
both true false e = cc
both false q e = cc

negated : (p : Bool) → not p ≡ true → p ≡ false
negated true e = cc
negated false e = refl

same_turned : (a b : AnswerRow) → same_puzzle a b ≡ true → same_puzzle b a ≡ true
same_turned a b same = grind (arith, nat_tests)

-- two answers to one puzzle that count have one number
pub counts_once : (mode : Mode) (rows : List AnswerRow) (i j : ℕ) (d : AnswerRow) → i < length rows → j < length rows
    → same_puzzle (get_or rows i d) (get_or rows j d) ≡ true → does_count mode rows (get_or rows i d) ≡ true
    → does_count mode rows (get_or rows j d) ≡ true → (get_or rows i d).n ≡ (get_or rows j d).n
counts_once Instant rows i j d in_i in_j same one other =
    let a = get_or rows i d in
    let b = get_or rows j d in
    let at_a = both (is_right a) (not (has_right_before rows a)) one in
    let at_b = both (is_right b) (not (has_right_before rows b)) other in
    let up : a.n ≤ b.n = first rows a d j in_j (same_turned a b same) at_b.0
    (negated (has_right_before rows a) at_a.1) in
    let down : b.n ≤ a.n = first rows b d i in_i same at_a.0 (negated (has_right_before rows b) at_b.1) in
    omega (arith, up, down)
counts_once Sealed rows i j d in_i in_j same one other =
    let a = get_or rows i d in
    let b = get_or rows j d in
    let up : b.n ≤ a.n = last rows a d j in_j (same_turned a b same) (negated (has_later rows a) one) in
    let down : a.n ≤ b.n = last rows b d i in_i same (negated (has_later rows b) other) in
    omega (arith, up, down)
