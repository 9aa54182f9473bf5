-- The rules give no second total.
use Rattle.std.proofs.Common.{arith, ◌≡◌, ◌<◌, ◌+◌, ◌-◌, ◌*◌, ◌+ℤ◌, ◌*ℤ◌, ◌==◌, inl, inr, ℕ, ℤ, pos, negsuc, List}
use Rattle.std.proofs.Common.{length, sym, ap, subst, get_or, ◌∙◌, sum_by, nat_lt}
use Rattle.std.specs.List.{range_with_len}
use Rattle.std.proofs.lemmas.List.FromFn.{length-range_with_len, get_or-range_with_len}
use Rattle.std.proofs.lemmas.Int.{ints}
use Rattle.hall_policy.specs.World.{end_of}
use Rattle.hall_policy.specs.declared.record.RoundRow.{RoundRow}
use Rattle.hall_policy.specs.declared.record.AnswerRow.{AnswerRow}
use Rattle.hall_policy.specs.declared.record.Mode.{Mode}
use Rattle.hall_policy.specs.declared.record.Mode.TheVariants.{Instant, Sealed}
use Rattle.hall_score.specs.Total.{is_right}
use Rattle.hall_score.specs.Laws.{AreNumbered, IsAnswerRight, IsLast, wrong_before_n, GivesInstant, GivesSealed}
use Rattle.hall_score.specs.Laws.{GivesPoints, IsLastMoment, AreMinutes, IsBonus, upheld_points, TotalsAreOne}
use Rattle.hall_score.proofs.Counting.{by_bool, eqb_true, eqb_same, not_less, less, same_default, sum_equal}
use Rattle.hall_score.proofs.Scores.{entry_of, true_false}

-- ---- a puzzle
instant_once : (penalty : ℕ) (answers : List AnswerRow) (number points one other : ℕ)
    → GivesInstant penalty answers number points one → GivesInstant penalty answers number points other → one ≡ other
instant_once penalty answers number points one other (inl a) (inl b) =
    let up = a.1.first b.0 b.1.to b.1.right in
    let down = b.1.first a.0 a.1.to a.1.right in
    let same : a.0.n ≡ b.0.n = omega (arith, up, down) in
    a.2 ∙ (ap (λ n. points - wrong_before_n number answers n * penalty) same ∙ sym b.2)
instant_once penalty answers number points one other (inl a) (inr b) = absurd (b.0 a.0 a.1.to a.1.right)
instant_once penalty answers number points one other (inr a) (inl b) = absurd (a.0 b.0 b.1.to b.1.right)
instant_once penalty answers number points one other (inr a) (inr b) = a.1 ∙ sym b.1

-- two last answers stand at one place
one_last : (answers : List AnswerRow) → AreNumbered answers → (number : ℕ) (a b : AnswerRow) → IsLast number answers a
    → IsLast number answers b → a ≡ b
one_last answers numbered number a b one other =
    let i = one.to.given.0 in
    let j = other.to.given.0 in
    let here : get_or answers i a ≡ a = one.to.given.2 in
    let there : get_or answers j a ≡ b = same_default answers j a b other.to.given.1 ∙ other.to.given.2 in
    let up = one.last b other.to in
    let down = other.last a one.to in
    let same_n : (get_or answers i a).n ≡ (get_or answers j a).n = ap (λ r. r.n) here
    ∙ (omega (arith, up, down) ∙ sym (ap (λ r. r.n) there)) in
    let same_puzzle : (get_or answers i a).key.number ≡ (get_or answers j a).key.number = ap (λ r. r.key.number) here
    ∙ (one.to.puzzle ∙ (sym other.to.puzzle ∙ sym (ap (λ r. r.key.number) there))) in
    by_bool (a ≡ b) (i == j)
    (λ e. sym here ∙ (ap (λ k. get_or answers k a) (eqb_true i j e) ∙ there))
    (λ e. by_bool (a ≡ b) (nat_lt i j)
    (λ before. absurd (numbered i j a (less i j before) other.to.given.1 same_puzzle same_n))
    (λ after.
    let apart : i ≡ j → ⊥ = λ same. true_false (i == j) (eqb_same i j same) e in
    let h = not_less i j after in
    absurd (numbered j i a (omega (arith, apart, h)) one.to.given.1 (sym same_puzzle) (sym same_n))))

sealed_once : (answers : List AnswerRow) → AreNumbered answers → (number points one other : ℕ)
    → GivesSealed answers number points one → GivesSealed answers number points other → one ≡ other
sealed_once answers numbered number points one other (inl a) (inl b) =
    let same : a.0 ≡ b.0 = one_last answers numbered number a.0 b.0 a.1 b.1 in
    by_bool (one ≡ other) (is_right a.0)
    (λ e. let right = eqb_true a.0.verdict 0 e in a.2 right ∙ sym (b.2 (subst IsAnswerRight same right)))
    (λ e.
    let wrong : ¬ (IsAnswerRight a.0) = λ right. true_false (is_right a.0) (eqb_same a.0.verdict 0 right) e in
    a.3 wrong ∙ sym (b.3 (λ right. wrong (subst IsAnswerRight (sym same) right))))
sealed_once answers numbered number points one other (inl a) (inr b) = absurd (b.0 a.0 a.1.to)
sealed_once answers numbered number points one other (inr a) (inl b) = absurd (a.0 b.0 b.1.to)
sealed_once answers numbered number points one other (inr a) (inr b) = a.1 ∙ sym b.1

gives_once : (mode : Mode) (penalty : ℕ) (answers : List AnswerRow) → AreNumbered answers
    → (number points one other : ℕ) → GivesPoints mode penalty answers number points one
    → GivesPoints mode penalty answers number points other → one ≡ other
gives_once Instant penalty answers numbered number points one other a b = instant_once penalty answers number points one
    other a b
gives_once Sealed penalty answers numbered number points one other a b = sealed_once answers numbered number points one
    other a b

-- ---- the bonus
moment_once : (round : RoundRow) (answers : List AnswerRow) (one other : ℕ) → IsLastMoment round answers one
    → IsLastMoment round answers other → one ≡ other
moment_once round answers one other a b =
    let up = b.greatest a.reached.0 a.reached.1 a.reached.2 a.reached.3 in
    let down = a.greatest b.reached.0 b.reached.1 b.reached.2 b.reached.3 in
    omega (arith, up, down, a.reached.4, b.reached.4)

minutes_once : (moment end : ℕ) (one other : ℤ) → AreMinutes moment end one → AreMinutes moment end other → one ≡ other
minutes_once moment end (pos n) (pos k) a b = omega (arith, ints, a.fit, a.no_more, b.fit, b.no_more)
minutes_once moment end (pos n) (negsuc k) a b = omega (arith, ints, a.fit, a.no_more, b.fit, b.no_more)
minutes_once moment end (negsuc n) (pos k) a b = omega (arith, ints, a.fit, a.no_more, b.fit, b.no_more)
minutes_once moment end (negsuc n) (negsuc k) a b = omega (arith, ints, a.fit, a.no_more, b.fit, b.no_more)

bonus_once : (round : RoundRow) (answers : List AnswerRow) (one other : ℤ) → IsBonus round answers one
    → IsBonus round answers other → one ≡ other
bonus_once round answers one other (inl a) (inl b) =
    let same = moment_once round answers a.1.0 b.1.0 a.1.2 b.1.2 in
    let minutes = minutes_once b.1.0 (end_of round.round) a.1.1 b.1.1
    (subst (λ m. AreMinutes m (end_of round.round) a.1.1) same a.1.3) b.1.3 in
    a.1.4 ∙ (ap (λ z. pos round.round.bonus *ℤ z) minutes ∙ sym b.1.4)
bonus_once round answers one other (inl a) (inr b) = absurd (b.0 a.0)
bonus_once round answers one other (inr a) (inl b) = absurd (a.0 b.0)
bonus_once round answers one other (inr a) (inr b) = a.1 ∙ sym b.1

-- ---- the total
pub totals_are_one : TotalsAreOne
totals_are_one round answers protests one other numbered a b =
    let count = length round.puzzles in
    let ks = range_with_len 1 count in
    let given : sum_by a.given ks ≡ sum_by b.given ks = sum_equal a.given b.given ks (λ k d within.
    let index : k < count = omega (arith, within, length-range_with_len 1 count) in
    let at = get_or-range_with_len 1 count k d index in
    let entry = entry_of round.puzzles (1 + k) (omega arith) (omega (arith, index)) in
    let same = gives_once round.round.mode round.round.penalty answers numbered (1 + k) entry.0.points (a.given (1 + k))
    (b.given (1 + k)) (a.each (1 + k) entry.0 entry.1) (b.each (1 + k) entry.0 entry.1) in
    ap a.given at ∙ (same ∙ sym (ap b.given at))) in
    let bonus = bonus_once round answers a.bonus b.bonus a.bonus_is b.bonus_is in
    a.total_is ∙ (ap (λ n. (pos n +ℤ a.bonus) +ℤ upheld_points protests) given
    ∙ (ap (λ z. (pos (sum_by b.given ks) +ℤ z) +ℤ upheld_points protests) bonus ∙ sym b.total_is))
