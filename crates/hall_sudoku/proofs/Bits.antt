-- Sets of values as bits.
use Rattle.std.proofs.Common.{◌≡◌, ◌≢◌, ℕ, ◌-◌, ◌*◌, ◌%◌, ◌^◌, ◌<◌, ◌⊎◌, ◌↔◌, IsTrue, bit_and, bit_or, not, eqb, sym}
use Rattle.std.proofs.Common.{◌∙◌, ap, subst, inl, inr, arith, w32}
use Rattle.std.specs.Int.{bit_at, trailing_zeros}
use Rattle.std.specs.Int.Bits.{and_lt}
use Rattle.std.proofs.Math.Nat.{mod-eq_of_lt}
use Rattle.std.proofs.Math.Pow.{pow_pos, pow-lt}
use Rattle.std.proofs.lemmas.Bool.{cases_eq, cases_lt, eqb-false, ne_eqb, not-true, not_from_false}
use Rattle.std.proofs.lemmas.Nat.Bits.{bit_at-lt, bit_at_and, bit_at_or, bit_at_not, bit_at_above, bit_at_ones}
use Rattle.std.proofs.lemmas.Nat.Bits.{bit_at_ones_above, bit_at-pow_same, bit_at-pow_other, bit_at-zero, and_pow}
use Rattle.std.proofs.lemmas.Nat.Bits.{bit_at-trailing_zeros, same_from_bits}
use Rattle.hall_sudoku.specs.Values.{Has, HasTwo}

pub not_has : (s v : ℕ) → (Has s v → ⊥) → bit_at s v ≡ 0
not_has s v none =
    elim (cases_eq (bit_at s v) 1) [
      | inl e ↦ absurd (none e)
      | inr ne ↦ omega (arith, bit_at-lt s v)
    ]

pub zero_has : (v : ℕ) → Has 0 v → ⊥
zero_has v h = omega (arith, bit_at-zero v)

pub has_none : (s : ℕ) → ((v : ℕ) → Has s v → ⊥) → s ≡ 0
has_none s none = same_from_bits s 0 (λ i. not_has s i (none i) ∙ sym (bit_at-zero i))

pub has_or : (a b v : ℕ) → Has (bit_or a b) v ↔ (Has a v ⊎ Has b v)
has_or a b v = (
  (λ h. elim (cases_eq (bit_at a v) 1) [
    | inl e ↦ inl e
    | inr ne ↦ inr
        (omega (arith, bit_at_or a b v, bit_at-lt a v, bit_at-lt b v))
  ]),
  (λ h. elim h [
    | inl e ↦ omega (arith, bit_at_or a b v, bit_at-lt b v)
    | inr e ↦ omega (arith, bit_at_or a b v, bit_at-lt a v)
  ]),
)

pub has_and : (a b v : ℕ) → Has (bit_and a b) v ↔ (Has a v × Has b v)
has_and a b v = (
  (λ h. (
    omega (arith, bit_at_and a b v, bit_at-lt a v, bit_at-lt b v),
    omega
        (arith, bit_at_and a b v, bit_at-lt a v, bit_at-lt b v),
  )),
  (λ h. omega (arith, bit_at_and a b v, h.0, h.1)),
)

-- a value of a set of 32 bits is below 32
pub has_small : (s v : ℕ) → s < 2 ^ 32 → Has s v → v < 32
has_small s v small h =
    elim (cases_lt v 32) [
      | inl lt ↦ lt
      | inr ge ↦ absurd (omega (arith, bit_at_above s 32 v small ge))
    ]

pub has_without : (a b v : ℕ) → a < 2 ^ 32 → b < 2 ^ 32 → Has (bit_and a (4294967295 - b)) v ↔ (Has a v × (Has b v → ⊥))
has_without a b v small_a small_b = (
  (λ h.
      let both = (has_and a (4294967295 - b) v).0 h in
      let lt : v < 32 = has_small a v small_a both.0 in
      let turned : bit_at (4294967295 - b) v ≡ 1 - bit_at b v = bit_at_not w32 b v small_b lt in
      (both.0, λ k. omega (arith, both.1, turned))),
  (λ h.
      let lt : v < 32 = has_small a v small_a h.0 in
      let turned : bit_at (4294967295 - b) v ≡ 1 - bit_at b v = bit_at_not w32 b v small_b lt in
      let off : bit_at b v ≡ 0 = not_has b v h.1 in
      (has_and a (4294967295 - b) v).1 (h.0, omega (arith, turned, off))),
)

-- one bit
pub one_bit : (k : ℕ) → k < 32 → 1 * 2 ^ k % 4294967296 ≡ 2 ^ k
one_bit k lt = let small : 2 ^ k < 2 ^ 32 = pow-lt lt in let one : 1 * 2 ^ k ≡ 2 ^ k = omega arith in ap
    (λ n. n % 4294967296) one ∙ mod-eq_of_lt small

pub has_of : (k v : ℕ) → k < 32 → Has (1 * 2 ^ k % 4294967296) v ↔ (v ≡ k)
has_of k v lt = (
  (λ h. elim (cases_eq v k) [
    | inl e ↦ e
    | inr ne ↦ absurd (let on : bit_at (2 ^ k) v ≡ 1 = (rw (one_bit k lt) at h) in
        omega (arith, bit_at-pow_other k v ne))
  ]),
  (λ e. rw (one_bit k lt, e) (bit_at-pow_same k)),
)

pub has_below : (k v : ℕ) → k < 32 → Has (1 * 2 ^ k % 4294967296 - 1) v ↔ (v < k)
has_below k v lt = (
  (λ h. elim (cases_lt v k) [
    | inl e ↦ e
    | inr ge ↦ absurd (let on : bit_at (2 ^ k - 1) v ≡ 1 =
        (rw (one_bit k lt) at h) in omega (arith, bit_at_ones_above k v ge))
  ]),
  (λ e. rw (one_bit k lt) (bit_at_ones k v e)),
)

pub has_tested : (s k : ℕ) → k < 32 → bit_and s (1 * 2 ^ k % 4294967296) ≡ bit_at s k * 2 ^ k
has_tested s k lt = rw (one_bit k lt) (and_pow s k)

pub bit_not_zero : (s k : ℕ) → (bit_at s k * 2 ^ k ≢ 0) ↔ Has s k
bit_not_zero s k = (
  (λ ne. elim (cases_eq (bit_at s k) 1) [
    | inl e ↦ e
    | inr off_one ↦
        (let off : bit_at s k ≡ 0 = omega (arith, bit_at-lt s k) in absurd
        (ne (ap (λ b. b * 2 ^ k) off ∙ omega arith)))
  ]),
  (λ e z. let p : 0 < 2 ^ k = pow_pos k in let one : bit_at s k * 2 ^ k ≡ 1 * 2 ^ k = ap (λ b. b * 2 ^ k) e in omega
      arith),
)

pub has_least : (s : ℕ) → s ≢ 0 → s < 2 ^ 32 → Has s (trailing_zeros w32 s) × (trailing_zeros w32 s < 32)
has_least s ne small = let all = bit_at-trailing_zeros w32 s (omega arith) small in (all.1, all.0)

-- the test of a bit
pub has_test : (s t k : ℕ) → s ≡ t → k < 32 → IsTrue (not (eqb (bit_and s (1 * 2 ^ k % 4294967296)) 0)) ↔ Has t k
has_test s t k e lt = (
  (λ yes. subst (λ x. Has x k) e ((bit_not_zero s k).0 (λ z. eqb-false _ _ (not-true _ yes) (has_tested s k lt ∙ z)))),
  (λ h. not_from_false _ (ne_eqb _ _ (λ z. (bit_not_zero s k).1 (subst (λ x. Has x k) (sym e) h)
      (sym (has_tested s k lt) ∙ z)))),
)

-- a set that is not its one value alone has another
pub has_two : (s k : ℕ) → s < 2 ^ 32 → Has s k → k < 32 → s ≢ 1 * 2 ^ k % 4294967296 → HasTwo s
has_two s k small has lt more =
    let small_one : 1 * 2 ^ k % 4294967296 < 2 ^ 32 = (rw (one_bit k lt) (pow-lt lt)) in
    let rest = bit_and s (4294967295 - 1 * 2 ^ k % 4294967296) in
    elim (cases_eq rest 0) [
      | inl none ↦ absurd (more (same_from_bits s (1 * 2 ^ k % 4294967296) (λ i. elim (cases_eq (bit_at s i) 1) [
        | inl on ↦ elim (cases_eq i k) [
          | inl e ↦ on ∙ sym ((has_of k i lt).1 e)
          | inr ne ↦ absurd (zero_has i (subst (λ x. Has x i) none
              ((has_without s (1 * 2 ^ k % 4294967296) i small small_one).1 (on, λ h. ne ((has_of k i lt).0 h)))))
        ]
        | inr off ↦ not_has s i off ∙ sym (not_has (1 * 2 ^ k % 4294967296) i
            (λ h. off (subst (λ j. Has s j) (sym ((has_of k i lt).0 h)) has)))
      ])))
      | inr some ↦
          let found = has_least rest some (and_lt 32 s (4294967295 - 1 * 2 ^ k % 4294967296) small (omega arith)) in
          let both = (has_without s (1 * 2 ^ k % 4294967296) (trailing_zeros w32 rest) small small_one).0 found.0 in
          record {
            first = k;
            second = trailing_zeros w32 rest;
            differ = λ e. both.1
                ((has_of k (trailing_zeros w32 rest) lt).1 (sym e));
            has_first = has;
            has_second = both.0;
          }
    ]
