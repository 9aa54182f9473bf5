-- The header of a record: written in one way, and read as it was written.
use Rattle.std.proofs.Common.{◌≡◌, ◌∙◌, sym, ap, refl, arith, ℕ, ◌+◌, ◌<◌, ◌≤◌, ◌^◌, not, ◌==◌, Bool, true, false, List}
use Rattle.std.proofs.Common.{[], ◌∷◌, ◌++◌, length, take, drop, get_or, Option, Some, None, decimal, option_map}
use Rattle.std.proofs.Common.{length-append}
use Rattle.std.specs.Prelude.{if◌then◌else◌, nat_eq, codes, option_and_then}
use Rattle.std.specs.Char.{is_ascii_digit}
use Rattle.std.specs.List.{position, position_or_len, starts_with}
use Rattle.std.proofs.lemmas.Bool.{and_parts, and_from, leb-true, le-leb, lt-ltb, eq-eqb, eqb-true, ne_eqb}
use Rattle.std.proofs.lemmas.Bool.{not_from_false}
use Rattle.std.proofs.lemmas.List.{take_at}
use Rattle.std.proofs.lemmas.List.Sums.{list_all-from_AllPass, AllPass-from_list_all}
use Rattle.std.proofs.lemmas.List.Folds.{list_all-append}
use Rattle.std.proofs.lemmas.Fmt.{length-decimal-le, digits_decimal}
use Rattle.std.proofs.Math.Seq.{drop-append-add}
use Rattle.hall_policy.specs.Limits.{last_second}
use Rattle.hall_http.specs.Words.{cut, decimal_in}
use Rattle.hall_http.specs.Records.{header_of, header_in, numbers_in}
use Rattle.hall_http.proofs.Texts.{own, AreDigits, number_writes, number_reads}
use Rattle.hall_http.proofs.Splits.{Free, found_split}

digit_high : (byte : ℕ) → is_ascii_digit byte ≡ true → 48 ≤ byte
digit_high byte e = leb-true 48 byte (and_parts _ _ e).0

digits_free : (x : ℕ) (text : List ℕ) → x < 48 → AreDigits text → Free x text
digits_free x text low e =
    list_all-from_AllPass (λ y. not (y == x)) text (λ k d inside.
    let high : 48 ≤ get_or text k d = digit_high _ (AllPass-from_list_all is_ascii_digit text e k d inside) in
    not_from_false _ (ne_eqb _ x (λ z. absurd (omega arith))))

decimal_free : (x n : ℕ) → x < 48 → n < 2 ^ 64 → Free x (decimal n)
decimal_free x n low small = digits_free x (decimal n) low (digits_decimal own n small)

pub header_free : (m n : ℕ) → m < 2 ^ 64 → n < 2 ^ 64 → Free 10 (header_of m n)
header_free m n small few =
    list_all-append (λ y. not (y == 10)) (decimal m) (32 ∷ decimal n)
    ∙ and_from _ _ (decimal_free 10 m (omega arith) small) (decimal_free 10 n (omega arith) few)

pub header_short : (m n : ℕ) → m ≤ last_second → n ≤ 73728 → length (header_of m n) ≤ 17
header_short m n late long =
    let a : length (decimal m) ≤ 10 = length-decimal-le 10 m (omega arith) (omega arith) (omega arith) in
    let b : length (decimal n) ≤ 5 = length-decimal-le 5 n (omega arith) (omega arith) (omega arith) in
    omega (arith, length-append (decimal m) (32 ∷ decimal n))

place_at : (x : ℕ) (a b : List ℕ) → Free x a → position_or_len (λ y. y == x) (a ++ x ∷ b) ≡ length a
place_at x [] b f = rw (eq-eqb x x refl) refl
place_at x (y ∷ a) b f =
    let first : not (y == x) ≡ true = (and_parts _ _ f).0 in
    let rest = place_at x a b (and_parts _ _ f).1 in rw first (omega arith)

pub cut_at : (x : ℕ) (a b : List ℕ) → Free x a → cut x (a ++ x ∷ b) ≡ Some (a, b)
cut_at x a b f =
    let inside : length a < length (a ++ x ∷ b) = omega (arith, length-append a (x ∷ b)) in
    let front : take (length a) (a ++ x ∷ b) ≡ a = take_at a (x ∷ b) (length a) refl in
    let rest : drop (length a + 1) (a ++ x ∷ b) ≡ b = drop-append-add a (x ∷ b) 1 in
    rw (place_at x a b f, lt-ltb _ _ inside, front, rest) refl

-- what was written is read
pub header_reads : (m n : ℕ) → m ≤ last_second → n ≤ 73728 → header_in (header_of m n) ≡ Some (m, n)
header_reads m n late long =
    let small : m < 2 ^ 64 = omega arith in
    let few : n < 2 ^ 64 = omega arith in
    rw (
      cut_at 32 (decimal m) (decimal n) (decimal_free 32 m (omega arith) small),
      number_reads m small,
      number_reads n few,
      le-leb m last_second late,
      le-leb n 73728 long,
    ) refl

and_then_some : {A B : Type 0} (f : A → Option B) (o : Option A) (v : B) → option_and_then f o ≡ Some v
    → (x : A) × (o ≡ Some x) × (f x ≡ Some v)
and_then_some f None v e = absurd cc
and_then_some f (Some x) v e = (x, refl, e)

map_some : {A B : Type 0} (f : A → B) (o : Option A) (v : B) → option_map f o ≡ Some v
    → (x : A) × (o ≡ Some x) × (f x ≡ v)
map_some f None v e = absurd cc
map_some f (Some x) v e = (x, refl, cc)

if_some : {A : Type 0} (b : Bool) (x v : A) → (if b then Some x else None) ≡ Some v → (b ≡ true) × (x ≡ v)
if_some true x v e = (refl, cc)
if_some false x v e = absurd cc

marked : (line : List ℕ) → starts_with nat_eq line (codes "@") ≡ true → line ≡ 64 ∷ drop 1 line
marked [] e = absurd cc
marked (y ∷ rest) e = ap (λ z. z ∷ rest) (sym (eqb-true 64 y (and_parts _ _ e).0))

numbers_told : (a b : List ℕ) (m n : ℕ) → numbers_in (a, b) ≡ Some (m, n)
    → (a ≡ decimal m) × (b ≡ decimal n) × (m ≤ last_second) × (n ≤ 73728)
numbers_told a b m n e =
    let (x, xs, more) = and_then_some _ (decimal_in a) (m, n) e in
    let (y, ys, last) = and_then_some _ (decimal_in b) (m, n) more in
    let (both, same) = if_some _ (x, y) (m, n) last in
    let (late, long) = and_parts _ _ both in
    let first : x ≡ m = ap (λ p. p.0) same in
    let second : y ≡ n = ap (λ p. p.1) same in (
      (number_writes a x xs).0 ∙ ap decimal first,
      (number_writes b y ys).0 ∙ ap decimal second,
      rw first at (leb-true x last_second late),
      rw second at (leb-true y 73728 long),
    )

-- what is read was written
pub header_writes : (line : List ℕ) (m n : ℕ) → header_in line ≡ Some (m, n)
    → (line ≡ header_of m n) × (m ≤ last_second) × (n ≤ 73728)
header_writes line m n e =
    let (parts, cuts, numbers) = and_then_some numbers_in _ (m, n) e in
    let (rest, fronts, halves) = and_then_some (cut 32) _ parts cuts in
    let (starts, follows) = if_some _ (drop 1 line) rest fronts in
    let (i, found, same) = map_some _ (position (λ y. y == 32) rest) parts halves in
    let (a, b, late, long) = numbers_told (take i rest) (drop (i + 1) rest) m n (rw (← same) at numbers) in
    let split = (found_split 32 rest i found).1 in
    (marked line starts ∙ ap (λ s. 64 ∷ s) (follows ∙ split ∙ rw (a, b) refl), late, long)
