-- Columns and rows that are refused are no values and no records.
use Rattle.std.proofs.Common.{if◌then◌else◌, ◌==◌, nat_eq, ◌^◌, ◌≡◌, ◌≢◌, ◌⊎◌, ◌↔◌, ◌<◌, ◌≤◌, ◌&&◌, inl, inr, ℕ, zero}
use Rattle.std.proofs.Common.{suc, ℤ, pos, negsuc, ◌≤ℤ◌, List, length, Bool, true, false, IsSome, IfNone, IsUtf8}
use Rattle.std.proofs.Common.{FitsSigned, Option, Some, None, nat_le, refl, sym, ap, subst, arith}
use Rattle.std.specs.Prelude.{int_le}
use lib.Signed.{le_z_yes}
use lib.Dec.{T}
use Rattle.std.specs.Int.{w32, w16}
use Rattle.std.specs.Ordering.{int_eq}
use Rattle.std.proofs.lemmas.Bool.{cases_Bool, cases_lt, and_parts, leb-true, false_from_ne_true, le-leb, ne_eqb}
use Rattle.std.proofs.lemmas.Bool.{eqb-true, eq-eqb}
use Rattle.std.proofs.lemmas.List.{get_or_past}
use Rattle.std.proofs.lemmas.Str.{IsUtf8-from_ascii}
use Rattle.std.proofs.lemmas.Bool.Decides.{nat_tests}
use Rattle.sqlite.specs.declared.types.Value.{Value}
use Rattle.sqlite.specs.declared.types.Value.TheVariants.{Null, Int, Real, Text, Blob}
use Rattle.sqlite.specs.Order.{Row}
use Rattle.sqlite.specs.Values.{IsInt}
use Rattle.sqlite_value.specs.Order.{column}
use Rattle.hall_grid.specs.Board.{Board}
use Rattle.hall_grid.specs.FormReading.{◌>>=◌}
use Rattle.hall_grid.specs.Text.{SpellsText, FaultOf}
use Rattle.hall_grid.specs.declared.fault.TextFault.{TextFault}
use Rattle.hall_grid.proofs.SpellsOrHasFault.{spells_or_fault}
use Rattle.hall_policy.specs.HasRole.{HasRole}
use Rattle.hall_grid.specs.Printable.{is_printable}
use Rattle.hall_policy.specs.Text.{IsOfKind, is_word_byte, is_key_byte}
use Rattle.hall_policy.proofs.Reading.{kind_fails}
use Rattle.hall_sql.specs.Values.{AreAscii, kind_in, within, number_in, int_in, roles_in, roles_of, board_of, puzzle_in}
use Rattle.hall_sql.specs.Values.{unsolved_of, state_of, state_in, mode_of, mode_in, flag_of, flag_in, ruling_points_of}
use Rattle.hall_sql.specs.Values.{unpointed_of, ruling_of, ruling_in}

-- ---- columns

-- a column beyond the row is NULL
beyond : (row : Row) (at : ℕ) → length row ≤ at → column row at ≡ Null
beyond row at past = get_or_past row at Null past

pub word_ascii : AreAscii is_word_byte
word_ascii byte allowed = grind (arith, nat_tests, allowed)

pub key_ascii : AreAscii is_key_byte
key_ascii byte allowed = grind (arith, nat_tests, allowed)

pub printable_ascii : AreAscii is_printable
printable_ascii byte allowed =
    let high : nat_le byte 126 ≡ true = (and_parts (nat_le 32 byte) (nat_le byte 126) allowed).1 in
    let low : byte ≤ 126 = leb-true byte 126 high in omega (arith, low)

-- a text of such bytes is UTF-8
ascii_text : (least most : ℕ) (allows : ℕ → Bool) (text : List ℕ) → AreAscii allows → IsOfKind least most allows text
    → IsUtf8 text
ascii_text least most allows text ascii it = IsUtf8-from_ascii text (λ i. elim (cases_lt i (length text)) [
  | inl inside ↦ ascii _ (it.allowed i 0 inside)
  | inr past ↦ let none = get_or_past text i 0 past in omega (arith, none)
])

-- a text that is none of the kind
pub other_kind : (least most : ℕ) (allows : ℕ → Bool) (v : Value) (text : List ℕ) → v ≡ Text text
    → ¬ (IsOfKind least most allows text)
    → kind_in least most allows v ≡ None
other_kind least most allows v text is other = rw (is, kind_fails least most allows text other) refl

no_text : (least most : ℕ) (allows : ℕ → Bool) (v : Value) → AreAscii allows
    → ¬ ((t : List ℕ) × (v ≡ Text t) × IsUtf8 t)
    → kind_in least most allows v ≡ None
no_text least most allows Null ascii other = refl
no_text least most allows (Int n) ascii other = refl
no_text least most allows (Real x) ascii other = refl
no_text least most allows (Text t) ascii other =
    other_kind least most allows (Text t) t refl (λ it. other (t, refl, ascii_text least most allows t ascii it))
no_text least most allows (Blob b) ascii other = refl

-- a column that isn't read as a text
pub unread_text : (least most : ℕ) (allows : ℕ → Bool) (row : Row) (at : ℕ) → AreAscii allows
    → (at < length row → ¬ ((t : List ℕ) × (column row at ≡ Text t) × IsUtf8 t))
    → kind_in least most allows (column row at) ≡ None
unread_text least most allows row at ascii other = elim (cases_lt at (length row)) [
  | inl inside ↦ no_text least most allows (column row at) ascii (other inside)
  | inr past ↦ rw (beyond row at past) refl
]

-- a number out of the range
pub out_of_range : (least most : ℕ) (v : Value) (n : ℕ) → v ≡ Int (pos n) → ¬ ((least ≤ n) × (n ≤ most))
    → within least most v ≡ None
out_of_range least most v n is other =
    let no : nat_le least n && nat_le n most ≡ false =
    false_from_ne_true (nat_le least n && nat_le n most) (λ yes.
    let both = and_parts (nat_le least n) (nat_le n most) yes in other
    (leb-true least n both.0, leb-true n most both.1)) in
    rw (is, no) refl

-- what stands in the column as a number is no u32
large : (v : Value) (n : ℕ) → ¬ ((m : ℕ) × (v ≡ Int (pos m)) × (m < 2 ^ 32)) → number_in v ≡ Some n → 4294967296 ≤ n
large Null n other is = absurd cc
large (Int (pos m)) n other is = elim (cases_lt m 4294967296) [
  | inl small ↦ absurd (other (m, refl, small))
  | inr big ↦ let same : m ≡ n = cc in subst (λ k. 4294967296 ≤ k) same big
]
large (Int (negsuc m)) n other is = absurd cc
large (Real x) n other is = absurd cc
large (Text t) n other is = absurd cc
large (Blob b) n other is = absurd cc

pub unread_code : (row : Row) (at n : ℕ) → (at < length row → ¬
    ((m : ℕ) × (column row at ≡ Int (pos m)) × (m < 2 ^ 32)))
    → number_in (column row at) ≡ Some n → 4294967296 ≤ n
unread_code row at n other is = elim (cases_lt at (length row)) [
  | inl inside ↦ large (column row at) n (other inside) is
  | inr past ↦ absurd (let none = rw (beyond row at past) at is in cc)
]

none_within : (least most : ℕ) (found : Option ℕ) → most < 4294967296 → ((n : ℕ) → found ≡ Some n → 4294967296 ≤ n)
    → (found >>= (λ n. if nat_le least n && nat_le n most then Some n else None)) ≡ None
none_within least most None small beyond = refl
none_within least most (Some n) small beyond =
    let big : 4294967296 ≤ n = beyond n refl in
    let no : nat_le least n && nat_le n most ≡ false =
    false_from_ne_true (nat_le least n && nat_le n most) (λ yes.
    let inside : n ≤ most = leb-true n most (and_parts (nat_le least n) (nat_le n most) yes).1 in omega
    (arith, inside, big, small)) in
    rw no refl

pub unread_number : (least most : ℕ) (row : Row) (at : ℕ) → (at < length row
    → ¬ ((m : ℕ) × (column row at ≡ Int (pos m)) × (m < 2 ^ 32)))
    → most < 4294967296 → within least most (column row at) ≡ None
unread_number least most row at other small =
    none_within least most (number_in (column row at)) small (λ n is. unread_code row at n other is)

no_int : (v : Value) (n : ℤ) → ¬ ((m : ℤ) × (v ≡ Int m) × FitsSigned w32 m) → int_in v ≡ Some n → ¬ (FitsSigned w32 n)
no_int Null n other is fits = absurd cc
no_int (Int m) n other is fits = let same : m ≡ n = cc in other (m, refl, subst (FitsSigned w32) (sym same) fits)
no_int (Real x) n other is fits = absurd cc
no_int (Text t) n other is fits = absurd cc
no_int (Blob b) n other is fits = absurd cc

pub unread_points : (row : Row) (at : ℕ) (n : ℤ) → (at < length row
    → ¬ ((m : ℤ) × (column row at ≡ Int m) × FitsSigned w32 m))
    → int_in (column row at) ≡ Some n → ¬ (FitsSigned w32 n)
unread_points row at n other is = elim (cases_lt at (length row)) [
  | inl inside ↦ no_int (column row at) n (other inside) is
  | inr past ↦ absurd (let none = rw (beyond row at past) at is in cc)
]

not_int : (v : Value) → ¬ (IsInt v) → int_in v ≡ None
not_int Null other = refl
not_int (Int n) other = absurd (other (n, refl))
not_int (Real x) other = refl
not_int (Text t) other = refl
not_int (Blob b) other = refl

pub unread_int : (row : Row) (at : ℕ) → (at < length row → ¬ (IsInt (column row at))) → int_in (column row at) ≡ None
unread_int row at other = elim (cases_lt at (length row)) [
  | inl inside ↦ not_int (column row at) (other inside)
  | inr past ↦ rw (beyond row at past) refl
]

-- where a test decides and nothing was found
pub none_decided : {A : Type 0} (found : Option A) (P : Type 0) → IsSome found ↔ P → IfNone found (¬ P)
none_decided None P decides = λ holds. let no = decides.1 holds in cc
none_decided (Some x) P decides = tt

-- ---- values

pub unread_roles : (v : Value) → within 1 15 v ≡ None → roles_in v ≡ None
unread_roles v none = rw none refl

-- a sum from 1 to 15 holds one of the roles
pub sum_holds : (sum : ℕ) → 1 ≤ sum → sum ≤ 15 → HasRole (roles_of sum)
sum_holds zero low high = absurd (omega (arith, low))
sum_holds (suc zero) low high = refl
sum_holds (suc (suc zero)) low high = refl
sum_holds (suc (suc (suc zero))) low high = refl
sum_holds (suc (suc (suc (suc zero)))) low high = refl
sum_holds (suc (suc (suc (suc (suc zero))))) low high = refl
sum_holds (suc (suc (suc (suc (suc (suc zero)))))) low high = refl
sum_holds (suc (suc (suc (suc (suc (suc (suc zero))))))) low high = refl
sum_holds (suc (suc (suc (suc (suc (suc (suc (suc zero)))))))) low high = refl
sum_holds (suc (suc (suc (suc (suc (suc (suc (suc (suc zero))))))))) low high = refl
sum_holds (suc (suc (suc (suc (suc (suc (suc (suc (suc (suc zero)))))))))) low high = refl
sum_holds (suc (suc (suc (suc (suc (suc (suc (suc (suc (suc (suc zero))))))))))) low high = refl
sum_holds (suc (suc (suc (suc (suc (suc (suc (suc (suc (suc (suc (suc zero)))))))))))) low high = refl
sum_holds (suc (suc (suc (suc (suc (suc (suc (suc (suc (suc (suc (suc (suc zero))))))))))))) low high = refl
sum_holds (suc (suc (suc (suc (suc (suc (suc (suc (suc (suc (suc (suc (suc (suc zero)))))))))))))) low high = refl
sum_holds (suc (suc (suc (suc (suc (suc (suc (suc (suc (suc (suc (suc (suc (suc (suc zero))))))))))))))) low high = refl
sum_holds (suc (suc (suc (suc (suc (suc (suc (suc (suc (suc (suc (suc (suc (suc (suc (suc n)))))))))))))))) low high =
    absurd (omega (arith, high))

-- a text that is refused for another cause than memory spells no puzzle
pub unspelled : (text : List ℕ) → ((board : Board) → ¬ (SpellsText text board)) → board_of (spells_or_fault text) ≡ None
unspelled text none = go (spells_or_fault text)
  where
    go : (outcome : ((b : Board) × SpellsText text b) ⊎ ((fault : TextFault) × FaultOf text fault))
        → board_of outcome ≡ None
    go (inl spelled) = absurd (none spelled.0 spelled.1)
    go (inr fault) = refl

pub past_puzzle : (row : Row) (at : ℕ) → length row ≤ at → puzzle_in (column row at) ≡ None
past_puzzle row at past = rw (beyond row at past) refl

-- another code than 1
pub other_state : (n : ℕ) (text : List ℕ) → n ≢ 1 → unsolved_of n ≡ None → state_of n text ≡ None
other_state n text other none = rw (ne_eqb n 1 other) (go (length text == 0))
  where
    go : (b : Bool) → (if b then unsolved_of n else None) ≡ None
    go true = none
    go false = refl

-- a code of 5 and more is none
high_state : (n : ℕ) (text : List ℕ) → 5 ≤ n → state_of n text ≡ None
high_state n text high =
    other_state n text (omega (arith, high))
    (rw (
      ne_eqb n 0 (omega (arith, high)),
      ne_eqb n 2 (omega (arith, high)),
      ne_eqb n 3 (omega (arith, high)),
      ne_eqb n
          4 (omega (arith, high)),
    ) refl)

pub unread_state_code : (code solution : Value) → ((n : ℕ) → number_in code ≡ Some n → 4294967296 ≤ n)
    → state_in code solution ≡ None
unread_state_code code solution large = go (number_in code) (kind_in 0 4000 is_printable solution) large
  where
    go : (a : Option ℕ) (b : Option (List ℕ)) → ((n : ℕ) → a ≡ Some n → 4294967296 ≤ n)
        → (a >>= (λ n. b >>= (λ text. state_of n text))) ≡ None
    go None b large = refl
    go (Some n) None large = refl
    go (Some n) (Some text) large = let big = large n refl in high_state n text (omega (arith, big))

pub unread_solution : (code solution : Value) → kind_in 0 4000 is_printable solution ≡ None
    → state_in code solution ≡ None
unread_solution code solution none = go (number_in code) (kind_in 0 4000 is_printable solution) none
  where
    go : (a : Option ℕ) (b : Option (List ℕ)) → b ≡ None → (a >>= (λ n. b >>= (λ text. state_of n text))) ≡ None
    go None b none = refl
    go (Some n) None none = refl
    go (Some n) (Some text) none = absurd cc

pub state_is : (code solution : Value) (n : ℕ) (text : List ℕ) → number_in code ≡ Some n
    → kind_in 0 4000 is_printable solution ≡ Some text
    → state_in code solution ≡ state_of n text
state_is code solution n text one two = rw (one, two) refl

-- a code of 2 and more is no mode and no flag
high_mode : (n : ℕ) → 2 ≤ n → mode_of n ≡ None
high_mode n high = rw (ne_eqb n 0 (omega (arith, high)), ne_eqb n 1 (omega (arith, high))) refl

pub unread_mode : (v : Value) → ((n : ℕ) → number_in v ≡ Some n → 2 ≤ n) → mode_in v ≡ None
unread_mode v large = go (number_in v) large
  where
    go : (a : Option ℕ) → ((n : ℕ) → a ≡ Some n → 2 ≤ n) → (a >>= mode_of) ≡ None
    go None large = refl
    go (Some n) large = high_mode n (large n refl)

high_flag : (n : ℕ) → 2 ≤ n → flag_of n ≡ None
high_flag n high = rw (ne_eqb n 0 (omega (arith, high)), ne_eqb n 1 (omega (arith, high))) refl

pub unread_flag : (v : Value) → ((n : ℕ) → number_in v ≡ Some n → 2 ≤ n) → flag_in v ≡ None
unread_flag v large = go (number_in v) large
  where
    go : (a : Option ℕ) → ((n : ℕ) → a ≡ Some n → 2 ≤ n) → (a >>= flag_of) ≡ None
    go None large = refl
    go (Some n) large = high_flag n (large n refl)

-- ---- rulings

-- points that do not fit where all of a ruling's do
pub unruled : (points : ℤ) (Fits : ℤ → Type 0) → ((n : ℕ) → n ≤ 1000 → Fits (pos n))
    → ((n : ℕ) → n ≤ 999 → Fits (negsuc n))
    → ¬ (Fits points) → ruling_points_of points ≡ None
unruled (pos n) Fits high low other =
    let no : nat_le n 1000 ≡ false = false_from_ne_true _ (λ yes. other (high n (leb-true _ _ yes))) in rw no refl
unruled (negsuc n) Fits high low other =
    let no : nat_le n 999 ≡ false = false_from_ne_true _ (λ yes. other (low n (leb-true _ _ yes))) in rw no refl

pub narrow_points : (points : ℤ) → ¬ (FitsSigned w16 points) → ruling_points_of points ≡ None
narrow_points points = unruled points (FitsSigned w16) (λ n small. record { sfits = omega (arith, small) })
    (λ n small. record { sfits = omega (arith, small) })

in_order : (a b : ℤ) → int_le a b ≡ true → a ≤ℤ b
in_order a b e = le_z_yes (subst T (sym e) tt)

pub far_points : (points : ℤ) → ¬ ((negsuc 999 ≤ℤ points) × (points ≤ℤ pos 1000)) → ruling_points_of points ≡ None
far_points points = unruled points (λ p. (negsuc 999 ≤ℤ p) × (p ≤ℤ pos 1000))
    (λ n small. (in_order (negsuc 999) (pos n) refl, in_order (pos n) (pos 1000) (le-leb n 1000 small)))
    (λ n small. (in_order (negsuc 999) (negsuc n) (le-leb n 999 small), in_order (negsuc n) (pos 1000) refl))

pub unupheld : (points : ℤ) → ruling_points_of points ≡ None → ruling_of 1 points ≡ None
unupheld points none = rw none refl

no_zero : (points : ℤ) → points ≢ pos 0 → int_eq points (pos 0) ≡ false
no_zero (pos n) some = let other : n ≢ 0 = λ is. some (ap pos is) in grind (arith, nat_tests, other)
no_zero (negsuc n) some = refl

-- another ruling has no points
pub pointed : (n : ℕ) (points : ℤ) → n ≢ 1 → points ≢ pos 0 → ruling_of n points ≡ None
pointed n points other some = rw (ne_eqb n 1 other, no_zero points some) refl

pub other_ruling : (n : ℕ) (points : ℤ) → n ≢ 1 → unpointed_of n ≡ None → ruling_of n points ≡ None
other_ruling n points other none = rw (ne_eqb n 1 other) (go (int_eq points (pos 0)))
  where
    go : (b : Bool) → (if b then unpointed_of n else None) ≡ None
    go true = none
    go false = refl

high_ruling : (n : ℕ) (points : ℤ) → 3 ≤ n → ruling_of n points ≡ None
high_ruling n points high =
    other_ruling n points (omega (arith, high)) (rw (ne_eqb n 0 (omega (arith, high)), ne_eqb n 2 (omega (arith, high)))
    refl)

wide_ruling : (n : ℕ) (points : ℤ) → ¬ (FitsSigned w32 points) → ruling_of n points ≡ None
wide_ruling n points wide = elim (cases_Bool (nat_eq n 1)) [
  | inl one ↦ subst (λ k. ruling_of k points ≡ None) (sym (eqb-true n 1 one)) (unupheld points
      (unruled points (FitsSigned w32) (λ n small. record { sfits = omega (arith, small) })
      (λ n small. record { sfits = omega (arith, small) }) wide))
  | inr differs ↦ pointed n points (λ is. absurd (let same : nat_eq n 1 ≡ true = eq-eqb n 1 is in cc))
      (λ is. wide (subst (FitsSigned w32) (sym is) (record { sfits = omega arith })))
]

pub unread_ruling_code : (code points : Value) → ((n : ℕ) → number_in code ≡ Some n → 4294967296 ≤ n)
    → ruling_in code points ≡ None
unread_ruling_code code points large = go (number_in code) (int_in points) large
  where
    go : (a : Option ℕ) (b : Option ℤ) → ((n : ℕ) → a ≡ Some n → 4294967296 ≤ n)
        → (a >>= (λ n. b >>= (λ some. ruling_of n some))) ≡ None
    go None b large = refl
    go (Some n) None large = refl
    go (Some n) (Some p) large = let big = large n refl in high_ruling n p (omega (arith, big))

pub unread_ruling_points : (code points : Value) → ((p : ℤ) → int_in points ≡ Some p → ¬ (FitsSigned w32 p))
    → ruling_in code points ≡ None
unread_ruling_points code points wide = go (number_in code) (int_in points) wide
  where
    go : (a : Option ℕ) (b : Option ℤ) → ((p : ℤ) → b ≡ Some p → ¬ (FitsSigned w32 p))
        → (a >>= (λ n. b >>= (λ some. ruling_of n some))) ≡ None
    go None b wide = refl
    go (Some n) None wide = refl
    go (Some n) (Some p) wide = wide_ruling n p (wide p refl)

pub ruling_is : (code points : Value) (n : ℕ) (p : ℤ) → number_in code ≡ Some n → int_in points ≡ Some p
    → ruling_in code points ≡ ruling_of n p
ruling_is code points n p one two = rw (one, two) refl
