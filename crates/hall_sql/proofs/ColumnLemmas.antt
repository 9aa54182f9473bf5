-- What a column holds whose value is read, and how SQL compares it.
use Rattle.std.proofs.Common.{◌≡◌, ◌==◌, ◌&&◌, ◌⊎◌, inl, inr, ℕ, pos, negsuc, List, Bool, true, false, cond, Option}
use Rattle.std.proofs.Common.{Some, None, refl, ap, ◌∙◌, arith}
use Rattle.std.specs.Prelude.{nat_le}
use Rattle.std.specs.declared.cmp.Ordering.{Ordering}
use Rattle.std.specs.declared.cmp.Ordering.TheVariants.{Less, Equal, Greater}
use Rattle.std.specs.Ordering.{is_eq, eq_by_cmp, int_cmp, nat_cmp, ordering_then}
use Rattle.std.proofs.lemmas.Bool.Decides.{nat_tests}
use Rattle.sqlite.specs.declared.types.Value.{Value}
use Rattle.sqlite.specs.declared.types.Value.TheVariants.{Null, Int, Real, Text, Blob}
use Rattle.sqlite_sql.specs.declared.ops.BinaryOp.TheVariants.{Compare}
use Rattle.sqlite_sql.specs.declared.ops.CompareOp.TheVariants.{Eq}
use Rattle.sqlite.specs.Collation.TheVariants.{Binary}
use Rattle.sqlite_sql.specs.Ops.{binary, is_true, from_truth}
use Rattle.sqlite_value.specs.Order.{value_cmp}
use Rattle.sqlite_value.proofs.OrderLemmas.{value_cmp-Text, value_cmp-Int}
use Rattle.hall_policy.specs.Text.{text_cmp, IsOfKind, is_kind}
use Rattle.std.proofs.lemmas.Map.Text.{is_eq-slice_cmp}
use Rattle.hall_policy.specs.World.{same_text}
use Rattle.hall_policy.proofs.Reading.{kind_holds}
use Rattle.hall_grid.specs.Board.{Board}
use Rattle.hall_grid.specs.declared.fault.TextFault.{TextFault}
use Rattle.hall_grid.specs.Text.{SpellsText, FaultOf}
use Rattle.hall_grid.proofs.SpellsOrHasFault.{spells_or_fault}
use Rattle.hall_grid.proofs.SpellsOnePuzzle.{one_puzzle, no_text_fault}
use Rattle.hall_sql.specs.Values.{board_of, passing, kind_in, within}

-- what passes a test is what was tested
pub passed : {A : Type 0} (test : A → Bool) (x y : A) → passing test x ≡ Some y → (x ≡ y) × (test x ≡ true)
passed {A} test x y e = go (test x) refl e
  where
    go : (b : Bool) → test x ≡ b → ◌≡◌ {A = Option A} (cond b (Some x) None) (Some y) → (x ≡ y) × (test x ≡ true)
    go true is e = (cc, is)
    go false is e = absurd cc

pub of_kind : (least most : ℕ) (allows : ℕ → Bool) (text : List ℕ) → IsOfKind least most allows text
    → is_kind least most allows text ≡ true
of_kind = kind_holds

-- a text of a kind
pub kind_column : (least most : ℕ) (allows : ℕ → Bool) (v : Value) (t : List ℕ) → kind_in least most allows v ≡ Some t
    → v ≡ Text t
kind_column least most allows Null t e = absurd cc
kind_column least most allows (Int n) t e = absurd cc
kind_column least most allows (Real x) t e = absurd cc
kind_column least most allows (Text s) t e = ap Text (passed (is_kind least most allows) s t e).0
kind_column least most allows (Blob b) t e = absurd cc

-- a number in its range
pub number_column : (least most : ℕ) (v : Value) (n : ℕ) → within least most v ≡ Some n → v ≡ Int (pos n)
number_column least most Null n e = absurd cc
number_column least most (Int (pos m)) n e =
    ap (λ k. Int (pos k)) (passed (λ k. nat_le least k && nat_le k most) m n e).0
number_column least most (Int (negsuc m)) n e = absurd cc
number_column least most (Real x) n e = absurd cc
number_column least most (Text s) n e = absurd cc
number_column least most (Blob b) n e = absurd cc

pub as_truth : (b : Bool) → is_true (from_truth (Some b)) ≡ b
as_truth true = refl
as_truth false = refl

-- SQL's = on texts compares their bytes
pub texts_equal : (s t : List ℕ) → is_true (binary (Compare Eq Binary) (Text s) (Text t)) ≡ eq_by_cmp text_cmp s t
unfolding binary
texts_equal s t = as_truth (is_eq (value_cmp (Text s) (Text t))) ∙ ap is_eq (value_cmp-Text s t)

pub and_true : (b : Bool) → b && true ≡ b
and_true true = refl
and_true false = refl

-- a column equals a text where the text in it does
pub column_equals : (v : Value) (s t : List ℕ) → v ≡ Text s
    → is_true (binary (Compare Eq Binary) v (Text t)) ≡ eq_by_cmp text_cmp s t
column_equals v s t e = ap (λ w. is_true (binary (Compare Eq Binary) w (Text t))) e ∙ texts_equal s t

pub int_as_nat : (m n : ℕ) → int_cmp (pos m) (pos n) ≡ nat_cmp m n
int_as_nat m n = grind (arith, nat_tests)

-- SQL's = on numbers compares them
numbers_equal : (m n : ℕ) → is_true (binary (Compare Eq Binary) (Int (pos m)) (Int (pos n))) ≡ is_eq (nat_cmp m n)
unfolding binary
numbers_equal m n =
    as_truth (is_eq (value_cmp (Int (pos m)) (Int (pos n))))
    ∙ ap is_eq (value_cmp-Int (pos m) (pos n) ∙ int_as_nat m n)

-- a column equals a number where the number in it does
pub column_is : (v : Value) (m n : ℕ) → v ≡ Int (pos m)
    → is_true (binary (Compare Eq Binary) v (Int (pos n))) ≡ is_eq (nat_cmp m n)
column_is v m n e = ap (λ w. is_true (binary (Compare Eq Binary) w (Int (pos n)))) e ∙ numbers_equal m n

-- and so does the test of numbers
pub column_counts : (v : Value) (m n : ℕ) → v ≡ Int (pos m)
    → is_true (binary (Compare Eq Binary) v (Int (pos n))) ≡ (m == n)
column_counts v m n e = column_is v m n e ∙ grind (arith, nat_tests)

-- the last column of a key
pub last_equal : (a : Bool) (x : Ordering) → a ≡ is_eq x → a && true ≡ is_eq x
last_equal a x e = and_true a ∙ e

-- one more column of a key before others
pub more_equal : (a b : Bool) (x y : Ordering) → a ≡ is_eq x → b ≡ is_eq y → a && b ≡ is_eq (ordering_then x y)
more_equal a b x y one two = ap (λ c. c && b) one ∙ ap (λ c. is_eq x && c) two ∙ both x
  where
    both : (x : Ordering) → is_eq x && is_eq y ≡ is_eq (ordering_then x y)
    both Less = refl
    both Equal = refl
    both Greater = refl

-- the puzzle that a text spells is read from it
pub spelled : (text : List ℕ) (board : Board) → SpellsText text board → board_of (spells_or_fault text) ≡ Some board
spelled text board spells = go (spells_or_fault text)
  where
    go : (outcome : ((b : Board) × SpellsText text b) ⊎ ((fault : TextFault) × FaultOf text fault))
        → board_of outcome ≡ Some board
    go (inl other) = ap Some (one_puzzle text other.0 board other.1 spells)
    go (inr fault) = absurd (no_text_fault text board fault.0 spells fault.1)

-- a column equals a text where the texts are the same
pub column_same : (v : Value) (s t : List ℕ) → v ≡ Text s
    → is_true (binary (Compare Eq Binary) v (Text t)) ≡ same_text s t
column_same v s t e = column_equals v s t e ∙ is_eq-slice_cmp s t
