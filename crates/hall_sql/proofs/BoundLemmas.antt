-- SQL's comparisons of names with the texts between which it looks for them.
use Rattle.std.proofs.Common.{◌≡◌, ◌&&◌, ℕ, Bool, true, false, List, [], ◌∷◌, Option, Some, None, length, arith}
use Rattle.std.proofs.Common.{refl, ap, subst, ◌∙◌}
use Rattle.std.specs.Prelude.{nat_le}
use Rattle.std.specs.List.{list_all}
use Rattle.std.specs.declared.cmp.Ordering.{Ordering}
use Rattle.std.specs.declared.cmp.Ordering.TheVariants.{Less, Equal, Greater}
use Rattle.std.specs.Ordering.{is_gt, is_le, is_lt, nat_cmp, ordering_reverse, ordering_then}
use Rattle.std.proofs.lemmas.Bool.Decides.{nat_tests}
use Rattle.sqlite.specs.Collation.TheVariants.{Binary}
use Rattle.sqlite.specs.declared.types.Value.{Value}
use Rattle.sqlite.specs.declared.types.Value.TheVariants.{Null, Int, Real, Text, Blob}
use Rattle.sqlite_sql.specs.declared.ops.BinaryOp.TheVariants.{Compare}
use Rattle.sqlite_sql.specs.declared.ops.CompareOp.TheVariants.{Gt, Le}
use Rattle.sqlite_sql.specs.Ops.{binary, is_true}
use Rattle.sqlite_value.specs.Order.{value_cmp}
use Rattle.sqlite_value.proofs.OrderLemmas.{value_cmp-Text}
use Rattle.hall_policy.specs.Text.{is_kind, is_word_byte, text_cmp}
use Rattle.hall_policy.proofs.Orders.{text_total}
use Rattle.hall_policy.proofs.Texts.{and_first, and_second}
use Rattle.hall_store.specs.Store.{is_after, is_up_to}
use Rattle.hall_sql.specs.Bounds.{text_before, text_up_to}
use Rattle.hall_sql.specs.Values.{name_in}
use Rattle.hall_sql.proofs.ColumnLemmas.{as_truth, passed}

-- ---- texts
turned : (r : Ordering) → is_gt (ordering_reverse r) ≡ is_lt r
turned Less = refl
turned Equal = refl
turned Greater = refl

-- SQL's > and <= on texts compare their bytes
pub column_above : (v : Value) (s t : List ℕ) → v ≡ Text s
    → is_true (binary (Compare Gt Binary) v (Text t)) ≡ is_lt (text_cmp t s)
unfolding binary
column_above v s t e =
    ap (λ w. is_true (binary (Compare Gt Binary) w (Text t))) e ∙ as_truth (is_gt (value_cmp (Text s) (Text t)))
    ∙ ap is_gt (value_cmp-Text s t ∙ text_total.antisymm s t) ∙ turned (text_cmp t s)

pub column_up_to : (v : Value) (s t : List ℕ) → v ≡ Text s
    → is_true (binary (Compare Le Binary) v (Text t)) ≡ is_le (text_cmp s t)
unfolding binary
column_up_to v s t e =
    ap (λ w. is_true (binary (Compare Le Binary) w (Text t))) e ∙ as_truth (is_le (value_cmp (Text s) (Text t)))
    ∙ ap is_le (value_cmp-Text s t)

-- ---- names
abbrev pub is_name : List ℕ → Bool
is_name = is_kind 1 24 is_word_byte

pub name_read : (v : Value) (name : List ℕ) → name_in v ≡ Some name → is_name name ≡ true
name_read Null name e = absurd cc
name_read (Int n) name e = absurd cc
name_read (Real x) name e = absurd cc
name_read (Text s) name e = let it = passed is_name s name e in subst (λ n. is_name n ≡ true) it.0 it.1
name_read (Blob b) name e = absurd cc

below : (b : ℕ) → is_word_byte b ≡ true → nat_cmp b 123 ≡ Less
below b h = grind (arith, nat_tests)

-- each name comes after the text that stands for none, and up to the other
pub name_after : (after : Option (List ℕ)) (name : List ℕ) → is_name name ≡ true
    → is_lt (text_cmp (text_before after) name) ≡ is_after after name
name_after None [] is = absurd (let no : false ≡ true = is in cc)
name_after None (b ∷ bs) is = refl
name_after (Some after) name is = refl

pub name_up_to : (last : Option (List ℕ)) (name : List ℕ) → is_name name ≡ true
    → is_le (text_cmp name (text_up_to last)) ≡ is_up_to last name
name_up_to None [] is = refl
name_up_to None (b ∷ bs) is =
    let bytes = and_second (nat_le 1 (length (b ∷ bs)) && nat_le (length (b ∷ bs)) 24)
    (list_all is_word_byte (b ∷ bs)) is in
    ap (λ r. is_le (ordering_then r (text_cmp bs []))) (below b (and_first (is_word_byte b) (list_all is_word_byte bs)
    bytes))
name_up_to (Some last) name is = refl
