-- The fields of a record that has three, and those that are text.
use Rattle.std.proofs.Common.{◌≡◌, ◌≢◌, ◌<◌, ℕ, List, [], ◌∷◌, length, Some, None, Ok, Err, refl, sym, true, arith}
use Rattle.std.specs.List.{list_all}
use Rattle.std.specs.Str.{is_utf8}
use Rattle.std.proofs.lemmas.Bool.{and_from, and_parts, false_from_ne_true}
use Rattle.std.proofs.lemmas.Str.{IsUtf8-from_is_utf8, is_utf8-from_IsUtf8}
use Rattle.csv.specs.Records.{AllText, field_at}
use Rattle.csv.proofs.RecordFacts.{field-there}
use Rattle.hall_policy.specs.Reading.{or_fault}
use Rattle.hall_sheet.specs.declared.fault.Refusal.TheVariants.{Syntax}
use Rattle.hall_sheet.specs.People.{three_in, texts_in}

some_is : (x y : List ℕ) → Some x ≡ Some y → x ≡ y
some_is x y e = cc e

pub three_are : (fields : List (List ℕ)) (a b c : List ℕ) → length fields ≡ 3 → Some a ≡ field_at fields 0
    → Some b ≡ field_at fields 1 → Some c ≡ field_at fields 2
    → or_fault Syntax (three_in fields) ≡ Ok (record { name = a; key = b; roles = c })
unfolding field_at
three_are [] a b c n e f g = cc n
three_are (x ∷ []) a b c n e f g = cc n
three_are (x ∷ y ∷ []) a b c n e f g = cc n
three_are (x ∷ y ∷ z ∷ []) a b c n e f g = rw (some_is a x e, some_is b y f, some_is c z g) refl
three_are (x ∷ y ∷ z ∷ u ∷ more) a b c n e f g = cc n

pub not_three : (fields : List (List ℕ)) → length fields ≢ 3 → or_fault Syntax (three_in fields) ≡ Err Syntax
not_three [] n = refl
not_three (x ∷ []) n = refl
not_three (x ∷ y ∷ []) n = refl
not_three (x ∷ y ∷ z ∷ []) n = absurd (n refl)
not_three (x ∷ y ∷ z ∷ u ∷ more) n = refl

-- one of three fields is there
pub one_of_three : {G : Type 0} (fields : List (List ℕ)) (i : ℕ) → length fields ≡ 3 → i < 3 → None ≡ field_at fields i
    → G
one_of_three fields i three low none = absurd (field-there fields i (omega (arith, three, low)) (sym none))

all_utf8 : (fields : List (List ℕ)) → AllText fields → list_all is_utf8 fields ≡ true
unfolding AllText
all_utf8 [] t = refl
all_utf8 (f ∷ fields) t = and_from _ _ (is_utf8-from_IsUtf8 f t.0) (all_utf8 fields t.1)

all_text : (fields : List (List ℕ)) → list_all is_utf8 fields ≡ true → AllText fields
unfolding AllText
all_text [] e = tt
all_text (f ∷ fields) e =
    let (one, more) = and_parts (is_utf8 f) (list_all is_utf8 fields) e in
    (IsUtf8-from_is_utf8 f one, all_text fields more)

pub texts_are : (fields : List (List ℕ)) → AllText fields → texts_in fields ≡ Ok fields
texts_are fields t = rw (all_utf8 fields t) refl

pub texts_fail : (fields : List (List ℕ)) → (AllText fields → ⊥) → texts_in fields ≡ Err Syntax
texts_fail fields bad = rw (false_from_ne_true (list_all is_utf8 fields) (λ e. bad (all_text fields e))) refl
