-- The members of an object and the entries of its map have the same names.
use Rattle.std.proofs.Common.{◌≡◌, ap, ap₂, refl, List, [], ◌∷◌, ℕ, Bool, true, false, map, Bor, ◌&&◌, ◌||◌}
use Rattle.std.specs.Prelude.{String, string_bytes}
use Rattle.std.specs.List.{list_any, list_all}
use Rattle.std.specs.Str.{bytes_eq}
use Rattle.std.specs.declared.alloc.Global.{Global}
use Rattle.serde_json.specs.View.{members_view}
use Rattle.serde_json.specs.declared.value.Value.{Value}
use Rattle.hall_http.specs.Body.{only_members, object_in, text_of_member, integer_of_member, flag_of_member}
use Rattle.hall_http.specs.declared.form.FormFault.TheVariants as fault
use Rattle.std.specs.Str.{IsUtf8, is_utf8}
use Rattle.std.proofs.lemmas.Str.{IsUtf8-from_is_utf8, is_utf8-from_IsUtf8}
use Rattle.std.specs.Prelude.{Some, None, option_and_then, Ok, Err, if◌then◌else◌, ℤ}
use Rattle.serde_json.specs.Read.{read}
use Rattle.serde_json.specs.Data.{Data, Members, object}
use Rattle.serde_json.specs.Find.{get_member, as_bool, as_str, as_number, as_integer}
use Rattle.hall_http.specs.declared.form.Field.{Field}

any_named : (names : List (Bor (List ℕ))) (name : List ℕ)
    → list_any (λ n. bytes_eq n name) (map (λ n. n.now) names) ≡ list_any (λ n. bytes_eq n.now name) names
any_named [] name = refl
any_named (n ∷ ns) name = ap (λ b. bytes_eq n.now name || b) (any_named ns name)

pub only_listed : (names : List (Bor (List ℕ))) (entries : List (String Global × Value))
    → only_members (map (λ n. n.now) names) (members_view entries)
    ≡ list_all (λ k. list_any (λ n. bytes_eq n.now (string_bytes k)) names) (map (λ e. e.0) entries)
only_listed names [] = refl
only_listed names (e ∷ es) = ap₂ (λ a b. a && b) (any_named names (string_bytes e.0)) (only_listed names es)

not_text : (b : Bool) → (b ≡ true → ⊥) → b ≡ false
not_text true h = absurd (h refl)
not_text false h = refl

pub no_text : (names : List (List ℕ)) (body : List ℕ) → (IsUtf8 body → ⊥) → object_in names body ≡ Err fault.Syntax
no_text names body bad = rw (not_text (is_utf8 body) (λ e. bad (IsUtf8-from_is_utf8 body e))) refl

pub object_is : (names : List (List ℕ)) (body : List ℕ) (ms : Members) (b : Bool) → IsUtf8 body
    → read body ≡ Some (object ms) → only_members names ms ≡ b
    → object_in names body ≡ (if b then Ok ms else Err fault.Syntax)
object_is names body ms true text is only = rw (is_utf8-from_IsUtf8 body text, is, only) refl
object_is names body ms false text is only = rw (is_utf8-from_IsUtf8 body text, is, only) refl

pub missing_member : (f : Field) (name : List ℕ) (ms : Members) → get_member name ms ≡ None
    → text_of_member f name ms ≡ Err (fault.Missing f)
missing_member f name ms e = rw e refl

pub wrong_member : (f : Field) (name : List ℕ) (ms : Members) (d : Data) → get_member name ms ≡ Some d
    → as_str d ≡ None → text_of_member f name ms ≡ Err (fault.Missing f)
wrong_member f name ms d e other = rw (e, other) refl

pub text_member : (f : Field) (name : List ℕ) (ms : Members) (d : Data) (text : List ℕ) → get_member name ms ≡ Some d
    → as_str d ≡ Some text → text_of_member f name ms ≡ Ok text
text_member f name ms d text e is = rw (e, is) refl

pub missing_integer : (f : Field) (name : List ℕ) (ms : Members) → get_member name ms ≡ None
    → integer_of_member f name ms ≡ Err (fault.Missing f)
missing_integer f name ms e = rw e refl

pub wrong_integer : (f : Field) (name : List ℕ) (ms : Members) (d : Data) → get_member name ms ≡ Some d
    → option_and_then as_integer (as_number d) ≡ None → integer_of_member f name ms ≡ Err (fault.Missing f)
wrong_integer f name ms d e other = rw (e, other) refl

pub integer_member : (f : Field) (name : List ℕ) (ms : Members) (d : Data) (z : ℤ) → get_member name ms ≡ Some d
    → option_and_then as_integer (as_number d) ≡ Some z → integer_of_member f name ms ≡ Ok z
integer_member f name ms d z e is = rw (e, is) refl

pub missing_flag : (f : Field) (name : List ℕ) (ms : Members) → get_member name ms ≡ None
    → flag_of_member f name ms ≡ Err (fault.Missing f)
missing_flag f name ms e = rw e refl

pub wrong_flag : (f : Field) (name : List ℕ) (ms : Members) (d : Data) → get_member name ms ≡ Some d
    → as_bool d ≡ None → flag_of_member f name ms ≡ Err (fault.Missing f)
wrong_flag f name ms d e other = rw (e, other) refl

pub flag_member : (f : Field) (name : List ℕ) (ms : Members) (d : Data) (b : Bool) → get_member name ms ≡ Some d
    → as_bool d ≡ Some b → flag_of_member f name ms ≡ Ok b
flag_member f name ms d b e is = rw (e, is) refl
