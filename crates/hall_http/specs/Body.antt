-- What the JSON body of a request spells, or the first thing wrong with it.
use Rattle.std.specs.Prelude.{ℕ, zero, suc, nat_le, ℤ, pos, negsuc, Bool, true, false, ◌&&◌, List, [], ◌∷◌}
use Rattle.std.specs.Prelude.{option_and_then, Result, Ok, Err, codes}
use Rattle.std.specs.List.{list_any}
use Rattle.std.specs.Str.{bytes_eq, is_utf8}
use Rattle.serde_json.specs.Data.{Members, no_members, member}
use Rattle.serde_json.specs.Read.{read}
use Rattle.serde_json.specs.Find.{get_member, as_object, as_bool, as_str, as_number, as_integer}
use Rattle.hall_policy.specs.Limits.{most_number, most_points, most_visits}
use Rattle.hall_policy.specs.Text.{as_answer, as_puzzle_text, as_protest_text}
use Rattle.hall_policy.specs.declared.record.Ruling.{Ruling}
use Rattle.hall_policy.specs.declared.record.Ruling.TheVariants.{Upheld, Rejected}
use Rattle.hall_policy.specs.Reading.{◌>>=◌, or_fault, unless, of_kind}
use Rattle.hall_http.specs.declared.form.Field.{Field}
use Rattle.hall_http.specs.declared.form.Field.TheVariants as field
use Rattle.hall_http.specs.declared.form.FormFault.{FormFault}
use Rattle.hall_http.specs.declared.form.FormFault.TheVariants as fault

-- each member has one of these names
abbrev pub only_members : List (List ℕ) → Members → Bool
only_members names no_members = true
only_members names (member name d ms) = list_any (λ n. bytes_eq n name) names && only_members names ms

-- the members of the one object that the body is, all of these names
abbrev pub object_in : List (List ℕ) → List ℕ → Result Members FormFault
object_in names body =
    unless fault.Syntax (is_utf8 body)
    >>= (λ _. or_fault fault.Syntax (option_and_then as_object (read body)))
    >>= (λ ms. unless fault.Syntax (only_members names ms) >>= (λ _. Ok ms))

-- the text that a member is
abbrev pub text_of_member : Field → List ℕ → Members → Result (List ℕ) FormFault
text_of_member f name ms = or_fault (fault.Missing f) (option_and_then as_str (get_member name ms))

-- the integer that a member is: a number of 64 bits without fraction or exponent
abbrev pub integer_of_member : Field → List ℕ → Members → Result ℤ FormFault
integer_of_member f name ms =
    or_fault (fault.Missing f) (option_and_then as_integer (option_and_then as_number (get_member name ms)))

-- the integer where it is in the range, else the fault
abbrev pub in_range_or_fault : FormFault → ℕ → ℕ → ℤ → Result ℕ FormFault
in_range_or_fault f least most (pos n) = unless f (nat_le least n && nat_le n most) >>= (λ _. Ok n)
in_range_or_fault f least most (negsuc n) = Err f

-- whether a member is true or false
abbrev pub flag_of_member : Field → List ℕ → Members → Result Bool FormFault
flag_of_member f name ms = or_fault (fault.Missing f) (option_and_then as_bool (get_member name ms))

-- the answer text among the members: 0 to 4,000 printable bytes
abbrev pub answer_among : Members → Result (List ℕ) FormFault
answer_among ms = text_of_member field.Answer (codes "answer") ms >>= as_answer (of_kind (fault.Range field.Answer))

-- the answer text of a body
abbrev pub answer_in_body : List ℕ → Result (List ℕ) FormFault
answer_in_body body = object_in (codes "answer" ∷ []) body >>= answer_among

-- the puzzle text among the members: 1 to 8,000 printable bytes
abbrev pub text_among : Members → Result (List ℕ) FormFault
text_among ms = text_of_member field.Text (codes "text") ms >>= as_puzzle_text (of_kind (fault.Range field.Text))

-- the puzzle text of a body
abbrev pub text_in_body : List ℕ → Result (List ℕ) FormFault
text_in_body body = object_in (codes "text" ∷ []) body >>= text_among

-- the budget among the members: 0 to 1,000,000
abbrev pub budget_among : Members → Result ℕ FormFault
budget_among ms =
    integer_of_member field.Budget (codes "budget") ms >>= in_range_or_fault (fault.Range field.Budget) 0 most_visits

-- the budget of a body
abbrev pub budget_in_body : List ℕ → Result ℕ FormFault
budget_in_body body = object_in (codes "budget" ∷ []) body >>= budget_among

-- the number and the text of a protest among the members: 1 to 99, and 1 to 200 printable bytes
abbrev pub protest_among : Members → Result (ℕ × List ℕ) FormFault
protest_among ms =
    integer_of_member field.Number (codes "number") ms
    >>= in_range_or_fault (fault.Range field.Number) 1 most_number
    >>= (λ number. text_of_member field.Text (codes "text") ms
    >>= as_protest_text (of_kind (fault.Range field.Text))
    >>= (λ text. Ok (number, text)))

-- the number and the text of a protest of a body
abbrev pub protest_in_body : List ℕ → Result (ℕ × List ℕ) FormFault
protest_in_body body = object_in (codes "number" ∷ codes "text" ∷ []) body >>= protest_among

-- the points of a ruling: -1,000 to 1,000
abbrev pub points_in : ℤ → Result ℤ FormFault
points_in (pos n) = unless (fault.Range field.Points) (nat_le n most_points) >>= (λ _. Ok (pos n))
points_in (negsuc n) = unless (fault.Range field.Points) (nat_le (suc n) most_points) >>= (λ _. Ok (negsuc n))

-- the ruling of these points: where the protest isn't upheld there are none
abbrev pub ruling_from : ℤ → Bool → Result Ruling FormFault
ruling_from points true = Ok (Upheld points)
ruling_from (pos zero) false = Ok Rejected
ruling_from (pos (suc n)) false = Err (fault.Range field.Points)
ruling_from (negsuc n) false = Err (fault.Range field.Points)

-- the ruling among the members: its points, and whether the protest is upheld
abbrev pub ruling_among : Members → Result Ruling FormFault
ruling_among ms =
    integer_of_member field.Points (codes "points") ms
    >>= points_in
    >>= (λ points. flag_of_member field.Upheld (codes "upheld") ms >>= ruling_from points)

-- the ruling of a body
abbrev pub ruling_in_body : List ℕ → Result Ruling FormFault
ruling_in_body body = object_in (codes "points" ∷ codes "upheld" ∷ []) body >>= ruling_among
