-- The people that an entry list spells, or the first thing that is wrong with its bytes.
use Rattle.std.specs.Prelude.{ℕ, ◌==◌, nat_lt, List, [], ◌∷◌, ◌++◌, length, Bool, true, ◌&&◌, ◌||◌, not}
use Rattle.std.specs.Prelude.{if◌then◌else◌, Option, Some, None, Result, Ok, Err, codes}
use Rattle.std.specs.List.{list_all, list_any, slice_split}
use Rattle.std.specs.Str.{bytes_eq, is_utf8}
use Rattle.csv.specs.Reading.{default_config, strip_bom, records}
use Rattle.hall_policy.specs.Limits.{most_people}
use Rattle.hall_policy.specs.Text.{as_word, as_key}
use Rattle.hall_policy.specs.Reading.{◌>>=◌, or_fault, unless, of_kind}
use Rattle.hall_policy.specs.declared.record.Person.{Person}
use Rattle.hall_policy.specs.declared.record.Roles.{Roles}
use Rattle.hall_sheet.specs.declared.fault.Field.TheVariants as field
use Rattle.hall_sheet.specs.declared.fault.Refusal.{Refusal}
use Rattle.hall_sheet.specs.declared.fault.Refusal.TheVariants.{Syntax, Missing, Range, Repeated}

-- the fields of a line
pub record Fields : Type 0 where
  pub name : List ℕ
  pub key : List ℕ
  pub roles : List ℕ

-- the fields of a record that has three
abbrev pub three_in : List (List ℕ) → Option Fields
three_in (name ∷ key ∷ roles ∷ []) = Some (record { name = name; key = key; roles = roles })
three_in _ = None

-- the fields of a record, each of which is UTF-8
abbrev pub texts_in : List (List ℕ) → Result (List (List ℕ)) Refusal
texts_in fields = unless Syntax (list_all is_utf8 fields) >>= (λ _. Ok fields)

-- the line that a record is: three fields of text
abbrev pub line_in : List (List ℕ) → Result Fields Refusal
line_in fields = texts_in fields >>= (λ texts. or_fault Syntax (three_in texts))

-- nothing, where no field of the line is empty
abbrev pub filled_in : Fields → Result (Unit {0}) Refusal
filled_in line =
    unless (Missing field.Name) (nat_lt 0 (length line.name))
    >>= (λ _. unless (Missing field.Key) (nat_lt 0 (length line.key)))
    >>= (λ _. unless (Missing field.Roles) (nat_lt 0 (length line.roles)))

-- the words that the pluses of a text part
abbrev pub words_in : List ℕ → List (List ℕ)
words_in text = slice_split (λ byte. byte == 43) text

-- whether the word is one of these
abbrev pub is_among : List (List ℕ) → List ℕ → Bool
is_among words word = list_any (bytes_eq word) words

-- director, author, referee or entrant
abbrev pub is_role : List ℕ → Bool
is_role = is_among (codes "director" ∷ codes "author" ∷ codes "referee" ∷ codes "entrant" ∷ [])

-- no word stands twice
abbrev pub are_distinct : List (List ℕ) → Bool
are_distinct [] = true
are_distinct (word ∷ words) = not (is_among words word) && are_distinct words

-- the roles that words name
abbrev pub roles_named : List (List ℕ) → Roles
roles_named words = record {
  director = is_among words (codes "director");
  author = is_among words (codes "author");
  referee = is_among words (codes "referee");
  entrant = is_among words (codes "entrant");
}

-- the roles that a text names, where each of its words is a role and none stands twice
abbrev pub roles_in_text : List ℕ → Option Roles
roles_in_text text =
    if list_all is_role (words_in text) && are_distinct (words_in text) then Some (roles_named (words_in text))
    else None

-- the person that a line spells: first no field is empty, then each has its form, from the left
abbrev pub spelled_in : Fields → Result Person Refusal
spelled_in line =
    filled_in line
    >>= (λ _. as_word (of_kind (Range field.Name)) line.name)
    >>= (λ name. as_key (of_kind (Range field.Key)) line.key
    >>= (λ key. or_fault (Range field.Roles) (roles_in_text line.roles)
    >>= (λ roles. Ok (record { name = name; key = key; roles = roles }))))

-- the person of a record
abbrev pub person_of : List (List ℕ) → Result Person Refusal
person_of fields = line_in fields >>= spelled_in

-- the person, where nobody before has the same name or the same key
abbrev pub new_after : List Person → Person → Result Person Refusal
new_after before person =
    unless Repeated (not (list_any (λ p. bytes_eq p.name person.name || bytes_eq p.key person.key) before))
    >>= (λ _. Ok person)

-- the person of the record after these people, who are at most 4,999
abbrev pub person_after : List Person → List (List ℕ) → Result Person Refusal
person_after before fields =
    unless (Range field.List) (nat_lt (length before) most_people)
    >>= (λ _. person_of fields)
    >>= new_after before

-- these people, and then those of these records, as long as each spells one
abbrev pub people_from : List Person → List (List (List ℕ)) → Result (List Person) Refusal
people_from before [] = Ok before
people_from before (first ∷ more) = person_after before first >>= (λ person. people_from (before ++ person ∷ []) more)

-- name,key,roles
abbrev pub is_header : Fields → Bool
is_header line =
    bytes_eq line.name (codes "name") && bytes_eq line.key (codes "key") && bytes_eq line.roles (codes "roles")

-- nothing, where the record is the header
abbrev pub header_in : List (List ℕ) → Result (Unit {0}) Refusal
header_in fields = line_in fields >>= (λ line. unless Syntax (is_header line))

-- the people of these records, the first of which is the header
abbrev pub people_of : List (List (List ℕ)) → Result (List Person) Refusal
people_of [] = Err Syntax
people_of (first ∷ more) = header_in first >>= (λ _. people_from [] more)

-- the people of a list: its bytes are records of CSV, with a byte order mark before them or none
abbrev pub people_in : List ℕ → Result (List Person) Refusal
people_in bytes = people_of (records default_config (strip_bom bytes))
