-- Checked texts: what a contract sees of one is its list of bytes.
use Rattle.std.specs.Prelude.{ℕ, ◌≤◌, Bool, List, length, All, IsTrue, ◌||◌, ◌&&◌, nat_le, nat_eq}
use Rattle.std.specs.List.{list_all}
use Rattle.std.specs.declared.cmp.Ordering.{Ordering}
use Rattle.std.specs.Ordering.{nat_cmp}
use Rattle.std.specs.Cmp.Lexicographic.{slice_cmp}
use Rattle.hall_grid.specs.Printable.{is_printable}

-- the order of bytes
abbrev pub text_cmp : List ℕ → List ℕ → Ordering
text_cmp = slice_cmp nat_cmp

-- the length lies in the limits, and each byte is one that the kind allows
pub record IsOfKind (least most : ℕ) (allows : ℕ → Bool) (bytes : List ℕ) : Type 0 where
  pub long_enough : least ≤ length bytes
  pub short_enough : length bytes ≤ most
  pub allowed : All (λ byte. IsTrue (allows byte)) bytes

-- so many bytes, and each is one that the kind allows
abbrev pub is_kind : ℕ → ℕ → (ℕ → Bool) → List ℕ → Bool
is_kind least most allows text = nat_le least (length text) && nat_le (length text) most && list_all allows text

-- a to z, 0 to 9 and the dash
abbrev pub is_word_byte : ℕ → Bool
is_word_byte b = (nat_le 97 b && nat_le b 122) || (nat_le 48 b && nat_le b 57) || nat_eq b 45

-- these and A to Z
abbrev pub is_key_byte : ℕ → Bool
is_key_byte b = (nat_le 65 b && nat_le b 90) || is_word_byte b

-- The limits of each kind of texts, as whoever reads a text or speaks of one is told them: the fewest bytes, the most,
-- and which may stand in it.

-- a name, a label or the id of a round
abbrev pub as_word {ℓ} : {A : Type ℓ} → (ℕ → ℕ → (ℕ → Bool) → A) → A
as_word told = told 1 24 is_word_byte

-- what tells a repeated request from a new one
abbrev pub as_token {ℓ} : {A : Type ℓ} → (ℕ → ℕ → (ℕ → Bool) → A) → A
as_token told = told 1 32 is_word_byte

-- the secret by which a caller is known
abbrev pub as_key {ℓ} : {A : Type ℓ} → (ℕ → ℕ → (ℕ → Bool) → A) → A
as_key told = told 8 64 is_key_byte

-- a round's title
abbrev pub as_title {ℓ} : {A : Type ℓ} → (ℕ → ℕ → (ℕ → Bool) → A) → A
as_title told = told 1 60 is_printable

-- what an entrant protests
abbrev pub as_protest_text {ℓ} : {A : Type ℓ} → (ℕ → ℕ → (ℕ → Bool) → A) → A
as_protest_text told = told 1 200 is_printable

-- what an entrant hands in
abbrev pub as_answer {ℓ} : {A : Type ℓ} → (ℕ → ℕ → (ℕ → Bool) → A) → A
as_answer told = told 0 4000 is_printable

-- the text of a puzzle
abbrev pub as_puzzle_text {ℓ} : {A : Type ℓ} → (ℕ → ℕ → (ℕ → Bool) → A) → A
as_puzzle_text told = told 1 8000 is_printable
