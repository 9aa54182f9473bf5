-- The reading of a form in the scheme Number16, and the table of forms.
use Rattle.std.proofs.Common.{◌≡◌, ℕ, ◌+◌, ◌*◌, ◌⊎◌, ◌&&◌, Bool, true, false, cond, List, [], ◌∷◌, ◌++◌, Option, Some}
use Rattle.std.proofs.Common.{None, Result, Ok, Err, refl, sym, ap, subst, inl, inr, arith, ◌==◌}
use Rattle.std.proofs.lemmas.Grind.{common_steps}
use Rattle.std.proofs.lemmas.Bool.Decides.{nat_tests}
use Rattle.std.proofs.lemmas.Bool.{ne_eqb, eqb-true}
use Rattle.hall_grid.specs.declared.board.Kind.{Kind}
use Rattle.hall_grid.specs.declared.board.Kind.TheVariants.{Sudoku, Slither, Nurikabe}
use Rattle.hall_grid.specs.declared.board.Clue.{Clue}
use Rattle.hall_grid.specs.declared.board.Clue.TheVariants.{Unknown, Number}
use Rattle.hall_grid.specs.declared.form.FormFault.{FormFault}
use Rattle.hall_grid.specs.declared.form.FormFault.TheVariants.{Strange, Cut}
use Rattle.hall_grid.specs.Body.{IsHexDigit, IsRun, HasNumber16, Form, one, two, three, some_number, alone, before_one}
use Rattle.hall_grid.specs.Body.{before_two, some_count, run, BeginsNone, BeginsLong}
use Rattle.hall_grid.specs.FormReading.{hex_value, run_value, two_at, three_at, number16_form, short_form, long_form}
use Rattle.hall_grid.specs.FormReading.{is_nurikabe, ◌>>=◌}

-- a digit is read as itself
hex_again : (b n : ℕ) → IsHexDigit b n → hex_value b ≡ Some n
hex_again b n (inl h) = grind (arith, nat_tests, common_steps)
hex_again b n (inr h) = grind (arith, nat_tests, common_steps)

hex_is : (b n : ℕ) → hex_value b ≡ Some n → IsHexDigit b n
hex_is b n e = grind (arith, nat_tests, common_steps)

pub run_again : (b n : ℕ) → IsRun b n → (run_value b ≡ Some n) × (hex_value b ≡ None)
run_again b n h = (grind (arith, nat_tests, common_steps), grind (arith, nat_tests, common_steps))

-- the test of an if, and what it chose
pub chosen : {A : Type 0} (b : Bool) (x y z : A) → cond b x y ≡ z → ((b ≡ true) × (x ≡ z)) ⊎ ((b ≡ false) × (y ≡ z))
chosen true x y z e = inl (refl, e)
chosen false x y z e = inr (refl, e)

two_again : (a b m n : ℕ) (rest : List ℕ)
    → IsHexDigit a m
    → IsHexDigit b n
    → two_at (a ∷ b ∷ rest) ≡ Some (16 * m + n, rest)
two_again a b m n rest h k = rw (hex_again a m h, hex_again b n k) refl

three_again : (a b c l m n : ℕ) (rest : List ℕ)
    → IsHexDigit a l
    → IsHexDigit b m
    → IsHexDigit c n
    → three_at (a ∷ b ∷ c ∷ rest) ≡ Some (256 * l + 16 * m + n, rest)
three_again a b c l m n rest h k j = rw (hex_again a l h, hex_again b m k, hex_again c n j) refl

-- a form is read as the table says, whatever follows it
pub number16_again : (kind : Kind) (form after : List ℕ) (clues : List Clue)
    → HasNumber16 kind
    → Form kind form clues
    → number16_form kind (form ++ after) ≡ Ok (clues, after)
unfolding number16_form
number16_again kind form after clues h (one {a = a} {m = m} _ d) =
    rw (
      ne_eqb a 45 (λ e. omega arith),
      ne_eqb a 43 (λ e. omega arith),
      ne_eqb a 46 (λ e. omega arith),
      hex_again a m d,
    ) refl
number16_again kind form after clues h (two {a = a} {b = b} {m = m} {n = n} _ d e) =
    rw (two_again a b m n after d e) refl
number16_again kind form after clues h (three {a = a} {b = b} {c = c} {l = l} {m = m} {n = n} _ d e f) =
    rw (three_again a b c l m n after d e f) refl
number16_again kind form after clues h some_number = refl
number16_again kind form after clues h (alone _ _) = absurd h
number16_again kind form after clues h (before_one _ _) = absurd h
number16_again kind form after clues h (before_two _ _) = absurd h
number16_again kind form after clues h some_count = absurd h
number16_again kind form after clues h (run {a = a} {n = n} r) =
    rw (
      ne_eqb a 45 (λ e. omega arith),
      ne_eqb a 43 (λ e. omega arith),
      ne_eqb a 46 (λ e. omega arith),
      (run_again a n r).0,
      (run_again a n r).1,
    ) refl

bind_some : {A B : Type 0} (o : Option A) (f : A → Option B) (y : B)
    → (o >>= f) ≡ Some y
    → (x : A) × (o ≡ Some x) × (f x ≡ Some y)
bind_some None f y e = absurd (cc)
bind_some (Some x) f y e = (x, refl, e)

pub run_is : (b n : ℕ) → run_value b ≡ Some n → IsRun b n
run_is b n e = grind (arith, nat_tests, common_steps)

pub some_is : {A : Type 0} (x y : A) → Some x ≡ Some y → x ≡ y
some_is x y e = cc

pub ok_is : {A E : Type 0} (x y : A) → ◌≡◌ {A = Result A E} (Ok x) (Ok y) → x ≡ y
ok_is x y e = cc

-- what stands behind a sign and is a number, with what follows it
abbrev pub IsLongForm : Kind → ℕ → List ℕ → ℕ × List ℕ → Type 0
IsLongForm kind sign bytes r = (form : List ℕ) × Form kind (sign ∷ form) (Number r.0 ∷ []) × (bytes ≡ form ++ r.1)

two_is : (kind : Kind) (bytes : List ℕ) (r : ℕ × List ℕ)
    → HasNumber16 kind
    → two_at bytes ≡ Some r
    → IsLongForm kind 45 bytes r
two_is kind [] r h e = absurd (cc)
two_is kind (a ∷ []) r h e = absurd (cc)
two_is kind (a ∷ b ∷ rest) r h e =
    let p = bind_some (hex_value a) _ r e in
    let q = bind_some (hex_value b) _ r p.2 in
    subst (λ r. IsLongForm kind 45 (a ∷ b ∷ rest) r) (some_is _ r q.2)
    (a ∷ b ∷ [], two h (hex_is a p.0 p.1) (hex_is b q.0 q.1), refl)

three_is : (kind : Kind) (bytes : List ℕ) (r : ℕ × List ℕ)
    → HasNumber16 kind
    → three_at bytes ≡ Some r
    → IsLongForm kind 43 bytes r
three_is kind [] r h e = absurd (cc)
three_is kind (a ∷ []) r h e = absurd (cc)
three_is kind (a ∷ b ∷ []) r h e = absurd (cc)
three_is kind (a ∷ b ∷ c ∷ rest) r h e =
    let p = bind_some (hex_value a) _ r e in
    let q = bind_some (hex_value b) _ r p.2 in
    let s = bind_some (hex_value c) _ r q.2 in
    subst (λ r. IsLongForm kind 43 (a ∷ b ∷ c ∷ rest) r) (some_is _ r s.2)
    (a ∷ b ∷ c ∷ [], three h (hex_is a p.0 p.1) (hex_is b q.0 q.1) (hex_is c s.0 s.1), refl)

-- a form with these clues stands at the front of the bytes, and then the rest
pub record Reads (kind : Kind) (bytes : List ℕ) (r : List Clue × List ℕ) : Type 0 where
  pub form : List ℕ
  pub is_form : Form kind form r.0
  pub front : bytes ≡ form ++ r.1

long_is : (kind : Kind) (sign : ℕ) (bytes : List ℕ) (n : Option (ℕ × List ℕ)) (r : List Clue × List ℕ)
    → ((x : ℕ × List ℕ) → n ≡ Some x → IsLongForm kind sign bytes x) → long_form n ≡ Ok r → Reads kind (sign ∷ bytes) r
long_is kind sign bytes None r f e = absurd (cc)
long_is kind sign bytes (Some x) r f e =
    let p = f x refl in
    subst (λ r. Reads kind (sign ∷ bytes) r) (ok_is _ r e) (record {
      form = sign ∷ p.0;
      is_form = p.1;
      front = ap (λ s. sign ∷ s) p.2;
    })

short_is : (kind : Kind) (b : ℕ) (rest : List ℕ) (n k : Option ℕ) (r : List Clue × List ℕ) → HasNumber16 kind
    → hex_value b ≡ n → run_value b ≡ k → short_form n k rest ≡ Ok r → Reads kind (b ∷ rest) r
short_is kind b rest (Some n) k r h e f g =
    subst (λ r. Reads kind (b ∷ rest) r) (ok_is _ r g) (record {
      form = b ∷ [];
      is_form = one h (hex_is b n e);
      front = refl;
    })
short_is kind b rest None (Some n) r h e f g =
    subst (λ r. Reads kind (b ∷ rest) r) (ok_is _ r g) (record {
      form = b ∷ [];
      is_form = run (run_is b n f);
      front = refl;
    })
short_is kind b rest None None r h e f g = absurd (cc)

unknown_is : (kind : Kind) (b : ℕ) (rest : List ℕ) (r : List Clue × List ℕ) → (b == 46 && is_nurikabe kind) ≡ true
    → ◌≡◌ {A = Result (List Clue × List ℕ) FormFault} (Ok (Unknown ∷ [], rest)) (Ok r) → Reads kind (b ∷ rest) r
unknown_is Sudoku b rest r t e = absurd (grind (arith, nat_tests, common_steps))
unknown_is Slither b rest r t e = absurd (grind (arith, nat_tests, common_steps))
unknown_is Nurikabe b rest r t e =
    let b46 : b ≡ 46 = grind (arith, nat_tests, common_steps) in
    subst (λ r. Reads Nurikabe (b ∷ rest) r) (ok_is _ r e)
    (subst (λ b. Reads Nurikabe (b ∷ rest) (Unknown ∷ [], rest)) (sym b46) (record {
      form = 46 ∷ [];
      is_form = some_number;
      front = refl;
    }))

-- what is read is in the table
pub number16_is : (kind : Kind) (bytes : List ℕ) (r : List Clue × List ℕ)
    → HasNumber16 kind
    → number16_form kind bytes ≡ Ok r
    → Reads kind bytes r
unfolding number16_form
number16_is kind [] r h e = absurd (cc)
number16_is kind (b ∷ rest) r h e =
    elim (chosen (b == 45) _ _ (Ok r) e) [
      | inl p ↦
          subst (λ b. Reads kind (b ∷ rest) r) (sym (eqb-true b 45 p.0))
          (long_is kind 45 rest (two_at rest) r (λ x. two_is kind rest x h) p.1)
      | inr p ↦ elim (chosen (b == 43) _ _ (Ok r) p.1) [
        | inl q ↦
            subst (λ b. Reads kind (b ∷ rest) r) (sym (eqb-true b 43 q.0))
            (long_is kind 43 rest (three_at rest) r (λ x. three_is kind rest x h) q.1)
        | inr q ↦ elim (chosen (b == 46 && is_nurikabe kind) _ _ (Ok r) q.1) [
          | inl s ↦ unknown_is kind b rest r s.0 s.1
          | inr s ↦ short_is kind b rest (hex_value b) (run_value b) r h refl refl s.1
        ]
      ]
    ]

-- which fault comes depends on the first byte
long_err : (n : Option (ℕ × List ℕ)) (f : FormFault) → long_form n ≡ Err f → f ≡ Cut
long_err None f e = cc
long_err (Some x) f e = absurd (cc)

short_err : (n k : Option ℕ) (rest rest' : List ℕ) (f : FormFault)
    → short_form n k rest ≡ Err f
    → (f ≡ Strange) × (short_form n k rest' ≡ Err Strange)
short_err (Some n) k rest rest' f e = absurd (cc)
short_err None (Some n) rest rest' f e = absurd (cc)
short_err None None rest rest' f e = (cc, refl)

-- at Cut the bytes begin with a sign
pub number16_cut : (kind : Kind) (bytes : List ℕ) → number16_form kind bytes ≡ Err Cut → BeginsLong bytes
unfolding number16_form
number16_cut kind [] e = absurd (cc)
number16_cut kind (b ∷ rest) e =
    elim (chosen (b == 45) _ _ (Err Cut) e) [
      | inl p ↦ inl (eqb-true b 45 p.0)
      | inr p ↦ elim (chosen (b == 43) _ _ (Err Cut) p.1) [
        | inl q ↦ inr (eqb-true b 43 q.0)
        | inr q ↦ elim (chosen (b == 46 && is_nurikabe kind) _ _ (Err Cut) q.1) [
          | inl s ↦ let bad = s.1 in absurd (cc)
          | inr s ↦ let bad = (short_err (hex_value b) (run_value b) rest rest Cut s.1).0 in absurd (cc)
        ]
      ]
    ]

strange_front : (kind : Kind) (b : ℕ) (rest rest' : List ℕ)
    → number16_form kind (b ∷ rest) ≡ Err Strange
    → number16_form kind (b ∷ rest') ≡ Err Strange
unfolding number16_form
strange_front kind b rest rest' e =
    elim (chosen (b == 45) _ _ (Err Strange) e) [
      | inl p ↦ let bad = long_err (two_at rest) Strange p.1 in absurd (cc)
      | inr p ↦ elim (chosen (b == 43) _ _ (Err Strange) p.1) [
        | inl q ↦ let bad = long_err (three_at rest) Strange q.1 in absurd (cc)
        | inr q ↦ elim (chosen (b == 46 && is_nurikabe kind) _ _ (Err Strange) q.1) [
          | inl s ↦ let bad = s.1 in absurd (cc)
          | inr s ↦ rw (p.0, q.0, s.0) (short_err (hex_value b) (run_value b) rest rest' Strange s.1).1
        ]
      ]
    ]

-- at Strange no form begins with the byte
pub number16_strange : (kind : Kind) (b : ℕ) (rest : List ℕ)
    → HasNumber16 kind
    → number16_form kind (b ∷ rest) ≡ Err Strange
    → BeginsNone kind (b ∷ rest)
number16_strange kind b rest h e = λ bytes clues is_form.
    let again : number16_form kind (b ∷ (bytes ++ [])) ≡ Ok (clues, []) =
    number16_again kind (b ∷ bytes) [] clues h is_form in
    let fails = strange_front kind b rest (bytes ++ []) e in cc
