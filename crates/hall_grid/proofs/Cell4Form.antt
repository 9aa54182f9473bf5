-- The reading of a form in the scheme 4Cell, and the table of forms.
use Rattle.std.proofs.Common.{◌≡◌, ℕ, ◌+◌, ◌≤◌, ◌⊎◌, List, [], ◌∷◌, ◌++◌, replicate, Option, Some, None, Ok, Err, refl}
use Rattle.std.proofs.Common.{sym, subst, inl, inr, arith, ◌==◌}
use Rattle.std.proofs.lemmas.Grind.{common_steps}
use Rattle.std.proofs.lemmas.Bool.Decides.{nat_tests}
use Rattle.std.proofs.lemmas.Bool.{ne_eqb, eqb-true}
use Rattle.hall_grid.specs.declared.board.Kind.TheVariants.{Slither}
use Rattle.hall_grid.specs.declared.board.Clue.{Clue}
use Rattle.hall_grid.specs.declared.board.Clue.TheVariants.{Blank, Number}
use Rattle.hall_grid.specs.declared.form.FormFault.{FormFault}
use Rattle.hall_grid.specs.declared.form.FormFault.TheVariants.{Strange}
use Rattle.hall_grid.specs.Body.{IsRun, Form, one, two, three, alone, before_one, before_two, some_count, run}
use Rattle.hall_grid.specs.Body.{BeginsNone}
use Rattle.hall_grid.specs.FormReading.{run_value, cell4_value, cell4_form, cell4_short}
use Rattle.hall_grid.proofs.Number16Form.{Reads, chosen, ok_is, run_again, run_is}

-- a byte of the scheme that is a number, and the empty cells after it
abbrev IsCounted : ℕ → ℕ × ℕ → Type 0
IsCounted b n = (n.0 ≤ 4) × (((n.1 ≡ 0) × (b ≡ 48 + n.0)) ⊎ ((n.1 ≡ 1) × (b ≡ 53 + n.0)) ⊎ ((n.1 ≡ 2) × (b ≡ 97 + n.0)))

alone_again : (b n : ℕ) → n ≤ 4 → b ≡ 48 + n → cell4_value b ≡ Some (n, 0)
alone_again b n few e = rw e (grind (arith, nat_tests, common_steps))

before_one_again : (b n : ℕ) → n ≤ 4 → b ≡ 53 + n → cell4_value b ≡ Some (n, 1)
before_one_again b n few e = rw e (grind (arith, nat_tests, common_steps))

before_two_again : (b n : ℕ) → n ≤ 4 → b ≡ 97 + n → cell4_value b ≡ Some (n, 2)
before_two_again b n few e = rw e (grind (arith, nat_tests, common_steps))

run_has_no_number : (b n : ℕ) → IsRun b n → cell4_value b ≡ None
run_has_no_number b n r = grind (arith, nat_tests, common_steps)

pub cell4_again : (form after : List ℕ) (clues : List Clue)
    → Form Slither form clues
    → cell4_form (form ++ after) ≡ Ok (clues, after)
unfolding cell4_form
cell4_again form after clues (one h _) = absurd h
cell4_again form after clues (two h _ _) = absurd h
cell4_again form after clues (three h _ _ _) = absurd h
cell4_again form after clues (alone {a = a} {n = n} few e) =
    rw (ne_eqb a 46 (λ h. omega arith), alone_again a n few e) refl
cell4_again form after clues (before_one {a = a} {n = n} few e) =
    rw (ne_eqb a 46 (λ h. omega arith), before_one_again a n few e) refl
cell4_again form after clues (before_two {a = a} {n = n} few e) =
    rw (ne_eqb a 46 (λ h. omega arith), before_two_again a n few e) refl
cell4_again form after clues some_count = refl
cell4_again form after clues (run {a = a} {n = n} r) =
    rw (ne_eqb a 46 (λ h. omega arith), run_has_no_number a n r, (run_again a n r).0) refl

cell4_value_is : (b : ℕ) (n : ℕ × ℕ) → cell4_value b ≡ Some n → IsCounted b n
cell4_value_is b n e = grind (arith, nat_tests, common_steps)

counted_form : (b : ℕ) (n : ℕ × ℕ) → IsCounted b n → Form Slither (b ∷ []) (Number n.0 ∷ replicate n.1 Blank)
counted_form b n (few, inl h) = rw h.0 (alone few h.1)
counted_form b n (few, inr (inl h)) = rw h.0 (before_one few h.1)
counted_form b n (few, inr (inr h)) = rw h.0 (before_two few h.1)

short_is : (b : ℕ) (rest : List ℕ) (n : Option (ℕ × ℕ)) (k : Option ℕ) (r : List Clue × List ℕ)
    → cell4_value b ≡ n → run_value b ≡ k → cell4_short n k rest ≡ Ok r → Reads Slither (b ∷ rest) r
short_is b rest (Some n) k r e f g =
    subst (λ r. Reads Slither (b ∷ rest) r) (ok_is _ r g) (record {
      form = b ∷ [];
      is_form = counted_form b n (cell4_value_is b n e);
      front = refl;
    })
short_is b rest None (Some n) r e f g =
    subst (λ r. Reads Slither (b ∷ rest) r) (ok_is _ r g) (record {
      form = b ∷ [];
      is_form = run (run_is b n f);
      front = refl;
    })
short_is b rest None None r e f g = absurd (cc)

pub cell4_is : (bytes : List ℕ) (r : List Clue × List ℕ) → cell4_form bytes ≡ Ok r → Reads Slither bytes r
unfolding cell4_form
cell4_is [] r e = absurd (cc)
cell4_is (b ∷ rest) r e =
    elim (chosen (b == 46) _ _ (Ok r) e) [
      | inl p ↦ subst (λ b. Reads Slither (b ∷ rest) r) (sym (eqb-true b 46 p.0))
          (subst (λ r. Reads Slither (46 ∷ rest) r) (ok_is _ r p.1) (record {
            form = 46 ∷ [];
            is_form = some_count;
            front = refl;
          }))
      | inr p ↦ short_is b rest (cell4_value b) (run_value b) r refl refl p.1
    ]

short_err : (n : Option (ℕ × ℕ)) (k : Option ℕ) (rest rest' : List ℕ) (f : FormFault)
    → cell4_short n k rest ≡ Err f
    → (f ≡ Strange) × (cell4_short n k rest' ≡ Err Strange)
short_err (Some n) k rest rest' f e = absurd (cc)
short_err None (Some n) rest rest' f e = absurd (cc)
short_err None None rest rest' f e = (cc, refl)

-- only Strange is met, whatever follows the first byte
pub cell4_err : (b : ℕ) (rest rest' : List ℕ) (f : FormFault)
    → cell4_form (b ∷ rest) ≡ Err f
    → (f ≡ Strange) × (cell4_form (b ∷ rest') ≡ Err Strange)
unfolding cell4_form
cell4_err b rest rest' f e =
    elim (chosen (b == 46) _ _ (Err f) e) [
      | inl p ↦ let bad = p.1 in absurd (cc)
      | inr p ↦ let s = short_err (cell4_value b) (run_value b) rest rest' f p.1 in (s.0, rw p.0 s.1)
    ]

pub cell4_strange : (b : ℕ) (rest : List ℕ) (f : FormFault)
    → cell4_form (b ∷ rest) ≡ Err f
    → BeginsNone Slither (b ∷ rest)
cell4_strange b rest f e = λ bytes clues is_form.
    let again : cell4_form (b ∷ (bytes ++ [])) ≡ Ok (clues, []) = cell4_again (b ∷ bytes) [] clues is_form in
    let fails = (cell4_err b rest (bytes ++ []) f e).1 in cc
