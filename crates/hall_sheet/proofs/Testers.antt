-- The names of testers, one after another, and that none stands twice.
use Rattle.std.proofs.Common.{◌≡◌, ◌≤◌, ◌<◌, ◌+◌, map, drop, ◌∙◌, sym, refl, ap, arith, ℕ, suc, Bool, true, false, not}
use Rattle.std.proofs.Common.{List, [], ◌∷◌, ◌++◌, length, get_or, AllPairs, Result, Ok, Err}
use Rattle.std.specs.Prelude.{All}
use Rattle.std.specs.List.{list_all}
use Rattle.std.specs.Str.{bytes_eq}
use Rattle.std.proofs.lemmas.Bool.{le-leb, and_from, and_parts, false≢true, false_from_ne_true}
use Rattle.std.proofs.lemmas.List.{drop_more}
use Rattle.std.proofs.lemmas.List.Folds.{list_any_at, list_any_none}
use Rattle.std.proofs.lemmas.List.Kept.{AllPairs-cons}
use Rattle.std.proofs.lemmas.Slice.Eq.{bytes_eq-Decides}
use Rattle.toml.specs.Data.{Members}
use Rattle.hall_policy.specs.Limits.{most_testers}
use Rattle.hall_policy.specs.Lists.{AreTesters}
use Rattle.hall_policy.specs.Text.{is_kind, is_word_byte}
use Rattle.hall_policy.specs.Reading.{◌>>=◌, of_kind}
use Rattle.hall_sheet.specs.declared.fault.Field.TheVariants as field
use Rattle.hall_sheet.specs.declared.fault.Refusal.{Refusal}
use Rattle.hall_sheet.specs.declared.fault.Refusal.TheVariants as refusal
use Rattle.hall_sheet.specs.declared.fault.SheetFault.{SheetFault}
use Rattle.hall_sheet.specs.declared.fault.SheetFault.TheVariants as fault
use Rattle.hall_sheet.specs.Given.{SheetFails}
use Rattle.hall_sheet.specs.People.{is_among, are_distinct}
use Rattle.hall_sheet.specs.Table.{texts_field}
use Rattle.hall_sheet.specs.Sheet.{names_in, named_testers_in}

-- the names so far, and those of the texts that follow
abbrev pub names_from : List (List ℕ) → List (List ℕ) → Result (List (List ℕ)) Refusal
names_from before texts = names_in texts >>= (λ more. Ok (before ++ more))

abbrev is_name : List ℕ → Bool
is_name = is_kind 1 24 is_word_byte

abbrev named : List ℕ → Result (List ℕ) Refusal
named = of_kind (refusal.Range field.Testers) 1 24 is_word_byte

-- a text that is no name
other_text : (before more : List (List ℕ)) (text : List ℕ) (r : Refusal) → named text ≡ Err r
    → names_from before (text ∷ more) ≡ Err r
other_text before more text r e = by (is_name text) refl
  where
    by : (a : Bool) → is_name text ≡ a → names_from before (text ∷ more) ≡ Err r
    by true is = let given = rw is at e in cc
    by false other =
        let given = rw other at e in
        let same : refusal.Range field.Testers ≡ r = cc in
        rw other (ap Err same)

pub no_name : {T : Type 0} (seen : T → List ℕ) (before : List (List ℕ)) (ts : List T) (i : ℕ) (t : T) (e : SheetFault)
    (all : Result (List (List ℕ)) Refusal) → i < length ts → all ≡ names_from before (map seen (drop i ts))
    → SheetFails e (named (seen (get_or ts i t))) → SheetFails e all
no_name seen before ts i t fault.Memory all within so_far f = tt
no_name seen before ts i t (fault.Refused r) all within so_far f =
    so_far ∙ rw (drop_more ts i t within) (other_text before (map seen (drop (i + 1) ts)) (seen (get_or ts i t)) r f)

-- any two of the names differ
abbrev Differ : List (List ℕ) → Type 0
Differ = AllPairs (λ a b. ¬ (a ≡ b))

others : (x : List ℕ) (xs : List (List ℕ)) → is_among xs x ≡ false → All (λ y. ¬ (x ≡ y)) xs
others x xs none k d within same =
    false≢true (sym none ∙ list_any_at (bytes_eq x) xs k d within ((bytes_eq-Decides x (get_or xs k d)).1 same))

pub names_differ : (xs : List (List ℕ)) → are_distinct xs ≡ true → Differ xs
names_differ [] e = λ i j d below within. absurd (omega (arith, within))
names_differ (x ∷ xs) e =
    let (new, more) = and_parts (not (is_among xs x)) (are_distinct xs) e in
    AllPairs-cons (λ a b. ¬ (a ≡ b)) x xs (others x xs (absent (is_among xs x) new)) (names_differ xs more)
  where
    absent : (b : Bool) → not b ≡ true → b ≡ false
    absent true h = cc
    absent false h = refl

pub names_distinct : (xs : List (List ℕ)) → Differ xs → are_distinct xs ≡ true
names_distinct [] differ = refl
names_distinct (x ∷ xs) differ =
    let new : is_among xs x ≡ false = list_any_none (bytes_eq x) xs (λ k d within. false_from_ne_true _ (λ e.
    differ 0 (suc k) d (omega arith) (omega (arith, within)) ((bytes_eq-Decides x (get_or xs k d)).0 e))) in
    and_from (not (is_among xs x)) (are_distinct xs) (ap not new)
    (names_distinct xs (λ i j d below within. differ (suc i) (suc j) d (omega (arith, below)) (omega (arith, within))))

names_are : (texts names : List (List ℕ)) → names_in texts ≡ Ok names → texts ≡ names
names_are texts names e = by (list_all is_name texts) refl
  where
    by : (a : Bool) → list_all is_name texts ≡ a → texts ≡ names
    by true are = let given = rw are at e in cc
    by false other = let given = rw other at e in cc

module _ (ms : Members) (texts names : List (List ℕ)) where
  -- the names of at most twenty texts, none of them twice
  pub testers_are : texts_field field.Testers ms ≡ Ok texts → length texts ≤ most_testers → names_in texts ≡ Ok names
      → AreTesters names → named_testers_in ms ≡ Ok names
  unfolding named_testers_in
  testers_are read few named valid =
      rw (read, le-leb (length texts) most_testers few, named, names_distinct names valid.different) refl

  -- or one of them twice
  pub tester_repeated : texts_field field.Testers ms ≡ Ok texts → length texts ≤ most_testers
      → names_in texts ≡ Ok names
      → ¬ (AreTesters names) → named_testers_in ms ≡ Err refusal.Repeated
  unfolding named_testers_in
  tester_repeated read few named invalid =
      let long : length texts ≡ length names = ap length (names_are texts names named) in
      let again : are_distinct names ≡ false = false_from_ne_true (are_distinct names) (λ distinct.
      invalid (record { few = omega (arith, few, long); different = names_differ names distinct })) in
      rw (read, le-leb (length texts) most_testers few, named, again) refl
