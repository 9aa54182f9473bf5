-- Entries one after another.
use Rattle.std.proofs.Common.{◌≡◌, ◌∙◌, sym, refl, arith, ℕ, zero, suc, ◌+◌, ◌<◌, ◌≤◌, ◌||◌, Bool, true, false, ◌⊎◌}
use Rattle.std.proofs.Common.{inl, inr, ap, List, [], ◌∷◌, ◌++◌, length, drop, map, get_or, length-append, Ok, Err}
use Rattle.std.proofs.Common.{Result, AllPairs}
use Rattle.std.specs.List.{list_any}
use Rattle.std.specs.Str.{bytes_eq}
use Rattle.std.proofs.lemmas.Bool.{cases_Bool, false≢true, and_from, eq-eqb}
use Rattle.std.specs.Prelude.{nat_eq}
use Rattle.std.proofs.lemmas.List.{drop_more, drop_all}
use Rattle.std.proofs.lemmas.List.Quantifiers.{all_pairs_push}
use Rattle.toml.specs.Data.{Members}
use Rattle.hall_policy.specs.Limits.{most_entries}
use Rattle.hall_policy.specs.declared.record.Entry.{Entry}
use Rattle.hall_policy.specs.Lists.{AreEntries}
use Rattle.hall_sheet.specs.declared.fault.Refusal.{Refusal}
use Rattle.hall_sheet.specs.declared.fault.Refusal.TheVariants as refusal
use Rattle.hall_sheet.specs.Sheet.{entry_in, entries_in, is_repeated}

module _ {T : Type 0} (seen : T → Members) where
  -- the entries of the tables from place i on
  abbrev pub rest_in : List Entry → List T → ℕ → Result (List Entry) Refusal
  rest_in before ts i = entries_in before (map seen (drop i ts))

  pub rest_more : (before : List Entry) (ts : List T) (i : ℕ) (t : T) → i < length ts → get_or ts i t ≡ t
      → rest_in before ts i ≡ entries_in before (seen t ∷ map seen (drop (i + 1) ts))
  rest_more before ts i t within at = rw (drop_more ts i t within, at) refl

  pub rest_done : (before : List Entry) (ts : List T) (i : ℕ) → length ts ≤ i → rest_in before ts i ≡ Ok before
  rest_done before ts i past = rw (drop_all i ts past) refl

pub wrong_entry : (before : List Entry) (ms : Members) (more : List Members) (r : Refusal) → entry_in ms ≡ Err r
    → entries_in before (ms ∷ more) ≡ Err r
wrong_entry before ms more r e = rw e refl

pub repeated_entry : (before : List Entry) (ms : Members) (more : List Members) (entry : Entry) → entry_in ms ≡ Ok entry
    → list_any (is_repeated entry) before ≡ true → entries_in before (ms ∷ more) ≡ Err refusal.Repeated
repeated_entry before ms more entry e again = rw (e, again) refl

pub new_entry : (before : List Entry) (ms : Members) (more : List Members) (entry : Entry) → entry_in ms ≡ Ok entry
    → list_any (is_repeated entry) before ≡ false
    → entries_in before (ms ∷ more) ≡ entries_in (before ++ entry ∷ []) more
new_entry before ms more entry e new = rw (e, new) refl

given_or_not : {X E : Type 0} (r : Result X E) → ((x : X) × (r ≡ Ok x)) ⊎ ((e : E) × (r ≡ Err e))
given_or_not (Ok x) = inl (x, refl)
given_or_not (Err e) = inr (e, refl)

-- the entries differ, each of another puzzle
abbrev pub Differ : List Entry → Type 0
Differ = AllPairs (λ a b. ¬ (a.puzzle ≡ b.puzzle))

or_none : (a b : Bool) → (a || b) ≡ false → (a ≡ false) × (b ≡ false)
or_none true b h = cc
or_none false b h = (refl, h)

-- an item of a list in which none passes a test
none_passes : {X : Type 0} (test : X → Bool) (xs : List X) (i : ℕ) (d : X) → list_any test xs ≡ false → i < length xs
    → test (get_or xs i d) ≡ false
none_passes test [] i d none within = absurd (omega (arith, within))
none_passes test (x ∷ xs) zero d none within = (or_none (test x) (list_any test xs) none).0
none_passes test (x ∷ xs) (suc i) d none within =
    none_passes test xs i d (or_none (test x) (list_any test xs) none).1 (omega (arith, within))

bytes_self : (xs : List ℕ) → bytes_eq xs xs ≡ true
bytes_self [] = refl
bytes_self (x ∷ xs) = and_from (nat_eq x x) (bytes_eq xs xs) (eq-eqb x x refl) (bytes_self xs)

same_bytes : (xs ys : List ℕ) → xs ≡ ys → bytes_eq xs ys ≡ true
same_bytes xs ys e = rw e (bytes_self ys)

-- an entry of the puzzle of an earlier one is repeated
seen_again : (later earlier : Entry) → earlier.puzzle ≡ later.puzzle → is_repeated later earlier ≡ true
seen_again later earlier e =
    and_from (bytes_eq earlier.puzzle.author later.puzzle.author) (bytes_eq earlier.puzzle.label later.puzzle.label)
    (same_bytes _ _ (ap (λ k. k.author) e)) (same_bytes _ _ (ap (λ k. k.label) e))

differ_more : (before : List Entry) (entry : Entry) → Differ before → list_any (is_repeated entry) before ≡ false
    → Differ (before ++ entry ∷ [])
differ_more before entry differ none =
    all_pairs_push (λ a b. ¬ (a.puzzle ≡ b.puzzle)) before entry differ (λ k d within same.
    false≢true (sym (none_passes (is_repeated entry) before k d none within)
    ∙ seen_again entry (get_or before k d) same))

-- the entries that were read differ, and there is one for each table
pub entries_whole : (before : List Entry) (tables : List Members) (list : List Entry)
    → entries_in before tables ≡ Ok list
    → Differ before → Differ list × (length list ≡ length before + length tables)
entries_whole before [] list e differ = let same : before ≡ list = cc in (rw same at differ, rw same (omega arith))
entries_whole before (ms ∷ more) list e differ =
    elim (given_or_not (entry_in ms)) [
      | inl (entry, is) ↦
          elim (cases_Bool (list_any (is_repeated entry) before)) [
            | inl again ↦ absurd (let no = sym (repeated_entry before ms more entry is again) ∙ e in cc)
            | inr new ↦
                let rest = entries_whole (before ++ entry ∷ []) more list
                (sym (new_entry before ms more entry is new) ∙ e)
                (differ_more before entry differ new) in
                (rest.0, omega (arith, rest.1, length-append before (entry ∷ [])))
          ]
      | inr (fault, is) ↦ absurd (let no = sym (wrong_entry before ms more fault is) ∙ e in cc)
    ]

-- one to forty tables give a whole list
pub are_entries : (tables : List Members) (list : List Entry) → entries_in [] tables ≡ Ok list → 1 ≤ length tables
    → length tables ≤ most_entries → AreEntries list
are_entries tables list e some few =
    let (differ, long) = entries_whole [] tables list e (λ i j d before within. absurd (omega (arith, within))) in
    record { some = omega (arith, long, some); few = omega (arith, long, few); different = differ }
