-- Lists that come with a request.
use Rattle.std.specs.Prelude.{◌≡◌, ◌⊎◌, ◌≤◌, ◌||◌, ℕ, List, length, AllPairs}
use Rattle.std.specs.Ordering.{is_eq}
use Rattle.std.specs.BTreeSet.{BTreeSet, contains}
use Rattle.hall_policy.specs.Limits.{most_people, most_entries, most_testers}
use Rattle.hall_policy.specs.Text.{text_cmp}
use Rattle.hall_policy.specs.declared.record.Person.{Person}
use Rattle.hall_policy.specs.declared.record.Entry.{Entry}

-- no name or key twice
abbrev pub ArePeopleDifferent : List Person → Type 0
ArePeopleDifferent people = AllPairs (λ a b. ¬ ((a.name ≡ b.name) ⊎ (a.key ≡ b.key))) people

-- few enough people, and no name or key twice
pub record ArePeople (people : List Person) : Type 0 where
  pub few : length people ≤ most_people
  pub different : ArePeopleDifferent people

-- one puzzle or more, few enough, none twice
pub record AreEntries (entries : List Entry) : Type 0 where
  pub some : 1 ≤ length entries
  pub few : length entries ≤ most_entries
  pub different : AllPairs (λ a b. ¬ (a.puzzle ≡ b.puzzle)) entries

-- few enough names, none twice
pub record AreTesters (testers : List (List ℕ)) : Type 0 where
  pub few : length testers ≤ most_testers
  pub different : AllPairs (λ a b. ¬ (a ≡ b)) testers

-- the text is seen too
abbrev pub IsSeenToo : BTreeSet (List ℕ) → BTreeSet (List ℕ) → List ℕ → Type 0
IsSeenToo before after text =
    (q : List ℕ) → contains text_cmp after q ≡ (is_eq (text_cmp text q) || contains text_cmp before q)
