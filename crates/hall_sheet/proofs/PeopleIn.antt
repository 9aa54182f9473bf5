-- The people of a list, row by row.
use Rattle.std.proofs.Common.{◌≡◌, ◌∙◌, ◌-◌, ◌<◌, nat_lt, ℕ, Bool, true, false, List, [], ◌∷◌, ◌++◌, length, Some, None}
use Rattle.std.proofs.Common.{Result, Ok, Err, inl, inr, refl, sym, ap, subst, arith, ltb-true, length-append}
use Rattle.std.specs.List.{list_any}
use Rattle.csv.specs.Records.{Row, fields_of}
use Rattle.hall_policy.specs.Limits.{most_people}
use Rattle.hall_policy.specs.Lists.{ArePeople}
use Rattle.hall_policy.specs.Reading.{◌>>=◌, unless}
use Rattle.hall_policy.specs.declared.record.Person.{Person}
use Rattle.hall_sheet.specs.declared.fault.Field.TheVariants as field
use Rattle.hall_sheet.specs.declared.fault.Refusal.{Refusal}
use Rattle.hall_sheet.specs.declared.fault.Refusal.TheVariants.{Range, Repeated}
use Rattle.hall_sheet.specs.declared.fault.SheetFault.{SheetFault}
use Rattle.hall_sheet.specs.declared.fault.SheetFault.TheVariants as fault
use Rattle.hall_sheet.specs.Given.{SheetFails}
use Rattle.hall_sheet.specs.List.{Rows, HasLeft, TakesRow, AddsRow, UnlessRepeated, IsRead, spelled_after}
use Rattle.hall_sheet.specs.People.{new_after, person_of, people_from}
use Rattle.hall_sheet.proofs.IsListed.{are_one, people_more, people_before, people_twice}

-- the people so far, and those of the rows that are left, are all, unless one is there twice
pub record Kept (all : Result (List Person) Refusal) (rows : Rows) (people : List Person) : Type 0 where
  pub left : List (List (List ℕ))
  pub has : HasLeft rows left
  pub so_far : UnlessRepeated people all (all ≡ people_from people left)

pub begun : (rows : Rows) (people : List Person) (left : List (List (List ℕ))) → people ≡ [] → HasLeft rows left
    → Kept (people_from [] left) rows people
begun rows people left none has = subst (λ (before : List Person). Kept (people_from [] left) rows before) (sym none)
    (record {
      left = left;
      has = has;
      so_far = inl (
        record {
          few = omega arith;
          different = λ i j d less low. absurd
              (omega (arith, low));
        },
        refl,
      );
    })

-- a person was spelled, so there was room
room : (r : Bool) (spelled : Result Person Refusal) (person : Person) → (unless (Range field.List) r >>= (λ _. spelled))
    ≡ Ok person → r ≡ true
room true spelled person e = refl
room false spelled person e = cc e

low : (before : List Person) (fields : List (List ℕ)) (person : Person) → spelled_after before fields ≡ Ok person
    → length before < most_people
low before fields person e = ltb-true (length before) most_people
    (room (nat_lt (length before) most_people) (person_of fields) person e)

-- one more person after these, of whom none is there twice
grown : (all : Result (List Person) Refusal) (people : List Person) (person : Person) (b : Bool)
    → list_any (λ p. are_one p person) people ≡ b → length people < most_people →
    (more : List (List (List ℕ))) → ArePeople people → all ≡
    (new_after people person >>= (λ q. people_from (people ++ q ∷ []) more)) →
    UnlessRepeated (people ++ person ∷ []) all (all ≡ people_from (people ++ person ∷ []) more)
grown all people person true some below more are so_far = inr (people_twice people person some, so_far ∙ rw some refl)
grown all people person false none below more are so_far = inl
    (people_more people person are below none, so_far ∙ rw none refl)

-- where one is there twice already, so it is among more
more_twice : (all : Result (List Person) Refusal) (people : List Person) (person : Person) (Then : Type 0)
    → ¬ (ArePeople people) → all ≡ Err Repeated → UnlessRepeated (people ++ person ∷ []) all Then
more_twice all people person Then twice is = inr ((λ are. twice (people_before people person are)), is)

added : (all : Result (List Person) Refusal) (people : List Person) (fields : List (List ℕ))
    (left more : List (List (List ℕ))) (person : Person) →
    left ≡ fields ∷ more → spelled_after people fields ≡ Ok person
    → UnlessRepeated people all (all ≡ people_from people left) →
    UnlessRepeated (people ++ person ∷ []) all (all ≡ people_from (people ++ person ∷ []) more)
added all people fields left more person took spelled (inl (are, so_far)) =
    grown all people person (list_any (λ p. are_one p person) people) refl (low people fields person spelled) more are
    (so_far ∙ rw (took, spelled) refl)
added all people fields left more person took spelled (inr (twice, is)) = more_twice all people person
    (all ≡ people_from (people ++ person ∷ []) more) twice is

pub gone_on : (all : Result (List Person) Refusal) (a b : Rows) (people after : List Person) (row : Row)
    (k : Kept all a people) → TakesRow (Some row) k.left b →
    AddsRow (Ok tt) people (fields_of row) after → Kept all b after
gone_on all a b people after row k took (person, spelled, is) = subst (λ (now : List Person). Kept all b now) (sym is)
    (record {
      left = took.0;
      has = took.2;
      so_far = added all people (fields_of row) k.left took.0 person took.1 spelled k.so_far;
    })

pub nearer : (people after : List Person) (row : Row) → AddsRow (Ok tt) people (fields_of row) after
    → most_people - length after < most_people - length people
nearer people after row (person, spelled, is) =
    let below : length people < most_people = low people (fields_of row) person spelled in
    omega (arith, below, ap length is, length-append people (person ∷ []))

fails_at : (e : SheetFault) (all : Result (List Person) Refusal) (people : List Person) (fields : List (List ℕ))
    (left more : List (List (List ℕ))) →
    left ≡ fields ∷ more → all ≡ people_from people left → SheetFails e (spelled_after people fields) → SheetFails e all
fails_at fault.Memory all people fields left more took so_far fails = tt
fails_at (fault.Refused r) all people fields left more took so_far fails = so_far ∙ rw (took, fails) refl

pub refused : (all : Result (List Person) Refusal) (a b : Rows) (people after : List Person) (row : Row)
    (e : SheetFault) (k : Kept all a people) → TakesRow (Some row) k.left b →
    AddsRow (Err e) people (fields_of row) after → IsRead (Err e) after all
refused all a b people after row e k took (fails, is) = subst (λ (now : List Person). IsRead (Err e) now all) (sym is)
    (by k.so_far)
  where
    by : UnlessRepeated people all (all ≡ people_from people k.left) → UnlessRepeated people all (SheetFails e all)
    by (inl (are, so_far)) = inl (are, fails_at e all people (fields_of row) k.left took.0 took.1 so_far fails)
    by (inr twice) = inr twice

pub out_of_memory : (all : Result (List Person) Refusal) (a : Rows) (people : List Person) (e : SheetFault)
    → Kept all a people → e ≡ fault.Memory → IsRead (Err e) people all
out_of_memory all a people e k is = subst (λ (f : SheetFault). IsRead (Err f) people all) (sym is) (by k.so_far)
  where
    by : UnlessRepeated people all (all ≡ people_from people k.left) → IsRead (Err fault.Memory) people all
    by (inl (are, so_far)) = inl (are, tt)
    by (inr twice) = inr twice

pub ended : (all : Result (List Person) Refusal) (a b : Rows) (people : List Person) (k : Kept all a people)
    → TakesRow None k.left b → IsRead (Ok tt) people all
ended all a b people k took = by k.so_far
  where
    by : UnlessRepeated people all (all ≡ people_from people k.left) → IsRead (Ok tt) people all
    by (inl (are, so_far)) = inl (are, so_far ∙ rw took refl)
    by (inr twice) = inr twice

-- what is given of the people that were read
pub given_twice : (read : Result (Unit {0}) SheetFault) (people : List Person) (all : Result (List Person) Refusal)
    → ¬ (ArePeople people) → IsRead read people all → all ≡ Err Repeated
given_twice (Ok done) people all twice (inl (are, is)) = absurd (twice are)
given_twice (Ok done) people all twice (inr (lacking, is)) = is
given_twice (Err e) people all twice (inl (are, is)) = absurd (twice are)
given_twice (Err e) people all twice (inr (lacking, is)) = is

pub given_all : (people : List Person) (all : Result (List Person) Refusal) → ArePeople people
    → IsRead (Ok tt) people all → all ≡ Ok people
given_all people all are (inl (same, is)) = is
given_all people all are (inr (lacking, is)) = absurd (lacking are)

pub given_fault : (e : SheetFault) (people : List Person) (all : Result (List Person) Refusal) → ArePeople people
    → IsRead (Err e) people all → SheetFails e all
given_fault e people all are (inl (same, is)) = is
given_fault e people all are (inr (lacking, is)) = absurd (lacking are)
