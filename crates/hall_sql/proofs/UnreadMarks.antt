-- What the mark of rows that are no record tells, and how it is kept.
use Rattle.std.proofs.Common.{◌≡◌, ◌+◌, ◌≤◌, ◌&&◌, ℕ, List, [], ◌∷◌, Bool, true, false, not, if◌then◌else◌, nat_eq}
use Rattle.std.proofs.Common.{inl, inr, IsTrue, refl, subst, arith}
use Rattle.std.proofs.lemmas.Bool.{and_parts, cases_Bool, eq-eqb, eqb-true}
use Rattle.std.specs.List.{AllByRecursion, list_all}
use Rattle.sqlite_trees.specs.View.{doubt}
use Rattle.sqlite.specs.Effect.{Database}
use Rattle.sqlite.specs.Schema.{Schema}
use Rattle.sqlite.specs.State.{State, HasCleanDisk}
use Rattle.sqlite.specs.Tree.{Trees}
use Rattle.hall_sql.specs.AllRead.{AreAllRead, are_all_read}
use Rattle.hall_sql.specs.Content.{unread_mark}
use Rattle.hall_sql.specs.Standing.{LeadsWithoutReopening}
use Rattle.hall_sql.specs.Tables.{hall_schema}

-- ---- the test

module _ {X : Type 0} (p : X → Bool) (P : X → Type 0) where
  tested : ((x : X) → p x ≡ true → P x) → (xs : List X) → list_all p xs ≡ true → AllByRecursion P xs
  tested says [] all = tt
  tested says (x ∷ xs) all = let parts = and_parts _ _ all in (says x parts.0, tested says xs parts.1)

  tests : ((x : X) → P x → p x ≡ true) → (xs : List X) → AllByRecursion P xs → list_all p xs ≡ true
  tests holds [] all = refl
  tests holds (x ∷ xs) all = rw (holds x all.0, tests holds xs all.1) refl

all_tested : (schema : Schema) (trees : Trees) → are_all_read schema trees ≡ true → AreAllRead schema trees
all_tested schema trees = tested _ _ (λ table. tested _ _ (λ row is. is) (trees table.tree)) schema.tables

all_test : (schema : Schema) (trees : Trees) → AreAllRead schema trees → are_all_read schema trees ≡ true
all_test schema trees = tests _ _ (λ table. tests _ _ (λ row is. is) (trees table.tree)) schema.tables

-- ---- the mark

abbrev one_of : Bool → ℕ
one_of b = if b then 1 else 0

small : (b : Bool) → one_of b ≤ 1
small true = omega arith
small false = omega arith

mark_under : (a b : Bool) → (a ≡ true → b ≡ true) → one_of a ≤ one_of b
mark_under false b more = omega arith
mark_under true b more = rw (more refl) (omega arith)

abbrev is_marked : State → Bool
is_marked s = nat_eq (doubt s.is_clean) 0 && (s.is_open && not (are_all_read hall_schema s.now.trees))

-- a write raises it by one at most
pub mark_once : (old new : State) → unread_mark new ≤ unread_mark old + 1
mark_once old new = let most : unread_mark new ≤ 1 = small (is_marked new) in omega (arith, most)

-- a call that leaves the tables does not raise it
pub mark_kept : (old new : State) → LeadsWithoutReopening old new
    → (HasCleanDisk new → IsTrue new.is_open → new.now ≡ old.now)
    → unread_mark new ≤ unread_mark old
mark_kept old new follows same = mark_under (is_marked new) (is_marked old) marked
  where
    both : {a b : Bool} → a ≡ true → b ≡ true → a && b ≡ true
    both p q = rw (p, q) refl

    marked : is_marked new ≡ true → is_marked old ≡ true
    marked is =
        let parts = and_parts (nat_eq (doubt new.is_clean) 0)
        (new.is_open && not (are_all_read hall_schema new.now.trees)) is in
        let rest = and_parts new.is_open (not (are_all_read hall_schema new.now.trees)) parts.1 in
        let clean : HasCleanDisk new = eqb-true (doubt new.is_clean) 0 parts.0 in
        let was : HasCleanDisk old = omega (arith, follows.lasts.clean, clean) in
        let unread : not (are_all_read hall_schema old.now.trees) ≡ true = subst
        (λ (d : Database). not (are_all_read hall_schema d.trees) ≡ true) (same clean rest.0) rest.1 in
        let opens : old.is_open ≡ true = follows.opened clean rest.0 in
        both (eq-eqb (doubt old.is_clean) 0 was) (both opens unread)

-- where each row was a record, and it was not raised, each is one
pub still_read : (old new : State) → unread_mark new ≤ unread_mark old → AreAllRead hall_schema old.now.trees
    → HasCleanDisk new → IsTrue new.is_open → AreAllRead hall_schema new.now.trees
still_read old new kept all clean opens = elim (cases_Bool (are_all_read hall_schema new.now.trees)) [
  | inl is ↦ all_tested hall_schema new.now.trees is
  | inr other ↦
      let none : unread_mark old ≡ 0 = mark_none in
      let some : unread_mark new ≡ 1 = rw (eq-eqb (doubt new.is_clean) 0 clean, opens, other) refl in
      absurd (omega (arith, kept, none, some))
]
  where
    last_false : (a b : Bool) → one_of (a && (b && false)) ≡ 0
    last_false true true = refl
    last_false true false = refl
    last_false false b = refl

    mark_none : unread_mark old ≡ 0
    mark_none = rw (all_test hall_schema old.now.trees all) (last_false (nat_eq (doubt old.is_clean) 0) old.is_open)
