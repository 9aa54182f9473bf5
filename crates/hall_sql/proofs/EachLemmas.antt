-- What calls for each item of a list leave inside a transaction.
use Rattle.std.proofs.Common.{◌≡◌, inr, ◌<◌, ◌+◌, ◌||◌, ◌++◌, ℕ, zero, suc, List, [], ◌∷◌, Bool, true, false, drop}
use Rattle.std.proofs.Common.{take, get_or, length, IsTrue, refl, sym, ap, subst, ◌∙◌, arith}
use Rattle.std.proofs.lemmas.Bool.{and_parts, and_from}
use Rattle.std.proofs.lemmas.List.{take_more}
use Rattle.std.specs.List.{list_any}
use Rattle.std.proofs.Math.Numerals.{add-one}
use Rattle.std.proofs.Math.Seq.{drop-cons}
use Rattle.sqlite.specs.Effect.{Database}
use Rattle.sqlite.specs.Order.{Row}
use Rattle.sqlite.specs.State.{State}
use Rattle.hall_policy.specs.Sink.{HasTaken}
use Rattle.hall_policy.specs.Text.{text_cmp}
use Rattle.hall_policy.specs.declared.record.Person.{Person}
use Rattle.hall_store.specs.Change.{changed}
use Rattle.hall_store.specs.declared.change.Change.TheVariants.{Import}
use Rattle.hall_sql.specs.declared.tables.HallTable.{HallTable}
use Rattle.hall_sql.specs.Made.{Awaits, MakesHallTable, HasGrown, schema_before}
use Rattle.hall_sql.specs.Rows.{person_of_row, world_of}
use Rattle.hall_sql.specs.Inside.{MakesInside, Changes}
use Rattle.hall_sql.specs.Spared.{is_keyed_by, may_write, KeptOtherRows}
use Rattle.hall_sql.specs.WriteCause.{ImportsOne, ImportsEach}
use Rattle.hall_sql.proofs.FeedLemmas.{taken_more}
use Rattle.hall_sql.proofs.InsideLemmas.{did_none, did_then}
use Rattle.hall_sql.proofs.SparedLemmas.{then_spared, wider_spared}

-- an item of the list, and those after it
pub next_item : {A : Type 0} (items : List A) (i : ℕ) (none : A) → i < length items → drop i items ≡ get_or items i none
    ∷ drop (i + 1) items
next_item items i none low = drop-cons items i none low ∙ ap (λ n. get_or items i none ∷ drop n items) (sym (add-one i))

pub more_grown : (tables : List HallTable) (i : ℕ) (none : HallTable) (a b c : State) → i < length tables
    → HasGrown tables (drop i tables) a b → MakesHallTable (get_or tables i none) b c
    → HasGrown tables (drop (i + 1) tables) a c
more_grown tables i none a b c low so more = record {
  mode = more.mode;
  made = λ it. more.made (drop (i + 1) tables) (subst (λ l. Awaits l b.now) (next_item tables i none low) (so.made it));
  sound = λ it. inr (more.sound (drop (i + 1) tables) (subst (λ l. Awaits l b.now) (next_item tables i none low)
      (so.made it)));
}

-- the next table is made on the schema that awaits it
pub next_grows : (tables : List HallTable) (i : ℕ) (none : HallTable) (held : Database) → i < length tables
    → Awaits (drop i tables) held
    → held.schema ≡ schema_before (get_or tables i none)
next_grows tables i none held low awaits =
    let it = subst (λ l. Awaits l held) (next_item tables i none low) awaits in it.bare.is ∙ it.lacks.0

-- What the list from a place on makes of the world is what the whole makes of the one before. Those up to there are
-- imported, one after another.
pub record HasImported (people : List Person) (i : ℕ) (before after : Database) : Type 0 where
  pub world : changed (Import (drop i people)) (world_of after.trees) ≡ changed (Import people) (world_of before.trees)
  pub others : KeptOtherRows (may_write (Import people)) before.trees after.trees
  pub rows : ImportsEach (take i people) before after

any_item : {A : Type 0} (test : A → Bool) (items : List A) (i : ℕ) (none : A) → i < length items
    → test (get_or items i none) ≡ true → list_any test items ≡ true
any_item test [] i none low is = absurd (omega (arith, low))
any_item test (x ∷ items) zero none low is = ap (λ b. b || list_any test items) is
any_item test (x ∷ items) (suc i) none low is = ap (λ b. test x || b)
    (any_item test items i none (omega (arith, low)) is) ∙ or_true (test x)
  where
    or_true : (b : Bool) → b || true ≡ true
    or_true true = refl
    or_true false = refl

or_false : (b : Bool) → b || false ≡ true → b ≡ true
or_false true is = refl
or_false false is = is

-- one more is imported after the others
one_more : (people : List Person) (person : Person) (a b c : Database) → ImportsEach people a b → ImportsOne person b c
    → ImportsEach (people ++ person ∷ []) a c
one_more [] person a b c same one = (c, subst (λ d. ImportsOne person d c) same one, refl)
one_more (p ∷ people) person a b c more one = (more.0, more.1, one_more people person more.0 b c more.2 one)

-- the rest of the list is still to be imported
pub more_imported : (people : List Person) (i : ℕ) (person : Person) (a b c : State) → i < length people
    → person ≡ get_or people i person
    → MakesInside (HasImported people i) a b → MakesInside (λ x y. Changes (Import (person ∷ [])) x y
    × ImportsOne person x y) b c
    → MakesInside (HasImported people (i + 1)) a c
more_imported people i person a b c low is =
    did_then (HasImported people i) (λ x y. Changes (Import (person ∷ [])) x y × ImportsOne person x y)
    (HasImported people (i + 1)) a b c (λ one both.
    let two = both.0 in
    record {
      world = ap (changed (Import (drop (i + 1) people))) two.world
          ∙ ap (λ l. changed (Import l) (world_of b.now.trees))
          (ap (λ p. p ∷ drop (i + 1) people) is ∙ sym (next_item people i person low)) ∙ one.world;
      others = then_spared (may_write (Import people)) a.now.trees b.now.trees c.now.trees one.others
          (wider_spared (may_write (Import (person ∷ []))) (may_write (Import people)) among b.now.trees c.now.trees
          two.others);
      rows = subst (λ l. ImportsEach l a.now c.now)
          (ap (λ x. take i people ++ x ∷ []) is ∙ sym (take_more people i person low))
          (one_more (take i people) person a.now b.now c.now one.rows both.1);
    })
  where
    among : (tree : ℕ) (r : Row) → may_write (Import (person ∷ [])) tree r ≡ true
        → may_write (Import people) tree r ≡ true
    among tree r taken =
        let test = λ (x : Person). is_keyed_by text_cmp (λ (y : Person). y.name) x.name (person_of_row r) in
        let parts = and_parts _ _ taken in
        and_from _ _ parts.0 (any_item test people i person low (subst (λ x. test x ≡ true) is (or_false _ parts.1)))

-- records that are added one after another
module _ {X : Type 0} (Adds : Database → X → Database → Type 0) where
  abbrev pub AddsAll : List X → Database → Database → Type 0
  AddsAll items a b = HasTaken Adds a items b

  pub none_added : (s : State) → IsTrue s.in_transaction → MakesInside (AddsAll []) s s
  none_added s mode = did_none (AddsAll []) s mode refl

  pub more_added : (items : List X) (i : ℕ) (item : X) (a b c : State) → i < length items → item ≡ get_or items i item
      → MakesInside (AddsAll (take i items)) a b → MakesInside (λ v w. Adds v item w) b c
      → MakesInside (AddsAll (take (i + 1) items)) a c
  more_added items i item a b c low is =
      did_then (AddsAll (take i items)) (λ v w. Adds v item w) (AddsAll (take (i + 1) items)) a b c (λ one two.
      subst (λ l. AddsAll l a.now c.now) (ap (λ x. take i items ++ x ∷ []) is ∙ sym (take_more items i item low))
      (taken_more Adds a.now b.now c.now (take i items) item one two))
