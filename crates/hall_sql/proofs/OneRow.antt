-- Of the rows of a table of which no two have one key, at most one passes a test for the key.
use Rattle.std.proofs.Common.{◌≡◌, ◌≤◌, inl, inr, ℕ, List, [], ◌∷◌, length, filter, Bool, true, false, sym}
use Rattle.std.proofs.Common.{refl, ◌∙◌, arith}
use Rattle.std.specs.List.{AllByRecursion}
use Rattle.sqlite.specs.declared.types.Value.TheVariants.{Text}
use Rattle.sqlite.specs.Effect.{Database, IsDatabase}
use Rattle.sqlite.specs.Order.{Row}
use Rattle.sqlite_rules.proofs.KeyLemmas.{agree_back, agree_chain}
use Rattle.sqlite_rules.proofs.ListLemmas.{all_has, has_filtered, some_from}
use Rattle.sqlite_rules.specs.Lists.{Has}
use Rattle.sqlite_schema.specs.Rules.{agree, clashes}
use Rattle.sqlite_trees.specs.Tree.{rowid}
use Rattle.sqlite_value.specs.Keys.{first_key, plain}
use Rattle.hall_policy.specs.declared.record.PuzzleKey.{PuzzleKey}
use Rattle.hall_sql.specs.Columns.{stands_under}
use Rattle.hall_sql.specs.Inside.{IsHallData}
use Rattle.hall_sql.specs.RoundColumns.{is_under}
use Rattle.hall_sql.specs.Standing.{Apart, AreDistinct, AreKeyed}
use Rattle.hall_sql.specs.declared.tables.HallTable.TheVariants.{Puzzles, Rounds}
use Rattle.hall_sql.proofs.KeyedLemmas.{keyed_filter}
use Rattle.hall_sql.proofs.UniqueLemmas.{both_true, rows_differ}
use Rattle.hall_sql.proofs.Versions.{unique_in}

-- the row has at these places, as SQL compares, what stands at those of the parameters
abbrev pub has_key : List ℕ → List ℕ → Row → Row → Bool
has_key places asked params row = agree plain places row asked params

-- no two of the rows are equal at these places
abbrev pub AreUnique : List ℕ → List Row → Type 0
AreUnique places rows = AllByRecursion (λ row. clashes plain places rows row ≡ false) rows

module _ (places asked : List ℕ) (params : Row) (keeps : Row → Bool)
    (agrees : (row : Row) → keeps row ≡ has_key places asked params row) (rows : List Row) (keyed : AreKeyed rows)
    (unique : AreUnique places rows) where
  -- two that pass have one key
  never_two : (a b : Row) → Has rows a → keeps a ≡ true → Has rows b → keeps b ≡ true → ¬ (Apart b a)
  never_two a b h p k q apart =
      let both = agree_chain plain places asked places a params b (sym (agrees a) ∙ p)
      (agree_back plain places asked b params (sym (agrees b) ∙ q)) in
      let differs = rows_differ (rowid b) (rowid a) (all_has _ rows b keyed.ints k) (all_has _ rows a keyed.ints h)
      apart in
      absurd (let no : false ≡ true = sym (all_has _ rows b unique k)
      ∙ some_from _ rows a h (both_true _ _ both differs) in cc)

  pub one_passes : length (filter keeps rows) ≤ 1
  one_passes = go (filter keeps rows) (λ r h. has_filtered keeps rows r h) (keyed_filter keeps rows keyed).distinct
    where
      go : (some : List Row) → ((r : Row) → Has some r → Has rows r × (keeps r ≡ true)) → AreDistinct some
          → length some ≤ 1
      go [] passed distinct = omega arith
      go (a ∷ []) passed distinct = omega arith
      go (a ∷ b ∷ more) passed distinct =
          let first = passed a (inl refl) in
          let second = passed b (inr (inl refl)) in
          absurd (never_two b a second.0 second.1 first.0 first.1 distinct.0.0)

-- ---- under a key that is looked up before a write

pub one_puzzle : (key : PuzzleKey) (db : Database) → IsHallData db → IsDatabase db
    → length (filter (stands_under key) (db.trees 3)) ≤ 1
unfolding first_key
one_puzzle key db hall sound =
    one_passes (1 ∷ 2 ∷ []) (0 ∷ 1 ∷ []) (Text key.author ∷ Text key.label ∷ []) (stands_under key) (λ row. refl)
    (db.trees 3) hall.keyed.1.0 (unique_in db.schema Puzzles db.trees (inr hall.schema) sound)

pub one_head : (id : List ℕ) (db : Database) → IsHallData db → IsDatabase db
    → length (filter (is_under id) (db.trees 5)) ≤ 1
unfolding first_key
one_head id db hall sound =
    one_passes (1 ∷ []) (0 ∷ []) (Text id ∷ []) (is_under id) (λ row. refl) (db.trees 5) hall.keyed.1.1.0
    (unique_in db.schema Rounds db.trees (inr hall.schema) sound)
