-- A schema like the hall's is the hall's with references of its own.
use Rattle.std.proofs.Common.{◌≡◌, inl, inr, ℕ, List, [], ◌∷◌, map, Bool, true, false, ◌&&◌, Option, Some, None, refl}
use Rattle.std.proofs.Common.{sym, ap, subst}
use Rattle.std.specs.List.{AllByRecursion, AllZip}
use Rattle.sqlite.specs.Effect.{Database}
use Rattle.sqlite.specs.Order.{Row}
use Rattle.sqlite.specs.Schema.{Schema}
use Rattle.sqlite.specs.Table.{Table}
use Rattle.sqlite_schema.specs.Rules.{ParentKey, parent_key}
use Rattle.sqlite_schema.specs.declared.schema.Action.{Action}
use Rattle.sqlite_schema.specs.declared.schema.Reference.{Reference}
use Rattle.sqlite_schema.specs.declared.schema.Keys.TheVariants.{Enforced}
use Rattle.sqlite_rules.specs.Action.{pairs, works}
use Rattle.sqlite_trees.proofs.ListLemmas.{all_of}
use Rattle.hall_sql.specs.declared.tables.HallTable.{HallTable}
use Rattle.hall_sql.specs.declared.tables.HallTable.TheVariants.{People, Puzzles, Rounds, Places, Answers, Protests}
use Rattle.hall_sql.specs.declared.tables.HallTable.TheVariants.{Testers}
use Rattle.hall_sql.specs.Made.{all_tables, old_tables}
use Rattle.hall_sql.specs.Standing.{HasAdded}
use Rattle.hall_sql.specs.Tables.{IsLike, IsLikeTable, AreLikeReferences, IsFoundIn, IsWanted, IsHallSchema}
use Rattle.hall_sql.specs.Tables.{IsOldSchema, hall_schema, old_schema, table_at}
use Rattle.hall_sql.proofs.QuietLemmas.{Spares, no_works, weaker}

-- the references of each table, as one who made a hall's tables worded them
pub record Wording : Type 0 where
  pub refs : HallTable → List Reference
  pub like : (table : HallTable) → AreLikeReferences (table_at table).references (refs table)

-- the table in these words
abbrev pub table_in : Wording → HallTable → Table
table_in u table = record (table_at table) { references = u.refs table }

-- the hall's schema in them, and that of the version before
abbrev pub hall_in : Wording → Schema
hall_in u = record { tables = map (table_in u) all_tables; indexes = hall_schema.indexes; views = [] }

abbrev pub old_in : Wording → Schema
old_in u = record { tables = map (table_in u) old_tables; indexes = old_schema.indexes; views = [] }

-- ---- what is like itself

each_wanted : (refs : List Reference) → AllByRecursion (IsWanted refs) refs
each_wanted [] = tt
each_wanted (ref ∷ refs) = (
  inl refl,
  weaker (IsWanted refs) (IsWanted (ref ∷ refs)) (λ r is. inr is) refs
      (each_wanted refs),
)

each_found : (refs : List Reference) → AllByRecursion (IsFoundIn refs) refs
each_found [] = tt
each_found (ref ∷ refs) = (
  inl refl,
  weaker (IsFoundIn refs) (IsFoundIn (ref ∷ refs)) (λ r is. inr is) refs
      (each_found refs),
)

own_like : (refs : List Reference) → AreLikeReferences refs refs
own_like refs = record { many = refl; known = each_wanted refs; there = each_found refs }

own_tables : (tables : List Table) → AllZip IsLikeTable tables tables
own_tables [] = tt
own_tables (table ∷ tables) = (record { same = refl; references = own_like table.references }, own_tables tables)

pub like_itself : (schema : Schema) → IsLike schema schema
like_itself schema = record { tables = own_tables schema.tables; indexes = refl; views = refl }

-- a table in any words is like the hall's
in_like : (u : Wording) (table : HallTable) → IsLikeTable (table_at table) (table_in u table)
in_like u table = record { same = refl; references = u.like table }

pub hall_like : (u : Wording) → IsHallSchema (hall_in u)
hall_like u = record {
  tables = (
    in_like u People,
    (
      in_like u Puzzles,
      (
        in_like u Rounds,
        (
          in_like u Places,
          (in_like u Answers, (in_like u Protests, (in_like u Testers, tt))),
        ),
      ),
    ),
  );
  indexes = refl;
  views = refl;
}

pub old_like : (u : Wording) → IsOldSchema (old_in u)
old_like u = record {
  tables = (
    in_like u People,
    (
      in_like u Puzzles,
      (
        in_like u Rounds,
        (in_like u Places, (in_like u Answers, (in_like u Protests, tt))),
      ),
    ),
  );
  indexes = refl;
  views = refl;
}

-- ---- the words of a schema

module _ (a b c d e f g : Table) where
  abbrev words_of : HallTable → List Reference
  words_of People = a.references
  words_of Puzzles = b.references
  words_of Rounds = c.references
  words_of Places = d.references
  words_of Answers = e.references
  words_of Protests = f.references
  words_of Testers = g.references

  module _ (h : AllZip IsLikeTable (map table_at all_tables) (a ∷ b ∷ c ∷ d ∷ e ∷ f ∷ g ∷ [])) where
    all_like : (table : HallTable) → AreLikeReferences (table_at table).references (words_of table)
    all_like People = h.0.references
    all_like Puzzles = h.1.0.references
    all_like Rounds = h.1.1.0.references
    all_like Places = h.1.1.1.0.references
    all_like Answers = h.1.1.1.1.0.references
    all_like Protests = h.1.1.1.1.1.0.references
    all_like Testers = h.1.1.1.1.1.1.0.references

    abbrev seven_words : Wording
    seven_words = record { refs = words_of; like = all_like }

    seven_are : a ∷ b ∷ c ∷ d ∷ e ∷ f ∷ g ∷ [] ≡ map (table_in seven_words) all_tables
    seven_are =
        λ i. h.0.same i
        ∷ h.1.0.same i
        ∷ h.1.1.0.same i
        ∷ h.1.1.1.0.same i
        ∷ h.1.1.1.1.0.same i
        ∷ h.1.1.1.1.1.0.same i
        ∷ h.1.1.1.1.1.1.0.same i
        ∷ []

worded_tables : (ts : List Table) → AllZip IsLikeTable (map table_at all_tables) ts → (u : Wording)
    × (ts ≡ map (table_in u) all_tables)
worded_tables (a ∷ b ∷ c ∷ d ∷ e ∷ f ∷ g ∷ []) h = (seven_words a b c d e f g h, seven_are a b c d e f g h)
worded_tables (a ∷ b ∷ c ∷ d ∷ e ∷ f ∷ g ∷ x ∷ ts) h = absurd h.1.1.1.1.1.1.1
worded_tables (a ∷ b ∷ c ∷ d ∷ e ∷ f ∷ []) h = absurd h.1.1.1.1.1.1
worded_tables (a ∷ b ∷ c ∷ d ∷ e ∷ []) h = absurd h.1.1.1.1.1
worded_tables (a ∷ b ∷ c ∷ d ∷ []) h = absurd h.1.1.1.1
worded_tables (a ∷ b ∷ c ∷ []) h = absurd h.1.1.1
worded_tables (a ∷ b ∷ []) h = absurd h.1.1
worded_tables (a ∷ []) h = absurd h.1
worded_tables [] h = absurd h

-- with testers of the hall's own words behind them
worded_old : (ts : List Table) → AllZip IsLikeTable (map table_at old_tables) ts → (u : Wording)
    × (ts ≡ map (table_in u) old_tables)
worded_old (a ∷ b ∷ c ∷ d ∷ e ∷ f ∷ []) h =
    let g = table_at Testers in
    let more : AllZip IsLikeTable (map table_at all_tables) (a ∷ b ∷ c ∷ d ∷ e ∷ f ∷ g ∷ []) = (
      h.0,
      (
        h.1.0,
        (
          h.1.1.0,
          (
            h.1.1.1.0,
            (
              h.1.1.1.1.0,
              (
                h.1.1.1.1.1.0,
                (record { same = refl; references = own_like _ }, tt),
              ),
            ),
          ),
        ),
      ),
    ) in (
      seven_words a b c d e f g more,
      λ i. h.0.same i ∷ h.1.0.same i ∷ h.1.1.0.same i ∷ h.1.1.1.0.same i
          ∷ h.1.1.1.1.0.same i ∷ h.1.1.1.1.1.0.same i ∷ [],
    )
worded_old (a ∷ b ∷ c ∷ d ∷ e ∷ f ∷ x ∷ ts) h = absurd h.1.1.1.1.1.1
worded_old (a ∷ b ∷ c ∷ d ∷ e ∷ []) h = absurd h.1.1.1.1.1
worded_old (a ∷ b ∷ c ∷ d ∷ []) h = absurd h.1.1.1.1
worded_old (a ∷ b ∷ c ∷ []) h = absurd h.1.1.1
worded_old (a ∷ b ∷ []) h = absurd h.1.1
worded_old (a ∷ []) h = absurd h.1
worded_old [] h = absurd h

pub worded : (schema : Schema) → IsHallSchema schema → (u : Wording) × (schema ≡ hall_in u)
worded schema like =
    let it = worded_tables schema.tables like.tables in
    (it.0, λ i. record { tables = it.1 i; indexes = like.indexes i; views = like.views i })

pub worded_before : (schema : Schema) → IsOldSchema schema → (u : Wording) × (schema ≡ old_in u)
worded_before schema like =
    let it = worded_old schema.tables like.tables in
    (it.0, λ i. record { tables = it.1 i; indexes = like.indexes i; views = like.views i })

-- what holds in any words holds of each schema of a hall
pub by_hall : (P : Schema → Type 0) → ((u : Wording) → P (hall_in u)) → (schema : Schema) → IsHallSchema schema
    → P schema
by_hall P over schema like = let it = worded schema like in subst P (sym it.1) (over it.0)

pub by_old : (P : Schema → Type 0) → ((u : Wording) → P (old_in u)) → (schema : Schema) → IsOldSchema schema → P schema
by_old P over schema like = let it = worded_before schema like in subst P (sym it.1) (over it.0)

-- what is said of the trees of the one's tables is said of those of the other
pub trees_like : (P : ℕ → Type 0) (wanted found : Schema) → IsLike wanted found
    → AllByRecursion (λ (t : Table). P t.tree) wanted.tables
    → AllByRecursion (λ (t : Table). P t.tree) found.tables
trees_like P wanted found like = go wanted.tables found.tables like.tables
  where
    go : (ws fs : List Table) → AllZip IsLikeTable ws fs → AllByRecursion (λ (t : Table). P t.tree) ws
        → AllByRecursion (λ (t : Table). P t.tree) fs
    go [] [] zip all = tt
    go [] (f ∷ fs) zip all = absurd zip
    go (w ∷ ws) [] zip all = absurd zip
    go (w ∷ ws) (f ∷ fs) zip all = (subst P (sym (ap (λ (t : Table). t.tree) zip.0.same)) all.0, go ws fs zip.1 all.1)

-- one row more
pub added_in : (u : Wording) (tree : ℕ) (values : Row) (old new : Database) → HasAdded (hall_in u) tree values old new
    → HasAdded hall_schema tree values old new
added_in u tree values old new it = record { same = it.same; free = it.free; put = it.put; others = it.others }

-- ---- what holds of each reference

-- what holds of each of these, whatever it does ON UPDATE
abbrev pub InAnyWords : (Reference → Type 0) → List Reference → Type 0
InAnyWords P = AllByRecursion (λ ref. (action : Action) → P (record ref { on_update = action }))

in_any : (P : Reference → Type 0) (wanted : List Reference) (ref : Reference) → InAnyWords P wanted
    → IsWanted wanted ref → P ref
in_any P [] ref all is = absurd is
in_any P (one ∷ more) ref all (inl is) = subst P (sym is) (all.0 ref.on_update)
in_any P (one ∷ more) ref all (inr is) = in_any P more ref all.1 is

each_in : (P : Reference → Type 0) (wanted found : List Reference) → AreLikeReferences wanted found
    → InAnyWords P wanted → AllByRecursion P found
each_in P wanted found like all = weaker (IsWanted wanted) P (λ ref is. in_any P wanted ref all is) found like.known

-- of each of the hall's tables
pub all_in : (u : Wording) (P : Reference → Type 0) → AllByRecursion (λ (t : Table). InAnyWords P t.references)
    hall_schema.tables
    → AllByRecursion (λ (t : Table). AllByRecursion P t.references) (hall_in u).tables
all_in u P all = (
  each_in P _ _ (u.like People) all.0,
  (
    each_in P _ _ (u.like Puzzles) all.1.0,
    (
      each_in P _ _ (u.like Rounds) all.1.1.0,
      (
        each_in P _ _ (u.like Places) all.1.1.1.0,
        (
          each_in P _ _ (u.like Answers) all.1.1.1.1.0,
          (
            each_in P _ _ (u.like Protests) all.1.1.1.1.1.0,
            (each_in P _ _ (u.like Testers) all.1.1.1.1.1.1.0, tt),
          ),
        ),
      ),
    ),
  ),
)

never : (b : Bool) → b && false ≡ false
never true = refl
never false = refl

moves_none : (tree : ℕ) (key : Option ParentKey) → Spares tree [] key
moves_none tree None = tt
moves_none tree (Some key) = never _

-- where a step takes out no row, no foreign key acts
pub adds_quiet : (schema : Schema) (tree : ℕ) (news : List Row) → works schema Enforced 0 tree [] news ≡ []
adds_quiet schema tree news =
    no_works schema Enforced 0 tree [] news (all_of (λ (t : Table). AllByRecursion
    (λ (ref : Reference). Spares tree [] (parent_key schema.tables ref)) t.references)
    (λ t. all_of (λ (ref : Reference). Spares tree [] (parent_key schema.tables ref))
    (λ ref. moves_none tree (parent_key schema.tables ref)) t.references) schema.tables)

-- where no row of a step loses a key that others refer to, no foreign key acts, whatever they do ON UPDATE
pub keeps_quiet : (u : Wording) (tree : ℕ) (olds news : List Row)
    → AllByRecursion (λ (t : Table). InAnyWords (λ ref. Spares tree (pairs olds news)
    (parent_key (hall_in u).tables ref)) t.references) hall_schema.tables
    → works (hall_in u) Enforced 0 tree olds news ≡ []
keeps_quiet u tree olds news all =
    no_works (hall_in u) Enforced 0 tree olds news (all_in u
    (λ ref. Spares tree (pairs olds news) (parent_key (hall_in u).tables ref)) all)
