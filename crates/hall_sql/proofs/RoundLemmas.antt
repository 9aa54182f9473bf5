-- What the statements on rounds say of the world.
use Rattle.std.proofs.Common.{◌≡◌, List, [], ◌∷◌, map, flat_map, true, Some, option_to_list, sym, subst}
use Rattle.std.specs.List.Sorted.{IsPermutation}
use Rattle.std.specs.FinMap.{values}
use Rattle.sqlite.specs.declared.types.Value.TheVariants.{Text}
use Rattle.sqlite.specs.Effect.{IsDatabase}
use Rattle.sqlite.specs.Order.{Row}
use Rattle.sqlite.specs.State.{State, Shown}
use Rattle.sqlite.specs.Tree.{Trees}
use Rattle.sqlite_schema.specs.Rules.{agree}
use Rattle.sqlite_rules.proofs.ListLemmas.{all_has}
use Rattle.sqlite_value.specs.Keys.{plain, first_key}
use Rattle.sqlite_value.specs.Order.{column}
use Rattle.sqlite_value.proofs.OrderLemmas.{then-Equal, value_cmp-Text}
use Rattle.hall_policy.specs.Limits.{last_second, most_minutes, most_points, most_protest_minutes}
use Rattle.hall_grid.specs.Printable.{is_printable}
use Rattle.hall_policy.specs.Text.{text_cmp, is_word_byte}
use Rattle.hall_policy.specs.declared.record.Round.{Round}
use Rattle.hall_policy.proofs.Orders.{text_total, same_texts}
use Rattle.hall_sql.specs.Values.{name_in, kind_in, within, mode_in, flag_in}
use Rattle.hall_sql.specs.Rows.{round_in, round_of_row, world_of}
use Rattle.hall_sql.specs.Standing.{AreKeyed, AreKeyedIn}
use Rattle.hall_sql.specs.declared.rounds.TheConstants.{ALL_ROUNDS}
use Rattle.hall_sql.proofs.ColumnLemmas.{kind_column}
use Rattle.hall_sql.proofs.Queries.{by_order}
use Rattle.hall_sql.proofs.RoundTexts.{all_rounds, all_rounds_are}
use Rattle.hall_sql.proofs.UniqueLemmas.{equal_texts, records_listed}
use Rattle.hall_sql.proofs.RecordParts.{round_parts_of}
use Rattle.hall_sql.specs.Versions.{IsVersion}
use Rattle.sqlite.specs.Schema.{Schema}
use Rattle.hall_sql.specs.declared.tables.HallTable.TheVariants.{Rounds}
use Rattle.hall_sql.proofs.Versions.{all_listed, keyed_in, unique_in}

pub id_column : (r : Row) (row : Round) → round_of_row r ≡ Some row → column r 1 ≡ Text row.id
id_column r row is =
    kind_column 1 24 is_word_byte (column r 1) row.id
    (round_parts_of (name_in (column r 1)) (kind_in 1 60 is_printable (column r 2)) (within 0 last_second (column r 3))
    (within 1 most_minutes (column r 4)) (within 0 most_protest_minutes (column r 5)) (mode_in (column r 6))
    (within 0 most_points (column r 7))
    (within 0 most_points (column r 8)) (flag_in (column r 9)) (flag_in (column r 10)) row is).id

-- two rows of one id agree on the column of the primary key
agreeing : (r y : Row) (x z : Round) → round_of_row r ≡ Some x → round_of_row y ≡ Some z → x.id ≡ z.id
    → agree plain (1 ∷ []) y (1 ∷ []) r ≡ true
unfolding first_key
agreeing r y x z p q e = rw (id_column r x p, id_column y z q, equal_texts z.id x.id (sym e))

-- the table's records are the world's rounds, each once
rounds_listed : {schema : Schema} → IsVersion schema → (db : Trees) → AreKeyed (db 5)
    → IsDatabase (record { schema = schema; trees = db })
    → IsPermutation (flat_map (λ r. option_to_list (round_of_row r)) (db 5)) (values (world_of db).rounds)
rounds_listed {schema} version db keyed sound =
    let rule = unique_in schema Rounds db version sound in
    records_listed text_total same_texts (λ (round : Round). round.id) round_of_row (1 ∷ []) (db 5) keyed agreeing
    (λ r h. all_has _ (db 5) r rule h)

-- ORDER BY id is the order of ids
same_order : (a b : Row) (x y : Round) → round_of_row a ≡ Some x → round_of_row b ≡ Some y
    → by_order all_rounds a b ≡ text_cmp x.id y.id
same_order a b x y p q =
    rw (id_column a x p, id_column b y q, value_cmp-Text x.id y.id, then-Equal (text_cmp x.id y.id))

pub all_rounds_listed : (schema : Schema) → IsVersion schema → (old new : State) → old.now.schema ≡ schema
    → AreKeyedIn schema old.now.trees
    → IsDatabase old.now → (rows : List Row) (out : List Round) → map round_in rows ≡ map Some out
    → Shown ALL_ROUNDS.now [] old new rows
    → out ≡ values (world_of old.now.trees).rounds
all_rounds_listed schema version old new has keyed sound =
    let db = old.now.trees in
    let whole = rounds_listed version db (keyed_in schema Rounds db version keyed)
    (subst (λ s. IsDatabase (record { schema = s; trees = db })) has sound) in
    all_listed (all_rounds_are schema version) text_total same_texts (λ (round : Round). round.id) same_order old new
    has whole
