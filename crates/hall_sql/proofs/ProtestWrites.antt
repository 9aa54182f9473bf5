-- What the statements that write a protest leave.
use Rattle.std.proofs.Common.{◌≡◌, ℕ, pos, negsuc, List, [], ◌∷◌, length, is_some, Bool, true, IsTrue, Option, Some}
use Rattle.std.proofs.Common.{None, IfSome, Ok, refl, sym, ap, subst, ◌∙◌, arith}
use Rattle.std.specs.Prelude.{nat_le}
use Rattle.std.proofs.lemmas.Bool.{le-leb}
use Rattle.std.proofs.lemmas.Int.{ints}
use Rattle.std.proofs.lemmas.List.Sorted.{IsPermutation-refl}
use Rattle.std.specs.List.Sorted.{IsPermutation}
use Rattle.std.specs.FinMap.{get}
use Rattle.sqlite.specs.declared.types.Value.{Value}
use Rattle.sqlite.specs.declared.types.Value.TheVariants.{Int}
use Rattle.sqlite_value.specs.Keys.{joined}
use Rattle.sqlite_schema.specs.Names.{same_name}
use Rattle.sqlite_schema.specs.declared.schema.Keys.TheVariants.{Enforced}
use Rattle.sqlite_rules.specs.Action.{works}
use Rattle.sqlite_rules.specs.Edit.{next_rowid}
use Rattle.sqlite.specs.Effect.{Database}
use Rattle.sqlite.specs.Order.{Row}
use Rattle.sqlite.specs.Tree.{Trees}
use Rattle.sqlite.specs.Command.TheVariants.{Update}
use Rattle.sqlite.specs.State.{State, HasCleanDisk, Executes}
use Rattle.sqlite.proofs.Callers.{runs_as}
use Rattle.hall_policy.specs.Limits.{most_number}
use Rattle.hall_grid.specs.Printable.{is_printable}
use Rattle.hall_policy.specs.Text.{is_word_byte}
use Rattle.hall_policy.specs.World.{ruling_points}
use Rattle.hall_policy.specs.Ranges.{IsProtestRow, IsRuling}
use Rattle.hall_policy.specs.declared.record.ProtestKey.{ProtestKey}
use Rattle.hall_policy.specs.declared.record.ProtestRow.{ProtestRow}
use Rattle.hall_policy.specs.declared.record.Ruling.{Ruling}
use Rattle.hall_policy.specs.declared.record.Ruling.TheVariants.{Upheld, Rejected}
use Rattle.hall_policy.proofs.Orders.{protest_total, same_protest_keys}
use Rattle.hall_policy.proofs.Reading.{kind_holds}
use Rattle.hall_store.specs.Change.{changed, with_ruling}
use Rattle.hall_store.specs.declared.change.Change.TheVariants.{AddProtest, RuleProtest}
use Rattle.hall_sql.specs.Tables.{IsHallSchema, hall_schema}
use Rattle.hall_sql.specs.declared.tables.HallTable.TheVariants.{Protests}
use Rattle.hall_sql.proofs.Wordings.{Wording, hall_in, keeps_quiet, table_in, worded}
use Rattle.hall_sql.specs.declared.protests.TheConstants.{ADD_PROTEST, RULE_PROTEST}
use Rattle.hall_sql.specs.Values.{ruling_in}
use Rattle.hall_sql.specs.Columns.{protest_params, ruling_params, ruling_code, is_protest_under, IsAlone}
use Rattle.hall_sql.specs.Rows.{protest_of_row, world_of}
use Rattle.hall_sql.specs.Spared.{may_write}
use Rattle.hall_sql.specs.Standing.{HasAdded, IsHall, HasMade}
use Rattle.hall_sql.specs.Fill.{AddsProtest, WithProtest}
use Rattle.hall_sql.specs.Inside.{IsHallData}
use Rattle.hall_sql.proofs.AnswerWrites.{is_within}
use Rattle.hall_sql.proofs.ProtestTexts.{protests_there, key_terms, added_terms, ruled_terms, apart, add_protest_is}
use Rattle.hall_sql.proofs.ProtestTexts.{rule_protest_is}
use Rattle.hall_sql.proofs.ProtestLemmas.{has_columns, agrees}
use Rattle.hall_sql.proofs.CallLemmas.{executed_open}
use Rattle.hall_sql.proofs.AloneLemmas.{alone_world}
use Rattle.hall_sql.proofs.AddLemmas.{IsInsert, row_put, row_made}
use Rattle.hall_sql.proofs.KeyedLemmas.{keyed_after}
use Rattle.hall_sql.proofs.FoundLemmas.{one_found}
use Rattle.hall_sql.proofs.MapLemmas.{put_new}
use Rattle.hall_sql.proofs.ReplaceLemmas.{replaced_one}
use Rattle.hall_sql.proofs.SparedLemmas.{taken_record, replaced_spared, alone_spared}
use Rattle.hall_sql.proofs.UniqueLemmas.{kept_keyed}
use Rattle.hall_sql.proofs.UpdateLemmas.{update, updates, passes_with, made_with}
use Rattle.hall_sql.proofs.WriteLemmas.{writes_hall, cast_null, cast_number, cast_int}

-- a ruling is read from its code and its points
ruling_reads : (ruling : Option Ruling) → IfSome ruling IsRuling
    → ruling_in (Int (pos (ruling_code ruling))) (Int (ruling_points ruling)) ≡ Some ruling
ruling_reads None is = refl
ruling_reads (Some (Upheld (pos n))) is = let most : nat_le n 1000 ≡ true = le-leb _ _
    (let h = is.1 in omega (arith, ints)) in rw most
ruling_reads (Some (Upheld (negsuc n))) is = let most : nat_le n 999 ≡ true = le-leb _ _
    (let h = is.0 in omega (arith, ints)) in rw most
ruling_reads (Some Rejected) is = refl

module _ (row : ProtestRow) (is : IsProtestRow row) where
  abbrev columns : Row
  columns = protest_params row

  -- they are read as the protest, whatever its rowid is
  protest_reads : (id : Value) → protest_of_row (id ∷ columns) ≡ Some row
  protest_reads id = rw (
    kind_holds 1 24 is_word_byte row.key.entrant is.key.entrant,
    kind_holds 1 24 is_word_byte row.key.round is.key.round,
    kind_holds 1 32 is_word_byte row.key.token is.key.token,
    is_within 1 most_number row.number is.number,
    kind_holds 1 200 is_printable row.text is.text,
    ruling_reads row.ruling is.ruling,
  )

  adds : IsInsert Protests ADD_PROTEST.now columns
  adds = record {
    at = 5;
    terms = added_terms;
    width = 8;
    there = λ u. refl;
    is = add_protest_is;
    source = refl;
    casts = rw (
      cast_null,
      cast_number row.number,
      cast_number (ruling_code row.ruling),
      cast_int (ruling_points row.ruling),
    );
  }

  with_protest : (old new : Database) → HasAdded hall_schema 12 columns old new
      → WithProtest (world_of old.trees) row (world_of new.trees)
  with_protest old new it fresh =
      let id = Int (next_rowid (old.trees 12)) in
      alone_world 12 old.trees new.trees it.others
      ∙ ap (λ protests. record (world_of old.trees) { protests = protests })
      (put_new protest_total same_protest_keys (λ (x : ProtestRow). x.key) protest_of_row row (id ∷ columns)
      (old.trees 12) (new.trees 12)
      it.put (protest_reads id) it.free fresh)

  module _ (old new : State) (count : ℕ) (ran : Executes ADD_PROTEST.now columns old new (Ok count)) where
    abbrev rowid : Value
    rowid = Int (next_rowid (old.now.trees 12))

    -- the INSERT of a protest inside a transaction
    pub protest_put : IsHallData old.now → IsHallData new.now × AddsProtest old.now row new.now
    protest_put =
        row_put Protests ADD_PROTEST.now columns adds old new count ran WithProtest row
        (ap is_some (protest_reads rowid))
        (with_protest old.now new.now)

    -- and outside of one, under a new key
    pub protest_added : IsHall old → HasCleanDisk old
        → (IsTrue old.is_open → get (world_of old.now.trees).protests row.key ≡ None) → HasMade (AddProtest row) old new
    protest_added hall clean fresh =
        row_made Protests ADD_PROTEST.now columns adds old new count ran (AddProtest row) hall clean
        (taken_record protest_total (λ (x : ProtestRow). x.key) row.key _ row (protest_reads rowid) refl)
        (λ it opens. with_protest old.now new.now it (fresh opens))

-- ---- the ruling of the protest that stands alone under a key
module _ (key : ProtestKey) (row : ProtestRow) (ruling : Ruling) (in_row : IsProtestRow row)
    (in_ruling : IsRuling ruling) where
  abbrev params : Row
  params = ruling_params key (Some ruling)

  abbrev ruled : ProtestRow
  ruled = record row { ruling = Some ruling }

  abbrev has_key : Row → Bool
  has_key = passes_with hall_schema protests_there key_terms ruled_terms apart params

  abbrev made : Row → Row
  made = made_with hall_schema protests_there key_terms ruled_terms apart params

  -- what others refer to is not here, so no foreign key acts
  ruled_quiet : (u : Wording) (r : Row) → has_key r ≡ true → works (hall_in u) Enforced 0 12 (r ∷ []) (made r ∷ []) ≡ []
  unfolding same_name joined
  ruled_quiet u r taken =
      keeps_quiet u 12 (r ∷ []) (made r ∷ []) (
        tt,
        (
          (λ a. refl, tt),
          (
            tt,
            (
              (λ a. refl, (λ a. refl, tt)),
              ((λ a. refl, (λ a. refl, tt)), ((λ a. refl, (λ a. refl, tt)), ((λ a. refl, (λ a. refl, tt)), tt))),
            ),
          ),
        ),
      )

  -- the row that is made is read as the protest with its ruling
  ruled_reads : (r : Row) → protest_of_row r ≡ Some row → protest_of_row (made r) ≡ Some ruled
  ruled_reads r reads =
      let columns = has_columns r row reads in
      rw (
        columns.entrant,
        columns.round,
        columns.token,
        columns.number,
        columns.text,
        cast_number row.number,
        cast_number (ruling_code (Some ruling)),
        cast_int (ruling_points (Some ruling)),
        kind_holds 1 24 is_word_byte row.key.entrant in_row.key.entrant,
        kind_holds 1 24 is_word_byte row.key.round in_row.key.round,
        kind_holds 1 32 is_word_byte row.key.token in_row.key.token,
        is_within 1 most_number row.number in_row.number,
        kind_holds 1 200 is_printable row.text in_row.text,
        ruling_reads (Some ruling) in_ruling,
      )

  module _ (old new : State) (count : ℕ) (hall : IsHall old) (clean : HasCleanDisk old) where
    -- the protest under the key
    ruled_there : IsAlone key old row → get (world_of old.now.trees).protests key ≡ Some row
    ruled_there alone =
        sym (one_found protest_total same_protest_keys (λ (x : ProtestRow). x.key) protest_of_row key
        (is_protest_under key) (agrees key) (old.now.trees 12) (alone.one ∷ []) (row ∷ [])
        (subst (λ l. IsPermutation l (alone.one ∷ [])) (sym alone.found) (IsPermutation-refl _))
        (ap (λ o. o ∷ []) alone.reads) (omega arith))

    pub protest_ruled : IsAlone key old row → Executes RULE_PROTEST.now params old new (Ok count)
        → HasMade (RuleProtest key ruling) old new
    protest_ruled alone ran =
        let mode = hall.autocommit clean in
        let was = executed_open old new RULE_PROTEST.now params count mode ran in
        let has = (hall.settled clean was).1 in
        let keyed = hall.keyed clean was in
        let (u, words) = worded old.now.schema has in
        let w = runs_as RULE_PROTEST.now params old new (hall_in u) words
        (Update 5 (update (hall_in u) (table_in u Protests) key_terms ruled_terms apart)) (rule_protest_is u).0
        (rule_protest_is u).1 count ran in
        let it = updates (hall_in u) (table_in u Protests) key_terms ruled_terms apart 5 refl params (ruled_quiet u) old
        new _ count words keyed.1.1.1.1.1.0 w (ap length alone.found) in
        let there = ruled_there alone in
        let own : row.key ≡ key = kept_keyed protest_total same_protest_keys (λ (x : ProtestRow). x.key) protest_of_row
        (old.now.trees 12) key row there in
        let one : alone.one ≡ it.rows.one = head_is (sym alone.found ∙ it.rows.found) in
        let reads : protest_of_row it.rows.one ≡ Some row = subst (λ r. protest_of_row r ≡ Some row) one alone.reads in
        record {
          hall = writes_hall old new _ _ _ count mode w (subst IsHallSchema (sym it.same) has)
              (keyed_after 12 old.now.trees new.now.trees hall_schema.tables it.keyed it.others keyed);
          was_open = was;
          serves = w.shown.is_open;
          world = alone_world 12 old.now.trees new.now.trees it.others
              ∙ ap (λ protests. record (world_of old.now.trees) { protests = protests })
              (replaced_one protest_total same_protest_keys (λ (x : ProtestRow). x.key) protest_of_row key has_key
              (agrees key) made (old.now.trees 12) (new.now.trees 12) ruled keyed.1.1.1.1.1.0 it.rows own
              (ruled_reads it.rows.one reads))
              ∙ ap (with_ruling (world_of old.now.trees) key ruling) (sym there);
          others = alone_spared (may_write (RuleProtest key ruling)) 12 old.now.trees new.now.trees
              (replaced_spared (may_write (RuleProtest key ruling) 12) has_key made (old.now.trees 12)
              (new.now.trees 12) keyed.1.1.1.1.1.0 it.rows
              (taken_record protest_total (λ (x : ProtestRow). x.key) key (protest_of_row it.rows.one) row reads own)
              (taken_record protest_total (λ (x : ProtestRow). x.key) key (protest_of_row (made it.rows.one)) ruled
              (ruled_reads it.rows.one reads) own)) it.others;
        }
      where
        head_is : {x y : Row} → ◌≡◌ {A = List Row} (x ∷ []) (y ∷ []) → x ≡ y
        head_is e = cc

-- where no protest stands under the key, there is nothing to rule
pub rules_nothing : (key : ProtestKey) (ruling : Ruling) (trees : Trees) → None ≡ get (world_of trees).protests key
    → changed (RuleProtest key ruling) (world_of trees) ≡ world_of trees
rules_nothing key ruling trees found = subst (λ o. with_ruling (world_of trees) key ruling o ≡ world_of trees) found
    refl
