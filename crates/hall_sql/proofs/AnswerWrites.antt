-- What the statement that adds an answer leaves.
use Rattle.std.proofs.Common.{◌≡◌, ◌&&◌, ℕ, ◌∷◌, is_some, true, IsTrue, Some, None, Ok, refl, ap, ◌∙◌, arith}
use Rattle.std.specs.Prelude.{nat_le}
use Rattle.std.proofs.lemmas.Bool.{and_from, le-leb}
use Rattle.std.specs.FinMap.{get}
use Rattle.sqlite.specs.declared.types.Value.{Value}
use Rattle.sqlite.specs.declared.types.Value.TheVariants.{Int}
use Rattle.sqlite_rules.specs.Edit.{next_rowid}
use Rattle.sqlite.specs.Effect.{Database}
use Rattle.sqlite.specs.Order.{Row}
use Rattle.sqlite.specs.State.{State, HasCleanDisk, Executes}
use Rattle.hall_grid.specs.declared.rule.TheConstants.Broken.{ALL_BITS}
use Rattle.hall_grid.specs.Rule.{IsNameSet}
use Rattle.hall_policy.specs.Limits.{last_second, most_answers, most_number}
use Rattle.hall_grid.specs.Printable.{is_printable}
use Rattle.hall_policy.specs.Text.{is_word_byte}
use Rattle.hall_policy.specs.Ranges.{IsAnswerRow, IsWithin}
use Rattle.hall_policy.specs.declared.record.AnswerRow.{AnswerRow}
use Rattle.hall_policy.proofs.Orders.{answer_total, same_answer_keys}
use Rattle.hall_policy.proofs.Reading.{kind_holds}
use Rattle.hall_store.specs.declared.change.Change.TheVariants.{AddAnswer}
use Rattle.hall_sql.specs.Tables.{hall_schema}
use Rattle.hall_sql.specs.declared.tables.HallTable.TheVariants.{Answers}
use Rattle.hall_sql.specs.declared.answers.TheConstants.{ADD_ANSWER}
use Rattle.hall_sql.specs.Columns.{answer_params}
use Rattle.hall_sql.specs.Rows.{answer_of_row, world_of}
use Rattle.hall_sql.specs.Spared.{may_write}
use Rattle.hall_sql.specs.Standing.{HasAdded, IsHall, HasMade}
use Rattle.hall_sql.specs.Fill.{AddsAnswer, WithAnswer}
use Rattle.hall_sql.specs.Inside.{IsHallData}
use Rattle.hall_sql.proofs.AnswerTexts.{added_terms, add_answer_is}
use Rattle.hall_sql.proofs.AloneLemmas.{alone_world}
use Rattle.hall_sql.proofs.AddLemmas.{IsInsert, added_spares, row_put, row_made}
use Rattle.hall_sql.proofs.MapLemmas.{put_new}
use Rattle.hall_sql.proofs.SparedLemmas.{taken_record}
use Rattle.hall_sql.proofs.WriteLemmas.{cast_null, cast_number}

pub is_within : (least most n : ℕ) → IsWithin least most n → nat_le least n && nat_le n most ≡ true
is_within least most n h = and_from _ _ (le-leb _ _ h.0) (le-leb _ _ h.1)

verdict_within : (verdict : ℕ) → IsNameSet verdict → nat_le 0 verdict && nat_le verdict ALL_BITS ≡ true
verdict_within verdict set = is_within 0 ALL_BITS verdict (omega arith, omega (arith, set))

module _ (row : AnswerRow) (is : IsAnswerRow row) where
  abbrev params : Row
  params = answer_params row

  -- the columns are read as the answer, whatever its rowid is
  answer_reads : (id : Value) → answer_of_row (id ∷ params) ≡ Some row
  answer_reads id = rw (
    kind_holds 1 24 is_word_byte row.key.entrant is.key.entrant,
    kind_holds 1 24 is_word_byte row.key.round is.key.round,
    is_within 1 most_number row.key.number is.key.number,
    kind_holds 1 32 is_word_byte row.key.token is.key.token,
    is_within 1 most_answers row.n is.n,
    is_within 0 last_second row.moment is.moment,
    kind_holds 0 4000 is_printable row.answer is.answer,
    verdict_within row.verdict is.verdict,
  )

  adds : IsInsert Answers ADD_ANSWER.now params
  adds = record {
    at = 4;
    terms = added_terms;
    width = 9;
    there = λ u. refl;
    is = add_answer_is;
    source = refl;
    casts = rw (
      cast_null,
      cast_number row.key.number,
      cast_number row.n,
      cast_number row.moment,
      cast_number row.verdict,
    );
  }

  with_answer : (old new : Database) → HasAdded hall_schema 9 params old new
      → WithAnswer (world_of old.trees) row (world_of new.trees)
  with_answer old new it fresh =
      let id = Int (next_rowid (old.trees 9)) in
      alone_world 9 old.trees new.trees it.others
      ∙ ap (λ answers. record (world_of old.trees) { answers = answers })
      (put_new answer_total same_answer_keys (λ (x : AnswerRow). x.key) answer_of_row row (id ∷ params) (old.trees 9)
      (new.trees 9)
      it.put (answer_reads id) it.free fresh)

  module _ (old new : State) (count : ℕ) (ran : Executes ADD_ANSWER.now params old new (Ok count)) where
    abbrev rowid : Value
    rowid = Int (next_rowid (old.now.trees 9))

    -- the INSERT of an answer inside a transaction
    pub answer_put : IsHallData old.now → IsHallData new.now × AddsAnswer old.now row new.now
    answer_put held =
        let (after, it) = row_put Answers ADD_ANSWER.now params adds old new count ran WithAnswer row
        (ap is_some (answer_reads rowid)) (with_answer old.now new.now) held in (
          after,
          record {
            row = it.row;
            world = it.world;
            read = it.read;
            others = added_spares (may_write (AddAnswer row)) 9 params old.now new.now it.row
                (taken_record answer_total (λ (x : AnswerRow). x.key) row.key _ row (answer_reads rowid) refl);
          },
        )

    -- and outside of one, under a new key
    pub answer_added : IsHall old → HasCleanDisk old
        → (IsTrue old.is_open → get (world_of old.now.trees).answers row.key ≡ None) → HasMade (AddAnswer row) old new
    answer_added hall clean fresh =
        row_made Answers ADD_ANSWER.now params adds old new count ran (AddAnswer row) hall clean
        (taken_record answer_total (λ (x : AnswerRow). x.key) row.key _ row (answer_reads rowid) refl)
        (λ it opens. with_answer old.now new.now it (fresh opens))
