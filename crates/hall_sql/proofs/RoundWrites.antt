-- What the statements that write the head of a round leave.
use Rattle.std.proofs.Common.{IsTrue, ◌≡◌, ◌≤◌, inl, ℕ, pos, List, [], ◌∷◌, length, map, is_some, slice_get, Bool, true}
use Rattle.std.proofs.Common.{false, Option, Some, None, IfSome, Ok, refl, sym, ap, subst, ◌∙◌, arith}
use Rattle.std.proofs.lemmas.Bool.{and_parts}
use Rattle.std.proofs.lemmas.List.{length-map}
use Rattle.std.proofs.lemmas.List.Sorted.{length_permutation}
use Rattle.std.specs.List.{filter}
use Rattle.std.specs.Ordering.{eq_by_cmp}
use Rattle.std.specs.FinMap.{get, insert}
use Rattle.sqlite.specs.declared.types.Value.{Value}
use Rattle.sqlite.specs.declared.types.Value.TheVariants.{Int, Text}
use Rattle.sqlite_value.specs.Order.{column}
use Rattle.sqlite_value.specs.Keys.{joined}
use Rattle.sqlite_schema.specs.Names.{same_name}
use Rattle.sqlite_schema.specs.declared.schema.Keys.TheVariants.{Enforced}
use Rattle.sqlite_rules.specs.Action.{works}
use Rattle.sqlite_rules.specs.Edit.{next_rowid}
use Rattle.sqlite_rules.specs.Lists.{Has}
use Rattle.sqlite_rules.proofs.ListLemmas.{has_filtered}
use Rattle.sqlite.specs.Effect.{Database, IsDatabase}
use Rattle.sqlite.specs.Order.{Row}
use Rattle.sqlite.specs.Term.{col, eval_all}
use Rattle.sqlite.specs.Tree.{Trees}
use Rattle.sqlite.specs.Command.TheVariants.{Update}
use Rattle.sqlite.specs.State.{State, HasCleanDisk, Executes, Shown}
use Rattle.sqlite.specs.Listing.{understood}
use Rattle.sqlite.proofs.Callers.{IsPlain, runs_as}
use Rattle.hall_policy.specs.Limits.{last_second, most_minutes, most_points, most_protest_minutes}
use Rattle.hall_grid.specs.Printable.{is_printable}
use Rattle.hall_policy.specs.Text.{text_cmp, is_word_byte}
use Rattle.hall_policy.specs.Ranges.{IsRound}
use Rattle.hall_policy.specs.declared.record.Mode as mode
use Rattle.hall_policy.specs.declared.record.Mode.TheVariants.{Instant, Sealed}
use Rattle.hall_policy.specs.declared.record.Round.{Round}
use Rattle.hall_policy.proofs.Orders.{text_total, same_texts}
use Rattle.hall_policy.proofs.Reading.{kind_holds}
use Rattle.hall_store.specs.Change.{changed, flagged, with_flag}
use Rattle.hall_store.specs.declared.change.Change.TheVariants.{SetRoundFlag}
use Rattle.hall_store.specs.declared.change.RoundFlag.{RoundFlag}
use Rattle.hall_store.specs.declared.change.RoundFlag.TheVariants.{Released, Published}
use Rattle.hall_sql.specs.Tables.{IsHallSchema, hall_schema}
use Rattle.hall_sql.specs.declared.tables.HallTable.TheVariants.{Rounds}
use Rattle.hall_sql.proofs.Wordings.{Wording, by_hall, hall_in, keeps_quiet, table_in, worded}
use Rattle.hall_sql.specs.declared.rounds.TheConstants.{HEAD}
use Rattle.hall_sql.specs.declared.round_writes.TheConstants.{LOOK_HEAD, ADD_HEAD, REPLACE_HEAD}
use Rattle.hall_sql.specs.Values.{mode_in, flag_in}
use Rattle.hall_sql.specs.Inside.{IsHallData, MakesInside}
use Rattle.hall_sql.specs.Fill.{AddsHead, WithRound}
use Rattle.hall_sql.specs.RoundPuts.{CountsHeads, PutsHead, PutsHeadOver}
use Rattle.hall_sql.specs.RoundColumns.{mode_code, flag_code, head_params, is_under, HasSoManyHeads, IsHead}
use Rattle.hall_sql.specs.Rows.{round_in, round_of_row, world_of}
use Rattle.hall_sql.specs.Spared.{is_head_of, KeptOtherRows}
use Rattle.hall_sql.specs.Standing.{IsHall, HasMade}
use Rattle.hall_sql.proofs.AnswerWrites.{is_within}
use Rattle.hall_sql.proofs.HeadTexts.{id_terms, rounds_there, head_is, look_head_is, added_terms, add_head_is}
use Rattle.hall_sql.proofs.HeadTexts.{replaced_terms, apart, replace_head_is}
use Rattle.hall_sql.proofs.RoundLemmas.{id_column}
use Rattle.hall_sql.proofs.CallLemmas.{executed_open, answers_selection, shown_unchanged}
use Rattle.hall_sql.proofs.InsideLemmas.{did, shown_mode}
use Rattle.hall_sql.proofs.ColumnLemmas.{column_equals, last_equal}
use Rattle.hall_sql.proofs.FoundLemmas.{length_read, asked_found}
use Rattle.hall_sql.proofs.AddLemmas.{IsInsert, row_added, row_put, added_spares}
use Rattle.hall_sql.proofs.AloneLemmas.{alone_world}
use Rattle.hall_sql.proofs.KeyedLemmas.{keyed_after}
use Rattle.hall_sql.proofs.MapLemmas.{put_new}
use Rattle.hall_sql.proofs.QuietLemmas.{one_stays}
use Rattle.hall_sql.proofs.ReplaceLemmas.{replaced_one, added_one, put_alone, replaced_alone}
use Rattle.hall_sql.proofs.SparedLemmas.{own_key, replaced_spared, alone_spared}
use Rattle.hall_sql.proofs.UniqueLemmas.{kept_keyed}
use Rattle.hall_sql.proofs.UpdateLemmas.{update, updates, made_with}
use Rattle.hall_sql.proofs.PuzzleWrites.{text_is, no_rows}
use Rattle.hall_sql.proofs.WriteLemmas.{writes_hall, cast_null, cast_number, cast_int}
use Rattle.hall_sql.proofs.Queries.{selection}

-- ---- the head of an id

-- WHERE id = ?1 asks for the id
agrees : (id : List ℕ) (r : Row) (round : Round) → round_of_row r ≡ Some round
    → is_under id r ≡ eq_by_cmp text_cmp round.id id
agrees id r round is = last_equal _ _ (column_equals (column r 1) round.id id (id_column r round is))

pub head_found : (id : List ℕ) (old new : State) (rows : List Row) (out : List Round) → IsHallSchema old.now.schema
    → Shown HEAD.now (Text id ∷ []) old new rows → map round_in rows ≡ map Some out → length out ≤ 1
    → slice_get out 0 ≡ get (world_of old.now.trees).rounds id
head_found id old new rows out has =
    let (u, words) = worded old.now.schema has in
    asked_found text_total same_texts (head_is id u) (λ (round : Round). round.id) id (agrees id) old new rows out words

-- as many rows as the query gives stand under the id
heads_counted : (id : List ℕ) (old new : State) (rows : List Row) → IsHallSchema old.now.schema
    → Shown HEAD.now (Text id ∷ []) old new rows → HasSoManyHeads id old.now (length rows)
heads_counted id old new rows has shown =
    let (u, words) = worded old.now.schema has in
    let sel = selection (head_is id u) old new rows words shown in
    sym (length_permutation _ sel.found sel.same) ∙ sym (length-map sel.found
    _) ∙ ap length (sym sel.shown)

pub head_alone : (id : List ℕ) (old new : State) (rows : List Row) (out : List Round) (one : Option Round)
    → IsHallSchema old.now.schema
    → Shown HEAD.now (Text id ∷ []) old new rows → map round_in rows ≡ map Some out → length out ≤ 1
    → one ≡ slice_get out 0
    → IfSome one (IsHead id old)
head_alone id old new rows [] one has shown is short first = subst (λ o. IfSome o (IsHead id old)) (sym first) tt
head_alone id old new rows (round ∷ []) one has shown is short first =
    subst (λ o. IfSome o (IsHead id old)) (sym first) (record {
      kept = sym (head_found id old new rows (round ∷ []) has shown is short);
      alone = heads_counted id old new rows has shown ∙ length_read round_in rows (round ∷ []) is;
    })
head_alone id old new rows (round ∷ other ∷ out) one has shown is short first = absurd (omega (arith, short))

-- and so it is after a query
pub head_stays : (id : List ℕ) (old new : State) (one : Option Round) → new.now ≡ old.now → IfSome one (IsHead id old)
    → IfSome one (IsHead id new)
head_stays id old new None same head = tt
head_stays id old new (Some round) same head = record {
  kept = ap (λ (d : Database). get (world_of d.trees).rounds id) same ∙ head.kept;
  alone = ap (λ (d : Database). length (filter (is_under id) (d.trees 5))) same ∙ head.alone;
}

-- the look before a head is put
pub head_looked : (id : List ℕ) (old new : State) (rows : List Row) → IsHallSchema old.now.schema
    → Shown LOOK_HEAD.now (Text id ∷ []) old new rows → HasSoManyHeads id old.now (length rows)
head_looked id old new rows has shown =
    let given = Text id ∷ [] in
    let (u, words) = worded old.now.schema has in
    let sel = answers_selection LOOK_HEAD.now given old new 5 id_terms (col 1 1 ∷ []) [] _ (look_head_is u).0
    (look_head_is u).1 (look_head_is u).2 refl words rows shown in
    sym (length_permutation _ sel.found sel.same) ∙ sym (length-map sel.found
    (λ r. eval_all (col 1 1 ∷ []) (given ∷ r ∷ []))) ∙ ap length (sym sel.shown)

-- ---- what is written

mode_reads : (how : mode.Mode) → mode_in (Int (pos (mode_code how))) ≡ Some how
mode_reads Instant = refl
mode_reads Sealed = refl

flag_reads : (flag : Bool) → flag_in (Int (flag_code flag)) ≡ Some flag
flag_reads true = refl
flag_reads false = refl

module _ (round : Round) (is : IsRound round) where
  abbrev params : Row
  params = head_params round

  abbrev made : Row → Row
  made = made_with hall_schema rounds_there id_terms replaced_terms apart params

  -- the columns are read as the round, whatever its rowid is
  head_reads : (id : Value) → round_of_row (id ∷ params) ≡ Some round
  head_reads id = rw (
    kind_holds 1 24 is_word_byte round.id is.id,
    kind_holds 1 60 is_printable round.title is.title,
    is_within 0 last_second round.start is.start,
    is_within 1 most_minutes round.minutes is.minutes,
    is_within 0 most_protest_minutes round.protest_minutes is.protest_minutes,
    mode_reads round.mode,
    is_within 0 most_points round.penalty is.penalty,
    is_within 0 most_points round.bonus is.bonus,
    flag_reads round.released,
    flag_reads round.published,
  )

  adds : IsInsert Rounds ADD_HEAD.now params
  adds = record {
    at = 2;
    terms = added_terms;
    width = 11;
    there = λ u. refl;
    is = add_head_is;
    source = refl;
    casts = rw (
      cast_null,
      cast_number round.start,
      cast_number round.minutes,
      cast_number round.protest_minutes,
      cast_number (mode_code round.mode),
      cast_number round.penalty,
      cast_number round.bonus,
      cast_int (flag_code round.released),
      cast_int (flag_code round.published),
    );
  }

  -- the row that is the round stands under its id
  own_row : (r : Row) → round_of_row r ≡ Some round → is_under round.id r ≡ true
  own_row r is = agrees round.id r round is ∙ own_key text_total round.id

  module _ (r : Row) (taken : is_under round.id r ≡ true) where
    id_is : column r 1 ≡ Text round.id
    id_is = text_is (column r 1) round.id (and_parts _ _ taken).0

    -- the row keeps its rowid, and has the columns
    made_is : made r ≡ column (made r) 0 ∷ params
    made_is = rw (
      id_is,
      cast_number round.start,
      cast_number round.minutes,
      cast_number round.protest_minutes,
      cast_number (mode_code round.mode),
      cast_number round.penalty,
      cast_number round.bonus,
      cast_int (flag_code round.released),
      cast_int (flag_code round.published),
    ) refl

    made_reads : round_of_row (made r) ≡ Some round
    made_reads = ap round_of_row made_is ∙ head_reads (column (made r) 0)

    -- the id stays, so no foreign key acts
    made_quiet : (u : Wording) → works (hall_in u) Enforced 0 5 (r ∷ []) (made r ∷ []) ≡ []
    unfolding same_name joined
    made_quiet u =
        let stays = one_stays _ 1 r (made r) (rw id_is) in
        keeps_quiet u 5 (r ∷ []) (made r ∷ []) (
          tt,
          (
            (λ a. refl, tt),
            (
              tt,
              (
                (λ a. stays, (λ a. refl, tt)),
                ((λ a. refl, (λ a. refl, tt)), ((λ a. refl, (λ a. refl, tt)), ((λ a. stays, (λ a. refl, tt)), tt))),
              ),
            ),
          ),
        )

  module _ (old new : State) (count : ℕ) (held : IsHallData old.now) where
    -- the UPDATE of the head under the id
    pub head_replaced : Executes REPLACE_HEAD.now params old new (Ok count) → HasSoManyHeads round.id old.now 1
        → IsHallData new.now × PutsHead round old.now new.now
    head_replaced ran single =
        let keyed = held.keyed in
        let (u, words) = worded old.now.schema held.schema in
        let w = runs_as REPLACE_HEAD.now params old new (hall_in u) words
        (Update 2 (update (hall_in u) (table_in u Rounds) id_terms replaced_terms apart)) (replace_head_is u).0
        (replace_head_is u).1 count ran in
        let it = updates (hall_in u) (table_in u Rounds) id_terms replaced_terms apart 2 refl params
        (λ r taken. made_quiet r taken u) old new _ count words keyed.1.1.0 w single in
        let one = it.rows.one in
        let there = has_filtered (is_under round.id) (old.now.trees 5) one
        (subst (λ l. Has l one) (sym it.rows.found) (inl refl)) in (
          record {
            schema = subst IsHallSchema (sym it.same) held.schema;
            keyed = keyed_after 5 old.now.trees
                new.now.trees hall_schema.tables it.keyed it.others keyed;
          },
          record {
            world = alone_world 5 old.now.trees new.now.trees it.others
                ∙ ap (λ rounds. record (world_of old.now.trees) { rounds = rounds })
                (replaced_one text_total same_texts (λ (x : Round). x.id) round_of_row round.id (is_under round.id)
                (agrees round.id) made (old.now.trees 5) (new.now.trees 5) round keyed.1.1.0 it.rows refl
                (made_reads one there.1));
            row = record {
              rowid = column (made one) 0;
              alone = replaced_alone (is_under round.id) made (old.now.trees 5) (new.now.trees 5) keyed.1.1.0 it.rows
                  (own_row (made one) (made_reads one there.1)) ∙ ap (λ r. r ∷ []) (made_is one there.1);
            };
            others = alone_spared (is_head_of round.id) 5 old.now.trees new.now.trees
                (replaced_spared (is_head_of round.id 5) (is_under round.id) made (old.now.trees 5) (new.now.trees 5)
                keyed.1.1.0 it.rows there.1 (own_row (made one) (made_reads one there.1))) it.others;
          },
        )

    -- the INSERT of a head
    pub head_inserted : Executes ADD_HEAD.now params old new (Ok count) → IsHallData new.now
        × AddsHead old.now round new.now
    head_inserted ran =
        let id = Int (next_rowid (old.now.trees 5)) in
        row_put Rounds ADD_HEAD.now params adds old new count ran WithRound round (ap is_some (head_reads id))
        (λ it fresh.
        alone_world 5 old.now.trees new.now.trees it.others ∙ ap
        (λ rounds. record (world_of old.now.trees) { rounds = rounds })
        (put_new text_total same_texts (λ (x : Round). x.id) round_of_row round (id ∷ params) (old.now.trees 5)
        (new.now.trees 5) it.put
        (head_reads id) it.free fresh)) held

    -- and under a new id
    pub head_added : Executes ADD_HEAD.now params old new (Ok count) → HasSoManyHeads round.id old.now 0
        → IsHallData new.now × PutsHead round old.now new.now
    head_added ran nobody =
        let (after, it) = row_added Rounds ADD_HEAD.now params adds old new count ran held in
        let id = Int (next_rowid (old.now.trees 5)) in
        let own = own_row (id ∷ params) (head_reads id) in (
          after,
          record {
            world = alone_world 5 old.now.trees new.now.trees it.others
                ∙ ap (λ rounds. record (world_of old.now.trees) { rounds = rounds })
                (added_one text_total same_texts (λ (x : Round). x.id) round_of_row round.id (is_under round.id)
                (agrees round.id) (old.now.trees 5) (new.now.trees 5) (id ∷ params) round
                (no_rows _ nobody) it.free it.put refl (head_reads id));
            row = record {
              rowid = id;
              alone = put_alone (is_under round.id) (old.now.trees 5) (new.now.trees 5)
                  (id ∷ params) own (no_rows _ nobody) it.free it.put;
            };
            others = added_spares (is_head_of round.id) 5 params old.now new.now it own;
          },
        )

-- ---- a flag

flagged_id : (flag : RoundFlag) (round : Round) → (flagged flag round).id ≡ round.id
flagged_id Released round = refl
flagged_id Published round = refl

-- a head that is found stands under its own id
pub head_own : (id : List ℕ) (s : State) (round : Round) → IsHead id s round → round.id ≡ id
head_own id s round it = kept_keyed text_total same_texts (λ (x : Round). x.id) round_of_row (s.now.trees 5) id round
    it.kept

pub head_under : (id : List ℕ) (s : State) (round : Round) → IsHead id s round → IsHead round.id s round
head_under id s round it = subst (λ own. IsHead own s round) (sym (head_own id s round it)) it

-- where no round stands under the id, there is nothing to set
pub flags_nothing : (id : List ℕ) (flag : RoundFlag) (trees : Trees) → None ≡ get (world_of trees).rounds id
    → changed (SetRoundFlag id flag) (world_of trees) ≡ world_of trees
flags_nothing id flag trees found = subst (λ o. with_flag (world_of trees) id flag o ≡ world_of trees) found refl

-- the UPDATE of the head with its flag set
pub head_flagged : (flag : RoundFlag) (round : Round) → IsRound (flagged flag round) → (old new : State) (count : ℕ)
    → IsHall old → HasCleanDisk old
    → IsHead round.id old round → Executes REPLACE_HEAD.now (head_params (flagged flag round)) old new (Ok count)
    → HasMade (SetRoundFlag round.id flag) old new
head_flagged flag round is old new count hall clean head ran =
    let put = flagged flag round in
    let own = flagged_id flag round in
    let world = world_of old.now.trees in
    let mode = hall.autocommit clean in
    let was = executed_open old new REPLACE_HEAD.now (head_params put) count mode ran in
    let has = (hall.settled clean was).1 in
    let (u, words) = worded old.now.schema has in
    let w = runs_as REPLACE_HEAD.now (head_params put) old new (hall_in u) words
    (Update 2 (update (hall_in u) (table_in u Rounds) id_terms replaced_terms apart)) (replace_head_is u).0
    (replace_head_is u).1 count ran in
    let ours : IsHallData old.now = record { schema = has; keyed = hall.keyed clean was } in
    let it = head_replaced put is old new count ours ran (subst (λ id. HasSoManyHeads id old.now 1) (sym own)
    head.alone) in
    record {
      hall = writes_hall old new _ _ _ count mode w it.0.schema it.0.keyed;
      was_open = was;
      serves = w.shown.is_open;
      world = it.1.world ∙ ap (λ id. record world { rounds = insert world.rounds id put }) own
          ∙ subst (λ o. record world { rounds = insert world.rounds round.id put } ≡ with_flag world round.id flag o)
          (sym head.kept) refl;
      others = subst (λ id. KeptOtherRows (is_head_of id) old.now.trees new.now.trees) own it.1.others;
    }

-- ---- inside a transaction

-- a look tells how many rows stand under the id
pub head_counted : (id : List ℕ) (old new : State) (rows : List Row) → IsTrue old.in_transaction
    → Shown LOOK_HEAD.now (Text id ∷ []) old new rows
    → MakesInside (CountsHeads id (length rows)) old new
head_counted id old new rows inside shown =
    let left = λ (it : IsHallData old.now). shown_unchanged LOOK_HEAD.now (Text id ∷ []) old new rows
    (by_hall (λ s. IsPlain (understood s LOOK_HEAD.now)) (λ u. (look_head_is u).2) old.now.schema it.schema)
    shown in
    did (CountsHeads id (length rows)) old new (shown_mode LOOK_HEAD.now (Text id ∷ []) old new rows inside shown)
    (λ it. subst IsDatabase (sym (left it).0.now_is)) (λ it.
    let same = (left it).0.now_is in
    (subst IsHallData (sym same) it, record { same = same; many = head_looked id old new rows it.schema shown }))

-- after a look, the head is put
pub head_put : (count : ℕ) (round : Round) (a b c : State) → MakesInside (CountsHeads round.id count) a b
    → PutsHeadOver count round b c → MakesInside (PutsHead round) a c
head_put count round a b c looked put =
    did (PutsHead round) a c put.mode (λ it sound. put.sound (looked.steps.hall it)) (λ it.
    let same = (looked.does it).same in
    let many = subst (λ held. HasSoManyHeads round.id held count) (sym same) (looked.does it).many in
    let done = put.puts (looked.steps.hall it) many in
    (done.0, subst (λ held. PutsHead round held c.now) same done.1))
