-- What the statements that write a puzzle leave.
use Rattle.std.proofs.Common.{None, ◌≡◌, inl, ℕ, pos, List, [], ◌∷◌, length, is_some, Bool, true, IsTrue, Some, Ok}
use Rattle.std.proofs.Common.{refl, sym, ap, subst, ◌∙◌, arith}
use Rattle.std.proofs.lemmas.Bool.{and_parts}
use Rattle.std.proofs.lemmas.List.{length-map}
use Rattle.std.proofs.lemmas.List.Sorted.{length_permutation}
use Rattle.std.specs.Ordering.{eq_by_cmp}
use Rattle.std.specs.FinMap.{get, insert}
use Rattle.sqlite.specs.declared.types.Value.{Value}
use Rattle.sqlite.specs.declared.types.Value.TheVariants.{Null, Int, Real, Text, Blob}
use Rattle.sqlite_sql.specs.declared.ops.BinaryOp.TheVariants.{Compare}
use Rattle.sqlite_sql.specs.declared.ops.CompareOp.TheVariants.{Eq}
use Rattle.sqlite.specs.Collation.TheVariants.{Binary}
use Rattle.sqlite_sql.specs.Ops.{binary, is_true}
use Rattle.sqlite_value.specs.Order.{column, value_cmp}
use Rattle.sqlite_value.specs.Keys.{joined}
use Rattle.sqlite_schema.specs.Names.{same_name}
use Rattle.sqlite_schema.specs.declared.schema.Keys.TheVariants.{Enforced}
use Rattle.sqlite_rules.specs.Action.{works}
use Rattle.sqlite_rules.specs.Edit.{next_rowid}
use Rattle.sqlite_rules.specs.Lists.{Has}
use Rattle.sqlite_rules.proofs.ListLemmas.{has_filtered}
use Rattle.sqlite.specs.Order.{Row}
use Rattle.sqlite.specs.Term.{col, eval_all}
use Rattle.sqlite.specs.Tree.{Trees}
use Rattle.sqlite.specs.Command.TheVariants.{Update}
use Rattle.sqlite.specs.State.{State, HasCleanDisk, Executes, Shown}
use Rattle.sqlite.proofs.Callers.{runs_as}
use Rattle.hall_grid.specs.Text.{SpellsText}
use Rattle.hall_grid.specs.Printable.{is_printable}
use Rattle.hall_policy.specs.Text.{is_word_byte}
use Rattle.hall_policy.specs.World.{puzzle_cmp}
use Rattle.hall_policy.specs.Ranges.{IsPuzzleKey, IsState}
use Rattle.hall_policy.specs.declared.record.PuzzleKey.{PuzzleKey}
use Rattle.hall_policy.specs.declared.record.PuzzleRow.{PuzzleRow}
use Rattle.hall_policy.specs.declared.record.PuzzleState.{PuzzleState}
use Rattle.hall_policy.specs.declared.record.PuzzleState.TheVariants.{New, One, NoSolution, More, GaveUp}
use Rattle.hall_policy.proofs.Orders.{puzzle_total, same_puzzle_keys, same_texts}
use Rattle.hall_policy.proofs.Reading.{kind_holds}
use Rattle.hall_store.specs.Change.{changed, with_state}
use Rattle.hall_store.specs.declared.change.Change.TheVariants.{PutPuzzle, SetState}
use Rattle.hall_sql.proofs.UniqueLemmas.{kept_keyed}
use Rattle.hall_sql.specs.Tables.{IsHallSchema, hall_schema}
use Rattle.hall_sql.specs.declared.tables.HallTable.TheVariants.{Puzzles}
use Rattle.hall_sql.proofs.Wordings.{Wording, hall_in, keeps_quiet, table_in, worded}
use Rattle.hall_sql.specs.declared.puzzles.TheConstants.{LOOK_PUZZLE, ADD_PUZZLE, REPLACE_PUZZLE}
use Rattle.hall_sql.specs.Values.{state_in}
use Rattle.hall_sql.specs.Columns.{puzzle_params, HasSoMany, state_code, solution_of}
use Rattle.hall_sql.specs.Rows.{puzzle_of_row, world_of}
use Rattle.hall_sql.specs.Spared.{may_write}
use Rattle.hall_sql.specs.Standing.{IsHall, HasMade}
use Rattle.hall_sql.specs.Fill.{AddsRow, WithPuzzle}
use Rattle.hall_sql.specs.Inside.{IsHallData}
use Rattle.hall_sql.proofs.PuzzleTexts.{puzzles_there, key_terms, added_terms, replaced_terms, apart, look_puzzle_is}
use Rattle.hall_sql.proofs.PuzzleTexts.{add_puzzle_is, replace_puzzle_is}
use Rattle.hall_sql.proofs.PuzzleLemmas.{key_columns}
use Rattle.hall_sql.proofs.CallLemmas.{executed_open, answers_selection}
use Rattle.hall_sql.proofs.ColumnLemmas.{texts_equal, column_equals, last_equal, more_equal, spelled}
use Rattle.hall_grid.specs.Canonical.{CanonicalText}
use Rattle.hall_sql.specs.PuzzleText.{HasPuzzleRow}
use Rattle.hall_sql.proofs.AddLemmas.{IsInsert, row_added, row_put, row_made}
use Rattle.hall_sql.proofs.AloneLemmas.{alone_world}
use Rattle.hall_sql.proofs.KeyedLemmas.{keyed_after}
use Rattle.hall_sql.proofs.MapLemmas.{equal_is, put_new}
use Rattle.hall_sql.proofs.QuietLemmas.{two_stay}
use Rattle.hall_sql.proofs.ReplaceLemmas.{replaced_one, added_one, put_alone, replaced_alone}
use Rattle.hall_sql.proofs.SparedLemmas.{own_key, replaced_spared, alone_spared}
use Rattle.hall_sql.proofs.UpdateLemmas.{update, updates, passes_with, made_with}
use Rattle.hall_sql.proofs.WriteLemmas.{writes_hall, cast_null, cast_number}

-- a state is read from its code and its solution
state_reads : (state : PuzzleState) → IsState state → state_in (Int (pos (state_code state))) (Text (solution_of state))
    ≡ Some state
state_reads New is = refl
state_reads (One solution) is = rw (kind_holds 0 4000 is_printable solution is)
state_reads NoSolution is = refl
state_reads More is = refl
state_reads GaveUp is = refl

texts_tie : (s t : List ℕ) → is_true (binary (Compare Eq Binary) (Text s) (Text t)) ≡ true → s ≡ t
texts_tie s t h = same_texts s t (equal_is _ (sym (texts_equal s t) ∙ h))

-- what equals a text is that text
pub text_is : (v : Value) (t : List ℕ) → is_true (binary (Compare Eq Binary) v (Text t)) ≡ true → v ≡ Text t
unfolding binary value_cmp
text_is Null t h = absurd cc
text_is (Int n) t h = absurd cc
text_is (Real x) t h = absurd cc
text_is (Text s) t h = ap Text (texts_tie s t h)
text_is (Blob b) t h = absurd cc

pub no_rows : {A : Type 0} (xs : List A) → length xs ≡ 0 → xs ≡ []
no_rows [] e = refl
no_rows (x ∷ xs) e = absurd (omega (arith, e))

-- how many rows the look finds
pub puzzle_looked : (key : PuzzleKey) (old new : State) (rows : List Row) → IsHallSchema old.now.schema
    → Shown LOOK_PUZZLE.now (Text key.author ∷ Text key.label ∷ []) old new rows → HasSoMany key old (length rows)
puzzle_looked key old new rows has shown =
    let given = Text key.author ∷ Text key.label ∷ [] in
    let (u, words) = worded old.now.schema has in
    let sel = answers_selection LOOK_PUZZLE.now given old new 3 key_terms (col 1 1 ∷ []) [] _ (look_puzzle_is u).0
    (look_puzzle_is u).1 (look_puzzle_is u).2 refl words rows shown in
    sym (length_permutation _ sel.found sel.same) ∙ sym (length-map sel.found
    (λ r. eval_all (col 1 1 ∷ []) (given ∷ r ∷ []))) ∙ ap length (sym sel.shown)

module _ (text : List ℕ) (row : PuzzleRow) (spells : SpellsText text row.puzzle) (in_key : IsPuzzleKey row.key)
    (in_state : IsState row.state) where
  abbrev params : Row
  params = puzzle_params text row

  -- the columns are read as the puzzle, whatever its rowid is
  puzzle_reads : (id : Value) → puzzle_of_row (id ∷ params) ≡ Some row
  puzzle_reads id = rw (
    kind_holds 1 24 is_word_byte row.key.author in_key.author,
    kind_holds 1 24 is_word_byte row.key.label in_key.label,
    spelled text row.puzzle spells,
    state_reads row.state in_state,
  )

  adds : IsInsert Puzzles ADD_PUZZLE.now params
  adds = record {
    at = 1;
    terms = added_terms;
    width = 6;
    there = λ u. refl;
    is = add_puzzle_is;
    source = refl;
    casts = rw (cast_null, cast_number (state_code row.state));
  }

  abbrev has_key : Row → Bool
  has_key = passes_with hall_schema puzzles_there key_terms replaced_terms apart params

  abbrev made : Row → Row
  made = made_with hall_schema puzzles_there key_terms replaced_terms apart params

  -- WHERE author = ?1 AND label = ?2 asks for the key
  agrees : (r : Row) (x : PuzzleRow) → puzzle_of_row r ≡ Some x → has_key r ≡ eq_by_cmp puzzle_cmp x.key row.key
  agrees r x is =
      let columns = key_columns r x is in
      more_equal _ _ _ _ (column_equals (column r 1) x.key.author row.key.author columns.0)
      (last_equal _ _ (column_equals (column r 2) x.key.label row.key.label columns.1))

  -- the row that is the puzzle stands under its key
  own_row : (r : Row) → puzzle_of_row r ≡ Some row → has_key r ≡ true
  own_row r is = agrees r row is ∙ own_key puzzle_total row.key

  module _ (r : Row) (taken : has_key r ≡ true) where
    author_is : column r 1 ≡ Text row.key.author
    author_is = text_is (column r 1) row.key.author (and_parts _ _ taken).0

    label_is : column r 2 ≡ Text row.key.label
    label_is = text_is (column r 2) row.key.label (and_parts _ _ (and_parts _ _ taken).1).0

    made_reads : puzzle_of_row (made r) ≡ Some row
    made_reads = rw (
      author_is,
      label_is,
      cast_number (state_code row.state),
      kind_holds 1 24 is_word_byte row.key.author in_key.author,
      kind_holds 1 24 is_word_byte row.key.label in_key.label,
      spelled text row.puzzle spells,
      state_reads row.state in_state,
    )

    -- the row keeps its rowid, and has the columns
    made_is : made r ≡ column (made r) 0 ∷ params
    made_is = rw (author_is, label_is, cast_number (state_code row.state)) refl

    -- the key stays, so no foreign key acts
    made_quiet : (u : Wording) → works (hall_in u) Enforced 0 3 (r ∷ []) (made r ∷ []) ≡ []
    unfolding same_name joined
    made_quiet u =
        let stays = two_stay _ 1 2 r (made r) (rw author_is) (rw label_is) in
        keeps_quiet u 3 (r ∷ []) (made r ∷ []) (
          tt,
          (
            (λ a. refl, tt),
            (
              tt,
              (
                (λ a. refl, (λ a. stays, tt)),
                ((λ a. refl, (λ a. refl, tt)), ((λ a. refl, (λ a. refl, tt)), ((λ a. refl, (λ a. refl, tt)), tt))),
              ),
            ),
          ),
        )

  -- the INSERT of a puzzle inside a transaction
  pub puzzle_put : (old new : State) (count : ℕ) → Executes ADD_PUZZLE.now params old new (Ok count)
      → IsHallData old.now → IsHallData new.now × AddsRow 3 WithPuzzle params old.now row new.now
  puzzle_put old new count ran =
      let id = Int (next_rowid (old.now.trees 3)) in
      row_put Puzzles ADD_PUZZLE.now params adds old new count ran WithPuzzle row (ap is_some (puzzle_reads id))
      (λ it fresh.
      alone_world 3 old.now.trees new.now.trees it.others ∙ ap
      (λ puzzles. record (world_of old.now.trees) { puzzles = puzzles })
      (put_new puzzle_total same_puzzle_keys (λ (x : PuzzleRow). x.key) puzzle_of_row row (id ∷ params)
      (old.now.trees 3) (new.now.trees 3) it.put
      (puzzle_reads id) it.free fresh))

  module _ (old new : State) (count : ℕ) (hall : IsHall old) (clean : HasCleanDisk old) where
    -- and outside of one, under a new key
    pub puzzle_added : (IsTrue old.is_open → HasSoMany row.key old 0)
        → Executes ADD_PUZZLE.now params old new (Ok count) → HasMade (PutPuzzle row) old new
    puzzle_added nobody ran =
        let id = Int (next_rowid (old.now.trees 3)) in
        row_made Puzzles ADD_PUZZLE.now params adds old new count ran (PutPuzzle row) hall clean
        (own_row (id ∷ params) (puzzle_reads id)) (λ it opens.
        alone_world 3 old.now.trees new.now.trees it.others ∙ ap
        (λ puzzles. record (world_of old.now.trees) { puzzles = puzzles })
        (added_one puzzle_total same_puzzle_keys (λ (x : PuzzleRow). x.key) puzzle_of_row row.key has_key agrees
        (old.now.trees 3) (new.now.trees 3) (id ∷ params) row
        (no_rows _ (nobody opens)) it.free it.put refl (puzzle_reads id)))

    -- the UPDATE of the puzzle under the key
    pub puzzle_replaced : (IsTrue old.is_open → HasSoMany row.key old 1)
        → Executes REPLACE_PUZZLE.now params old new (Ok count) → HasMade (PutPuzzle row) old new
    puzzle_replaced single ran =
        let mode = hall.autocommit clean in
        let was = executed_open old new REPLACE_PUZZLE.now params count mode ran in
        let has = (hall.settled clean was).1 in
        let keyed = hall.keyed clean was in
        let (u, words) = worded old.now.schema has in
        let w = runs_as REPLACE_PUZZLE.now params old new (hall_in u) words
        (Update 1 (update (hall_in u) (table_in u Puzzles) key_terms replaced_terms apart)) (replace_puzzle_is u).0
        (replace_puzzle_is u).1 count ran in
        let it = updates (hall_in u) (table_in u Puzzles) key_terms replaced_terms apart 1 refl params
        (λ r taken. made_quiet r taken u) old new _ count words keyed.1.0 w (single was) in
        let one = it.rows.one in
        let there = has_filtered has_key (old.now.trees 3) one
        (subst (λ l. Has l one) (sym it.rows.found) (inl refl)) in
        record {
          hall = writes_hall old new _ _ _ count mode w (subst IsHallSchema (sym it.same) has)
              (keyed_after 3 old.now.trees new.now.trees hall_schema.tables it.keyed it.others keyed);
          was_open = was;
          serves = w.shown.is_open;
          world = alone_world 3 old.now.trees new.now.trees it.others
              ∙ ap (λ puzzles. record (world_of old.now.trees) { puzzles = puzzles })
              (replaced_one puzzle_total same_puzzle_keys (λ (x : PuzzleRow). x.key) puzzle_of_row row.key has_key
              agrees made (old.now.trees 3) (new.now.trees 3) row keyed.1.0 it.rows refl (made_reads one there.1));
          others = alone_spared (may_write (PutPuzzle row)) 3 old.now.trees new.now.trees
              (replaced_spared (may_write (PutPuzzle row) 3) has_key made (old.now.trees 3) (new.now.trees 3) keyed.1.0
              it.rows there.1 (own_row (made one) (made_reads one there.1))) it.others;
        }

    -- the row that was added stands alone under the key
    pub added_alone : CanonicalText text row.puzzle → (IsTrue old.is_open → HasSoMany row.key old 0)
        → Executes ADD_PUZZLE.now params old new (Ok count)
        → HasPuzzleRow row new.now
    added_alone canonical nobody ran =
        let was = executed_open old new ADD_PUZZLE.now params count (hall.autocommit clean) ran in
        let held : IsHallData old.now = record { schema = (hall.settled clean was).1; keyed = hall.keyed clean was } in
        let it = (row_added Puzzles ADD_PUZZLE.now params adds old new count ran held).1 in
        let id = Int (next_rowid (old.now.trees 3)) in
        record {
          text = text;
          canonical = canonical;
          rowid = id;
          alone = put_alone has_key (old.now.trees 3) (new.now.trees 3) (id ∷ params)
              (own_row (id ∷ params) (puzzle_reads id)) (no_rows _ (nobody was)) it.free it.put;
        }

    -- and so does the one that took another's place
    pub replaced_row : CanonicalText text row.puzzle → (IsTrue old.is_open → HasSoMany row.key old 1)
        → Executes REPLACE_PUZZLE.now params old new (Ok count)
        → HasPuzzleRow row new.now
    replaced_row canonical single ran =
        let was = executed_open old new REPLACE_PUZZLE.now params count (hall.autocommit clean) ran in
        let keyed = hall.keyed clean was in
        let (u, words) = worded old.now.schema (hall.settled clean was).1 in
        let w = runs_as REPLACE_PUZZLE.now params old new (hall_in u) words
        (Update 1 (update (hall_in u) (table_in u Puzzles) key_terms replaced_terms apart)) (replace_puzzle_is u).0
        (replace_puzzle_is u).1 count ran in
        let it = updates (hall_in u) (table_in u Puzzles) key_terms replaced_terms apart 1 refl params
        (λ r taken. made_quiet r taken u) old new _ count words keyed.1.0 w (single was) in
        let one = it.rows.one in
        let there = has_filtered has_key (old.now.trees 3) one
        (subst (λ l. Has l one) (sym it.rows.found) (inl refl)) in
        record {
          text = text;
          canonical = canonical;
          rowid = column (made one) 0;
          alone = replaced_alone has_key made (old.now.trees 3) (new.now.trees 3) keyed.1.0 it.rows
              (own_row (made one) (made_reads one there.1)) ∙ ap (λ r. r ∷ []) (made_is one there.1);
        }

-- a puzzle stands under its own key, so to put it in a state is to set the state under the key
pub put_sets : (key : PuzzleKey) (state : PuzzleState) (trees : Trees) (row : PuzzleRow)
    → Some row ≡ get (world_of trees).puzzles key
    → (changed (PutPuzzle (record row { state = state })) (world_of trees) ≡ changed (SetState key state)
    (world_of trees))
    × (may_write (PutPuzzle (record row { state = state })) ≡ may_write (SetState key state))
put_sets key state trees row found =
    let own : row.key ≡ key = kept_keyed puzzle_total same_puzzle_keys (λ (x : PuzzleRow). x.key) puzzle_of_row
    (trees 3) key row (sym found) in (
      subst (λ k. record (world_of trees) { puzzles = insert (world_of trees).puzzles k (record row { state = state }) }
          ≡ changed (SetState key state) (world_of trees)) (sym own)
          (subst (λ o. with_state (world_of trees) key state (Some row) ≡ with_state (world_of trees) key state o) found
          refl),
      ap (λ k. may_write (SetState k state)) own,
    )

-- where no puzzle stands under the key, there is nothing to set
pub sets_nothing : (key : PuzzleKey) (state : PuzzleState) (trees : Trees) → None ≡ get (world_of trees).puzzles key
    → changed (SetState key state) (world_of trees) ≡ world_of trees
sets_nothing key state trees found = subst (λ o. with_state (world_of trees) key state o ≡ world_of trees) found refl
