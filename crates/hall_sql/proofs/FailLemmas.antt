-- Why a call was refused, as the state that it leaves tells.
use Rattle.std.proofs.Common.{◌≡◌, ◌⊎◌, inl, inr, ℕ, suc, nat_eq, Bool, true, false, List, [], ◌∷◌, ◌++◌}
use Rattle.std.proofs.Common.{append_assoc, option_to_list, Option, Some, Result, Ok, Err, IsTrue}
use Rattle.std.proofs.Common.{IfErr, OnErr, refl, sym, ap, subst, ◌∙◌, arith}
use Rattle.std.proofs.lemmas.Bool.{cases_Bool, eq-eqb, eqb-true}
use Rattle.std.proofs.lemmas.Grind.{flat_map-append}
use Rattle.std.specs.Prelude.{Contains}
use Rattle.sqlite_trees.specs.View.{doubt}
use Rattle.sqlite_trees.specs.declared.store.Store.{Ghosts}
use Rattle.sqlite.specs.declared.types.Value.TheVariants.{Text}
use Rattle.sqlite.specs.Effect.{Database, IsDatabase}
use Rattle.sqlite.specs.Held.{state}
use Rattle.sqlite.specs.Order.{Row}
use Rattle.sqlite.specs.State.{State, HasCleanDisk}
use Rattle.hall_policy.specs.World.{World}
use Rattle.hall_policy.specs.declared.record.AnswerRow.{AnswerRow}
use Rattle.hall_policy.specs.declared.record.Person.{Person}
use Rattle.hall_policy.specs.declared.record.ProtestKey.{ProtestKey}
use Rattle.hall_policy.specs.declared.record.ProtestRow.{ProtestRow}
use Rattle.hall_policy.specs.declared.record.PuzzleKey.{PuzzleKey}
use Rattle.hall_policy.specs.declared.record.PuzzleRow.{PuzzleRow}
use Rattle.hall_policy.specs.declared.record.PuzzleState.{PuzzleState}
use Rattle.hall_policy.specs.declared.record.RoundRow.{RoundRow}
use Rattle.hall_policy.specs.declared.record.Ruling.{Ruling}
use Rattle.hall_store.specs.Store.{CanFailIn, CanRefuseIn, Fails, HasNoRound, IsRefusedNext, MoreFaults, RoundCanFail}
use Rattle.hall_store.specs.declared.change.Change.{Change}
use Rattle.hall_store.specs.declared.change.Change.TheVariants.{Import, PutPuzzle, SetState, PutRound, SetRoundFlag}
use Rattle.hall_store.specs.declared.change.Change.TheVariants.{AddAnswer, AddAnswers, AddProtest, RuleProtest}
use Rattle.hall_store.specs.declared.change.RoundFlag.{RoundFlag}
use Rattle.hall_store.specs.declared.fault.StoreFault.{StoreFault}
use Rattle.hall_store.specs.declared.fault.StoreFault.TheVariants.{Failed}
use Rattle.hall_sql.specs.CanFail.{HasReason, KeepsBadRow, RefusesChange}
use Rattle.hall_sql.specs.CanFail.{RefusesPuzzle, StoreCanFail}
use Rattle.hall_sql.specs.Cause.{FeedFails, IsStoreCause, ReadFails, RoundFails, StopsAtRow}
use Rattle.hall_sql.specs.Columns.{answer_params, person_params, protest_params}
use Rattle.hall_sql.specs.Content.{content_of}
use Rattle.hall_sql.specs.Feed.{IsTurnedAway}
use Rattle.hall_sql.specs.Rows.{place_in, protest_in, puzzle_row_in, round_in, tester_in, world_of}
use Rattle.hall_sql.specs.Standing.{IsHall, KeptTables, KeptRows}
use Rattle.hall_sql.specs.Tables.{IsHallSchema}
use Rattle.hall_sql.specs.FillCause.{AddAnswersFails}
use Rattle.hall_sql.specs.WriteCause.{ImportFails, IsStatementRefused, IsUnknown, PersonIsRefused, PuzzleIsRefused}
use Rattle.hall_sql.specs.WriteCause.{PutPuzzleFails, PutRoundFails, RuleFails, RunFails, SetFlagFails, SetStateFails}
use Rattle.hall_sql.specs.declared.answers.TheConstants.{ADD_ANSWER}
use Rattle.hall_sql.specs.declared.people.TheConstants.{ADD_PERSON}
use Rattle.hall_sql.specs.declared.protests.TheConstants.{ADD_PROTEST, PROTEST}
use Rattle.hall_sql.specs.declared.puzzles.TheConstants.{PUZZLE}
use Rattle.hall_sql.specs.declared.rounds.TheConstants.{HEAD, PLACES_OF}
use Rattle.hall_sql.specs.declared.testers.TheConstants.{TESTERS_OF}
use Rattle.hall_sql.proofs.CallLemmas.{shown_was_open}
use Rattle.hall_sql.proofs.ContentLemmas.{all_read}
use Rattle.hall_sql.proofs.FeedLemmas.{Lists, records}
use Rattle.hall_sql.proofs.Queries.{Computes, RecordOf, TableQuery, begun, record_in}
use Rattle.hall_sql.proofs.StoreLemmas.{rested_stayed}
use Rattle.hall_sql.proofs.UnreadRows.{TellsUnread, begins_unread, unread}
use Rattle.hall_sql.proofs.HeadTexts.{head_is}
use Rattle.hall_sql.proofs.PeopleTexts.{person_is}
use Rattle.hall_sql.proofs.ProtestTexts.{protest_is}
use Rattle.hall_sql.proofs.PuzzleTexts.{puzzle_is}
use Rattle.hall_sql.proofs.RoundQueries.{places_of_is}
use Rattle.hall_sql.proofs.TesterTexts.{testers_of_is}
use Rattle.hall_sql.proofs.Wordings.{Wording, hall_in, worded}

-- ---- reasons

-- what is said of a clean disk: the device failed in the call, or it is shut, or its tables are bad in this sense
abbrev Reason : (Database → Type 0) → State → State → Type 0
Reason Bad old new = MoreFaults old.faults new.faults ⊎ HasReason Bad new

-- one that is shut needs no other
while_open : (Bad : Database → Type 0) (s : State) → (IsTrue s.is_open → Bad s.now) → (s.is_open ≡ false) ⊎ Bad s.now
while_open Bad s why = go s.is_open refl
  where
    go : (b : Bool) → s.is_open ≡ b → (s.is_open ≡ false) ⊎ Bad s.now
    go true is = inr (why is)
    go false is = inl is

module _ (Bad : Database → Type 0) (old new : State) (stayed : KeptRows old new) where
  by_store : IsStoreCause old new → Reason Bad old new
  by_store (inl more) = inl more
  by_store (inr shut) = inr (λ clean. while_open Bad new (λ opens. absurd (let no : false ≡ true = sym shut
      ∙ stayed.follows.opened clean opens in cc)))

  by_tables : Bad old.now → Reason Bad old new
  by_tables bad = inr (λ clean. while_open Bad new (λ opens. subst Bad (sym (stayed.same clean opens)) bad))

doubtful : (s : State) → HasCleanDisk s ⊎ (¬ (HasCleanDisk s))
doubtful s = elim (cases_Bool (nat_eq (doubt s.is_clean) 0)) [
  | inl same ↦ inl (eqb-true (doubt s.is_clean) 0 same)
  | inr differs ↦ inr (λ is. absurd (let same : nat_eq (doubt s.is_clean) 0 ≡ true = eq-eqb (doubt s.is_clean) 0 is in
      cc))
]

-- what reads call bad of the tables
abbrev KeepsUnread : Database → Type 0
KeepsUnread db = KeepsBadRow db.trees

-- of a disk that isn't clean nothing need be said
when_clean : (P Q : Type 0) (new : State) → (HasCleanDisk new → P ⊎ (HasCleanDisk new → Q)) → P ⊎ (HasCleanDisk new → Q)
when_clean P Q new why = elim (doubtful new) [
  | inl clean ↦ why clean
  | inr dirty ↦ inr (λ clean. absurd (dirty clean))
]

-- where a call failed, the states before and after it say why
by_reason : (Bad : Database → Type 0) {R : Type 0} (result : Result R StoreFault) (Why : Type 0) (old new : State)
    → (HasCleanDisk new → Fails Why result)
    → (HasCleanDisk new → Why → Reason Bad old new) → Fails (Reason Bad old new) result
by_reason Bad (Ok x) Why old new cause why = tt
by_reason Bad (Err e) Why old new cause why = λ failed. when_clean (MoreFaults old.faults new.faults)
    ((new.is_open ≡ false) ⊎ Bad new.now) new (λ clean. why clean (cause clean failed))

-- a read whose cause lies in the store alone
pub store_fault : {R : Type 0} (result : Result R StoreFault) (old new : State) → KeptTables old new
    → (HasCleanDisk new → Fails (IsStoreCause old new) result) → Fails (StoreCanFail old new) result
store_fault result old new rested cause =
    by_reason (λ _. ⊥) result (IsStoreCause old new) old new cause
    (λ clean. by_store (λ _. ⊥) old new (rested_stayed rested))

-- ---- reads

-- the cause lies in the store, or a row of the tables was no record
abbrev IsBad : State → State → Type 0
IsBad old new = IsStoreCause old new ⊎ KeepsUnread old.now

of_hall : (s : State) → IsHall s → HasCleanDisk s → IsTrue s.is_open → IsHallSchema s.now.schema
of_hall s hall clean opens = (hall.settled clean opens).1

of_rows : {X : Type 0} (read : Row → Option X) (sql : List ℕ) (params : Row) → TellsUnread read sql params
    → (old new : State) → IsHall old → HasCleanDisk old → ReadFails read sql params old new → IsBad old new
of_rows read sql params tells old new hall clean (inl cause) = inl cause
of_rows read sql params tells old new hall clean (inr it) =
    let has = of_hall old hall clean (shown_was_open sql params old new it.0 it.1) in
    inr (tells old new it.0 has it.1 it.2)

of_round : (id : List ℕ) (old new : State) → IsHall old → HasCleanDisk old → RoundFails id old new
    → IsBad old new ⊎ HasNoRound (world_of old.now.trees) id
of_round id old new hall clean (inl head) = inl
    (of_rows round_in HEAD.now (Text id ∷ []) (unread (head_is id)) old new hall clean head)
of_round id old new hall clean (inr (inl places)) = inl
    (of_rows place_in PLACES_OF.now (Text id ∷ []) (unread (places_of_is id)) old new hall clean places)
of_round id old new hall clean (inr (inr (inl testers))) = inl
    (of_rows tester_in TESTERS_OF.now (Text id ∷ []) (unread (testers_of_is id)) old new hall clean testers)
of_round id old new hall clean (inr (inr (inr none))) = inr none

module _ {old new : State} (hall : IsHall old) (rested : KeptTables old new) where
  stayed : KeptRows old new
  stayed = rested_stayed rested

  was_clean : HasCleanDisk new → HasCleanDisk old
  was_clean clean = omega (arith, rested.follows.lasts.clean, clean)

  by_read : IsBad old new → Reason KeepsUnread old new
  by_read (inl cause) = by_store KeepsUnread old new stayed cause
  by_read (inr bad) = by_tables KeepsUnread old new stayed bad

  -- of a round it is also that the world keeps none, with its lists, under the id
  by_round : (id : List ℕ) → HasCleanDisk new → RoundFails id old new
      → RoundCanFail id (content_of old) (content_of new)
  by_round id clean fails = elim (of_round id old new hall (was_clean clean) fails) [
    | inl bad ↦ inl (by_read bad)
    | inr none ↦ at_open none new.is_open refl
  ]
    where
      at_open : HasNoRound (world_of old.now.trees) id → (b : Bool) → new.is_open ≡ b
          → RoundCanFail id (content_of old) (content_of new)
      at_open none true is = inr (λ late. (
        is,
        subst (λ (db : Database). HasNoRound (world_of db.trees) id)
            (sym (stayed.same late is)) none,
      ))
      at_open none false is = inl (inr (λ late. inl is))

  module _ {R : Type 0} (result : Result R StoreFault) where
    pub read_fault : {X : Type 0} (read : Row → Option X) (sql : List ℕ) (params : Row) → TellsUnread read sql params
        → (HasCleanDisk new → Fails (ReadFails read sql params old new) result)
        → Fails (CanFailIn (content_of old) (content_of new)) result
    read_fault read sql params tells cause =
        by_reason KeepsUnread result (ReadFails read sql params old new) old new cause
        (λ clean why. by_read (of_rows read sql params tells old new hall (was_clean clean) why))

    pub round_fault : (id : List ℕ) → (HasCleanDisk new → Fails (RoundFails id old new) result)
        → Fails (RoundCanFail id (content_of old) (content_of new)) result
    round_fault id cause = at result cause
      where
        at : (r : Result R StoreFault) → (HasCleanDisk new → Fails (RoundFails id old new) r)
            → Fails (RoundCanFail id (content_of old) (content_of new)) r
        at (Ok x) why = tt
        at (Err e) why = λ failed. elim (doubtful new) [
          | inl clean ↦ by_round id clean (why clean failed)
          | inr dirty ↦ inl (inr (λ clean. absurd (dirty clean)))
        ]

-- ---- rows that are fed

last_there : (rows : List Row) (row : Row) → Contains (rows ++ row ∷ []) row
last_there [] row = (0, omega arith, refl)
last_there (r ∷ rows) row = let it = last_there rows row in (suc it.0, omega (arith, it.1), it.2)

module _ {q : TableQuery} (computes : (u : Wording) → Computes q (hall_in u)) where
  module _ {K : Type 0} (Takes : K → RecordOf q.table → K → Type 0) (Refuses : K → RecordOf q.table → Type 0)
      (AreRows : World → List (RecordOf q.table) → Type 0)
      {old new : State} (before after : K) (hall : IsHall old) (rested : KeptTables old new)
      (sound : IsTrue old.is_open → IsDatabase old.now) (lists : Lists q old.now AreRows) where
    abbrev read : Row → Option (RecordOf q.table)
    read = record_in q.table

    -- the answer goes on after the row at which the sink stopped
    goes_on : IsHallSchema old.now.schema → HasCleanDisk old → IsTrue old.is_open
        → (it : StopsAtRow read Takes Refuses q.text q.params old before after)
        → (x : RecordOf q.table) → read it.row ≡ Some x
        → (left : List (RecordOf q.table)) × AreRows (world_of old.now.trees) (it.taken ++ x ∷ left)
    goes_on has clean opens it x is_x =
        let (u, words) = worded old.now.schema has in
        let rows = it.rows ++ it.row ∷ [] in
        let begins = begun (computes u) old rows words it.begun in
        let tail = begins.0 in
        let last : records read (it.row ∷ []) ≡ x ∷ [] = rw is_x refl in
        let first : records read rows ≡ it.taken ++ x ∷ [] =
        flat_map-append (λ r. option_to_list (read r)) it.rows (it.row ∷ [])
        ∙ ap (λ l. l ++ records read (it.row ∷ [])) (all_read read it.rows it.taken it.reads)
        ∙ ap (λ l. it.taken ++ l) last in
        let all : records read (rows ++ tail) ≡ it.taken ++ x ∷ records read tail =
        flat_map-append (λ r. option_to_list (read r)) rows tail ∙ ap (λ l. l ++ records read tail) first
        ∙ append_assoc it.taken (x ∷ []) (records read tail) in (
          records read tail,
          subst (AreRows (world_of old.now.trees)) all (lists has (hall.keyed clean opens) (sound opens) (rows ++ tail)
              begins.1),
        )

    of_feed : HasCleanDisk new → FeedFails read Takes Refuses q.text q.params old new before after
        → CanFailIn (content_of old) (content_of new)
        ⊎ IsRefusedNext Takes Refuses AreRows (content_of old) (content_of new) before after
    of_feed clean (inl cause) = inl (by_store KeepsUnread old new (rested_stayed rested) cause)
    of_feed clean (inr it) = at_open new.is_open refl
      where
        was : HasCleanDisk old
        was = omega (arith, rested.follows.lasts.clean, clean)

        turned : (opens : IsTrue new.is_open) → IsTurnedAway read Refuses after it.row
            → CanFailIn (content_of old) (content_of new)
            ⊎ IsRefusedNext Takes Refuses AreRows (content_of old) (content_of new) before after
        turned opens (inl none) =
            let has = of_hall old hall was (rested.follows.opened clean opens) in
            inl (by_tables KeepsUnread old new (rested_stayed rested)
            (begins_unread computes old (it.rows ++ it.row ∷ []) has it.begun
            (it.row, last_there it.rows it.row, none)))
        turned opens (inr refused) =
            let opened = rested.follows.opened clean opens in
            let has = of_hall old hall was opened in
            inr (
              it.taken,
              refused.0,
              it.took,
              refused.2,
              λ late.
                  (opens, goes_on has was opened it refused.0 refused.1),
            )

        at_open : (b : Bool) → new.is_open ≡ b → CanFailIn (content_of old) (content_of new)
            ⊎ IsRefusedNext Takes Refuses AreRows (content_of old) (content_of new) before after
        at_open true is = turned is it.stops
        at_open false is = inl (inr (λ late. inl is))

    pub fed_fault : (result : Result (Unit {0}) StoreFault)
        → (HasCleanDisk new → Fails (FeedFails read Takes Refuses q.text q.params old new before after) result)
        → IfErr result (λ fault. fault ≡ Failed → CanFailIn (content_of old) (content_of new)
        ⊎ IsRefusedNext Takes Refuses AreRows (content_of old) (content_of new) before after)
    fed_fault (Ok done) cause = tt
    fed_fault (Err e) cause = λ failed. elim (doubtful new) [
      | inl clean ↦ of_feed clean (cause clean failed)
      | inr dirty ↦ inl (inr (λ clean. absurd (dirty clean)))
    ]

-- ---- writes

-- the cause lies in the store, or a row of the tables was no record, or they refused the change
abbrev IsTold : Change → State → State → Type 0
IsTold change old new = IsStoreCause old new ⊎ (KeepsUnread old.now ⊎ RefusesChange change old.now)

change_fault : {R : Type 0} (change : Change) (old new : State) (result : Result R StoreFault) (Why : Type 0)
    → OnErr result (KeptRows old new) → (HasCleanDisk new → Fails Why result)
    → (HasCleanDisk old → Why → IsTold change old new)
    → Fails (CanRefuseIn change (content_of old) (content_of new)) result
change_fault {R} change old new (Ok x) Why stayed cause told = tt
change_fault {R} change old new (Err e) Why stayed cause told =
    by_reason Bad {R = R} (Err e) Why old new cause (λ clean why. go (told (was clean) why))
  where
    Bad : Database → Type 0
    Bad db = KeepsUnread db ⊎ RefusesChange change db

    was : HasCleanDisk new → HasCleanDisk old
    was clean = omega (arith, stayed.follows.lasts.clean, clean)

    go : IsTold change old new → Reason Bad old new
    go (inl store) = by_store Bad old new stayed store
    go (inr bad) = by_tables Bad old new stayed bad

-- one statement, or several of which one is refused
refused_told : {A B C : Type 0} → A ⊎ C → A ⊎ (B ⊎ C)
refused_told (inl cause) = inl cause
refused_told (inr refused) = inr (inr refused)

put_told : (row : PuzzleRow) (old new : State) → PutPuzzleFails row old new → IsStoreCause old new
    ⊎ RefusesPuzzle row old.now
put_told row old new (inl cause) = inl cause
put_told row old new (inr it) = inr (subst (λ n. PuzzleIsRefused row n old.now) (sym it.1) it.2)

read_told : {A B C : Type 0} → A ⊎ B → A ⊎ (B ⊎ C)
read_told (inl cause) = inl cause
read_told (inr bad) = inr (inl bad)

person_told : (person : Person) (mid left : State) → IsHallSchema mid.now.schema → PersonIsRefused person mid left
    → KeepsUnread mid.now ⊎ (IsUnknown person.name mid.now
    × IsStatementRefused ADD_PERSON.now (person_params person) mid.now)
person_told person mid left has (inl it) = inl (unread (person_is person.name) mid left it.0 has it.1 it.2)
person_told person mid left has (inr it) = inr it

module _ {R : Type 0} (old new : State) (result : Result R StoreFault) (hall : IsHall old) where
  pub import_fault : {S : Type 0} (g : Ghosts S) (people : List Person)
      → OnErr result (KeptRows old new) → (HasCleanDisk new → Fails (ImportFails g people old new) result)
      → Fails (CanRefuseIn (Import people) (content_of old) (content_of new)) result
  import_fault g people stayed cause =
      change_fault (Import people) old new result (ImportFails g people old new) stayed cause (λ was. go)
    where
      go : ImportFails g people old new → IsTold (Import people) old new
      go (inl cause) = inl cause
      go (inr it) = inr (inr (record {
        at = it.at;
        person = it.person;
        next = it.next;
        mid = (state g it.mid).now;
        hall = it.hall;
        before = it.before;
        refused = person_told it.person (state g it.mid) (state g it.left) it.hall.schema it.refused;
      }))

  pub puzzle_fault : (row : PuzzleRow)
      → OnErr result (KeptRows old new) → (HasCleanDisk new → Fails (PutPuzzleFails row old new) result)
      → Fails (CanRefuseIn (PutPuzzle row) (content_of old) (content_of new)) result
  puzzle_fault row stayed cause =
      change_fault (PutPuzzle row) old new result (PutPuzzleFails row old new) stayed cause
      (λ was why. refused_told (put_told row old new why))

  pub state_fault : (key : PuzzleKey) (known : PuzzleState)
      → OnErr result (KeptRows old new) → (HasCleanDisk new → Fails (SetStateFails key known old new) result)
      → Fails (CanRefuseIn (SetState key known) (content_of old) (content_of new)) result
  state_fault key known stayed cause =
      change_fault (SetState key known) old new result (SetStateFails key known old new) stayed cause go
    where
      go : HasCleanDisk old → SetStateFails key known old new → IsTold (SetState key known) old new
      go was (inl find) =
          read_told (of_rows puzzle_row_in PUZZLE.now (Text key.author ∷ Text key.label ∷ [])
          (unread (puzzle_is key)) old new hall was find)
      go was (inr it) = put (put_told (record it.0 { state = known }) old new it.2)
        where
          put : IsStoreCause old new ⊎ RefusesPuzzle (record it.0 { state = known }) old.now
              → IsTold (SetState key known) old new
          put (inl cause) = inl cause
          put (inr refused) = inr (inr (it.0, it.1, refused))

  pub put_round_fault : (row : RoundRow)
      → OnErr result (KeptRows old new) → (HasCleanDisk new → Fails (PutRoundFails row old new) result)
      → Fails (CanRefuseIn (PutRound row) (content_of old) (content_of new)) result
  put_round_fault row stayed cause =
      change_fault (PutRound row) old new result (PutRoundFails row old new) stayed cause (λ was. refused_told)

  pub flag_fault : (id : List ℕ) (flag : RoundFlag)
      → OnErr result (KeptRows old new) → (HasCleanDisk new → Fails (SetFlagFails id flag old new) result)
      → Fails (CanRefuseIn (SetRoundFlag id flag) (content_of old) (content_of new)) result
  flag_fault id flag stayed cause =
      change_fault (SetRoundFlag id flag) old new result (SetFlagFails id flag old new) stayed cause go
    where
      go : HasCleanDisk old → SetFlagFails id flag old new → IsTold (SetRoundFlag id flag) old new
      go was (inl find) =
          read_told (of_rows round_in HEAD.now (Text id ∷ []) (unread (head_is id)) old new hall was find)
      go was (inr (round, kept, inl cause)) = inl cause
      go was (inr (round, kept, inr refused)) = inr (inr (round, kept, refused))

  pub answer_fault : (row : AnswerRow)
      → OnErr result (KeptRows old new) → (HasCleanDisk new → Fails
      (RunFails ADD_ANSWER.now (answer_params row) old new) result)
      → Fails (CanRefuseIn (AddAnswer row) (content_of old) (content_of new)) result
  answer_fault row stayed cause =
      change_fault (AddAnswer row) old new result (RunFails ADD_ANSWER.now (answer_params row) old new) stayed cause
      (λ was. refused_told)

  pub joint_fault : (rows : List AnswerRow)
      → OnErr result (KeptRows old new) → (HasCleanDisk new → Fails (AddAnswersFails rows old new) result)
      → Fails (CanRefuseIn (AddAnswers rows) (content_of old) (content_of new)) result
  joint_fault rows stayed cause =
      change_fault (AddAnswers rows) old new result (AddAnswersFails rows old new) stayed cause (λ was. refused_told)

  pub protest_fault : (row : ProtestRow)
      → OnErr result (KeptRows old new) → (HasCleanDisk new → Fails
      (RunFails ADD_PROTEST.now (protest_params row) old new) result)
      → Fails (CanRefuseIn (AddProtest row) (content_of old) (content_of new)) result
  protest_fault row stayed cause =
      change_fault (AddProtest row) old new result (RunFails ADD_PROTEST.now (protest_params row) old new) stayed cause
      (λ was. refused_told)

  pub ruling_fault : (key : ProtestKey) (ruling : Ruling)
      → OnErr result (KeptRows old new) → (HasCleanDisk new → Fails (RuleFails key ruling old new) result)
      → Fails (CanRefuseIn (RuleProtest key ruling) (content_of old) (content_of new)) result
  ruling_fault key ruling stayed cause =
      change_fault (RuleProtest key ruling) old new result (RuleFails key ruling old new) stayed cause go
    where
      go : HasCleanDisk old → RuleFails key ruling old new → IsTold (RuleProtest key ruling) old new
      go was (inl find) =
          read_told (of_rows protest_in PROTEST.now (Text key.entrant ∷ Text key.round ∷ Text key.token ∷ [])
          (unread (protest_is key)) old new hall was find)
      go was (inr (row, kept, inl cause)) = inl cause
      go was (inr (row, kept, inr refused)) = inr (inr (row, kept, refused))
