-- A table, or a listing of answers, stays where no row of its round changes that it is made of.
use Rattle.std.proofs.Common.{◌≡◌, ◌≢◌, ℕ, Bool, true, false, cond, List, [], ◌∷◌, Option, Some, None, Contains, refl}
use Rattle.std.proofs.Common.{sym, ap, ◌∙◌, subst}
use Rattle.std.specs.Prelude.{◌&&◌, not}
use Rattle.std.specs.Cmp.{IsTotalOrder}
use Rattle.std.specs.FinMap.{FinMap, get, insert, entries, values, find, put, get-entries, entries-insert}
use Rattle.std.specs.FinMap.Entries.{by_order}
use Rattle.std.specs.List.{filter, list_all}
use Rattle.std.specs.List.Sorted.{IsPermutation}
use Rattle.std.specs.Map.{values_of}
use Rattle.std.specs.Ordering.{is_eq}
use Rattle.std.specs.declared.cmp.Ordering.{Ordering}
use Rattle.std.specs.declared.cmp.Ordering.TheVariants.{Less, Equal, Greater}
use Rattle.std.proofs.lemmas.Bool.{false≢true}
use Rattle.hall_policy.specs.World.{World, IsRoundAt, same_text}
use Rattle.hall_policy.specs.declared.record.AnswerRow.{AnswerRow}
use Rattle.hall_policy.specs.declared.record.ProtestRow.{ProtestRow}
use Rattle.hall_policy.specs.declared.record.PuzzleKey.{PuzzleKey}
use Rattle.hall_policy.specs.declared.record.PuzzleRow.{PuzzleRow}
use Rattle.hall_policy.specs.declared.record.PuzzleState.{PuzzleState}
use Rattle.hall_policy.specs.declared.record.Round.{Round}
use Rattle.hall_policy.specs.declared.record.RoundRow.{RoundRow}
use Rattle.hall_policy.proofs.Maps.{get-insert_other}
use Rattle.hall_policy.proofs.Orders.{text_total, same_texts, answer_total, protest_total}
use Rattle.hall_policy.proofs.Texts.{text_decides, and_first}
use Rattle.hall_policy.specs.Sink.{HasTaken}
use Rattle.hall_score.specs.Tally.{TakesAnswer, TakesProtest}
use Rattle.hall_score.specs.Total.{total_of}
use Rattle.hall_score.specs.declared.tally.Tally.{Tally}
use Rattle.hall_store.specs.Change.{CanAddAnswers, CanMake, changed, flagged, with_flag, with_ruling, with_state}
use Rattle.hall_store.specs.Store.{IsListing, is_between, is_in, is_of, is_protest_in, is_up_to}
use Rattle.hall_store.specs.declared.change.Change.{Change}
use Rattle.hall_store.specs.declared.change.Change.TheVariants as change
use Rattle.hall_store.specs.declared.change.RoundFlag.{RoundFlag}
use Rattle.hall_store.proofs.Tests.{not_true}
use Rattle.hall_desk.specs.Lines.{BeginsLines, IsLineAdded}
use Rattle.hall_desk.specs.Listings.{AreLinesUpTo, AreListedIn, leaves_listing}
use Rattle.hall_desk.specs.Slices.{AreTaken, AreUpTo}
use Rattle.hall_desk.specs.TableCopy.{leaves_table}
use Rattle.hall_desk.specs.Tabling.{BeginsTally, IsTalliedIn}
use Rattle.hall_desk.specs.Totals.{round_answers_by, round_protests_by, AreTotals, IsTableAt}
use Rattle.hall_desk.specs.declared.lines.Lines.{Lines}
use Rattle.hall_desk.specs.declared.listing.Listed.{Listed}
use Rattle.hall_desk.specs.declared.slices.Slices.{Slices}
use Rattle.hall_desk.proofs.DraftSane.{relisted_other, retested_other}

-- a value at a new key that doesn't pass a test leaves what the test leaves
module _ {K X : Type 0} {R : K → K → Ordering} (o : IsTotalOrder R) (p : X → Bool) (k : K) (v : X)
    (fails : p v ≡ false) where
  filter-put : (es : List (K × X)) → find R k es ≡ None → filter p (values_of (put R k v es)) ≡ filter p (values_of es)
  filter-put [] new = ap (λ b. cond b (v ∷ []) []) fails
  filter-put (e ∷ es) new = elim (R k e.0) as (λ r. cond (is_eq r) (Some e.1) (find R k es) ≡ None
      → filter p (values_of (by_order r ((k, v) ∷ e ∷ es) ((e.0, v) ∷ es) (e ∷ put R k v es)))
      ≡ filter p (values_of (e ∷ es))) [
        | Less ↦ λ _. ap (λ b. cond b (v ∷ filter p (values_of (e ∷ es))) (filter p (values_of (e ∷ es)))) fails
        | Equal ↦ λ there. let no : Some e.1 ≡ None = there in absurd (cc)
        | Greater ↦ λ rest. ap (λ xs. cond (p e.1) (e.1 ∷ xs) xs) (filter-put es rest)
      ] new

  filter-insert_new : (m : FinMap R X) → get m k ≡ None → filter p (values m) ≡ filter p (values (insert m k v))
  filter-insert_new m new =
      sym (ap (λ es. filter p (values_of es)) (entries-insert o m k v)
      ∙ filter-put (entries m) (sym (get-entries m k) ∙ new))

-- the same rows make the same table
pub table_moved : (world other : World) (id text : List ℕ) → ((row : RoundRow) → IsRoundAt world id row → IsRoundAt other id row) →
    ((entrant : List ℕ) → round_answers_by world id entrant ≡ round_answers_by other id entrant)
    → ((entrant : List ℕ) → round_protests_by world id entrant ≡ round_protests_by other id entrant) →
    IsTableAt world id text → IsTableAt other id text
table_moved world other id text moved answers protests (row, at, (totals, are, written)) =
    (row, moved row at, (totals, of_other, written))
  where
    of_other : AreTotals other id row totals
    of_other = record {
      each_once = are.each_once;
      listed = λ entrant. (
        (λ has. (are.listed entrant).0 (
          has.0,
          subst (λ (rows : List AnswerRow). Contains rows has.0)
              (sym (answers entrant)) has.1,
        )),
        (λ listed. let has = (are.listed entrant).1 listed in
            (has.0, subst (λ (rows : List AnswerRow). Contains rows has.0) (answers entrant) has.1)),
      );
      right = λ entrant total among.
          are.right entrant total among
          ∙ ap (λ (rows : List AnswerRow). total_of row rows (round_protests_by world id entrant)) (answers entrant)
          ∙ ap (λ (rows : List ProtestRow). total_of row (round_answers_by other id entrant) rows) (protests entrant);
    }

-- another text
is_other : (a b : List ℕ) → not (same_text a b) ≡ true → a ≢ b
is_other a b passes same = false≢true (ap not (sym ((text_decides a b).1 same)) ∙ passes)

both_pass : (a b : Bool) → (a && b) ≡ true → (a ≡ true) × (b ≡ true)
both_pass true b passes = (refl, passes)
both_pass false b passes = absurd (false≢true passes)

-- a round that is found as it was
pub same_at : (world other : World) → other.rounds ≡ world.rounds → other.places ≡ world.places
    → other.testers ≡ world.testers → (id : List ℕ) (row : RoundRow) → IsRoundAt world id row → IsRoundAt other id row
same_at world other rounds places testers id row at = record {
  head = ap (λ m. get m id) rounds ∙ at.head;
  list = λ number. ap (λ m. get m (record { round = id; number = number })) places ∙ at.list number;
  testers = λ name. (
    λ tests. (at.testers name).0 (ap (λ m. get m (record { round = id; name = name })) (sym testers) ∙ tests),
    λ among. ap (λ m. get m (record { round = id; name = name })) testers ∙ (at.testers name).1 among,
  );
}

-- each answer of the round that is kept under the id is kept in the other world too, and no other one is
abbrev pub AnswersStay : World → World → List ℕ → Type 0
AnswersStay world other id =
    (test : AnswerRow → Bool) → ((row : AnswerRow) → test row ≡ true → row.key.round ≡ id) →
    filter test (values world.answers) ≡ filter test (values other.answers)

-- so is each row of it
pub record RowsStay (world other : World) (id : List ℕ) : Type 0 where
  pub round : (row : RoundRow) → IsRoundAt world id row → IsRoundAt other id row
  pub answers : AnswersStay world other id
  pub protests : (test : ProtestRow → Bool) → ((row : ProtestRow) → test row ≡ true → row.key.round ≡ id) →
      filter test (values world.protests) ≡ filter test (values other.protests)

-- a listing of answers of the round stays with them
listing_still : (world other : World) (id : List ℕ) (test : AnswerRow → Bool) (answers : List AnswerRow)
    → ((row : AnswerRow) → test row ≡ true → row.key.round ≡ id) → AnswersStay world other id
    → IsListing world test answers → IsListing other test answers
listing_still world other id test answers own stay listed = record {
  whole = subst (λ (rows : List AnswerRow). IsPermutation rows answers) (stay test own) listed.whole;
  in_order = listed.in_order;
}

-- so do the answers up to a name
listed_still : (world other : World) (id : List ℕ) (after : Option (List ℕ)) (answers : List AnswerRow)
    → AnswersStay world other id → AreUpTo world id after answers → AreUpTo other id after answers
listed_still world other id None answers stay none = none
listed_still world other id (Some name) answers stay listed = listing_still world other id
    (is_between id None (Some name)) answers (λ row own. (text_decides row.key.round id).0
    (and_first (same_text row.key.round id) (true && is_up_to (Some name) row.key.entrant) own)) stay listed

-- and what has taken them
taken_still : {K : Type 0} (Takes : K → AnswerRow → K → Type 0) (Begins : World → List ℕ → K → Type 0)
    (world other : World) (slices : Slices K) → ((fresh : K) → Begins world slices.round fresh
    → Begins other slices.round fresh) → AnswersStay world other slices.round
    → AreTaken Takes Begins world slices → AreTaken Takes Begins other slices
taken_still Takes Begins world other slices begins stay was = record {
  fresh = was.fresh;
  begun = begins was.fresh was.begun;
  answers = was.answers;
  listed = listed_still world other slices.round slices.after was.answers stay was.listed;
  took = was.took;
}

module _ (id : List ℕ) where
  -- the same rounds, answers and protests
  stay_alike : (world other : World) → other.rounds ≡ world.rounds → other.places ≡ world.places
      → other.testers ≡ world.testers → other.answers ≡ world.answers → other.protests ≡ world.protests
      → RowsStay world other id
  stay_alike world other rounds places testers answers protests = record {
    round = same_at world other rounds places testers id;
    answers = λ test own. ap (λ m. filter test (values m)) (sym answers);
    protests = λ test own. ap (λ m. filter test (values m)) (sym protests);
  }

  -- an answer of another round
  answer_stays : (world : World) (row : AnswerRow) → not (same_text row.key.round id) ≡ true
      → get world.answers row.key ≡ None → RowsStay world (changed (change.AddAnswer row) world) id
  answer_stays world row other new = record {
    round = same_at world (changed (change.AddAnswer row) world) refl refl refl id;
    answers = λ test own. filter-insert_new answer_total test row.key row
        (not_true (test row) (λ passes. is_other row.key.round id other (own row passes))) world.answers new;
    protests = λ test own. refl;
  }

  answers_stay : (world : World) (rows : List AnswerRow)
      → list_all (λ row. not (same_text row.key.round id)) rows ≡ true → CanAddAnswers world rows → RowsStay world (changed (change.AddAnswers rows) world) id
  answers_stay world [] others can = stay_alike world world refl refl refl refl refl
  answers_stay world (row ∷ rows) others can =
      let apart =
      both_pass (not (same_text row.key.round id)) (list_all (λ r. not (same_text r.key.round id)) rows) others in
      let one : RowsStay world (changed (change.AddAnswer row) world) id =
      answer_stays world row apart.0 can.0.fresh in
      let rest : RowsStay (changed (change.AddAnswer row) world)
      (changed (change.AddAnswers rows) (changed (change.AddAnswer row) world)) id =
      answers_stay (changed (change.AddAnswer row) world) rows apart.1 can.1 in
      record {
        round = λ r at. rest.round r (one.round r at);
        answers = λ test own. one.answers test own ∙ rest.answers test own;
        protests = λ test own. one.protests test own ∙ rest.protests test own;
      }

  protest_stays : (world : World) (row : ProtestRow) → not (same_text row.key.round id) ≡ true
      → get world.protests row.key ≡ None → RowsStay world (changed (change.AddProtest row) world) id
  protest_stays world row other new = record {
    round = same_at world (changed (change.AddProtest row) world) refl refl refl id;
    answers = λ test own. refl;
    protests = λ test own. filter-insert_new protest_total test row.key row
        (not_true (test row) (λ passes. is_other row.key.round id other (own row passes))) world.protests new;
  }

  -- another round
  flag_stays : (world : World) (round : List ℕ) (flag : RoundFlag) (found : Option Round)
      → not (same_text round id) ≡ true → RowsStay world (with_flag world round flag found) id
  flag_stays world round flag None other = stay_alike world world refl refl refl refl refl
  flag_stays world round flag (Some old) other = record {
    round = λ row at. record {
      head = get-insert_other text_total same_texts world.rounds round (flagged flag old) id
          (λ same. is_other round id other (sym same)) ∙ at.head;
      list = at.list;
      testers = at.testers;
    };
    answers = λ test own. refl;
    protests = λ test own. refl;
  }

  round_stays : (world : World) (put_row : RoundRow) → not (same_text put_row.round.id id) ≡ true
      → RowsStay world (changed (change.PutRound put_row) world) id
  round_stays world put_row other =
      let apart : id ≢ put_row.round.id = λ same. is_other put_row.round.id id other (sym same) in
      record {
        round = λ row at. record {
          head = get-insert_other text_total same_texts world.rounds put_row.round.id put_row.round id apart ∙ at.head;
          list = λ number. relisted_other world.places put_row.round.id put_row.puzzles
              (record { round = id; number = number }) apart ∙ at.list number;
          testers = λ name.
              let same = retested_other world.testers put_row.round.id put_row.testers
              (record { round = id; name = name }) apart in (
                λ tests. (at.testers name).0 (sym same ∙ tests),
                λ among. same ∙ (at.testers name).1 among,
              );
        };
        answers = λ test own. refl;
        protests = λ test own. refl;
      }

  state_stays : (world : World) (key : PuzzleKey) (state : PuzzleState) (found : Option PuzzleRow)
      → RowsStay world (with_state world key state found) id
  state_stays world key state None = stay_alike world world refl refl refl refl refl
  state_stays world key state (Some row) = stay_alike world (with_state world key state (Some row)) refl refl refl refl
      refl

  -- the round's rows stay over a change that leaves its table
  pub rows_stay : (made : Change) (world : World) → leaves_table made id ≡ true → CanMake made world
      → RowsStay world (changed made world) id
  rows_stay change.Nothing world leaves can = stay_alike world world refl refl refl refl refl
  rows_stay (change.Import people) world leaves can = stay_alike world (changed (change.Import people) world) refl refl
      refl refl refl
  rows_stay (change.PutPuzzle row) world leaves can = stay_alike world (changed (change.PutPuzzle row) world) refl refl
      refl refl refl
  rows_stay (change.SetState key state) world leaves can = state_stays world key state (get world.puzzles key)
  rows_stay (change.PutRound row) world leaves can = round_stays world row leaves
  rows_stay (change.SetRoundFlag round flag) world leaves can = flag_stays world round flag (get world.rounds round)
      leaves
  rows_stay (change.AddAnswer row) world leaves can = answer_stays world row leaves can.fresh
  rows_stay (change.AddAnswers rows) world leaves can = answers_stay world rows leaves can
  rows_stay (change.AddProtest row) world leaves can = protest_stays world row leaves can.fresh
  rows_stay (change.RuleProtest key ruling) world leaves can = absurd (false≢true leaves)

  -- so its table stays
  pub table_left : (text : List ℕ) (made : Change) (world : World) → leaves_table made id ≡ true → CanMake made world
      → IsTableAt world id text → IsTableAt (changed made world) id text
  table_left text made world leaves can =
      let stay : RowsStay world (changed made world) id = rows_stay made world leaves can in
      table_moved world (changed made world) id text stay.round
      (λ entrant. stay.answers (is_of entrant id) (λ row own. (text_decides row.key.round id).0
      (and_first (same_text row.key.round id) (same_text row.key.entrant entrant) own)))
      (λ entrant. stay.protests (λ r. same_text r.key.round id && same_text r.key.entrant entrant)
      (λ row own. (text_decides row.key.round id).0
      (and_first (same_text row.key.round id) (same_text row.key.entrant entrant) own)))

  -- its answers stay over one that adds none to it
  pub answers_left : (made : Change) (world : World) → leaves_listing made id ≡ true → CanMake made world
      → AnswersStay world (changed made world) id
  answers_left (change.SetState key state) world leaves can =
      (state_stays world key state (get world.puzzles key)).answers
  answers_left (change.SetRoundFlag round flag) world leaves can = flag_left (get world.rounds round)
    where
      flag_left : (found : Option Round) → AnswersStay world (with_flag world round flag found) id
      flag_left None test own = refl
      flag_left (Some row) test own = refl
  answers_left (change.AddAnswer row) world leaves can = (answer_stays world row leaves can.fresh).answers
  answers_left (change.AddAnswers rows) world leaves can = (answers_stay world rows leaves can).answers
  answers_left (change.RuleProtest key ruling) world leaves can = ruling_left (get world.protests key)
    where
      ruling_left : (found : Option ProtestRow) → AnswersStay world (with_ruling world key ruling found) id
      ruling_left None test own = refl
      ruling_left (Some row) test own = refl
  answers_left change.Nothing world leaves can = λ test own. refl
  answers_left (change.Import people) world leaves can = λ test own. refl
  answers_left (change.PutPuzzle row) world leaves can = λ test own. refl
  answers_left (change.PutRound row) world leaves can = λ test own. refl
  answers_left (change.AddProtest row) world leaves can = λ test own. refl

-- so the tally of a table stays over a change that leaves the table
pub tally_left : (tabling : Slices Tally) (made : Change) (world : World) → leaves_table made tabling.round ≡ true
    → CanMake made world → IsTalliedIn world tabling → IsTalliedIn (changed made world) tabling
tally_left tabling made world leaves can =
    let stay : RowsStay world (changed made world) tabling.round = rows_stay tabling.round made world leaves can in
    taken_still TakesAnswer BeginsTally world (changed made world) tabling
    (λ tally begun. record {
      row = begun.row;
      at = stay.round begun.row begun.at;
      fresh = begun.fresh;
      begun = begun.begun;
      protests = subst (λ (rows : List ProtestRow). HasTaken TakesProtest begun.fresh rows tally)
          (stay.protests (is_protest_in tabling.round) (λ row own. (text_decides row.key.round tabling.round).0 own))
          begun.protests;
    })
    stay.answers

-- and listings over one that leaves them
pub lines_left : (listing : Slices Lines) (made : Change) (world : World) → leaves_listing made listing.round ≡ true
    → CanMake made world → AreLinesUpTo world listing → AreLinesUpTo (changed made world) listing
lines_left listing made world leaves can = taken_still IsLineAdded (λ w id. BeginsLines true) world (changed made world)
    listing (λ fresh begun. begun) (answers_left listing.round made world leaves can)

pub listed_left : (listed : Listed) (made : Change) (world : World) → leaves_listing made listed.round ≡ true
    → CanMake made world → AreListedIn world listed → AreListedIn (changed made world) listed
listed_left listed made world leaves can (rows, listing, shown) = (
  rows,
  listing_still world (changed made world) listed.round (is_in listed.round) rows
      (λ row own. (text_decides row.key.round listed.round).0 own) (answers_left listed.round made world leaves can)
      listing,
  shown,
)
