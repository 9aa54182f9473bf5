-- Which rows of the tables a change may write; each other row stays as it is, also one that is no record.
use Rattle.std.specs.Prelude.{◌≡◌, ◌==◌, ◌&&◌, ◌||◌, ℕ, Bool, false, not, List, Option, Some, None}
use Rattle.std.specs.List.{AllByRecursion, filter, list_any}
use Rattle.std.specs.declared.cmp.Ordering.{Ordering}
use Rattle.std.specs.Ordering.{eq_by_cmp}
use Rattle.sqlite.specs.Order.{Row}
use Rattle.sqlite.specs.Table.{Table}
use Rattle.sqlite.specs.Tree.{Trees}
use Rattle.hall_policy.specs.World.{answer_cmp, protest_cmp}
use Rattle.hall_policy.specs.Text.{text_cmp}
use Rattle.hall_policy.specs.declared.record.AnswerRow.{AnswerRow}
use Rattle.hall_policy.specs.declared.record.Person.{Person}
use Rattle.hall_store.specs.declared.change.Change.{Change}
use Rattle.hall_store.specs.declared.change.Change.TheVariants.{Nothing, Import, PutPuzzle, SetState}
use Rattle.hall_store.specs.declared.change.Change.TheVariants.{PutRound, SetRoundFlag, AddAnswer}
use Rattle.hall_store.specs.declared.change.Change.TheVariants.{AddAnswers, AddProtest, RuleProtest}
use Rattle.hall_sql.specs.Tables.{hall_schema}
use Rattle.hall_sql.specs.Columns.{stands_under}
use Rattle.hall_sql.specs.RoundColumns.{is_under}
use Rattle.hall_sql.specs.Rows.{person_of_row, answer_of_row, protest_of_row}

-- there is a record, and this is its key
abbrev pub is_keyed_by : {K X : Type 0} → (R : K → K → Ordering) → (X → K) → K → Option X → Bool
is_keyed_by R key k None = false
is_keyed_by R key k (Some x) = eq_by_cmp R (key x) k

-- the row of the table in this tree is the person of one of the names
abbrev pub is_one_of : List Person → ℕ → Row → Bool
is_one_of people tree row =
    tree == 0 && list_any (λ (person : Person). is_keyed_by text_cmp (λ x. x.name) person.name (person_of_row row))
    people

-- it is one of the answers, by its key
abbrev pub is_answer_of : List AnswerRow → ℕ → Row → Bool
is_answer_of answers tree row =
    tree == 9 && list_any (λ (answer : AnswerRow). is_keyed_by answer_cmp (λ x. x.key) answer.key (answer_of_row row))
    answers

-- it is a row of the table of rounds under this id
abbrev pub is_head_of : List ℕ → ℕ → Row → Bool
is_head_of id tree row = tree == 5 && is_under id row

-- it is a row of the table of their places under the round's id
abbrev pub is_place_of : List ℕ → ℕ → Row → Bool
is_place_of id tree row = tree == 7 && is_under id row

-- it is a row of the table of their testers under the round's id
abbrev pub is_tester_of : List ℕ → ℕ → Row → Bool
is_tester_of id tree row = tree == 14 && is_under id row

-- it is a row under the round's id of one of the three
abbrev pub is_of_round : List ℕ → ℕ → Row → Bool
is_of_round id tree row = is_head_of id tree row || (is_place_of id tree row || is_tester_of id tree row)

-- Whether the change may write this row of the table in this tree. A puzzle or a round takes the place of what stands
-- under its key, as SQL compares, be it a record or none; all else that is written is a record.
abbrev pub may_write : Change → ℕ → Row → Bool
may_write Nothing tree row = false
may_write (Import people) tree row = is_one_of people tree row
may_write (PutPuzzle puzzle) tree row = tree == 3 && stands_under puzzle.key row
may_write (SetState key state) tree row = tree == 3 && stands_under key row
may_write (PutRound round) tree row = is_of_round round.round.id tree row
may_write (SetRoundFlag id flag) tree row = is_head_of id tree row
may_write (AddAnswer answer) tree row = tree == 9 && is_keyed_by answer_cmp (λ x. x.key) answer.key (answer_of_row row)
may_write (AddAnswers answers) tree row = is_answer_of answers tree row
may_write (AddProtest protest) tree row =
    tree == 12 && is_keyed_by protest_cmp (λ x. x.key) protest.key (protest_of_row row)
may_write (RuleProtest key ruling) tree row =
    tree == 12 && is_keyed_by protest_cmp (λ x. x.key) key (protest_of_row row)

-- but for the rows that the test takes, the two tables have the same rows in the same order
abbrev pub AreOtherRowsKept : (Row → Bool) → List Row → List Row → Type 0
AreOtherRowsKept takes old new = filter (λ row. not (takes row)) new ≡ filter (λ row. not (takes row)) old

-- in each table, the rows that the test doesn't take are as they were
abbrev pub KeptOtherRows : (ℕ → Row → Bool) → Trees → Trees → Type 0
KeptOtherRows takes old new =
    AllByRecursion (λ (t : Table). AreOtherRowsKept (takes t.tree) (old t.tree) (new t.tree)) hall_schema.tables
