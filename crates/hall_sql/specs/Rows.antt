-- What the rows of the tables stand for, and the world that the tables hold. A row that is no record stands for none.
use Rattle.std.specs.Prelude.{◌≡◌, ℕ, zero, suc, List, [], ◌∷◌, option_to_list, Option, Some, None}
use Rattle.std.specs.List.{flat_map}
use Rattle.std.specs.declared.cmp.Ordering.{Ordering}
use Rattle.std.specs.FinMap.{FinMap, from_entries}
use Rattle.sqlite.specs.Order.{Row}
use Rattle.sqlite.specs.Tree.{Trees}
use Rattle.sqlite_value.specs.Order.{column}
use Rattle.hall_grid.specs.FormReading.{◌>>=◌}
use Rattle.hall_policy.specs.Limits.{last_second, most_answers, most_minutes, most_number, most_points}
use Rattle.hall_policy.specs.Limits.{most_protest_minutes}
use Rattle.hall_policy.specs.Text.{text_cmp, as_title, as_answer, as_protest_text}
use Rattle.hall_policy.specs.World.{World, puzzle_cmp, answer_cmp, protest_cmp}
use Rattle.hall_policy.specs.declared.record.Person.{Person}
use Rattle.hall_policy.specs.declared.record.PuzzleRow.{PuzzleRow}
use Rattle.hall_policy.specs.declared.record.Round.{Round}
use Rattle.hall_policy.specs.declared.record.Entry.{Entry}
use Rattle.hall_policy.specs.declared.record.PlaceKey.{PlaceKey}
use Rattle.hall_policy.specs.declared.record.TesterKey.{TesterKey}
use Rattle.hall_policy.specs.declared.record.AnswerKey.{AnswerKey}
use Rattle.hall_policy.specs.declared.record.AnswerRow.{AnswerRow}
use Rattle.hall_policy.specs.declared.record.ProtestRow.{ProtestRow}
use Rattle.hall_sql.specs.Values.{kind_in, within, name_in, token_in, key_in, roles_in, puzzle_in, state_in, mode_in}
use Rattle.hall_sql.specs.Values.{flag_in, ruling_in, verdict_in}

-- so many columns from the given place on
abbrev pub columns_from : ℕ → ℕ → Row → Row
columns_from place zero row = []
columns_from place (suc count) row = column row place ∷ columns_from (suc place) count row

-- the person whose columns these are: name, key, roles
abbrev pub person_in : Row → Option Person
person_in columns = do
  name ← name_in (column columns 0)
  key ← key_in (column columns 1)
  roles ← roles_in (column columns 2)
  Some (record { name = name; key = key; roles = roles })

-- the person that a row of the table is, with its rowid first
abbrev pub person_of_row : Row → Option Person
person_of_row row = person_in (columns_from 1 3 row)

-- the puzzle whose columns these are: author, label, body, state, solution
abbrev pub puzzle_row_in : Row → Option PuzzleRow
puzzle_row_in columns = do
  author ← name_in (column columns 0)
  label ← name_in (column columns 1)
  puzzle ← puzzle_in (column columns 2)
  state ← state_in (column columns 3) (column columns 4)
  Some (record { key = record { author = author; label = label }; puzzle = puzzle; state = state })

-- the puzzle that a row of the table is
abbrev pub puzzle_of_row : Row → Option PuzzleRow
puzzle_of_row row = puzzle_row_in (columns_from 1 5 row)

-- the round whose columns these are: id, title, start, minutes, minutes of protest, mode, penalty, bonus, released,
-- published
abbrev pub round_in : Row → Option Round
round_in columns = do
  id ← name_in (column columns 0)
  title ← as_title kind_in (column columns 1)
  start ← within 0 last_second (column columns 2)
  minutes ← within 1 most_minutes (column columns 3)
  protest_minutes ← within 0 most_protest_minutes (column columns 4)
  mode ← mode_in (column columns 5)
  penalty ← within 0 most_points (column columns 6)
  bonus ← within 0 most_points (column columns 7)
  released ← flag_in (column columns 8)
  published ← flag_in (column columns 9)
  Some (record {
    id = id;
    title = title;
    start = start;
    minutes = minutes;
    protest_minutes = protest_minutes;
    mode = mode;
    penalty = penalty;
    bonus = bonus;
    released = released;
    published = published;
  })

-- the round that a row of the table is
abbrev pub round_of_row : Row → Option Round
round_of_row row = round_in (columns_from 1 10 row)

-- the place of a puzzle in a round, and the puzzle there, whose columns these are: round, number, author, label, points
abbrev pub place_in : Row → Option (PlaceKey × Entry)
place_in columns = do
  round ← name_in (column columns 0)
  number ← within 1 most_number (column columns 1)
  author ← name_in (column columns 2)
  label ← name_in (column columns 3)
  points ← within 1 most_points (column columns 4)
  Some (
    record { round = round; number = number },
    record { puzzle = record { author = author; label = label }; points = points },
  )

-- the place and the puzzle that a row of the table is
abbrev pub place_of_row : Row → Option (PlaceKey × Entry)
place_of_row row = place_in (columns_from 1 5 row)

-- the answer whose columns these are: entrant, round, number, token, n, moment, answer, verdict
abbrev pub answer_in : Row → Option AnswerRow
answer_in columns = do
  entrant ← name_in (column columns 0)
  round ← name_in (column columns 1)
  number ← within 1 most_number (column columns 2)
  token ← token_in (column columns 3)
  n ← within 1 most_answers (column columns 4)
  moment ← within 0 last_second (column columns 5)
  answer ← as_answer kind_in (column columns 6)
  verdict ← verdict_in (column columns 7)
  Some (record {
    key = record { entrant = entrant; round = round; number = number; token = token };
    n = n;
    moment = moment;
    answer = answer;
    verdict = verdict;
  })

-- the first four columns of an answer are its key: entrant, round, number, token
pub record IsAnswerKeyIn (columns : Row) (key : AnswerKey) : Type 0 where
  pub entrant : name_in (column columns 0) ≡ Some key.entrant
  pub round : name_in (column columns 1) ≡ Some key.round
  pub number : within 1 most_number (column columns 2) ≡ Some key.number
  pub token : token_in (column columns 3) ≡ Some key.token

-- the answer that a row of the table is
abbrev pub answer_of_row : Row → Option AnswerRow
answer_of_row row = answer_in (columns_from 1 8 row)

-- the protest whose columns these are: entrant, round, token, number, body, ruling, points
abbrev pub protest_in : Row → Option ProtestRow
protest_in columns = do
  entrant ← name_in (column columns 0)
  round ← name_in (column columns 1)
  token ← token_in (column columns 2)
  number ← within 1 most_number (column columns 3)
  text ← as_protest_text kind_in (column columns 4)
  ruling ← ruling_in (column columns 5) (column columns 6)
  Some (record {
    key = record { entrant = entrant; round = round; token = token };
    number = number;
    text = text;
    ruling = ruling;
  })

-- the protest that a row of the table is
abbrev pub protest_of_row : Row → Option ProtestRow
protest_of_row row = protest_in (columns_from 1 7 row)

-- the tester of a round whose columns these are: round, name. There is nothing to tell beside the key.
abbrev pub tester_in : Row → Option (TesterKey × Unit {0})
tester_in columns = do
  round ← name_in (column columns 0)
  name ← name_in (column columns 1)
  Some (record { round = round; name = name }, tt)

-- the tester that a row of the table is
abbrev pub tester_of_row : Row → Option (TesterKey × Unit {0})
tester_of_row row = tester_in (columns_from 1 2 row)

-- a record under its key
abbrev pub entry : {K X : Type 0} → (X → K) → Option X → List (K × X)
entry key None = []
entry key (Some x) = (key x, x) ∷ []

-- the records that the rows of a table are, each under its key
abbrev pub kept : {K X : Type 0} → (R : K → K → Ordering) → (X → K) → (Row → Option X) → List Row → FinMap R X
kept R key read rows = from_entries (flat_map (λ row. entry key (read row)) rows)

-- the world that the tables hold
abbrev pub world_of : Trees → World
world_of trees = record {
  people = kept text_cmp (λ person. person.name) person_of_row (trees 0);
  puzzles = kept puzzle_cmp (λ row. row.key) puzzle_of_row (trees 3);
  rounds = kept text_cmp (λ round. round.id) round_of_row (trees 5);
  places = from_entries (flat_map (λ row. option_to_list (place_of_row row)) (trees 7));
  answers = kept answer_cmp (λ row. row.key) answer_of_row (trees 9);
  protests = kept protest_cmp (λ row. row.key) protest_of_row (trees 12);
  testers = from_entries (flat_map (λ row. option_to_list (tester_of_row row)) (trees 14));
}
