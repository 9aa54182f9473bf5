-- A record that is read has its parts in the columns of its row.
use Rattle.std.proofs.Common.{◌≡◌, ℕ, List, Bool, Option, Some, None, ap}
use Rattle.sqlite.specs.Order.{Row}
use Rattle.sqlite_value.specs.Order.{column}
use Rattle.hall_grid.specs.Board.{Board}
use Rattle.hall_grid.specs.FormReading.{◌>>=◌}
use Rattle.hall_policy.specs.Limits.{last_second, most_answers, most_minutes, most_number, most_points}
use Rattle.hall_policy.specs.Limits.{most_protest_minutes}
use Rattle.hall_policy.specs.Text.{as_title, as_answer, as_protest_text}
use Rattle.hall_policy.specs.declared.record.AnswerRow.{AnswerRow}
use Rattle.hall_policy.specs.declared.record.Entry.{Entry}
use Rattle.hall_policy.specs.declared.record.Mode as mode
use Rattle.hall_policy.specs.declared.record.Person.{Person}
use Rattle.hall_policy.specs.declared.record.PlaceKey.{PlaceKey}
use Rattle.hall_policy.specs.declared.record.ProtestRow.{ProtestRow}
use Rattle.hall_policy.specs.declared.record.PuzzleRow.{PuzzleRow}
use Rattle.hall_policy.specs.declared.record.PuzzleState.{PuzzleState}
use Rattle.hall_policy.specs.declared.record.Roles.{Roles}
use Rattle.hall_policy.specs.declared.record.Round.{Round}
use Rattle.hall_policy.specs.declared.record.Ruling.{Ruling}
use Rattle.hall_policy.specs.declared.record.TesterKey.{TesterKey}
use Rattle.hall_sql.specs.Values.{kind_in, within, name_in, token_in, key_in, roles_in, puzzle_in, state_in, mode_in}
use Rattle.hall_sql.specs.Values.{flag_in, ruling_in, verdict_in}
use Rattle.hall_sql.specs.Rows.{person_in, puzzle_row_in, round_in, place_in, tester_in, answer_in, protest_in}

pub record PersonParts (it : Person) (a : Option (List ℕ)) (b : Option (List ℕ)) (c : Option Roles) : Type 0 where
  pub name : a ≡ Some it.name
  pub key : b ≡ Some it.key
  pub roles : c ≡ Some it.roles

abbrev person_of_parts : List ℕ → List ℕ → Roles → Person
person_of_parts name key roles = record { name = name; key = key; roles = roles }

pub person_parts_of : (a : Option (List ℕ)) (b : Option (List ℕ)) (c : Option Roles) (it : Person)
    → (a >>= (λ name. b >>= (λ key. c >>= (λ roles. Some (person_of_parts name key roles))))) ≡ Some it
    → PersonParts it a b c
person_parts_of None b c it is = absurd cc
person_parts_of (Some a) None c it is = absurd cc
person_parts_of (Some a) (Some b) None it is = absurd cc
person_parts_of (Some a) (Some b) (Some c) it is =
    let same : person_of_parts a b c ≡ it = cc in
    record {
      name = ap (λ (x : Person). Some x.name) same;
      key = ap (λ (x : Person). Some x.key) same;
      roles = ap (λ (x : Person). Some x.roles) same;
    }

-- a row that is read as this one has its parts in the columns
pub person_parts : (row : Row) (it : Person) → person_in row ≡ Some it
    → PersonParts it (name_in (column row 0)) (key_in (column row 1)) (roles_in (column row 2))
person_parts row it is = person_parts_of (name_in (column row 0)) (key_in (column row 1)) (roles_in (column row 2)) it
    is

pub record PuzzleParts (it : PuzzleRow) (a : Option (List ℕ)) (b : Option (List ℕ)) (c : Option Board)
    (d : Option PuzzleState) : Type 0 where
  pub author : a ≡ Some it.key.author
  pub label : b ≡ Some it.key.label
  pub puzzle : c ≡ Some it.puzzle
  pub state : d ≡ Some it.state

abbrev puzzle_of_parts : List ℕ → List ℕ → Board → PuzzleState → PuzzleRow
puzzle_of_parts author label puzzle state = record {
  key = record { author = author; label = label };
  puzzle = puzzle;
  state = state;
}

pub puzzle_parts_of : (a : Option (List ℕ)) (b : Option (List ℕ)) (c : Option Board) (d : Option PuzzleState)
    (it : PuzzleRow)
    → (a >>= (λ author. b >>= (λ label. c >>= (λ puzzle. d >>=
    (λ state. Some (puzzle_of_parts author label puzzle state)))))) ≡ Some it
    → PuzzleParts it a b c d
puzzle_parts_of None b c d it is = absurd cc
puzzle_parts_of (Some a) None c d it is = absurd cc
puzzle_parts_of (Some a) (Some b) None d it is = absurd cc
puzzle_parts_of (Some a) (Some b) (Some c) None it is = absurd cc
puzzle_parts_of (Some a) (Some b) (Some c) (Some d) it is =
    let same : puzzle_of_parts a b c d ≡ it = cc in
    record {
      author = ap (λ (x : PuzzleRow). Some x.key.author) same;
      label = ap (λ (x : PuzzleRow). Some x.key.label) same;
      puzzle = ap (λ (x : PuzzleRow). Some x.puzzle) same;
      state = ap (λ (x : PuzzleRow). Some x.state) same;
    }

-- a row that is read as this one has its parts in the columns
pub puzzle_parts : (row : Row) (it : PuzzleRow) → puzzle_row_in row ≡ Some it
    → PuzzleParts it (name_in (column row 0)) (name_in (column row 1)) (puzzle_in (column row 2))
    (state_in (column row 3) (column row 4))
puzzle_parts row it is = puzzle_parts_of (name_in (column row 0)) (name_in (column row 1)) (puzzle_in (column row 2))
    (state_in (column row 3) (column row 4)) it is

pub record RoundParts (it : Round) (a : Option (List ℕ)) (b : Option (List ℕ)) (c : Option ℕ) (d : Option ℕ)
    (e : Option ℕ) (f : Option mode.Mode) (g : Option ℕ) (h : Option ℕ) (i : Option Bool) (j : Option Bool) : Type 0
  where
    pub id : a ≡ Some it.id
    pub title : b ≡ Some it.title
    pub start : c ≡ Some it.start
    pub minutes : d ≡ Some it.minutes
    pub protest_minutes : e ≡ Some it.protest_minutes
    pub mode : f ≡ Some it.mode
    pub penalty : g ≡ Some it.penalty
    pub bonus : h ≡ Some it.bonus
    pub released : i ≡ Some it.released
    pub published : j ≡ Some it.published

abbrev round_of_parts : List ℕ → List ℕ → ℕ → ℕ → ℕ → mode.Mode → ℕ → ℕ → Bool → Bool → Round
round_of_parts id title start minutes protest_minutes how penalty bonus released published =
    record {
      id = id;
      title = title;
      start = start;
      minutes = minutes;
      protest_minutes = protest_minutes;
      mode = how;
      penalty = penalty;
      bonus = bonus;
      released = released;
      published = published;
    }

pub round_parts_of : (a : Option (List ℕ)) (b : Option (List ℕ)) (c : Option ℕ) (d : Option ℕ) (e : Option ℕ)
    (f : Option mode.Mode) (g : Option ℕ) (h : Option ℕ) (i : Option Bool) (j : Option Bool) (it : Round)
    → (a >>= (λ id. b >>= (λ title. c >>= (λ start. d >>= (λ minutes. e >>=
    (λ protest_minutes. f >>= (λ how. g >>= (λ penalty. h >>=
    (λ bonus. i >>= (λ released. j >>= (λ published. Some
    (round_of_parts id title start minutes protest_minutes how penalty bonus released published)))))))))))) ≡ Some
    it
    → RoundParts it a b c d e f g h i j
round_parts_of None b c d e f g h i j it is = absurd cc
round_parts_of (Some a) None c d e f g h i j it is = absurd cc
round_parts_of (Some a) (Some b) None d e f g h i j it is = absurd cc
round_parts_of (Some a) (Some b) (Some c) None e f g h i j it is = absurd cc
round_parts_of (Some a) (Some b) (Some c) (Some d) None f g h i j it is = absurd cc
round_parts_of (Some a) (Some b) (Some c) (Some d) (Some e) None g h i j it is = absurd cc
round_parts_of (Some a) (Some b) (Some c) (Some d) (Some e) (Some f) None h i j it is = absurd cc
round_parts_of (Some a) (Some b) (Some c) (Some d) (Some e) (Some f) (Some g) None i j it is = absurd cc
round_parts_of (Some a) (Some b) (Some c) (Some d) (Some e) (Some f) (Some g) (Some h) None j it is = absurd cc
round_parts_of (Some a) (Some b) (Some c) (Some d) (Some e) (Some f) (Some g) (Some h) (Some i) None it is = absurd cc
round_parts_of (Some a) (Some b) (Some c) (Some d) (Some e) (Some f) (Some g) (Some h) (Some i) (Some j) it is =
    let same : round_of_parts a b c d e f g h i j ≡ it = cc in
    record {
      id = ap (λ (x : Round). Some x.id) same;
      title = ap (λ (x : Round). Some x.title) same;
      start = ap (λ (x : Round). Some x.start) same;
      minutes = ap (λ (x : Round). Some x.minutes) same;
      protest_minutes = ap (λ (x : Round). Some x.protest_minutes) same;
      mode = ap (λ (x : Round). Some x.mode) same;
      penalty = ap (λ (x : Round). Some x.penalty) same;
      bonus = ap (λ (x : Round). Some x.bonus) same;
      released = ap (λ (x : Round). Some x.released) same;
      published = ap (λ (x : Round). Some x.published) same;
    }

-- a row that is read as this one has its parts in the columns
pub round_parts : (row : Row) (it : Round) → round_in row ≡ Some it
    → RoundParts it (name_in (column row 0)) (as_title kind_in (column row 1)) (within 0 last_second (column row 2))
    (within 1 most_minutes (column row 3)) (within 0 most_protest_minutes (column row 4)) (mode_in (column row 5))
    (within 0 most_points (column row 6)) (within 0 most_points (column row 7)) (flag_in (column row 8))
    (flag_in (column row 9))
round_parts row it is = round_parts_of (name_in (column row 0)) (as_title kind_in (column row 1))
    (within 0 last_second (column row 2)) (within 1 most_minutes (column row 3))
    (within 0 most_protest_minutes (column row 4)) (mode_in (column row 5)) (within 0 most_points (column row 6))
    (within 0 most_points (column row 7)) (flag_in (column row 8)) (flag_in (column row 9)) it is

pub record PlaceParts (it : PlaceKey × Entry) (a : Option (List ℕ)) (b : Option ℕ) (c : Option (List ℕ))
    (d : Option (List ℕ)) (e : Option ℕ) : Type 0 where
  pub round : a ≡ Some it.0.round
  pub number : b ≡ Some it.0.number
  pub author : c ≡ Some it.1.puzzle.author
  pub label : d ≡ Some it.1.puzzle.label
  pub points : e ≡ Some it.1.points

abbrev place_of_parts : List ℕ → ℕ → List ℕ → List ℕ → ℕ → PlaceKey × Entry
place_of_parts round number author label points = (
  record { round = round; number = number },
  record { puzzle = record { author = author; label = label }; points = points },
)

pub place_parts_of : (a : Option (List ℕ)) (b : Option ℕ) (c : Option (List ℕ)) (d : Option (List ℕ)) (e : Option ℕ)
    (it : PlaceKey × Entry)
    → (a >>= (λ round. b >>= (λ number. c >>= (λ author. d >>=
    (λ label. e >>= (λ points. Some (place_of_parts round number author label points))))))) ≡ Some it
    → PlaceParts it a b c d e
place_parts_of None b c d e it is = absurd cc
place_parts_of (Some a) None c d e it is = absurd cc
place_parts_of (Some a) (Some b) None d e it is = absurd cc
place_parts_of (Some a) (Some b) (Some c) None e it is = absurd cc
place_parts_of (Some a) (Some b) (Some c) (Some d) None it is = absurd cc
place_parts_of (Some a) (Some b) (Some c) (Some d) (Some e) it is =
    let same : place_of_parts a b c d e ≡ it = cc in
    record {
      round = ap (λ (x : PlaceKey × Entry). Some x.0.round) same;
      number = ap (λ (x : PlaceKey × Entry). Some x.0.number) same;
      author = ap (λ (x : PlaceKey × Entry). Some x.1.puzzle.author) same;
      label = ap (λ (x : PlaceKey × Entry). Some x.1.puzzle.label) same;
      points = ap (λ (x : PlaceKey × Entry). Some x.1.points) same;
    }

-- a row that is read as this one has its parts in the columns
pub place_parts : (row : Row) (it : PlaceKey × Entry) → place_in row ≡ Some it
    → PlaceParts it (name_in (column row 0)) (within 1 most_number (column row 1)) (name_in (column row 2))
    (name_in (column row 3)) (within 1 most_points (column row 4))
place_parts row it is = place_parts_of (name_in (column row 0)) (within 1 most_number (column row 1))
    (name_in (column row 2)) (name_in (column row 3)) (within 1 most_points (column row 4)) it is

pub record TesterParts (it : TesterKey × Unit {0}) (a : Option (List ℕ)) (b : Option (List ℕ)) : Type 0 where
  pub round : a ≡ Some it.0.round
  pub name : b ≡ Some it.0.name

abbrev tester_of_parts : List ℕ → List ℕ → TesterKey × Unit {0}
tester_of_parts round name = (record { round = round; name = name }, tt)

pub tester_parts_of : (a : Option (List ℕ)) (b : Option (List ℕ)) (it : TesterKey × Unit {0})
    → (a >>= (λ round. b >>= (λ name. Some (tester_of_parts round name)))) ≡ Some it
    → TesterParts it a b
tester_parts_of None b it is = absurd cc
tester_parts_of (Some a) None it is = absurd cc
tester_parts_of (Some a) (Some b) it is =
    let same : tester_of_parts a b ≡ it = cc in
    record {
      round = ap (λ (x : TesterKey × Unit {0}). Some x.0.round) same;
      name = ap (λ (x : TesterKey × Unit {0}). Some x.0.name) same;
    }

-- a row that is read as this one has its parts in the columns
pub tester_parts : (row : Row) (it : TesterKey × Unit {0}) → tester_in row ≡ Some it
    → TesterParts it (name_in (column row 0)) (name_in (column row 1))
tester_parts row it is = tester_parts_of (name_in (column row 0)) (name_in (column row 1)) it is

pub record AnswerParts (it : AnswerRow) (a : Option (List ℕ)) (b : Option (List ℕ)) (c : Option ℕ) (d : Option (List ℕ))
    (e : Option ℕ) (f : Option ℕ) (g : Option (List ℕ)) (h : Option ℕ) : Type 0 where
  pub entrant : a ≡ Some it.key.entrant
  pub round : b ≡ Some it.key.round
  pub number : c ≡ Some it.key.number
  pub token : d ≡ Some it.key.token
  pub n : e ≡ Some it.n
  pub moment : f ≡ Some it.moment
  pub answer : g ≡ Some it.answer
  pub verdict : h ≡ Some it.verdict

abbrev answer_of_parts : List ℕ → List ℕ → ℕ → List ℕ → ℕ → ℕ → List ℕ → ℕ → AnswerRow
answer_of_parts entrant round number token n moment answer verdict =
    record {
      key = record { entrant = entrant; round = round; number = number; token = token };
      n = n;
      moment = moment;
      answer = answer;
      verdict = verdict;
    }

pub answer_parts_of : (a : Option (List ℕ)) (b : Option (List ℕ)) (c : Option ℕ) (d : Option (List ℕ)) (e : Option ℕ)
    (f : Option ℕ) (g : Option (List ℕ)) (h : Option ℕ) (it : AnswerRow)
    → (a >>= (λ entrant. b >>= (λ round. c >>= (λ number. d >>=
    (λ token. e >>= (λ n. f >>= (λ moment. g >>= (λ answer. h >>=
    (λ verdict. Some (answer_of_parts entrant round number token n moment answer verdict)))))))))) ≡ Some it
    → AnswerParts it a b c d e f g h
answer_parts_of None b c d e f g h it is = absurd cc
answer_parts_of (Some a) None c d e f g h it is = absurd cc
answer_parts_of (Some a) (Some b) None d e f g h it is = absurd cc
answer_parts_of (Some a) (Some b) (Some c) None e f g h it is = absurd cc
answer_parts_of (Some a) (Some b) (Some c) (Some d) None f g h it is = absurd cc
answer_parts_of (Some a) (Some b) (Some c) (Some d) (Some e) None g h it is = absurd cc
answer_parts_of (Some a) (Some b) (Some c) (Some d) (Some e) (Some f) None h it is = absurd cc
answer_parts_of (Some a) (Some b) (Some c) (Some d) (Some e) (Some f) (Some g) None it is = absurd cc
answer_parts_of (Some a) (Some b) (Some c) (Some d) (Some e) (Some f) (Some g) (Some h) it is =
    let same : answer_of_parts a b c d e f g h ≡ it = cc in
    record {
      entrant = ap (λ (x : AnswerRow). Some x.key.entrant) same;
      round = ap (λ (x : AnswerRow). Some x.key.round) same;
      number = ap (λ (x : AnswerRow). Some x.key.number) same;
      token = ap (λ (x : AnswerRow). Some x.key.token) same;
      n = ap (λ (x : AnswerRow). Some x.n) same;
      moment = ap (λ (x : AnswerRow). Some x.moment) same;
      answer = ap (λ (x : AnswerRow). Some x.answer) same;
      verdict = ap (λ (x : AnswerRow). Some x.verdict) same;
    }

-- a row that is read as this one has its parts in the columns
pub answer_parts : (row : Row) (it : AnswerRow) → answer_in row ≡ Some it
    → AnswerParts it (name_in (column row 0)) (name_in (column row 1)) (within 1 most_number (column row 2))
    (token_in (column row 3)) (within 1 most_answers (column row 4)) (within 0 last_second (column row 5))
    (as_answer kind_in (column row 6)) (verdict_in (column row 7))
answer_parts row it is = answer_parts_of (name_in (column row 0)) (name_in (column row 1))
    (within 1 most_number (column row 2)) (token_in (column row 3)) (within 1 most_answers (column row 4))
    (within 0 last_second (column row 5)) (as_answer kind_in (column row 6)) (verdict_in (column row 7)) it is

pub record ProtestParts (it : ProtestRow) (a : Option (List ℕ)) (b : Option (List ℕ)) (c : Option (List ℕ))
    (d : Option ℕ) (e : Option (List ℕ)) (f : Option (Option Ruling)) : Type 0 where
  pub entrant : a ≡ Some it.key.entrant
  pub round : b ≡ Some it.key.round
  pub token : c ≡ Some it.key.token
  pub number : d ≡ Some it.number
  pub text : e ≡ Some it.text
  pub ruling : f ≡ Some it.ruling

abbrev protest_of_parts : List ℕ → List ℕ → List ℕ → ℕ → List ℕ → Option Ruling → ProtestRow
protest_of_parts entrant round token number text ruling = record {
  key =
      record { entrant = entrant; round = round; token = token };
  number = number;
  text = text;
  ruling = ruling;
}

pub protest_parts_of : (a : Option (List ℕ)) (b : Option (List ℕ)) (c : Option (List ℕ)) (d : Option ℕ)
    (e : Option (List ℕ)) (f : Option (Option Ruling)) (it : ProtestRow)
    → (a >>= (λ entrant. b >>= (λ round. c >>= (λ token. d >>=
    (λ number. e >>= (λ text. f >>= (λ ruling. Some (protest_of_parts entrant round token number text ruling))))))))
    ≡ Some it
    → ProtestParts it a b c d e f
protest_parts_of None b c d e f it is = absurd cc
protest_parts_of (Some a) None c d e f it is = absurd cc
protest_parts_of (Some a) (Some b) None d e f it is = absurd cc
protest_parts_of (Some a) (Some b) (Some c) None e f it is = absurd cc
protest_parts_of (Some a) (Some b) (Some c) (Some d) None f it is = absurd cc
protest_parts_of (Some a) (Some b) (Some c) (Some d) (Some e) None it is = absurd cc
protest_parts_of (Some a) (Some b) (Some c) (Some d) (Some e) (Some f) it is =
    let same : protest_of_parts a b c d e f ≡ it = cc in
    record {
      entrant = ap (λ (x : ProtestRow). Some x.key.entrant) same;
      round = ap (λ (x : ProtestRow). Some x.key.round) same;
      token = ap (λ (x : ProtestRow). Some x.key.token) same;
      number = ap (λ (x : ProtestRow). Some x.number) same;
      text = ap (λ (x : ProtestRow). Some x.text) same;
      ruling = ap (λ (x : ProtestRow). Some x.ruling) same;
    }

-- a row that is read as this one has its parts in the columns
pub protest_parts : (row : Row) (it : ProtestRow) → protest_in row ≡ Some it
    → ProtestParts it (name_in (column row 0)) (name_in (column row 1)) (token_in (column row 2))
    (within 1 most_number (column row 3)) (as_protest_text kind_in (column row 4))
    (ruling_in (column row 5) (column row 6))
protest_parts row it is = protest_parts_of (name_in (column row 0)) (name_in (column row 1)) (token_in (column row 2))
    (within 1 most_number (column row 3)) (as_protest_text kind_in (column row 4))
    (ruling_in (column row 5) (column row 6)) it is
