-- How many there may be of each thing, and how great the numbers may be.
use Rattle.std.specs.Prelude.{ℕ}

-- the answers of an entrant to a puzzle of a round
abbrev pub most_answers : ℕ
most_answers = 50

-- the protests of an entrant in a round
abbrev pub most_protests : ℕ
most_protests = 5

-- the puzzles of an author
abbrev pub most_puzzles : ℕ
most_puzzles = 500

-- the puzzles in a round's list
abbrev pub most_entries : ℕ
most_entries = 40

-- the testers of a round
abbrev pub most_testers : ℕ
most_testers = 20

-- the people in a list
abbrev pub most_people : ℕ
most_people = 5000

-- the greatest number by which a request may name a puzzle of a round
abbrev pub most_number : ℕ
most_number = 99

-- the last whole Unix second that a moment may be, 2100-01-01T00:00:00Z
abbrev pub last_second : ℕ
last_second = 4102444800

-- how long a round may run
abbrev pub most_minutes : ℕ
most_minutes = 1440

-- how long protests may be taken after a round's end
abbrev pub most_protest_minutes : ℕ
most_protest_minutes = 10080

-- the points for a puzzle, of a wrong answer and for a minute that is left
abbrev pub most_points : ℕ
most_points = 1000

-- the visits of a search
abbrev pub most_visits : ℕ
most_visits = 1000000
