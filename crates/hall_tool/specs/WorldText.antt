-- What is told of a world that was checked.
use Rattle.std.specs.Prelude.{◌≡◌, ◌-◌, ◌++◌, ℕ, zero, suc, Bool, true, false, ◌||◌, not, List, [], ◌∷◌, length, take}
use Rattle.std.specs.Prelude.{Option, Some, None, codes, decimal, if◌then◌else◌}
use Rattle.std.specs.List.{flat_map, list_any}
use Rattle.hall_policy.specs.World.{World}
use Rattle.hall_policy.specs.declared.record.PuzzleKey.{PuzzleKey}
use Rattle.hall_check.specs.Checked.{IsChecked}
use Rattle.hall_check.specs.declared.sanity.Checked.{Checked}
use Rattle.hall_check.specs.declared.sentence.Breaches.{Breaches}
use Rattle.hall_check.specs.declared.sentence.Sentence.{Sentence}
use Rattle.hall_check.specs.declared.sentence.Sentence.TheVariants as sentence
use Rattle.hall_check.specs.declared.sentence.Spot.{Spot}
use Rattle.hall_check.specs.declared.sentence.Spot.TheVariants as spot
use Rattle.hall_check.specs.declared.puzzle_states.States.{States}
use Rattle.hall_tool.specs.JudgeText.{on_own_line}

-- what is wrong where the sentence is false, in the words of the field
abbrev pub sentence_text : Sentence → List ℕ
sentence_text sentence.OwnKey = codes "two people have one key"
sentence_text sentence.RolesApart = codes "a person is director and entrant"
sentence_text sentence.AuthorThere = codes "a puzzle's author isn't there"
sentence_text sentence.FewPuzzles = codes "an author has more than 500 puzzles"
sentence_text sentence.SolutionRight = codes "a puzzle's stored solution isn't one"
sentence_text sentence.ListWhole = codes "a round's puzzles aren't 1 to 40, none twice, numbered from 1"
sentence_text sentence.FewTesters = codes "a round has more than 20 testers"
sentence_text sentence.ReleasedFirst = codes "a published round isn't released"
sentence_text sentence.EntryHome = codes "the round of an entry isn't there"
sentence_text sentence.PuzzleThere = codes "the puzzle of an entry isn't there"
sentence_text sentence.CertifiedFirst = codes "a puzzle of a released round isn't in state one"
sentence_text sentence.InNoOther = codes "a puzzle of a released round is in another released round"
sentence_text sentence.TesterHome = codes "the round of a tester isn't there"
sentence_text sentence.TesterThere = codes "a tester isn't there"
sentence_text sentence.AnswererThere = codes "an answer's entrant isn't there"
sentence_text sentence.AnsweredThere = codes "an answer's round has no puzzle of its number"
sentence_text sentence.AnswerReleased = codes "an answer's round isn't released"
sentence_text sentence.MayAnswer = codes "an answer's entrant may not take part in its round"
sentence_text sentence.VerdictTrue = codes "an answer's verdict isn't that of its text and puzzle"
sentence_text sentence.Numbered = codes "an answer's n is above how many there are"
sentence_text sentence.NumberedOnce = codes "two answers of an entrant to a puzzle have one n"
sentence_text sentence.FewAnswers = codes "an entrant has more than 50 answers to a puzzle"
sentence_text sentence.ProtesterThere = codes "a protest's entrant isn't there"
sentence_text sentence.ProtestedThere = codes "a protest's round has no puzzle of its number"
sentence_text sentence.ProtestReleased = codes "a protest's round isn't released"
sentence_text sentence.MayProtest = codes "a protest's entrant may not take part in its round"
sentence_text sentence.RuledFirst = codes "a protest in a published round is open"
sentence_text sentence.FewProtests = codes "an entrant has more than 5 protests in a round"
sentence_text sentence.StateTrue = codes "a puzzle's state isn't what a search finds"

-- the puzzle's table and key
abbrev pub puzzle_text : PuzzleKey → List ℕ
puzzle_text key = codes "puzzles author=" ++ (key.author ++ (codes " label=" ++ key.label))

-- where a row stands: its table, and its key there
abbrev pub spot_text : Spot → List ℕ
spot_text (spot.Person name) = codes "people name=" ++ name
spot_text (spot.Puzzle key) = puzzle_text key
spot_text (spot.Round id) = codes "rounds id=" ++ id
spot_text (spot.Entry key) = codes "round_puzzles round=" ++ (key.round ++ (codes " number=" ++ decimal key.number))
spot_text (spot.Tester key) = codes "testers round=" ++ (key.round ++ (codes " name=" ++ key.name))
spot_text (spot.Answer key) =
    codes "answers entrant=" ++ (key.entrant ++ (codes " round=" ++ (key.round ++ (codes " number="
    ++ (decimal key.number ++ (codes " token=" ++ key.token))))))
spot_text (spot.Protest key) =
    codes "protests entrant=" ++ (key.entrant ++ (codes " round=" ++ (key.round ++ (codes " token=" ++ key.token))))

-- one place where it is false, on a line
abbrev pub breach_line : List ℕ → Spot → List ℕ
breach_line sentence spot = codes "broken: " ++ sentence ++ codes ": " ++ on_own_line (spot_text spot)

-- how many more places there are, on a line, if any
abbrev pub more_line : List ℕ → ℕ → List ℕ
more_line sentence zero = []
more_line sentence (suc n) =
    codes "broken: " ++ sentence ++ codes ": and " ++ decimal (suc n) ++ on_own_line (codes " more")

-- where a sentence is false: the first places, and how many more
abbrev pub breaches_text : Breaches → List ℕ
breaches_text found =
    flat_map (breach_line (sentence_text found.sentence)) found.first.items
    ++ more_line (sentence_text found.sentence) (found.count - length found.first.items)

-- a puzzle whose search gave up, on a line
abbrev pub undecided_line : PuzzleKey → List ℕ
undecided_line key = codes "not decided: " ++ on_own_line (puzzle_text key)

-- how many more there are, on a line, if any
abbrev pub more_undecided : ℕ → List ℕ
more_undecided zero = []
more_undecided (suc n) = codes "not decided: and " ++ decimal (suc n) ++ on_own_line (codes " more")

-- the puzzles whose search gave up: the first 20, and how many more
abbrev pub undecided_text : List PuzzleKey → List ℕ
undecided_text keys = flat_map undecided_line (take 20 keys) ++ more_undecided (length keys - 20)

-- what new searches told of puzzles' states, if any were made
abbrev pub states_text : Option States → List ℕ
states_text None = []
states_text (Some states) = breaches_text states.found ++ undecided_text states.undecided.items

-- there is nothing
abbrev pub is_none : {X : Type 0} → List X → Bool
is_none [] = true
is_none (x ∷ xs) = false

-- the sentence was found false
abbrev pub is_found : Breaches → Bool
is_found found = not (is_none found.first.items)

-- a state was found false
abbrev pub is_state_broken : Option States → Bool
is_state_broken None = false
is_state_broken (Some states) = is_found states.found

-- a sentence was found false
abbrev pub is_broken : Checked → Bool
is_broken checked = is_state_broken checked.states || list_any is_found checked.told.items

-- each puzzle was searched to an end
abbrev pub is_decided : Option States → Bool
is_decided None = false
is_decided (Some states) = is_none states.undecided.items

-- how sane the world is: as far as is stored; or `sane`, where each puzzle was searched to an end; or as far as so many
-- visits tell
abbrev pub sane_line : Option ℕ → Checked → List ℕ
sane_line None checked =
    codes "sane as far as is stored: whether a solution is the only one wasn't searched anew\n"
sane_line (Some visits) checked =
    if is_decided checked.states then codes "sane\n"
    else (codes "sane as far as " ++ (decimal visits ++ codes " visits tell\n"))

-- so on a line; nothing where it is broken
abbrev pub last_line : Option ℕ → Checked → List ℕ
last_line budget checked = if is_broken checked then [] else sane_line budget checked

-- how much there is, on a line
abbrev pub counts_line : Checked → List ℕ
counts_line checked =
    codes "people " ++ (decimal checked.people ++ (codes ", puzzles " ++ (decimal checked.puzzles
    ++ (codes ", rounds " ++ (decimal checked.rounds ++ (codes ", answers " ++ (decimal checked.answers
    ++ (codes ", protests " ++ on_own_line (decimal checked.protests)))))))))

-- what a check found, as it is written
abbrev pub checked_text : Option ℕ → Checked → List ℕ
checked_text budget checked =
    counts_line checked ++ flat_map breaches_text checked.told.items ++ states_text checked.states
    ++ last_line budget checked

-- and the exit status
abbrev pub checked_status : Checked → ℕ
checked_status checked = if is_broken checked then 1 else 0

-- what is written of a world, and the exit status: that of a check of it, where a device was honest
abbrev pub WorldText : Option ℕ → Type 0 → World → List ℕ → ℕ → Type 0
WorldText budget Honest world text status =
    (checked : Checked) × (Honest → IsChecked world budget checked)
    × (text ≡ checked_text budget checked) × (status ≡ checked_status checked)
