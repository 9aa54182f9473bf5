-- Which command the words after the program's name spell, by clap's rules for a simple command.
use Rattle.std.specs.Prelude.{◌≡◌, ◌≢◌, ◌⊎◌, ⊤, ◌≤◌, ℕ, List, [], ◌∷◌, ◌++◌, Option, Some, None, Result, Ok, Err}
use Rattle.std.specs.Prelude.{codes, if◌then◌else◌}
use Rattle.std.specs.Str.{bytes_eq}
use Rattle.std.specs.Str.Parse.{IsNumeral, digits_value, without_leading_plus}
use Rattle.clap.specs.Words.{Kinds, Row, Text, fault_of, first_of, matches_of}
use Rattle.clap.specs.declared.error.kind.ErrorKind.{ErrorKind}
use Rattle.clap.specs.declared.error.kind.ErrorKind.TheVariants.{DisplayHelp, DisplayVersion, OutOfMemory}
use Rattle.hall_policy.specs.Limits.{most_visits}
use Rattle.hall_tool.specs.declared.pages.Page.{Page}
use Rattle.hall_tool.specs.declared.pages.Page.TheVariants as pages
use Rattle.hall_tool.specs.declared.words.Command.{Command}
use Rattle.hall_tool.specs.declared.words.Command.TheVariants.{Judge, Solve, Init, Serve, Replay, Table, Migrate}
use Rattle.hall_tool.specs.declared.words.Command.TheVariants.{Check, Help, Version}
use Rattle.hall_tool.specs.declared.words.Numbers.{Numbers}
use Rattle.hall_tool.specs.declared.words.WordsFault.{WordsFault}
use Rattle.hall_tool.specs.declared.words.WordsFault.TheVariants.{Memory, Line}
use Rattle.hall_tool.specs.Pages.{command_line_of}

-- the first word names a command; any other word, or none, is for the program's own line
abbrev pub page_of : List Text → Page
page_of [] = pages.Hall
page_of (name ∷ rest) =
    if bytes_eq name (codes "judge") then pages.Judge
    else (if bytes_eq name (codes "solve") then pages.Solve
    else (if bytes_eq name (codes "init") then pages.Init
    else (if bytes_eq name (codes "serve") then pages.Serve
    else (if bytes_eq name (codes "replay") then pages.Replay
    else (if bytes_eq name (codes "table") then pages.Table
    else (if bytes_eq name (codes "migrate") then pages.Migrate
    else (if bytes_eq name (codes "check") then pages.Check
    else pages.Hall)))))))

-- what is wrong with the words, or asked for by them in place of a run
abbrev pub faults_of : List Text → Kinds
faults_of words = fault_of (command_line_of (page_of words)) words

-- the options that the words give, each with its value
abbrev pub options_of : List Text → List Row
options_of words = matches_of (command_line_of (page_of words)) words

-- the number that the text is, as std reads a text, is between the two
abbrev pub IsNumberWithin : ℕ → ℕ → Text → ℕ → Type 0
IsNumberWithin least most text number =
    IsNumeral 10 (without_leading_plus text) × (number ≡ digits_value 10 (without_leading_plus text))
    × (least ≤ number) × (number ≤ most)

-- a number that is named is one of those that the option takes; where none is named, it is the usual one
abbrev pub IsNumber : Numbers → Option Text → ℕ → Type 0
IsNumber numbers (Some text) number = IsNumberWithin numbers.least numbers.most text number
IsNumber numbers None number = numbers.usual ≡ Some number

-- a number that is named is one of those that the option takes; there is none where none is named
abbrev pub IsNumberIfAny : Numbers → Option Text → Option ℕ → Type 0
IsNumberIfAny numbers (Some text) (Some number) = IsNumberWithin numbers.least numbers.most text number
IsNumberIfAny numbers None None = ⊤
IsNumberIfAny numbers text other = ⊥

-- the visits that a search may make where none are named
abbrev pub usual_visits : ℕ
usual_visits = 200000

-- the visits that a search may make
abbrev pub budgets : Numbers
budgets = record { usual = Some usual_visits; least = 0; most = most_visits }

-- the greatest number of a port
abbrev pub last_port : ℕ
last_port = 65535

-- a port; one must be named
abbrev pub ports : Numbers
ports = record { usual = None; least = 1; most = last_port }

-- the connections that may be served
abbrev pub most_served : ℕ
most_served = 1000000

-- the connections that are served, the most where none are named
abbrev pub connection_limits : Numbers
connection_limits = record { usual = Some most_served; least = 1; most = most_served }

-- the command of a page, by the values that the words give its options
abbrev pub IsTaken : Page → List Row → Command → Type 0
IsTaken page options Judge = page ≡ pages.Judge
IsTaken page options (Solve budget) = (page ≡ pages.Solve) × IsNumber budgets (first_of (codes "budget") options) budget
IsTaken page options (Init db people) =
    (page ≡ pages.Init)
    × (first_of (codes "db") options ≡ Some db)
    × (first_of (codes "people") options ≡ Some people)
IsTaken page options (Serve db port connections) =
    (page ≡ pages.Serve)
    × (first_of (codes "db") options ≡ Some db)
    × IsNumber ports (first_of (codes "port") options) port
    × IsNumber connection_limits (first_of (codes "connections") options) connections
IsTaken page options (Replay people) = (page ≡ pages.Replay) × (first_of (codes "people") options ≡ Some people)
IsTaken page options (Table db round) =
    (page ≡ pages.Table)
    × (first_of (codes "db") options ≡ Some db)
    × (first_of (codes "round") options ≡ Some round)
IsTaken page options (Migrate from to) =
    (page ≡ pages.Migrate)
    × (first_of (codes "from") options ≡ Some from)
    × (first_of (codes "to") options ≡ Some to)
IsTaken page options (Check db budget) =
    (page ≡ pages.Check)
    × (first_of (codes "db") options ≡ Some db)
    × IsNumberIfAny budgets (first_of (codes "budget") options) budget
IsTaken page options other = ⊥

-- what a fault of this kind asks for in place of a run: a page of help, or the version
abbrev pub AsksForPage : Page → ErrorKind → Command → Type 0
AsksForPage page kind (Help asked) = (asked ≡ page) × (kind ≡ DisplayHelp)
AsksForPage page kind Version = kind ≡ DisplayVersion
AsksForPage page kind other = ⊥

-- the words spell the command: nothing is wrong with them, and it is that of their options, or they ask for it in place
-- of a run
abbrev pub SpellsCommand : List Text → Command → Type 0
SpellsCommand words command =
    ((faults_of words ≡ []) × IsTaken (page_of words) (options_of words) command)
    ⊎ ((kind : ErrorKind) × (faults_of words ≡ kind ∷ []) × AsksForPage (page_of words) kind command)

-- the words spell no command
abbrev pub SpellsNone : List Text → Type 0
SpellsNone words = (command : Command) → SpellsCommand words command → ⊥

-- what a wrong line tells; out of memory tells nothing
abbrev pub IfLine : WordsFault → Type 0 → Type 0
IfLine Memory claim = ⊤
IfLine (Line error) claim = claim

-- ---- the same, of a line that took its words or refused them

-- no number is the one that the text stands for
abbrev pub IsNoNumber : (ℕ → Type 0) → Type 0
IsNoNumber Is = (number : ℕ) → Is number → ⊥

-- a number is named, and none is the one that the text stands for
abbrev pub IsNoNumberIfAny : Numbers → Option Text → Type 0
IsNoNumberIfAny numbers text = (number : Option ℕ) → IsNumberIfAny numbers text number → ⊥

-- no command is that of the page and the options
abbrev pub TakesNone : Page → List Row → Type 0
TakesNone page options = (command : Command) → IsTaken page options command → ⊥

-- the command is that of the page and the options; or none is, if a line is wrong
abbrev pub IsTakenFrom : Page → List Row → Result Command WordsFault → Type 0
IsTakenFrom page options (Ok command) = IsTaken page options command
IsTakenFrom page options (Err fault) = IfLine fault (TakesNone page options)

-- an error of this kind asks for nothing
abbrev pub AsksNone : ErrorKind → Type 0
AsksNone kind = (kind ≢ OutOfMemory) × (kind ≢ DisplayHelp) × (kind ≢ DisplayVersion)

-- ---- what the definitions give

-- no words spell two commands
abbrev pub SpellOneCommand : Type 0
SpellOneCommand =
    (words : List Text) (one other : Command) → SpellsCommand words one → SpellsCommand words other → one ≡ other

-- words of each command, with each of its options, with any path and any text of a number that it may be; `--help`
-- alone and after each name; `--version`
pub record AreSpelled : Type 0 where
  pub judge : SpellsCommand (codes "judge" ∷ []) Judge
  pub solve : SpellsCommand (codes "solve" ∷ []) (Solve usual_visits)
  pub budget : (text : Text) (budget : ℕ) → IsNumberWithin 0 most_visits text budget
      → SpellsCommand (codes "solve" ∷ (codes "--budget=" ++ text) ∷ []) (Solve budget)
  pub init : (db people : Text)
      → SpellsCommand (codes "init" ∷ (codes "--db=" ++ db) ∷ (codes "--people=" ++ people) ∷ []) (Init db people)
  pub serve : (db text : Text) (port : ℕ) → IsNumberWithin 1 last_port text port
      → SpellsCommand (codes "serve" ∷ (codes "--db=" ++ db) ∷ (codes "--port=" ++ text) ∷ [])
      (Serve db port most_served)
  pub connections : (db text count : Text) (port connections : ℕ)
      → IsNumberWithin 1 last_port text port → IsNumberWithin 1 most_served count connections
      → SpellsCommand
      (codes "serve" ∷ (codes "--db=" ++ db) ∷ (codes "--port=" ++ text) ∷ (codes "--connections=" ++ count) ∷ [])
      (Serve db port connections)
  pub replay : (path : Text) → SpellsCommand (codes "replay" ∷ (codes "--people=" ++ path) ∷ []) (Replay path)
  pub apart : SpellsCommand (codes "replay" ∷ codes "--people" ∷ codes "people.csv" ∷ []) (Replay (codes "people.csv"))
  pub table : (db round : Text)
      → SpellsCommand (codes "table" ∷ (codes "--db=" ++ db) ∷ (codes "--round=" ++ round) ∷ []) (Table db round)
  pub migrate : (from to : Text)
      → SpellsCommand (codes "migrate" ∷ (codes "--from=" ++ from) ∷ (codes "--to=" ++ to) ∷ []) (Migrate from to)
  pub turned : (from to : Text)
      → SpellsCommand (codes "migrate" ∷ (codes "--to=" ++ to) ∷ (codes "--from=" ++ from) ∷ []) (Migrate from to)
  pub check : (db : Text) → SpellsCommand (codes "check" ∷ (codes "--db=" ++ db) ∷ []) (Check db None)
  pub search : (db text : Text) (budget : ℕ) → IsNumberWithin 0 most_visits text budget
      → SpellsCommand (codes "check" ∷ (codes "--db=" ++ db) ∷ (codes "--budget=" ++ text) ∷ [])
      (Check db (Some budget))
  pub help : SpellsCommand (codes "--help" ∷ []) (Help pages.Hall)
  pub judge_help : SpellsCommand (codes "judge" ∷ codes "--help" ∷ []) (Help pages.Judge)
  pub solve_help : SpellsCommand (codes "solve" ∷ codes "--help" ∷ []) (Help pages.Solve)
  pub init_help : SpellsCommand (codes "init" ∷ codes "--help" ∷ []) (Help pages.Init)
  pub serve_help : SpellsCommand (codes "serve" ∷ codes "--help" ∷ []) (Help pages.Serve)
  pub replay_help : SpellsCommand (codes "replay" ∷ codes "--help" ∷ []) (Help pages.Replay)
  pub table_help : SpellsCommand (codes "table" ∷ codes "--help" ∷ []) (Help pages.Table)
  pub migrate_help : SpellsCommand (codes "migrate" ∷ codes "--help" ∷ []) (Help pages.Migrate)
  pub check_help : SpellsCommand (codes "check" ∷ codes "--help" ∷ []) (Help pages.Check)
  pub version : SpellsCommand (codes "--version" ∷ []) Version
