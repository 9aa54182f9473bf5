-- What a command that a line takes tells of its options, by the page.
use Rattle.std.proofs.Common.{sym, subst, refl, ◌≡◌, ℕ, List, Option, Some, codes}
use Rattle.clap.specs.Words.{Row, Text, first_of}
use Rattle.hall_tool.specs.declared.pages.Page.{Page}
use Rattle.hall_tool.specs.declared.pages.Page.TheVariants as pages
use Rattle.hall_tool.specs.declared.words.Command.{Command}
use Rattle.hall_tool.specs.declared.words.Command.TheVariants.{Judge, Solve, Init, Serve, Replay, Table, Migrate}
use Rattle.hall_tool.specs.declared.words.Command.TheVariants.{Check, Help, Version}
use Rattle.hall_tool.specs.Words.{IsNoNumber, IsNumber, IsNumberIfAny, IsTaken, TakesNone}
use Rattle.hall_tool.specs.Words.{budgets, connection_limits, ports}

-- the same as IsTaken, by the page
abbrev pub TakenBy : Page → List Row → Command → Type 0
TakenBy pages.Hall rows command = ⊥
TakenBy pages.Judge rows command = command ≡ Judge
TakenBy pages.Solve rows command =
    (budget : ℕ) × IsNumber budgets (first_of (codes "budget") rows) budget × (command ≡ Solve budget)
TakenBy pages.Init rows command =
    (db : Text) × (people : Text) × (first_of (codes "db") rows ≡ Some db)
    × (first_of (codes "people") rows ≡ Some people) × (command ≡ Init db people)
TakenBy pages.Serve rows command =
    (db : Text) × (port : ℕ) × (connections : ℕ) × (first_of (codes "db") rows ≡ Some db)
    × IsNumber ports (first_of (codes "port") rows) port
    × IsNumber connection_limits (first_of (codes "connections") rows) connections
    × (command ≡ Serve db port connections)
TakenBy pages.Replay rows command =
    (people : Text) × (first_of (codes "people") rows ≡ Some people) × (command ≡ Replay people)
TakenBy pages.Table rows command =
    (db : Text) × (round : Text) × (first_of (codes "db") rows ≡ Some db) × (first_of (codes "round") rows ≡ Some round)
    × (command ≡ Table db round)
TakenBy pages.Migrate rows command =
    (from : Text) × (to : Text) × (first_of (codes "from") rows ≡ Some from) × (first_of (codes "to") rows ≡ Some to)
    × (command ≡ Migrate from to)
TakenBy pages.Check rows command =
    (db : Text) × (budget : Option ℕ) × (first_of (codes "db") rows ≡ Some db)
    × IsNumberIfAny budgets (first_of (codes "budget") rows) budget
    × (command ≡ Check db budget)

pub taken_by : (page : Page) (rows : List Row) (command : Command) → IsTaken page rows command
    → TakenBy page rows command
taken_by page rows Judge t = subst (λ p. TakenBy p rows Judge) (sym t) refl
taken_by page rows (Solve budget) t = subst (λ p. TakenBy p rows (Solve budget)) (sym t.0) (budget, t.1, refl)
taken_by page rows (Init db people) t =
    subst (λ p. TakenBy p rows (Init db people)) (sym t.0) (db, people, t.1, t.2, refl)
taken_by page rows (Serve db port connections) t =
    subst (λ p. TakenBy p rows (Serve db port connections)) (sym t.0)
    (db, port, connections, t.1, t.2, t.3, refl)
taken_by page rows (Replay people) t = subst (λ p. TakenBy p rows (Replay people)) (sym t.0) (people, t.1, refl)
taken_by page rows (Table db round) t =
    subst (λ p. TakenBy p rows (Table db round)) (sym t.0) (db, round, t.1, t.2, refl)
taken_by page rows (Migrate from to) t =
    subst (λ p. TakenBy p rows (Migrate from to)) (sym t.0) (from, to, t.1, t.2, refl)
taken_by page rows (Check db budget) t =
    subst (λ p. TakenBy p rows (Check db budget)) (sym t.0) (db, budget, t.1, t.2, refl)
taken_by page rows (Help asked) t = absurd t
taken_by page rows Version t = absurd t

-- where an option's value is no number that it takes, no command is taken
module _ (rows : List Row) where
  pub no_budget : IsNoNumber (IsNumber budgets (first_of (codes "budget") rows)) → TakesNone pages.Solve rows
  no_budget none command t = let by = taken_by pages.Solve rows command t in none by.0 by.1

  pub no_port : IsNoNumber (IsNumber ports (first_of (codes "port") rows)) → TakesNone pages.Serve rows
  no_port none command t = let by = taken_by pages.Serve rows command t in none by.1 by.4
