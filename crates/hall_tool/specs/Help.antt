-- The text of each page of help, and of the version.
use Rattle.std.specs.Prelude.{ℕ, List}
use Rattle.hall_tool.specs.declared.help.TheConstants.{HALL, JUDGE, SOLVE, INIT, SERVE, REPLAY, TABLE, MIGRATE, CHECK}
use Rattle.hall_tool.specs.declared.pages.TheConstants.{VERSION}
use Rattle.hall_tool.specs.declared.pages.Page.{Page}
use Rattle.hall_tool.specs.declared.pages.Page.TheVariants.{Hall, Judge, Solve, Init, Serve, Replay, Table}
use Rattle.hall_tool.specs.declared.pages.Page.TheVariants.{Migrate, Check}

-- the page of the program, or of the command
abbrev pub help_text : Page → List ℕ
help_text Hall = HALL.now
help_text Judge = JUDGE.now
help_text Solve = SOLVE.now
help_text Init = INIT.now
help_text Serve = SERVE.now
help_text Replay = REPLAY.now
help_text Table = TABLE.now
help_text Migrate = MIGRATE.now
help_text Check = CHECK.now

-- the program's name and version
abbrev pub version_text : List ℕ
version_text = VERSION.now
