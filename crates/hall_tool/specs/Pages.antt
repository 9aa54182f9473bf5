-- The command lines of the program, as clap reads them.
use Rattle.std.specs.Prelude.{List, [], ◌∷◌, Some, true, codes}
use Rattle.clap.specs.Words.{App, Rule, Text, new_app, new_rule, with_rule}
use Rattle.clap.specs.Simple.{on_top}
use Rattle.clap.specs.declared.builder.action.ArgAction.TheVariants.{Set}
use Rattle.hall_tool.specs.declared.pages.Page.{Page}
use Rattle.hall_tool.specs.declared.pages.Page.TheVariants.{Hall, Judge, Solve, Init, Serve, Replay, Table}
use Rattle.hall_tool.specs.declared.pages.Page.TheVariants.{Migrate, Check}
use Rattle.hall_tool.specs.declared.pages.ValueOption.{ValueOption}

-- the option `--NAME VALUE`: one value, any text, given once
abbrev pub option_named : Text → Rule
option_named name = record (new_rule name) {
  long = Some name;
  action = Some Set;
  value_names = 1;
}

-- the command line with these options added, one after another
abbrev pub with_options : App → List ValueOption → App
with_options line [] = line
with_options line (option ∷ options) = with_options (with_rule line (option_named option.name.now)) options

-- what clap reads of a page's command line: of a command, whose name it passes over, the words after it, and of the
-- program's own all words; each takes `--help` (clap adds it), and the program's own `--version`
abbrev pub command_line_of : Page → App
command_line_of Hall = on_top (λ s. record s { no_binary_name = true; has_version = true }) (new_app (codes "hall"))
command_line_of Judge = new_app (codes "judge")
command_line_of Solve = with_rule (new_app (codes "solve")) (option_named (codes "budget"))
command_line_of Init =
    with_rule (with_rule (new_app (codes "init")) (option_named (codes "db"))) (option_named (codes "people"))
command_line_of Serve =
    with_rule (with_rule (with_rule (new_app (codes "serve")) (option_named (codes "db")))
    (option_named (codes "port"))) (option_named (codes "connections"))
command_line_of Replay = with_rule (new_app (codes "replay")) (option_named (codes "people"))
command_line_of Table =
    with_rule (with_rule (new_app (codes "table")) (option_named (codes "db"))) (option_named (codes "round"))
command_line_of Migrate =
    with_rule (with_rule (new_app (codes "migrate")) (option_named (codes "from"))) (option_named (codes "to"))
command_line_of Check =
    with_rule (with_rule (new_app (codes "check")) (option_named (codes "db"))) (option_named (codes "budget"))
