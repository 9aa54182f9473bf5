use Rattle.std.proofs.Common.{◌≡◌, drop}
use Rattle.clap.specs.Words.{app_of, new_app}
use Rattle.hall_tool.specs.Pages.{with_options}
use Rattle.hall_tool.proofs.pages.line.Given as goal

abbrev pub invariant-loop-named : goal.invariant-loop-named
invariant-loop-named l =
    with_options (app_of l.line) (drop l.named-index l.options) ≡ with_options (new_app l.name) l.options
