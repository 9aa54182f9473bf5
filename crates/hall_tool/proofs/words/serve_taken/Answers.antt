use Rattle.clap.specs.Words.{found_of, rows_of}
use Rattle.hall_tool.specs.declared.pages.Page.TheVariants as pages
use Rattle.hall_tool.proofs.Spelling.{none_passed}
use Rattle.hall_tool.proofs.Taken.{no_port}
use Rattle.hall_tool.proofs.words.serve_taken.Goals as goal

pub returns-in_err-port : goal.returns-in_err-port
returns-in_err-port c =
    none_passed pages.Serve (rows_of (found_of c.args.matches.now))
    c.from_residual-in_err-port.result c.in_err-port.field-0.0 _
    c.from_residual-in_err-port.ensures.1 (no_port (rows_of (found_of c.args.matches.now))) c.in_err-port.ensures.fault
