use Rattle.clap.specs.Words.{found_of, rows_of}
use Rattle.hall_tool.specs.declared.pages.Page.TheVariants as pages
use Rattle.hall_tool.proofs.Spelling.{none_passed}
use Rattle.hall_tool.proofs.Taken.{no_budget}
use Rattle.hall_tool.proofs.words.solve_taken.Goals as goal

pub returns-in_err-budget : goal.returns-in_err-budget
returns-in_err-budget c =
    none_passed pages.Solve (rows_of (found_of c.args.matches.now)) c.from_residual.result c.in_err-budget.field-0.0 _
    c.from_residual.ensures.1 (no_budget (rows_of (found_of c.args.matches.now))) c.in_err-budget.ensures.fault
