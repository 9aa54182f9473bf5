use Rattle.std.specs.Io.KnownBytes.{Appends}
use Rattle.std.proofs.lemmas.Result.{err_from_is_err_and}
use Rattle.hall_http.specs.Device.{WritesPart}
use Rattle.hall_tool.specs.SolveText.{SolveText}
use Rattle.hall_tool.specs.Machine.{streams}
use Rattle.hall_tool.proofs.Judging.{solved_by_front, known_decides, known_tells}
use Rattle.hall_tool.proofs.LineRun.{broken_run, told_run}
use Rattle.hall_tool.proofs.solve.solve_run.Goals as goal

pub returns : goal.returns
returns g c =
    told_run (λ input line status. SolveText input c.args.budget line status)
    (streams g.R.Read.remaining g.W.Write.contents) _ _ _ _ _
    (known_decides (λ input line status. SolveText input c.args.budget line status) (solved_by_front c.args.budget) _ _
    _ _
    (Appends (g.W.Write.contents c.args.writer.now.device) (g.W.Write.contents c.write_all.new.writer.device))
    c.in_ok-input.ensures.front (rw c.deref.ensures.value at c.in_ok-ending.ensures)
    (rw c.as_bytes.ensures.value at c.in_ok-write_all.ensures.written))
    (c.in_ok-input.ensures.same, c.in_ok-write_all.ensures.same)

pub returns-in_err-write_all : goal.returns-in_err-write_all
returns-in_err-write_all g c =
    let p = err_from_is_err_and c.from_residual-in_err-write_all.result c.from_residual-in_err-write_all.ensures.1 in
    rw (p.1, p.2) (broken_run (λ input line status. SolveText input c.args.budget line status)
    (streams g.R.Read.remaining g.W.Write.contents) _ _ _ _ c.in_ok-input.ensures.same c.in_err-write_all.ensures.device
    (known_tells (λ input line status. SolveText input c.args.budget line status) (solved_by_front c.args.budget) _ _ _
    _
    (WritesPart (g.W.Write.contents c.args.writer.now.device) (g.W.Write.contents c.write_all.new.writer.device))
    c.in_ok-input.ensures.front (rw c.deref.ensures.value at c.in_ok-ending.ensures)
    (rw c.as_bytes.ensures.value at c.in_err-write_all.ensures.part)))
