use Rattle.std.proofs.Common.{◌∙◌, ap}
use Rattle.std.proofs.lemmas.Result.{IfOk-weaker}
use Rattle.hall_desk.specs.Lines.{LinesSoFar}
use Rattle.hall_desk.proofs.LinesTaken.{lines_from_none}
use Rattle.hall_desk.proofs.lines.Lines.end.Goals as goal

pub returns : goal.returns
returns c shows fresh rows begins taken =
    IfOk-weaker c.new.result _ _ (λ text same.
    same ∙ ap (λ (l : LinesSoFar). l.lines) c.self.view_is
    ∙ lines_from_none shows fresh c.args.self rows begins taken)
    c.new.ensures
