use Rattle.std.proofs.lemmas.Result.{IfOk-from_err}
use Rattle.hall_nurikabe.proofs.deduce.forced_by_regions.Goals as goal

pub returns-in_err-forced : goal.returns-in_err-forced
returns-in_err-forced c = IfOk-from_err c.from_residual.result _ c.from_residual.ensures.0

pub returns-in_err-are_walls_apart : goal.returns-in_err-are_walls_apart
returns-in_err-are_walls_apart c = IfOk-from_err c.from_residual-in_err-are_walls_apart.result _
    c.from_residual-in_err-are_walls_apart.ensures.0

pub returns-in_err-look_at_groups : goal.returns-in_err-look_at_groups
returns-in_err-look_at_groups c = IfOk-from_err c.from_residual-in_err-look_at_groups.result _
    c.from_residual-in_err-look_at_groups.ensures.0

pub returns-in_err-look_at_walls : goal.returns-in_err-look_at_walls
returns-in_err-look_at_walls c = IfOk-from_err c.from_residual-in_err-look_at_walls.result _
    c.from_residual-in_err-look_at_walls.ensures.0

pub returns-in_err-look_at_reaches : goal.returns-in_err-look_at_reaches
returns-in_err-look_at_reaches c = IfOk-from_err c.from_residual-in_err-look_at_reaches.result _
    c.from_residual-in_err-look_at_reaches.ensures.0
