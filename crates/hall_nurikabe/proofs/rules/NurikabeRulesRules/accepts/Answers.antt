use Rattle.hall_nurikabe.proofs.Solves.{right_is}
use Rattle.hall_nurikabe.proofs.rules.NurikabeRulesRules.accepts.Goals as goal

pub returns-clause-right : goal.returns-clause-right
returns-clause-right c =
    rw (← c.self.view_is)
    (right_is c.self.inside.puzzle c.args.filling.now c.in_ok-broken.broken c.is_empty.result c.in_ok-broken.ensures
    c.is_empty.ensures)
