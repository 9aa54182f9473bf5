use Rattle.hall_nurikabe.proofs.Trials.{restored}
use Rattle.hall_nurikabe.proofs.trial.try_value.Goals as goal

pub returns-clause-kept : goal.returns-clause-kept
returns-clause-kept c =
    restored c.args.partial.now c.set_value-set.new.partial c.undo_to.new.self c.mark-mark.result
    c.set_value-set.ensures.grows
    c.mark-mark.ensures.mark c.undo_to.ensures.undone c.mark-mark.ensures.trailed c.undo_to.ensures.before
    c.undo_to.ensures.trailed
