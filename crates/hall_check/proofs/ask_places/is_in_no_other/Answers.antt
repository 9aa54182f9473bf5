use Rattle.hall_check.proofs.Standing.{no_other}
use Rattle.hall_check.proofs.ask_places.is_in_no_other.Goals as goal

pub returns : goal.returns
returns c = λ ordered.
    no_other c.args.whole.now ordered c.args.place.now c.is_in_another.result c.is_in_another.ensures
    (c.is_released.ensures.0 c.if-not-is_released.false)
