use Rattle.hall_policy.specs.Ranges.{IsRound}
use Rattle.hall_check.proofs.EachRow.{each_step, each_done}
use Rattle.hall_check.proofs.ranges.read_rounds.Goals as goal

pub loop-round-preserved : goal.loop-round-preserved
loop-round-preserved c =
    each_step (IsRound) c.args.rounds.now c.loop-round.round-index c.round-item.result c.loop-round.invariant
    c.round-item.is c.read_round.ensures

pub returns : goal.returns
returns c =
    each_done (IsRound) c.args.rounds.now c.loop-round.round-index c.loop-round.invariant c.loop-round-test.false
