use Rattle.std.proofs.Common.{take}
use Rattle.hall_check.specs.Asking.{CanAsk, asked_world}
use Rattle.hall_check.specs.Checks.{AreTold}
use Rattle.hall_check.proofs.sentences.tell_each.Given as goal

-- what is found of the sentences so far
abbrev pub invariant-loop-sentence : goal.invariant-loop-sentence
invariant-loop-sentence l =
    CanAsk l.asking → AreTold (asked_world l.asking) (take l.sentence-index l.sentences) l.told.items
