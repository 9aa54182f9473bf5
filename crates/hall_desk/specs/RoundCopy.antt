-- What the copy of a round says of the store that the round was read from.
use Rattle.std.specs.Prelude.{ℕ, List, Option}
use Rattle.hall_policy.specs.World.{World, IsRoundAt}
use Rattle.hall_policy.specs.declared.record.RoundRow.{RoundRow}
use Rattle.hall_store.specs.Store.{Content}
use Rattle.hall_store.specs.declared.change.Change.{Change}
use Rattle.hall_store.specs.declared.change.Change.TheVariants.{Nothing, Import, AddAnswer, AddAnswers, AddProtest}
use Rattle.hall_store.specs.declared.change.Change.TheVariants.{RuleProtest}
use Rattle.hall_desk.specs.Shown.{ShowsRound}
use Rattle.hall_desk.specs.Slices.{AsksIfAny}
use Rattle.hall_desk.specs.declared.reply.ShownRound.{ShownRound}
use Rattle.hall_desk.specs.declared.round_copy.RoundCopy.{RoundCopy}

-- the round of this id, as it is read
abbrev pub IsShownAt : World → List ℕ → ShownRound → Type 0
IsShownAt world id shown = (row : RoundRow) × IsRoundAt world id row × ShowsRound world row shown

-- where there is a copy, it is its round as it is read
abbrev pub IsRoundCopied : Content → Option RoundCopy → Type 0
IsRoundCopied content = AsksIfAny content (λ world copy. IsShownAt world copy.round copy.shown)

-- the change is one of people, answers or protests alone, or none
abbrev pub LeavesRounds : Change → Type 0
LeavesRounds Nothing = Unit {0}
LeavesRounds (Import people) = Unit {0}
LeavesRounds (AddAnswer row) = Unit {0}
LeavesRounds (AddAnswers rows) = Unit {0}
LeavesRounds (AddProtest row) = Unit {0}
LeavesRounds (RuleProtest key ruling) = Unit {0}
LeavesRounds _ = ⊥
