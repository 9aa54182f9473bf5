-- What sentences are asked with.
use Rattle.hall_policy.specs.Text.{text_cmp}
use Rattle.hall_policy.specs.World.{World}
use Rattle.hall_policy.specs.declared.record.Person.{Person}
use Rattle.hall_policy.specs.declared.record.PuzzleRow.{PuzzleRow}
use Rattle.hall_policy.specs.declared.record.TesterKey.{TesterKey}
use Rattle.hall_check.specs.Groups.{AreRanked, in_round, in_round_cmp}
use Rattle.hall_check.specs.Tally.{IsTally}
use Rattle.hall_check.specs.Whole.{IsInOrder, world_of_whole}
use Rattle.hall_check.specs.declared.counts.Asking.{Asking}
use Rattle.hall_check.specs.declared.counts.Counts.{Counts}
use Rattle.hall_check.specs.declared.whole.Whole.{Whole}

-- of each key so many rows were counted as there are; answers stand in an order, to be counted by halves
pub record AreCounted (whole : Whole) (counts : Counts) : Type 0 where
  pub people : IsTally text_cmp (λ (row : Person). row.key) whole.people.items counts.people.entries
  pub puzzles : IsTally text_cmp (λ (row : PuzzleRow). row.key.author) whole.puzzles.items counts.puzzles.entries
  pub testers :
      IsTally text_cmp (λ (row : TesterKey × Unit {0}). row.0.round) whole.testers.items counts.testers.entries
  pub answers : AreRanked whole.answers.items counts.answers.items
  pub protests : IsTally in_round_cmp in_round whole.protests.items counts.protests.entries

-- the world that has the rows
abbrev pub asked_world : Asking → World
asked_world asking = world_of_whole asking.whole.now

-- the rows are all that their world has, and they were counted
abbrev pub CanAsk : Asking → Type 0
CanAsk asking = IsInOrder asking.whole.now × AreCounted asking.whole.now asking.counts
