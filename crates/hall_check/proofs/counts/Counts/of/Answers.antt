use Rattle.std.proofs.Common.{subst}
use Rattle.hall_policy.specs.Text.{text_cmp}
use Rattle.hall_policy.specs.declared.record.Person.{Person}
use Rattle.hall_policy.specs.declared.record.PuzzleRow.{PuzzleRow}
use Rattle.hall_policy.specs.declared.record.TesterKey.{TesterKey}
use Rattle.hall_check.specs.Groups.{AreRanked, in_round, in_round_cmp}
use Rattle.hall_check.specs.Tally.{IsTally}
use Rattle.hall_check.proofs.counts.Counts.of.Goals as goal

pub returns : goal.returns
returns c = record {
  people = subst (λ rows. IsTally text_cmp (λ (row : Person). row.key) rows c.in_ok-people.people.entries)
      c.as_slice.ensures.value c.in_ok-people.ensures;
  puzzles = subst (λ rows. IsTally text_cmp (λ (row : PuzzleRow). row.key.author) rows c.in_ok-puzzles.puzzles.entries)
      c.as_slice-2.ensures.value c.in_ok-puzzles.ensures;
  testers = subst (λ rows. IsTally text_cmp (λ (row : TesterKey × Unit {0}). row.0.round) rows
      c.in_ok-testers.testers.entries)
      c.as_slice-3.ensures.value c.in_ok-testers.ensures;
  answers = subst (λ rows. AreRanked rows c.in_ok-answers.answers.items) c.as_slice-4.ensures.value
      c.in_ok-answers.ensures;
  protests = subst (λ rows. IsTally in_round_cmp in_round rows c.in_ok-protests.protests.entries)
      c.as_slice-5.ensures.value c.in_ok-protests.ensures;
}
