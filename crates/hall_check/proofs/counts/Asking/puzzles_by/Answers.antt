use Rattle.std.proofs.Common.{◌∙◌}
use Rattle.hall_policy.specs.Text.{text_cmp}
use Rattle.hall_policy.specs.World.{same_text}
use Rattle.hall_policy.specs.declared.record.PuzzleRow.{PuzzleRow}
use Rattle.hall_check.proofs.Counting.{counted_alike, tied_text}
use Rattle.hall_check.proofs.counts.Asking.puzzles_by.Goals as goal

pub returns : goal.returns
returns c = λ able.
    let author = c.args.author.now in
    c.count_at.ensures ∙ counted_alike c.args.self.now.counts.puzzles.entries text_cmp
    (λ (row : PuzzleRow). row.key.author) (λ row. same_text row.key.author author) author
    (λ row. tied_text author row.key.author) able.1.puzzles able.0.puzzles
