use Rattle.std.proofs.Common.{◌∙◌}
use Rattle.hall_policy.specs.Text.{text_cmp}
use Rattle.hall_policy.specs.World.{same_text}
use Rattle.hall_policy.specs.declared.record.TesterKey.{TesterKey}
use Rattle.hall_check.proofs.Counting.{counted_alike, tied_text}
use Rattle.hall_check.proofs.counts.Asking.testers_of.Goals as goal

pub returns : goal.returns
returns c = λ able.
    let id = c.args.id.now in
    c.count_at.ensures ∙ counted_alike c.args.self.now.counts.testers.entries text_cmp
    (λ (row : TesterKey × Unit {0}). row.0.round) (λ row. same_text row.0.round id) id (λ row. tied_text id row.0.round)
    able.1.testers able.0.testers
