use Rattle.std.proofs.Common.{◌∙◌}
use Rattle.hall_policy.specs.Text.{text_cmp}
use Rattle.hall_policy.specs.World.{same_text}
use Rattle.hall_policy.specs.declared.record.Person.{Person}
use Rattle.hall_check.proofs.Counting.{counted_alike, tied_text}
use Rattle.hall_check.proofs.counts.Asking.people_with.Goals as goal

pub returns : goal.returns
returns c = λ able.
    let key = c.args.key.now in
    c.count_at.ensures ∙ counted_alike c.args.self.now.counts.people.entries text_cmp (λ (row : Person). row.key)
    (λ row. same_text row.key key) key (λ row. tied_text key row.key) able.1.people able.0.people
