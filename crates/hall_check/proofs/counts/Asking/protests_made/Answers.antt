use Rattle.std.proofs.Common.{◌∙◌, ◌&&◌, ap}
use Rattle.hall_policy.specs.World.{same_text}
use Rattle.hall_check.specs.Groups.{in_round, in_round_cmp}
use Rattle.hall_check.specs.Tally.{counted_of}
use Rattle.hall_check.proofs.Counting.{counted_alike, tied_rounds}
use Rattle.hall_check.proofs.counts.Asking.protests_made.Goals as goal

pub returns : goal.returns
returns c = λ able.
    let row = c.args.row.now in
    let counts = c.args.self.now.counts.protests.entries in
    c.count_at.ensures ∙ ap (counted_of in_round_cmp counts) c.in_ok-key.ensures
    ∙ counted_alike counts in_round_cmp in_round
    (λ other. same_text other.key.entrant row.key.entrant && same_text other.key.round row.key.round) (in_round row)
    (λ other. tied_rounds row other) able.1.protests able.0.protests
