use Rattle.std.proofs.Common.{◌∙◌, ◌+◌, ◌+ℤ◌, ap, refl, sym}
use Rattle.hall_policy.specs.World.{ruling_points}
use Rattle.hall_score.proofs.TallyLemmas.{protest_takes, none_last, late_refuses}
use Rattle.hall_score.proofs.tally.TallySinkProtestRow.take.Goals as goal

pub returns-then-is_some-clause-refused : goal.returns-then-is_some-clause-refused
returns-then-is_some-clause-refused c = λ _. late_refuses c.args.self.now c.args.row.now
    (sym c.is_some.ensures ∙ c.if-is_some.true)

pub returns-clause-took : goal.returns-clause-took
returns-clause-took c =
    protest_takes c.args.self.now _ c.args.row.now c.with.result
    (none_last c.args.self.now.last (sym c.is_some.ensures ∙ c.if-is_some.false)) refl refl refl
    (c.with.ensures.points ∙ ap (λ z. z +ℤ ruling_points c.args.row.now.ruling) c.at-rulings.ensures.points)
    (c.with.ensures.count ∙ ap (λ n. n + 1) c.at-rulings.ensures.count) c.in_ok-put.ensures.here
    c.in_ok-put.ensures.others
