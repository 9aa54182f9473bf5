use Rattle.std.proofs.Common.{subst}
use Rattle.hall_policy.specs.Facts.{IsRoundFound}
use Rattle.hall_policy.proofs.Rounds.{lists_author_found, found_lists_author}
use Rattle.hall_policy.proofs.rule_checks.lists_author_of.Goals as goal

pub returns-in-Some-clause-tells : goal.returns-in-Some-clause-tells
returns-in-Some-clause-tells c = λ world named found.
    let here = subst (IsRoundFound world named) c.in-Some.is found in
    let told = rw c.as_slice.ensures.value at c.lists_author.ensures in (
      λ t. lists_author_found world named c.in-Some.row c.args.author.now here (told.0 t),
      λ h. told.1 (found_lists_author world named c.in-Some.row c.args.author.now here h),
    )
