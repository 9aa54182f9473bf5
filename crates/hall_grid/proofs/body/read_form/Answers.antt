use Rattle.std.proofs.Common.{inr, refl, IsTrue}
use Rattle.hall_grid.proofs.FormAt.{takes_form, has_wrong, is_cut, is_strange}
use Rattle.hall_grid.proofs.body.read_form.Goals as goal

pub returns-then-not-is_in_range-clause-err : goal.returns-then-not-is_in_range-clause-err
returns-then-not-is_in_range-clause-err c =
    inr (
      refl,
      (
        c.requires.room,
        has_wrong _ _ _ _ _ c.in-Ok.ensures
            (λ all. let yes : IsTrue c.is_in_range.result = c.is_in_range.ensures.1 all in
            let no = c.if-not-is_in_range.true in absurd (cc)),
      ),
    )

pub returns-in-Err-Strange-clause-err : goal.returns-in-Err-Strange-clause-err
returns-in-Err-Strange-clause-err c =
    inr (
      refl,
      (c.requires.room, is_strange _ _ c.requires.some (rw c.in-Err-Strange.field-0-is at c.in-Err-Strange.ensures)),
    )

pub returns-in-Err-Cut-clause-err : goal.returns-in-Err-Cut-clause-err
returns-in-Err-Cut-clause-err c =
    let cut = is_cut _ _ c.requires.some (rw c.in-Err-Cut.field-0-is at c.in-Err-Cut.ensures) in
    inr (refl, (c.requires.room, cut.0, cut.1, cut.2))

pub returns-in_ok-give-in-Ok-clause-ok : goal.returns-in_ok-give-in-Ok-clause-ok
returns-in_ok-give-in-Ok-clause-ok c =
    takes_form _ _ _ _ _ _ _ c.in-Ok.ensures
    (c.is_in_range.ensures.0 c.if-not-is_in_range.false) c.in_ok-give-in-Ok.ensures
