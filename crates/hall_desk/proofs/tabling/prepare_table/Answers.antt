use Rattle.std.proofs.Common.{Option, subst}
use Rattle.std.specs.Prelude.{IfSome}
use Rattle.hall_policy.specs.World.{IsRoundAt}
use Rattle.hall_policy.specs.declared.record.RoundRow.{RoundRow}
use Rattle.hall_desk.specs.Wanted.{AsksTable}
use Rattle.hall_desk.proofs.Copied.{copies_kept}
use Rattle.hall_desk.proofs.Tablings.{table_waits}
use Rattle.hall_desk.proofs.tabling.prepare_table.Goals as goal

pub returns-in_err-row-clause-copied : goal.returns-in_err-row-clause-copied
returns-in_err-row-clause-copied g c = copies_kept _ _ c.args.copies.now c.told_round.ensures.kept c.requires.copied

pub go_on-requires-clause-copied : goal.go_on-requires-clause-copied
go_on-requires-clause-copied g c = copies_kept _ _ c.args.copies.now c.told_round.ensures.kept c.requires.copied

pub returns-in-None-clause-copied : goal.returns-in-None-clause-copied
returns-in-None-clause-copied g c = copies_kept _ _ c.args.copies.now c.told_round.ensures.kept c.requires.copied

pub returns-in-Some-clause-waits : goal.returns-in-Some-clause-waits
returns-in-Some-clause-waits g c = λ waits.
    let old = g.S.ReadStore.content c.told_round.new.store in
    let request = c.args.request.now in
    table_waits old (g.S.ReadStore.content c.go_on.new.store) request c.args.round.now c.args.copies.now
    c.go_on.new.copies c.requires.action c.go_on.ensures.kept
    (λ h.
    let told = c.in_ok-row.ensures.told h in (
      told.0,
      (subst (λ (found : Option RoundRow). IfSome found
          (λ row. IsRoundAt old.world c.args.round.now row × AsksTable old.world request)) c.in-Some.is told.1).1,
    ))
    (c.go_on.ensures.waits waits)
