use Rattle.std.proofs.Common.{◌≡◌, List, false, sym, subst, rules}
use Rattle.hall_policy.specs.declared.record.ProtestRow.{ProtestRow}
use Rattle.hall_store.specs.Keyed.{HasOpen}
use Rattle.hall_store.proofs.ProtestWorlds.{open_later}
use Rattle.hall_store.proofs.Tests.{true_not_false}
use Rattle.hall_store.proofs.protest_reads.has_open.Goals as goal

pub loop-row-preserved : goal.loop-row-preserved
loop-row-preserved c =
    let round = c.args.round.now in
    let row : ProtestRow = c.in-Some.row.now in
    let rest : List ProtestRow = c.next.new.self in
    let fails : c.is_open.result ≡ false = search rules in
    let later = open_later round row rest (λ h. true_not_false c.is_open.result (c.is_open.ensures.1 h) fails) in (
      (λ h. later.0 (subst (HasOpen round) c.in-Some.ensures.steps (c.loop-row.invariant.0 h))),
      (λ h. c.loop-row.invariant.1 (subst (HasOpen round) (sym c.in-Some.ensures.steps) (later.1 h))),
    )
