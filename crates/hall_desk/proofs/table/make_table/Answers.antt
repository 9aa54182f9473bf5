use Rattle.std.proofs.Common.{ℕ, List, sym, subst}
use Rattle.std.specs.Prelude.{ℤ}
use Rattle.hall_policy.specs.World.{World, IsRoundAt}
use Rattle.hall_score.specs.Table.{IsTable}
use Rattle.hall_store.specs.Store.{Asks}
use Rattle.hall_desk.specs.Totals.{IsTableAt}
use Rattle.hall_desk.proofs.Copied.{kept_table, tables_kept, tables_more}
use Rattle.hall_desk.proofs.table.make_table.Goals as goal

pub returns-in-Some-clause-served : goal.returns-in-Some-clause-served
returns-in-Some-clause-served g c = λ h.
    let (copy, there, same, alike) = rw c.in-Some.is at c.in_ok-text.ensures in
    let serves = (c.requires.row h).0 in (
      serves,
      kept_table (g.S.ReadStore.content c.args.store.now) c.args.copied.now copy c.args.round.now c.in-Some.text
          c.requires.copied there same alike h serves,
    )

pub returns-in_err-totals-clause-copied : goal.returns-in_err-totals-clause-copied
returns-in_err-totals-clause-copied g c = tables_kept _ _ c.args.copied.now c.find_totals.ensures.kept c.requires.copied

pub returns-in_err-text-2-clause-copied : goal.returns-in_err-text-2-clause-copied
returns-in_err-text-2-clause-copied g c = tables_kept _ _ c.args.copied.now c.find_totals.ensures.kept c.requires.copied

pub returns-clause-copied : goal.returns-clause-copied
returns-clause-copied g c =
    let kept = c.find_totals.ensures.kept in
    let new = g.S.ReadStore.content c.find_totals.new.store in
    let written : IsTable c.in_ok-totals.totals.items c.as_str.result.now = subst
    (λ (xs : List (List ℕ × ℤ)). IsTable xs c.as_str.result.now) c.as_slice.ensures.value
    (subst (λ (bytes : List ℕ). IsTable c.as_slice.result.now bytes) (sym c.as_str.ensures.value)
    c.in_ok-text-2.ensures) in
    let told : Asks new (λ world. IsTableAt world c.args.round.now c.as_str.result.now) = λ h s. (
      c.args.row.now,
      subst (λ (w : World). IsRoundAt w c.args.round.now c.args.row.now) (sym (kept.world h s))
          (c.requires.row (kept.honest h)).1,
      (c.in_ok-totals.totals.items, (c.in_ok-totals.ensures.served h).1, written),
    ) in
    tables_more new c.args.copied.now c.keep.new.copied c.args.round.now c.as_str.result.now
    (tables_kept _ _ c.args.copied.now kept c.requires.copied) c.keep.ensures told
