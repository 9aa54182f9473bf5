use Rattle.std.proofs.Common.{ℕ, List, sym, subst}
use Rattle.std.specs.Prelude.{ℤ}
use Rattle.hall_score.specs.Table.{IsTable}
use Rattle.hall_desk.proofs.Tablings.{table_made}
use Rattle.hall_desk.proofs.tabling.copy_of.Goals as goal

pub returns-clause-table : goal.returns-clause-table
returns-clause-table c = λ world taken.
    let written : IsTable c.in_ok-totals.totals.items c.new.result = subst
    (λ (xs : List (List ℕ × ℤ)). IsTable xs c.new.result) c.as_slice.ensures.value
    (subst (λ (bytes : List ℕ). IsTable c.as_slice.result.now bytes) (sym c.new.ensures) c.in_ok-text.ensures) in
    table_made world c.args.round c.args.taken c.in_ok-totals.totals.items c.new.result taken c.in_ok-totals.ensures
    written
