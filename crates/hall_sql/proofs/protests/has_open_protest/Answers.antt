use Rattle.std.proofs.Common.{◌≡◌, ◌↔◌, List, IsTrue, None, Contains, subst}
use Rattle.sqlite.specs.Held.{state}
use Rattle.hall_policy.specs.declared.record.ProtestRow.{ProtestRow}
use Rattle.hall_sql.proofs.ProtestOpen.{open_told}
use Rattle.hall_sql.proofs.ReadLemmas.{answers_so, refused_as}
use Rattle.hall_sql.proofs.protests.has_open_protest.Goals as goal

pub returns : goal.returns
returns g c =
    let told = subst (λ (rows : List ProtestRow). IsTrue c.is_any_open.result ↔
    ((row : ProtestRow) × Contains rows row × (row.ruling ≡ None)))
    c.deref.ensures.value c.is_any_open.ensures in
    answers_so _ _ c.in_ok-rows.ensures
    (λ clean read. open_told (state g.S.Store c.protests_in.new.conn).now.trees c.args.round.now c.is_any_open.result
    c.in_ok-rows.rows.items read told) tt

pub returns-in_err-rows : goal.returns-in_err-rows
returns-in_err-rows g c = refused_as c.from_residual.result _ c.in_err-rows.ensures c.from_residual.ensures.1
