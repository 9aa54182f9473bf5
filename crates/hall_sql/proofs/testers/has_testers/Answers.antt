use Rattle.std.proofs.Common.{rules, ◌≡◌, ◌==◌, length}
use Rattle.sqlite.specs.Held.{state}
use Rattle.hall_sql.specs.Rows.{world_of}
use Rattle.hall_sql.proofs.ReadLemmas.{answers_so, refused_as}
use Rattle.hall_sql.proofs.TesterListings.{none_told}
use Rattle.hall_sql.proofs.testers.has_testers.Goals as goal

pub returns : goal.returns
returns g c =
    let none : c.is_empty.result ≡ (length c.in_ok-all_testers.field-0.items == 0) = search rules in
    let world = world_of (state g.S.Store c.all_testers.new.conn).now.trees in
    answers_so _ _ c.in_ok-all_testers.ensures
    (λ clean told. none_told world c.in_ok-all_testers.field-0.items c.is_empty.result none told) tt

pub returns-in_err-all_testers : goal.returns-in_err-all_testers
returns-in_err-all_testers g c =
    refused_as c.from_residual.result _ c.in_err-all_testers.ensures c.from_residual.ensures.1
