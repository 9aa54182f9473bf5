use Rattle.std.proofs.lemmas.Result.{IfOk-weaker}
use Rattle.sqlite.specs.Held.{state}
use Rattle.hall_sql.specs.Rows.{world_of}
use Rattle.hall_sql.proofs.ReadLemmas.{answers_so, refused_as}
use Rattle.hall_sql.proofs.TesterListings.{names_told}
use Rattle.hall_sql.proofs.testers.testers_of.Goals as goal

pub returns : goal.returns
returns g c =
    let world = world_of (state g.S.Store c.keyed_testers.new.conn).now.trees in
    answers_so c.names_of.result _ c.in_ok-testers.ensures
    (λ clean told. IfOk-weaker c.names_of.result _ _
    (λ names is. names_told world c.args.round.now c.in_ok-testers.testers.items told names.items is)
    c.names_of.ensures.names)
    c.names_of.ensures.memory

pub returns-in_err-testers : goal.returns-in_err-testers
returns-in_err-testers g c = refused_as c.from_residual.result _ c.in_err-testers.ensures c.from_residual.ensures.1
