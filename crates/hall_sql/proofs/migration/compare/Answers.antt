use Rattle.std.proofs.Common.{rules, ◌≡◌}
use Rattle.sqlite.specs.Held.{state}
use Rattle.hall_sql.specs.WholeRows.{AreSameRows, count_of}
use Rattle.hall_sql.proofs.MigrationLemmas.{compared, finds_nothing, finds_others, finds_these, six_fail, testers_fail}
use Rattle.hall_store.proofs.Knowing.{fails_as}
use Rattle.hall_sql.proofs.StoreLemmas.{rested_hall, rests_on}
use Rattle.hall_sql.proofs.migration.compare.Goals as goal

pub returns-in_err-held-clause-rested : goal.returns-in_err-held-clause-rested
returns-in_err-held-clause-rested g c =
    rested_hall {old = state g.T.Store c.args.conn.now} {new = state g.T.Store c.read_rows.new.conn} c.requires.hall
    c.in_err-held.ensures.rested

pub has_testers-requires : goal.has_testers-requires
has_testers-requires g c = record {
  hall = (rested_hall {old = state g.T.Store c.args.conn.now} {new = state g.T.Store c.read_rows.new.conn}
      c.requires.hall c.in_ok-held.ensures.rested).tabled;
}

pub returns-in_err-has_testers-clause-rested : goal.returns-in_err-has_testers-clause-rested
returns-in_err-has_testers-clause-rested g c =
    let first = rested_hall {old = state g.T.Store c.args.conn.now} {new = state g.T.Store c.read_rows.new.conn}
    c.requires.hall c.in_ok-held.ensures.rested in
    rests_on (state g.T.Store c.args.conn.now) (state g.T.Store c.read_rows.new.conn)
    (state g.T.Store c.has_testers.new.conn) first c.in_err-has_testers.ensures.rested

pub returns-then-branch-clause-rested : goal.returns-then-branch-clause-rested
returns-then-branch-clause-rested g c =
    let first = rested_hall {old = state g.T.Store c.args.conn.now} {new = state g.T.Store c.read_rows.new.conn}
    c.requires.hall c.in_ok-held.ensures.rested in
    rests_on (state g.T.Store c.args.conn.now) (state g.T.Store c.read_rows.new.conn)
    (state g.T.Store c.has_testers.new.conn) first c.in_ok-has_testers.ensures.rested

pub returns-then-is_empty-clause-rested : goal.returns-then-is_empty-clause-rested
returns-then-is_empty-clause-rested g c =
    let first = rested_hall {old = state g.T.Store c.args.conn.now} {new = state g.T.Store c.read_rows.new.conn}
    c.requires.hall c.in_ok-held.ensures.rested in
    rests_on (state g.T.Store c.args.conn.now) (state g.T.Store c.read_rows.new.conn)
    (state g.T.Store c.has_testers.new.conn) first c.in_ok-has_testers.ensures.rested

pub returns-then-is_same-clause-rested : goal.returns-then-is_same-clause-rested
returns-then-is_same-clause-rested g c =
    let first = rested_hall {old = state g.T.Store c.args.conn.now} {new = state g.T.Store c.read_rows.new.conn}
    c.requires.hall c.in_ok-held.ensures.rested in
    rests_on (state g.T.Store c.args.conn.now) (state g.T.Store c.read_rows.new.conn)
    (state g.T.Store c.has_testers.new.conn) first c.in_ok-has_testers.ensures.rested

pub returns-clause-rested : goal.returns-clause-rested
returns-clause-rested g c =
    let first = rested_hall {old = state g.T.Store c.args.conn.now} {new = state g.T.Store c.read_rows.new.conn}
    c.requires.hall c.in_ok-held.ensures.rested in
    rests_on (state g.T.Store c.args.conn.now) (state g.T.Store c.read_rows.new.conn)
    (state g.T.Store c.has_testers.new.conn) first c.in_ok-has_testers.ensures.rested

pub returns-then-is_empty-clause-served : goal.returns-then-is_empty-clause-served
returns-then-is_empty-clause-served g c =
    let zero : count_of c.in_ok-held.held ≡ 0 = search rules in
    finds_nothing (state g.T.Store c.read_rows.new.conn) (state g.T.Store c.has_testers.new.conn) c.in_ok-held.held
    c.in_ok-has_testers.ensures.rested
    c.in_ok-held.ensures.served c.in_ok-has_testers.field-0 c.in_ok-has_testers.ensures.served c.if-branch.false zero

pub returns-then-is_same-clause-served : goal.returns-then-is_same-clause-served
returns-then-is_same-clause-served g c =
    let same : AreSameRows c.in_ok-held.held c.args.rows.now = search rules in
    finds_these (state g.T.Store c.read_rows.new.conn) (state g.T.Store c.has_testers.new.conn) c.in_ok-held.held
    c.in_ok-has_testers.ensures.rested
    c.in_ok-held.ensures.served c.in_ok-has_testers.field-0 c.in_ok-has_testers.ensures.served c.args.rows.now
    c.if-branch.false same

pub returns-clause-served : goal.returns-clause-served
returns-clause-served g c =
    let some : ¬ (count_of c.in_ok-held.held ≡ 0) = search rules in
    let apart : ¬ (AreSameRows c.in_ok-held.held c.args.rows.now) = search rules in
    finds_others (state g.T.Store c.read_rows.new.conn) (state g.T.Store c.has_testers.new.conn) c.in_ok-held.held
    c.in_ok-has_testers.ensures.rested
    c.in_ok-held.ensures.served c.in_ok-has_testers.field-0 c.in_ok-has_testers.ensures.served c.args.rows.now some
    apart

pub returns-then-branch-clause-whole : goal.returns-then-branch-clause-whole
returns-then-branch-clause-whole g c =
    compared (state g.T.Store c.args.conn.now) (state g.T.Store c.read_rows.new.conn)
    (state g.T.Store c.has_testers.new.conn) c.requires.hall c.in_ok-held.ensures.rested
    (λ clean. (c.in_ok-held.ensures.served clean).0) c.in_ok-held.ensures.whole c.in_ok-has_testers.ensures.rested
    c.in_ok-has_testers.ensures.whole

pub returns-then-is_empty-clause-whole : goal.returns-then-is_empty-clause-whole
returns-then-is_empty-clause-whole g c =
    compared (state g.T.Store c.args.conn.now) (state g.T.Store c.read_rows.new.conn)
    (state g.T.Store c.has_testers.new.conn) c.requires.hall c.in_ok-held.ensures.rested
    (λ clean. (c.in_ok-held.ensures.served clean).0) c.in_ok-held.ensures.whole c.in_ok-has_testers.ensures.rested
    c.in_ok-has_testers.ensures.whole

pub returns-then-is_same-clause-whole : goal.returns-then-is_same-clause-whole
returns-then-is_same-clause-whole g c =
    compared (state g.T.Store c.args.conn.now) (state g.T.Store c.read_rows.new.conn)
    (state g.T.Store c.has_testers.new.conn) c.requires.hall c.in_ok-held.ensures.rested
    (λ clean. (c.in_ok-held.ensures.served clean).0) c.in_ok-held.ensures.whole c.in_ok-has_testers.ensures.rested
    c.in_ok-has_testers.ensures.whole

pub returns-clause-whole : goal.returns-clause-whole
returns-clause-whole g c =
    compared (state g.T.Store c.args.conn.now) (state g.T.Store c.read_rows.new.conn)
    (state g.T.Store c.has_testers.new.conn) c.requires.hall c.in_ok-held.ensures.rested
    (λ clean. (c.in_ok-held.ensures.served clean).0) c.in_ok-held.ensures.whole c.in_ok-has_testers.ensures.rested
    c.in_ok-has_testers.ensures.whole

pub returns-in_err-held-clause-cause : goal.returns-in_err-held-clause-cause
returns-in_err-held-clause-cause g c clean =
    fails_as c.from_residual.result _ _ c.from_residual.ensures.1 (λ failed.
    six_fail (state g.T.Store c.args.conn.now) (state g.T.Store c.read_rows.new.conn)
    (c.in_err-held.ensures.cause clean failed))

pub returns-in_err-has_testers-clause-cause : goal.returns-in_err-has_testers-clause-cause
returns-in_err-has_testers-clause-cause g c clean =
    fails_as c.from_residual-in_err-has_testers.result _ _ c.from_residual-in_err-has_testers.ensures.1 (λ failed.
    testers_fail (state g.T.Store c.args.conn.now) (state g.T.Store c.read_rows.new.conn)
    (state g.T.Store c.has_testers.new.conn) c.requires.hall
    c.in_ok-held.ensures.rested (λ was. (c.in_ok-held.ensures.served was).0) c.in_err-has_testers.ensures.rested clean
    (c.in_err-has_testers.ensures.cause clean failed))
