use Rattle.std.proofs.Common.{rules, ◌≡◌}
use Rattle.sqlite.specs.Held.{state}
use Rattle.hall_sql.proofs.WriteCauseLemmas.{many_refused}
use Rattle.hall_sql.proofs.puzzles.put_found.Goals as goal

pub returns-in_default-clause-cause : goal.returns-in_default-clause-cause
returns-in_default-clause-cause g c clean failed =
    let some : ¬ (c.args.count ≡ 0) = search rules in
    let more : ¬ (c.args.count ≡ 1) = search rules in
    many_refused c.args.row.now c.args.count (state g.S.Store c.args.conn.now) c.requires.hall c.live.ensures clean
    (c.requires.found clean) some more
