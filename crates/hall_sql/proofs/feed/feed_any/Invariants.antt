use Rattle.std.proofs.Common.{◌≡◌}
use Rattle.sqlite.specs.Values.{bound}
use Rattle.sqlite.specs.Held.{state}
use Rattle.hall_sql.specs.Standing.{AddsNoOutcome, LeadsConnection}
use Rattle.hall_sql.specs.Feed.{Taking}
use Rattle.hall_sql.proofs.feed.feed_any.Given as goal

-- the taker has taken the rows so far
abbrev pub invariant-feed : goal.invariant-feed
invariant-feed g l =
    let old = state g.S.Store l.fn.conn in
    let now = state g.S.Store l.rows.conn.now in
    (l.rows.conn.ghost_name ≡ l.initial.rows.conn.ghost_name) × LeadsConnection old now × AddsNoOutcome old now
    × Taking g.S.Store g.G.Give.read g.G.Give.takes l.sql (bound l.params) old l.rows.conn.now l.fn.taker l.taker
