use Rattle.std.proofs.Common.{rules}
use Rattle.sqlite.specs.Held.{state}
use Rattle.hall_sql.proofs.OpenedLemmas.{starts}
use Rattle.hall_sql.proofs.open.open_at.Goals as goal

pub returns-in-Ok-over-clause-starts : goal.returns-in-Ok-over-clause-starts
returns-in-Ok-over-clause-starts g c =
    starts _ (state g.S.Store c.in-Ok.conn) (state g.S.Store c.in-Ok-over.store) c.in-Ok.ensures.found
    c.in-Ok-over.ensures.adopted

pub returns-then-is_old-clause-cause : goal.returns-then-is_old-clause-cause
returns-then-is_old-clause-cause g c = record {
  was = c.in-Ok.conn;
  left = c.in-Err-over.field-0.conn;
  between = c.open.new.self;
  opened = c.in-Ok.ensures.opened;
  found = c.in-Ok.ensures.found;
  declined = c.in-Err-over.ensures.declined;
  stops = c.in-Err-over.ensures.stops;
  cause = λ clean. search rules;
  closed = search rules;
}

pub returns-then-is_analyzed-clause-cause : goal.returns-then-is_analyzed-clause-cause
returns-then-is_analyzed-clause-cause g c = record {
  was = c.in-Ok.conn;
  left = c.in-Err-over.field-0.conn;
  between = c.open.new.self;
  opened = c.in-Ok.ensures.opened;
  found = c.in-Ok.ensures.found;
  declined = c.in-Err-over.ensures.declined;
  stops = c.in-Err-over.ensures.stops;
  cause = λ clean. (search rules, search rules);
  closed = search rules;
}

pub returns-else-is_analyzed-clause-cause : goal.returns-else-is_analyzed-clause-cause
returns-else-is_analyzed-clause-cause g c = record {
  was = c.in-Ok.conn;
  left = c.in-Err-over.field-0.conn;
  between = c.open.new.self;
  opened = c.in-Ok.ensures.opened;
  found = c.in-Ok.ensures.found;
  declined = c.in-Err-over.ensures.declined;
  stops = c.in-Err-over.ensures.stops;
  cause = λ clean. (search rules, search rules, c.in-Err-over.ensures.cause clean);
  closed = search rules;
}
