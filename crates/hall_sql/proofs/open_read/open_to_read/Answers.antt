use Rattle.std.proofs.Common.{rules}
use Rattle.hall_sql.proofs.OpenedRead.{opens_so, starts_so}
use Rattle.hall_sql.proofs.open_read.open_to_read.Goals as goal

pub returns-in-Ok-take-clause-opened : goal.returns-in-Ok-take-clause-opened
returns-in-Ok-take-clause-opened g c =
    opens_so g.S.Store g.F.PathFiles.image_at g.F.PathFiles.tells g.F.PathFiles.opens c.args.files.now
    c.is_missing.new.self c.args.path.now
    c.in-Ok.conn c.in-Ok-take.found c.open.new.self (search rules) c.in-Ok.ensures.opened c.in-Ok.ensures.found
    c.in-Ok-take.ensures.taken

pub returns-in-Ok-take-clause-starts : goal.returns-in-Ok-take-clause-starts
returns-in-Ok-take-clause-starts g c =
    starts_so g.S.Store (g.F.PathFiles.image_at c.args.path.now) c.in-Ok.conn c.in-Ok-take.found c.in-Ok.ensures.found
    c.in-Ok-take.ensures.taken

pub returns-then-is_analyzed-clause-cause : goal.returns-then-is_analyzed-clause-cause
returns-then-is_analyzed-clause-cause g c = (
  c.is_missing.new.self,
  search rules,
  record {
    was = c.in-Ok.conn;
    left = c.in-Err-take.field-0.conn;
    between = c.open.new.self;
    opened = c.in-Ok.ensures.opened;
    found = c.in-Ok.ensures.found;
    declined = c.in-Err-take.ensures.declined;
    stops = c.in-Err-take.ensures.stops;
    cause = λ clean. search rules;
    closed = search rules;
  },
)

pub returns-else-is_analyzed-clause-cause : goal.returns-else-is_analyzed-clause-cause
returns-else-is_analyzed-clause-cause g c = (
  c.is_missing.new.self,
  search rules,
  record {
    was = c.in-Ok.conn;
    left = c.in-Err-take.field-0.conn;
    between = c.open.new.self;
    opened = c.in-Ok.ensures.opened;
    found = c.in-Ok.ensures.found;
    declined = c.in-Err-take.ensures.declined;
    stops = c.in-Err-take.ensures.stops;
    cause = λ clean. (search rules, c.in-Err-take.ensures.cause clean);
    closed = search rules;
  },
)
