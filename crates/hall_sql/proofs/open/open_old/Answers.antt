use Rattle.std.proofs.Common.{inr, rules}
use Rattle.sqlite.specs.Held.{state}
use Rattle.hall_sql.proofs.OpenedLemmas.{starts_old}
use Rattle.hall_sql.proofs.open.open_old.Goals as goal

pub returns-in-Ok-Old-clause-asked : goal.returns-in-Ok-Old-clause-asked
returns-in-Ok-Old-clause-asked g c = (
  c.is_missing.new.self,
  search rules,
  record {
    was = c.in-Ok.conn;
    opened = c.in-Ok.ensures.opened;
    found = c.in-Ok.ensures.found;
    adopted = rw c.in-Ok-Old.field-0-is at c.in-Ok-Old.ensures.taken;
  },
)

pub returns-in-Ok-Old-clause-starts : goal.returns-in-Ok-Old-clause-starts
returns-in-Ok-Old-clause-starts g c =
    starts_old _ (state g.S.Store c.in-Ok.conn) (state g.S.Store c.in-Ok-Old.store) c.in-Ok.ensures.found
    (rw c.in-Ok-Old.field-0-is at c.in-Ok-Old.ensures.taken)

pub returns-in-Ok-Other-clause-asked : goal.returns-in-Ok-Other-clause-asked
returns-in-Ok-Other-clause-asked g c =
    let taken = rw c.in-Ok-Other.field-0-is at c.in-Ok-Other.ensures.taken in
    inr (
      c.is_missing.new.self,
      search rules,
      record {
        was = c.in-Ok.conn;
        left = c.in-Ok-Other.conn;
        between = c.open.new.self;
        opened = c.in-Ok.ensures.opened;
        found = c.in-Ok.ensures.found;
        declined = taken.0;
        stops = taken.1;
        cause = taken.2;
        closed = search rules;
      },
    )
