use Rattle.hall_http.proofs.Patterns.{patterns_free}
use Rattle.hall_http.proofs.routes.new_router.Goals as goal

pub insert_all-requires : goal.insert_all-requires
insert_all-requires c = rw (c.new-router.ensures, c.as_slice.ensures) patterns_free

pub returns-clause-ok : goal.returns-clause-ok
returns-clause-ok c = rw (c.new-router.ensures, c.as_slice.ensures) at c.in_ok-insert_all.ensures.ok
