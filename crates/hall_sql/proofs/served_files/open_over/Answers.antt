use Rattle.std.proofs.Common.{List, ℕ, Bool, cond, ap₂, subst}
use Rattle.sqlite_disk.specs.Events.{Event, replay}
use Rattle.sqlite.specs.Recovery.{Image}
use Rattle.sqlite.specs.Files.{file_state}
use Rattle.sqlite.specs.Start.{FindsIn}
use Rattle.hall_sql.proofs.served_files.open_over.Goals as goal

abbrev image : List ℕ → List ℕ → Image
image log db = record { log = log; db = db }

abbrev seen : List ℕ → List ℕ → Bool → List Event → List ℕ
seen log db is_log history = (replay (cond is_log log db) history).seen

pub returns-in-Ok-clause-found : goal.returns-in-Ok-clause-found
returns-in-Ok-clause-found g c = record {
  unlimited = c.in-Ok.ensures.fresh.unlimited;
  opened = c.in-Ok.ensures.opened;
  found = λ clean.
      let it = c.in-Ok.ensures.found clean in
      let (log, db) = c.requires in
      let start = seen g.B.Start.log g.B.Start.db in
      let same = ap₂ image (ap₂ start log.which log.calls) (ap₂ start db.which db.calls) in
      subst (λ i. FindsIn i (file_state c.in-Ok.conn)) same (record { holds = it.holds; reads = it.reads });
}

pub returns-in-Err-clause-refused : goal.returns-in-Err-clause-refused
returns-in-Err-clause-refused g c = (
  c.in-Err.ensures.named,
  (c.args.files, c.requires, λ clean. (c.in-Err.ensures.cause clean, c.in-Err.ensures.unharmed clean)),
)
