use Rattle.std.proofs.Common.{List, ℕ, true, false, ap₂, subst}
use Rattle.sqlite.specs.Recovery.{Image}
use Rattle.sqlite.specs.Files.{file_state}
use Rattle.sqlite.specs.Start.{FindsIn}
use Rattle.hall_sql.proofs.CopyLemmas.{both_true, held_first}
use Rattle.hall_sql.proofs.copied_database.open_copies.Goals as goal

abbrev image : List ℕ → List ℕ → Image
image log db = record { log = log; db = db }

pub returns-in-Ok-clause-found : goal.returns-in-Ok-clause-found
returns-in-Ok-clause-found g c = record {
  unlimited = c.in-Ok.ensures.fresh.unlimited;
  opened = c.in-Ok.ensures.opened;
  found = λ clean.
      let it = c.in-Ok.ensures.found clean in
      let clean = both_true _ _ it.honest in
      let log = held_first g.B.Start true c.args.files.log c.requires.log clean.0 in
      let db = held_first g.B.Start false c.args.files.db c.requires.db clean.1 in
      subst (λ i. FindsIn i (file_state c.in-Ok.conn)) (ap₂ image log db)
      (record { holds = it.holds; reads = it.reads });
}

pub returns-in-Err-clause-refused : goal.returns-in-Err-clause-refused
returns-in-Err-clause-refused g c = (
  c.in-Err.ensures.named,
  (c.args.files, c.requires, λ clean. (c.in-Err.ensures.cause clean, c.in-Err.ensures.unharmed clean)),
)
