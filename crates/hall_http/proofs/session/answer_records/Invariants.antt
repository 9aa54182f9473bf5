use Rattle.std.proofs.Common.{◌≡◌, ◌≤◌, ◌+◌, ◌-◌, ◌*◌, length}
use Rattle.hall_desk.specs.Desk.{kept_by}
use Rattle.hall_http.proofs.Turns.{Kept}
use Rattle.hall_http.proofs.session.answer_records.Given as goal

abbrev pub invariant-records : goal.invariant-records
invariant-records g l = record {
  few : l.reads ≤ 1000000000;
  reader : l.reader.failures ≡ l.fn.reader.failures;
  writer : l.writer.failures ≡ l.fn.writer.failures;
  kept : Kept g.S.ReadStore.content (g.R.Read.remaining l.fn.reader.device) (g.R.Read.remaining l.reader.device)
      (g.W.Write.contents l.fn.writer.device) (g.W.Write.contents l.writer.device)
      (kept_by l.fn.desk) (kept_by l.desk) l.inbox l.reads l.fn.reader.calls l.reader.calls;
}

abbrev pub decreases-records : goal.decreases-records
decreases-records g l = (1000000000 - l.reads) * 4097 + length l.inbox
