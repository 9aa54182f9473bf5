use Rattle.std.proofs.Common.{◌≡◌}
use Rattle.hall_http.proofs.Handling.{Kept, left_of}
use Rattle.hall_http.proofs.blocking.serve_requests.Given as goal

abbrev pub invariant-loop-connection : goal.invariant-loop-connection
invariant-loop-connection g l = record {
  reader : l.reader.failures ≡ l.fn.reader.failures;
  writer : l.writer.failures ≡ l.fn.writer.failures;
  kept : Kept g.H.Responder.answers g.C.Clock.now_gives
      (g.R.Read.remaining l.fn.reader.device) (g.R.Read.remaining l.reader.device)
      (g.W.Write.contents l.fn.writer.device) (g.W.Write.contents l.writer.device)
      l.fn.responder l.fn.clock l.responder l.clock l.connection l.fn.reader.calls l.reader.calls;
}

abbrev pub decreases-loop-connection : goal.decreases-loop-connection
decreases-loop-connection g l = left_of l.connection
