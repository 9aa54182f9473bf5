use Rattle.std.proofs.Common.{◌≡◌, length}
use Rattle.hall_http.proofs.Bytes.{HasWritten}
use Rattle.hall_http.proofs.device.write_all.Given as goal

abbrev pub invariant-loop-rest : goal.invariant-loop-rest
invariant-loop-rest g l = record {
  written : HasWritten (g.W.Write.contents l.initial.writer.device) (g.W.Write.contents l.writer.device) l.bytes l.rest;
  same : l.writer.failures ≡ l.initial.writer.failures;
}

abbrev pub decreases-loop-rest : goal.decreases-loop-rest
decreases-loop-rest g l = length l.rest
