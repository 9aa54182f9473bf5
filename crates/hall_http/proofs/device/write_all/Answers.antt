use Rattle.std.proofs.Common.{inl, ◌∙◌, arith}
use Rattle.std.proofs.lemmas.List.{take_rest}
use Rattle.hall_http.proofs.Bytes.{HasWritten-more}
use Rattle.hall_http.proofs.device.write_all.Goals as goal

pub loop-rest-preserved : goal.loop-rest-preserved
loop-rest-preserved g c = record {
  written = rw take_rest (HasWritten-more _ _ _ _ _ c.in-Ok.n c.loop-rest.invariant.written c.in-Ok.ensures.bytes);
  same = c.in-Ok.ensures.counted.1 (inl (let k = c.in-Ok.n-test.1 in omega arith)) ∙ c.loop-rest.invariant.same;
}
