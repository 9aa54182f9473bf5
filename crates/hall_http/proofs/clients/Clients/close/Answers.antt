use Rattle.std.proofs.Common.{◌∙◌, ◌<◌, ap, arith, inr, length, None, refl}
use Rattle.std.proofs.lemmas.List.{length-set}
use Rattle.hall_http.proofs.Numbers.{all_freed, freed_more}
use Rattle.hall_http.proofs.SoFar.{keeps_all, keeps_then, leave_more, leave_none}
use Rattle.hall_http.proofs.clients.Clients.close.Goals as goal

pub loop-place-init : goal.loop-place-init
loop-place-init g c = record {
  long = refl;
  freed = λ i. inr (omega arith);
  kept = keeps_all g.P.Peer.traffic _;
  left = leave_none g.P.Peer.traffic c.args.self.now;
}

pub forget-requires : goal.forget-requires
forget-requires g c = λ k at. tt

pub loop-place-preserved : goal.loop-place-preserved
loop-place-preserved g c =
    let inside : c.loop-place.place < length c.loop-place.self.places.items =
    omega (arith, c.loop-place-test.true, c.len-place-end.ensures, c.loop-place.invariant.long) in
    let is = c.forget.ensures.free inside in
    record {
      long = ap length is ∙ length-set c.loop-place.self.places.items c.loop-place.place None
          ∙ c.loop-place.invariant.long;
      freed = freed_more _ _ _ inside is c.loop-place.invariant.freed;
      kept = keeps_then g.P.Peer.traffic _ _ _ c.loop-place.invariant.kept c.forget.ensures.kept;
      left = leave_more g.P.Peer.traffic c.args.self.now c.loop-place.self c.forget.new.self
          c.loop-place.invariant.kept.0 c.loop-place.place c.loop-place.invariant.left c.forget.ensures.lost;
    }

pub returns-clause-none : goal.returns-clause-none
returns-clause-none g c =
    all_freed _ _ (omega (arith, c.loop-place-test.false, c.len-place-end.ensures, c.loop-place.invariant.long))
    c.loop-place.invariant.freed
