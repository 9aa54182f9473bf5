use Rattle.std.proofs.Common.{◌∙◌, refl}
use Rattle.hall_http.proofs.SoFar.{keeps_all, keeps_then}
use Rattle.hall_http.proofs.clients.Clients.finish.Goals as goal

pub loop-place-init : goal.loop-place-init
loop-place-init g c = record { kept = keeps_all g.P.Peer.traffic _; gone = refl; long = refl }

pub finish_one-requires : goal.finish_one-requires
finish_one-requires g c = (
  c.requires.0,
  c.requires.1,
  c.requires.2,
  c.loop-place.invariant.kept.1 c.requires.0 c.requires.1 c.requires.2 c.requires.3,
)

pub loop-place-preserved : goal.loop-place-preserved
loop-place-preserved g c = record {
  kept = keeps_then g.P.Peer.traffic _ _ _ c.loop-place.invariant.kept c.finish_one.ensures.kept;
  gone = c.finish_one.ensures.gone ∙ c.loop-place.invariant.gone;
  long = c.finish_one.ensures.long ∙ c.loop-place.invariant.long;
}
