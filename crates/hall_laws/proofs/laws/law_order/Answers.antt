use Rattle.hall_laws.proofs.HeardSo.{each_is_heard_so}
use Rattle.hall_laws.proofs.Ordered.{are_answered_in_order}
use Rattle.hall_laws.proofs.laws.law_order.Goals as goal

pub returns-clause-heard : goal.returns-clause-heard
returns-clause-heard g c = each_is_heard_so g.S.ReadStore.content g.P.Peer.traffic

pub returns-clause-order : goal.returns-clause-order
returns-clause-order g c = are_answered_in_order g.S.ReadStore.content g.P.Peer.traffic
