use Rattle.hall_http.proofs.Peers.{stands_so}
use Rattle.hall_http.proofs.Rested.{rests_never}
use Rattle.hall_http.proofs.client.Client.step.Goals as goal

pub returns-in-Reading-clause-rests : goal.returns-in-Reading-clause-rests
returns-in-Reading-clause-rests g c = rests_never g.H.Responder.rests _

pub returns-in-Writing-clause-rests : goal.returns-in-Writing-clause-rests
returns-in-Writing-clause-rests g c = rests_never g.H.Responder.rests _

pub returns-in-Ended-clause-rests : goal.returns-in-Ended-clause-rests
returns-in-Ended-clause-rests g c = rests_never g.H.Responder.rests _

pub returns-in-Reading-clause-stands : goal.returns-in-Reading-clause-stands
returns-in-Reading-clause-stands g c = stands_so g.H.Responder.may_wait _ _ c.read.result c.read.ensures.moved.2

pub returns-in-Writing-clause-stands : goal.returns-in-Writing-clause-stands
returns-in-Writing-clause-stands g c = stands_so g.H.Responder.may_wait _ _ c.write.result c.write.ensures.moved.2

pub returns-in-Ended-clause-stands : goal.returns-in-Ended-clause-stands
returns-in-Ended-clause-stands g c = stands_so g.H.Responder.may_wait _ _ c.leave.result c.leave.ensures.moved.2
