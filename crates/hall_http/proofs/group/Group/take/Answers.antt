use Rattle.std.proofs.Common.{refl}
use Rattle.hall_http.proofs.Gathered.{gathered_more, taken_off}
use Rattle.hall_http.proofs.Rested.{rests_never}
use Rattle.hall_http.proofs.group.Group.take.Goals as goal

pub returns-in_default-clause-rests : goal.returns-in_default-clause-rests
returns-in_default-clause-rests g c = rests_never g.H.Responder.rests _

pub returns-then-have-clause-rests : goal.returns-then-have-clause-rests
returns-then-have-clause-rests g c = rests_never g.H.Responder.rests _

pub returns-in-None-clause-gathered : goal.returns-in-None-clause-gathered
returns-in-None-clause-gathered g c = record {
  waiting = c.requires.gathered.waiting;
  joined = c.in-None.ensures.joined _ c.requires.gathered.joined;
}

pub returns-in-Some-join-clause-gathered : goal.returns-in-Some-join-clause-gathered
returns-in-Some-join-clause-gathered g c =
    gathered_more g.H.Responder.have_joined c.args.clients.now c.args.self.now.members.items c.in-Some.one
    c.in-Some-join.joined _ _ _ c.requires.gathered.waiting (rw c.as_slice.ensures.value at (c.have.ensures c.if-have.false))
    (c.in-Some-join.ensures.joined _ c.requires.gathered.joined) c.push_reserved.ensures.items refl

pub returns-in-Some-join-clause-takes : goal.returns-in-Some-join-clause-takes
returns-in-Some-join-clause-takes g c = (
  _,
  c.push_reserved.ensures.items,
  taken_off c.in-Some.one _ c.in-Some.ensures.0 _ c.pop-first.result c.in-Some.ensures.1 c.pop-first.ensures,
)
