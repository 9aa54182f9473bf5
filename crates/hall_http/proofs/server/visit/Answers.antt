use Rattle.std.proofs.Common.{◌∙◌, sym}
use Rattle.hall_http.specs.declared.clients.Departure.TheVariants as departure
use Rattle.hall_http.proofs.SoFar.{keeps_then, loses_before, loses_none}
use Rattle.hall_http.proofs.server.visit.Goals as goal

pub forget-requires : goal.forget-requires
forget-requires g c = rw c.in-Over.is at c.turn-step.ensures.over

pub returns-in-Over-clause-kept : goal.returns-in-Over-clause-kept
returns-in-Over-clause-kept g c =
    keeps_then g.P.Peer.traffic _ _ _ c.turn-step.ensures.kept c.forget.ensures.kept

pub returns-in-Over-clause-lost : goal.returns-in-Over-clause-lost
returns-in-Over-clause-lost g c =
    loses_before g.P.Peer.traffic c.args.clients.now c.turn-step.new.self c.forget.new.self
    c.turn-step.ensures.kept.0 c.turn-step.ensures.gone departure.Over c.args.place c.forget.ensures.lost

pub returns-in-Over-clause-others : goal.returns-in-Over-clause-others
returns-in-Over-clause-others g c = λ other differs.
    c.forget.ensures.others other differs ∙ c.turn-step.ensures.others other differs

pub returns-in_default-clause-lost : goal.returns-in_default-clause-lost
returns-in_default-clause-lost g c =
    loses_none g.P.Peer.traffic departure.Over c.args.place c.args.clients.now c.turn-step.new.self
    c.turn-step.ensures.gone

pub returns-in-Over-clause-stands : goal.returns-in-Over-clause-stands
returns-in-Over-clause-stands g c = λ k at. let clash = sym c.forget.ensures.none ∙ at in absurd cc

pub returns-in-Over-clause-over : goal.returns-in-Over-clause-over
returns-in-Over-clause-over g c = λ free. c.in-Over.is

pub returns-in_default-clause-stands : goal.returns-in_default-clause-stands
returns-in_default-clause-stands g c = λ k at. (c.in_default.not-Over, c.turn-step.ensures.stands k at)

pub returns-in-Over-clause-takes : goal.returns-in-Over-clause-takes
returns-in-Over-clause-takes g c = λ l at. let clash = sym c.forget.ensures.none ∙ at in absurd cc
