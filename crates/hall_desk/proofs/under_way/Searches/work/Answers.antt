use Rattle.hall_desk.proofs.Working.{worked_by}
use Rattle.hall_desk.proofs.under_way.Searches.work.Goals as goal

pub returns : goal.returns
returns c =
    let taken = c.in-Some-take.ensures in
    let gone_on = c.go_on_at.ensures in
    worked_by c.args.self.now c.args.wanted c.in-Some.place c.visits_of_turn-most.result c.in-Some-take.underway
    taken.taken c.in-Some.ensures.some c.visits_of_turn-most.ensures c.take.new.self c.go_on_at.new.self
    c.go_on_at.result taken.left gone_on.asked gone_on.ended gone_on.paused gone_on.refused
