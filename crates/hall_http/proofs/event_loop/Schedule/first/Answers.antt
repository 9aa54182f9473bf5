use Rattle.hall_http.proofs.Fair.{first_within, lets_go_first, popped_ahead}
use Rattle.hall_http.proofs.event_loop.Schedule.first.Goals as goal

pub returns-then-has_left-clause-line : goal.returns-then-has_left-clause-line
returns-then-has_left-clause-line g c =
    lets_go_first c.args.self.now.ready c.pop.new.self c.let_go.new.self.ready c.let_go.result c.in_ok-place.place
    c.let_go.ensures.gone c.pop.ensures.called c.pop.ensures.gone.1 c.let_go.ensures.ready

pub returns-clause-line : goal.returns-clause-line
returns-clause-line g c =
    let first = c.in_ok-place.ensures in (
      c.pop-2.ensures.called,
      popped_ahead c.args.self.now.ready c.pop-2.new.self c.in_ok-place.place c.pop-2.ensures.gone.1,
      first_within c.args.self.now.ready c.in_ok-place.place first,
    )
