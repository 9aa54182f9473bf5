use Rattle.std.proofs.Common.{◌∙◌, ap, true}
use Rattle.hall_http.specs.Looks.{after_look}
use Rattle.hall_http.specs.declared.event_loop.Look.TheVariants.{Clock}
use Rattle.hall_http.proofs.Waited.{time_more}
use Rattle.hall_http.proofs.event_loop.Schedule.count_time.Goals as goal

pub invariant_of-self-clause-counts : goal.invariant_of-self-clause-counts
invariant_of-self-clause-counts g c =
    let old = c.args.self.now in
    rw (c.and-self.ensures, c.count.ensures.exact, c.passed_since.ensures, c.read_after-self.ensures)
    (time_more old.looks.items _ ∙ ap (λ time. after_look time (Clock c.read_clock-read.result true, 0)) old.counts)
