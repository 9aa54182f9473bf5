use Rattle.std.proofs.Common.{◌∙◌, rules}
use Rattle.hall_http.proofs.Fair.{behind_then}
use Rattle.hall_http.proofs.Waited.{time_more}
use Rattle.hall_http.proofs.event_loop.Schedule.hear.Goals.{then-place, else-place}
use Rattle.hall_http.proofs.event_loop.Schedule.hear.Goals as goal

pub loop-place-preserved : goal.loop-place-preserved
loop-place-preserved g c =
    let before = c.loop-place.invariant in
    elim c.if-place.branch [
      | then-place w ↦ rw w.self-is before
      | else-place w ↦
          rw w.self-is (record {
            places = search rules;
            line = behind_then c.args.self.now.ready c.loop-place.self.ready w.wake.new.self.ready before.line
                w.wake.ensures.line;
            unheard = search rules;
            told = search rules;
          })
    ]

pub invariant_of-self-2-clause-counts : goal.invariant_of-self-2-clause-counts
invariant_of-self-2-clause-counts g c =
    let old = c.args.self.now in
    rw c.and-self.ensures (time_more old.looks.items _ ∙ old.counts)
