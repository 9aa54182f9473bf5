use Rattle.std.proofs.Common.{rules}
use Rattle.hall_http.proofs.Fair.{behind_then, calls_then}
use Rattle.hall_http.proofs.Waited.{asked_then, hands_out_then, still_then}
use Rattle.hall_http.proofs.event_loop.Schedule.next.Goals as goal

pub returns-in-Some-first-clause-line : goal.returns-in-Some-first-clause-line
returns-in-Some-first-clause-line g c =
    let old = c.args.self.now.ready in
    let judged = c.judge_heard.new.self.ready in
    calls_then old judged c.first.new.self.ready c.in-Some-first.next
    (behind_then old c.loop-round.self.ready judged c.loop-round.invariant.line c.in_default.ensures.line)
    c.in-Some-first.ensures.line

pub returns-then-self-clause-line : goal.returns-then-self-clause-line
returns-then-self-clause-line g c =
    let old = c.args.self.now.ready in
    let judged = c.judge_heard.new.self.ready in
    behind_then old judged c.first.new.self.ready
    (behind_then old c.loop-round.self.ready judged c.loop-round.invariant.line c.in_default.ensures.line)
    c.in_default-first.ensures.line

pub returns-then-is_err-clause-line : goal.returns-then-is_err-clause-line
returns-then-is_err-clause-line g c =
    let old = c.args.self.now.ready in
    let judged = c.judge_heard.new.self.ready in
    let first = c.first.new.self.ready in
    behind_then old first c.poll_once.new.self.ready
    (behind_then old judged first
    (behind_then old c.loop-round.self.ready judged c.loop-round.invariant.line c.in_default.ensures.line)
    c.in_default-first.ensures.line) c.poll_once.ensures.line

pub loop-round-preserved : goal.loop-round-preserved
loop-round-preserved g c =
    let old = c.args.self.now.ready in
    let judged = c.judge_heard.new.self.ready in
    let first = c.first.new.self.ready in
    record {
      places = search rules;
      line = behind_then old first c.poll_once.new.self.ready
          (behind_then old judged first
          (behind_then old c.loop-round.self.ready judged c.loop-round.invariant.line c.in_default.ensures.line)
          c.in_default-first.ensures.line) c.poll_once.ensures.line;
      more = asked_then c.args.self.now.looks.items c.first.new.self.looks.items c.poll_once.new.self.looks.items
          (rw (c.in_default-first.ensures.asked, c.in_default.ensures.asked) c.loop-round.invariant.more)
          c.poll_once.ensures.more;
    }

pub returns-in-Some-clause-line : goal.returns-in-Some-clause-line
returns-in-Some-clause-line g c =
    calls_then c.args.self.now.ready c.loop-round.self.ready c.judge_heard.new.self.ready c.in-Some.next
    c.loop-round.invariant.line c.in-Some.ensures.line

pub returns-in-Some-first-clause-handed_out : goal.returns-in-Some-first-clause-handed_out
returns-in-Some-first-clause-handed_out g c =
    let old = c.args.self.now.places in
    let judged = c.judge_heard.new.self.places in
    let given = c.in-Some-first.ensures.handed_out in
    hands_out_then old judged c.first.new.self.places c.in-Some-first.next
    (still_then old c.loop-round.self.places judged c.loop-round.invariant.places c.in_default.ensures.handed_out.0)
    given.0
