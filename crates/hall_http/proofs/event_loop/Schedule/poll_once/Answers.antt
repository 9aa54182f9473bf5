use Rattle.std.proofs.Common.{◌≡◌, subst, rules, ◌++◌, ◌∷◌, [], true}
use Rattle.hall_http.specs.declared.event_loop.Look.TheVariants.{Clock}
use Rattle.hall_http.specs.Looks.{AreMore}
use Rattle.hall_http.specs.Queue.{ComeBehind}
use Rattle.hall_http.proofs.Fair.{behind_then}
use Rattle.hall_http.proofs.Looked.{all_told, all_told_before}
use Rattle.hall_http.proofs.Waited.{asked_then}
use Rattle.hall_http.proofs.event_loop.Schedule.poll_once.Goals.{then-not-tells_all+in_ok-hear_all}
use Rattle.hall_http.proofs.event_loop.Schedule.poll_once.Goals.{else-not-tells_all+else-not-is_quiet}
use Rattle.hall_http.proofs.event_loop.Schedule.poll_once.Goals as goal

pub invariant_of-self-2 : goal.invariant_of-self-2
invariant_of-self-2 g c = record {
  heard_out = λ on. elim c.if-not-tells_all.branch [
    | then-not-tells_all+in_ok-hear_all w ↦ rw w.self-is w.in_ok-hear_all.ensures.all
    | else-not-tells_all+else-not-is_quiet w ↦
        let now = c.hear.new.self.looks.items in
        let then = c.count_time-is_quiet.new.self.looks.items in
        let tells : c.tells_all.result ≡ true = search rules in
        let quiet : c.count_time-is_quiet.result ≡ true = search rules in
        let counts = c.count_time-is_quiet.ensures.counts in
        let clock : then ≡ now ++ (Clock counts.0 true, 0) ∷ [] =
        subst (λ b. then ≡ now ++ (Clock counts.0 b, 0) ∷ []) quiet counts.1 in
        rw w.self-is (∣ all_told_before now then counts.0
        (all_told c.count_time.new.self.looks.items now c.patience-patience.result c.in_ok-told.told
        c.in_ok-told.ensures.told (c.tells_all.ensures tells)) clock ∣₁)
  ];
  counts = elim c.if-not-tells_all.branch [
    | then-not-tells_all+in_ok-hear_all w ↦ rw w.self-is w.hear_all.new.self.counts
    | else-not-tells_all+else-not-is_quiet w ↦ rw w.self-is c.count_time-is_quiet.new.self.counts
  ];
}

pub returns-clause-line : goal.returns-clause-line
returns-clause-line g c =
    let first = c.args.self.now.ready in
    let then = c.count_time-is_quiet.new.self.ready in
    let so_far : ComeBehind first then =
    rw c.count_time-is_quiet.ensures.ready
    (subst (λ queue. ComeBehind queue c.hear.new.self.ready) c.count_time.ensures.ready c.hear.ensures.line) in
    rw c.try_again.ensures.ready
    (elim c.if-not-tells_all.branch [
      | then-not-tells_all+in_ok-hear_all w ↦
          rw w.self-is (behind_then first then w.hear_all.new.self.ready so_far w.hear_all.ensures.line)
      | else-not-tells_all+else-not-is_quiet w ↦ rw w.self-is so_far
    ])

pub returns-clause-more : goal.returns-clause-more
returns-clause-more g c =
    let first = c.args.self.now.looks.items in
    let heard = c.hear.new.self.looks.items in
    let then = c.count_time-is_quiet.new.self.looks.items in
    let so_far : AreMore first then =
    asked_then first heard then
    (asked_then first c.count_time.new.self.looks.items heard (_, c.count_time.ensures.counts.1) c.hear.ensures.more)
    (_, c.count_time-is_quiet.ensures.counts.1) in
    rw c.try_again.ensures.asked.0
    (elim c.if-not-tells_all.branch [
      | then-not-tells_all+in_ok-hear_all w ↦
          rw w.self-is (asked_then first then w.hear_all.new.self.looks.items so_far w.hear_all.ensures.more)
      | else-not-tells_all+else-not-is_quiet w ↦ rw w.self-is so_far
    ])
