use Rattle.std.proofs.Common.{◌≡◌, ◌∙◌, ◌≤◌, ℕ, arith, subst, sym, Some}
use Rattle.std.proofs.lemmas.Option.{same_Some}
use Rattle.hall_http.proofs.Room.{first_of_all, none_sooner, one_until, up_to}
use Rattle.hall_http.proofs.event_loop.Schedule.first_to_go.Goals.{in-Some+then-until-first, in_default}
use Rattle.hall_http.proofs.event_loop.Schedule.first_to_go.Goals.{in_default-via-in-None-1}
use Rattle.hall_http.proofs.event_loop.Schedule.first_to_go.Goals.{in_default-via-in-Some+else-until-first}
use Rattle.hall_http.proofs.event_loop.Schedule.first_to_go.Goals as goal

pub loop-place-preserved : goal.loop-place-preserved
loop-place-preserved g c =
    let places = c.args.self.now.places in
    let place = c.loop-place.place in
    let was = c.loop-place.invariant in
    elim c.match-may_go.branch [
      | in-Some+then-until-first w ↦
          let until = w.in-Some.until in
          let sooner : until ≤ c.loop-place.first = omega (arith, w.if-until-first) in
          rw (w.first-is, w.leaves-is) (record {
            leaves = w.in-Some.ensures.some;
            before = up_to places place c.loop-place.first until was.before sooner
                (λ other may. omega (arith, one_until places place until other w.in-Some.ensures.some may));
          })
      | in_default w ↦
          let late : (until : ℕ) → c.may_go.result ≡ Some until → c.loop-place.first ≤ until =
          λ until told. elim w.in_default.branch [
            | in_default-via-in-None-1 w' ↦ grind (arith, told)
            | in_default-via-in-Some+else-until-first w' ↦
                subst (λ n. c.loop-place.first ≤ n) (same_Some w'.in-Some.until until (sym w'.in-Some.is ∙ told))
                w'.if-until-first.false
          ] in
          rw (w.first-is, w.leaves-is) (record {
            leaves = was.leaves;
            before = up_to places place c.loop-place.first c.loop-place.first was.before (omega arith)
                (none_sooner places place c.loop-place.first c.may_go.result c.may_go.ensures.some c.may_go.ensures.none late);
          })
    ]

pub returns : goal.returns
returns g c =
    first_of_all c.args.self.now.places c.loop-place.leaves c.loop-place.first c.loop-place.place
    c.loop-place.invariant.leaves c.loop-place.invariant.before
    (omega (arith, c.loop-place-test.false, c.len-place-end.ensures))
