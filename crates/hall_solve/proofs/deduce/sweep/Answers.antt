use Rattle.std.proofs.lemmas.Result.{IfOk-from_err}
use Rattle.std.proofs.Common.{◌≡◌, subst, sym}
use Rattle.hall_solve.specs.Question.{Narrows}
use Rattle.hall_solve.specs.Deduction.{IsDeduced, IsForced, IsSound}
use Rattle.hall_solve.specs.Trail.{Trailed, Grows}
use Rattle.hall_solve.specs.declared.deduce.Finding.{Finding}
use Rattle.hall_solve.specs.declared.deduce.Pass.TheVariants.{Advanced, Dead}
use Rattle.hall_solve.proofs.Boards.{forced_after}
use Rattle.hall_solve.proofs.Trails.{Grows-then_set}
use Rattle.hall_solve.proofs.deduce.sweep.Goals as goal
use Rattle.hall_solve.proofs.deduce.sweep.Goals.{in-Nothing, in-Must}

pub loop-spot-preserved : goal.loop-spot-preserved
loop-spot-preserved g c =
    let q = g.L.Look.question c.args.deduction.now in
    let start = c.args.partial.now in
    let before = c.loop-spot.partial in
    let board = c.look.new.partial in
    let kept : before ≡ board = sym c.look.ensures.kept in
    let so_far = c.loop-spot.invariant in
    let narrows : Narrows q start.places board.places = subst (λ (b : Trailed). Narrows q start.places b.places) kept
    so_far.narrows in
    let deduced : IsDeduced q start.places board.places c.loop-spot.pass = subst
    (λ (b : Trailed). IsDeduced q start.places b.places c.loop-spot.pass) kept so_far.deduced in
    let grows : Grows start board = subst (λ (b : Trailed). Grows start b) kept so_far.grows in
    elim c.match-branch-2.branch [
      | in-Nothing w ↦ rw (w.partial-is, w.pass-is) (record {
        narrows = narrows;
        deduced = deduced;
        grows = grows;
        alive = so_far.alive;
      })
      | in-Must w ↦ (
          let place = w.in-Must.place in
          let value = w.in-Must.value in
          let found : IsForced q before.places place value = subst (λ (x : Finding). IsSound q before.places x)
          w.in-Must.is c.in_ok-look.ensures.sound in
          let forced : IsForced q board.places place value = subst (λ (b : Trailed). IsForced q b.places place value)
          kept found in
          let after = forced_after q start.places board.places place value c.requires narrows forced in
          let set_narrows : Narrows q start.places w.set.new.self.places = (rw w.set.ensures.places after.0) in
          let set_deduced : IsDeduced q start.places w.set.new.self.places Advanced = (rw w.set.ensures.places after) in
          rw (w.partial-is, w.pass-is) (record {
            narrows = set_narrows;
            deduced = set_deduced;
            grows = Grows-then_set start board w.set.new.self place value grows forced.unset.1 w.set.ensures.places
                w.set.ensures.trail;
            alive = λ (eq : Advanced ≡ Dead). cc;
          }))
    ]

pub returns-in_err-look-clause-deduced : goal.returns-in_err-look-clause-deduced
returns-in_err-look-clause-deduced g c = IfOk-from_err c.from_residual.result _ c.from_residual.ensures.0
