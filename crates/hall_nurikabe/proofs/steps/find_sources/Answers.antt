use Rattle.std.proofs.Common.{◌≡◌, Bool, true, false, refl}
use Rattle.hall_nurikabe.proofs.AreSources.{IsSource-free, SourcesBelow-push}
use Rattle.hall_nurikabe.proofs.steps.find_sources.Goals as goal
use Rattle.hall_nurikabe.proofs.steps.find_sources.Goals.{in-None+in_ok-push-in-None+in_ok-push-in-None-2}
use Rattle.hall_nurikabe.proofs.steps.find_sources.Goals.{in-Some+in_ok-push-in-Some+in_ok-push-in-Some-2}

pub loop-cell-preserved : goal.loop-cell-preserved
loop-cell-preserved c = elim c.match-source.branch [
  | in-None+in_ok-push-in-None+in_ok-push-in-None-2 w ↦
      let board = c.args.position.now.puzzle.now in
      let s = (rw w.in-None.is at c.source.ensures) in
      rw (w.left-is, w.free-is, w.in_ok-push-in-None.ensures.items, w.in_ok-push-in-None-2.ensures.items)
      (SourcesBelow-push board c.args.labels.now c.args.sizes.now c.args.owners.now
      c.args.position.now.partial.now.places c.loop-cell.cell c.loop-cell.left.items c.loop-cell.free.items 0 true
      (λ bare. IsSource-free board c.args.labels.now c.args.sizes.now c.args.owners.now (Unit {0}) (true ≡ true)
      c.loop-cell.cell 0 (λ _. refl) (s bare))
      c.loop-cell.invariant)
  | in-Some+in_ok-push-in-Some+in_ok-push-in-Some-2 w ↦
      let board = c.args.position.now.puzzle.now in
      let s = (rw w.in-Some.is at c.source.ensures) in
      rw (w.left-is, w.free-is, w.in_ok-push-in-Some.ensures.items, w.in_ok-push-in-Some-2.ensures.items)
      (SourcesBelow-push board c.args.labels.now c.args.sizes.now c.args.owners.now
      c.args.position.now.partial.now.places c.loop-cell.cell c.loop-cell.left.items c.loop-cell.free.items
      w.in-Some.much false
      (λ bare. IsSource-free board c.args.labels.now c.args.sizes.now c.args.owners.now ⊥ (false ≡ true)
      c.loop-cell.cell w.in-Some.much (λ x. absurd x) (s bare))
      c.loop-cell.invariant)
]
