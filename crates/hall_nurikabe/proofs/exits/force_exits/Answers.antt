use Rattle.std.proofs.Common.{arith}
use Rattle.hall_nurikabe.proofs.AreForced.{AreForced-set}
use Rattle.hall_nurikabe.proofs.MustGrow.{nowhere_hopeless, one_forced}
use Rattle.hall_nurikabe.proofs.exits.force_exits.Goals as goal
use Rattle.hall_nurikabe.proofs.exits.force_exits.Goals.{then-growing-label+in-One, then-growing-label+in-Many}
use Rattle.hall_nurikabe.proofs.exits.force_exits.Goals.{else-growing-label}

pub returns-in-Nowhere-clause-dead : goal.returns-in-Nowhere-clause-dead
returns-in-Nowhere-clause-dead c = λ _.
    nowhere_hopeless c.args.position.now.puzzle.now c.args.position.now.partial.now.places c.args.position.now.fits
    c.args.value c.args.labels.now c.requires.labels c.loop-label.label
    c.args.exits.now c.requires.exits (c.requires.growing c.loop-label.label c.if-growing-label.true) c.in-Nowhere.is

pub loop-label-preserved : goal.loop-label-preserved
loop-label-preserved c = elim c.if-growing-label.branch [
  | then-growing-label+in-One w ↦
      rw w.forced-is
      (AreForced-set c.args.position.now.puzzle.now c.args.position.now.partial.now.places c.loop-label.forced
      w.in-One.cell c.args.value
      (c.requires.exits.below c.loop-label.label w.in-One.cell w.in-One.is) c.requires.value
      (one_forced c.args.position.now.puzzle.now c.args.position.now.partial.now.places c.args.position.now.fits
      c.args.value c.args.labels.now c.requires.labels c.loop-label.label
      c.args.exits.now c.requires.exits (c.requires.growing c.loop-label.label w.if-growing-label.true) w.in-One.cell
      w.in-One.is)
      c.loop-label.invariant)
  | then-growing-label+in-Many w ↦ rw w.forced-is c.loop-label.invariant
  | else-growing-label w ↦ rw w.forced-is c.loop-label.invariant
]

pub bounds-forced-cell : goal.bounds-forced-cell
bounds-forced-cell c =
    let low = c.requires.exits.below c.loop-label.label c.in-One.cell c.in-One.is in
    let whole = c.loop-label.invariant.exact in
    omega arith

pub offset_bounds-forced-cell : goal.offset_bounds-forced-cell
offset_bounds-forced-cell c =
    let low = c.requires.exits.below c.loop-label.label c.in-One.cell c.in-One.is in
    let whole = c.loop-label.invariant.exact in
    omega arith
