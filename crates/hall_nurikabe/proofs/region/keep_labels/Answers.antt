use Rattle.std.proofs.Common.{◌≡◌, ◌<◌, length, true, sym, ◌∙◌, ap, arith}
use Rattle.std.specs.Prelude.{not}
use Rattle.hall_nurikabe.proofs.Marks.{is_set, set_from_test}
use Rattle.hall_nurikabe.proofs.AreKept.{KeptBelow-set, KeptBelow-clear, AreKept-from_below}
use Rattle.hall_nurikabe.proofs.region.keep_labels.Goals as goal
use Rattle.hall_nurikabe.proofs.region.keep_labels.Goals.{then-ne, else-ne}

pub loop-place-preserved : goal.loop-place-preserved
loop-place-preserved c =
    let p = c.args.partial.now.places in
    let place = c.loop-place.place in
    let small : place < length c.loop-place.labels = omega (
      arith,
      c.loop-place-test.true,
      c.loop-place.invariant.exact,
    ) in
    elim c.if-ne.branch [
      | then-ne w ↦
          rw w.labels-is
          (KeptBelow-clear p c.args.value place c.args.labels.now c.loop-place.labels c.loop-place.invariant small
          (λ e.
          let yes = (is_set c.get.result c.args.value).1 (c.get.ensures ∙ e) in
          let no : true ≡ not true = sym w.if-ne.true ∙ c.ne.ensures ∙ ap not yes in
          cc))
      | else-ne w ↦
          rw w.labels-is
          (KeptBelow-set p c.args.value place c.args.labels.now c.loop-place.labels c.loop-place.invariant
          (sym c.get.ensures ∙ set_from_test c.get.result c.args.value (sym w.if-ne.false ∙ c.ne.ensures)))
    ]

pub returns : goal.returns
returns c =
    AreKept-from_below c.args.partial.now.places c.args.value c.loop-place.place c.args.labels.now c.loop-place.labels
    (omega (arith, c.loop-place-test.false)) c.loop-place.invariant
