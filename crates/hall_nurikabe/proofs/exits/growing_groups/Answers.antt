use Rattle.std.proofs.Common.{◌≡◌, None, get_or, subst, inl, inr, arith}
use Rattle.std.proofs.lemmas.List.{length_push}
use Rattle.hall_grid.specs.Component.{IsLabelled}
use Rattle.hall_nurikabe.specs.Exit.{NeedsMore}
use Rattle.hall_nurikabe.proofs.Marks.{marked_push}
use Rattle.hall_nurikabe.proofs.exits.growing_groups.Goals as goal

pub loop-label-preserved : goal.loop-label-preserved
loop-label-preserved c =
    let exact = c.loop-label.invariant.exact in
    rw c.in_ok-push.ensures.items
    record {
      exact = (let k = length_push c.loop-label.growing.items c.is_growing.result in omega arith);
      marked = λ label h. elim (marked_push c.loop-label.growing.items c.is_growing.result label h) [
        | inl k ↦ c.loop-label.invariant.marked label k
        | inr k ↦
            let same : c.loop-label.label ≡ label = let e = k.0 in omega arith in
            subst (λ l. IsLabelled c.args.labels.now l l × NeedsMore c.args.puzzle.now (get_or c.args.owners.now l None)
            (get_or c.args.sizes.now l 0)) same
            (c.is_growing.ensures.label k.1, c.is_growing.ensures.more k.1)
      ];
    }
