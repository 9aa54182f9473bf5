use Rattle.std.proofs.Common.{sym, subst}
use Rattle.hall_desk.specs.Copies.{AreCopied}
use Rattle.hall_desk.specs.declared.copies.Copies.{Copies}
use Rattle.hall_desk.proofs.Copied.{copies_kept}
use Rattle.hall_desk.proofs.planning.make_plan.Goals as goal
use Rattle.hall_desk.proofs.planning.make_plan.Goals.{in-Table, in_default}

pub returns-clause-copied : goal.returns-clause-copied
returns-clause-copied g c = elim c.match-request.branch [
  | in-Table w ↦
      let new = g.S.ReadStore.content w.plan_for_anyone-plan.new.store in
      let left : AreCopied new c.args.copies.now =
      copies_kept _ _ c.args.copies.now w.plan_for_anyone-plan.ensures.kept c.requires in
      let made : AreCopied new (record c.args.copies.now { tables = w.plan_for_anyone-plan.new.copied }) = record {
        tables = w.plan_for_anyone-plan.ensures.copied;
        round = left.round;
        tabling = left.tabling;
        listings = left.listings;
      } in
      subst (λ s. AreCopied (g.S.ReadStore.content s) c.match-request.copies) (sym w.store-is)
      (subst (λ (k : Copies). AreCopied new k) (sym w.copies-is) made)
  | in_default w ↦ subst (λ s. AreCopied (g.S.ReadStore.content s) c.match-request.copies) (sym w.store-is)
      (subst (λ (k : Copies). AreCopied (g.S.ReadStore.content w.plan_by_key-plan.new.store) k) (sym w.copies-is)
      w.plan_by_key-plan.ensures.copied)
]
