use Rattle.std.proofs.Common.{sym, subst}
use Rattle.hall_desk.specs.TableCopy.{AreTablesCopied}
use Rattle.hall_desk.proofs.Copied.{tables_kept}
use Rattle.hall_desk.proofs.planning.plan_for_anyone.Goals as goal
use Rattle.hall_desk.proofs.planning.plan_for_anyone.Goals.{in-Some+in_ok-facts+in-Some-1}
use Rattle.hall_desk.proofs.planning.plan_for_anyone.Goals.{in-Some+in_ok-facts+in-None-1, in_default}

pub returns-in_err-facts-clause-copied : goal.returns-in_err-facts-clause-copied
returns-in_err-facts-clause-copied g c =
    tables_kept _ _ c.args.copied.now c.person_by_key.ensures.kept c.requires.copied

pub plan_table-requires-clause-copied : goal.plan_table-requires-clause-copied
plan_table-requires-clause-copied g c = elim c.match-asked.branch [
  | in-Some+in_ok-facts+in-Some-1 w ↦ subst (λ s. AreTablesCopied (g.S.ReadStore.content s) c.args.copied.now)
      (sym w.store-is) (tables_kept _ _ c.args.copied.now w.person_by_key.ensures.kept c.requires.copied)
  | in-Some+in_ok-facts+in-None-1 w ↦ subst (λ s. AreTablesCopied (g.S.ReadStore.content s) c.args.copied.now)
      (sym w.store-is) (tables_kept _ _ c.args.copied.now w.person_by_key.ensures.kept c.requires.copied)
  | in_default w ↦ subst (λ s. AreTablesCopied (g.S.ReadStore.content s) c.args.copied.now)
      (sym w.store-is) c.requires.copied
]
