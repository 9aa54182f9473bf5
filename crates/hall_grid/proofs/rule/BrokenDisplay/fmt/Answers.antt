use Rattle.std.proofs.Common.{◌≡◌, ◌↔◌, ◌+◌, IsTrue, refl, ◌++◌, ◌∷◌, take}
use Rattle.std.specs.List.{flat_map}
use Rattle.std.proofs.Output.{has_written_append, has_written_of_eq}
use Rattle.hall_grid.specs.Rule.{Names, named_text, name_of, all_rules}
use Rattle.hall_grid.proofs.NameSets.{rule_at}
use Rattle.hall_grid.proofs.VerdictText.{named_more, unnamed_more, verdict_is}
use Rattle.hall_grid.proofs.rule.BrokenDisplay.fmt.Goals as goal
use Rattle.hall_grid.proofs.rule.BrokenDisplay.fmt.Goals.{then-contains+in_ok-write-2, else-contains}

pub loop-rule-preserved : goal.loop-rule-preserved
loop-rule-preserved g c = λ p.
    let n : IsTrue c.contains.result ↔ Names c.args.self.now (rule_at c.loop-rule.rule-index) = c.contains.ensures in
    elim c.if-contains.branch [
      | then-contains+in_ok-write-2 w ↦ rw w.f-is (has_written_of_eq _ _ _ _ _
          (let e : flat_map (named_text c.args.self.now)
          (take c.loop-rule.rule-index all_rules) ++ (32 ∷ name_of (rule_at c.loop-rule.rule-index))
          ≡ flat_map (named_text c.args.self.now) (take (c.loop-rule.rule-index + 1) all_rules) =
          named_more c.args.self.now c.loop-rule.rule-index _ c.loop-rule-test.true w.if-contains.true n in e)
          (has_written_append _ _ _ _ _ _ (c.loop-rule.invariant p)
          (rw w.name.ensures at (w.in_ok-write-2.ensures.writes (c.loop-rule.invariant p).plain refl))))
      | else-contains w ↦ rw w.f-is (has_written_of_eq _ _ _ _ _
          (unnamed_more c.args.self.now c.loop-rule.rule-index _ c.loop-rule-test.true w.if-contains.false n)
          (c.loop-rule.invariant p))
    ]

pub returns-clause-writes : goal.returns-clause-writes
returns-clause-writes g c = λ p ok.
    let start = c.in_ok-write.ensures.writes p refl in
    let some : c.args.self.now ≡ 0 → ⊥ = rw c.self.view_is at c.if-self-eq0.false in
    has_written_of_eq _ _ _ _ _ (verdict_is c.args.self.now c.loop-rule.rule-index some c.loop-rule-test.false)
    (has_written_append _ _ _ _ _ _ start (c.loop-rule.invariant start.plain))
