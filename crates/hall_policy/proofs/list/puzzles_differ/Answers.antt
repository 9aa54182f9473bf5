use Rattle.std.proofs.Common.{false, true, ◌≡◌}
use Rattle.std.proofs.lemmas.Bool.{false≢true}
use Rattle.hall_policy.specs.declared.record.Entry.{Entry}
use Rattle.hall_policy.proofs.Lists.{clash_found, none_more}
use Rattle.hall_policy.proofs.list.puzzles_differ.Goals as goal

pub returns-then-is_listed : goal.returns-then-is_listed
returns-then-is_listed c = (
  λ no. absurd (false≢true no),
  λ none. absurd (clash_found (λ (a b : Entry). a.puzzle ≡ b.puzzle) c.args.entries.now c.loop-i.i
      c.index-entries-i.result c.loop-i-test.true c.index-entries-i.is (c.is_listed.ensures.0 c.if-is_listed.true)
      none),
)

pub loop-i-preserved : goal.loop-i-preserved
loop-i-preserved c =
    none_more (λ (a b : Entry). a.puzzle ≡ b.puzzle) c.args.entries.now c.loop-i.i c.index-entries-i.result
    c.loop-i-test.true c.index-entries-i.is
    (λ any. let no : false ≡ true = cc (c.is_listed.ensures.1 any) in absurd (false≢true no)) c.loop-i.invariant
