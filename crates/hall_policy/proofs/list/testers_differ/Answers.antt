use Rattle.std.proofs.Common.{false, true, ◌≡◌, ℕ, List}
use Rattle.std.proofs.lemmas.Bool.{false≢true}
use Rattle.hall_policy.proofs.Lists.{any_contained, contained_any, clash_found, none_more}
use Rattle.hall_policy.proofs.list.testers_differ.Goals as goal

pub returns-then-is_named : goal.returns-then-is_named
returns-then-is_named c = (
  λ no. absurd (false≢true no),
  λ none. absurd (clash_found (λ (a b : List ℕ). a ≡ b) c.args.names.now c.loop-i.i c.index-names-i.result
      c.loop-i-test.true c.index-names-i.is (any_contained _ _ (c.is_named.ensures.0 c.if-is_named.true)) none),
)

pub loop-i-preserved : goal.loop-i-preserved
loop-i-preserved c =
    none_more (λ (a b : List ℕ). a ≡ b) c.args.names.now c.loop-i.i c.index-names-i.result c.loop-i-test.true
    c.index-names-i.is
    (λ any. let no : false ≡ true = cc (c.is_named.ensures.1 (contained_any _ _ any)) in absurd (false≢true no))
    c.loop-i.invariant
