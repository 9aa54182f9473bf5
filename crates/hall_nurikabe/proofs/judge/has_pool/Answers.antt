use Rattle.std.proofs.Common.{refl, arith}
use Rattle.hall_nurikabe.proofs.IsPoolAt.{HasPool-from_at, HasPool-at}
use Rattle.hall_nurikabe.proofs.judge.has_pool.Goals as goal

pub returns-then-is_pool_at : goal.returns-then-is_pool_at
returns-then-is_pool_at c = (
  (λ _. HasPool-from_at c.args.size c.args.filling.now c.loop-cell.cell
      (c.is_pool_at.ensures.0 c.if-is_pool_at.true)),
  (λ _. refl),
)

pub returns : goal.returns
returns c = (
  (λ h. absurd (cc)),
  (λ h. let p = HasPool-at c.args.size c.args.filling.now h in absurd
      (c.loop-cell.invariant p.0 (let low = p.1 in omega arith) p.2)),
)
