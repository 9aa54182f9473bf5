use Rattle.std.proofs.Common.{◌≡◌, ◌<◌, ℕ, below_more, arith}
use Rattle.std.proofs.lemmas.Bool.{false≢true}
use Rattle.hall_grid.specs.Slither.{degree, dots}
use Rattle.hall_slither.proofs.judge.has_loose_end.Goals as goal

pub loop-dot-preserved : goal.loop-dot-preserved
loop-dot-preserved c =
    let here : degree c.args.size c.args.lines.now c.loop-dot.dot ≡ 1
    → ⊥ = λ e. (let d = c.degree.ensures.degree in omega arith) in
    below_more (λ d. degree c.args.size c.args.lines.now d ≡ 1 → ⊥) _ c.loop-dot.invariant here

pub returns : goal.returns
returns c =
    let low : (d : ℕ) → d < dots c.args.size → d < c.loop-dot.dot = λ d h. omega arith in
    (λ t. absurd (false≢true t), λ h. absurd (c.loop-dot.invariant h.0 (low h.0 h.1) h.2))
