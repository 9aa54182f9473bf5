use Rattle.std.proofs.lemmas.Result.{IfOk-from_err}
use Rattle.std.proofs.Common.{◌≡◌, ◌∙◌, ap, arith, to_z, of_z, w64}
use Rattle.std.proofs.lemmas.Int.{ints}
use Rattle.hall_score.specs.Standings.{rank_of}
use Rattle.hall_score.specs.declared.ranking.Line.{Line}
use Rattle.hall_score.proofs.Ranks.{rank_among}
use Rattle.hall_score.proofs.ranking.line_of.Goals as goal

same_line : (a b : Line) → a.rank ≡ b.rank → a.name ≡ b.name → a.total ≡ b.total → a ≡ b
same_line a b rank name total = λ i. record { rank = rank i; name = name i; total = total i }

pub returns : goal.returns
returns c = λ totals moved.
    let total : to_z w64 (of_z w64 c.args.entrant.now.1) ≡ c.args.entrant.now.1 = omega (arith, ints) in
    same_line _ _ (c.rank_of.ensures ∙ (rank_among _ totals c.args.rising.now moved ∙ ap (rank_of totals) total))
    c.in_ok-clone.ensures.cases total

pub returns-in_err-clone : goal.returns-in_err-clone
returns-in_err-clone c = IfOk-from_err c.from_residual.result _ c.from_residual.ensures.0
