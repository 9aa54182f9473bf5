use Rattle.std.proofs.lemmas.Result.{IfOk-from_err}
use Rattle.std.proofs.Common.{◌≡◌, ◌+◌, ◌<◌, ◌∙◌, length, get_or, set, sym, ap, subst, arith}
use Rattle.std.proofs.lemmas.List.{get_or_default}
use Rattle.hall_slither.specs.Chain.{HaveEnds, with_end}
use Rattle.hall_slither.specs.declared.chain.Ends.TheVariants.{Closed}
use Rattle.hall_slither.proofs.HaveEnds.{HaveEnds-next, HaveEnds-end}
use Rattle.hall_slither.proofs.chain.chain_ends.Goals as goal
use Rattle.hall_slither.proofs.chain.chain_ends.Goals.{in-Some, in_default}

pub loop-dot-preserved : goal.loop-dot-preserved
loop-dot-preserved c =
    let size = c.args.size in
    let lines = c.args.lines.now in
    let labels = c.args.labels.now in
    let dot = c.loop-dot.dot in
    let ends = c.loop-dot.ends.items in
    elim c.match-label_ending_at.branch [
      | in-Some w ↦
          let label = w.in-Some.label in
          let there = w.in-Some.ensures.some in
          let room : label < length ends = (let exact = c.loop-dot.invariant.exact in let low = there.0 in omega
          arith) in
          let e : w.with.result ≡ with_end (get_or ends label Closed) dot =
          w.with.ensures ∙ ap (λ x. with_end x dot) (w.index.ensures ∙ get_or_default ends label w.index.result.now
          Closed room) in
          rw w.ends-is
          (subst (λ x. HaveEnds size lines labels (dot + 1) (set ends label x)) (sym e)
          (HaveEnds-end size lines labels c.requires.labels dot there.1.0 label ends c.loop-dot.invariant there.1.1
          there.1.2 room))
      | in_default w ↦ rw w.ends-is (HaveEnds-next size lines labels c.requires.labels dot ends c.loop-dot.invariant
          w.in_default.ensures.none)
    ]

pub returns-in_err-ends : goal.returns-in_err-ends
returns-in_err-ends c = IfOk-from_err c.from_residual.result _ c.from_residual.ensures.0
