use Rattle.std.proofs.Common.{◌∙◌, Some, sym, ap, arith}
use Rattle.std.specs.Ordering.{is_eq}
use Rattle.hall_check.proofs.Halving.{answered, find_here, find_none, none_more}
use Rattle.hall_check.proofs.halves.find_first.Goals as goal

pub returns-then-is_eq : goal.returns-then-is_eq
returns-then-is_eq g c = λ order computes.
    let called = (g.met.F.FnMut.1.post_iff _ _ _).0 c.compare.ensures in
    let says = answered g.F.Fn order _ _ _ _ called.1 computes in
    sym (find_here (λ row. is_eq (order row)) c.args.rows.now c.loop-row.row-index c.row-item.result
    c.loop-row-test.true (ap is_eq (ap order (sym c.row-item.is) ∙ sym says) ∙ sym c.is_eq.ensures ∙ c.if-is_eq.true)
    (λ j less. c.loop-row.invariant order computes j c.row-item.result less) ∙ ap Some (sym c.row-item.is))

pub loop-row-preserved : goal.loop-row-preserved
loop-row-preserved g c = λ order computes.
    let called = (g.met.F.FnMut.1.post_iff _ _ _).0 c.compare.ensures in
    let says = answered g.F.Fn order _ _ _ _ called.1 computes in
    none_more (λ row. is_eq (order row)) c.args.rows.now c.loop-row.row-index c.row-item.result
    c.loop-row-test.true c.row-item.is (ap is_eq (sym says) ∙ sym c.is_eq.ensures ∙ c.if-is_eq.false)
    (c.loop-row.invariant order computes)

pub returns : goal.returns
returns g c = λ order computes.
    sym (find_none (λ row. is_eq (order row)) c.args.rows.now (λ j d less.
    c.loop-row.invariant order computes j d (omega (arith, c.loop-row-test.false, less))))
