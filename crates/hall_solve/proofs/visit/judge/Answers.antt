use Rattle.std.proofs.lemmas.Result.{IfOk-from_err}
use Rattle.std.proofs.Common.{◌≡◌, sym, ◌∙◌, subst, IsTrue}
use Rattle.hall_solve.proofs.Boards.{whole_filling, IsFilling-whole}
use Rattle.hall_solve.proofs.visit.judge.Goals as goal

pub accepts-requires-clause-filling : goal.accepts-requires-clause-filling
accepts-requires-clause-filling g c =
    IsFilling-whole (g.R.Rules.question c.args.rules.now) c.args.whole.now.places _ c.requires.whole c.requires.partial
    c.in_ok-filling.ensures.length c.in_ok-filling.ensures.extends

pub returns-then-branch-clause-answer : goal.returns-then-branch-clause-answer
returns-then-branch-clause-answer g c =
    let q = g.R.Rules.question c.args.rules.now in
    let p = c.args.whole.now.places in
    let f = c.in_ok-filling.filling in
    let is_filling = IsFilling-whole q p f c.requires.whole c.requires.partial c.in_ok-filling.ensures.length
    c.in_ok-filling.ensures.extends in (
      record {
        filling = is_filling;
        extends = c.in_ok-filling.ensures.extends;
        right = c.in_ok-accepts.ensures.right.0
            c.if-branch.true;
      },
      λ h s. whole_filling p h f c.requires.whole (s.filling.size ∙ sym c.requires.partial.size)
          c.in_ok-filling.ensures.length s.extends c.in_ok-filling.ensures.extends,
    )

pub returns-else-branch-clause-answer : goal.returns-else-branch-clause-answer
returns-else-branch-clause-answer g c = λ h s.
    let p = c.args.whole.now.places in
    let f = c.in_ok-filling.filling in
    let same : h ≡ f = whole_filling p h f c.requires.whole (s.filling.size ∙ sym c.requires.partial.size)
    c.in_ok-filling.ensures.length s.extends c.in_ok-filling.ensures.extends in
    let right : IsTrue c.in_ok-accepts.field-0 = c.in_ok-accepts.ensures.right.1
    (subst (λ x. (g.R.Rules.question c.args.rules.now).right x) same s.right) in
    cc

pub returns-in_err-filling-clause-answer : goal.returns-in_err-filling-clause-answer
returns-in_err-filling-clause-answer g c = IfOk-from_err c.from_residual.result _ c.from_residual.ensures.0

pub returns-in_err-accepts-clause-answer : goal.returns-in_err-accepts-clause-answer
returns-in_err-accepts-clause-answer g c = IfOk-from_err c.from_residual-in_err-accepts.result _
    c.from_residual-in_err-accepts.ensures.0
