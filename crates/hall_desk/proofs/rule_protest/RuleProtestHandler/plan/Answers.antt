use Rattle.hall_desk.proofs.RulingProtest.{ruled}
use Rattle.hall_desk.proofs.rule_protest.RuleProtestHandler.plan.Goals as goal

pub returns-clause-told : goal.returns-clause-told
returns-clause-told g c =
    let made = c.in_ok-ruled.ensures in (
      (λ h s. s),
      (λ h s. ruled (g.S.ReadStore.content c.args._store.now).world c.args._facts.now c.args.self.now c.args._t
          c.in_ok-ruled.field-0 c.requires.allowed.object
          (c.requires.told h s) made.reply made.change),
    )
