use Rattle.hall_desk.proofs.Protesting.{protested}
use Rattle.hall_desk.proofs.protest.ProtestHandler.plan.Goals as goal

pub returns-clause-told : goal.returns-clause-told
returns-clause-told g c =
    let made = c.in_ok-protested.ensures in (
      (λ h s. s),
      (λ h s. protested (g.S.ReadStore.content c.args._store.now).world c.args.facts.now c.args.self.now
          c.in-Some.person c.args._t c.in_ok-protested.field-0
          c.in-Some.is c.requires.allowed.token c.requires.allowed.object (c.requires.told h s) (c.requires.there h s)
          made.reply made.change),
    )
