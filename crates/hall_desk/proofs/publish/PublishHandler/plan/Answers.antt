use Rattle.hall_desk.specs.Handler.{publish_action}
use Rattle.hall_desk.proofs.PlanLemmas.{made_anyhow}
use Rattle.hall_desk.proofs.publish.PublishHandler.plan.Goals as goal

pub returns-clause-told : goal.returns-clause-told
returns-clause-told g c =
    let world = (g.S.ReadStore.content c.args._store.now).world in
    let plan = c.in_ok-publish_round.field-0 in (
      (λ h s. s),
      (λ h s. made_anyhow world c.args.facts.now.caller (publish_action c.args.self.now) c.args._t plan
          (c.in_ok-publish_round.ensures world (c.requires.told h s) c.args._t)),
    )
