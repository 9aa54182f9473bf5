use Rattle.hall_desk.specs.Handler.{put_puzzle_action}
use Rattle.hall_desk.proofs.PlanLemmas.{made_anyhow}
use Rattle.hall_desk.proofs.put_puzzle.PutPuzzleHandler.plan.Goals as goal

pub returns-clause-told : goal.returns-clause-told
returns-clause-told g c =
    let world = (g.S.ReadStore.content c.args._store.now).world in
    let plan = c.in_ok-put_puzzle.field-0 in (
      (λ h s. s),
      (λ h s. made_anyhow world c.args.facts.now.caller (put_puzzle_action c.args.self.now) c.args._t plan
          (c.in_ok-put_puzzle.ensures world (c.requires.told h s) c.args._t)),
    )
