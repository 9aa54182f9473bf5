use Rattle.std.proofs.Common.{◌≡◌, ◌∙◌, Some, ap}
use Rattle.std.specs.FinMap.{get}
use Rattle.hall_policy.specs.Facts.{IsRoundFound}
use Rattle.hall_store.specs.Store.{Kept}
use Rattle.hall_desk.specs.Handler.{ruled_key}
use Rattle.hall_store.proofs.Knowing.{carried, kept_then}
use Rattle.hall_desk.proofs.FactsTold.{protest_there_told, rule_told}
use Rattle.hall_desk.proofs.rule_protest.RuleProtestHandler.decision.Goals as goal

pub returns-in-Some-clause-told : goal.returns-in-Some-clause-told
returns-in-Some-clause-told g c =
    let read = c.in_ok-facts.ensures in
    let standing = c.in_ok-facts-2.ensures in
    let first = g.S.ReadStore.content c.find_round.new.store in
    let last = g.S.ReadStore.content c.protest.new.self in
    let asked = c.args.self.now in (
      (λ h s. (standing.served h).0),
      (λ h s. c.in-Some.ensures.some last.world
          (protest_there_told last.world _ c.args.action.now asked.round.now asked.entrant.now asked.token.now
          asked.ruling c.requires.same
          (carried (λ w. IsRoundFound w (Some asked.round.now) c.in_ok-facts.field-0) first last standing.kept
          (λ h0 s0. (read.served h0).1.row) h s)
          ((standing.served h).1 ∙ ap (get last.world.protests) c.in_ok-key.ensures))),
    )

pub returns-clause-told : goal.returns-clause-told
returns-clause-told g c =
    let read = c.in_ok-facts.ensures in
    let standing = c.in_ok-facts-2.ensures in
    let looked = c.in_ok-facts-3.ensures in
    let first = g.S.ReadStore.content c.find_round.new.store in
    let second = g.S.ReadStore.content c.protest.new.self in
    let last = g.S.ReadStore.content c.is_involved.new.store in
    let asked = c.args.self.now in
    let from_first : Kept first last = kept_then first second last standing.kept looked.kept in (
      (λ h s. looked.told.0 h (standing.served (looked.kept.honest h)).0),
      (λ h s. c.decide.ensures.decided last.world
          (rule_told last.world _ c.args.action.now asked.round.now asked.entrant.now asked.token.now asked.ruling
          c.requires.same
          (carried (λ w. IsRoundFound w (Some asked.round.now) c.in_ok-facts.field-0) first last from_first
          (λ h0 s0. (read.served h0).1.row) h s)
          (carried (λ w. c.in_ok-facts-2.field-0 ≡ get w.protests (ruled_key asked)) second last looked.kept
          (λ h0 s0. (standing.served h0).1 ∙ ap (get second.world.protests) c.in_ok-key.ensures) h s)
          (looked.told.1 h s))),
    )
