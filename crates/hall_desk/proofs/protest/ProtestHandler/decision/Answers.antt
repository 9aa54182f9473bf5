use Rattle.std.proofs.Common.{Some}
use Rattle.hall_policy.specs.Facts.{IsRoundFound}
use Rattle.hall_store.specs.Store.{Kept}
use Rattle.hall_desk.specs.Handler.{IsProtestOf}
use Rattle.hall_store.proofs.Knowing.{carried, kept_then}
use Rattle.hall_desk.proofs.FactsTold.{protest_place_told, protest_token_told, protest_told}
use Rattle.hall_desk.proofs.protest.ProtestHandler.decision.Goals as goal

pub returns-in-Some-clause-told : goal.returns-in-Some-clause-told
returns-in-Some-clause-told g c =
    let read = c.in_ok-facts.ensures in
    let world = (g.S.ReadStore.content c.find_round.new.store).world in
    let asked = c.args.self.now in (
      (λ h s. (read.served h).0),
      (λ h s. c.in-Some.ensures.some world
          (protest_place_told world _ c.args.action.now asked.round.now asked.token.now asked.number asked.text.now
          c.requires.same (read.served h).1.row)),
    )

pub returns-in-Some-decide_up_to-clause-told : goal.returns-in-Some-decide_up_to-clause-told
returns-in-Some-decide_up_to-clause-told g c =
    let read = c.in_ok-facts.ensures in
    let standing = c.in_ok-facts-2.ensures in
    let first = g.S.ReadStore.content c.find_round.new.store in
    let last = g.S.ReadStore.content c.find_protest.new.store in
    let asked = c.args.self.now in (
      (λ h s. standing.told.0 h (read.served (standing.kept.honest h)).0),
      (λ h s. c.in-Some-decide_up_to.ensures.some last.world
          (protest_token_told last.world _ c.args.action.now asked.round.now asked.token.now asked.number asked.text.now
          c.requires.same
          (carried (λ w. IsRoundFound w (Some asked.round.now) c.in_ok-facts.field-0) first last standing.kept
          (λ h0 s0. (read.served h0).1.row) h s) (standing.told.1 h s))),
    )

pub returns-clause-told : goal.returns-clause-told
returns-clause-told g c =
    let read = c.in_ok-facts.ensures in
    let standing = c.in_ok-facts-2.ensures in
    let made = c.in_ok-facts-3.ensures in
    let first = g.S.ReadStore.content c.find_round.new.store in
    let second = g.S.ReadStore.content c.find_protest.new.store in
    let last = g.S.ReadStore.content c.count_protests.new.store in
    let asked = c.args.self.now in
    let from_first : Kept first last = kept_then first second last standing.kept made.kept in (
      (λ h s. made.told.0 h (standing.told.0 (made.kept.honest h) (read.served (from_first.honest h)).0)),
      (λ h s. c.decide.ensures.decided last.world
          (protest_told last.world _ c.args.action.now asked.round.now asked.token.now asked.number asked.text.now
          c.requires.same
          (carried (λ w. IsRoundFound w (Some asked.round.now) c.in_ok-facts.field-0) first last from_first
          (λ h0 s0. (read.served h0).1.row) h s)
          (carried (λ w. IsProtestOf w c.args.facts.now.caller asked c.in_ok-facts-2.field-0) second last made.kept
          standing.told.1 h s) (made.told.1 h s))),
    )
