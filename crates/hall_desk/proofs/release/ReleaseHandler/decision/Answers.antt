use Rattle.std.proofs.Common.{◌↔◌, IsTrue, Some}
use Rattle.hall_policy.specs.Facts.{IsRoundFound}
use Rattle.hall_store.specs.Store.{Kept}
use Rattle.hall_desk.specs.Lookups.{HasFaultyEntry}
use Rattle.hall_desk.specs.declared.release_faults.EntryFault.TheVariants.{Shared}
use Rattle.hall_store.proofs.Knowing.{carried, kept_then}
use Rattle.hall_desk.proofs.FactsTold.{draft_told, shared_told, faults_told}
use Rattle.hall_desk.proofs.release.ReleaseHandler.decision.Goals as goal

pub returns-in-Some-clause-told : goal.returns-in-Some-clause-told
returns-in-Some-clause-told g c =
    let read = c.in_ok-facts.ensures in
    let world = (g.S.ReadStore.content c.find_round.new.store).world in (
      (λ h s. (read.served h).0),
      (λ h s. c.in-Some.ensures.some world (draft_told world _ c.args.action.now c.args.self.now.round.now
          c.requires.same (read.served h).1.row)),
    )

pub returns-in-Some-decide_up_to-clause-told : goal.returns-in-Some-decide_up_to-clause-told
returns-in-Some-decide_up_to-clause-told g c =
    let read = c.in_ok-facts.ensures in
    let shared = c.in_ok-facts-2.ensures in
    let first = g.S.ReadStore.content c.find_round.new.store in
    let last = g.S.ReadStore.content c.find_fault.new.store in
    let world = last.world in
    let id = c.args.self.now.round.now in (
      (λ h s. shared.told.0 h (read.served (shared.kept.honest h)).0),
      (λ h s. c.in-Some-decide_up_to.ensures.some world (shared_told world _ c.args.action.now id c.requires.same
          (carried (λ w. IsRoundFound w (Some id) c.in_ok-facts.field-0) first last shared.kept
          (λ h0 s0. (read.served h0).1.row) h s) (shared.told.1 h s))),
    )

pub returns-clause-told : goal.returns-clause-told
returns-clause-told g c =
    let read = c.in_ok-facts.ensures in
    let shared = c.in_ok-facts-2.ensures in
    let uncertified = c.in_ok-facts-3.ensures in
    let first = g.S.ReadStore.content c.find_round.new.store in
    let second = g.S.ReadStore.content c.find_fault.new.store in
    let last = g.S.ReadStore.content c.find_fault-2.new.store in
    let world = last.world in
    let id = c.args.self.now.round.now in
    let from_first : Kept first last = kept_then first second last shared.kept uncertified.kept in (
      (λ h s. uncertified.told.0 h (shared.told.0 (uncertified.kept.honest h) (read.served (from_first.honest h)).0)),
      (λ h s. c.decide.ensures.decided world (faults_told world _ c.args.action.now id c.requires.same
          (carried (λ w. IsRoundFound w (Some id) c.in_ok-facts.field-0) first last from_first
          (λ h0 s0. (read.served h0).1.row) h s)
          (carried (λ w. IsTrue c.in_ok-facts-2.field-0 ↔ HasFaultyEntry Shared w id) second last uncertified.kept
          shared.told.1 h s) (uncertified.told.1 h s))),
    )
