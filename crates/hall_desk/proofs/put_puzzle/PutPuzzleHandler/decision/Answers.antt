use Rattle.std.proofs.Common.{◌≡◌, ◌↔◌, ℕ, List, IsTrue}
use Rattle.std.specs.FinMap.{get}
use Rattle.hall_policy.specs.Rules.{StandsReleased}
use Rattle.hall_store.specs.Store.{Kept}
use Rattle.hall_desk.specs.Lookups.{HasAuthor}
use Rattle.hall_store.proofs.Knowing.{carried, kept_then}
use Rattle.hall_desk.proofs.FactsTold.{author_told, release_told, put_told}
use Rattle.hall_desk.proofs.put_puzzle.PutPuzzleHandler.decision.Goals as goal

pub returns-in-Some-clause-told : goal.returns-in-Some-clause-told
returns-in-Some-clause-told g c =
    let author = c.in_ok-facts.ensures in
    let world = (g.S.ReadStore.content c.find_author.new.store).world in
    let put = c.args.self.now in (
      (λ h s. author.told.0 h s),
      (λ h s. c.in-Some.ensures.some world (author_told world _ c.args.action.now put.key.now put.puzzle.now
          c.requires.same (author.told.1 h s))),
    )

pub returns-in-Some-decide_up_to-clause-told : goal.returns-in-Some-decide_up_to-clause-told
returns-in-Some-decide_up_to-clause-told g c =
    let author = c.in_ok-facts.ensures in
    let release = c.in_ok-facts-2.ensures in
    let first = g.S.ReadStore.content c.find_author.new.store in
    let last = g.S.ReadStore.content c.is_in_released_round.new.store in
    let world = last.world in
    let put = c.args.self.now in (
      (λ h s. release.told.0 h (author.told.0 (release.kept.honest h) s)),
      (λ h s. c.in-Some-decide_up_to.ensures.some world (release_told world _ c.args.action.now put.key.now
          put.puzzle.now c.requires.same
          (carried (λ w. IsTrue c.in_ok-facts.field-0 ↔ HasAuthor w put.key.now.author) first last release.kept
          author.told.1 h s) (release.told.1 h s))),
    )

pub returns-clause-told : goal.returns-clause-told
returns-clause-told g c =
    let author = c.in_ok-facts.ensures in
    let release = c.in_ok-facts-2.ensures in
    let read = c.in_ok-facts-3.ensures in
    let count = c.in_ok-facts-4.ensures in
    let first = g.S.ReadStore.content c.find_author.new.store in
    let second = g.S.ReadStore.content c.is_in_released_round.new.store in
    let third = g.S.ReadStore.content c.puzzle.new.self in
    let last = g.S.ReadStore.content c.count_puzzles.new.store in
    let world = last.world in
    let put = c.args.self.now in
    let from_second : Kept second last = kept_then second third last read.kept count.kept in
    let from_first : Kept first last = kept_then first second last release.kept from_second in (
      (λ h s. count.told.0 h (read.served (count.kept.honest h)).0),
      (λ h s. c.decide.ensures.decided world (put_told world _ c.args.action.now put.key.now put.puzzle.now
          c.requires.same
          (carried (λ w. IsTrue c.in_ok-facts.field-0 ↔ HasAuthor w put.key.now.author) first last from_first
          author.told.1 h s)
          (carried (λ w. IsTrue c.in_ok-facts-2.field-0 ↔ ((id : List ℕ) × StandsReleased w put.key.now id)) second last
          from_second release.told.1 h s)
          (carried (λ w. c.in_ok-facts-3.field-0 ≡ get w.puzzles put.key.now) third last count.kept
          (λ h0 s0. (read.served h0).1) h s) (count.told.1 h s))),
    )
