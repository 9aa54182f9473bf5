use Rattle.std.proofs.Common.{◌≡◌, sym}
use Rattle.std.specs.FinMap.{get}
use Rattle.hall_store.proofs.Agrees.{read_agrees, looked_agrees, found_stands, noted_puzzle}
use Rattle.hall_store.proofs.cached_store.CachedStoreReadStore.puzzle.Goals as goal

pub invariant_of-self : goal.invariant_of-self
invariant_of-self g c = looked_agrees (g.S.ReadStore.content c.self.inside.store) c.self.inside.cache c.puzzle.new.self
    c.self.invariant c.puzzle.ensures.kept

pub invariant_of-self-in_default-found : goal.invariant_of-self-in_default-found
invariant_of-self-in_default-found g c =
    let looked = looked_agrees (g.S.ReadStore.content c.self.inside.store) c.self.inside.cache c.puzzle.new.self
    c.self.invariant c.puzzle.ensures.kept in
    read_agrees c.puzzle-told.result (g.S.ReadStore.content c.self.inside.store)
    (g.S.ReadStore.content c.puzzle-told.new.self) c.puzzle.new.self c.forget_if_refused.new.self _
    looked c.puzzle-told.ensures.kept c.puzzle-told.ensures.served c.forget_if_refused.ensures.kept
    c.forget_if_refused.ensures.forgot

pub invariant_of-self-in-Some-found : goal.invariant_of-self-in-Some-found
invariant_of-self-in-Some-found g c =
    let looked = looked_agrees (g.S.ReadStore.content c.self.inside.store) c.self.inside.cache c.puzzle.new.self
    c.self.invariant c.puzzle.ensures.kept in
    let settled = read_agrees c.puzzle-told.result (g.S.ReadStore.content c.self.inside.store)
    (g.S.ReadStore.content c.puzzle-told.new.self) c.puzzle.new.self c.forget_if_refused.new.self _
    looked c.puzzle-told.ensures.kept c.puzzle-told.ensures.served c.forget_if_refused.ensures.kept
    c.forget_if_refused.ensures.forgot in
    noted_puzzle (g.S.ReadStore.content c.puzzle-told.new.self) c.forget_if_refused.new.self c.keep_puzzle.new.self
    settled c.args.key.now c.in-Some-found.row
    c.keep_puzzle.ensures.puzzles c.keep_puzzle.ensures.few c.keep_puzzle.ensures.people c.keep_puzzle.ensures.rounds
    (λ h. let it = (found_stands c.puzzle-told.result c.in_ok-found.found c.in-Some-found.row
    (g.S.ReadStore.content c.puzzle-told.new.self) (λ world found. found ≡ get world.puzzles c.args.key.now)
    c.in_ok-found.was c.in-Some-found.is c.puzzle-told.ensures.served) h in (it.0, sym it.1))
