use Rattle.hall_store.specs.Store.{IsRoundKept}
use Rattle.hall_store.proofs.Agrees.{read_agrees, looked_agrees, found_stands, noted_round}
use Rattle.hall_store.proofs.cached_store.CachedStoreReadStore.round.Goals as goal

pub invariant_of-self : goal.invariant_of-self
invariant_of-self g c = looked_agrees (g.S.ReadStore.content c.self.inside.store) c.self.inside.cache c.round.new.self
    c.self.invariant c.round.ensures.kept

pub invariant_of-self-in_default-found : goal.invariant_of-self-in_default-found
invariant_of-self-in_default-found g c =
    let looked = looked_agrees (g.S.ReadStore.content c.self.inside.store) c.self.inside.cache c.round.new.self
    c.self.invariant c.round.ensures.kept in
    read_agrees c.round-told.result (g.S.ReadStore.content c.self.inside.store)
    (g.S.ReadStore.content c.round-told.new.self) c.round.new.self c.forget_if_refused.new.self _
    looked c.round-told.ensures.kept c.round-told.ensures.served c.forget_if_refused.ensures.kept
    c.forget_if_refused.ensures.forgot

pub invariant_of-self-in-Some-found : goal.invariant_of-self-in-Some-found
invariant_of-self-in-Some-found g c =
    let looked = looked_agrees (g.S.ReadStore.content c.self.inside.store) c.self.inside.cache c.round.new.self
    c.self.invariant c.round.ensures.kept in
    let settled = read_agrees c.round-told.result (g.S.ReadStore.content c.self.inside.store)
    (g.S.ReadStore.content c.round-told.new.self) c.round.new.self c.forget_if_refused.new.self _
    looked c.round-told.ensures.kept c.round-told.ensures.served c.forget_if_refused.ensures.kept
    c.forget_if_refused.ensures.forgot in
    noted_round (g.S.ReadStore.content c.round-told.new.self) c.forget_if_refused.new.self c.keep_round.new.self settled
    c.args.id.now c.in-Some-found.row
    c.keep_round.ensures.rounds c.keep_round.ensures.few c.keep_round.ensures.people c.keep_round.ensures.puzzles
    (found_stands c.round-told.result c.in_ok-found.found c.in-Some-found.row
    (g.S.ReadStore.content c.round-told.new.self) (λ world found. IsRoundKept world c.args.id.now found)
    c.in_ok-found.was c.in-Some-found.is c.round-told.ensures.served)
