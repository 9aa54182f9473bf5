use Rattle.std.proofs.Common.{◌≡◌, sym, ap, List, ℕ}
use Rattle.std.specs.List.{filter}
use Rattle.std.specs.List.Sorted.{IsStrictlySortedBy}
use Rattle.std.specs.Map.{keys_of, values_of}
use Rattle.hall_policy.specs.World.{protest_cmp}
use Rattle.hall_policy.specs.declared.record.ProtestKey.{ProtestKey}
use Rattle.hall_policy.specs.declared.record.ProtestRow.{ProtestRow}
use Rattle.hall_policy.proofs.Orders.{protest_total, same_protest_keys}
use Rattle.hall_store.specs.Maps.{content_of_maps, world_of_maps}
use Rattle.hall_store.specs.Store.{is_protest_in, protests_in}
use Rattle.hall_store.specs.declared.map_store.MapStore.{MapStore}
use Rattle.hall_store.proofs.Feeds.{fed_whole, fed_or_refused}
use Rattle.hall_store.proofs.MapWorlds.{entries_made}
use Rattle.hall_store.proofs.map_calls.MapStoreReadStore.feed_protests.Goals as goal

-- the map's protests of the round are the world's
abbrev rows_in : MapStore → List ℕ → List ProtestRow
rows_in store round = filter (is_protest_in round) (values_of store.protests.entries)

made : (store : MapStore) (round : List ℕ) → IsStrictlySortedBy protest_cmp (keys_of store.protests.entries)
    → rows_in store round ≡ protests_in (world_of_maps store) round
made store round ordered =
    ap (λ (es : List (ProtestKey × ProtestRow)). filter (is_protest_in round) (values_of es))
    (sym (entries_made protest_total same_protest_keys store.protests.entries ordered))

pub returns-in_err-feed_protests-clause-fed : goal.returns-in_err-feed_protests-clause-fed
returns-in_err-feed_protests-clause-fed g c =
    let store = c.args.self.now in
    let round = c.args.round.now in
    (fed_or_refused g.K.Sink.refuses (λ world rows. rows ≡ protests_in world round) (content_of_maps store)
    c.args.sink.now c.feed_protests.new.sink (rows_in store round)
    (made store round c.feed_protests.ensures.ordered) tt c.in_err-feed_protests.field-0.0 c.from_residual.result
    c.in_err-feed_protests.ensures.stopped c.from_residual.ensures.1).0

pub returns-in_err-feed_protests-clause-fault : goal.returns-in_err-feed_protests-clause-fault
returns-in_err-feed_protests-clause-fault g c =
    let store = c.args.self.now in
    let round = c.args.round.now in
    (fed_or_refused g.K.Sink.refuses (λ world rows. rows ≡ protests_in world round) (content_of_maps store)
    c.args.sink.now c.feed_protests.new.sink (rows_in store round)
    (made store round c.feed_protests.ensures.ordered) tt c.in_err-feed_protests.field-0.0 c.from_residual.result
    c.in_err-feed_protests.ensures.stopped c.from_residual.ensures.1).1

pub returns-clause-fed : goal.returns-clause-fed
returns-clause-fed g c =
    let store = c.args.self.now in
    let round = c.args.round.now in
    fed_whole g.K.Sink.refuses (λ world rows. rows ≡ protests_in world round) (content_of_maps store) c.args.sink.now
    c.feed_protests.new.sink (rows_in store round)
    (made store round c.feed_protests.ensures.ordered) tt c.in_ok-feed_protests.ensures.fed
