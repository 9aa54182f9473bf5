use Rattle.std.proofs.Common.{◌≡◌, ◌∙◌, ap, subst, sym, List, Option, ℕ}
use Rattle.std.specs.List.{filter}
use Rattle.std.specs.List.Sorted.{IsStrictlySortedBy}
use Rattle.std.specs.Map.{keys_of, values_of}
use Rattle.hall_policy.specs.declared.record.AnswerRow.{AnswerRow}
use Rattle.hall_store.specs.Keyed.{first_name, first_slot, slot_cmp}
use Rattle.hall_store.specs.Maps.{content_of_maps, world_of_maps}
use Rattle.hall_store.specs.Store.{IsListing, is_between}
use Rattle.hall_store.specs.declared.map_store.MapStore.{MapStore}
use Rattle.hall_store.specs.declared.slot.AnswerSlot.{AnswerSlot}
use Rattle.hall_store.proofs.AnswerWorlds.{listed_between}
use Rattle.hall_store.proofs.Feeds.{fed_whole, fed_or_refused}
use Rattle.hall_store.proofs.map_calls.MapStoreReadStore.feed_answers.Goals as goal

-- the map's answers of the round by entrants after the one name and up to the other are the listing
abbrev rows_from : MapStore → Option (List ℕ) → Option (List ℕ) → AnswerSlot → List AnswerRow
rows_from store after last first = filter (is_between first.round after last) (values_of store.answers.entries)

listed_from : (store : MapStore) (round : List ℕ) (after last : Option (List ℕ)) (first : AnswerSlot)
    → first ≡ first_slot round (first_name after) 1 → IsStrictlySortedBy slot_cmp (keys_of store.answers.entries) →
    IsListing (world_of_maps store) (is_between round after last) (rows_from store after last first)
listed_from store round after last first is ordered = subst (λ (s : AnswerSlot). IsListing (world_of_maps store)
    (is_between round after last) (rows_from store after last s)) (sym is)
    (listed_between store round after last ordered)

pub feed_answers-requires-clause-first : goal.feed_answers-requires-clause-first
feed_answers-requires-clause-first g c =
    let is = c.in_ok-first.ensures in
    is ∙ ap (λ (r : List ℕ). first_slot r (first_name c.args.after.now) 1) (sym (ap (λ (s : AnswerSlot). s.round) is))

pub returns-in_err-feed_answers-clause-fed : goal.returns-in_err-feed_answers-clause-fed
returns-in_err-feed_answers-clause-fed g c =
    let store = c.args.self.now in
    let round = c.args.round.now in
    let after = c.args.after.now in
    let last = c.args.last.now in
    let first = c.in_ok-first.first in
    (fed_or_refused g.K.Sink.refuses (λ world rows. IsListing world (is_between round after last) rows)
    (content_of_maps store) c.args.sink.now c.feed_answers.new.sink (rows_from store after last first)
    (listed_from store round after last first c.in_ok-first.ensures c.feed_answers.ensures.ordered) tt
    c.in_err-feed_answers.field-0.0 c.from_residual-in_err-feed_answers.result
    c.in_err-feed_answers.ensures.stopped c.from_residual-in_err-feed_answers.ensures.1).0

pub returns-in_err-feed_answers-clause-fault : goal.returns-in_err-feed_answers-clause-fault
returns-in_err-feed_answers-clause-fault g c =
    let store = c.args.self.now in
    let round = c.args.round.now in
    let after = c.args.after.now in
    let last = c.args.last.now in
    let first = c.in_ok-first.first in
    (fed_or_refused g.K.Sink.refuses (λ world rows. IsListing world (is_between round after last) rows)
    (content_of_maps store) c.args.sink.now c.feed_answers.new.sink (rows_from store after last first)
    (listed_from store round after last first c.in_ok-first.ensures c.feed_answers.ensures.ordered) tt
    c.in_err-feed_answers.field-0.0 c.from_residual-in_err-feed_answers.result
    c.in_err-feed_answers.ensures.stopped c.from_residual-in_err-feed_answers.ensures.1).1

pub returns-clause-fed : goal.returns-clause-fed
returns-clause-fed g c =
    let store = c.args.self.now in
    let round = c.args.round.now in
    let after = c.args.after.now in
    let last = c.args.last.now in
    let first = c.in_ok-first.first in
    fed_whole g.K.Sink.refuses (λ world rows. IsListing world (is_between round after last) rows)
    (content_of_maps store) c.args.sink.now c.feed_answers.new.sink (rows_from store after last first)
    (listed_from store round after last first c.in_ok-first.ensures c.feed_answers.ensures.ordered) tt
    c.in_ok-feed_answers.ensures.fed
