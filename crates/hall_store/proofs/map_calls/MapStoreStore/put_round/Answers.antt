use Rattle.std.proofs.Common.{inl, arith}
use Rattle.hall_policy.proofs.Orders.{text_total, same_texts}
use Rattle.hall_store.specs.Keyed.{IsRoundIndexed}
use Rattle.hall_store.specs.Maps.{world_of_maps}
use Rattle.hall_store.proofs.Adding.{indexed_stays}
use Rattle.hall_store.proofs.Ranges.{each_after}
use Rattle.hall_store.proofs.RoundWorlds.{heads_inserted, places_relisted, testers_retested}
use Rattle.hall_store.proofs.map_calls.MapStoreStore.put_round.Goals as goal

pub returns-clause-makes : goal.returns-clause-makes
returns-clause-makes c =
    let old = c.args.self.now in
    let row = c.args.row in
    let es = old.rounds.entries in
    let fs = c.put_round.new.rounds.entries in
    let put = c.in_ok-put_round.ensures in
    let heads = heads_inserted es fs row.round.id row put.ok.0 put.was_ordered put.ordered in
    let places = places_relisted es fs row.round.id row put.ok.0 put.was_ordered put.ordered in
    let testers = testers_retested es fs row.round.id row put.ok.0 put.was_ordered put.ordered in
    record {
      leads = record { honest = λ h. h; serves = λ h s. s; counts = omega arith; lasts = λ h s. inl s };
      once = omega arith;
      stops = λ s h left may. absurd may;
      made = λ _. (tt, λ i. record (world_of_maps old) { rounds = heads i; places = places i; testers = testers i });
    }

pub invariant_of-self-2 : goal.invariant_of-self-2
invariant_of-self-2 c =
    let old = c.args.self.now in
    let row = c.args.row in
    record {
      people_indexed = old.people_indexed;
      puzzles_kept = old.puzzles_kept;
      rounds_indexed = each_after text_total same_texts (IsRoundIndexed c.index_round.new.uses.entries) old.rounds
          c.put_round.new.rounds row.round.id row c.put_round.result
          c.put_round.ensures.ok c.put_round.ensures.err c.in_ok-index_round.ensures.indexed
          (λ id row found. indexed_stays old.uses.entries c.index_round.new.uses.entries id row
          c.index_round.ensures.stay (old.rounds_indexed id row found));
      uses_kept = c.index_round.ensures.kept;
      answers_kept = old.answers_kept;
      answer_keys_distinct = old.answer_keys_distinct;
      protests_kept = old.protests_kept;
    }
