use Rattle.std.proofs.Common.{arith, inl, ◌≡◌, ap, sym, ◌∙◌}
use Rattle.std.specs.FinMap.{from_entries, insert}
use Rattle.hall_policy.specs.World.{puzzle_cmp}
use Rattle.hall_policy.specs.declared.record.PuzzleKey.{PuzzleKey}
use Rattle.hall_policy.proofs.Orders.{puzzle_total, same_puzzle_keys}
use Rattle.hall_store.specs.Maps.{world_of_maps}
use Rattle.hall_store.specs.Keyed.{IsPuzzleKept}
use Rattle.hall_store.proofs.Ranges.{each_after}
use Rattle.hall_store.proofs.MapWorlds.{inserted}
use Rattle.hall_store.proofs.map_calls.MapStoreStore.put_puzzle.Goals as goal

pub returns-clause-makes : goal.returns-clause-makes
returns-clause-makes c =
    let old = c.args.self.now in
    let made : from_entries {R = puzzle_cmp} c.put.new.map.entries ≡ insert (from_entries old.puzzles.entries)
    c.args.row.key c.args.row =
    inserted puzzle_total same_puzzle_keys old.puzzles.entries c.put.new.map.entries c.in_ok-key.key c.args.row
    c.in_ok-put.ensures.updates.0
    ∙ ap (λ (k : PuzzleKey). insert (from_entries {R = puzzle_cmp} old.puzzles.entries) k c.args.row)
    (sym c.in_ok-key.ensures.own) in
    record {
      leads = record { honest = λ h. h; serves = λ h s. s; counts = omega arith; lasts = λ h s. inl s };
      once = omega arith;
      stops = λ s h left may. absurd may;
      made = λ _. (tt, λ i. record (world_of_maps old) { puzzles = made i });
    }

pub invariant_of-self : goal.invariant_of-self
invariant_of-self c =
    record {
      people_indexed = c.args.self.now.people_indexed;
      puzzles_kept = each_after puzzle_total same_puzzle_keys IsPuzzleKept c.args.self.now.puzzles c.put.new.map
          c.in_ok-key.key c.args.row c.put.result
          c.put.ensures.updates c.put.ensures.err c.in_ok-key.ensures c.args.self.now.puzzles_kept;
      rounds_indexed = c.args.self.now.rounds_indexed;
      uses_kept = c.args.self.now.uses_kept;
      answers_kept = c.args.self.now.answers_kept;
      answer_keys_distinct = c.args.self.now.answer_keys_distinct;
      protests_kept = c.args.self.now.protests_kept;
    }
