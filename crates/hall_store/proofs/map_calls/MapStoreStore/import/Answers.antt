use Rattle.std.proofs.Common.{subst, sym}
use Rattle.hall_store.specs.Change.{CanImport}
use Rattle.hall_store.specs.Maps.{world_of_maps}
use Rattle.hall_store.proofs.Imports.{known_indexed, all_indexed}
use Rattle.hall_store.proofs.map_calls.MapStoreStore.import.Goals as goal

pub invariant_of-self : goal.invariant_of-self
invariant_of-self c =
    let old = c.args.self.now in
    let keys = c.index_people.new.keys.entries in
    let list = c.as_slice-list.result.now in
    let can = subst (CanImport (world_of_maps old)) (sym c.as_slice-list.ensures.value) (c.requires tt tt) in
    record {
      people_indexed = known_indexed old list can keys c.index_people.ensures.stay;
      puzzles_kept = old.puzzles_kept;
      rounds_indexed = old.rounds_indexed;
      uses_kept = old.uses_kept;
      answers_kept = old.answers_kept;
      answer_keys_distinct = old.answer_keys_distinct;
      protests_kept = old.protests_kept;
    }

pub invariant_of-self-2 : goal.invariant_of-self-2
invariant_of-self-2 c =
    let old = c.args.self.now in
    let keys = c.index_people.new.keys.entries in
    let list = c.as_slice-list.result.now in
    let can = subst (CanImport (world_of_maps old)) (sym c.as_slice-list.ensures.value) (c.requires tt tt) in
    record {
      people_indexed = all_indexed old list can keys c.index_people.ensures.stay c.in_ok-index_people.ensures.led
          c.in_ok-people.people.entries c.in_ok-people.ensures;
      puzzles_kept = old.puzzles_kept;
      rounds_indexed = old.rounds_indexed;
      uses_kept = old.uses_kept;
      answers_kept = old.answers_kept;
      answer_keys_distinct = old.answer_keys_distinct;
      protests_kept = old.protests_kept;
    }
