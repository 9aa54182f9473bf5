use Rattle.std.proofs.Common.{arith, inl, ◌≡◌, Some, None, sym, ap, ◌∙◌, rules}
use Rattle.std.specs.Option.{option_copied_mut}
use Rattle.std.specs.Map.{lookup}
use Rattle.std.specs.BTreeMap.{is_at}
use Rattle.std.specs.FinMap.{get, from_entries, insert}
use Rattle.hall_policy.specs.World.{puzzle_cmp}
use Rattle.hall_policy.specs.declared.record.PuzzleRow.{PuzzleRow}
use Rattle.hall_policy.proofs.Orders.{puzzle_total, same_puzzle_keys}
use Rattle.hall_store.specs.Change.{with_state}
use Rattle.hall_store.specs.Maps.{world_of_maps}
use Rattle.hall_store.specs.Keyed.{IsPuzzleKept}
use Rattle.hall_store.proofs.Ranges.{each_put}
use Rattle.hall_store.proofs.MapWorlds.{get_found, inserted}
use Rattle.hall_store.proofs.map_calls.MapStoreStore.set_state.Goals as goal

pub unreachable-requires : goal.unreachable-requires
unreachable-requires c =
    let es = c.args.self.now.puzzles.entries in
    let key = c.args.key.now in
    let gone : lookup (is_at (puzzle_cmp key)) es ≡ None = sym c.get_mut.ensures.value
    ∙ ap option_copied_mut c.in-None.is in
    let asked = c.requires tt tt in
    let no : None ≡ Some asked.0 = sym gone ∙ sym (get_found puzzle_total es key) ∙ asked.1 in
    cc

pub returns-clause-makes : goal.returns-clause-makes
returns-clause-makes c =
    let old = c.args.self.now in
    let es = old.puzzles.entries in
    let key = c.args.key.now in
    let row = c.in-Some.row.now in
    let new : PuzzleRow = record row { state = c.args.state } in
    let seen : lookup (is_at (puzzle_cmp key)) es ≡ Some row = sym c.get_mut.ensures.value
    ∙ ap option_copied_mut c.in-Some.is in
    let found : get (from_entries {R = puzzle_cmp} es) key ≡ Some row = get_found puzzle_total es key ∙ seen in
    let made : from_entries {R = puzzle_cmp} (c.get_mut.follows.lender new).entries ≡ insert (from_entries es) key new =
    inserted puzzle_total same_puzzle_keys es (c.get_mut.follows.lender new).entries key new
    ((c.get_mut.follows.holds new).3 (search rules)).0 in
    record {
      leads = record { honest = λ h. h; serves = λ h s. s; counts = omega arith; lasts = λ h s. inl s };
      once = omega arith;
      stops = λ s h left may. absurd may;
      made = λ _. (
        tt,
        (λ i. record (world_of_maps old) { puzzles = made i })
            ∙ ap (with_state (world_of_maps old) key c.args.state) (sym found),
      );
    }

pub invariant_of-self : goal.invariant_of-self
invariant_of-self c =
    let es = c.args.self.now.puzzles.entries in
    let key = c.args.key.now in
    let row = c.in-Some.row.now in
    let new : PuzzleRow = record row { state = c.args.state } in
    let seen : lookup (is_at (puzzle_cmp key)) es ≡ Some row = sym c.get_mut.ensures.value
    ∙ ap option_copied_mut c.in-Some.is in
    let kept = c.args.self.now.puzzles_kept key row seen in
    record {
      people_indexed = c.args.self.now.people_indexed;
      puzzles_kept = each_put puzzle_total same_puzzle_keys IsPuzzleKept es (c.get_mut.follows.lender new).entries key
          new ((c.get_mut.follows.holds new).3 (search rules)).0
          (record { own = kept.own; label = kept.label }) c.args.self.now.puzzles_kept;
      rounds_indexed = c.args.self.now.rounds_indexed;
      uses_kept = c.args.self.now.uses_kept;
      answers_kept = c.args.self.now.answers_kept;
      answer_keys_distinct = c.args.self.now.answer_keys_distinct;
      protests_kept = c.args.self.now.protests_kept;
    }
