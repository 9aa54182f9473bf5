use Rattle.std.proofs.Common.{arith, inl, ◌≡◌, Some, None, sym, ap, ◌∙◌, refl, map, rules}
use Rattle.std.specs.List.{flat_map}
use Rattle.std.specs.Option.{option_map, option_copied_mut}
use Rattle.std.specs.Map.{lookup}
use Rattle.std.specs.BTreeMap.{is_at}
use Rattle.std.specs.FinMap.{get, from_entries, insert}
use Rattle.hall_policy.specs.Text.{text_cmp}
use Rattle.hall_policy.specs.World.{place_cmp, tester_cmp}
use Rattle.hall_policy.specs.declared.record.Round.{Round}
use Rattle.hall_policy.specs.declared.record.RoundRow.{RoundRow}
use Rattle.hall_policy.proofs.Orders.{text_total, same_texts}
use Rattle.hall_store.specs.Change.{with_flag, flagged}
use Rattle.hall_store.specs.Maps.{world_of_maps, round_head, places_in, testers_in}
use Rattle.hall_store.specs.Keyed.{IsRoundIndexed}
use Rattle.hall_store.proofs.Ranges.{each_put}
use Rattle.hall_store.proofs.MapWorlds.{get_found, head_found}
use Rattle.hall_store.proofs.RoundWorlds.{heads_inserted, places_same, testers_same}
use Rattle.hall_store.proofs.map_calls.MapStoreStore.set_round_flag.Goals as goal

pub unreachable-requires : goal.unreachable-requires
unreachable-requires c =
    let es = c.args.self.now.rounds.entries in
    let id = c.args.id.now in
    let gone : lookup (is_at (text_cmp id)) es ≡ None = sym c.get_mut.ensures.value
    ∙ ap option_copied_mut c.in-None.is in
    let asked = c.requires tt tt in
    let no : None ≡ Some asked.0 =
    ap (option_map (λ (r : RoundRow). r.round)) (sym gone) ∙ sym (head_found (is_at (text_cmp id)) es)
    ∙ sym (get_found text_total (map round_head es) id) ∙ asked.1 in
    cc

pub returns-clause-makes : goal.returns-clause-makes
returns-clause-makes c =
    let old = c.args.self.now in
    let es = old.rounds.entries in
    let id = c.args.id.now in
    let row = c.in-Some.row.now in
    let new : RoundRow = record { round = c.set_flag.new.round; puzzles = row.puzzles; testers = row.testers } in
    let fs = (c.get_mut.follows.lender new).entries in
    let holds = c.get_mut.follows.holds new in
    let seen : lookup (is_at (text_cmp id)) es ≡ Some row = sym c.get_mut.ensures.value
    ∙ ap option_copied_mut c.in-Some.is in
    let updates = (holds.3 (search rules)).0 in
    let before = c.get_mut.ensures.ordered in
    let kept : get (from_entries {R = text_cmp} (map round_head es)) id ≡ Some row.round = get_found text_total
    (map round_head es) id ∙ head_found (is_at (text_cmp id)) es ∙ ap (option_map (λ (r : RoundRow). r.round))
    seen in
    let heads : from_entries {R = text_cmp} (map round_head fs) ≡ insert (from_entries (map round_head es)) id
    (flagged c.args.flag row.round) =
    heads_inserted es fs id new updates before holds.4 ∙ ap (λ (r : Round). insert
    (from_entries {R = text_cmp} (map round_head es)) id r) c.set_flag.ensures in
    let places : from_entries {R = place_cmp} (flat_map places_in fs) ≡ from_entries (flat_map places_in es) =
    places_same es fs id new updates before holds.4 row seen refl in
    let testers : from_entries {R = tester_cmp} (flat_map testers_in fs) ≡ from_entries (flat_map testers_in es) =
    testers_same es fs id new updates before holds.4 row seen refl in
    record {
      leads = record { honest = λ h. h; serves = λ h s. s; counts = omega arith; lasts = λ h s. inl s };
      once = omega arith;
      stops = λ s h left may. absurd may;
      made = λ _. (
        tt,
        (λ i. record (world_of_maps old) { rounds = heads i; places = places i; testers = testers i })
            ∙ ap (with_flag (world_of_maps old) id c.args.flag) (sym kept),
      );
    }

pub invariant_of-self : goal.invariant_of-self
invariant_of-self c =
    let es = c.args.self.now.rounds.entries in
    let id = c.args.id.now in
    let row = c.in-Some.row.now in
    let new : RoundRow = record { round = c.set_flag.new.round; puzzles = row.puzzles; testers = row.testers } in
    let seen : lookup (is_at (text_cmp id)) es ≡ Some row = sym c.get_mut.ensures.value
    ∙ ap option_copied_mut c.in-Some.is in
    record {
      people_indexed = c.args.self.now.people_indexed;
      puzzles_kept = c.args.self.now.puzzles_kept;
      rounds_indexed = each_put text_total same_texts (IsRoundIndexed c.args.self.now.uses.entries) es
          (c.get_mut.follows.lender new).entries id new
          ((c.get_mut.follows.holds new).3 (search rules)).0 (c.args.self.now.rounds_indexed id row seen)
          c.args.self.now.rounds_indexed;
      uses_kept = c.args.self.now.uses_kept;
      answers_kept = c.args.self.now.answers_kept;
      answer_keys_distinct = c.args.self.now.answer_keys_distinct;
      protests_kept = c.args.self.now.protests_kept;
    }
