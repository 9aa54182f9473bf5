use Rattle.std.proofs.Common.{rules, ◌++◌, ◌∙◌, [], ◌∷◌, suc, ◌≡◌, length, refl, sym, ap}
use Rattle.std.proofs.lemmas.Option.{slice_get_read}
use Rattle.std.proofs.lemmas.List.{length-map, map-append}
use Rattle.std.proofs.lemmas.Iterator.Consumers.{YieldsList-turn}
use Rattle.std.proofs.lemmas.Iterator.Adapters.{YieldsList-from_vec}
use Rattle.hall_store.proofs.Knowing.{fails_as}
use Rattle.hall_policy.specs.declared.record.Entry.{Entry}
use Rattle.hall_policy.specs.declared.record.PlaceKey.{PlaceKey}
use Rattle.hall_sql.proofs.RoundRows.{numbered_more}
use Rattle.hall_sql.proofs.rounds.entries_of.Goals as goal

pub loop-place-preserved : goal.loop-place-preserved
loop-place-preserved c =
    let before = c.loop-place.yielded in
    let place : PlaceKey × Entry = c.in-Some.place in
    let same = c.loop-place.invariant.0 in
    let count : length c.loop-place.entries.items ≡ length before = ap length same ∙ length-map before (λ p. p.1) in
    let added = c.in_ok-add_entry.ensures in (
      added.added ∙ ap (λ l. l ++ place.1 ∷ []) same ∙ sym (map-append (λ (p : PlaceKey × Entry). p.1) before
          (place ∷ [])),
      numbered_more before place c.loop-place.invariant.1 (added.next ∙ ap suc count),
    )

pub returns-in_err-add_entry-clause-other : goal.returns-in_err-add_entry-clause-other
returns-in_err-add_entry-clause-other c =
    fails_as c.from_residual.result _ _ c.from_residual.ensures.1 (λ failed numbered.
    let before = c.loop-place.yielded in
    let place : PlaceKey × Entry = c.in-Some.place in
    let turn = YieldsList-turn (YieldsList-from_vec {s = c.into_iter-place-iterator.result} c.args.places.items
    (search rules) (search rules)) before c.loop-place.place-iterator c.loop-place.yielded_by c.next.result
    c.next.new.self place c.in-Some.is c.next.ensures.steps in
    let count : length c.loop-place.entries.items ≡ length before = ap length c.loop-place.invariant.0
    ∙ length-map before (λ p. p.1) in
    c.in_err-add_entry.ensures.other failed (numbered (length before) place
    (slice_get_read c.args.places.items (length c.args.places.items) (length before) place refl turn.0 turn.1)
    ∙ ap suc (sym count)))
