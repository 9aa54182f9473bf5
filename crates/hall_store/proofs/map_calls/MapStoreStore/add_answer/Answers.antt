use Rattle.std.proofs.Common.{arith, inl, Result, Ok, Err, OnOk, OnErr, sym, subst}
use Rattle.std.specs.BTreeMap.{BTreeMap, IsUnchanged}
use Rattle.hall_policy.specs.declared.record.AnswerRow.{AnswerRow}
use Rattle.hall_store.specs.Change.{CanAddAnswer}
use Rattle.hall_store.specs.Keyed.{AreKeysDistinct, Each, IsAnswerKept, slot_cmp}
use Rattle.hall_store.specs.Maps.{HasPutAnswer, world_of_maps}
use Rattle.hall_store.specs.declared.map_store.MapStore.{MapStore}
use Rattle.hall_store.specs.declared.slot.AnswerSlot.{AnswerSlot}
use Rattle.hall_store.proofs.PutAnswers.{still_kept, still_distinct, one_more}
use Rattle.hall_store.proofs.map_calls.MapStoreStore.add_answer.Goals as goal

-- the answers stand rightly after a call that put one, or was refused and left them
stand_after : {T E : Type 0} (store : MapStore) (row : AnswerRow) (after : BTreeMap AnswerSlot AnswerRow)
    (result : Result T E) → OnOk result (HasPutAnswer store.answers.entries row after.entries)
    → OnErr result (IsUnchanged store.answers after) → CanAddAnswer (world_of_maps store) row
    → Each slot_cmp after.entries IsAnswerKept × AreKeysDistinct after.entries
stand_after store row after (Ok done) put left can =
    (still_kept store row after.entries put, still_distinct store row after.entries put can)
stand_after store row after (Err fault) put left can = (
  subst (λ es. Each slot_cmp es IsAnswerKept) (sym left) store.answers_kept,
  subst AreKeysDistinct (sym left) store.answer_keys_distinct,
)

pub returns-clause-makes : goal.returns-clause-makes
returns-clause-makes c =
    let old = c.args.self.now in
    let made = one_more old c.args.row c.put_answer.new.answers.entries c.in_ok-put_answer.ensures.ok
    (c.requires tt tt) in
    record {
      leads = record { honest = λ h. h; serves = λ h s. s; counts = omega arith; lasts = λ h s. inl s };
      once = omega arith;
      stops = λ s h left may. absurd may;
      made = λ _. (tt, λ i. record (world_of_maps old) { answers = made i });
    }

pub invariant_of-self : goal.invariant_of-self
invariant_of-self c =
    let old = c.args.self.now in
    let answers = stand_after old c.args.row c.put_answer.new.answers c.put_answer.result c.put_answer.ensures.ok
    c.put_answer.ensures.err (c.requires tt tt) in
    record {
      people_indexed = old.people_indexed;
      puzzles_kept = old.puzzles_kept;
      rounds_indexed = old.rounds_indexed;
      uses_kept = old.uses_kept;
      answers_kept = answers.0;
      answer_keys_distinct = answers.1;
      protests_kept = old.protests_kept;
    }
