-- What putting an answer that may be added makes of a store's answers.
use Rattle.std.proofs.Common.{◌≡◌, ap, sym, ◌∙◌, subst, map, List}
use Rattle.std.specs.FinMap.{from_entries, insert}
use Rattle.hall_policy.specs.World.{answer_cmp}
use Rattle.hall_policy.specs.declared.record.AnswerRow.{AnswerRow}
use Rattle.hall_store.specs.Change.{CanAddAnswer}
use Rattle.hall_store.specs.Keyed.{AreKeysDistinct, Each, IsAnswerKept, answer_entry, slot_cmp}
use Rattle.hall_store.specs.Maps.{HasPutAnswer, world_of_maps}
use Rattle.hall_store.specs.declared.map_store.MapStore.{MapStore}
use Rattle.hall_store.specs.declared.slot.AnswerSlot.{AnswerSlot}
use Rattle.hall_store.proofs.AnswerWorlds.{answer_put, key_fresh, keys_stay_distinct, slot_free}
use Rattle.hall_store.proofs.Firsts.{slot_total, same_slots}
use Rattle.hall_store.proofs.Ranges.{each_put}

module _ (store : MapStore) (row : AnswerRow) (after : List (AnswerSlot × AnswerRow))
    (put : HasPutAnswer store.answers.entries row after) where
  -- each still stands in its own slot
  pub still_kept : Each slot_cmp after IsAnswerKept
  still_kept = each_put slot_total same_slots IsAnswerKept store.answers.entries after put.slot row put.found put.kept
      store.answers_kept

  module _ (can : CanAddAnswer (world_of_maps store) row) where
    -- no key is another's
    pub still_distinct : AreKeysDistinct after
    still_distinct = subst AreKeysDistinct (sym put.put)
        (keys_stay_distinct put.slot row store.answers.entries (slot_free store put.slot row put.kept.own can)
        (key_fresh store put.slot row put.kept.own can) store.answer_keys_distinct)

    -- the world's answers have one more
    pub one_more : from_entries {R = answer_cmp} (map answer_entry after) ≡ insert (world_of_maps store).answers row.key
        row
    one_more =
        ap (λ (es : List (AnswerSlot × AnswerRow)). from_entries {R = answer_cmp} (map answer_entry es)) put.put
        ∙ answer_put put.slot row store.answers.entries (slot_free store put.slot row put.kept.own can)
        (key_fresh store put.slot row put.kept.own can)
