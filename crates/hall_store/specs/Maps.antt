-- The world that ordered maps keep.
use Rattle.std.specs.Prelude.{⊤, ℕ, ◌≡◌, ◌+◌, List, [], ◌∷◌, Some, cond, map}
use Rattle.std.specs.List.{flat_map}
use Rattle.std.specs.Map.{lookup}
use Rattle.std.specs.BTreeMap.{insert_entry, is_at}
use Rattle.std.specs.FinMap.{from_entries, empty}
use Rattle.hall_policy.specs.World.{World}
use Rattle.hall_policy.specs.declared.record.AnswerRow.{AnswerRow}
use Rattle.hall_policy.specs.declared.record.Round.{Round}
use Rattle.hall_policy.specs.declared.record.Entry.{Entry}
use Rattle.hall_policy.specs.declared.record.PlaceKey.{PlaceKey}
use Rattle.hall_policy.specs.declared.record.RoundRow.{RoundRow}
use Rattle.hall_policy.specs.declared.record.TesterKey.{TesterKey}
use Rattle.hall_store.specs.Change.{with_answers}
use Rattle.hall_store.specs.Keyed.{AreKeysDistinct, Each, IsAnswerKept, answer_entry, slot_cmp}
use Rattle.hall_store.specs.Store.{Content}
use Rattle.hall_store.specs.declared.map_store.MapStore.{MapStore}
use Rattle.hall_store.specs.declared.slot.AnswerSlot.{AnswerSlot}

-- a round without its puzzles and testers, under its id
abbrev pub round_head : List ℕ × RoundRow → List ℕ × Round
round_head entry = (entry.0, entry.1.round)

-- the puzzles of a round at their places, numbered from the given number on
abbrev pub places_from : List ℕ → ℕ → List Entry → List (PlaceKey × Entry)
places_from id number [] = []
places_from id number (entry ∷ entries) =
    (record { round = id; number = number }, entry) ∷ places_from id (number + 1) entries

-- the places of a round's puzzles
abbrev pub places_in : List ℕ × RoundRow → List (PlaceKey × Entry)
places_in entry = places_from entry.0 1 entry.1.puzzles

-- the keys of a round's testers
abbrev pub testers_in : List ℕ × RoundRow → List (TesterKey × Unit {0})
testers_in entry = map (λ name. (record { round = entry.0; name = name }, tt)) entry.1.testers

-- each map holds the entries of its ordered map; the puzzles and the testers of rounds stand in their rounds
abbrev pub world_of_maps : MapStore → World
world_of_maps store = record {
  people = from_entries store.people.entries;
  puzzles = from_entries store.puzzles.entries;
  rounds = from_entries (map round_head store.rounds.entries);
  places = from_entries (flat_map places_in store.rounds.entries);
  answers = from_entries (map answer_entry store.answers.entries);
  protests = from_entries store.protests.entries;
  testers = from_entries (flat_map testers_in store.rounds.entries);
}

-- ordered maps have no device that could lie or fail, so no fault is counted, and only memory can be wanting; nor do
-- they count their writes, and a stop leaves nothing
abbrev pub content_of_maps : MapStore → Content
content_of_maps store = record {
  honest = ⊤;
  serves = ⊤;
  faults = 0;
  writes = 0;
  world = world_of_maps store;
  may_leave = λ _. ⊥;
  can_fail = ⊥;
  can_refuse = λ _. ⊥;
}

-- nobody and nothing
abbrev pub empty_world : World
empty_world = record {
  people = empty;
  puzzles = empty;
  rounds = empty;
  places = empty;
  answers = empty;
  protests = empty;
  testers = empty;
}

-- the answer was put into its own slot
pub record HasPutAnswer (before : List (AnswerSlot × AnswerRow)) (row : AnswerRow)
    (after : List (AnswerSlot × AnswerRow)) : Type 0 where
  pub slot : AnswerSlot
  pub kept : IsAnswerKept slot row
  pub put : after ≡ insert_entry slot_cmp before slot row
  pub found : (q : AnswerSlot) → lookup (is_at (slot_cmp q)) after
      ≡ cond (is_at (slot_cmp slot) q) (Some row) (lookup (is_at (slot_cmp q)) before)

-- the entries are the store's answers and these, one after another, each in its own slot, and no two of one key
pub record HoldsAnswers (store : MapStore) (rows : List AnswerRow) (entries : List (AnswerSlot × AnswerRow))
    : Type 0 where
  pub kept : Each slot_cmp entries IsAnswerKept
  pub distinct : AreKeysDistinct entries
  pub made : from_entries (map answer_entry entries) ≡ with_answers (world_of_maps store).answers rows
