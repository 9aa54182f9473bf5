use Rattle.std.proofs.Common.{◌≡◌, ◌<◌, ℕ, Some, slice_get}
use Rattle.std.specs.Map.{lookup}
use Rattle.std.specs.BTreeMap.{is_at}
use Rattle.hall_policy.specs.Text.{text_cmp}
use Rattle.hall_policy.specs.declared.record.Person.{Person}
use Rattle.hall_store.specs.Keyed.{AgreedStay}
use Rattle.hall_store.proofs.map_adds.index_people.Given as goal

-- the index keeps what the list agrees on, and leads from the keys so far to the names
abbrev pub invariant-loop-person : goal.invariant-loop-person
invariant-loop-person l = record {
  stay : AgreedStay l.list l.fn.keys.entries l.keys.entries;
  led : (k : ℕ) (person : Person) → k < l.person-index → slice_get l.list k ≡ Some person
      → lookup (is_at (text_cmp person.key)) l.keys.entries ≡ Some person.name;
}
