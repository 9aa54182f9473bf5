-- The index of uses, to which uses are added.
use Rattle.std.proofs.Common.{◌≡◌, ℕ, true, false, cond, List, Some, Result, Ok, Err, OnOk, OnErr, refl, ap, ◌∙◌}
use Rattle.std.specs.Map.{lookup}
use Rattle.std.specs.BTreeMap as tree
use Rattle.std.specs.BTreeMap.{is_at}
use Rattle.hall_policy.specs.declared.record.RoundRow.{RoundRow}
use Rattle.hall_store.specs.Keyed.{IsRoundIndexed, UsesStay, use_cmp, use_of}
use Rattle.hall_store.specs.declared.slot.UseKey.{UseKey}

-- no use is lost, and so what the index had it has
pub indexed_stays : (before after : List (UseKey × Unit {0})) (id : List ℕ) (row : RoundRow) → UsesStay before after
    → IsRoundIndexed before id row → IsRoundIndexed after id row
indexed_stays before after id row stay indexed entry among = stay (use_of entry.puzzle id) (indexed entry among)

pub use_stays : {T E : Type 0} (result : Result T E) (before after : tree.BTreeMap UseKey (Unit {0})) (used : UseKey) →
    OnOk result (tree.Updates use_cmp before after used (Some tt)) → OnErr result (tree.IsUnchanged before after)
    → UsesStay before.entries after.entries
use_stays (Ok done) before after used ok err q found =
    ok.0 q ∙ elim (is_at (use_cmp used) q) as (λ b. cond b (Some tt) (lookup (is_at (use_cmp q)) before.entries) ≡ Some
    tt) [ true ↦ refl | false ↦ found ]
use_stays (Err fault) before after used ok err q found = ap (lookup (is_at (use_cmp q))) err ∙ found
