use Rattle.std.proofs.Common.{◌≡◌, inl, inr, ℕ, List, Some, length, get_or, slice_get, ap, ◌∙◌, subst, arith}
use Rattle.std.specs.Map.{lookup}
use Rattle.std.specs.BTreeMap.{is_at}
use Rattle.std.proofs.lemmas.Bool.{cases_eq}
use Rattle.std.proofs.lemmas.Option.{slice_get_within, get_or_from_slice_get}
use Rattle.hall_policy.specs.declared.record.Entry.{Entry}
use Rattle.hall_store.specs.Keyed.{use_cmp, use_of}
use Rattle.hall_store.proofs.Tests.{placed}
use Rattle.hall_store.proofs.map_adds.index_round.Goals as goal

pub index_use-requires : goal.index_use-requires
index_use-requires c = c.loop-entry.invariant.kept

-- the item at a place is what a look-up finds there
same_item : (xs ys : List Entry) (i : ℕ) (item entry : Entry) → ys ≡ xs → item ≡ get_or ys i item
    → slice_get xs i ≡ Some entry → item ≡ entry
same_item xs ys i item entry e is at = is ∙ ap (λ (l : List Entry). get_or l i item) e
    ∙ get_or_from_slice_get xs i entry item at

pub loop-entry-preserved : goal.loop-entry-preserved
loop-entry-preserved c =
    let told = c.in_ok-index_use.ensures in
    let id = c.args.row.now.round.id in
    let after = c.index_use.new.uses.entries in
    record {
      kept = told.kept;
      stay = λ used h. told.stay used (c.loop-entry.invariant.stay used h);
      led = λ k entry below at. elim (cases_eq k c.loop-entry.entry-index) as
          (λ _. lookup (is_at (use_cmp (use_of entry.puzzle id))) after ≡ Some tt) [
            | inl same ↦
                let item = c.entry-item.result in
                let is : item ≡ entry = same_item c.args.row.now.puzzles c.as_slice-entry-items.result.now
                c.loop-entry.entry-index item entry c.as_slice-entry-items.ensures.value c.entry-item.is
                (subst (λ i. slice_get c.args.row.now.puzzles i ≡ Some entry) same at) in
                subst (λ (e : Entry). lookup (is_at (use_cmp (use_of e.puzzle id))) after ≡ Some tt) is told.indexed
            | inr differ ↦ told.stay (use_of entry.puzzle id) (c.loop-entry.invariant.led k entry
                (omega (arith, below, differ)) at)
          ];
    }

pub returns-clause-indexed : goal.returns-clause-indexed
returns-clause-indexed c = λ entry among.
    let at = placed c.args.row.now.puzzles entry among in
    let within = slice_get_within c.args.row.now.puzzles at.0 entry at.1 in
    let long : length c.as_slice-entry-items.result.now ≡ length c.args.row.now.puzzles = ap length
    c.as_slice-entry-items.ensures.value in
    c.loop-entry.invariant.led at.0 entry (omega (arith, within, long)) at.1
