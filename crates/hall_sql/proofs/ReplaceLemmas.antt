-- Where WHERE asks for the key, an UPDATE of the one row that has it is a replacement in the map, and an INSERT where
-- no row has it an addition. Then the row that was put is the one that has it.
use Rattle.std.proofs.Common.{◌≡◌, inl, inr, ℤ, List, [], ◌∷◌, filter, Bool, true, false, not, cond, Option, Some, None}
use Rattle.std.proofs.Common.{refl, sym, ap, subst, ◌∙◌}
use Rattle.std.proofs.lemmas.Bool.{cases_Bool}
use Rattle.std.specs.List.{AllByRecursion}
use Rattle.std.specs.List.Sorted.{IsPermutation}
use Rattle.std.specs.Cmp.{IsTotalOrder}
use Rattle.std.specs.declared.cmp.Ordering.{Ordering}
use Rattle.std.specs.declared.cmp.Ordering.TheVariants.{Equal}
use Rattle.std.specs.Ordering.{eq_by_cmp}
use Rattle.std.specs.FinMap.{IsAntisymmetric, find as find_key, insert as put_in}
use Rattle.sqlite.specs.Order.{Row}
use Rattle.sqlite_value.specs.Order.{value_cmp}
use Rattle.sqlite_trees.specs.Tree.{rowid, put_row, without_rowid, has_rowid}
use Rattle.sqlite_trees.proofs.ListLemmas.{IsPermutation-filter, filter_none}
use Rattle.sqlite.proofs.Callers.{one_permutation}
use Rattle.sqlite_rules.specs.Lists.{Has}
use Rattle.sqlite_rules.specs.Edit.{id_in, is_taken}
use Rattle.sqlite_rules.proofs.ListLemmas.{all_has, all_from, has_filtered, has_kept}
use Rattle.sqlite_rules.proofs.TableLemmas.{int_is}
use Rattle.hall_sql.specs.Rows.{entry, kept}
use Rattle.hall_sql.specs.Standing.{AreKeyed, IsReplaced}
use Rattle.hall_sql.proofs.KeyedLemmas.{keyed_same}
use Rattle.hall_sql.proofs.FoundLemmas.{unkept}
use Rattle.hall_sql.proofs.MapLemmas.{equal_is, Lacks, filter_found, replaced}
use Rattle.hall_sql.proofs.InsertLemmas.{put_permutes}
use Rattle.hall_sql.proofs.UpdateLemmas.{has_itself}

pub true_of_not : (b : Bool) → not b ≡ false → b ≡ true
true_of_not true h = refl
true_of_not false h = absurd cc

-- the row that goes with the rowid of a row is that row
pub gone_is : (rows : List Row) (one r : Row) → AreKeyed rows → Has rows one → Has rows r
    → not (has_rowid (id_in (rowid one)) r) ≡ false → r ≡ one
gone_is rows one r keyed there h gone =
    let int = all_has _ rows one keyed.ints there in
    let tie : value_cmp (rowid r) (rowid one) ≡ Equal = subst (λ v. value_cmp (rowid r) v ≡ Equal)
    (sym (int_is (rowid one) int)) (equal_is _ (true_of_not _ gone)) in
    keyed_same rows r one keyed h there tie

module _ {K X : Type 0} {R : K → K → Ordering} (total : IsTotalOrder R) (same : IsAntisymmetric R) (key : X → K)
    (read : Row → Option X) (k : K) (keeps : Row → Bool)
    (agrees : (r : Row) (p : X) → read r ≡ Some p → keeps r ≡ eq_by_cmp R (key p) k) where
  -- a row that WHERE takes has no other key
  pub no_other : (r : Row) → keeps r ≡ true → (q : K) → eq_by_cmp R q k ≡ false → Lacks total same key read q r
  no_other r taken q apart = go (read r) refl
    where
      go : (o : Option X) → read r ≡ o → find_key R q (entry key o) ≡ None
      go None is = refl
      go (Some p) is =
          let one : key p ≡ k = same (key p) k (equal_is _ (sym (agrees r p is) ∙ taken)) in
          let no : eq_by_cmp R q (key p) ≡ false = ap (eq_by_cmp R q) one ∙ apart in rw no

  pub replaced_one : (made : Row → Row) (rows out : List Row) (x : X) → AreKeyed rows
      → (it : IsReplaced keeps made rows out) → key x ≡ k → read (made it.one) ≡ Some x
      → kept R key read out ≡ put_in (kept R key read rows) k x
  replaced_one made rows out x keyed it same_key reads =
      let one = it.one in
      let id = id_in (rowid one) in
      let there = has_filtered keeps rows one (subst (λ l. Has l one) (sym it.found) (inl refl)) in
      let int = all_has _ rows one keyed.ints there.0 in
      let stays = λ (r : Row). not (has_rowid id r) in
      let only = λ (r : Row) (h : Has rows r) (e : keeps r ≡ true). alone
      (subst (λ l. Has l r) it.found (has_kept keeps rows r h e)) in
      let lacks = all_from (Lacks total same key read k) (without_rowid id rows) (λ r h.
      let parts = has_filtered stays rows r h in
      elim (cases_Bool (keeps r)) [
        | inl e ↦ absurd (let gone : not (has_rowid id one) ≡ true = subst (λ y. not (has_rowid id y) ≡ true)
            (only r parts.0 e) parts.1 in let is = has_itself one int in let no : not true ≡ true = subst
            (λ b. not b ≡ true) is gone in cc)
        | inr e ↦ unkept total same key read k keeps agrees r e
      ]) in
      let others = λ (q : K) (apart : eq_by_cmp R q (key x) ≡ false). filter_found total same key read q stays rows
      (all_from _ rows (λ r h gone.
      let is : r ≡ one = gone_is rows one r keyed there.0 h gone in
      no_other r (subst (λ y. keeps y ≡ true) (sym is) there.1) q (ap (eq_by_cmp R q) (sym same_key) ∙ apart))) in
      replaced total same key read x (made one) (without_rowid id rows) rows out it.put reads it.free
      (subst (λ q. AllByRecursion (Lacks total same key read q) (without_rowid id rows)) (sym same_key) lacks)
      others
      ∙ ap (λ q. put_in (kept R key read rows) q x) same_key
    where
      alone : {r one : Row} → Has (one ∷ []) r → r ≡ one
      alone (inl e) = e
      alone (inr h) = absurd h

  nobody : (rows : List Row) → filter keeps rows ≡ [] → AllByRecursion (λ r. keeps r ≡ false) rows
  nobody rows none = all_from _ rows (λ r h. elim (cases_Bool (keeps r))
      [ inl e ↦ absurd (subst (λ l. Has l r) none (has_kept keeps rows r h e)) | inr e ↦ e ])

  pub added_one : (rows out : List Row) (new : Row) (x : X) → filter keeps rows ≡ [] → is_taken rows new ≡ false
      → out ≡ put_row new rows → key x ≡ k → read new ≡ Some x
      → kept R key read out ≡ put_in (kept R key read rows) k x
  added_one rows out new x none free put same_key reads =
      let lacks = all_from (Lacks total same key read k) rows
      (λ r h. unkept total same key read k keeps agrees r (all_has _ rows r (nobody rows none) h)) in
      replaced total same key read x new rows rows out put reads free
      (subst (λ q. AllByRecursion (Lacks total same key read q) rows) (sym same_key) lacks) (λ q apart. refl)
      ∙ ap (λ q. put_in (kept R key read rows) q x) same_key

-- ---- the one row that passes

module _ (keeps : Row → Bool) where
  -- where none passed, the row that was put is the one that does
  pub put_alone : (rows out : List Row) (new : Row) → keeps new ≡ true → filter keeps rows ≡ []
      → is_taken rows new ≡ false → out ≡ put_row new rows
      → filter keeps out ≡ new ∷ []
  put_alone rows out new passes none free put =
      let start : filter keeps (new ∷ rows) ≡ new ∷ [] = ap (λ b. cond b (new ∷ filter keeps rows) (filter keeps rows))
      passes ∙ ap (λ l. new ∷ l) none in
      let same = IsPermutation-filter keeps (new ∷ rows) (put_row new rows) (put_permutes new rows free) in
      ap (filter keeps) put ∙ one_permutation new (filter keeps (put_row new rows))
      (subst (λ l. IsPermutation l (filter keeps (put_row new rows))) start same)

  -- without the one row that passed, none does
  left_pass : (rows : List Row) (one : Row) → AreKeyed rows → filter keeps rows ≡ one ∷ []
      → filter keeps (without_rowid (id_in (rowid one)) rows) ≡ []
  left_pass rows one keyed found =
      let id = id_in (rowid one) in
      let there = (has_filtered keeps rows one (subst (λ l. Has l one) (sym found) (inl refl))).0 in
      let is = has_itself one (all_has _ rows one keyed.ints there) in
      filter_none keeps (without_rowid id rows) (all_from (λ r. keeps r ≡ false) (without_rowid id rows) (λ r h.
      let parts = has_filtered (λ r. not (has_rowid id r)) rows r h in
      elim (cases_Bool (keeps r)) [
        | inl e ↦ absurd (none_other id one r is (subst (λ l. Has l r) found (has_kept keeps rows r parts.0 e)) parts.1)
        | inr e ↦ e
      ]))
    where
      none_other : (id : ℤ) (one r : Row) → has_rowid id one ≡ true → Has (one ∷ []) r → not (has_rowid id r) ≡ true → ⊥
      none_other id one r is (inl e) stays = let no : not true ≡ true = ap not (sym is)
          ∙ subst (λ y. not (has_rowid id y) ≡ true) e stays in cc
      none_other id one r is (inr h) stays = absurd h

  -- where one passed, and what is made of it passes, that is the one that does
  pub replaced_alone : (made : Row → Row) (rows out : List Row) → AreKeyed rows → (it : IsReplaced keeps made rows out)
      → keeps (made it.one) ≡ true
      → filter keeps out ≡ made it.one ∷ []
  replaced_alone made rows out keyed it passes =
      put_alone (without_rowid (id_in (rowid it.one)) rows) out (made it.one) passes
      (left_pass rows it.one keyed it.found) it.free it.put
