-- Where no two rows of a table agree on a key's columns, its records are the values of the map, each once.
use Rattle.std.proofs.Common.{◌≢◌, pos, ◌++◌, ◌≡◌, inl, inr, ℕ, ℤ, List, [], ◌∷◌, flat_map, Bool, true, false, not}
use Rattle.std.proofs.Common.{cond, ◌&&◌, Option, Some, None, option_to_list, refl, sym, ap, subst, ◌∙◌}
use Rattle.std.proofs.lemmas.Bool.{cases_Bool}
use Rattle.std.proofs.lemmas.Cmp.{tied_itself}
use Rattle.std.specs.Cmp.{IsTotalOrder}
use Rattle.std.specs.List.{list_any}
use Rattle.std.specs.List.Sorted.{IsPermutation}
use Rattle.std.specs.declared.cmp.Ordering.{Ordering}
use Rattle.std.specs.declared.cmp.Ordering.TheVariants.{Less, Equal, Greater}
use Rattle.std.specs.Ordering.{is_eq, eq_by_cmp, ordering_reverse}
use Rattle.std.specs.FinMap.{IsAntisymmetric, find as find_key, get, values}
use Rattle.sqlite.specs.declared.types.Value.{Value}
use Rattle.sqlite.specs.declared.types.Value.TheVariants.{Null, Int, Real, Text, Blob}
use Rattle.sqlite_sql.specs.declared.ops.CompareOp.TheVariants.{Ne}
use Rattle.sqlite_sql.specs.Ops.{binary, test}
use Rattle.sqlite.specs.Collation.TheVariants.{Binary}
use Rattle.sqlite.specs.Order.{Row}
use Rattle.sqlite_value.specs.Order.{value_cmp}
use Rattle.sqlite_value.specs.Keys.{plain}
use Rattle.sqlite_value.proofs.OrderLemmas.{value_cmp_total}
use Rattle.sqlite_schema.specs.Rules.{equal, differ, agree}
use Rattle.sqlite_trees.specs.Tree.{rowid}
use Rattle.sqlite_trees.specs.View.{is_int}
use Rattle.sqlite_rules.specs.Lists.{Has}
use Rattle.sqlite_rules.proofs.ListLemmas.{all_has, all_from, some_from}
use Rattle.hall_sql.specs.Rows.{entry, kept}
use Rattle.hall_sql.specs.Standing.{Apart, AreDistinct, AreKeyed}
use Rattle.hall_sql.proofs.ColumnLemmas.{as_truth}
use Rattle.hall_sql.proofs.MapLemmas.{equal_is, found, get_kept}
use Rattle.hall_sql.proofs.ValueLemmas.{AreAlone, alone_apart, values_permute}

equal_itself : (v : Value) → v ≢ Null → equal Binary v v ≡ true
unfolding binary
equal_itself Null null = absurd (null refl)
equal_itself (Int n) null = as_truth _ ∙ ap is_eq (tied_itself value_cmp_total (Int n))
equal_itself (Real x) null = as_truth _ ∙ ap is_eq (tied_itself value_cmp_total (Real x))
equal_itself (Text t) null = as_truth _ ∙ ap is_eq (tied_itself value_cmp_total (Text t))
equal_itself (Blob b) null = as_truth _ ∙ ap is_eq (tied_itself value_cmp_total (Blob b))

-- texts that are one equal each other in SQL, too
pub equal_texts : (s t : List ℕ) → s ≡ t → equal Binary (Text s) (Text t) ≡ true
equal_texts s t e = subst (λ u. equal Binary (Text s) (Text u) ≡ true) e (equal_itself (Text s) (λ no. cc))

-- and so do numbers
pub equal_numbers : (m n : ℕ) → m ≡ n → equal Binary (Int (pos m)) (Int (pos n)) ≡ true
equal_numbers m n e = subst (λ k. equal Binary (Int (pos m)) (Int (pos k)) ≡ true) e
    (equal_itself (Int (pos m)) (λ no. cc))

differs : (a b : ℤ) (o : Ordering) → value_cmp (Int a) (Int b) ≡ o → o ≢ Equal → differ (Int a) (Int b) ≡ true
unfolding binary
differs a b Less e apart = as_truth (test Ne (value_cmp (Int a) (Int b))) ∙ ap (test Ne) e
differs a b Equal e apart = absurd (apart refl)
differs a b Greater e apart = as_truth (test Ne (value_cmp (Int a) (Int b))) ∙ ap (test Ne) e

pub rows_differ : (u v : Value) → is_int u ≡ true → is_int v ≡ true → value_cmp u v ≢ Equal → differ v u ≡ true
rows_differ (Int a) (Int b) p q apart =
    differs b a (value_cmp (Int b) (Int a)) refl (λ tie. apart
    (value_cmp_total.antisymm (Int a) (Int b) ∙ ap ordering_reverse tie))
rows_differ (Int a) Null p q e = absurd cc
rows_differ (Int a) (Real x) p q e = absurd cc
rows_differ (Int a) (Text x) p q e = absurd cc
rows_differ (Int a) (Blob x) p q e = absurd cc
rows_differ Null v p q e = absurd cc
rows_differ (Real x) v p q e = absurd cc
rows_differ (Text x) v p q e = absurd cc
rows_differ (Blob x) v p q e = absurd cc

pub first_not : (b c : Bool) → not b && c ≡ true → b ≡ false
first_not true c h = absurd cc
first_not false c h = refl

pub both_true : (a b : Bool) → a ≡ true → b ≡ true → a && b ≡ true
both_true a b p q = rw (p, q)

module _ {K X : Type 0} {R : K → K → Ordering} (total : IsTotalOrder R) (same : IsAntisymmetric R) (key : X → K)
    (read : Row → Option X) where
  -- each record stands under its own key
  pub kept_keyed : (rows : List Row) (q : K) (x : X) → get (kept R key read rows) q ≡ Some x → key x ≡ q
  kept_keyed rows q x e = go rows (sym (get_kept total same key read q rows) ∙ e)
    where
      here : (y : X) (b : Bool) (rest : Option X) → eq_by_cmp R q (key y) ≡ b → (rest ≡ Some x → key x ≡ q)
          → cond b (Some y) rest ≡ Some x → key x ≡ q
      here y true rest is more h = let one : y ≡ x = cc in sym
          (same q (key x) (equal_is _ (ap (λ z. eq_by_cmp R q (key z)) (sym one) ∙ is)))
      here y false rest is more h = more h

      step : (o : Option X) (rest : List Row) → (found total same key read q rest ≡ Some x → key x ≡ q)
          → find_key R q (entry key o ++ flat_map (λ r. entry key (read r)) rest) ≡ Some x → key x ≡ q
      step None rest more h = more h
      step (Some y) rest more h = here y (eq_by_cmp R q (key y)) _ refl more h

      go : (rest : List Row) → found total same key read q rest ≡ Some x → key x ≡ q
      go [] h = absurd cc
      go (r ∷ rest) h = step (read r) rest (go rest) h

  module _ (places : List ℕ) (rows : List Row) (keyed : AreKeyed rows)
      (agreeing : (r y : Row) (x z : X) → read r ≡ Some x → read y ≡ Some z → key x ≡ key z
      → agree plain places y places r ≡ true)
      (unique : (r : Row) → Has rows r → list_any (λ other. agree plain places other places r && differ (rowid other)
      (rowid r)) rows ≡ false) where
    pair_apart : (r y : Row) (x : X) → Has rows r → Has rows y → Apart r y → read r ≡ Some x
        → find_key R (key x) (entry key (read y)) ≡ None
    pair_apart r y x h k apart is = go (read y) refl
      where
        clash : (z : X) → read y ≡ Some z → eq_by_cmp R (key x) (key z) ≡ true
            → list_any (λ other. agree plain places other places r && differ (rowid other) (rowid r)) rows ≡ true
        clash z reads tie =
            some_from _ rows y k (both_true _ _ (agreeing r y x z is reads (same _ _ (equal_is _ tie)))
            (rows_differ (rowid r) (rowid y) (all_has _ rows r keyed.ints h) (all_has _ rows y keyed.ints k) apart))

        go : (o : Option X) → read y ≡ o → find_key R (key x) (entry key o) ≡ None
        go None reads = refl
        go (Some z) reads = elim (cases_Bool (eq_by_cmp R (key x) (key z))) [
          | inl tie ↦ absurd (let e = sym (unique r h) ∙ clash z reads tie in cc)
          | inr apart ↦ rw apart
        ]

    alone_from : (some : List Row) → AreDistinct some → ((r : Row) → Has some r → Has rows r)
        → AreAlone total key read some
    alone_from [] distinct within = tt
    alone_from (r ∷ some) distinct within = (
      λ x is. all_from _ some (λ y h. pair_apart r y x (within r (inl refl)) (within y (inr h))
          (all_has _ some y distinct.0 h) is),
      alone_from some distinct.1 (λ y h. within y (inr h)),
    )

    -- so a listing of the table's records is one of the map's values
    pub records_listed : IsPermutation (flat_map (λ r. option_to_list (read r)) rows) (values (kept R key read rows))
    records_listed = values_permute total key read rows (alone_apart total key read rows
        (alone_from rows keyed.distinct (λ r h. h)))
