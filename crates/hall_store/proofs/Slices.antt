-- The answers of a round by slices of its entrants: those up to a name, and then those from there on, are in one row
-- the answers up to the later end.
use Rattle.std.proofs.Common.{◌≡◌, ◌&&◌, inl, inr, ◌++◌, ◌+◌, ◌-◌, ℕ, Bool, true, false, not, List}
use Rattle.std.proofs.Common.{length, Option, Some, None, Contains, slice_index_or, refl, sym, ap, ◌∙◌, subst, arith}
use Rattle.std.specs.BTreeMap.Comparable.{le_lt_trans}
use Rattle.std.specs.Cmp.{both_ways}
use Rattle.std.specs.List.{filter}
use Rattle.std.specs.List.Sorted.{IsPermutation, IsSorted}
use Rattle.std.specs.Ordering.{is_le, is_lt, ordering_then, ordering_reverse}
use Rattle.std.specs.declared.cmp.Ordering.{Ordering}
use Rattle.std.specs.declared.cmp.Ordering.TheVariants.{Less, Equal, Greater}
use Rattle.std.specs.FinMap.{values}
use Rattle.std.proofs.Math.Seq.{get_or-append_right}
use Rattle.std.proofs.lemmas.Bool.{cases_lt}
use Rattle.std.proofs.lemmas.List.{get_or_append_left, length-append}
use Rattle.std.proofs.lemmas.List.Elements.{Contains-get_or, filter_agree}
use Rattle.std.proofs.lemmas.List.Sorted.{Contains-permutation, IsPermutation-append, IsPermutation-filter_both}
use Rattle.std.proofs.lemmas.List.Sorted.{IsPermutation-sym, IsPermutation-trans}
use Rattle.hall_policy.specs.Text.{text_cmp}
use Rattle.hall_policy.specs.World.{World}
use Rattle.hall_policy.specs.declared.record.AnswerRow.{AnswerRow}
use Rattle.hall_policy.proofs.Orders.{text_total}
use Rattle.hall_policy.proofs.Texts.{and_first, and_second}
use Rattle.hall_store.specs.Store.{IsListing, is_after, is_between, is_in, is_up_to, listing_cmp}
use Rattle.hall_store.proofs.Firsts.{and_parted, up_to_before}
use Rattle.hall_store.proofs.Ranges.{filter_twice}
use Rattle.hall_store.proofs.Tests.{and_both, filter-Contains}

-- ---- two sorted lists
module _ {X : Type 0} (cmp : X → X → Ordering) (xs ys : List X) (first : IsSorted cmp xs) (second : IsSorted cmp ys)
    (across : (x y : X) → Contains xs x → Contains ys y → is_lt (cmp y x) ≡ false) where
  -- where none of the one is less than one of the other before it, both are sorted in one row
  pub sorted_append : IsSorted cmp (xs ++ ys)
  sorted_append k d low inside =
      let long : length (xs ++ ys) ≡ length xs + length ys = length-append xs ys in
      elim (cases_lt (k + 1) (length xs)) [
        | inl within ↦
            subst (λ x. is_lt (cmp (slice_index_or (xs ++ ys) (k + 1) d) x) ≡ false)
            (sym (get_or_append_left xs ys d k (omega (arith, within))))
            (subst (λ y. is_lt (cmp y (slice_index_or xs k d)) ≡ false)
            (sym (get_or_append_left xs ys d (k + 1) within)) (first k d low within))
        | inr past ↦
            let next : slice_index_or (xs ++ ys) (k + 1) d ≡ slice_index_or ys (k + 1 - length xs) d =
            get_or-append_right xs ys (k + 1) d past in
            elim (cases_lt k (length xs)) [
              | inl last ↦
                  subst (λ x. is_lt (cmp (slice_index_or (xs ++ ys) (k + 1) d) x) ≡ false)
                  (sym (get_or_append_left xs ys d k last))
                  (subst (λ y. is_lt (cmp y (slice_index_or xs k d)) ≡ false) (sym next)
                  (across (slice_index_or xs k d) (slice_index_or ys (k + 1 - length xs) d)
                  (Contains-get_or xs k d last)
                  (Contains-get_or ys (k + 1 - length xs) d (omega (arith, long, inside, past)))))
              | inr beyond ↦
                  let from : k + 1 - length xs ≡ (k - length xs) + 1 = omega (arith, beyond) in
                  subst (λ x. is_lt (cmp (slice_index_or (xs ++ ys) (k + 1) d) x) ≡ false)
                  (sym (get_or-append_right xs ys k d beyond))
                  (subst (λ y. is_lt (cmp y (slice_index_or ys (k - length xs) d)) ≡ false)
                  (sym (next ∙ ap (λ n. slice_index_or ys n d) from))
                  (second (k - length xs) d (omega (arith)) (omega (arith, long, inside, beyond))))
            ]
      ]

-- ---- names
turned : (r : Ordering) → is_lt (ordering_reverse r) ≡ not (is_le r)
turned Less = refl
turned Equal = refl
turned Greater = refl

-- a name comes after the one where it isn't up to it
after_or_up_to : (one name : List ℕ) → is_after (Some one) name ≡ not (is_up_to (Some one) name)
after_or_up_to one name = ap is_lt (text_total.antisymm one name) ∙ turned (text_cmp name one)

less_from_test : (r : Ordering) → is_lt r ≡ true → r ≡ Less
less_from_test Less h = refl
less_from_test Equal h = let no : false ≡ true = h in cc
less_from_test Greater h = let no : false ≡ true = h in cc

-- what is after a name is not less than what is up to it, whatever follows
not_less : (a b : List ℕ) (one : List ℕ) (rest : Ordering) → is_up_to (Some one) a ≡ true → is_after (Some one) b ≡ true
    → is_lt (ordering_then (text_cmp b a) rest) ≡ false
not_less a b one rest up after =
    let less : text_cmp a b ≡ Less = le_lt_trans text_total a one b up (less_from_test (text_cmp one b) after) in
    ap (λ r. is_lt (ordering_then r rest)) (text_total.antisymm b a ∙ ap ordering_reverse less)

module _ (world : World) (id one : List ℕ) (last : Option (List ℕ)) (ordered : is_up_to last one ≡ true) where
  abbrev kept : List AnswerRow
  kept = values world.answers

  abbrev up : AnswerRow → Bool
  up row = is_up_to (Some one) row.key.entrant

  abbrev past : AnswerRow → Bool
  past row = is_after (Some one) row.key.entrant

  firsts : filter up (filter (is_between id None last) kept) ≡ filter (is_between id None (Some one)) kept
  firsts =
      filter_twice up (is_between id None last) kept
      ∙ filter_agree (λ row. is_between id None last row && up row) (is_between id None (Some one)) (λ row.
      let entrant = row.key.entrant in
      both_ways (is_between id None last row && up row) (is_between id None (Some one) row)
      (λ h. and_both (is_in id row) (up row)
      (and_first (is_in id row) (is_up_to last entrant) (and_first (is_between id None last row) (up row) h))
      (and_second (is_between id None last row) (up row) h))
      (λ h. and_both (is_between id None last row) (up row)
      (and_both (is_in id row) (is_up_to last entrant) (and_first (is_in id row) (up row) h)
      (up_to_before last entrant one (and_second (is_in id row) (up row) h) ordered))
      (and_second (is_in id row) (up row) h))) kept

  others : filter past (filter (is_between id None last) kept) ≡ filter (is_between id (Some one) last) kept
  others =
      filter_twice past (is_between id None last) kept
      ∙ filter_agree (λ row. is_between id None last row && past row) (is_between id (Some one) last)
      (λ row. and_parted (is_in id row) (is_up_to last row.key.entrant) (past row)) kept

  -- the answers up to the name, and then those from there up to the last, are those up to the last
  pub slices_join : (some more : List AnswerRow) → IsListing world (is_between id None (Some one)) some
      → IsListing world (is_between id (Some one) last) more → IsListing world (is_between id None last) (some ++ more)
  slices_join some more before after = record {
    whole =
        let whole : List AnswerRow = filter (is_between id None last) kept in
        let parts : IsPermutation whole (filter up whole ++ filter past whole) = IsPermutation-filter_both up past
        (λ row. after_or_up_to one row.key.entrant) whole in
        IsPermutation-trans whole (filter up whole ++ filter past whole) (some ++ more) parts
        (IsPermutation-append (filter up whole) some (filter past whole) more
        (subst (λ rows. IsPermutation rows some) (sym firsts) before.whole)
        (subst (λ rows. IsPermutation rows more) (sym others) after.whole));
    in_order = sorted_append listing_cmp some more before.in_order after.in_order (λ a b a_in b_in.
        let a_up = (filter-Contains (is_between id None (Some one)) kept a (Contains-permutation some
        (filter (is_between id None (Some one)) kept) a
        (IsPermutation-sym (filter (is_between id None (Some one)) kept) some before.whole) a_in)).1 in
        let b_past = (filter-Contains (is_between id (Some one) last) kept b (Contains-permutation more
        (filter (is_between id (Some one) last) kept) b
        (IsPermutation-sym (filter (is_between id (Some one) last) kept) more after.whole) b_in)).1 in
        not_less a.key.entrant b.key.entrant one _ (and_second (is_in id a) (up a) a_up)
        (and_first (past b) (is_up_to last b.key.entrant) (and_second (is_in id b)
        (past b && is_up_to last b.key.entrant) b_past)));
  }

and_true : (a : Bool) → (a && true) ≡ a
and_true true = refl
and_true false = refl

-- the answers by entrants after none and up to none are the round's
pub slices_whole : (world : World) (id : List ℕ) (rows : List AnswerRow)
    → IsListing world (is_between id None None) rows → IsListing world (is_in id) rows
slices_whole world id rows listing = record {
  whole = subst (λ kept. IsPermutation kept rows) (filter_agree (is_between id None None) (is_in id)
      (λ row. and_true (is_in id row)) (values world.answers)) listing.whole;
  in_order = listing.in_order;
}
