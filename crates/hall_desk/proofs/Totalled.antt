-- The totals of a round, from what a tally took.
use Rattle.std.proofs.Common.{◌≡◌, ◌⊎◌, ◌++◌, ◌+◌, ◌<◌, ◌&&◌, inl, inr, ℕ, zero, suc, ℤ, Bool, true, false, cond, List}
use Rattle.std.proofs.Common.{[], ◌∷◌, map, length, Some, None, Contains, refl, sym, ap, ◌∙◌, subst, arith}
use Rattle.std.specs.List.{filter, AllByRecursion, IsDistinct}
use Rattle.std.specs.List.Sorted.{IsPermutation}
use Rattle.std.specs.Map.{keys_of, values_of}
use Rattle.std.specs.FinMap.{get, values, entries, entries_sorted}
use Rattle.std.specs.Ordering.{nat_cmp, ordering_then, ordering_reverse, eq_by_cmp, is_eq, is_lt}
use Rattle.std.specs.declared.cmp.Ordering.{Ordering}
use Rattle.std.specs.declared.cmp.Ordering.TheVariants.{Less, Equal, Greater}
use Rattle.std.specs.Cmp.{IsTotalOrder}
use Rattle.std.specs.FinMap.{nat_cmp-IsAntisymmetric}
use Rattle.std.proofs.lemmas.Cmp.{tied_itself, eq_by_cmp_equiv, then_total, on_total, nat_cmp_total}
use Rattle.std.proofs.lemmas.List.{append-nil, append_assoc, length-append, get_or_append_left, get_or_at}
use Rattle.std.proofs.lemmas.List.{get_or_default}
use Rattle.std.proofs.lemmas.List.Sums.{length-filter}
use Rattle.std.proofs.lemmas.List.Sorted.{IsPermutation-refl, IsPermutation-cons, IsPermutation-trans}
use Rattle.std.proofs.lemmas.List.Sorted.{IsPermutation-swap, IsPermutation-keeps, IsPermutation-sym, IsPermutation-map}
use Rattle.std.proofs.lemmas.List.Sorted.{Contains-permutation, ranks_by, sorted_far}
use Rattle.std.proofs.lemmas.List.Elements.{Contains-append_left, Contains-append_right, Contains-get_or}
use Rattle.std.proofs.lemmas.List.Elements.{All-from_recursion, recursion_from_All, filter-append}
use Rattle.std.proofs.lemmas.Map.Keys.{IsDistinct-from_sorted, IsDistinct-IsPermutation}
use Rattle.hall_policy.specs.Sink.{HasTaken}
use Rattle.hall_policy.specs.Text.{text_cmp}
use Rattle.hall_policy.specs.World.{World, same_text, answer_cmp}
use Rattle.hall_policy.specs.declared.record.AnswerKey.{AnswerKey}
use Rattle.hall_policy.specs.declared.record.AnswerRow.{AnswerRow}
use Rattle.hall_policy.specs.declared.record.ProtestRow.{ProtestRow}
use Rattle.hall_policy.specs.declared.record.RoundRow.{RoundRow}
use Rattle.hall_policy.proofs.Maps.{get_is_lookup, get_of_value, strictly_sorted}
use Rattle.hall_policy.proofs.Orders.{text_total, same_texts, tied_then, answer_total}
use Rattle.hall_score.specs.Tally.{AreTotalsOf, IsTallyOf, TakesAnswer, RefusesAnswer, TakesProtest, RefusesProtest}
use Rattle.hall_score.specs.Tally.{IsNext, taking_cmp}
use Rattle.hall_score.specs.declared.tally.Tally.{Tally}
use Rattle.hall_store.specs.Store.{Content, Kept, IsListing, IsRefusedNext, listing_cmp, is_in, is_of, is_protest_in}
use Rattle.hall_store.specs.Store.{is_between, protests_in}
use Rattle.hall_store.proofs.Slices.{slices_whole}
use Rattle.hall_store.proofs.Tests.{filter-Contains, Contains-filter, and_both, and_turned}
use Rattle.hall_policy.proofs.Texts.{text_decides, and_first, and_second}
use Rattle.hall_store.specs.declared.fault.StoreFault.{StoreFault}
use Rattle.hall_store.specs.declared.fault.StoreFault.TheVariants.{Failed}
use Rattle.std.specs.Result.{IsErrAnd}
use Rattle.std.proofs.Common.{Result, Ok, Err, IfErr}
use Rattle.hall_desk.specs.Sane.{Sane}
use Rattle.hall_desk.specs.Totals.{AreTotals, HasAnswered, round_protests_by}
use Rattle.hall_score.specs.Total.{total_of}
use Rattle.std.proofs.lemmas.Map.Entries.{lookup_from_place}
use Rattle.std.proofs.lemmas.Option.{slice_get-get_or}
use Rattle.std.proofs.Common.{get_or, set}
use Rattle.std.specs.List.{swap}
use Rattle.hall_score.proofs.Permuted.{total_of_permutes}
use Rattle.hall_policy.specs.Rules.{protests_made}
use Rattle.hall_desk.proofs.PlanLemmas.{filter_alike}

-- the order of listings is total
listing_total : IsTotalOrder listing_cmp
listing_total =
    then_total (on_total (λ row. row.key.entrant) text_total)
    (then_total (on_total (λ row. row.key.number) nat_cmp_total)
    (then_total (on_total (λ row. row.n) nat_cmp_total) (on_total (λ row. row.key.token) text_total)))

-- ---- what a tally took, from its first row to its last
took_protests : (round : RoundRow) (done rows : List ProtestRow) (before after : Tally) → IsTallyOf round done [] before
    → HasTaken TakesProtest before rows after → IsTallyOf round (done ++ rows) [] after
took_protests round done [] before after held taken =
    subst (λ (t : Tally). IsTallyOf round (done ++ []) [] t) (sym taken)
    (subst (λ (ps : List ProtestRow). IsTallyOf round ps [] before) (sym (append-nil done)) held)
took_protests round done (row ∷ rows) before after held (next, takes, taken) =
    subst (λ (ps : List ProtestRow). IsTallyOf round ps [] after) (append_assoc done (row ∷ []) rows)
    (took_protests round (done ++ row ∷ []) rows next after (takes.1 round done held) taken)

took_answers : (round : RoundRow) (protests : List ProtestRow) (done rows : List AnswerRow) (before after : Tally)
    → IsTallyOf round protests done before → HasTaken TakesAnswer before rows after
    → IsTallyOf round protests (done ++ rows) after
took_answers round protests done [] before after held taken =
    subst (λ (t : Tally). IsTallyOf round protests (done ++ []) t) (sym taken)
    (subst (λ (rs : List AnswerRow). IsTallyOf round protests rs before) (sym (append-nil done)) held)
took_answers round protests done (row ∷ rows) before after held (next, takes, taken) =
    subst (λ (rs : List AnswerRow). IsTallyOf round protests rs after) (append_assoc done (row ∷ []) rows)
    (took_answers round protests (done ++ row ∷ []) rows next after (takes round protests done held).1 taken)

-- ---- an answer that is refused
-- the order of turns is total
turn_total : IsTotalOrder taking_cmp
turn_total =
    then_total (on_total (λ row. row.key.entrant) text_total)
    (then_total (on_total (λ row. row.key.number) nat_cmp_total) (on_total (λ row. row.n) nat_cmp_total))

-- what is before by its turn is before in a listing
then_more : (e n m t : Ordering) → ordering_then e (ordering_then n m) ≡ Less
    → ordering_then e (ordering_then n (ordering_then m t)) ≡ Less
then_more Less n m t h = refl
then_more Equal Less m t h = refl
then_more Equal Equal Less t h = refl
then_more Equal Equal Equal t h = let no : Equal ≡ Less = h in cc
then_more Equal Equal Greater t h = let no : Greater ≡ Less = h in cc
then_more Equal Greater m t h = let no : Greater ≡ Less = h in cc
then_more Greater n m t h = let no : Greater ≡ Less = h in cc

listed_before : (a b : AnswerRow) → taking_cmp a b ≡ Less → listing_cmp a b ≡ Less
listed_before a b h =
    then_more (text_cmp a.key.entrant b.key.entrant) (nat_cmp a.key.number b.key.number) (nat_cmp a.n b.n)
    (text_cmp a.key.token b.key.token) h

-- a row that isn't listed after another, and differs from it by its turn, comes before it
turn_before : (a b : AnswerRow) → is_lt (listing_cmp b a) ≡ false → (taking_cmp a b ≡ Equal → ⊥) → taking_cmp a b ≡ Less
turn_before a b not_after apart = elim (taking_cmp a b) as (λ o. taking_cmp a b ≡ o → o ≡ Less) [
  | Less ↦ λ e. refl
  | Equal ↦ λ e. absurd (apart e)
  | Greater ↦ λ e.
      let back : taking_cmp b a ≡ Less = turn_total.antisymm b a ∙ ap ordering_reverse e in
      let no : true ≡ false = sym (ap is_lt (listed_before b a back)) ∙ not_after in cc
] refl

-- keys that differ in a map differ in what a test leaves of its rows
module _ (E : AnswerKey → AnswerKey → Bool) (p : AnswerRow → Bool) where
  abbrev left_keys : List (AnswerKey × AnswerRow) → List AnswerKey
  left_keys es = map (λ (r : AnswerRow). r.key) (filter p (values_of es))

  all_left : (P : AnswerKey → Type 0) (es : List (AnswerKey × AnswerRow)) → AllByRecursion (λ e. e.1.key ≡ e.0) es
      → AllByRecursion P (keys_of es) → AllByRecursion P (left_keys es)
  all_left P [] own all = tt
  all_left P (e ∷ es) own all =
      let rest : AllByRecursion P (left_keys es) = all_left P es own.1 all.1 in
      elim (p e.1) as (λ b. AllByRecursion P (map (λ (r : AnswerRow). r.key)
      (cond b (e.1 ∷ filter p (values_of es)) (filter p (values_of es))))) [
        | true ↦ (subst P (sym own.0) all.0, rest)
        | false ↦ rest
      ]

  distinct_left : (es : List (AnswerKey × AnswerRow)) → AllByRecursion (λ e. e.1.key ≡ e.0) es
      → IsDistinct E (keys_of es) → IsDistinct E (left_keys es)
  unfolding IsDistinct
  distinct_left [] own apart = tt
  distinct_left (e ∷ es) own apart =
      let rest : IsDistinct E (left_keys es) = distinct_left es own.1 apart.1 in
      let head : AllByRecursion (λ y. E e.1.key y ≡ false) (left_keys es) = subst
      (λ (k : AnswerKey). AllByRecursion (λ y. E k y ≡ false) (left_keys es)) (sym own.0)
      (all_left (λ y. E e.0 y ≡ false) es own.1 apart.0) in
      elim (p e.1) as (λ b. IsDistinct E (map (λ (r : AnswerRow). r.key)
      (cond b (e.1 ∷ filter p (values_of es)) (filter p (values_of es))))) [
        | true ↦ (head, rest)
        | false ↦ rest
      ]

-- what holds of all keys holds of the next row's
all_at : (P : AnswerKey → Type 0) (taken left : List AnswerRow) (next : AnswerRow)
    → AllByRecursion P (map (λ (r : AnswerRow). r.key) (taken ++ next ∷ left)) → P next.key
all_at P [] left next all = all.0
all_at P (row ∷ taken) left next all = all_at P taken left next all.1

-- the keys before the next row differ from its own
apart_before : (E : AnswerKey → AnswerKey → Bool) (taken left : List AnswerRow) (next : AnswerRow)
    → IsDistinct E (map (λ (r : AnswerRow). r.key) (taken ++ next ∷ left)) →
    AllByRecursion (λ (r : AnswerRow). E r.key next.key ≡ false) taken
unfolding IsDistinct
apart_before E [] left next apart = tt
apart_before E (row ∷ taken) left next apart = (
  all_at (λ y. E row.key y ≡ false) taken left next apart.0,
  apart_before
      E taken left next apart.1,
)

module _ (world : World) (sane : Sane world) (id : List ℕ) where
  abbrev same_key : AnswerKey → AnswerKey → Bool
  same_key = eq_by_cmp answer_cmp

  keys_differ : IsDistinct same_key (keys_of (entries world.answers))
  keys_differ = IsDistinct-from_sorted answer_cmp (keys_of (entries world.answers))
      (strictly_sorted answer_cmp (entries world.answers) (entries_sorted world.answers))

  own_entries : AllByRecursion (λ (e : AnswerKey × AnswerRow). e.1.key ≡ e.0) (entries world.answers)
  own_entries = recursion_from_All (λ (e : AnswerKey × AnswerRow). e.1.key ≡ e.0) (entries world.answers) (λ k d below.
      let e : AnswerKey × AnswerRow = get_or (entries world.answers) k d in
      sane.typed.answers e.0 e.1
      (get_is_lookup world.answers e.0 ∙ lookup_from_place (eq_by_cmp_equiv answer_total) (entries world.answers) k e.0
      e.1 keys_differ (slice_get-get_or (entries world.answers) k d below)))

  module _ (rows : List AnswerRow) (whole : IsPermutation (filter (is_in id) (values world.answers)) rows) where
    keys_apart : IsDistinct same_key (map (λ (r : AnswerRow). r.key) rows)
    keys_apart = IsDistinct-IsPermutation same_key (eq_by_cmp_equiv answer_total).symm
        (map (λ (r : AnswerRow). r.key) (filter (is_in id) (values world.answers)))
        (map (λ (r : AnswerRow). r.key) rows)
        (IsPermutation-map (λ (r : AnswerRow). r.key) (filter (is_in id) (values world.answers)) rows whole)
        (distinct_left same_key (is_in id) (entries world.answers) own_entries keys_differ)

    found_row : (row : AnswerRow) → Contains rows row → (get world.answers row.key ≡ Some row) × (row.key.round ≡ id)
    found_row row has =
        let kept = filter-Contains (is_in id) (values world.answers) row
        (Contains-permutation rows (filter (is_in id) (values world.answers)) row
        (IsPermutation-sym (filter (is_in id) (values world.answers)) rows whole) has) in
        let at = get_of_value answer_total world.answers row kept.0 in (
          subst (λ (k : AnswerKey). get world.answers k ≡ Some row) (sym (sane.typed.answers at.0 row at.1)) at.1,
          (text_decides row.key.round id).0 kept.1,
        )

    -- two rows of one turn are one
    one_turn : (a b : AnswerRow) → Contains rows a → Contains rows b → taking_cmp a b ≡ Equal → a.key ≡ b.key
    one_turn a b has_a has_b tie =
        let t = tied_then (text_cmp a.key.entrant b.key.entrant)
        (ordering_then (nat_cmp a.key.number b.key.number) (nat_cmp a.n b.n)) tie in
        let u = tied_then (nat_cmp a.key.number b.key.number) (nat_cmp a.n b.n) t.1 in
        let at_a = found_row a has_a in
        let at_b = found_row b has_b in
        sane.numbered_once a.key b.key a b at_a.0 at_b.0 (same_texts a.key.entrant b.key.entrant t.0)
        (at_a.1 ∙ sym at_b.1)
        (nat_cmp-IsAntisymmetric a.key.number b.key.number u.0) (nat_cmp-IsAntisymmetric a.n b.n u.1)

  -- in a listing of a sane world each row comes after those before it
  pub next_listed : (taken left : List AnswerRow) (next : AnswerRow) → IsListing world (is_in id) (taken ++ next ∷ left)
      → IsNext taken next
  next_listed taken left next listing = λ k d below.
      let rows : List AnswerRow = taken ++ next ∷ left in
      let before : AnswerRow = get_or taken k d in
      let size : length rows ≡ length taken + suc (length left) = length-append taken (next ∷ left) in
      let late : is_lt (listing_cmp (get_or rows (length taken) d) (get_or rows k d)) ≡ false =
      sorted_far (λ x y. is_lt (listing_cmp x y)) (ranks_by listing_total (λ (r : AnswerRow). r)) rows listing.in_order
      k (length taken) d (omega (arith, below)) (omega (arith, size)) in
      let here : get_or rows k d ≡ before = get_or_append_left taken (next ∷ left) d k below in
      let there : get_or rows (length taken) d ≡ next = get_or_at taken next left d (length taken) refl in
      let apart : same_key before.key next.key ≡ false =
      All-from_recursion (λ (r : AnswerRow). same_key r.key next.key ≡ false) taken
      (apart_before same_key taken left next (keys_apart rows listing.whole)) k d below in
      turn_before before next
      (subst (λ (b : AnswerRow). is_lt (listing_cmp next b) ≡ false) here
      (subst (λ (n : AnswerRow). is_lt (listing_cmp n (get_or rows k d)) ≡ false) there late))
      (λ tie.
      let has_before : Contains rows before = Contains-append_left taken (next ∷ left) before
      (Contains-get_or taken k d below) in
      let has_next : Contains rows next = Contains-append_right taken (next ∷ left) next (0, omega arith, refl) in
      let same : before.key ≡ next.key = one_turn rows listing.whole before next has_before has_next tie in
      let tied : same_key next.key next.key ≡ true = ap is_eq (tied_itself answer_total next.key) in
      let no : true ≡ false = sym tied ∙ subst (λ (key : AnswerKey). same_key key next.key ≡ false) same apart in
      cc)

-- a tally refuses no row of a listing of a sane world
pub none_refused : (world : World) (id : List ℕ) (round : RoundRow) (protests : List ProtestRow)
    (taken left : List AnswerRow) (next : AnswerRow) (fresh between after : Tally) →
    IsTallyOf round [] [] fresh → HasTaken TakesProtest fresh protests between
    → HasTaken TakesAnswer between taken after → RefusesAnswer after next →
    IsListing world (is_in id) (taken ++ next ∷ left) → Sane world → ⊥
none_refused world id round protests taken left next fresh between after held first then refuses listing sane =
    refuses round protests taken (took_answers round protests [] taken between after
    (took_protests round [] protests fresh between held first) then)
    (next_listed world sane id taken left next listing)

-- ---- the totals
-- what a test leaves of a list that moved has moved
filter_two : {X : Type 0} (p : X → Bool) (x y : X) (xs : List X)
    → IsPermutation (filter p (x ∷ y ∷ xs)) (filter p (y ∷ x ∷ xs))
filter_two {X} p x y xs =
    let rest : List X = filter p xs in
    elim (p x) as (λ a. IsPermutation (cond a (x ∷ cond (p y) (y ∷ rest) rest) (cond (p y) (y ∷ rest) rest))
    (cond (p y) (y ∷ cond a (x ∷ rest) rest) (cond a (x ∷ rest) rest))) [
      | true ↦ elim (p y) as (λ b. IsPermutation (x ∷ cond b (y ∷ rest) rest) (cond b (y ∷ x ∷ rest) (x ∷ rest))) [
        | true ↦ IsPermutation-swap (x ∷ y ∷ rest) (y ∷ x ∷ rest) 0 1 (omega arith) (omega arith) refl
        | false ↦ IsPermutation-refl (x ∷ rest)
      ]
      | false ↦ IsPermutation-refl (cond (p y) (y ∷ rest) rest)
    ]

filter_behind : {X : Type 0} (p : X → Bool) (x : X) (xs ys : List X) → IsPermutation (filter p xs) (filter p ys)
    → IsPermutation (filter p (x ∷ xs)) (filter p (x ∷ ys))
filter_behind {X} p x xs ys moved = elim (p x) as (λ b. IsPermutation (cond b (x ∷ filter p xs) (filter p xs))
    (cond b (x ∷ filter p ys) (filter p ys))) [
      | true ↦ IsPermutation-cons x (filter p xs) (filter p ys) moved
      | false ↦ moved
    ]

-- the first item and one of the rest change places
filter_exchanged : {X : Type 0} (p : X → Bool) (x : X) (xs : List X) (j : ℕ) → j < length xs
    → IsPermutation (filter p (x ∷ xs)) (filter p (get_or xs j x ∷ set xs j x))
filter_exchanged p x [] j below = absurd (omega (arith, below))
filter_exchanged {X} p x (y ∷ ys) zero below = filter_two p x y ys
filter_exchanged {X} p x (y ∷ ys) (suc j) below =
    let other : X = get_or ys j x in
    let rest : IsPermutation (filter p (x ∷ ys)) (filter p (other ∷ set ys j x)) = filter_exchanged p x ys j
    (omega (arith, below)) in
    IsPermutation-trans (filter p (x ∷ y ∷ ys)) (filter p (y ∷ x ∷ ys)) (filter p (other ∷ y ∷ set ys j x))
    (filter_two p x y ys)
    (IsPermutation-trans (filter p (y ∷ x ∷ ys)) (filter p (y ∷ other ∷ set ys j x)) (filter p (other ∷ y ∷ set ys j x))
    (filter_behind p y (x ∷ ys) (other ∷ set ys j x) rest) (filter_two p y other (set ys j x)))

filter_swapped : {X : Type 0} (p : X → Bool) (xs : List X) (i j : ℕ) → i < length xs → j < length xs
    → IsPermutation (filter p xs) (filter p (swap xs i j))
filter_swapped p [] i j in_i in_j = absurd (omega (arith, in_i))
filter_swapped p (x ∷ xs) zero zero in_i in_j = IsPermutation-refl (filter p (x ∷ xs))
filter_swapped p (x ∷ xs) zero (suc j) in_i in_j = filter_exchanged p x xs j (omega (arith, in_j))
filter_swapped p (x ∷ xs) (suc i) zero in_i in_j = filter_exchanged p x xs i (omega (arith, in_i))
filter_swapped p (x ∷ []) (suc i) (suc j) in_i in_j = absurd (omega (arith, in_i))
filter_swapped {X} p (x ∷ y ∷ ys) (suc i) (suc j) in_i in_j =
    let xs : List X = y ∷ ys in
    let below_i : i < length xs = omega (arith, in_i) in
    let below_j : j < length xs = omega (arith, in_j) in
    let same : set (set xs i (get_or xs j y)) j (get_or xs i y) ≡ set (set xs i (get_or xs j x)) j (get_or xs i x) =
    let at_i : get_or xs i y ≡ get_or xs i x = get_or_default xs i y x below_i in
    let at_j : get_or xs j y ≡ get_or xs j x = get_or_default xs j y x below_j in
    λ k. set (set xs i (at_j k)) j (at_i k) in
    subst (λ (zs : List X). IsPermutation (filter p (x ∷ xs)) (filter p (x ∷ zs))) same
    (filter_behind p x xs (swap xs i j) (filter_swapped p xs i j below_i below_j))

filter_permutes : {X : Type 0} (p : X → Bool) (xs ys : List X) → IsPermutation xs ys
    → IsPermutation (filter p xs) (filter p ys)
filter_permutes p xs ys moved =
    IsPermutation-keeps xs (λ l. IsPermutation (filter p xs) (filter p l)) (IsPermutation-refl (filter p xs))
    (λ l i j in_i in_j h. IsPermutation-trans (filter p xs) (filter p l) (filter p (swap l i j)) h
    (filter_swapped p l i j in_i in_j)) ys moved

filter_twice : {X : Type 0} (p q : X → Bool) (xs : List X) → filter p (filter q xs) ≡ filter (λ x. q x && p x) xs
filter_twice p q [] = refl
filter_twice {X} p q (x ∷ xs) =
    let rest : filter p (filter q xs) ≡ filter (λ y. q y && p y) xs = filter_twice p q xs in
    elim (q x) as (λ b. filter p (cond b (x ∷ filter q xs) (filter q xs)) ≡ cond (b && p x)
    (x ∷ filter (λ y. q y && p y) xs) (filter (λ y. q y && p y) xs)) [
      | true ↦ ap (λ (ys : List X). cond (p x) (x ∷ ys) ys) rest
      | false ↦ rest
    ]

-- a tally refuses no protest of a round of a sane world
pub too_many_protests : (world : World) (id : List ℕ) (round : RoundRow) (taken left : List ProtestRow)
    (next : ProtestRow) (fresh after : Tally) →
    IsTallyOf round [] [] fresh → HasTaken TakesProtest fresh taken after → RefusesProtest after next → taken ++ next
    ∷ left ≡ protests_in world id → Sane world → ⊥
too_many_protests world id round taken left next fresh after held took refuses whole sane =
    let own : ProtestRow → Bool = λ row. same_text row.key.entrant next.key.entrant in
    let all : List ProtestRow = values world.protests in
    let full : length (filter own taken) ≡ 4294967295 = refuses round taken
    (took_protests round [] taken fresh after held took) in
    let parts : filter own (taken ++ next ∷ left) ≡ filter own taken ++ filter own (next ∷ left) = filter-append own
    taken (next ∷ left) in
    let sum : length (filter own taken ++ filter own (next ∷ left)) ≡ length (filter own taken) + length
    (filter own (next ∷ left)) = length-append (filter own taken) (filter own (next ∷ left)) in
    let kept : filter own (taken ++ next ∷ left) ≡ filter (λ row. own row && is_protest_in id row) all =
    ap (filter own) whole ∙ (filter_twice own (is_protest_in id) all
    ∙ filter_alike (λ row. is_protest_in id row && own row) (λ row. own row && is_protest_in id row)
    (λ row. and_turned (is_protest_in id row) (own row)) all) in
    let counted : length (filter (λ row. own row && is_protest_in id row) all) ≡ protests_made world next.key.entrant
    id = length-filter (λ row. own row && is_protest_in id row) all in
    let shared : length (filter own taken ++ filter own (next ∷ left)) ≡ protests_made world next.key.entrant id = ap
    length (sym parts ∙ kept) ∙ counted in
    omega (arith, full, sum, shared, sane.few_protests next.key.entrant id)

module _ (world : World) (id : List ℕ) (row : RoundRow) (answers : List AnswerRow)
    (listing : IsListing world (is_in id) answers)
    (totals : List (List ℕ × ℤ)) (are : AreTotalsOf row (protests_in world id) answers totals) where
  answered : (entrant : List ℕ) → HasAnswered world id entrant → (r : AnswerRow) × Contains answers r
      × (r.key.entrant ≡ entrant)
  answered entrant (r, has) =
      let kept = filter-Contains (is_of entrant id) (values world.answers) r has in
      let in_round : same_text r.key.round id ≡ true = and_first (same_text r.key.round id)
      (same_text r.key.entrant entrant) kept.1 in
      let own : same_text r.key.entrant entrant ≡ true = and_second (same_text r.key.round id)
      (same_text r.key.entrant entrant) kept.1 in (
        r,
        Contains-permutation (filter (is_in id) (values world.answers)) answers r listing.whole
            (Contains-filter (is_in id) (values world.answers) r kept.0 in_round),
        (text_decides r.key.entrant entrant).0 own,
      )

  has_answered : (entrant : List ℕ) → (r : AnswerRow) × Contains answers r × (r.key.entrant ≡ entrant)
      → HasAnswered world id entrant
  has_answered entrant (r, has, own) =
      let kept = filter-Contains (is_in id) (values world.answers) r
      (Contains-permutation answers (filter (is_in id) (values world.answers)) r
      (IsPermutation-sym (filter (is_in id) (values world.answers)) answers listing.whole) has) in (
        r,
        Contains-filter (is_of entrant id) (values world.answers) r kept.0
            (and_both (same_text r.key.round id) (same_text r.key.entrant entrant) kept.1
            ((text_decides r.key.entrant entrant).1 own)),
      )

  pub totals_are : AreTotals world id row totals
  totals_are = record {
    each_once = λ i j d below within same.
        let a : List ℕ × ℤ = get_or totals i d in
        let b : List ℕ × ℤ = get_or totals j d in
        let less : text_cmp a.0 b.0 ≡ Less = are.in_order i j d below within in
        let tied : text_cmp a.0 b.0 ≡ Equal = subst (λ (name : List ℕ). text_cmp a.0 name ≡ Equal) same
        (tied_itself text_total a.0) in
        let no : Less ≡ Equal = sym less ∙ tied in
        cc;
    listed = λ entrant. (
      (λ has. (are.listed entrant).0 (answered entrant has)),
      (λ total. has_answered entrant ((are.listed entrant).1 total)),
    );
    right = λ entrant total among.
        let own : AnswerRow → Bool = λ r. same_text r.key.entrant entrant in
        let by : ProtestRow → Bool = λ r. same_text r.key.entrant entrant in
        are.right entrant total among
        ∙ (ap (total_of row (filter own answers)) (filter_twice by (is_protest_in id) (values world.protests))
        ∙ (sym (total_of_permutes row (filter own (filter (is_in id) (values world.answers))) (filter own answers)
        (round_protests_by world id entrant) (filter_permutes own (filter (is_in id) (values world.answers)) answers
        listing.whole))
        ∙ ap (λ (rs : List AnswerRow). total_of row rs (round_protests_by world id entrant))
        (filter_twice own (is_in id) (values world.answers))));
  }

-- ---- over a store
-- a copy in each part is a copy
pub same_rows : (a b : RoundRow) → (a.round ≡ b.round) × ((a.puzzles ≡ b.puzzles) × (a.testers ≡ b.testers)) → a ≡ b
same_rows a b (round, (puzzles, testers)) = λ i. record { round = round i; puzzles = puzzles i; testers = testers i }

module _ (cause : Type 0) (id : List ℕ) (round : RoundRow) (fresh : Tally) (held : IsTallyOf round [] [] fresh) where
  -- feeding protests fails for such a cause alone, or in a world that isn't sane
  pub protests_fail : (old new : Content) (after : Tally) → Kept old new → cause
      ⊎ IsRefusedNext TakesProtest RefusesProtest (λ world rows. rows ≡ protests_in world id) old new fresh after →
      cause ⊎ (new.honest → new.serves × ¬ (Sane new.world))
  protests_fail old new after kept (inl is) = inl is
  protests_fail old new after kept (inr (taken, next, took, refuses, rest)) = inr (λ h.
      let left = rest h in (
        left.0,
        λ sane. too_many_protests old.world id round taken left.1.0 next fresh after held took refuses left.1.1
            (subst Sane (kept.world h left.0) sane),
      ))

  module _ (mid new : Content) (between : Tally) (kept : Kept mid new)
      (first : mid.honest → mid.serves × ((rows : List ProtestRow) × (rows ≡ protests_in mid.world id)
      × HasTaken TakesProtest fresh rows between)) where
    -- feeding answers after them fails for such a cause alone, or in a world that isn't sane
    pub answers_fail : (after : Tally) → cause ⊎ IsRefusedNext TakesAnswer RefusesAnswer
        (λ world rows. IsListing world (is_between id None None) rows) mid new between after →
        cause ⊎ (new.honest → new.serves × ¬ (Sane new.world))
    answers_fail after (inl is) = inl is
    answers_fail after (inr (taken, next, took, refuses, rest)) = inr (λ h.
        let left = rest h in
        let read = first (kept.honest h) in (
          left.0,
          λ sane. none_refused mid.world id round read.1.0 taken left.1.0 next fresh between after held read.1.2
              took refuses (slices_whole mid.world id (taken ++ next ∷ left.1.0) left.1.1)
              (subst Sane (kept.world h left.0) sane),
        ))

    -- the totals of both
    pub totals_served : (after : Tally) (totals : List (List ℕ × ℤ)) →
        (new.honest → new.serves × ((rows : List AnswerRow) × IsListing new.world (is_between id None None) rows
        × HasTaken TakesAnswer between rows after)) →
        ((round : RoundRow) (protests : List ProtestRow) (answers : List AnswerRow) (fresh between : Tally)
        → IsTallyOf round [] [] fresh → HasTaken TakesProtest fresh protests between
        → HasTaken TakesAnswer between answers after → AreTotalsOf round protests answers totals) →
        new.honest → new.serves × AreTotals new.world id round totals
    totals_served after totals then given h =
        let served = then h in
        let s : new.serves = served.0 in
        let read = first (kept.honest h) in
        let all : read.1.0 ≡ protests_in new.world id = read.1.1
        ∙ ap (λ (w : World). protests_in w id) (sym (kept.world h s)) in
        let are : AreTotalsOf round read.1.0 served.1.0 totals =
        given round read.1.0 served.1.0 fresh between held read.1.2 served.1.2 in (
          s,
          totals_are new.world id round served.1.0 (slices_whole new.world id served.1.0 served.1.1) totals
              (subst (λ (protests : List ProtestRow). AreTotalsOf round protests served.1.0 totals) all are),
        )
