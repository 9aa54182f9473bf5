-- A round whose places and testers are told has a whole list.
use Rattle.std.proofs.Common.{◌≡◌, ◌↔◌, ◌∷◌, [], ℕ, suc, Bool, true, false, List, map, length, Option, Some}
use Rattle.std.proofs.Common.{None, Contains, AllPairs, slice_get, refl, sym, ap, ◌∙◌}
use Rattle.std.proofs.Common.{subst, arith}
use Rattle.std.specs.BTreeMap.{is_at}
use Rattle.std.specs.Cmp.{tied_itself}
use Rattle.std.specs.FinMap.{get, entries, entries_sorted}
use Rattle.std.specs.List.{filter, count_by, IsDistinct, AllByRecursion}
use Rattle.std.specs.List.Sorted.{IsStrictlySortedBy}
use Rattle.std.specs.Map.{lookup, keys_of}
use Rattle.std.specs.Option.{option_map}
use Rattle.std.specs.Ordering.{is_eq, eq_by_cmp}
use Rattle.std.specs.declared.cmp.Ordering.TheVariants.{Equal}
use Rattle.std.proofs.lemmas.List.Sums.{length-filter}
use Rattle.std.proofs.lemmas.Map.Entries.{lookup-filter-keys}
use Rattle.std.proofs.lemmas.Map.Keys.{IsDistinct-from_sorted}
use Rattle.std.proofs.lemmas.Map.Made.{IsDistinct-keys_filter, AllPairs-from_IsDistinct}
use Rattle.std.proofs.lemmas.Option.{slice_get-map}
use Rattle.hall_policy.specs.Ranges.{HasWholeList}
use Rattle.hall_policy.specs.Text.{text_cmp}
use Rattle.hall_policy.specs.World.{World, IsTesterOf, place_of, entry_at, same_text, place_cmp, tester_cmp}
use Rattle.hall_policy.specs.declared.record.PlaceKey.{PlaceKey}
use Rattle.hall_policy.specs.declared.record.Round.{Round}
use Rattle.hall_policy.specs.declared.record.RoundRow.{RoundRow}
use Rattle.hall_policy.specs.declared.record.TesterKey.{TesterKey}
use Rattle.hall_policy.proofs.Maps.{get_is_lookup, strictly_sorted}
use Rattle.hall_policy.proofs.Orders.{text_total, tester_total, same_place_keys, same_tester_keys}
use Rattle.hall_policy.proofs.Texts.{text_decides}
use Rattle.hall_store.specs.Maps.{places_from}
use Rattle.hall_store.proofs.MapWorlds.{places_of_rounds}
use Rattle.hall_store.proofs.Ranges.{equal_from_test}
use Rattle.hall_store.proofs.Tests.{contained, placed, later, not_true, true_not_false, Contains-filter}
use Rattle.hall_store.proofs.Tests.{filter-Contains}
use Rattle.hall_check.specs.Sentences.{HasList, HasFewTesters, places_of_round}
use Rattle.hall_check.proofs.Standing.{get_of_entry, entry_of_get}

length_mapped : {X Y : Type 0} (f : X → Y) (xs : List X) → length (map f xs) ≡ length xs
length_mapped f [] = refl
length_mapped f (x ∷ xs) = ap suc (length_mapped f xs)

abbrev tests_it : List ℕ → TesterKey × Unit {0} → Bool
tests_it id tester = same_text tester.0.round id

abbrev name_in : TesterKey × Unit {0} → List ℕ
name_in tester = tester.0.name

among_map : {X Y : Type 0} (f : X → Y) (xs : List X) (x : X) → Contains xs x → Contains (map f xs) (f x)
among_map f xs x among =
    let at = placed xs x among in
    contained (map f xs) (f x) at.0 (slice_get-map f xs at.0 ∙ ap (option_map f) at.1)

map_among : {X Y : Type 0} (f : X → Y) (xs : List X) (y : Y) → Contains (map f xs) y → (x : X) × Contains xs x
    × (f x ≡ y)
map_among {X} f xs y among =
    let at = placed (map f xs) y among in
    of_option at.0 (slice_get xs at.0) refl (sym (slice_get-map f xs at.0) ∙ at.1)
  where
    of_option : (i : ℕ) (found : Option X) → slice_get xs i ≡ found → option_map f found ≡ Some y → (x : X)
        × Contains xs x × (f x ≡ y)
    of_option i None e h = absurd (cc)
    of_option i (Some x) e h = (x, contained xs x i e, (let both : Some (f x) ≡ Some y = h in cc))

module _ (world : World) (id : List ℕ) where
  -- the list is what the world has at the round's places
  list_kept : (row : RoundRow) → places_of_round world id ≡ places_from id 1 row.puzzles → (number : ℕ)
      → place_of world id number ≡ entry_at row.puzzles number
  list_kept row are number =
      let key : PlaceKey = record { round = id; number = number } in
      let tie : text_cmp id id ≡ Equal = tied_itself text_total id in
      get_is_lookup world.places key
      ∙ sym (lookup-filter-keys (is_at (place_cmp key)) (λ (k : PlaceKey). same_text k.round id) true
      (λ k test. (text_decides k.round id).1 (ap (λ (p : PlaceKey). p.round)
      (sym (same_place_keys key k (equal_from_test (place_cmp key k) test))))) (entries world.places))
      ∙ ap (lookup (is_at (place_cmp key))) are
      ∙ places_of_rounds.own key (id, row) tie

  abbrev testers_in : List (TesterKey × Unit {0})
  testers_in = filter (tests_it id) (entries world.testers)

  abbrev names_in : List (List ℕ)
  names_in = map name_in testers_in

  -- the names are those of the round's testers
  testers_kept : (name : List ℕ) → IsTesterOf world id name ↔ Contains names_in name
  testers_kept name =
      let key : TesterKey = record { round = id; name = name } in (
        (λ tests.
            let entry : Contains (entries world.testers) (key, tt) = entry_of_get tester_total same_tester_keys
            world.testers key tt tests in
            among_map name_in testers_in (key, tt) (Contains-filter (tests_it id) (entries world.testers) (key, tt)
            entry ((text_decides id id).1 refl))),
        (λ among.
            let at = map_among name_in testers_in name among in
            let tester : TesterKey × Unit {0} = at.0 in
            let of_round = filter-Contains (tests_it id) (entries world.testers) tester at.1 in
            let round : tester.0.round ≡ id = (text_decides tester.0.round id).0 of_round.1 in
            let same : tester.0 ≡ key = λ i. record { round = round i; name = at.2 i } in
            subst (λ (k : TesterKey). get world.testers k ≡ Some tt) same
            (get_of_entry tester_total world.testers tester.0 tester.1 of_round.0)),
      )

  -- none of them stands twice
  other_names : (x : TesterKey × Unit {0}) (xs : List (TesterKey × Unit {0})) → x.0.round ≡ id
      → ((y : TesterKey × Unit {0}) → Contains xs y → y.0.round ≡ id)
      → AllByRecursion (λ k. eq_by_cmp tester_cmp x.0 k ≡ false) (keys_of xs)
      → AllByRecursion (λ n. same_text x.0.name n ≡ false) (map name_in xs)
  other_names x [] own owns apart = tt
  other_names x (y ∷ ys) own owns (first, rest) = (
    not_true (same_text x.0.name y.0.name) (λ same.
        let names : x.0.name ≡ y.0.name = (text_decides x.0.name y.0.name).0 same in
        let rounds : x.0.round ≡ y.0.round = own ∙ sym (owns y (contained (y ∷ ys) y 0 refl)) in
        let keys : x.0 ≡ y.0 = λ i. record { round = rounds i; name = names i } in
        true_not_false (eq_by_cmp tester_cmp x.0 y.0) (subst (λ (k : TesterKey). eq_by_cmp tester_cmp x.0 k ≡ true) keys
        (ap is_eq (tied_itself tester_total x.0))) first),
    other_names x ys own (λ z among. owns z (later y ys z among)) rest,
  )

  distinct_names : (xs : List (TesterKey × Unit {0})) → ((y : TesterKey × Unit {0}) → Contains xs y → y.0.round ≡ id)
      → IsDistinct (eq_by_cmp tester_cmp) (keys_of xs) → IsDistinct same_text (map name_in xs)
  unfolding IsDistinct
  distinct_names [] owns apart = tt
  distinct_names (x ∷ xs) owns (first, rest) = (
    other_names x xs (owns x (contained (x ∷ xs) x 0 refl)) (λ y among. owns y (later x xs y among)) first,
    distinct_names xs (λ y among. owns y (later x xs y among)) rest,
  )

  names_differ : AllPairs (λ a b. ¬ (a ≡ b)) names_in
  names_differ =
      let sorted : IsStrictlySortedBy tester_cmp (keys_of (entries world.testers)) = strictly_sorted tester_cmp
      (entries world.testers) (entries_sorted world.testers) in
      AllPairs-from_IsDistinct text_decides names_in
      (distinct_names testers_in (λ y among. (text_decides y.0.round id).0
      (filter-Contains (tests_it id) (entries world.testers) y among).1)
      (IsDistinct-keys_filter (eq_by_cmp tester_cmp) (tests_it id) (entries world.testers)
      (IsDistinct-from_sorted tester_cmp (keys_of (entries world.testers)) sorted)))

  -- a round whose places and testers are told has a whole list
  pub whole_list : (round : Round) → get world.rounds id ≡ Some round → HasList world id → HasFewTesters world id
      → HasWholeList world id
  whole_list round found (list, are, valid) few =
      let row : RoundRow = record { round = round; puzzles = list; testers = names_in } in (
        row,
        record { head = found; list = list_kept row are; testers = testers_kept },
        valid,
        record {
          few = let n : length names_in ≡ count_by (tests_it id) (entries world.testers) = length_mapped name_in
              testers_in ∙ length-filter (tests_it id) (entries world.testers) in omega (arith, n, few);
          different =
              names_differ;
        },
      )
