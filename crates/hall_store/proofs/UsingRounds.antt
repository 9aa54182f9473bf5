-- The rounds of ordered maps that have a puzzle.
use Rattle.std.proofs.Common.{◌≡◌, ◌↔◌, ◌&&◌, ℕ, zero, suc, Bool, true, false, List, [], ◌∷◌, map, slice_get, Option}
use Rattle.std.proofs.Common.{Some, None, Contains, refl, sym, ap, ◌∙◌, subst, cond}
use Rattle.std.specs.List.{filter, AllByRecursion}
use Rattle.std.specs.Cmp.{tied_itself}
use Rattle.std.specs.Ordering.{ordering_then}
use Rattle.std.specs.declared.cmp.Ordering.TheVariants.{Less, Equal}
use Rattle.std.proofs.lemmas.Map.Keys.{sorted_head, sorted_tail}
use Rattle.hall_policy.proofs.Orders.{text_total}
use Rattle.std.specs.List.Sorted.{IsStrictlySortedBy}
use Rattle.std.specs.Option.{option_map}
use Rattle.std.specs.Map.{lookup, keys_of}
use Rattle.std.specs.BTreeMap.{is_at}
use Rattle.std.proofs.lemmas.Option.{slice_get-map}
use Rattle.std.proofs.lemmas.Map.Views.{Contains-from_lookup}
use Rattle.hall_policy.specs.Text.{text_cmp}
use Rattle.hall_policy.specs.World.{same_text}
use Rattle.hall_policy.specs.Rules.{ListsEntry}
use Rattle.hall_policy.specs.declared.record.PuzzleKey.{PuzzleKey}
use Rattle.hall_policy.specs.declared.record.Entry.{Entry}
use Rattle.hall_policy.specs.declared.record.RoundRow.{RoundRow}
use Rattle.hall_store.specs.Store.{AreUsing}
use Rattle.hall_store.specs.Keyed.{has_puzzle_at, ids_using, is_use_of, is_use_true, use_cmp, use_of}
use Rattle.hall_store.specs.Maps.{world_of_maps}
use Rattle.hall_store.specs.declared.map_store.MapStore.{MapStore}
use Rattle.hall_store.specs.declared.slot.UseKey.{UseKey}
use Rattle.hall_store.proofs.Firsts.{same_uses}
use Rattle.hall_store.proofs.MapWorlds.{get_place, place_of}
use Rattle.hall_store.proofs.Ranges.{equal_from_test}
use Rattle.hall_store.proofs.Tests.{puzzle_decides, contained, placed, any-Contains, Contains-any, Contains-filter}
use Rattle.hall_store.proofs.Tests.{filter-Contains}

-- the puzzle of an entry is the one that is asked for
abbrev is_of : PuzzleKey → Entry → Bool
is_of key entry = same_text entry.puzzle.author key.author && same_text entry.puzzle.label key.label

-- an item of a list and what it is mapped to
mapped : {X Y : Type 0} (f : X → Y) (xs : List X) (x : X) → Contains xs x → Contains (map f xs) (f x)
mapped f xs x among =
    let at = placed xs x among in
    contained (map f xs) (f x) at.0 (slice_get-map f xs at.0 ∙ ap (option_map f) at.1)

mapped_from : {X Y : Type 0} (f : X → Y) (xs : List X) (y : Y) → Contains (map f xs) y → (x : X) × Contains xs x
    × (f x ≡ y)
mapped_from {X} f xs y among =
    let at = placed (map f xs) y among in
    elim (slice_get xs at.0) as (λ (o : Option X). slice_get xs at.0 ≡ o → option_map f o ≡ Some y → (x : X)
    × Contains xs x × (f x ≡ y)) [
      | None ↦ λ e h. absurd (let no : None ≡ Some y = h in cc)
      | Some x ↦ λ e h. (x, contained xs x at.0 e, let same : f x ≡ y = cc in same)
    ] refl (sym (slice_get-map f xs at.0) ∙ at.1)

-- ---- the order of the ids
is_below : (a b : UseKey) → a.author ≡ b.author → a.label ≡ b.label → use_cmp a b ≡ Less
    → text_cmp a.round b.round ≡ Less
is_below a b author label below =
    let rounds = text_cmp a.round b.round in
    let tie : text_cmp a.author b.author ≡ Equal = ap (text_cmp a.author) (sym author)
    ∙ tied_itself text_total a.author in
    let other : text_cmp a.label b.label ≡ Equal = ap (text_cmp a.label) (sym label) ∙ tied_itself text_total a.label in
    ap (λ r. ordering_then r rounds) (sym other) ∙ ap (λ r. ordering_then r
    (ordering_then (text_cmp a.label b.label) rounds)) (sym tie) ∙ below

module _ (key : PuzzleKey) (test : UseKey × Unit {0} → Bool) where
  -- the rounds of the puzzle's uses that pass the test
  abbrev rounds_of : List (UseKey × Unit {0}) → List (List ℕ)
  rounds_of uses = map (λ (u : UseKey × Unit {0}). u.0.round)
      (filter test (filter (λ (u : UseKey × Unit {0}). is_use_of key u.0) uses))

  of_puzzle : (used : UseKey) → is_use_of key used ≡ true → ◌≡◌ {A = PuzzleKey}
      (record { author = used.author; label = used.label }) key
  of_puzzle used own = (puzzle_decides (record { author = used.author; label = used.label }) key).0 own

  all_below : (x : UseKey) → is_use_of key x ≡ true → (uses : List (UseKey × Unit {0}))
      → AllByRecursion (λ y. use_cmp x y ≡ Less) (keys_of uses) →
      AllByRecursion (λ y. text_cmp x.round y ≡ Less) (rounds_of uses)
  all_below x own [] below = tt
  all_below x own (used ∷ uses) below =
      let rest = filter (λ (u : UseKey × Unit {0}). is_use_of key u.0) uses in
      let later = all_below x own uses below.1 in
      elim (is_use_of key used.0) as (λ b. is_use_of key used.0 ≡ b → AllByRecursion (λ y. text_cmp x.round y ≡ Less)
      (map (λ (u : UseKey × Unit {0}). u.0.round) (filter test (cond b (used ∷ rest) rest)))) [
        | true ↦ λ ours.
            let same = of_puzzle x own ∙ sym (of_puzzle used.0 ours) in
            let first : text_cmp x.round used.0.round ≡ Less = is_below x used.0 (ap (λ (k : PuzzleKey). k.author) same)
            (ap (λ (k : PuzzleKey). k.label) same) below.0 in
            elim (test used) as (λ b. AllByRecursion (λ y. text_cmp x.round y ≡ Less)
            (map (λ (u : UseKey × Unit {0}). u.0.round) (cond b (used ∷ filter test rest) (filter test rest)))) [
              | true ↦ (first, later)
              | false ↦ later
            ]
        | false ↦ λ _. later
      ] refl

  pub ids_in_order : (uses : List (UseKey × Unit {0})) → IsStrictlySortedBy use_cmp (keys_of uses)
      → IsStrictlySortedBy text_cmp (rounds_of uses)
  unfolding IsStrictlySortedBy
  ids_in_order [] sorted = tt
  ids_in_order (used ∷ uses) sorted =
      let rest = filter (λ (u : UseKey × Unit {0}). is_use_of key u.0) uses in
      let later = ids_in_order uses (sorted_tail use_cmp used.0 (keys_of uses) sorted) in
      elim (is_use_of key used.0) as (λ b. is_use_of key used.0 ≡ b
      → IsStrictlySortedBy text_cmp (map (λ (u : UseKey × Unit {0}). u.0.round)
      (filter test (cond b (used ∷ rest) rest)))) [
        | true ↦ λ ours. elim (test used) as (λ b. IsStrictlySortedBy text_cmp
            (map (λ (u : UseKey × Unit {0}). u.0.round) (cond b (used ∷ filter test rest) (filter test rest)))) [
              | true ↦ (all_below used.0 ours uses (sorted_head use_cmp used.0 (keys_of uses) sorted), later)
              | false ↦ later
            ]
        | false ↦ λ _. later
      ] refl

module _ (store : MapStore) (key : PuzzleKey) (rounds_sorted : IsStrictlySortedBy text_cmp
    (keys_of store.rounds.entries)) where
  abbrev uses : List (UseKey × Unit {0})
  uses = store.uses.entries

  abbrev true_use : UseKey × Unit {0} → Bool
  true_use used = is_use_true store.rounds.entries key used

  abbrev of_key : UseKey × Unit {0} → Bool
  of_key used = is_use_of key used.0

  -- a round that has the puzzle has it at a place
  listed : (id : List ℕ) → has_puzzle_at key (lookup (is_at (text_cmp id)) store.rounds.entries) ≡ true
      → (entry : Entry) × ListsEntry (world_of_maps store) id entry × (entry.puzzle ≡ key)
  listed id has =
      elim (lookup (is_at (text_cmp id)) store.rounds.entries) as
      (λ (o : Option RoundRow). lookup (is_at (text_cmp id)) store.rounds.entries ≡ o → has_puzzle_at key o ≡ true →
      (entry : Entry) × ListsEntry (world_of_maps store) id entry × (entry.puzzle ≡ key)) [
        | None ↦ λ e h. absurd (let no : false ≡ true = h in cc)
        | Some row ↦ λ e h.
            let at = any-Contains (is_of key) row.puzzles h in
            let entry : Entry = at.0 in
            let here = placed row.puzzles entry at.1 in (
              entry,
              (
                suc here.0,
                get_place store rounds_sorted id (suc here.0)
                    ∙ ap (λ (o : Option RoundRow). place_of o (suc here.0)) e ∙ here.1,
              ),
              (puzzle_decides entry.puzzle key).0 at.2,
            )
      ] refl has

  -- a puzzle at a place is in the round's row
  in_row : (id : List ℕ) (number : ℕ) (entry : Entry) (o : Option RoundRow) → place_of o number ≡ Some entry
      → (row : RoundRow) × (o ≡ Some row) × Contains row.puzzles entry
  in_row id number entry None at = absurd (let no : None ≡ Some entry = at in cc)
  in_row id zero entry (Some row) at = absurd (let no : None ≡ Some entry = at in cc)
  in_row id (suc before) entry (Some row) at = (row, refl, contained row.puzzles entry before at)

  whole : (ids : List (List ℕ)) → ids ≡ ids_using store.rounds.entries key uses → (id : List ℕ) → Contains ids id
      ↔ ((entry : Entry) × ListsEntry (world_of_maps store) id entry × (entry.puzzle ≡ key))
  whole ids is id = (
    (λ among.
        let used = mapped_from (λ (u : UseKey × Unit {0}). u.0.round) (filter true_use (filter of_key uses)) id
        (subst (λ (l : List (List ℕ)). Contains l id) is among) in
        let kept = filter-Contains true_use (filter of_key uses) used.0 used.1 in
        listed id (subst (λ (round : List ℕ). has_puzzle_at key (lookup (is_at (text_cmp round)) store.rounds.entries) ≡
        true) used.2 kept.1)),
    (λ h.
        let entry : Entry = h.0 in
        let row = in_row id h.1.0 entry (lookup (is_at (text_cmp id)) store.rounds.entries)
        (sym (get_place store rounds_sorted id h.1.0) ∙ h.1.1) in
        let led : lookup (is_at (use_cmp (use_of key id))) uses ≡ Some tt =
        subst (λ (k : PuzzleKey). lookup (is_at (use_cmp (use_of k id))) uses ≡ Some tt) h.2
        (store.rounds_indexed id row.0 row.1 entry row.2) in
        let used : UseKey × Unit {0} = (use_of key id, tt) in
        let among : Contains uses used = Contains-from_lookup (λ x y e. same_uses x y (equal_from_test (use_cmp x y) e))
        (use_of key id) tt uses led in
        let ours : of_key used ≡ true = (puzzle_decides key key).1 refl in
        let has : true_use used ≡ true = ap (has_puzzle_at key) row.1 ∙ Contains-any (is_of key) row.0.puzzles entry
        row.2 ((puzzle_decides entry.puzzle key).1 h.2) in
        subst (λ (l : List (List ℕ)). Contains l id) (sym is)
        (mapped (λ (u : UseKey × Unit {0}). u.0.round) (filter true_use (filter of_key uses)) used
        (Contains-filter true_use (filter of_key uses) used (Contains-filter of_key uses used among ours) has))),
  )

  -- the ids that the index leads to, where the rows agree, are those of the rounds that have the puzzle
  pub using_found : IsStrictlySortedBy use_cmp (keys_of uses) → (ids : List (List ℕ))
      → ids ≡ ids_using store.rounds.entries key uses → AreUsing (world_of_maps store) key ids
  using_found uses_sorted ids is = record {
    whole = whole ids is;
    in_order = subst (λ (l : List (List ℕ)). IsStrictlySortedBy text_cmp l) (sym is)
        (ids_in_order key true_use uses uses_sorted);
  }
