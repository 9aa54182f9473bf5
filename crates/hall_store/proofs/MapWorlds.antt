-- The world of ordered maps.
use Rattle.std.proofs.Common.{◌≡◌, ◌↔◌, ◌||◌, Contains, AllPairs, ℕ, ◌+◌, ◌∷◌, [], ◌++◌, List, Bool, true, false}
use Rattle.std.proofs.Common.{Option, Some, None, IfSome, cond, ap, sym, ◌∙◌, refl, subst, map, slice_get, zero, suc}
use Rattle.std.proofs.Common.{◌<◌, ◌≢◌, arith}
use Rattle.std.specs.Cmp.{IsTotalOrder, eq_by_cmp_equiv, tied_itself}
use Rattle.std.specs.Option.{option_map, option_and_then, option_or}
use Rattle.std.proofs.lemmas.Cmp.{nat_cmp_total}
use Rattle.std.proofs.lemmas.Map.Keys.{sorted_head, sorted_tail}
use Rattle.std.specs.FinMap.{nat_cmp-IsAntisymmetric}
use Rattle.std.specs.Ordering.{is_eq, nat_cmp, ordering_then}
use Rattle.std.specs.declared.cmp.Ordering.{Ordering}
use Rattle.std.specs.declared.cmp.Ordering.TheVariants.{Less, Equal, Greater}
use Rattle.std.specs.List.{flat_map, list_any}
use Rattle.std.specs.List.Sorted.{IsStrictlySortedBy}
use Rattle.std.specs.Map.{lookup, keys_of}
use Rattle.std.specs.BTreeMap.{is_at}
use Rattle.std.specs.FinMap.{get, insert, entries, values, from_entries, get-from_entries, get-entries, entries_sorted}
use Rattle.std.specs.FinMap.{IsAntisymmetric, same_map, get-insert}
use Rattle.std.specs.FinMap.Entries.{same_entries}
use Rattle.hall_policy.specs.Text.{text_cmp}
use Rattle.hall_policy.specs.World.{same_text, place_cmp, tester_cmp, entry_at, IsTesterOf}
use Rattle.hall_policy.specs.Facts.{IsRoundFound}
use Rattle.hall_policy.specs.declared.record.Entry.{Entry}
use Rattle.hall_policy.specs.declared.record.PlaceKey.{PlaceKey}
use Rattle.hall_policy.specs.declared.record.RoundRow.{RoundRow}
use Rattle.hall_policy.specs.declared.record.TesterKey.{TesterKey}
use Rattle.hall_policy.specs.declared.record.Person.{Person}
use Rattle.hall_policy.proofs.Maps.{find_is_lookup, sorted_by_test, get_of_value, value_of_get}
use Rattle.hall_policy.proofs.Orders.{text_total, same_texts, place_total, tester_total}
use Rattle.hall_store.specs.Caller.{IsKeyHolder, with_key}
use Rattle.hall_store.specs.Keyed.{if_holder, holder_under, holder_of, testers_at}
use Rattle.hall_store.specs.Maps.{world_of_maps, round_head, places_from, places_in, testers_in}
use Rattle.hall_store.specs.Store.{AreTestersOf, IsRoundKept}
use Rattle.hall_store.specs.declared.map_store.MapStore.{MapStore}
use Rattle.hall_store.proofs.Changes.{if_named, if_named-Contains}
use Rattle.hall_store.proofs.Ranges.{equal_from_test, none_past}
use Rattle.hall_store.proofs.Tests.{find-Contains, find-None, not_true, true_not_false}
use Rattle.hall_policy.proofs.Texts.{text_decides}

or_none : {X : Type 0} (o : Option X) → option_or o None ≡ o
or_none None = refl
or_none (Some x) = refl

module _ {K X : Type 0} {R : K → K → Ordering} (o : IsTotalOrder R) where
  -- what the map of the entries has at a key is what a look-up finds
  pub get_found : (es : List (K × X)) (q : K) → get (from_entries {R = R} es) q ≡ lookup (is_at (R q)) es
  get_found es q = get-from_entries o es q ∙ find_is_lookup R q es

  -- entries in order are the map's
  pub entries_made : IsAntisymmetric R → (es : List (K × X)) → IsStrictlySortedBy R (keys_of es)
      → entries (from_entries {R = R} es) ≡ es
  entries_made same es sorted =
      same_entries R o same (entries (from_entries {R = R} es)) es (entries_sorted (from_entries {R = R} es))
      (sorted_by_test R es sorted)
      (λ q. sym (get-entries (from_entries {R = R} es) q) ∙ get-from_entries o es q)

  -- an insertion into the ordered map is one into the map
  pub inserted : IsAntisymmetric R → (es fs : List (K × X)) (k : K) (v : X)
      → ((q : K) → lookup (is_at (R q)) fs ≡ cond (is_at (R k) q) (Some v) (lookup (is_at (R q)) es)) →
      from_entries {R = R} fs ≡ insert (from_entries es) k v
  inserted same es fs k v h = same_map o same _ _ (λ q.
      get_found fs q ∙ h q ∙ ap (λ b. cond b (Some v) (lookup (is_at (R q)) es)) ((eq_by_cmp_equiv o).symm k q)
      ∙ sym (get-insert o (from_entries {R = R} es) k v q ∙ ap (cond (is_at (R q) k) (Some v)) (get_found es q)))

-- ---- people
-- what was found has the key, and stands under the name that the index gave
found_holder : (people : List (List ℕ × Person)) (key : List ℕ) (name : Option (List ℕ)) (p : Person)
    → holder_under people key name ≡ Some p →
    (n : List ℕ) × (name ≡ Some n) × (lookup (is_at (text_cmp n)) people ≡ Some p) × (p.key ≡ key)
found_holder people key None p h = let no : None ≡ Some p = h in absurd (cc)
found_holder people key (Some n) p h =
    elim (lookup (is_at (text_cmp n)) people) as (λ (o : Option Person). lookup (is_at (text_cmp n)) people ≡ o
    → if_holder key o ≡ Some p →
    (m : List ℕ) × (Some n ≡ Some m) × (lookup (is_at (text_cmp m)) people ≡ Some p) × (p.key ≡ key)) [
      | None ↦ λ e f. absurd (let no : None ≡ Some p = f in cc)
      | Some q ↦ λ e f. elim (same_text q.key key) as (λ b. same_text q.key key ≡ b → cond b (Some q) None ≡ Some p →
          (m : List ℕ) × (Some n ≡ Some m) × (lookup (is_at (text_cmp m)) people ≡ Some p) × (p.key ≡ key)) [
            | true ↦ λ t g. let is : q ≡ p = cc in (
              n,
              refl,
              e ∙ ap Some is,
              ap (λ (x : Person). x.key) (sym is)
                  ∙ (text_decides q.key key).0 t,
            )
            | false ↦ λ t g. absurd (let no : None ≡ Some p = g in cc)
          ] refl f
    ] refl h

module _ (store : MapStore) (key : List ℕ) where
  abbrev found : Option Person
  found = holder_of store.people.entries store.keys.entries key

  -- whoever has the key is found
  pub is_found : (name : List ℕ) (other : Person) → get (world_of_maps store).people name ≡ Some other → other.key ≡ key
      → found ≡ Some other
  is_found name other kept own =
      let at : lookup (is_at (text_cmp name)) store.people.entries ≡ Some other = sym
      (get_found text_total store.people.entries name) ∙ kept in
      let led : lookup (is_at (text_cmp key)) store.keys.entries ≡ Some name = subst
      (λ k. lookup (is_at (text_cmp k)) store.keys.entries ≡ Some name) own
      (store.people_indexed name other at).led in
      ap (holder_under store.people.entries key) led ∙ ap (if_holder key) at
      ∙ ap (λ b. cond b (Some other) None) ((text_decides other.key key).1 own)

  -- who is found has the key, and is kept under that person's name
  pub found_kept : (p : Person) → found ≡ Some p → (get (world_of_maps store).people p.name ≡ Some p) × (p.key ≡ key)
  found_kept p is =
      let at = found_holder store.people.entries key (lookup (is_at (text_cmp key)) store.keys.entries) p is in
      let own : p.name ≡ at.0 = (store.people_indexed at.0 p at.2).own in (
        get_found text_total store.people.entries p.name ∙ subst
            (λ (n : List ℕ). lookup (is_at (text_cmp n)) store.people.entries ≡ Some p) (sym own) at.2,
        at.3,
      )

  -- the person found is the only one with the key
  pub holder_found : IsKeyHolder (world_of_maps store) key found
  holder_found = record {
    found = elim (with_key (world_of_maps store) key) as (λ (o : Option Person). with_key (world_of_maps store) key ≡ o
        → found ≡ o) [
          | None ↦ λ none. elim found as (λ (o : Option Person). found ≡ o → o ≡ None) [
            | None ↦ λ _. refl
            | Some p ↦ λ is.
                let kept = found_kept p is in
                let among = value_of_get (world_of_maps store).people p.name p kept.0 in
                let fails : same_text p.key key ≡ false = find-None (λ (q : Person). same_text q.key key)
                (values (world_of_maps store).people) none p among in
                absurd (let no : true ≡ false = sym ((text_decides p.key key).1 kept.1) ∙ fails in cc)
          ] refl
          | Some p ↦ λ is.
              let at = find-Contains (λ (q : Person). same_text q.key key) (values (world_of_maps store).people) p is in
              let under = get_of_value text_total (world_of_maps store).people p at.0 in
              is_found under.0 p under.1 ((text_decides p.key key).0 at.1)
        ] refl;
    there = elim found as (λ (o : Option Person). found ≡ o → IfSome o
        (λ p. get (world_of_maps store).people p.name ≡ Some p)) [
          | None ↦ λ e. tt
          | Some p ↦ λ e. (found_kept p e).0
        ] refl;
    alone = is_found;
    own = λ name other kept _. (store.people_indexed name other
        (sym (get_found text_total store.people.entries name) ∙ kept)).own;
  }

-- ---- rounds
pub head_found : (test : List ℕ → Bool) (es : List (List ℕ × RoundRow)) → lookup test (map round_head es) ≡ option_map
    (λ row. row.round) (lookup test es)
head_found test [] = refl
head_found test (e ∷ es) = elim (test e.0) as (λ b. cond b (Some e.1.round) (lookup test (map round_head es)) ≡
    option_map (λ row. row.round) (cond b (Some e.1) (lookup test es))) [ true ↦ refl | false ↦ head_found test es ]

-- ---- what stands in the rows of rounds
-- the entries stand in their rounds' rows: at a key one finds what the row of its round has there
pub record AreOfRounds {K X : Type 0} (R : K → K → Ordering) (parts : List ℕ × RoundRow → List (K × X))
    (round_of : K → List ℕ) (has_at : K → RoundRow → Option X) : Type 0 where
  pub own : (key : K) (entry : List ℕ × RoundRow) → text_cmp (round_of key) entry.0 ≡ Equal
      → lookup (is_at (R key)) (parts entry) ≡ has_at key entry.1
  pub other : (key : K) (entry : List ℕ × RoundRow) → is_eq (text_cmp (round_of key) entry.0) ≡ false
      → lookup (is_at (R key)) (parts entry) ≡ None

lookup_append : {K X : Type 0} (test : K → Bool) (xs ys : List (K × X))
    → lookup test (xs ++ ys) ≡ option_or (lookup test xs) (lookup test ys)
lookup_append test [] ys = refl
lookup_append test (x ∷ xs) ys = elim (test x.0) as (λ b. cond b (Some x.1) (lookup test (xs ++ ys)) ≡ option_or
    (cond b (Some x.1) (lookup test xs)) (lookup test ys)) [ true ↦ refl | false ↦ lookup_append test xs ys ]

module _ {K X : Type 0} {R : K → K → Ordering} {parts : List ℕ × RoundRow → List (K × X)} {round_of : K → List ℕ}
    {has_at : K → RoundRow → Option X} (are : AreOfRounds R parts round_of has_at) where
  part_found : (es : List (List ℕ × RoundRow)) → IsStrictlySortedBy text_cmp (keys_of es) → (key : K) →
      lookup (is_at (R key)) (flat_map parts es) ≡ option_and_then (has_at key)
      (lookup (is_at (text_cmp (round_of key))) es)
  part_found [] sorted key = refl
  part_found (e ∷ es) sorted key =
      let id = round_of key in
      let test = is_at (R key) in
      let later = lookup test (flat_map parts es) in
      let rest = part_found es (sorted_tail text_cmp e.0 (keys_of es) sorted) key in
      lookup_append test (parts e) (flat_map parts es)
      ∙ elim (text_cmp id e.0) as (λ r. text_cmp id e.0 ≡ r → option_or (lookup test (parts e)) later ≡ option_and_then
      (has_at key) (cond (is_eq r) (Some e.1) (lookup (is_at (text_cmp id)) es))) [
        | Less ↦ λ t. ap (λ (o : Option X). option_or o later) (are.other key e (ap is_eq t)) ∙ rest
        | Greater ↦ λ t. ap (λ (o : Option X). option_or o later) (are.other key e (ap is_eq t)) ∙ rest
        | Equal ↦ λ t.
            let none : later ≡ None = rest ∙ ap (option_and_then (has_at key))
            (none_past text_total id e.0 es t (sorted_head text_cmp e.0 (keys_of es) sorted)) in
            ap (λ (o : Option X). option_or o later) (are.own key e t) ∙ ap (option_or (has_at key e.1)) none
            ∙ or_none (has_at key e.1)
      ] refl

  -- what the map of the entries has at a key
  pub get_part : IsTotalOrder R → (es : List (List ℕ × RoundRow)) → IsStrictlySortedBy text_cmp (keys_of es) → (key : K)
      →
      get (from_entries {R = R} (flat_map parts es)) key ≡ option_and_then (has_at key)
      (lookup (is_at (text_cmp (round_of key))) es)
  get_part o es sorted key = get_found o (flat_map parts es) key ∙ part_found es sorted key

-- ---- places
-- the entry at a number in the round that was found
abbrev pub place_of : Option RoundRow → ℕ → Option Entry
place_of found number = option_and_then (λ row. entry_at row.puzzles number) found

abbrev place_key : List ℕ → ℕ → PlaceKey
place_key id number = record { round = id; number = number }

not_equal : (m n : ℕ) → m ≢ n → is_eq (nat_cmp m n) ≡ false
not_equal m n differ = not_true (is_eq (nat_cmp m n)) (λ e. differ
    (nat_cmp-IsAntisymmetric m n (equal_from_test (nat_cmp m n) e)))

-- at another round nothing is found
elsewhere : (id other : List ℕ) (number from : ℕ) (entries : List Entry) → is_eq (text_cmp id other) ≡ false
    → lookup (is_at (place_cmp (place_key id number))) (places_from other from entries) ≡ None
elsewhere id other number from [] apart = refl
elsewhere id other number from (entry ∷ entries) apart =
    elim (text_cmp id other) as (λ r. is_eq r ≡ false → cond (is_eq (ordering_then r (nat_cmp number from)))
    (Some entry) (lookup (is_at (place_cmp (place_key id number))) (places_from other (from + 1) entries)) ≡ None) [
      | Less ↦ λ e. elsewhere id other number (from + 1) entries apart
      | Equal ↦ λ e. absurd (let no : true ≡ false = e in cc)
      | Greater ↦ λ e. elsewhere id other number (from + 1) entries apart
    ] apart

-- a number below the first has no place
too_low : (id other : List ℕ) (number from : ℕ) (entries : List Entry) → text_cmp id other ≡ Equal → number < from
    → lookup (is_at (place_cmp (place_key id number))) (places_from other from entries) ≡ None
too_low id other number from [] same low = refl
too_low id other number from (entry ∷ entries) same low =
    let here : is_eq (ordering_then (text_cmp id other) (nat_cmp number from)) ≡ false = ap
    (λ r. is_eq (ordering_then r (nat_cmp number from))) same ∙ not_equal number from (omega arith) in
    ap (λ (b : Bool). cond b (Some entry) (lookup (is_at (place_cmp (place_key id number)))
    (places_from other (from + 1) entries))) here ∙ too_low id other number (from + 1) entries same (omega arith)

-- the k-th after the first
counted_on : (id other : List ℕ) (k from : ℕ) (entries : List Entry) → text_cmp id other ≡ Equal
    → lookup (is_at (place_cmp (place_key id (from + k)))) (places_from other from entries) ≡ slice_get entries k
counted_on id other k from [] same = refl
counted_on id other zero from (entry ∷ entries) same =
    let at : from + 0 ≡ from = omega arith in
    let here : is_eq (ordering_then (text_cmp id other) (nat_cmp (from + 0) from)) ≡ true = ap
    (λ r. is_eq (ordering_then r (nat_cmp (from + 0) from))) same ∙ ap (λ n. is_eq (nat_cmp n from)) at
    ∙ ap is_eq (tied_itself nat_cmp_total from) in
    ap (λ (b : Bool). cond b (Some entry) (lookup (is_at (place_cmp (place_key id (from + 0))))
    (places_from other (from + 1) entries))) here
counted_on id other (suc k) from (entry ∷ entries) same =
    let here : is_eq (ordering_then (text_cmp id other) (nat_cmp (from + suc k) from)) ≡ false = ap
    (λ r. is_eq (ordering_then r (nat_cmp (from + suc k) from))) same
    ∙ not_equal (from + suc k) from (omega arith) in
    let at : from + suc k ≡ (from + 1) + k = omega arith in
    ap (λ (b : Bool). cond b (Some entry) (lookup (is_at (place_cmp (place_key id (from + suc k))))
    (places_from other (from + 1) entries))) here
    ∙ ap (λ n. lookup (is_at (place_cmp (place_key id n))) (places_from other (from + 1) entries)) at
    ∙ counted_on id other k (from + 1) entries same

-- the places of one round
one_round : (id other : List ℕ) (number : ℕ) (entries : List Entry) → text_cmp id other ≡ Equal
    → lookup (is_at (place_cmp (place_key id number))) (places_from other 1 entries) ≡ entry_at entries number
one_round id other zero entries same = too_low id other 0 1 entries same (omega arith)
one_round id other (suc k) entries same = let at : suc k ≡ 1 + k = omega arith in ap
    (λ n. lookup (is_at (place_cmp (place_key id n))) (places_from other 1 entries)) at
    ∙ counted_on id other k 1 entries same

-- the places stand in their rounds' rows
pub places_of_rounds : AreOfRounds place_cmp places_in (λ key. key.round) (λ key row. entry_at row.puzzles key.number)
places_of_rounds = record {
  own = λ key entry same. one_round key.round entry.0 key.number entry.1.puzzles same;
  other = λ key entry apart. elsewhere key.round entry.0 key.number 1 entry.1.puzzles apart;
}

-- what the world has at a place
pub get_place : (store : MapStore) → IsStrictlySortedBy text_cmp (keys_of store.rounds.entries)
    → (id : List ℕ) (number : ℕ) →
    get (world_of_maps store).places (place_key id number) ≡ place_of
    (lookup (is_at (text_cmp id)) store.rounds.entries) number
get_place store sorted id number = get_part places_of_rounds place_total store.rounds.entries sorted
    (place_key id number)

-- ---- testers
abbrev tester_key : List ℕ → List ℕ → TesterKey
tester_key id name = record { round = id; name = name }

-- the keys of names, in a round
abbrev keyed : List ℕ → List (List ℕ) → List (TesterKey × Unit {0})
keyed id names = map (λ name. (tester_key id name, tt)) names

-- the testers of another round are none of this one's
no_tester : (id other name : List ℕ) (names : List (List ℕ)) → is_eq (text_cmp id other) ≡ false
    → lookup (is_at (tester_cmp (tester_key id name))) (keyed other names) ≡ None
no_tester id other name [] apart = refl
no_tester id other name (first ∷ names) apart =
    elim (text_cmp id other) as (λ r. is_eq r ≡ false → cond (is_eq (ordering_then r (text_cmp name first))) (Some tt)
    (lookup (is_at (tester_cmp (tester_key id name))) (keyed other names)) ≡ None) [
      | Less ↦ λ e. no_tester id other name names apart
      | Equal ↦ λ e. absurd (let no : true ≡ false = e in cc)
      | Greater ↦ λ e. no_tester id other name names apart
    ] apart

-- texts tie where they are one
tied_texts : (a b : List ℕ) → is_eq (text_cmp a b) ≡ same_text a b
tied_texts a b = elim (same_text a b) as (λ s. same_text a b ≡ s → is_eq (text_cmp a b) ≡ s) [
  | true ↦ λ e. subst (λ c. is_eq (text_cmp a c) ≡ true) ((text_decides a b).0 e) (ap is_eq (tied_itself text_total a))
  | false ↦ λ e. not_true (is_eq (text_cmp a b)) (λ tie. true_not_false (same_text a b)
      ((text_decides a b).1 (same_texts a b (equal_from_test (text_cmp a b) tie))) e)
] refl

-- the testers of one round
one_tester : (id other name : List ℕ) (names : List (List ℕ)) → text_cmp id other ≡ Equal
    → lookup (is_at (tester_cmp (tester_key id name))) (keyed other names) ≡ if_named names name
one_tester id other name [] same = refl
one_tester id other name (first ∷ names) same =
    let test = is_at (tester_cmp (tester_key id name)) in
    let at : is_eq (tester_cmp (tester_key id name) (tester_key other first)) ≡ is_eq (text_cmp name first) = ap
    (λ r. is_eq (ordering_then r (text_cmp name first))) same in
    ap (λ (b : Bool). cond b (Some tt) (lookup test (keyed other names))) (at ∙ tied_texts name first)
    ∙ elim (same_text name first) as (λ b. cond b (Some tt) (lookup test (keyed other names)) ≡ cond
    (b || list_any (same_text name) names) (Some tt) None) [
      | true ↦ refl
      | false ↦ one_tester id other name names same
    ]

-- the testers stand in their rounds' rows
pub testers_of_rounds : AreOfRounds tester_cmp testers_in (λ key. key.round) (λ key row. if_named row.testers key.name)
testers_of_rounds = record {
  own = λ key entry same. one_tester key.round entry.0 key.name entry.1.testers same;
  other = λ key entry apart. no_tester key.round entry.0 key.name entry.1.testers apart;
}

-- who tests a round is named in its row
tester_kept : (store : MapStore) → IsStrictlySortedBy text_cmp (keys_of store.rounds.entries)
    → (id name : List ℕ) (found : Option RoundRow) → found ≡ lookup (is_at (text_cmp id)) store.rounds.entries →
    IsTesterOf (world_of_maps store) id name ↔ Contains (testers_at found) name
tester_kept store sorted id name found seen =
    let at : get (world_of_maps store).testers (tester_key id name) ≡ option_and_then
    (λ (row : RoundRow). if_named row.testers name) found =
    get_part testers_of_rounds tester_total store.rounds.entries sorted (tester_key id name)
    ∙ ap (option_and_then (λ (row : RoundRow). if_named row.testers name)) (sym seen) in
    elim found as (λ (o : Option RoundRow). get (world_of_maps store).testers (tester_key id name) ≡ option_and_then
    (λ (row : RoundRow). if_named row.testers name) o → IsTesterOf (world_of_maps store) id name
    ↔ Contains (testers_at o) name) [
      | None ↦ λ e. (
        (λ is. let no : None ≡ Some tt = sym e ∙ is in absurd (cc)),
        (λ among. absurd (omega (arith, among.1))),
      )
      | Some row ↦ λ e. (
        (λ is. (if_named-Contains row.testers name).0 (sym e ∙ is)),
        (λ among. e ∙ (if_named-Contains row.testers name).1 among),
      )
    ] at

-- the names in the row of a round are those who test it
pub testers_kept : (store : MapStore) (id : List ℕ) (names : List (List ℕ))
    → names ≡ testers_at (lookup (is_at (text_cmp id)) store.rounds.entries) → AllPairs (λ a b. ¬ (a ≡ b)) names
    → IsStrictlySortedBy text_cmp (keys_of store.rounds.entries) →
    AreTestersOf (world_of_maps store) id names
testers_kept store id names are differ sorted = record {
  whole = λ name.
      let kept = tester_kept store sorted id name (lookup (is_at (text_cmp id)) store.rounds.entries) refl in (
        (λ among. kept.1 (subst (λ (ns : List (List ℕ)). Contains ns name) are among)),
        (λ is. subst (λ (ns : List (List ℕ)). Contains ns name) (sym are) (kept.0 is)),
      );
  different = differ;
}

-- ---- a round, whole
-- the row of a round, or none, is what the world has of it
pub round_found : (store : MapStore) (id : List ℕ) (found : Option RoundRow)
    → found ≡ lookup (is_at (text_cmp id)) store.rounds.entries
    → IsStrictlySortedBy text_cmp (keys_of store.rounds.entries) →
    IsRoundFound (world_of_maps store) (Some id) found
round_found store id None found sorted = get_found text_total (map round_head store.rounds.entries) id
    ∙ head_found (is_at (text_cmp id)) store.rounds.entries ∙ ap (option_map (λ row. row.round)) (sym found)
round_found store id (Some row) found sorted = record {
  head = get_found text_total (map round_head store.rounds.entries) id
      ∙ head_found (is_at (text_cmp id)) store.rounds.entries ∙ ap (option_map (λ r. r.round)) (sym found);
  list = λ number. get_place store sorted id number ∙ ap (λ (o : Option RoundRow). place_of o number) (sym found);
  testers = λ name. tester_kept store sorted id name (Some row) found;
}

-- the round that was found is kept with its whole list and its testers, and where none was found there is no list
pub round_kept : (store : MapStore) (id : List ℕ) (found : Option RoundRow)
    → found ≡ lookup (is_at (text_cmp id)) store.rounds.entries
    → IsStrictlySortedBy text_cmp (keys_of store.rounds.entries) →
    IsRoundKept (world_of_maps store) id found
round_kept store id found seen sorted = record {
  row = round_found store id found seen sorted;
  empty = λ none entry lists. let no : None ≡ Some entry = ap (λ (o : Option RoundRow). place_of o lists.0)
      (sym none ∙ seen) ∙ sym (get_place store sorted id lists.0) ∙ lists.1 in cc;
}
