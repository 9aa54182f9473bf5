-- A cache agrees with its store after each call.
use Rattle.std.proofs.Common.{◌≡◌, ◌↔◌, ◌⊎◌, Contains, inl, inr, List, [], Option, Some, None, Result, Ok, Err, IfOk}
use Rattle.std.proofs.Common.{OnOk, OnErr, refl, sym, ap, subst, ◌∙◌, ℕ, ◌≤◌, length, arith}
use Rattle.std.specs.declared.cmp.Ordering.{Ordering}
use Rattle.std.specs.FinMap.{FinMap, IsAntisymmetric, get}
use Rattle.std.specs.Map.{lookup}
use Rattle.std.specs.BTreeMap as tree
use Rattle.hall_policy.specs.Text.{text_cmp}
use Rattle.hall_policy.specs.World.{World, puzzle_cmp, place_cmp, tester_cmp, entry_at}
use Rattle.hall_policy.specs.declared.record.Person.{Person}
use Rattle.hall_policy.specs.declared.record.Entry.{Entry}
use Rattle.hall_policy.specs.declared.record.Round.{Round}
use Rattle.hall_policy.specs.declared.record.RoundRow.{RoundRow}
use Rattle.hall_policy.specs.declared.record.PuzzleKey.{PuzzleKey}
use Rattle.hall_policy.specs.declared.record.PuzzleRow.{PuzzleRow}
use Rattle.hall_policy.specs.declared.record.ProtestKey.{ProtestKey}
use Rattle.hall_policy.specs.declared.record.Ruling.{Ruling}
use Rattle.hall_policy.proofs.Orders.{same_texts, same_puzzle_keys}
use Rattle.hall_store.specs.Caller.{IsKeyHolder}
use Rattle.hall_store.specs.Change.{changed, with_ruling}
use Rattle.hall_store.specs.Keyed.{Each}
use Rattle.hall_store.specs.Store.{Content, Kept, Served, Makes, Fed, IsRoundKept}
use Rattle.hall_store.specs.declared.change.Change.{Change}
use Rattle.hall_store.specs.declared.change.Change.TheVariants.{RuleProtest}
use Rattle.hall_store.specs.declared.fault.StoreFault.{StoreFault}
use Rattle.hall_store.specs.Cache.{Stands, CacheAgrees, IsBounded, IsEmptied, IsNoted}
use Rattle.hall_store.specs.declared.cache.Cache.{Cache}

-- the worlds differ in answers and protests at most
pub record IsAlike (v w : World) : Type 0 where
  pub people : w.people ≡ v.people
  pub rounds : w.rounds ≡ v.rounds
  pub places : w.places ≡ v.places
  pub puzzles : w.puzzles ≡ v.puzzles
  pub testers : w.testers ≡ v.testers

same_alike : (v w : World) → w ≡ v → IsAlike v w
same_alike v w same = record {
  people = λ i. (same i).people;
  rounds = λ i. (same i).rounds;
  places = λ i. (same i).places;
  puzzles = λ i. (same i).puzzles;
  testers = λ i. (same i).testers;
}

holder_alike : (v w : World) → w.people ≡ v.people → (key : List ℕ) (found : Option Person) → IsKeyHolder v key found
    → IsKeyHolder w key found
holder_alike v w same key found holds =
    let at = subst (λ (people : FinMap text_cmp Person). IsKeyHolder (record v { people = people }) key found)
    (sym same) (record {
      found = holds.found;
      there = holds.there;
      alone = holds.alone;
      own = holds.own;
    }) in
    record { found = at.found; there = at.there; alone = at.alone; own = at.own }

round_alike : (v w : World) → w.rounds ≡ v.rounds → w.places ≡ v.places → w.testers ≡ v.testers
    → (id : List ℕ) (row : RoundRow) → IsRoundKept v id (Some row) → IsRoundKept w id (Some row)
round_alike v w rounds places testers id row kept = record {
  row = record {
    head = subst (λ (heads : FinMap text_cmp Round). get heads id ≡ Some row.round) (sym rounds) kept.row.head;
    list = λ number. subst (λ (list : FinMap place_cmp Entry). get list (record { round = id; number = number }) ≡
        entry_at row.puzzles number) (sym places) (kept.row.list number);
    testers = λ name. subst (λ (of : FinMap tester_cmp (Unit {0})).
        (get of (record { round = id; name = name }) ≡ Some tt) ↔ Contains row.testers name) (sym testers)
        (kept.row.testers name);
  };
  empty = λ none. absurd (let no : Some row ≡ None = none in cc);
}

-- what the store told before it tells now, where it leads on to a world that is alike
stands_on : (old new : Content) (P : World → Type 0) → (new.honest → old.honest)
    → (new.honest → old.serves → new.serves × (P old.world → P new.world)) → Stands old P → Stands new P
stands_on old new P honest goes stands h =
    let was = stands (honest h) in
    let now = goes h was.0 in
    (now.0, now.1 was.1)

agrees_on : (old new : Content) (cache : Cache) → (new.honest → old.honest)
    → (new.honest → old.serves → new.serves × IsAlike old.world new.world) → CacheAgrees old cache
    → CacheAgrees new cache
agrees_on old new cache honest goes agrees = record {
  people = λ key person found. stands_on old new (λ world. IsKeyHolder world key (Some person)) honest
      (λ h s. ((goes h s).0, holder_alike old.world new.world (goes h s).1.people key (Some person)))
      (agrees.people key person found);
  rounds = λ id row found. stands_on old new (λ world. IsRoundKept world id (Some row)) honest
      (λ h s. (
        (goes h s).0,
        round_alike old.world new.world (goes h s).1.rounds (goes h s).1.places
            (goes h s).1.testers id row,
      )) (agrees.rounds id row found);
  puzzles = λ key row found. stands_on old new (λ world. get world.puzzles key ≡ Some row) honest
      (λ h s. ((goes h s).0, λ was. ap (λ (m : FinMap puzzle_cmp PuzzleRow). get m key) (goes h s).1.puzzles ∙ was))
      (agrees.puzzles key row found);
  bounded = agrees.bounded;
}

none_found : {K X : Type 0} (R : K → K → Ordering) (es : List (K × X)) (P : K → X → Type 0) → es ≡ [] → Each R es P
none_found R es P none key row found = absurd (let no = subst (λ list. lookup (tree.is_at (R key)) list ≡ Some row) none
    found in cc)

emptied_bounded : (cache : Cache) → IsEmptied cache → IsBounded cache
emptied_bounded cache none = record {
  people = subst (λ (es : List (List ℕ × Person)). length es ≤ 5000) (sym none.people) (omega arith);
  rounds = subst (λ (es : List (List ℕ × RoundRow)). length es ≤ 1000) (sym none.rounds) (omega arith);
  puzzles = subst (λ (es : List (PuzzleKey × PuzzleRow)). length es ≤ 1000) (sym none.puzzles) (omega arith);
}

-- an empty cache agrees with any store
pub empty_agrees : (content : Content) (cache : Cache) → IsEmptied cache → CacheAgrees content cache
empty_agrees content cache none = record {
  people = none_found text_cmp cache.people.entries _ none.people;
  rounds = none_found text_cmp cache.rounds.entries _ none.rounds;
  puzzles = none_found puzzle_cmp cache.puzzles.entries _ none.puzzles;
  bounded = emptied_bounded cache none;
}

settled : {R : Type 0} (result : Result R StoreFault) (old new : Content) (before after : Cache)
    → CacheAgrees old before
    → IfOk result (λ _. after ≡ before) → OnErr result (IsEmptied after)
    → OnOk result ((new.honest → old.honest) × (new.honest → old.serves → new.serves × IsAlike old.world new.world))
    → CacheAgrees new after
settled (Ok x) old new before after agrees kept forgot goes = subst (CacheAgrees new) (sym kept)
    (agrees_on old new before goes.0 goes.1 agrees)
settled (Err e) old new before after agrees kept forgot goes = empty_agrees new after forgot

goes_read : {R : Type 0} (result : Result R StoreFault) (old new : Content) → Kept old new
    → OnOk result (new.honest → new.serves)
    → OnOk result ((new.honest → old.honest) × (new.honest → old.serves → new.serves × IsAlike old.world new.world))
goes_read (Ok x) old new kept serves = (
  kept.honest,
  λ h _. (
    serves h,
    same_alike old.world new.world
        (kept.world h (serves h)),
  ),
)
goes_read (Err e) old new kept serves = tt

serves_told : {R : Type 0} (result : Result R StoreFault) (new : Content) (Means : World → R → Type 0)
    → Served new result Means → OnOk result (new.honest → new.serves)
serves_told (Ok x) new Means served = λ h. (served h).0
serves_told (Err e) new Means served = tt

-- after a read
pub read_agrees : {R : Type 0} (result : Result R StoreFault) (old new : Content) (before after : Cache)
    (Means : World → R → Type 0) → CacheAgrees old before → Kept old new
    → Served new result Means → IfOk result (λ _. after ≡ before) → OnErr result (IsEmptied after)
    → CacheAgrees new after
read_agrees result old new before after Means agrees kept served same forgot =
    settled result old new before after agrees same forgot (goes_read result old new kept
    (serves_told result new Means served))

serves_fed : {K X : Type 0} (result : Result (Unit {0}) StoreFault) (Takes : K → X → K → Type 0)
    (AreRows : World → List X → Type 0) (old new : Content) (sink_before sink_after : K)
    → Fed Takes AreRows old new sink_before result sink_after → OnOk result (new.honest → new.serves)
serves_fed (Ok x) Takes AreRows old new sink_before sink_after fed = λ h. (fed h).0
serves_fed (Err e) Takes AreRows old new sink_before sink_after fed = tt

-- after rows were fed
pub fed_agrees : {K X : Type 0} (result : Result (Unit {0}) StoreFault) (old new : Content) (before after : Cache)
    (Takes : K → X → K → Type 0) (AreRows : World → List X → Type 0) (sink_before sink_after : K)
    → CacheAgrees old before → Kept old new → Fed Takes AreRows old new sink_before result sink_after
    → IfOk result (λ _. after ≡ before) → OnErr result (IsEmptied after) → CacheAgrees new after
fed_agrees result old new before after Takes AreRows sink_before sink_after agrees kept fed same forgot =
    settled result old new before after agrees same forgot (goes_read result old new kept
    (serves_fed result Takes AreRows old new sink_before sink_after fed))

-- the change leaves people, rounds and puzzles
abbrev pub Spares : Change → Type 0
Spares change = (world : World) → IsAlike world (changed change world)

goes_made : {R : Type 0} (result : Result R StoreFault) (change : Change) (old new : Content) → Spares change
    → Makes change old new result
    → OnOk result ((new.honest → old.honest) × (new.honest → old.serves → new.serves × IsAlike old.world new.world))
goes_made (Ok x) change old new spares makes = (
  makes.leads.honest,
  λ h s.
      let made = makes.made h in
      (made.0, subst (IsAlike old.world) (sym made.1) (spares old.world)),
)
goes_made (Err e) change old new spares makes = tt

-- after a write that leaves people, rounds and puzzles
pub write_agrees : {R : Type 0} (result : Result R StoreFault) (change : Change) (old new : Content)
    (before after : Cache) → Spares change → CacheAgrees old before
    → Makes change old new result → IfOk result (λ _. after ≡ before) → OnErr result (IsEmptied after)
    → CacheAgrees new after
write_agrees result change old new before after spares agrees makes same forgot =
    settled result old new before after agrees same forgot (goes_made result change old new spares makes)

pub answers_spare : (row : _) → Spares (Change.AddAnswer row)
answers_spare row world = record { people = refl; rounds = refl; places = refl; puzzles = refl; testers = refl }

pub joint_spare : (rows : _) → Spares (Change.AddAnswers rows)
joint_spare rows world = record { people = refl; rounds = refl; places = refl; puzzles = refl; testers = refl }

pub protests_spare : (row : _) → Spares (Change.AddProtest row)
protests_spare row world = record { people = refl; rounds = refl; places = refl; puzzles = refl; testers = refl }

pub rulings_spare : (key : ProtestKey) (ruling : Ruling) → Spares (RuleProtest key ruling)
rulings_spare key ruling world = elim (get world.protests key) as
    (λ found. IsAlike world (with_ruling world key ruling found)) [
      | None ↦ record { people = refl; rounds = refl; places = refl; puzzles = refl; testers = refl }
      | Some row ↦ record { people = refl; rounds = refl; places = refl; puzzles = refl; testers = refl }
    ]

-- what the store told of a row that it found
pub found_stands : {X : Type 0} (result : Result (Option X) StoreFault) (found : Option X) (row : X) (new : Content)
    (Means : World → Option X → Type 0)
    → result ≡ Ok found → found ≡ Some row → Served new result Means → Stands new (λ world. Means world (Some row))
found_stands {X} result found row new Means was is served =
    subst (λ (told : Result (Option X) StoreFault). Served new told Means) (was ∙ ap (λ (it : Option X). Ok it) is)
    served

-- a copy that was noted is what the store told
noted_each : {K X : Type 0} {R : K → K → Ordering} → IsAntisymmetric R
    → (old new : tree.BTreeMap K X) (key : K) (value : X) (P : K → X → Type 0)
    → IsNoted R old new key value → P key value → Each R old.entries P → Each R new.entries P
noted_each same old new key value P noted own each k x found = elim (noted k x found) [
  | inl it ↦ subst (λ v. P k v) (sym it.1) (subst (λ q. P q value) (same key k it.0) own)
  | inr was ↦ each k x was
]

module _ (content : Content) (before after : Cache) (agrees : CacheAgrees content before) where
  pub noted_person : (key : List ℕ) (person : Person) → IsNoted text_cmp before.people after.people key person
      → (length before.people.entries ≤ 5000 → length after.people.entries ≤ 5000) → after.rounds ≡ before.rounds
      → after.puzzles ≡ before.puzzles
      → Stands content (λ world. IsKeyHolder world key (Some person)) → CacheAgrees content after
  noted_person key person noted few rounds puzzles stands = record {
    people = noted_each same_texts before.people after.people key person _ noted stands agrees.people;
    rounds = subst (λ (m : tree.BTreeMap (List ℕ) RoundRow). Each text_cmp m.entries
        (λ k x. Stands content (λ world. IsRoundKept world k (Some x)))) (sym rounds) agrees.rounds;
    puzzles = subst (λ (m : tree.BTreeMap PuzzleKey PuzzleRow). Each puzzle_cmp m.entries
        (λ k x. Stands content (λ world. get world.puzzles k ≡ Some x))) (sym puzzles) agrees.puzzles;
    bounded = record {
      people = few agrees.bounded.people;
      rounds = subst (λ (m : tree.BTreeMap (List ℕ) RoundRow). length m.entries ≤ 1000) (sym rounds)
          agrees.bounded.rounds;
      puzzles = subst (λ (m : tree.BTreeMap PuzzleKey PuzzleRow). length m.entries ≤ 1000) (sym puzzles)
          agrees.bounded.puzzles;
    };
  }

  pub noted_round : (id : List ℕ) (row : RoundRow) → IsNoted text_cmp before.rounds after.rounds id row
      → (length before.rounds.entries ≤ 1000 → length after.rounds.entries ≤ 1000) → after.people ≡ before.people
      → after.puzzles ≡ before.puzzles
      → Stands content (λ world. IsRoundKept world id (Some row)) → CacheAgrees content after
  noted_round id row noted few people puzzles stands = record {
    people = subst (λ (m : tree.BTreeMap (List ℕ) Person). Each text_cmp m.entries
        (λ k x. Stands content (λ world. IsKeyHolder world k (Some x)))) (sym people) agrees.people;
    rounds = noted_each same_texts before.rounds after.rounds id row _ noted stands agrees.rounds;
    puzzles = subst (λ (m : tree.BTreeMap PuzzleKey PuzzleRow). Each puzzle_cmp m.entries
        (λ k x. Stands content (λ world. get world.puzzles k ≡ Some x))) (sym puzzles) agrees.puzzles;
    bounded = record {
      people = subst (λ (m : tree.BTreeMap (List ℕ) Person). length m.entries ≤ 5000) (sym people)
          agrees.bounded.people;
      rounds = few agrees.bounded.rounds;
      puzzles = subst (λ (m : tree.BTreeMap PuzzleKey PuzzleRow). length m.entries ≤ 1000) (sym puzzles)
          agrees.bounded.puzzles;
    };
  }

  pub noted_puzzle : (key : PuzzleKey) (row : PuzzleRow) → IsNoted puzzle_cmp before.puzzles after.puzzles key row
      → (length before.puzzles.entries ≤ 1000 → length after.puzzles.entries ≤ 1000) → after.people ≡ before.people
      → after.rounds ≡ before.rounds
      → Stands content (λ world. get world.puzzles key ≡ Some row) → CacheAgrees content after
  noted_puzzle key row noted few people rounds stands = record {
    people = subst (λ (m : tree.BTreeMap (List ℕ) Person). Each text_cmp m.entries
        (λ k x. Stands content (λ world. IsKeyHolder world k (Some x)))) (sym people) agrees.people;
    rounds = subst (λ (m : tree.BTreeMap (List ℕ) RoundRow). Each text_cmp m.entries
        (λ k x. Stands content (λ world. IsRoundKept world k (Some x)))) (sym rounds) agrees.rounds;
    puzzles = noted_each same_puzzle_keys before.puzzles after.puzzles key row _ noted stands agrees.puzzles;
    bounded = record {
      people = subst (λ (m : tree.BTreeMap (List ℕ) Person). length m.entries ≤ 5000) (sym people)
          agrees.bounded.people;
      rounds = subst (λ (m : tree.BTreeMap (List ℕ) RoundRow). length m.entries ≤ 1000) (sym rounds)
          agrees.bounded.rounds;
      puzzles = few agrees.bounded.puzzles;
    };
  }

-- after a look into the cache
pub looked_agrees : (content : Content) (before after : Cache) → CacheAgrees content before → (after ≡ before)
    ⊎ IsEmptied after → CacheAgrees content after
looked_agrees content before after agrees (inl same) = subst (CacheAgrees content) (sym same) agrees
looked_agrees content before after agrees (inr none) = empty_agrees content after none
