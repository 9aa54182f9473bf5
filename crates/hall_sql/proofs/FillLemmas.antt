-- Records that are added one after another, each under a new key, fill an empty map.
use Rattle.std.proofs.Common.{◌≡◌, inl, inr, List, [], ◌∷◌, ◌++◌, append-nil, append_assoc, map, true, None, refl, sym}
use Rattle.std.proofs.Common.{ap, subst, ◌∙◌}
use Rattle.std.proofs.lemmas.Bool.{cases_Bool}
use Rattle.std.proofs.lemmas.List.{map-append}
use Rattle.std.specs.Cmp.{IsTotalOrder}
use Rattle.std.specs.List.{AllByRecursion}
use Rattle.std.specs.List.Sorted.{IsStrictlySortedBy}
use Rattle.std.specs.Map.{keys_of}
use Rattle.std.specs.declared.cmp.Ordering.{Ordering}
use Rattle.std.specs.declared.cmp.Ordering.TheVariants.{Less, Equal, Greater}
use Rattle.std.specs.Ordering.{eq_by_cmp, is_eq, ordering_reverse}
use Rattle.std.specs.FinMap.{FinMap, IsAntisymmetric, empty, entries, entries_sorted, find as find_key, from_entries}
use Rattle.std.specs.FinMap.{from_entries_push, get, get-entries, get-from_entries, insert, same_map}
use Rattle.sqlite_trees.specs.Tree.{IsAscending}
use Rattle.hall_policy.proofs.Maps.{strictly_sorted}
use Rattle.hall_policy.specs.Sink.{HasTaken}
use Rattle.hall_policy.specs.World.{World}
use Rattle.sqlite.specs.Effect.{Database}
use Rattle.sqlite.specs.State.{State}
use Rattle.hall_sql.specs.declared.whole.Whole.{Whole}
use Rattle.hall_sql.specs.AllRead.{AreAllRead, StaysRead}
use Rattle.hall_sql.specs.Fill.{AddsAnswer, AddsHead, AddsPlace, AddsProtest, AddsPuzzle, Fills, PutsPerson, WithPerson}
use Rattle.hall_sql.specs.Fill.{WithPuzzle, WithRound, WithPlace, WithAnswer, WithProtest}
use Rattle.hall_sql.specs.Inside.{MakesInside}
use Rattle.hall_sql.specs.Rows.{world_of}
use Rattle.hall_sql.specs.Tables.{hall_schema}

module _ {K V X : Type 0} {R : K → K → Ordering} (total : IsTotalOrder R) (same : IsAntisymmetric R) (key : X → K)
    (value : X → V) where
  abbrev pub pairs : List X → List (K × V)
  pairs = map (λ x. (key x, value x))

  abbrev pub Rising : List X → Type 0
  Rising = IsAscending (λ a b. R (key a) (key b) ≡ Less)

  -- what rises behind these has other keys
  lacks : (before : List X) (x : X) (rows : List X) → Rising (before ++ x ∷ rows)
      → find_key R (key x) (pairs before) ≡ None
  lacks [] x rows up = refl
  lacks (b ∷ before) x rows up = elim (cases_Bool (eq_by_cmp R (key x) (key b))) [
    | inl tie ↦ absurd (clash tie)
    | inr apart ↦ rw apart (lacks before x rows up.1)
  ]
    where
      at : (l : List X) → AllByRecursion (λ a. R (key b) (key a) ≡ Less) (l ++ x ∷ rows) → R (key b) (key x) ≡ Less
      at [] all = all.0
      at (a ∷ l) all = at l all.1

      equal : (o : Ordering) → is_eq o ≡ true → ordering_reverse o ≡ Less → ⊥
      equal Less p q = absurd cc
      equal Equal p q = absurd cc
      equal Greater p q = absurd cc

      clash : eq_by_cmp R (key x) (key b) ≡ true → ⊥
      clash tie = equal (R (key x) (key b)) tie (sym (total.antisymm (key b) (key x)) ∙ at before up.0)

  -- the keys of a map's entries rise
  rises : (rows : List X) → IsStrictlySortedBy R (keys_of (pairs rows)) → Rising rows
  unfolding IsStrictlySortedBy
  rises [] up = tt
  rises (x ∷ rows) up = (above rows up.0, rises rows up.1)
    where
      above : (l : List X) → AllByRecursion (λ k. R (key x) k ≡ Less) (keys_of (pairs l))
          → AllByRecursion (λ a. R (key x) (key a) ≡ Less) l
      above [] all = tt
      above (a ∷ l) all = (all.0, above l all.1)

  module _ (part : World → FinMap R V) (with : World → FinMap R V → World)
      (put_back : (w : World) (m : FinMap R V) → part (with w m) ≡ m)
      (put_twice : (w : World) (m n : FinMap R V) → with (with w m) n ≡ with w n)
      (put_own : (w : World) → with w (part w) ≡ w)
      (Adds : World → X → World → Type 0)
      (adds : (old : World) (x : X) (new : World) → Adds old x new → get (part old) (key x) ≡ None
      → new ≡ with old (insert (part old) (key x) (value x))) where
    taken : (before rows : List X) (old new : World) → HasTaken Adds old rows new
        → part old ≡ from_entries (pairs before) → Rising (before ++ rows)
        → new ≡ with old (from_entries (pairs (before ++ rows)))
    taken before [] old new done is up =
        done ∙ sym (put_own old) ∙ ap (with old) (is ∙ ap (λ l. from_entries (pairs l)) (sym (append-nil before)))
    taken before (x ∷ rows) old new done is up =
        let next = done.0 in
        let none = lacks before x rows up in
        let fresh : get (part old) (key x) ≡ None = ap (λ m. get m (key x)) is
        ∙ get-from_entries total (pairs before) (key x) ∙ none in
        let put : next ≡ with old (insert (part old) (key x) (value x)) = adds old x next done.1 fresh in
        let here : part next ≡ from_entries (pairs (before ++ x ∷ [])) =
        ap part put ∙ put_back old _ ∙ ap (λ m. insert m (key x) (value x)) is
        ∙ sym (ap from_entries (map-append (λ a. (key a, value a)) before (x ∷ []))
        ∙ from_entries_push total same (pairs before) (key x) (value x) none) in
        let assoc : (before ++ x ∷ []) ++ rows ≡ before ++ x ∷ rows = append_assoc before (x ∷ []) rows in
        let rest = taken (before ++ x ∷ []) rows next new done.2 here (subst Rising (sym assoc) up) in
        rest ∙ ap (λ w. with w _) put ∙ put_twice old _ _ ∙ ap (λ l. with old (from_entries (pairs l))) assoc

    -- the entries of a map, added where there was none, are that map
    pub filled : (m : FinMap R V) (rows : List X) → pairs rows ≡ entries m → (old new : World)
        → HasTaken Adds old rows new → part old ≡ empty → new ≡ with old m
    filled m rows are old new done none =
        let up = rises rows (subst (λ l. IsStrictlySortedBy R (keys_of l)) (sym are)
        (strictly_sorted R (entries m) (entries_sorted m))) in
        let whole : from_entries (pairs rows) ≡ m = same_map total same _ _
        (λ q. get-from_entries total (pairs rows) q ∙ ap (find_key R q) are ∙ sym (get-entries m q)) in
        taken [] rows old new done none up ∙ ap (with old) whole

-- ---- tables

-- what was added to tables was added to their worlds
taken_worlds : {X : Type 0} (Adds : Database → X → Database → Type 0) (With : World → X → World → Type 0)
    → ((a : Database) (x : X) (b : Database) → Adds a x b → With (world_of a.trees) x (world_of b.trees))
    → (a : Database) (xs : List X) (b : Database) → HasTaken Adds a xs b
    → HasTaken With (world_of a.trees) xs (world_of b.trees)
taken_worlds Adds With one a [] b done = ap (λ (d : Database). world_of d.trees) done
taken_worlds Adds With one a (x ∷ xs) b done =
    (world_of done.0.trees, one a x done.0 done.1, taken_worlds Adds With one done.0 xs b done.2)

-- and leaves each row a record
taken_read : {X : Type 0} (Adds : Database → X → Database → Type 0)
    → ((a : Database) (x : X) (b : Database) → Adds a x b → StaysRead a b)
    → (a : Database) (xs : List X) (b : Database) → HasTaken Adds a xs b → StaysRead a b
taken_read Adds one a [] b done = subst (λ (d : Database). AreAllRead hall_schema d.trees) (sym done)
taken_read Adds one a (x ∷ xs) b done = λ all. taken_read Adds one done.0 xs b done.2 (one a x done.0 done.1 all)

-- each record was added to the world, after those to which it refers
pub record FillsWorlds (rows : Whole) (old new : World) : Type 0 where
  pub with_people : World
  pub with_puzzles : World
  pub with_heads : World
  pub with_places : World
  pub with_answers : World
  pub people : HasTaken WithPerson old rows.people.items with_people
  pub puzzles : HasTaken WithPuzzle with_people rows.puzzles.items with_puzzles
  pub heads : HasTaken WithRound with_puzzles rows.heads.items with_heads
  pub places : HasTaken WithPlace with_heads rows.places.items with_places
  pub answers : HasTaken WithAnswer with_places rows.answers.items with_answers
  pub protests : HasTaken WithProtest with_answers rows.protests.items new

pub fills_worlds : (rows : Whole) (a b : Database) → Fills rows a b
    → FillsWorlds rows (world_of a.trees) (world_of b.trees)
fills_worlds rows a b fills = record {
  with_people = world_of fills.with_people.trees;
  with_puzzles = world_of fills.with_puzzles.trees;
  with_heads = world_of fills.with_heads.trees;
  with_places = world_of fills.with_places.trees;
  with_answers = world_of fills.with_answers.trees;
  people = taken_worlds PutsPerson WithPerson (λ d x e it. it.world) _ _ _ fills.people;
  puzzles = taken_worlds AddsPuzzle WithPuzzle (λ d x e it. it.2.world) _ _ _ fills.puzzles;
  heads = taken_worlds AddsHead WithRound (λ d x e it. it.world) _ _ _ fills.heads;
  places = taken_worlds AddsPlace WithPlace (λ d x e it. it.world) _ _ _ fills.places;
  answers = taken_worlds AddsAnswer WithAnswer (λ d x e it. it.world) _ _ _ fills.answers;
  protests = taken_worlds AddsProtest WithProtest (λ d x e it. it.world) _ _ _ fills.protests;
}

pub fills_read : (rows : Whole) (a b : Database) → Fills rows a b → StaysRead a b
fills_read rows a b fills all =
    taken_read AddsProtest (λ d x e it. it.read) _ _ _ fills.protests
    (taken_read AddsAnswer (λ d x e it. it.read) _ _ _ fills.answers
    (taken_read AddsPlace (λ d x e it. it.read) _ _ _ fills.places
    (taken_read AddsHead (λ d x e it. it.read) _ _ _ fills.heads
    (taken_read AddsPuzzle (λ d x e it. it.2.read) _ _ _ fills.puzzles
    (taken_read PutsPerson (λ d x e it. it.read) _ _ _ fills.people all)))))

-- the six tables, one after another
pub six_added : (rows : Whole) (a b c d e f h : State)
    → MakesInside (λ v w. HasTaken PutsPerson v rows.people.items w) a b
    → MakesInside (λ v w. HasTaken AddsPuzzle v rows.puzzles.items w) b c
    → MakesInside (λ v w. HasTaken AddsHead v rows.heads.items w) c d
    → MakesInside (λ v w. HasTaken AddsPlace v rows.places.items w) d e
    → MakesInside (λ v w. HasTaken AddsAnswer v rows.answers.items w) e f
    → MakesInside (λ v w. HasTaken AddsProtest v rows.protests.items w) f h
    → MakesInside (Fills rows) a h
six_added rows a b c d e f h people puzzles heads places answers protests = record {
  steps = record {
    mode = protests.steps.mode;
    hall = λ is. protests.steps.hall (answers.steps.hall (places.steps.hall
        (heads.steps.hall (puzzles.steps.hall (people.steps.hall is)))));
    sound = λ is sound.
        let at_b = people.steps.hall is in
        let at_c = puzzles.steps.hall at_b in
        let at_d = heads.steps.hall at_c in
        let at_e = places.steps.hall at_d in
        protests.steps.sound (answers.steps.hall at_e) (answers.steps.sound at_e (places.steps.sound at_d
        (heads.steps.sound at_c (puzzles.steps.sound at_b (people.steps.sound is sound)))));
  };
  does = λ is.
      let at_b = people.steps.hall is in
      let at_c = puzzles.steps.hall at_b in
      let at_d = heads.steps.hall at_c in
      let at_e = places.steps.hall at_d in
      record {
        with_people = b.now;
        with_puzzles = c.now;
        with_heads = d.now;
        with_places = e.now;
        with_answers = f.now;
        people = people.does is;
        puzzles = puzzles.does at_b;
        heads = heads.does at_c;
        places = places.does at_d;
        answers = answers.does at_e;
        protests = protests.does (answers.steps.hall at_e);
      };
}
