-- A group, as a flood finds it.
use Rattle.std.proofs.Common.{◌≡◌, ◌≢◌, ℕ, ◌+◌, ◌<◌, ◌≤◌, ◌⊎◌, ◌↔◌, ◌++◌, List, [], ◌∷◌, Option, Some, None, ◌-◌}
use Rattle.std.proofs.Common.{length, get_or, set, refl, sym, ◌∙◌, subst, inl, inr, arith}
use Rattle.std.specs.Prelude.{Contains, IfSome}
use Rattle.std.proofs.lemmas.Bool.{cases_eq}
use Rattle.std.proofs.lemmas.List.{get_or-set_same, get_or-set_other, length-set, length_push, get_or_append_left}
use Rattle.std.proofs.lemmas.List.{get_or-append_right, get_or_default}
use Rattle.std.proofs.lemmas.List.Elements.{Contains-append_left, Contains-get_or, Contains-push, Contains-push_cases}
use Rattle.hall_grid.specs.declared.board.Size.{Size}
use Rattle.hall_grid.specs.Board.{cells, Touch}
use Rattle.hall_grid.specs.RegionLaws.{Touch-turn}
use Rattle.hall_grid.specs.Walk.{Walk, at, on}
use Rattle.hall_grid.proofs.Labelling.{AmongFirst, more_place}
use Rattle.hall_grid.proofs.Walks.{Walk-reverse}
use Rattle.hall_solve.specs.Question.{IsOpen}
use Rattle.hall_nurikabe.specs.declared.exits.Exits.{Exits}
use Rattle.hall_nurikabe.specs.declared.exits.Exits.TheVariants.{Nowhere, One}
use Rattle.hall_nurikabe.specs.Exit.{Covers}
use Rattle.hall_nurikabe.specs.Forced.{IsSetTo}
use Rattle.hall_nurikabe.specs.Group.{Adds, ArePlaced, AreSeenRound, IsFound, IsGroup, IsNear, IsSeen, Sees}
use Rattle.hall_nurikabe.proofs.HasCount.{HasCount-bound, Lists-none, Lists-push}

pub some_from : (o : Option ℕ) (P : ℕ → Type 0) → ((x : ℕ) → o ≡ Some x → P x) → IfSome o P
some_from None P h = tt
some_from (Some x) P h = h x refl

-- one more cell is the last or listed already
one_more : (list : List ℕ) (cell x : ℕ) → Contains (list ++ cell ∷ []) x ↔ (Contains list x ⊎ (x ≡ cell))
one_more list cell x = (
  (λ h. elim (Contains-push_cases list cell x h) [ inl m ↦ inl m | inr e ↦ inr (sym e) ]),
  (λ h. elim h [
    | inl m ↦ Contains-append_left list (cell ∷ []) x m
    | inr e ↦ subst (λ y. Contains (list ++ cell ∷ []) y) (sym e) (Contains-push list cell)
  ]),
)

none_listed : (x : ℕ) → Contains [] x → ⊥
none_listed x h = let low = h.1 in absurd (omega arith)

-- a listed cell is known by its place
pub place_of : (places list : List ℕ) (x : ℕ) → ArePlaced places list → Contains list x
    → (get_or places x 0 < length list) × (get_or list (get_or places x 0) 0 ≡ x)
place_of places list x placed h =
    let is : get_or list h.0 0 ≡ x = get_or_default list h.0 0 x h.1 ∙ h.2 in
    let there : get_or places x 0 ≡ h.0 = subst (λ y. get_or places y 0 ≡ h.0) is (placed h.0 h.1) in
    let low = h.1 in
    (omega arith, subst (λ k. get_or list k 0 ≡ x) (sym there) is)

-- past the list's end no cell has its place
pub has_none : (places list : List ℕ) (x : ℕ) → ArePlaced places list → length list ≤ get_or places x 0
    → Contains list x → ⊥
has_none places list x placed past h = let k = place_of places list x placed h in let low = k.0 in absurd (omega arith)

pub has_cell : (places list : List ℕ) (x : ℕ) → get_or places x 0 < length list → get_or list (get_or places x 0) 0 ≡ x
    → Contains list x
has_cell places list x low e = subst (λ y. Contains list y) e (Contains-get_or list (get_or places x 0) 0 low)

-- one more cell at its place
ArePlaced-push : (places list : List ℕ) (cell : ℕ) → cell < length places → (Contains list cell → ⊥)
    → ArePlaced places list
    → ArePlaced (set places cell (length list)) (list ++ cell ∷ [])
ArePlaced-push places list cell low fresh placed = λ i h. elim (cases_eq i (length list)) [
  | inl e ↦
      let there : get_or (list ++ cell ∷ []) (length list) 0 ≡ cell = get_or-append_right list (cell ∷ []) (length list)
      (length list) 0 refl (omega arith)
      ∙ subst (λ k. get_or (cell ∷ []) k 0 ≡ cell) (let k : 0 ≡ length list - length list = omega arith in k) refl in
      subst (λ k. get_or (set places cell (length list)) (get_or (list ++ cell ∷ []) k 0) 0 ≡ k) (sym e)
      (subst (λ y. get_or (set places cell (length list)) y 0 ≡ length list) (sym there)
      (get_or-set_same places cell (length list) 0 low))
  | inr ne ↦
      let below : i < length list = let k = length_push list cell in omega arith in
      let there : get_or (list ++ cell ∷ []) i 0 ≡ get_or list i 0 = get_or_append_left list (cell ∷ []) 0 i below in
      let other : get_or list i 0 ≢ cell = λ e. fresh (subst (λ y. Contains list y) e
      (Contains-get_or list i 0 below)) in
      subst (λ y. get_or (set places cell (length list)) y 0 ≡ i) (sym there)
      (get_or-set_other places cell (get_or list i 0) (length list) 0 other ∙ placed i below)
]

module _ (size : Size) (p : List (Option ℕ)) (value : ℕ) where
  -- one cell alone
  pub IsFound-begin : (places : List ℕ) (from : ℕ) → length places ≡ cells size → from < cells size
      → IsSetTo p value from
      → IsFound size p value (set places from 0) (from ∷ []) Nowhere
  IsFound-begin places from whole low here =
      let only : (x : ℕ) → Contains (from ∷ []) x → x ≡ from =
      λ x h. elim ((one_more [] from x).0 h) [ inl m ↦ absurd (none_listed x m) | inr e ↦ e ] in
      record {
        exact = length-set places from 0 ∙ whole;
        below = λ x h. subst (λ y. y < cells size) (sym (only x h)) low;
        placed = ArePlaced-push places [] from (omega arith) (none_listed from) (λ i h. absurd (omega arith));
        lists = Lists-push (Contains []) (Contains (from ∷ [])) [] from (none_listed from) (one_more [] from)
            (Lists-none (Contains []) none_listed);
        joined = λ x y hx hy.
            subst (λ a. Walk (Touch size) (IsSetTo p value) a y) (sym (only x hx))
            (subst (λ b. Walk (Touch size) (IsSetTo p value) from b) (sym (only y hy)) (at here));
        bare = λ x h. absurd (cc);
      }

  -- no more cells are listed than the board has
  pub few_found : (places list : List ℕ) (exits : Exits) → IsFound size p value places list exits
      → length list ≤ cells size
  few_found places list exits f = HasCount-bound (Contains list) (length list) (cells size) f.below
      (list, f.lists, refl)

  module _ (places list : List ℕ) (exits : Exits) (f : IsFound size p value places list exits) where
    -- nothing is added
    pub Sees-none : (IsTarget : ℕ → Type 0) → ((x : ℕ) → x < cells size → IsTarget x → IsSeen p value list exits x)
        → Sees size p value IsTarget places list list exits exits
    Sees-none IsTarget seen = record {
      found = f;
      adds = record { listed = λ x h. h; covered = λ x h. h; long = omega arith; same = λ i h. refl };
      seen = seen;
    }

    -- an open cell is one of the exits
    pub Sees-exit : (cell : ℕ) (more : Exits) → IsOpen p cell → ((x : ℕ) → Covers exits x → Covers more x)
        → Covers more cell
        → ((x : ℕ) → more ≡ One x → x ≡ cell) → Sees size p value (λ x. x ≡ cell) places list list exits more
    Sees-exit cell more bare kept here one = record {
      found = record {
        exact = f.exact;
        below = f.below;
        placed = f.placed;
        lists = f.lists;
        joined = f.joined;
        bare = λ x e. subst (λ y. IsOpen p y) (sym (one x e)) bare;
      };
      adds = record { listed = λ x h. h; covered = kept; long = omega arith; same = λ i h. refl };
      seen = λ x low e. (
        (λ set_x. absurd (
            let none : get_or p x None ≡ None = subst (λ y. get_or p y None ≡ None) (sym e) bare.1 in
            let clash : ◌≡◌ {A = Option ℕ} None (Some value) = sym none ∙ set_x in
            cc)),
        (λ none. subst (λ y. Covers more y) (sym e) here),
      );
    }

    -- a cell of the value is listed
    pub Sees-push : (cell : ℕ) → cell < cells size → IsSetTo p value cell → (Contains list cell → ⊥)
        → IsNear size list cell
        → Sees size p value (λ x. x ≡ cell) (set places cell (length list)) list (list ++ cell ∷ []) exits exits
    Sees-push cell low here fresh near =
        let to : (x : ℕ) → Contains list x → Walk (Touch size) (IsSetTo p value) x cell =
        λ x m. on (f.joined x near.0 m near.1) near.2 here in
        record {
          found = record {
            exact = length-set places cell (length list) ∙ f.exact;
            below = λ x h. elim ((one_more list cell x).0 h)
                [ inl m ↦ f.below x m | inr e ↦ subst (λ y. y < cells size) (sym e) low ];
            placed = ArePlaced-push places list cell (let e = f.exact in omega arith) fresh f.placed;
            lists = Lists-push (Contains list) (Contains (list ++ cell ∷ [])) list cell fresh (one_more list cell)
                f.lists;
            joined = λ x y mx my. elim ((one_more list cell x).0 mx) [
              | inl ox ↦ elim ((one_more list cell y).0 my) [
                | inl oy ↦ f.joined x y ox oy
                | inr ey ↦ subst (λ b. Walk (Touch size) (IsSetTo p value) x b) (sym ey) (to x ox)
              ]
              | inr ex ↦ elim ((one_more list cell y).0 my) [
                | inl oy ↦
                    subst (λ a. Walk (Touch size) (IsSetTo p value) a y) (sym ex)
                    (Walk-reverse (Touch size) (IsSetTo p value) (Touch-turn size) y cell (to y oy))
                | inr ey ↦
                    subst (λ a. Walk (Touch size) (IsSetTo p value) a y) (sym ex)
                    (subst (λ b. Walk (Touch size) (IsSetTo p value) cell b) (sym ey) (at here))
              ]
            ];
            bare = f.bare;
          };
          adds = record {
            listed = λ x m. Contains-append_left list (cell ∷ []) x m;
            covered = λ x h. h;
            long = let k = length_push list cell in omega arith;
            same = λ i h. get_or_append_left list (cell ∷ []) 0 i h;
          };
          seen = λ x low e. (
            (λ _. subst (λ y. Contains (list ++ cell ∷ []) y) (sym e) (Contains-push list cell)),
            (λ none. absurd (
                let none_here : get_or p cell None ≡ None = subst (λ y. get_or p y None ≡ None) e none in
                let clash : ◌≡◌ {A = Option ℕ} None (Some value) = sym none_here ∙ here in
                cc)),
          );
        }

  seen_still : (list longer : List ℕ) (exits more : Exits) → Adds list longer exits more
      → (x : ℕ) → IsSeen p value list exits x → IsSeen p value longer more x
  seen_still list longer exits more a x s = ((λ h. a.listed x (s.0 h)), (λ h. a.covered x (s.1 h)))

  Adds-then : (l0 l1 l2 : List ℕ) (e0 e1 e2 : Exits) → Adds l0 l1 e0 e1 → Adds l1 l2 e1 e2 → Adds l0 l2 e0 e2
  Adds-then l0 l1 l2 e0 e1 e2 a b = record {
    listed = λ x h. b.listed x (a.listed x h);
    covered = λ x h. b.covered x (a.covered x h);
    long = let i = a.long in let j = b.long in omega arith;
    same = λ i h. b.same i (let k = a.long in omega arith) ∙ a.same i h;
  }

  module _ (places : List (Option ℕ)) (i : ℕ) (d : Option ℕ) (within : i < length places)
      (p1 l0 l1 : List ℕ) (e0 e1 : Exits) (s : Sees size p value (AmongFirst places i) p1 l0 l1 e0 e1) where
    -- one more place that holds no cell
    pub Sees-empty_place : ((x : ℕ) → get_or places i d ≡ Some x → ⊥) → Sees size p value (AmongFirst places (i + 1)) p1
        l0 l1 e0 e1
    Sees-empty_place none = record {
      found = s.found;
      adds = s.adds;
      seen = λ x low h. elim (more_place places i d (Some x) within h)
          [ inl k ↦ s.seen x low k | inr e ↦ absurd (none x e) ];
    }

    -- one more place that holds a cell
    pub Sees-place : (other : ℕ) (p2 l2 : List ℕ) (e2 : Exits) → get_or places i d ≡ Some other
        → Sees size p value (λ x. x ≡ other) p2 l1 l2 e1 e2 → Sees size p value (AmongFirst places (i + 1)) p2 l0 l2 e0
        e2
    Sees-place other p2 l2 e2 here t = record {
      found = t.found;
      adds = Adds-then l0 l1 l2 e0 e1 e2 s.adds t.adds;
      seen = λ x low h. elim (more_place places i d (Some x) within h) [
        | inl k ↦ seen_still l1 l2 e1 e2 t.adds x (s.seen x low k)
        | inr e ↦ t.seen x low (let r : Some other ≡ Some x = sym here ∙ e in cc)
      ];
    }

  -- a flood that has looked round the first of the list
  pub record Grouping (from : ℕ) (places list : List ℕ) (exits : Exits) (done : ℕ) : Type 0 where
    pub found : IsFound size p value places list exits
    pub begun : Contains list from
    pub listed : done ≤ length list
    pub seen : (i : ℕ) → i < done → AreSeenRound size p value list exits (get_or list i 0)

  pub Grouping-step : (from : ℕ) (places later list longer : List ℕ) (exits more : Exits) (done cell : ℕ)
      → done < length list
      → cell ≡ get_or list done 0 → Sees size p value (Touch size cell) later list longer exits more
      → Grouping from places list exits done → Grouping from later longer more (done + 1)
  Grouping-step from places later list longer exits more done cell low is s g = record {
    found = s.found;
    begun = s.adds.listed from g.begun;
    listed = let k = s.adds.long in omega arith;
    seen = λ i h. subst (λ x. AreSeenRound size p value longer more x) (sym (s.adds.same i (omega arith)))
        (elim (cases_eq i done) [
          | inl e ↦ subst (λ x. AreSeenRound size p value longer more x)
              (is ∙ subst (λ k. get_or list done 0 ≡ get_or list k 0) (sym e) refl)
              (λ x small t. s.seen x small t)
          | inr ne ↦ (λ x small t. seen_still list longer exits more s.adds x (g.seen i (omega arith) x small t))
        ]);
  }

  pub IsGroup-whole : (from : ℕ) (places list : List ℕ) (exits : Exits) (done : ℕ) → length list ≤ done
      → Grouping from places list exits done → IsGroup size p value from places list exits
  IsGroup-whole from places list exits done all g = record {
    found = g.found;
    begun = g.begun;
    whole = λ few x m.
        let low : m.0 < length list = m.1 in
        let is : get_or list m.0 0 ≡ x = get_or_default list m.0 0 x low ∙ m.2 in
        subst (λ y. AreSeenRound size p value list exits y) is (g.seen m.0 (omega arith));
  }
