-- Tables of sets, filled cell by cell.
use Rattle.std.proofs.Common.{◌≡◌, ◌≢◌, ◌⊎◌, ◌↔◌, ℕ, ◌+◌, ◌<◌, ◌≤◌, List, Option, Some, None, Bool, true, false, not}
use Rattle.std.proofs.Common.{length, get_or, set, replicate, refl, sym, ◌∙◌, ap, subst, inl, inr, arith}
use Rattle.std.specs.Prelude.{is_some, IfNone}
use Rattle.std.specs.Int.{bit_at}
use Rattle.std.proofs.lemmas.Bool.{cases_eq, cases_lt}
use Rattle.std.proofs.lemmas.List.{get_or-set_same, get_or-set_other, get_or_default, get_or-replicate, get_or_past}
use Rattle.std.proofs.lemmas.List.{length-replicate}
use Rattle.hall_sudoku.proofs.Bits.{zero_has}
use Rattle.hall_grid.specs.declared.board.Size.{Size}
use Rattle.hall_grid.specs.Board.{cells}
use Rattle.hall_solve.specs.Question.{IsOpen}
use Rattle.hall_sudoku.specs.Values.{Has}
use Rattle.hall_sudoku.specs.Units.{IsDivision}
use Rattle.hall_sudoku.specs.Settled.{StandsIn, Clashes}
use Rattle.hall_sudoku.specs.Candidates.{AreTaken, IsSeenTwice, AreSeen, AreShared, AreComplete, IsMissing, Lacks}
use Rattle.hall_sudoku.specs.Candidates.{LacksNothing}

-- what indexing read is the set at the place
pub read_has : (xs : List ℕ) (k d v : ℕ) → k < length xs → Has (get_or xs k d) v ↔ Has (get_or xs k 0) v
read_has xs k d v lt = (
  (λ h. subst (λ x. Has x v) (get_or_default xs k d 0 lt) h),
  (λ h. subst (λ x. Has x v) (sym (get_or_default xs k d 0 lt)) h),
)

pub read_is : (xs : List ℕ) (k x v : ℕ) → k < length xs → x ≡ get_or xs k x → Has (get_or xs k 0) v → Has x v
read_is xs k x v lt e h = subst (λ y. Has y v) (sym e) ((read_has xs k x v lt).1 h)

pub is_read : (xs : List ℕ) (k x v : ℕ) → k < length xs → x ≡ get_or xs k x → Has x v → Has (get_or xs k 0) v
is_read xs k x v lt e h = (read_has xs k x v lt).0 (subst (λ y. Has y v) e h)

-- a set of a table after a write, and a set that only grew
pub has_set : (xs : List ℕ) (i y a v : ℕ) → i < length xs → Has (get_or (set xs i y) a 0) v → ((a ≡ i) × Has y v)
    ⊎ ((a ≢ i) × Has (get_or xs a 0) v)
has_set xs i y a v small h =
    elim (cases_eq a i) [
      | inl e ↦ inl (
        e,
        subst (λ x. Has x v) (get_or-set_same xs i y 0 small)
            (subst (λ k. Has (get_or (set xs i y) k 0) v) e h),
      )
      | inr ne ↦ inr (ne, subst (λ x. Has x v) (get_or-set_other xs i a y 0 ne) h)
    ]

pub set_has : (xs : List ℕ) (i y a v : ℕ) → i < length xs → (a ≡ i → Has y v) → (a ≢ i → Has (get_or xs a 0) v)
    → Has (get_or (set xs i y) a 0) v
set_has xs i y a v small here there =
    elim (cases_eq a i) [
      | inl e ↦ subst (λ k. Has (get_or (set xs i y) k 0) v) (sym e)
          (subst (λ x. Has x v) (sym (get_or-set_same xs i y 0 small)) (here e))
      | inr ne ↦ subst (λ x. Has x v) (sym (get_or-set_other xs i a y 0 ne)) (there ne)
    ]

-- what each unit's set has stands in one of the first n cells
abbrev pub TakenBelow : (ℕ → ℕ) → List (Option ℕ) → ℕ → List ℕ → Type 0
TakenBelow unit p n taken = (at v : ℕ) → Has (get_or taken at 0) v → (s : StandsIn unit p at v) × (s.cell < n)

pub taken_skip : (unit : ℕ → ℕ) (p : List (Option ℕ)) (n : ℕ) (taken : List ℕ) → TakenBelow unit p n taken
    → TakenBelow unit p (n + 1) taken
taken_skip unit p n taken below at v h = let s = below at v h in (s.0, omega (arith, s.1))

pub taken_more : (unit : ℕ → ℕ) (p : List (Option ℕ)) (n w y : ℕ) (taken : List ℕ) → TakenBelow unit p n taken
    → n < length p → unit n < length taken → get_or p n None ≡ Some w
    → ((v : ℕ) → Has y v → Has (get_or taken (unit n) 0) v ⊎ (v ≡ w)) → TakenBelow unit p (n + 1) (set taken (unit n) y)
taken_more unit p n w y taken below within small at_n more at v h =
    elim (has_set taken (unit n) y at v small h) [
      | inl k ↦ elim (more v k.1) [
        | inl old ↦ (let s = below (unit n) v old in (
          record
              { cell = s.0.cell; within = s.0.within; unit_is = s.0.unit_is ∙ sym k.0; value_is = s.0.value_is },
          omega
              (arith, s.1),
        ))
        | inr is_w ↦ (
          record { cell = n; within = within; unit_is = sym k.0; value_is = at_n ∙ ap Some (sym is_w) },
          omega arith,
        )
      ]
      | inr k ↦ (let s = below at v k.1 in (s.0, omega (arith, s.1)))
    ]

-- what stands in one of the first n cells is in its unit's set
abbrev pub TakesBelow : (ℕ → ℕ) → List (Option ℕ) → ℕ → List ℕ → Type 0
TakesBelow unit p n taken = (cell v : ℕ) → cell < n → get_or p cell None ≡ Some v → Has (get_or taken (unit cell) 0) v

pub takes_skip : (unit : ℕ → ℕ) (p : List (Option ℕ)) (n : ℕ) (taken : List ℕ) → TakesBelow unit p n taken
    → get_or p n None ≡ None → TakesBelow unit p (n + 1) taken
takes_skip unit p n taken takes unset cell v lt at =
    elim (cases_eq cell n) [
      | inl e ↦ (let clash : None ≡ Some v = sym unset ∙ ap (λ c. get_or p c None) (sym e) ∙ at in cc)
      | inr ne ↦ takes cell v (omega arith) at
    ]

pub takes_more : (unit : ℕ → ℕ) (p : List (Option ℕ)) (n w y : ℕ) (taken : List ℕ) → TakesBelow unit p n taken
    → unit n < length taken → get_or p n None ≡ Some w → ((v : ℕ) → Has (get_or taken (unit n) 0) v → Has y v) → Has y w
    → TakesBelow unit p (n + 1) (set taken (unit n) y)
takes_more unit p n w y taken takes small at_n old new cell v lt at =
    set_has taken (unit n) y (unit cell) v small
    (λ e. elim (cases_eq cell n) [
      | inl same ↦ (let two : Some w ≡ Some v = sym at_n ∙ ap (λ c. get_or p c None) (sym same)
          ∙ at in let is_v : w ≡ v = cc in subst (λ x. Has y x) is_v new)
      | inr ne ↦ old v (subst (λ x. Has (get_or taken x 0) v) e (takes cell v (omega arith) at))
    ])
    (λ ne. takes cell v (let other : cell ≢ n = (λ same. ne (ap unit same)) in omega arith) at)

-- no two of the first n cells of one unit have the same value
abbrev pub ApartBelow : (ℕ → ℕ) → List (Option ℕ) → ℕ → Type 0
ApartBelow unit p n = (h : Clashes unit p) → h.cell < n → ⊥

pub apart_skip : (unit : ℕ → ℕ) (p : List (Option ℕ)) (n : ℕ) → ApartBelow unit p n → get_or p n None ≡ None
    → ApartBelow unit p (n + 1)
apart_skip unit p n apart unset h lt =
    elim (cases_eq h.cell n) [
      | inl e ↦ (let clash : None ≡ Some h.value = sym unset ∙ ap (λ c. get_or p c None) (sym e) ∙ h.value_is in cc)
      | inr ne ↦ apart h (omega arith)
    ]

pub apart_more : (unit : ℕ → ℕ) (p : List (Option ℕ)) (n w : ℕ) (taken : List ℕ) → ApartBelow unit p n
    → TakesBelow unit p n taken → get_or p n None ≡ Some w
    → (Has (get_or taken (unit n) 0) w → ⊥) → ApartBelow unit p (n + 1)
apart_more unit p n w taken apart takes at_n fresh h lt =
    elim (cases_eq h.cell n) [
      | inl e ↦
          let two : Some w ≡ Some h.value = sym at_n ∙ ap (λ c. get_or p c None) (sym e) ∙ h.value_is in
          let is_v : h.value ≡ w = cc in
          let there : Has (get_or taken (unit h.other.cell) 0) h.value = takes h.other.cell h.value
          (omega (arith, h.before)) h.other.value_is in
          fresh (subst (λ x. Has (get_or taken (unit n) 0) x) is_v
          (subst (λ a. Has (get_or taken a 0) h.value) (h.other.unit_is ∙ ap unit e) there))
      | inr ne ↦ apart h (omega arith)
    ]

pub taken_both : (unit : ℕ → ℕ) (p : List (Option ℕ)) (n : ℕ) (taken : List ℕ) → length p ≤ n
    → TakenBelow unit p n taken → TakesBelow unit p n taken → AreTaken unit p taken
taken_both unit p n taken all below takes at v = (
  (λ h. (below at v h).0),
  (λ s. subst (λ a. Has (get_or taken a 0) v) s.unit_is (takes s.cell v (omega (arith, s.within)) s.value_is)),
)

-- without what was read at the unit is without the unit's set
pub without_read : (xs : List ℕ) (k unit d s t : ℕ) → k ≡ unit → k < length xs
    → ((v : ℕ) → Has t v ↔ (Has s v × (Has (get_or xs k d) v → ⊥))) → (v : ℕ) → Has t v
    ↔ (Has s v × (Has (get_or xs unit 0) v → ⊥))
without_read xs k unit d s t e lt h v = (
  (λ has. (
    ((h v).0 has).0,
    λ there. ((h v).0 has).1 ((read_has xs k d v lt).1
        (subst (λ u. Has (get_or xs u 0) v) (sym e) there)),
  )),
  (λ both. (h v).1 (both.0, λ here. both.1 (subst (λ u. Has (get_or xs u 0) v) e ((read_has xs k d v lt).0 here)))),
)

pub without_seen : (xs : List ℕ) (k d s t : ℕ) → k < length xs → d ≡ get_or xs k d
    → ((v : ℕ) → Has t v ↔ (Has s v × (Has d v → ⊥))) → (v : ℕ) → Has t v ↔ (Has s v × (Has (get_or xs k 0) v → ⊥))
without_seen xs k d s t lt e h v = (
  (λ has. (((h v).0 has).0, λ there. ((h v).0 has).1 (read_is xs k d v lt e there))),
  (λ both. (h v).1 (both.0, λ here. both.1 (is_read xs k d v lt e here))),
)

-- y: what is read at k of xs, or x, which is read at n of cs
pub or_read : (xs cs : List ℕ) (k n d x y : ℕ) → k < length xs → n < length cs → x ≡ get_or cs n x
    → ((v : ℕ) → Has y v ↔ (Has (get_or xs k d) v ⊎ Has x v)) → (v : ℕ) → Has y v
    ↔ (Has (get_or xs k 0) v ⊎ Has (get_or cs n 0) v)
or_read xs cs k n d x y lk ln e made v = (
  (λ h. elim ((made v).0 h) [ inl a ↦ inl ((read_has xs k d v lk).0 a) | inr b ↦ inr (is_read cs n x v ln e b) ]),
  (λ h. elim h [
    | inl a ↦ (made v).1 (inl ((read_has xs k d v lk).1 a))
    | inr b ↦ (made v).1
        (inr (read_is cs n x v ln e b))
  ]),
)

-- z: what is read at k of xs, and x, which is read at n of cs
pub and_read : (xs cs : List ℕ) (k n d x z : ℕ) → k < length xs → n < length cs → x ≡ get_or cs n x
    → ((v : ℕ) → Has z v ↔ (Has (get_or xs k d) v × Has x v)) → (v : ℕ) → Has z v
    ↔ (Has (get_or xs k 0) v × Has (get_or cs n 0) v)
and_read xs cs k n d x z lk ln e made v = (
  (λ h. let both = (made v).0 h in ((read_has xs k d v lk).0 both.0, is_read cs n x v ln e both.1)),
  (λ h. (made v).1 ((read_has xs k d v lk).1 h.0, read_is cs n x v ln e h.1)),
)

-- y: what is read at k of xs, or z, which is both of two
pub or_and_read : {A B : ℕ → Type 0} (xs : List ℕ) (k d z y : ℕ) → k < length xs
    → ((v : ℕ) → Has y v ↔ (Has (get_or xs k d) v ⊎ Has z v)) → ((v : ℕ) → Has z v ↔ (A v × B v)) → (v : ℕ) → Has y v
    ↔ (Has (get_or xs k 0) v ⊎ (A v × B v))
or_and_read xs k d z y lk made both v = (
  (λ h. elim ((made v).0 h) [ inl a ↦ inl ((read_has xs k d v lk).0 a) | inr b ↦ inr ((both v).0 b) ]),
  (λ h. elim h [ inl a ↦ (made v).1 (inl ((read_has xs k d v lk).1 a)) | inr b ↦ (made v).1 (inr ((both v).1 b)) ]),
)

-- one more cell is seen: y is the set of its unit with what it may have
pub seen_more : (unit : ℕ → ℕ) (n y : ℕ) (candidates seen : List ℕ) → AreSeen unit n candidates seen
    → unit n < length seen → ((v : ℕ) → Has y v ↔ (Has (get_or seen (unit n) 0) v ⊎ Has (get_or candidates n 0) v))
    → AreSeen unit (n + 1) candidates (set seen (unit n) y)
seen_more unit n y candidates seen below small made = record {
  all = λ a v lt h.
      set_has seen (unit n) y (unit a) v small
      (λ e. elim (cases_eq a n) [
        | inl same ↦ (made v).1 (inr (subst (λ x. Has (get_or candidates x 0) v) same h))
        | inr ne ↦ (made v).1 (inl (subst (λ x. Has (get_or seen x 0) v) e (below.all a v (omega arith) h)))
      ])
      (λ ne. below.all a v (let no_n : a ≢ n = (λ same. ne (ap unit same)) in omega arith) h);
  alone = λ at v h.
      elim (has_set seen (unit n) y at v small h) [
        | inl k ↦ elim ((made v).0 k.1) [
          | inl old ↦ (let s = below.alone (unit n) v old in
              record { cell = s.cell; before = omega (arith, s.before); unit_is = s.unit_is ∙ sym k.0; has = s.has })
          | inr new ↦ record { cell = n; before = omega arith; unit_is = sym k.0; has = new }
        ]
        | inr k ↦ (let s = below.alone at v k.1 in record {
          cell = s.cell;
          before = omega (arith, s.before);
          unit_is =
              s.unit_is;
          has = s.has;
        })
      ];
}

seen_twice_later : (unit : ℕ → ℕ) (n at other v : ℕ) (candidates : List ℕ) → other ≡ at
    → IsSeenTwice unit n candidates other v → IsSeenTwice unit (n + 1) candidates at v
seen_twice_later unit n at other v candidates e s = record {
  first = s.first;
  second = s.second;
  order = s.order;
  before = omega (arith, s.before);
  in_first = s.in_first ∙ e;
  in_second = s.in_second ∙ e;
  has_first = s.has_first;
  has_second = s.has_second;
}

-- one more cell shares: y is the set of its unit with what it may have and was seen
pub shared_more : (unit : ℕ → ℕ) (n y : ℕ) (candidates seen shared : List ℕ) → AreShared unit n candidates shared
    → AreSeen unit n candidates seen → unit n < length shared
    → ((v : ℕ) → Has y v ↔ (Has (get_or shared (unit n) 0) v
    ⊎ (Has (get_or seen (unit n) 0) v × Has (get_or candidates n 0) v)))
    → AreShared unit (n + 1) candidates (set shared (unit n) y)
shared_more unit n y candidates seen shared below was small made = record {
  all = λ a b v ab lt e ha hb.
      elim (cases_eq b n) [
        | inl same ↦
            let in_unit : unit a ≡ unit n = e ∙ ap unit same in
            set_has shared (unit n) y (unit a) v small
            (λ _. (made v).1 (inr (
              subst (λ x. Has (get_or seen x 0) v) in_unit (was.all a v (omega arith) ha),
              subst
                  (λ x. Has (get_or candidates x 0) v) same hb,
            )))
            (λ ne. absurd (ne in_unit))
        | inr ne ↦
            let there : Has (get_or shared (unit a) 0) v = below.all a b v ab (omega arith) e ha hb in
            set_has shared (unit n) y (unit a) v small (λ same. (made v).1
            (inl (subst (λ x. Has (get_or shared x 0) v) same there))) (λ _. there)
      ];
  alone = λ at v h.
      elim (has_set shared (unit n) y at v small h) [
        | inl k ↦ elim ((made v).0 k.1) [
          | inl old ↦ seen_twice_later unit n at (unit n) v candidates (sym k.0) (below.alone (unit n) v old)
          | inr new ↦ (let s = was.alone (unit n) v new.0 in record {
            first = s.cell;
            second = n;
            order = s.before;
            before = omega arith;
            in_first = s.unit_is ∙ sym k.0;
            in_second = sym k.0;
            has_first = s.has;
            has_second = new.1;
          })
        ]
        | inr k ↦ seen_twice_later unit n at at v candidates refl (below.alone at v k.1)
      ];
}

-- what is left without what is in all of three sets is nothing: each of them has it
pub in_all_three : (left r k b both all rest : ℕ) → ((v : ℕ) → Has both v ↔ (Has r v × Has k v))
    → ((v : ℕ) → Has all v ↔ (Has both v × Has b v)) → ((v : ℕ) → Has rest v ↔ (Has left v × (Has all v → ⊥)))
    → ((v : ℕ) → Has rest v → ⊥) → (v : ℕ) → Has left v → Has r v × Has k v × Has b v
in_all_three left r k b both all rest e_both e_all e_rest none v h =
    elim (cases_eq (bit_at all v) 1) [
      | inl on ↦ (let outer = (e_all v).0 on in let inner = (e_both v).0 outer.0 in (inner.0, inner.1, outer.1))
      | inr off ↦ absurd (none v ((e_rest v).1 (h, off)))
    ]

-- one more unit's set lacks nothing
pub lacks_more : (n side all left : ℕ) (seen : List ℕ) → LacksNothing n side seen → ((v : ℕ) → Has all v ↔ (v < side))
    → ((v : ℕ) → Has left v ↔ (Has all v × (Has (get_or seen n 0) v → ⊥))) → ((v : ℕ) → Has left v → ⊥)
    → LacksNothing (n + 1) side seen
lacks_more n side all left seen below e_all e_left none at v lt hv =
    elim (cases_eq at n) [
      | inl e ↦ elim (cases_eq (bit_at (get_or seen n 0) v) 1) [
        | inl on ↦ subst (λ k. Has (get_or seen k 0) v) (sym e) on
        | inr off ↦ absurd (none v ((e_left v).1 ((e_all v).1 hv, off)))
      ]
      | inr ne ↦ below at v (omega arith) hv
    ]

-- each value is seen in each unit, where no set lacks it
pub complete_from : (unit : ℕ → ℕ) (n side : ℕ) (candidates seen : List ℕ) → AreSeen unit n candidates seen
    → LacksNothing side side seen → AreComplete unit n candidates side
complete_from unit n side candidates seen are nothing at v ha hv = are.alone at v (nothing at v ha hv)

pub missing_from : (unit : ℕ → ℕ) (n side : ℕ) (candidates seen : List ℕ) → AreSeen unit n candidates seen
    → Lacks side seen → IsMissing unit n candidates side
missing_from unit n side candidates seen are h = record {
  at = h.at;
  value = h.value;
  at_small = h.at_small;
  value_small = h.value_small;
  nowhere = λ a lt e has. h.lacks (subst (λ k. Has (get_or seen k 0) h.value) e (are.all a h.value lt has));
}

-- what a table's units say is what the units say
module _ (size : Size) (unit : ℕ → ℕ) (units : List ℕ) (d : IsDivision size unit units) where
  pub taken_of : (p : List (Option ℕ)) (taken : List ℕ) → length p ≡ cells size
      → AreTaken (λ c. get_or units c 0) p taken → AreTaken unit p taken
  taken_of p taken exact h at v = (
    (λ has. let s = (h at v).0 has in record {
      cell = s.cell;
      within = s.within;
      unit_is = sym
          (d.units_are s.cell (omega (arith, s.within))) ∙ s.unit_is;
      value_is = s.value_is;
    }),
    (λ s. (h at v).1 (record {
      cell = s.cell;
      within = s.within;
      unit_is = d.units_are s.cell (omega (arith, s.within))
          ∙ s.unit_is;
      value_is = s.value_is;
    })),
  )

  pub clash_of : (p : List (Option ℕ)) → length p ≡ cells size → Clashes (λ c. get_or units c 0) p → Clashes unit p
  clash_of p exact h =
      let s = h.other in
      record {
        cell = h.cell;
        value = h.value;
        within = h.within;
        value_is = h.value_is;
        other = record {
          cell = s.cell;
          within = s.within;
          unit_is = sym (d.units_are s.cell (omega (arith, s.within)))
              ∙ s.unit_is ∙ d.units_are h.cell (omega (arith, h.within));
          value_is = s.value_is;
        };
        before = h.before;
      }

  pub apart_of : (p : List (Option ℕ)) → length p ≡ cells size → (Clashes (λ c. get_or units c 0) p → ⊥)
      → Clashes unit p → ⊥
  apart_of p exact apart h =
      let s = h.other in
      apart (record {
        cell = h.cell;
        value = h.value;
        within = h.within;
        value_is = h.value_is;
        other = record {
          cell = s.cell;
          within = s.within;
          unit_is = d.units_are s.cell (omega (arith, s.within))
              ∙ s.unit_is ∙ sym (d.units_are h.cell (omega (arith, h.within)));
          value_is = s.value_is;
        };
        before = h.before;
      })

  pub shared_of : (candidates shared : List ℕ) → AreShared (λ c. get_or units c 0) (length units) candidates shared
      → AreShared unit (cells size) candidates shared
  shared_of candidates shared h = record {
    all = λ a b v ab lt e ha hb.
        let of_a : get_or units a 0 ≡ unit a = d.units_are a (omega arith) in
        subst (λ x. Has (get_or shared x 0) v) of_a (h.all a b v ab (omega (arith, d.exact))
        (of_a ∙ e ∙ sym (d.units_are b lt)) ha hb);
    alone = λ at v has.
        let s = h.alone at v has in
        record {
          first = s.first;
          second = s.second;
          order = s.order;
          before = omega (arith, s.before, d.exact);
          in_first = sym (d.units_are s.first (omega (arith, s.order, s.before, d.exact))) ∙ s.in_first;
          in_second = sym (d.units_are s.second (omega (arith, s.before, d.exact))) ∙ s.in_second;
          has_first = s.has_first;
          has_second = s.has_second;
        };
  }

  pub complete_of : (candidates : List ℕ) (side : ℕ) → AreComplete (λ c. get_or units c 0) (length units) candidates
      side → AreComplete unit (cells size) candidates side
  complete_of candidates side h at v ha hv =
      let s = h at v ha hv in
      record {
        cell = s.cell;
        before = omega (arith, s.before, d.exact);
        unit_is = sym
            (d.units_are s.cell (omega (arith, s.before, d.exact))) ∙ s.unit_is;
        has = s.has;
      }

  pub missing_of : (candidates : List ℕ) (side : ℕ) → IsMissing (λ c. get_or units c 0) (length units) candidates side
      → IsMissing unit (cells size) candidates side
  missing_of candidates side h = record {
    at = h.at;
    value = h.value;
    at_small = h.at_small;
    value_small = h.value_small;
    nowhere = λ a lt e. h.nowhere a (omega (arith, d.exact)) (d.units_are a lt ∙ e);
  }

pub none_from : (o : Option ℕ) → ((w : ℕ) → o ≢ Some w) → o ≡ None
none_from None other = refl
none_from (Some w) other = absurd (other w refl)

-- what holds where nothing was found holds here
pub none_holds : {P : Type 0} (o : Option ℕ) → ((w : ℕ) → o ≢ Some w) → IfNone o P → P
none_holds None other p = p
none_holds (Some w) other p = absurd (other w refl)

pub none_turned : {P Q : Type 0} (o : Option ℕ) → (P → Q) → IfNone o P → IfNone o Q
none_turned None f p = f p
none_turned (Some x) f p = tt

pub none_of : (o : Option ℕ) (b : Bool) → is_some o ≡ not b → b ≡ true → o ≡ None
none_of None b e t = refl
none_of (Some x) b e t = cc (ap not t)

pub none_at : (o : Option ℕ) (b : Bool) → b ≡ is_some o → b ≡ false → o ≡ None
none_at None b e f = refl
none_at (Some x) b e f = cc

pub some_of : (o : Option ℕ) (b : Bool) → is_some o ≡ not b → b ≡ false → o ≡ None → ⊥
some_of None b e f h = cc (ap not f)
some_of (Some x) b e f h = cc

-- one more cell's set is written: what is so of each cell and its set is so of this one too
pub at_more : (P : ℕ → ℕ → Type 0) (n y : ℕ) (candidates : List ℕ) → ((c : ℕ) → c < n → P c (get_or candidates c 0))
    → n < length candidates → P n y → (c : ℕ) → c < n + 1 → P c (get_or (set candidates n y) c 0)
at_more P n y candidates below small here c lt =
    elim (cases_eq c n) [
      | inl e ↦ subst (λ k. P k (get_or (set candidates n y) k 0)) (sym e)
          (subst (λ x. P n x) (sym (get_or-set_same candidates n y 0 small)) here)
      | inr ne ↦ subst (λ x. P c x) (sym (get_or-set_other candidates n c y 0 ne)) (below c (omega arith))
    ]

-- the best of the first n cells so far: an open one, or none where all are set
abbrev pub IsBest : List (Option ℕ) → ℕ → Option ℕ → Type 0
IsBest p n None = (k : ℕ) → k < n → get_or p k None ≢ None
IsBest p n (Some i) = IsOpen p i

-- where each of a table's sets has nothing, none of them has a value
pub none_in : (n x : ℕ) → ((v : ℕ) → Has x v → ⊥) → (at v : ℕ) → Has (get_or (replicate n x) at 0) v → ⊥
none_in n x none at v h =
    elim (cases_lt at n) [
      | inl lt ↦ none v (subst (λ y. Has y v) (get_or-replicate n at x 0 lt) h)
      | inr ge ↦ zero_has v (subst (λ y. Has y v) (get_or_past (replicate n x) at 0
          (omega (arith, length-replicate n x, ge))) h)
    ]
