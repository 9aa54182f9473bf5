-- What one group says of the solutions.
use Rattle.std.proofs.Common.{◌≡◌, ◌≢◌, ℕ, ◌<◌, ◌⊎◌, Bool, true, false, List, Option, Some, None, length, get_or, refl}
use Rattle.std.proofs.Common.{sym, ◌∙◌, subst, inl, inr, arith}
use Rattle.std.specs.Prelude.{Contains, nat_eq, slice_get}
use Rattle.std.specs.List.{list_any}
use Rattle.std.specs.Cmp.{nat_eq_equiv}
use Rattle.std.proofs.lemmas.Map.Views.{list_any-from_Contains}
use Rattle.std.proofs.lemmas.Bool.{cases_eq}
use Rattle.hall_grid.specs.declared.board.Clue.TheVariants.{Number}
use Rattle.hall_grid.specs.declared.board.Kind.TheVariants.{Nurikabe}
use Rattle.hall_grid.specs.declared.rule.Rule.TheVariants.{N3, N4, N5}
use Rattle.hall_grid.specs.Board.{Board, cells, Touch}
use Rattle.hall_grid.specs.Nurikabe.{InIsland, IsNumbered}
use Rattle.hall_grid.specs.Walk.{Walk, at, on}
use Rattle.hall_grid.proofs.Walks.{Walk-start}
use Rattle.hall_solve.specs.Question.{IsHopeless, IsPartial, Solves}
use Rattle.hall_solve.specs.Deduction.{IsForced}
use Rattle.hall_solve.specs.Puzzle.{question_of}
use Rattle.hall_nurikabe.specs.declared.exits.Exits.{Exits}
use Rattle.hall_nurikabe.specs.declared.exits.Exits.TheVariants.{Nowhere, One, Many}
use Rattle.hall_nurikabe.specs.Counts.{HasCount}
use Rattle.hall_nurikabe.specs.Exit.{Covers}
use Rattle.hall_nurikabe.specs.Forced.{IsSetTo}
use Rattle.hall_nurikabe.specs.Group.{HasOtherWall, IsGroup, IsOpenBeside, MustLeave}
use Rattle.hall_nurikabe.proofs.HasCount.{HasCount-lacks, HasCount-within, member_of}
use Rattle.hall_nurikabe.proofs.HasAlways.{counted, white_walk}
use Rattle.hall_nurikabe.proofs.Solves.{no_rule_broken, set_wall, set_white, wall_or_white}

contains_is : (list : List ℕ) (cell : ℕ) → Contains list cell ⊎ (Contains list cell → ⊥)
contains_is list cell = decide (list_any (nat_eq cell) list) refl
  where
    decide : (b : Bool) → list_any (nat_eq cell) list ≡ b → Contains list cell ⊎ (Contains list cell → ⊥)
    decide true e = inl (member_of list cell e)
    decide false e = inr (λ h. let yes = list_any-from_Contains nat_eq_equiv cell list h in let clash : false ≡ true =
        sym e ∙ yes in absurd (cc))

module _ (board : Board) (p : List (Option ℕ)) (part : IsPartial (question_of Nurikabe board) p) (value from : ℕ)
    (places list : List ℕ)
    (exits : Exits) (g : IsGroup board.size p value from places list exits) where
  -- the first step of a walk out of the group goes to an exit
  leaves : exits ≢ Many → (f : List ℕ) → Solves (question_of Nurikabe board) p f → (c d : ℕ) → Contains list c
      → (Contains list d → ⊥)
      → Walk (Touch board.size) (λ cell. (cell < cells board.size) × (get_or f cell 0 ≡ value)) c d
      → (x : ℕ) × Covers exits x × (get_or f x 0 ≡ value)
  leaves few f s c d here out (at m) = absurd (out here)
  leaves few f s c d here out (on {b = b} w n k) =
      elim (contains_is list b) [
        | inr far ↦ leaves few f s c b here far w
        | inl near ↦ unset (get_or p d None) refl near
      ]
    where
      unset : (o : Option ℕ) → get_or p d None ≡ o → Contains list b → (x : ℕ) × Covers exits x × (get_or f x 0 ≡ value)
      unset None e near = (d, (g.whole few b near d k.0 n).1 e, k.1)
      unset (Some v) e near =
          let same : v ≡ value = let x = s.extends d v e in let y = k.1 in omega arith in
          absurd (out ((g.whole few b near d k.0 n).0 (subst (λ x. get_or p d None ≡ Some x) same e)))

  module _ (leave : MustLeave board p value list) where
    pub shut_hopeless : exits ≡ Nowhere → IsHopeless (question_of Nurikabe board) p
    shut_hopeless e = λ f s. leave f s (λ c d here out w.
        let x = leaves (λ m. let clash : Nowhere ≡ Many = sym e ∙ m in cc) f s c d here out w in
        subst (λ o. Covers o x.0) e x.1)

    pub exit_forced : value < 2 → (cell : ℕ) → exits ≡ One cell → IsForced (question_of Nurikabe board) p cell value
    exit_forced small cell e = record {
      unset = g.found.bare cell e;
      in_range = small;
      forced = λ f s. elim (cases_eq (get_or f cell 0) value) [
        | inl same ↦ same
        | inr ne ↦ absurd (leave f s (λ c d here out w.
            let x = leaves (λ m. let clash : One cell ≡ Many = sym e ∙ m in cc) f s c d here out w in
            let same : x.0 ≡ cell = subst (λ o. Covers o x.0) e x.1 in
            ne (subst (λ y. get_or f y 0 ≡ value) same x.2)))
      ];
    }

module _ (board : Board) (kind : board.kind ≡ Nurikabe) (p : List (Option ℕ))
    (part : IsPartial (question_of Nurikabe board) p) (from : ℕ)
    (places list : List ℕ) (exits : Exits) where
  -- another wall stands elsewhere
  pub wall_leaves : IsGroup board.size p 1 from places list exits → HasOtherWall p list → MustLeave board p 1 list
  wall_leaves g (d, wall, beyond) = λ f s out.
      no_rule_broken board f kind s.right N3 (
        from,
        d,
        set_wall board p f part s from (Walk-start (Touch board.size) (IsSetTo p 1) from from
            (g.found.joined from from g.begun g.begun)),
        set_wall board p f part s d wall,
        (λ w. out from d g.begun beyond w),
      )

  module _ (g : IsGroup board.size p 0 from places list exits) where
    white : (x : ℕ) → Contains list x → IsSetTo p 0 x
    white x m = Walk-start (Touch board.size) (IsSetTo p 0) x x (g.found.joined x x m m)

    group_count : HasCount (Contains list) (length list)
    group_count = (list, g.found.lists, refl)

    -- no cell of the group has a number
    pub nobody_leaves : ((cell : ℕ) → Contains list cell → IsNumbered board cell → ⊥) → MustLeave board p 0 list
    nobody_leaves none = λ f s out. no_rule_broken board f kind s.right N4 (
      from,
      set_white board p f part s from (white from g.begun),
      (λ other w numbered. out from other g.begun (λ m. none other m numbered) w),
    )

    -- two cells of the group have numbers
    pub two_hopeless : (a b : ℕ) → a ≢ b → Contains list a → Contains list b → IsNumbered board a → IsNumbered board b
        → IsHopeless (question_of Nurikabe board) p
    two_hopeless a b ne ha hb na nb = λ f s. no_rule_broken board f kind s.right N5 (
      a,
      b,
      ne,
      na,
      nb,
      white_walk board kind p part f s a b (g.found.joined a b ha hb),
    )

    module _ (whole : length board.clues ≡ cells board.size) (cell given : ℕ) (here : Contains list cell)
        (clue : slice_get board.clues cell ≡ Some (Number given)) where
      in_island : (f : List ℕ) → Solves (question_of Nurikabe board) p f → (x : ℕ) → Contains list x
          → InIsland board.size f cell x
      in_island f s x m = white_walk board kind p part f s cell x (g.found.joined cell x here m)

      pub few_leaves : length list < given → MustLeave board p 0 list
      few_leaves few = λ f s out. counted board kind p part whole cell given clue f s (λ c.
          let k = HasCount-within (InIsland board.size f cell) (Contains list) given (length list)
          (λ y w. elim (contains_is list y) [ inl within ↦ within | inr beyond ↦ absurd (out cell y here beyond w) ])
          c group_count in
          omega arith)

      pub many_hopeless : given < length list → IsHopeless (question_of Nurikabe board) p
      many_hopeless many = λ f s. counted board kind p part whole cell given clue f s (λ c.
          let k = HasCount-within (Contains list) (InIsland board.size f cell) (length list) given (in_island f s)
          group_count c in
          omega arith)

      pub full_forced : length list ≡ given → (x : ℕ) → IsOpenBeside board.size p list x
          → IsForced (question_of Nurikabe board) p x 1
      full_forced full x (bare, (y, there, touch)) = record {
        unset = bare;
        in_range = omega arith;
        forced = λ f s. wall_or_white board f x s.filling (let low = bare.0 in let e = part.size in omega arith)
            (λ white_x.
            counted board kind p part whole cell given clue f s (λ c.
            let k = HasCount-lacks (Contains list) (InIsland board.size f cell) (length list) given x (in_island f s)
            (on (in_island f s y there) touch white_x)
            (λ m. let none = bare.1 in let clash : ◌≡◌ {A = Option ℕ} None (Some 0) = sym none
            ∙ white x m in absurd (cc)) group_count c in
            omega arith));
      }
