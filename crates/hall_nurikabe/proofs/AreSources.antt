-- What is left where numbers begin, and that it stays enough as it is raised.
use Rattle.std.proofs.Common.{◌≡◌, ℕ, ◌+◌, ◌<◌, ◌≤◌, ◌++◌, Bool, true, false, List, [], ◌∷◌, Option, Some, None, length}
use Rattle.std.proofs.Common.{get_or, refl, sym, ◌∙◌, subst, inl, inr, arith}
use Rattle.std.proofs.lemmas.Bool.{cases_eq, cases_lt}
use Rattle.std.proofs.lemmas.List.{get_or_push, get_or_append_left, length_push}
use Rattle.hall_grid.specs.declared.board.Size.{Size}
use Rattle.hall_grid.specs.Board.{Board, cells, Touch}
use Rattle.hall_grid.specs.Component.{IsLabelled}
use Rattle.hall_grid.specs.Nurikabe.{IsNumbered}
use Rattle.hall_grid.specs.Reached.{IsMarked}
use Rattle.hall_grid.proofs.Labelling.{one_label}
use Rattle.hall_nurikabe.specs.Forced.{IsOpenTo}
use Rattle.hall_nurikabe.specs.Steps.{IsMost, IsSource, AreSources, FallsByOne, IsReached, AreStepsLeft, Raises}
use Rattle.hall_nurikabe.proofs.Raises.{rises}

-- where no cell has more than this much and at most so much left, it falls by one above this much too
pub falls_below : (size : Size) (IsMember : ℕ → Type 0) (left : List ℕ) (reach most : ℕ)
    → FallsByOne size IsMember left reach
    → ((i : ℕ) → get_or left i 0 ≤ reach → get_or left i 0 ≤ most) → FallsByOne size IsMember left most
falls_below size IsMember left reach most falls none a b t m more =
    elim (cases_lt reach (get_or left a 0)) [
      | inl above ↦ falls a b t m above
      | inr within ↦ absurd (let k = none a within in omega arith)
    ]

-- a cell whose number has a most is numbered
pub most_numbered : (board : Board) (cell n : ℕ) → IsMost board cell n → IsNumbered board cell
most_numbered board cell n (inl clue) = inl (n, clue)
most_numbered board cell n (inr (clue, e)) = inr clue

-- the number of a cell's group
pub same_owner : (labels owners : List (Option ℕ)) (cell x y a b : ℕ) → IsLabelled labels cell x
    → IsLabelled labels cell y
    → get_or owners x None ≡ Some a → get_or owners y None ≡ Some b → a ≡ b
same_owner labels owners cell x y a b at_x at_y has_a has_b =
    let same = one_label labels cell x y at_x at_y in
    let there : get_or owners y None ≡ Some a = subst (λ l. get_or owners l None ≡ Some a) same has_a in
    let both : Some a ≡ Some b = sym there ∙ has_b in
    cc

module _ (board : Board) (labels : List (Option ℕ)) (sizes : List ℕ) (owners : List (Option ℕ)) where
  -- a cell that may be free by another reason
  pub IsSource-free : (IsFree IsOther : Type 0) (cell left : ℕ) → (IsFree → IsOther)
      → IsSource board labels sizes owners IsFree cell left
      → IsSource board labels sizes owners IsOther cell left
  IsSource-free IsFree IsOther cell left free s = record {
    number = s.number;
    group = s.group;
    known = elim s.known [
      | inl g ↦ inl g
      | inr (inl number) ↦ inr (inl number)
      | inr (inr (inl claimed)) ↦ inr (inr (inl claimed))
      | inr (inr (inr f)) ↦ inr (inr (inr (free f)))
    ];
  }

  -- the same with more left
  pub IsSource-more : (IsFree : Type 0) (cell old new : ℕ) → old ≤ new → IsSource board labels sizes owners IsFree cell
      old
      → IsSource board labels sizes owners IsFree cell new
  IsSource-more IsFree cell old new up s = record {
    number = λ n h. let e = s.number n h in omega arith;
    group = λ none label owner n here has h. let e = s.group none label owner n here has h in omega arith;
    known = elim s.known [
      | inl g ↦ inl g
      | inr (inl number) ↦ inr (inl number)
      | inr (inr (inl (label, owner, beside, has, enough))) ↦ inr
          (inr (inl (label, owner, beside, has, λ n h. let e = enough n h in omega arith)))
      | inr (inr (inr f)) ↦ inr (inr (inr f))
    ];
  }

  module _ (p : List (Option ℕ)) where
    pub AreSources-raised : (IsFree : ℕ → Type 0) (reach : ℕ) (old new : List ℕ)
        → AreSources board p labels sizes owners IsFree old → Raises reach old new
        → AreSources board p labels sizes owners IsFree new
    AreSources-raised IsFree reach old new s r = record {
      exact = r.exact ∙ s.exact;
      each = λ cell bare. IsSource-more (IsFree cell) cell (get_or old cell 0) (get_or new cell 0)
          (rises reach old new cell r) (s.each cell bare);
    }

    pub AreStepsLeft-from_sources : (free : List Bool) (left : List ℕ)
        → AreSources board p labels sizes owners (IsMarked free) left
        → FallsByOne board.size (IsMarked free) left 0 → AreStepsLeft board p labels sizes owners left
    AreStepsLeft-from_sources free left s falls = record {
      exact = s.exact;
      each = λ cell bare. IsSource-free (IsMarked free cell) (IsReached board.size left cell) cell (get_or left cell 0)
          (λ marked other t. elim (cases_lt 0 (get_or left other 0))
          [ inl some ↦ falls other cell t marked some | inr nothing ↦ omega arith ])
          (s.each cell bare);
    }

    -- the sources of the cells below an end
    pub record SourcesBelow (end : ℕ) (left : List ℕ) (free : List Bool) : Type 0 where
      pub exact : length left ≡ end
      pub marks : length free ≡ end
      pub each : (cell : ℕ) → cell < end → IsOpenTo p 1 cell → IsSource board labels sizes owners (IsMarked free cell)
          cell (get_or left cell 0)

    pub SourcesBelow-none : SourcesBelow 0 [] []
    SourcesBelow-none = record { exact = refl; marks = refl; each = λ cell low bare. absurd (omega arith) }

    pub SourcesBelow-push : (end : ℕ) (left : List ℕ) (free : List Bool) (v : ℕ) (b : Bool)
        → (IsOpenTo p 1 end → IsSource board labels sizes owners (b ≡ true) end v) → SourcesBelow end left free
        → SourcesBelow (end + 1) (left ++ v ∷ []) (free ++ b ∷ [])
    SourcesBelow-push end left free v b here s =
        let exact = s.exact in
        let marks = s.marks in
        record {
          exact = (let e = length_push left v in omega arith);
          marks = (let e = length_push free b in omega arith);
          each = λ cell low bare. elim (cases_eq cell end) [
            | inl e ↦
                let last : get_or (left ++ v ∷ []) end 0 ≡ v = get_or_push left v 0 end exact in
                let mark : get_or (free ++ b ∷ []) end false ≡ b = get_or_push free b false end marks in
                subst (λ x. IsSource board labels sizes owners (IsMarked (free ++ b ∷ []) x) x
                (get_or (left ++ v ∷ []) x 0)) (sym e)
                (subst (λ x. IsSource board labels sizes owners (x ≡ true) end (get_or (left ++ v ∷ []) end 0))
                (sym mark)
                (subst (λ x. IsSource board labels sizes owners (b ≡ true) end x) (sym last)
                (here (subst (λ x. IsOpenTo p 1 x) e bare))))
            | inr ne ↦
                let before : get_or (left ++ v ∷ []) cell 0 ≡ get_or left cell 0 = get_or_append_left left (v ∷ []) 0
                cell (omega arith) in
                let mark : get_or (free ++ b ∷ []) cell false ≡ get_or free cell false = get_or_append_left free
                (b ∷ []) false cell (omega arith) in
                subst (λ x. IsSource board labels sizes owners (x ≡ true) cell (get_or (left ++ v ∷ []) cell 0))
                (sym mark)
                (subst (λ x. IsSource board labels sizes owners (IsMarked free cell) cell x) (sym before)
                (s.each cell (omega arith) bare))
          ];
        }

    pub AreSources-from_below : (end : ℕ) (left : List ℕ) (free : List Bool) → end ≡ cells board.size
        → length p ≡ cells board.size → SourcesBelow end left free
        → AreSources board p labels sizes owners (IsMarked free) left
    AreSources-from_below end left free e whole s = record {
      exact = s.exact ∙ e;
      each = λ cell bare. s.each cell (let low = bare.0 in omega arith) bare;
    }
