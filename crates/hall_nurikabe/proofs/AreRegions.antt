-- Regions, and the numbers in them.
use Rattle.std.proofs.Common.{◌≡◌, ℕ, zero, suc, ◌+◌, ◌<◌, ◌≤◌, ◌↔◌, Bool, List, Option, Some, None, length, get_or}
use Rattle.std.proofs.Common.{set, replicate, sym, ◌∙◌, subst, inl, inr, arith}
use Rattle.std.specs.Prelude.{Contains}
use Rattle.std.proofs.lemmas.Bool.{cases_eq}
use Rattle.std.proofs.lemmas.List.{get_or-set_same, get_or-set_other, length-set, length-replicate}
use Rattle.hall_grid.specs.declared.board.Size.{Size}
use Rattle.hall_grid.specs.Board.{Board, cells, Touch}
use Rattle.hall_grid.specs.Nurikabe.{IsNumbered}
use Rattle.hall_grid.specs.Component.{IsLabelled, AreComponents}
use Rattle.hall_grid.specs.Reached.{IsMarked}
use Rattle.hall_grid.proofs.Labelling.{labelled_below, one_label, place_in}
use Rattle.hall_grid.proofs.AreComponents.{labelled_member, AreComponents-members}
use Rattle.hall_nurikabe.specs.Counts.{IsCounted, AreCounts}
use Rattle.hall_nurikabe.specs.Forced.{AreOwners, AreRegions, HaveTwoOwners, IsBeside}
use Rattle.hall_nurikabe.proofs.HasCount.{HasCount-same}

-- the owners among the cells below an end
pub record OwnersBelow (board : Board) (labels owners : List (Option ℕ)) (end : ℕ) : Type 0 where
  pub exact : length owners ≡ cells board.size
  pub owner : (label cell : ℕ) → get_or owners label None ≡ Some cell → (cell < end) × IsNumbered board cell
      × IsLabelled labels cell label
  pub found : (label cell : ℕ) → cell < end → IsNumbered board cell → IsLabelled labels cell label → (owner : ℕ)
      × (get_or owners label None ≡ Some owner)

no_value : (n i x : ℕ) → get_or (replicate n None) i None ≡ Some x → ⊥
no_value zero i x h = absurd (cc)
no_value (suc n) zero x h = absurd (cc)
no_value (suc n) (suc i) x h = no_value n i x h

pub OwnersBelow-none : (board : Board) (labels : List (Option ℕ)) (n : ℕ) → n ≡ cells board.size
    → OwnersBelow board labels (replicate n None) 0
OwnersBelow-none board labels n e = record {
  exact = length-replicate n None ∙ e;
  owner = λ label cell h. absurd (no_value n label cell h);
  found = λ label cell h _ _. absurd (omega arith);
}

pub OwnersBelow-skip : (board : Board) (labels owners : List (Option ℕ)) (end : ℕ)
    → ((label : ℕ) → IsNumbered board end → IsLabelled labels end label → ⊥) → OwnersBelow board labels owners end
    → OwnersBelow board labels owners (end + 1)
OwnersBelow-skip board labels owners end none o = record {
  exact = o.exact;
  owner = λ label cell h. let k = o.owner label cell h in (let low = k.0 in omega arith, k.1, k.2);
  found = λ label cell h numbered here. elim (cases_eq cell end) [
    | inl e ↦ absurd (none label (subst (λ x. IsNumbered board x) e numbered)
        (subst (λ x. IsLabelled labels x label) e here))
    | inr ne ↦ o.found label cell (omega arith) numbered here
  ];
}

pub OwnersBelow-set : (board : Board) (labels owners : List (Option ℕ)) (cell label : ℕ) → label < length owners
    → IsNumbered board cell
    → IsLabelled labels cell label → OwnersBelow board labels owners cell
    → OwnersBelow board labels (set owners label (Some cell)) (cell + 1)
OwnersBelow-set board labels owners cell label low numbered here o = record {
  exact = length-set owners label (Some cell) ∙ o.exact;
  owner = λ l c h. elim (cases_eq l label) [
    | inl e ↦
        let there : get_or (set owners label (Some cell)) label None ≡ Some c = subst
        (λ x. get_or (set owners label (Some cell)) x None ≡ Some c) e h in
        let both : Some cell ≡ Some c = sym (get_or-set_same owners label (Some cell) None low) ∙ there in
        let same : cell ≡ c = cc in
        subst (λ x. (x < cell + 1) × IsNumbered board x × IsLabelled labels x l) same
        (omega arith, numbered, subst (λ x. IsLabelled labels cell x) (sym e) here)
    | inr ne ↦
        let k = o.owner l c (sym (get_or-set_other owners label l (Some cell) None ne) ∙ h) in
        (let x = k.0 in omega arith, k.1, k.2)
  ];
  found = λ l c h numbered_c at. elim (cases_eq l label) [
    | inl e ↦ (
      cell,
      subst (λ x. get_or (set owners label (Some cell)) x None ≡ Some cell) (sym e)
          (get_or-set_same owners label (Some cell) None low),
    )
    | inr ne ↦ elim (cases_eq c cell) [
      | inl e ↦ absurd (ne (one_label labels cell l label (subst (λ x. IsLabelled labels x l) e at) here))
      | inr other ↦ (let k = o.found l c (omega arith) numbered_c at in
          (k.0, get_or-set_other owners label l (Some cell) None ne ∙ k.1))
    ]
  ];
}

pub two_owners : (board : Board) (labels owners : List (Option ℕ)) (cell label other : ℕ) → IsNumbered board cell
    → IsLabelled labels cell label
    → get_or owners label None ≡ Some other → OwnersBelow board labels owners cell → HaveTwoOwners board labels
two_owners board labels owners cell label other numbered here h o =
    let k = o.owner label other h in
    (other, cell, label, (λ e. let low = k.0 in absurd (omega arith)), k.1, numbered, k.2, here)

pub AreOwners-from_below : (board : Board) (labels owners : List (Option ℕ)) (end : ℕ) → length labels ≤ end
    → OwnersBelow board labels owners end
    → AreOwners board labels owners
AreOwners-from_below board labels owners end all o = record {
  exact = o.exact;
  owner = λ label cell h. let k = o.owner label cell h in (k.1, k.2);
  found = λ label cell numbered here. o.found label cell (let low = labelled_below labels cell label here in omega
      arith) numbered here;
}

-- the regions of marked cells, with their sizes
pub AreRegions-from_AreCounts : (size : Size) (marks : List Bool) (labels : List (Option ℕ)) (sizes : List ℕ)
    → AreComponents (cells size) (Touch size) (IsMarked marks) labels → AreCounts labels marks (length labels) sizes
    → AreRegions size (IsMarked marks) labels sizes
AreRegions-from_AreCounts size marks labels sizes a t = record {
  components = a;
  exact = t.exact ∙ a.exact;
  counted = λ label h.
      HasCount-same (IsCounted labels marks (length labels) label) (λ cell. IsLabelled labels cell label) _
      (λ x. (
        (λ k. k.1),
        (λ k. (
          labelled_below labels x label k,
          k,
          labelled_member (cells size) (Touch size)
              (IsMarked marks) labels a x label k,
        )),
      ))
      (t.counted label (let whole = a.exact in omega arith));
}

-- a cell beside the cell has the label, and the label has a number
abbrev pub IsOwnedBeside : Size → List (Option ℕ) → List (Option ℕ) → ℕ → ℕ → Type 0
IsOwnedBeside size labels owners cell label = (owner : ℕ) × IsBeside size labels cell label
    × (get_or owners label None ≡ Some owner)

pub owned_beside : (size : Size) (cell : ℕ) (places labels owners : List (Option ℕ)) (i label : ℕ) → i < length places
    → ((other : ℕ) → Contains places (Some other) ↔ ((other < cells size) × Touch size cell other))
    → ((c owner : ℕ) × (get_or places i None ≡ Some c) × IsLabelled labels c label
    × (get_or owners label None ≡ Some owner))
    → IsOwnedBeside size labels owners cell label
owned_beside size cell places labels owners i label low touching (c, owner, e, h, o) =
    (owner, (c, ((touching c).0 (place_in places i None (Some c) low e)).1, h), o)

-- regions where the same cells are said to be members in other words
pub AreRegions-members : (size : Size) (S T : ℕ → Type 0) (labels : List (Option ℕ)) (sizes : List ℕ)
    → ((a : ℕ) → S a ↔ T a)
    → AreRegions size S labels sizes → AreRegions size T labels sizes
AreRegions-members size S T labels sizes same r = record {
  components = AreComponents-members (cells size) (Touch size) S T labels same r.components;
  exact = r.exact;
  counted = r.counted;
}
