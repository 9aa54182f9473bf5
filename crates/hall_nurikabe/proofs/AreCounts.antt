-- Counts by labels, cell by cell.
use Rattle.std.proofs.Common.{◌≡◌, ℕ, zero, suc, ◌+◌, ◌<◌, ◌≤◌, ◌↔◌, Bool, List, length, get_or, set, replicate, Option}
use Rattle.std.proofs.Common.{refl, sym, ◌∙◌, subst, inl, inr, arith}
use Rattle.std.proofs.lemmas.List.{get_or-set_same, get_or-set_other, length-set, length-replicate}
use Rattle.std.proofs.lemmas.Bool.{cases_eq}
use Rattle.hall_grid.specs.Component.{IsLabelled}
use Rattle.hall_grid.specs.Reached.{IsMarked}
use Rattle.hall_grid.proofs.Labelling.{one_label}
use Rattle.hall_nurikabe.specs.Counts.{HasCount, IsCounted, AreCounts}
use Rattle.hall_nurikabe.proofs.HasCount.{HasCount-none, HasCount-same, HasCount-more, HasCount-bound}

no_count : (n i : ℕ) → ◌≡◌ {A = ℕ} (get_or (replicate n 0) i 0) 0
no_count zero i = refl
no_count (suc n) zero = refl
no_count (suc n) (suc i) = no_count n i

pub AreCounts-none : (labels : List (Option ℕ)) (marks : List Bool) (n : ℕ) → n ≡ length labels
    → AreCounts labels marks 0 (replicate n 0)
AreCounts-none labels marks n e = record {
  exact = length-replicate n 0 ∙ e;
  counted = λ label h.
      subst (HasCount (IsCounted labels marks 0 label)) (sym (no_count n label))
      (HasCount-none (IsCounted labels marks 0 label) (λ x c. let low = c.0 in omega arith));
}

module _ (labels : List (Option ℕ)) (marks : List Bool) (cell : ℕ) (counts : List ℕ)
    (t : AreCounts labels marks cell counts) where
  same_below : (label : ℕ) → (IsLabelled labels cell label → IsMarked marks cell → ⊥)
      → (x : ℕ) → IsCounted labels marks cell label x ↔ IsCounted labels marks (cell + 1) label x
  same_below label none x = (
    (λ h. (let low = h.0 in omega arith, h.1, h.2)),
    (λ h. elim (cases_eq x cell) [
      | inl e ↦ absurd (none (subst (λ c. IsLabelled labels c label) e h.1) (subst (λ c. IsMarked marks c) e h.2))
      | inr ne ↦ (let low = h.0 in omega arith, h.1, h.2)
    ]),
  )

  -- a cell that isn't marked or has no label
  pub AreCounts-skip : ((label : ℕ) → IsLabelled labels cell label → IsMarked marks cell → ⊥)
      → AreCounts labels marks (cell + 1) counts
  AreCounts-skip none = record {
    exact = t.exact;
    counted = λ label h.
        HasCount-same (IsCounted labels marks cell label) (IsCounted labels marks (cell + 1) label) _
        (same_below label (none label)) (t.counted label h);
  }

  -- a marked cell with a label
  pub AreCounts-count : (label n : ℕ) → label < length labels → IsLabelled labels cell label → IsMarked marks cell
      → n ≡ get_or counts label 0 + 1
      → AreCounts labels marks (cell + 1) (set counts label n)
  AreCounts-count label n low here marked e = record {
    exact = length-set counts label n ∙ t.exact;
    counted = λ other h. elim (cases_eq other label) [
      | inl same ↦
          subst (λ o. HasCount (IsCounted labels marks (cell + 1) o) (get_or (set counts label n) o 0)) (sym same)
          (subst (HasCount (IsCounted labels marks (cell + 1) label))
          (sym (get_or-set_same counts label n 0 (let x = t.exact in omega arith) ∙ e))
          (HasCount-more (IsCounted labels marks cell label) (IsCounted labels marks (cell + 1) label)
          (get_or counts label 0) cell
          (λ c. let k = c.0 in omega arith)
          (λ x. (
            (λ c. elim (cases_eq x cell) [ inl e ↦ inr e | inr ne ↦ inl (let k = c.0 in omega arith, c.1, c.2) ]),
            (λ c. elim c [
              | inl k ↦ (let l = k.0 in omega arith, k.1, k.2)
              | inr e ↦ (
                omega arith,
                subst (λ c. IsLabelled labels c label) (sym e) here,
                subst (λ c. IsMarked marks c)
                    (sym e) marked,
              )
            ]),
          ))
          (t.counted label low)))
      | inr ne ↦
          subst (HasCount (IsCounted labels marks (cell + 1) other)) (sym (get_or-set_other counts label other n 0 ne))
          (HasCount-same (IsCounted labels marks cell other) (IsCounted labels marks (cell + 1) other) _
          (same_below other (λ l _. ne (one_label labels cell other label l here)))
          (t.counted other h))
    ];
  }

  pub AreCounts-bound : (label : ℕ) → label < length labels → get_or counts label 0 ≤ cell
  AreCounts-bound label h = HasCount-bound (IsCounted labels marks cell label) _ cell (λ x c. c.0) (t.counted label h)
