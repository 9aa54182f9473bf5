-- Labels that only the cells that are set to a value keep.
use Rattle.std.proofs.Common.{◌≡◌, ◌↔◌, ℕ, ◌+◌, ◌<◌, ◌≤◌, List, Option, Some, None, length, get_or, set, refl, sym, ◌∙◌}
use Rattle.std.proofs.Common.{subst, inl, inr, arith}
use Rattle.std.proofs.lemmas.Bool.{cases_eq, cases_lt}
use Rattle.std.proofs.lemmas.List.{length-set, get_or-set_same, get_or-set_other, get_or_past}
use Rattle.hall_grid.specs.Component.{IsLabelled}
use Rattle.hall_nurikabe.specs.Forced.{IsSetTo, AreKept}

-- of the cells below n only those that are set to the value have kept their labels
pub record KeptBelow (p : List (Option ℕ)) (value n : ℕ) (old new : List (Option ℕ)) : Type 0 where
  pub exact : length new ≡ length old
  pub kept : (cell label : ℕ) → IsLabelled new cell label ↔ (IsLabelled old cell label
      × (cell < n → IsSetTo p value cell))

pub KeptBelow-none : (p : List (Option ℕ)) (value : ℕ) (labels : List (Option ℕ)) → KeptBelow p value 0 labels labels
KeptBelow-none p value labels = record {
  exact = refl;
  kept = λ cell label.
      ((λ h. (h, λ low. absurd (omega arith))), (λ h. h.0));
}

-- one more cell is set to the value, or loses its label
pub KeptBelow-set : (p : List (Option ℕ)) (value n : ℕ) (old new : List (Option ℕ)) → KeptBelow p value n old new
    → IsSetTo p value n
    → KeptBelow p value (n + 1) old new
KeptBelow-set p value n old new below here = record {
  exact = below.exact;
  kept = λ cell label. (
    (λ h.
        let k = (below.kept cell label).0 h in (
          k.0,
          λ low. elim (cases_eq cell n) [
            | inl e ↦ subst (λ c. IsSetTo p value c) (sym e) here
            | inr ne ↦ k.1
                (omega arith)
          ],
        )),
    (λ h. (below.kept cell label).1 (h.0, λ low. h.1 (omega arith))),
  );
}

pub KeptBelow-clear : (p : List (Option ℕ)) (value n : ℕ) (old new : List (Option ℕ)) → KeptBelow p value n old new
    → n < length new
    → (IsSetTo p value n → ⊥) → KeptBelow p value (n + 1) old (set new n None)
KeptBelow-clear p value n old new below small other = record {
  exact = length-set _ _ _ ∙ below.exact;
  kept = λ cell label. elim (cases_eq cell n) [
    | inl e ↦ (
      (λ h.
          let gone : get_or (set new n None) cell None ≡ None = subst (λ c. get_or (set new n None) c None ≡ None)
          (sym e) (get_or-set_same new n None None small) in
          let clash : None ≡ Some label = sym gone ∙ h in
          absurd (cc)),
      (λ h. absurd (other (subst (λ c. IsSetTo p value c) e (h.1 (omega arith))))),
    )
    | inr ne ↦ (
      (λ h.
          let k = (below.kept cell label).0 (sym (get_or-set_other new n cell None None ne) ∙ h) in
          (k.0, λ low. k.1 (omega arith))),
      (λ h. get_or-set_other new n cell None None ne ∙ (below.kept cell label).1 (h.0, λ low. h.1 (omega arith))),
    )
  ];
}

pub AreKept-from_below : (p : List (Option ℕ)) (value n : ℕ) (old new : List (Option ℕ)) → length old ≤ n
    → KeptBelow p value n old new → AreKept p value old new
AreKept-from_below p value n old new all below = record {
  exact = below.exact;
  kept = λ cell label. (
    (λ h.
        let k = (below.kept cell label).0 h in (
          k.0,
          elim (cases_lt cell (length old)) [
            | inl low ↦ k.1 (omega arith)
            | inr high ↦ (let clash : None ≡ Some label = sym (get_or_past old cell None high) ∙ k.0 in absurd (cc))
          ],
        )),
    (λ h. (below.kept cell label).1 (h.0, λ low. h.1)),
  );
}
