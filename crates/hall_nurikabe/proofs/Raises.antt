-- What is left in cells, as it is raised.
use Rattle.std.proofs.Common.{◌≡◌, ℕ, ◌+◌, ◌<◌, ◌≤◌, List, length, get_or, set, refl, sym, ◌∙◌, subst, inl, inr, arith}
use Rattle.std.proofs.lemmas.Bool.{cases_eq}
use Rattle.std.proofs.lemmas.List.{get_or-set_same, get_or-set_other, length-set}
use Rattle.hall_grid.specs.declared.board.Size.{Size}
use Rattle.hall_grid.specs.Board.{Touch}
use Rattle.hall_nurikabe.specs.Steps.{FallsByOne, Raises}

pub Raises-none : (reach : ℕ) (left : List ℕ) → Raises reach left left
Raises-none reach left = record { exact = refl; only = λ c. inl refl }

pub Raises-set : (reach : ℕ) (old cur : List ℕ) (i : ℕ) → i < length cur → get_or cur i 0 < reach → Raises reach old cur
    → Raises reach old (set cur i reach)
Raises-set reach old cur i low less r = record {
  exact = length-set cur i reach ∙ r.exact;
  only = λ c. elim (cases_eq c i) [
    | inl e ↦ elim (r.only i) [
      | inl same ↦ inr (
        (let at : get_or old i 0 < reach = omega arith in subst (λ x. get_or old x 0 < reach) (sym e) at),
        subst (λ x. get_or (set cur i reach) x 0 ≡ reach) (sym e) (get_or-set_same cur i reach 0 low),
      )
      | inr k ↦ absurd (let x = k.1 in omega arith)
    ]
    | inr ne ↦ (
        let at : get_or (set cur i reach) c 0 ≡ get_or cur c 0 = get_or-set_other cur i c reach 0 ne in
        elim (r.only c) [ inl same ↦ inl (at ∙ same) | inr k ↦ inr (k.0, at ∙ k.1) ])
  ];
}

pub Raises-then : (reach : ℕ) (l0 l1 l2 : List ℕ) → Raises reach l0 l1 → Raises reach l1 l2 → Raises reach l0 l2
Raises-then reach l0 l1 l2 p q = record {
  exact = q.exact ∙ p.exact;
  only = λ c. elim (q.only c) [
    | inl same ↦ elim (p.only c) [ inl k ↦ inl (same ∙ k) | inr k ↦ inr (k.0, same ∙ k.1) ]
    | inr k ↦ elim (p.only c) [
      | inl same ↦ inr (let low = k.0 in omega arith, k.1)
      | inr j ↦ absurd (let low = k.0 in let e = j.1 in omega arith)
    ]
  ];
}

pub rises : (reach : ℕ) (old new : List ℕ) (c : ℕ) → Raises reach old new → get_or old c 0 ≤ get_or new c 0
rises reach old new c r = elim (r.only c) [
  | inl same ↦ omega arith
  | inr k ↦
      (let low = k.0 in let e = k.1 in omega arith)
]

-- more than this much was there before
pub unchanged : (reach : ℕ) (old new : List ℕ) (c : ℕ) → Raises reach old new → reach < get_or new c 0
    → get_or new c 0 ≡ get_or old c 0
unchanged reach old new c r more = elim (r.only c) [ inl same ↦ same | inr k ↦ absurd (let e = k.1 in omega arith) ]

pub FallsByOne-raised : (size : Size) (IsMember : ℕ → Type 0) (reach : ℕ) (old new : List ℕ)
    → FallsByOne size IsMember old (reach + 1) → Raises reach old new
    → ((a b : ℕ) → Touch size a b → IsMember b → get_or new a 0 ≡ reach + 1 → reach ≤ get_or new b 0)
    → FallsByOne size IsMember new reach
FallsByOne-raised size IsMember reach old new falls r done a b t mb more =
    let same = unchanged reach old new a r more in
    let up = rises reach old new b r in
    elim (cases_eq (get_or new a 0) (reach + 1)) [
      | inl e ↦ (let k = done a b t mb e in omega arith)
      | inr ne ↦ (let k = falls a b t mb (omega arith) in omega arith)
    ]
