-- The ends of chains, dot by dot.
use Rattle.std.proofs.Common.{◌≡◌, ℕ, zero, suc, ◌+◌, ◌<◌, ◌≤◌, ◌∙◌, true, List, length, get_or, set, replicate, Option}
use Rattle.std.proofs.Common.{Some, None, refl, sym, ap, subst, inl, inr, arith}
use Rattle.std.specs.Prelude.{IfSome}
use Rattle.std.proofs.lemmas.Bool.{cases_eq}
use Rattle.std.proofs.lemmas.List.{length-set, get_or-set_same, get_or-set_other, length-replicate}
use Rattle.hall_grid.specs.declared.board.Size.{Size}
use Rattle.hall_grid.specs.Walk.{at, on}
use Rattle.hall_grid.specs.Slither.{all_sides, IsLine, ShareDot, is_end, degree}
use Rattle.hall_grid.specs.Component.{IsLabelled, AreComponents}
use Rattle.hall_grid.proofs.AreComponents.{label_member, labelled_member}
use Rattle.hall_slither.specs.Chain.{IsEndOf, with_end, Touches, HaveEnds}
use Rattle.hall_slither.specs.declared.chain.Ends.{Ends}
use Rattle.hall_slither.specs.declared.chain.Ends.TheVariants.{Closed, One, Two, Many}
use Rattle.hall_slither.proofs.CountBelow.{count_by-numbers, count_below-one}
use Rattle.hall_slither.proofs.LineEnd.{line_end, line_end_from}

-- an end stays one, and the new one is one
with_old : (e : Ends) (d x : ℕ) → IsEndOf e x → IsEndOf (with_end e d) x
with_old Closed d x h = absurd h
with_old (One a) d x h = inl h
with_old (Two a b) d x h = tt
with_old Many d x h = tt

with_new : (e : Ends) (d : ℕ) → IsEndOf (with_end e d) d
with_new Closed d = refl
with_new (One a) d = inr refl
with_new (Two a b) d = tt
with_new Many d = tt

with_one : (e : Ends) (d a : ℕ) → with_end e d ≡ One a → d ≡ a
with_one Closed d a h = cc
with_one (One b) d a h = absurd (cc)
with_one (Two b c) d a h = absurd (cc)
with_one Many d a h = absurd (cc)

with_two : (e : Ends) (d a b : ℕ) → with_end e d ≡ Two a b → (e ≡ One a) × (d ≡ b)
with_two Closed d a b h = absurd (cc)
with_two (One c) d a b h = (let s : c ≡ a = cc in ap One s, cc)
with_two (Two c e) d a b h = absurd (cc)
with_two Many d a b h = absurd (cc)

none_yet : (n label : ℕ) → get_or (replicate n Closed) label Closed ≡ Closed
none_yet zero label = refl
none_yet (suc n) zero = refl
none_yet (suc n) (suc label) = none_yet n label

module _ (size : Size) (lines : List ℕ) (labels : List (Option ℕ))
    (are : AreComponents (all_sides size) (ShareDot size) (IsLine size lines) labels) where
  pub HaveEnds-none : (ends : List Ends) → ends ≡ replicate (length labels) Closed → HaveEnds size lines labels 0 ends
  HaveEnds-none ends e = subst (HaveEnds size lines labels 0) (sym e) record {
    exact = length-replicate (length labels) Closed;
    loose = λ label d h t. absurd (omega arith);
    first = λ label a h. absurd (let z = none_yet (length labels) label in cc);
    both = λ label a b h. absurd (let z = none_yet (length labels) label in cc);
  }

  -- a dot that a chain touches has a line
  pub touched_once : (label d : ℕ) → Touches size labels label d → 1 ≤ degree size lines d
  touched_once label d t =
      let member = labelled_member (all_sides size) (ShareDot size) (IsLine size lines) labels are t.0 label t.1 in
      let one = count_below-one (line_end size lines d) (all_sides size) t.0 member.0
      (line_end_from size lines d t.0 member.1 t.2) in
      let e = count_by-numbers (line_end size lines d) (all_sides size) in
      omega arith

  -- the next dot is no loose end
  pub HaveEnds-next : (n : ℕ) (ends : List Ends) → HaveEnds size lines labels n ends
      → ((label : ℕ) → Touches size labels label n → 2 ≤ degree size lines n)
      → HaveEnds size lines labels (n + 1) ends
  HaveEnds-next n ends have here = record {
    exact = have.exact;
    loose = λ label d low t. elim (cases_eq d n) [
      | inl e ↦ inl (subst (λ d. 2 ≤ degree size lines d) (sym e) (here label (subst (Touches size labels label) e t)))
      | inr ne ↦ have.loose label d (omega arith) t
    ];
    first = have.first;
    both = have.both;
  }

  -- chains that touch at a dot are one
  same_chain : (a b label other d : ℕ) → IsLabelled labels a label → IsLabelled labels b other → is_end size d a ≡ true
      → is_end size d b ≡ true → label ≡ other
  same_chain a b label other d la lb ea eb =
      let ma = labelled_member (all_sides size) (ShareDot size) (IsLine size lines) labels are a label la in
      let mb = labelled_member (all_sides size) (ShareDot size) (IsLine size lines) labels are b other lb in
      let there = are.shared a b label (on (at ma) (d, ea, eb) mb) la in
      (cc)

  -- the next dot is an end of the chain of this line
  pub HaveEnds-end : (n side label : ℕ) (ends : List Ends) → HaveEnds size lines labels n ends
      → IsLabelled labels side label → is_end size n side ≡ true
      → label < length ends → HaveEnds size lines labels (n + 1)
      (set ends label (with_end (get_or ends label Closed) n))
  HaveEnds-end n side label ends have is at_n low =
      let new = set ends label (with_end (get_or ends label Closed) n) in
      let same = get_or-set_same ends label (with_end (get_or ends label Closed) n) Closed low in
      let touch : Touches size labels label n = (side, is, at_n) in
      record {
        exact = length-set ends label (with_end (get_or ends label Closed) n) ∙ have.exact;
        loose = λ l d lim t. elim (cases_eq d n) [
          | inl e ↦
              let sl : label ≡ l = same_chain side t.0 label l n is t.1 at_n
              (subst (λ d. is_end size d t.0 ≡ true) e t.2) in
              inr (subst (λ l. IsEndOf (get_or new l Closed) d) sl
              (subst (λ x. IsEndOf x d) (sym same) (subst (λ d. IsEndOf (with_end (get_or ends label Closed) n) d)
              (sym e) (with_new (get_or ends label Closed) n))))
          | inr ne ↦ elim (have.loose l d (omega arith) t) [
            | inl two ↦ inl two
            | inr end ↦ inr (elim (cases_eq l label) [
              | inl sl ↦ subst (λ l. IsEndOf (get_or new l Closed) d) (sym sl)
                  (subst (λ x. IsEndOf x d) (sym same) (with_old (get_or ends label Closed) n d
                  (subst (λ l. IsEndOf (get_or ends l Closed) d) sl end)))
              | inr other ↦ subst (λ x. IsEndOf x d) (sym (get_or-set_other ends label l
                  (with_end (get_or ends label Closed) n) Closed other)) end
            ])
          ]
        ];
        first = λ l a e. elim (cases_eq l label) [
          | inl sl ↦
              let here : with_end (get_or ends label Closed) n ≡ One a = sym same
              ∙ subst (λ l. get_or new l Closed ≡ One a) sl e in
              let na : n ≡ a = with_one (get_or ends label Closed) n a here in
              subst (λ l. Touches size labels l a) (sym sl) (subst (Touches size labels label) na touch)
          | inr other ↦ have.first l a (sym (get_or-set_other ends label l (with_end (get_or ends label Closed) n)
              Closed other) ∙ e)
        ];
        both = λ l a b e. elim (cases_eq l label) [
          | inl sl ↦
              let here : with_end (get_or ends label Closed) n ≡ Two a b = sym same
              ∙ subst (λ l. get_or new l Closed ≡ Two a b) sl e in
              let w = with_two (get_or ends label Closed) n a b here in (
                subst (λ l. Touches size labels l a) (sym sl) (have.first label a w.0),
                subst
                    (λ l. Touches size labels l b) (sym sl) (subst (Touches size labels label) w.1 touch),
              )
          | inr other ↦ have.both l a b (sym (get_or-set_other ends label l (with_end (get_or ends label Closed) n)
              Closed other) ∙ e)
        ];
      }

  -- the label of a line is that of a chain at the line's ends
  pub label_touches : (side d : ℕ) (label : Option ℕ) → get_or labels side None ≡ label → is_end size d side ≡ true
      → IfSome label (λ l. (l < length labels) × Touches size labels l d)
  label_touches side d None e at_d = tt
  label_touches side d (Some label) e at_d =
      let member = label_member (all_sides size) (ShareDot size) (IsLine size lines) labels are side label e in
      (let exact = are.exact in let low = member.0 in omega arith, (side, e, at_d))
