-- Counts by keys, and what the sentences of a sane world count.
use Rattle.std.proofs.Common.{◌≡◌, ◌↔◌, ◌≤◌, ◌==◌, ◌&&◌, ℕ, Bool, true, false, List, IsTrue, inl, inr, sym, ap, ◌∙◌}
use Rattle.std.proofs.Common.{arith}
use Rattle.std.proofs.Math.Bool.{and_assoc}
use Rattle.std.proofs.Math.Dec.{leb}
use Rattle.std.proofs.lemmas.Bool.Decides.{leb_tells}
use Rattle.std.proofs.lemmas.Cmp.{nat_cmp_total}
use Rattle.std.specs.Cmp.{unsigned_Decides}
use Rattle.std.specs.FinMap.{nat_cmp-IsAntisymmetric}
use Rattle.std.specs.List.{count_by}
use Rattle.std.specs.Ordering.{is_eq, nat_cmp, ordering_then}
use Rattle.std.specs.declared.cmp.Ordering.{Ordering}
use Rattle.std.specs.declared.cmp.Ordering.TheVariants.{Less, Equal, Greater}
use Rattle.hall_policy.specs.Text.{text_cmp}
use Rattle.hall_policy.specs.World.{same_text}
use Rattle.hall_policy.specs.declared.record.AnswerRow.{AnswerRow}
use Rattle.hall_policy.specs.declared.record.ProtestRow.{ProtestRow}
use Rattle.hall_policy.proofs.Orders.{text_total, same_texts}
use Rattle.hall_policy.proofs.Texts.{text_decides}
use Rattle.hall_check.specs.Groups.{to_puzzle_cmp, with_number_cmp, in_round, in_round_cmp}
use Rattle.hall_check.specs.Sentences.{is_numbered_alike}
use Rattle.hall_check.specs.Tally.{IsTally, counted_of}
use Rattle.hall_check.proofs.Scans.{tied}

-- a count by a test that answers alike, among rows that are the same
pub same_count : {X : Type 0} {rows kept : List X} (p q : X → Bool) → ((x : X) → p x ≡ q x) → kept ≡ rows
    → count_by p rows ≡ count_by q kept
same_count {rows} p q alike same = ap (λ f. count_by f rows) (λ i x. alike x i) ∙ ap (count_by q) (sym same)

-- what was counted of a key is the count of those that tie with it
pub counted_alike : {K X : Type 0} {rows kept : List X} (counts : List (K × ℕ)) (R : K → K → Ordering) (key_of : X → K)
    (p : X → Bool) (key : K) →
    ((x : X) → is_eq (R key (key_of x)) ≡ p x) → IsTally R key_of rows counts → kept ≡ rows
    → counted_of R counts key ≡ count_by p kept
counted_alike counts R key_of p key ties tally same = tally key ∙ same_count (λ x. is_eq (R key (key_of x))) p ties same

-- whether a count is at most so much, or at least
pub at_most : (told n most : ℕ) → told ≡ n → IsTrue (leb told most) ↔ (n ≤ most)
at_most told n most e = elim (leb_tells told most) [
  | inl (on, low) ↦ ((λ _. omega (arith, e, low)), (λ _. on))
  | inr (off, high) ↦ (
    (λ t. let f : false ≡ true = sym off ∙ t in absurd (cc)),
    (λ low. absurd (omega (arith, e, high, low))),
  )
]

pub at_least : (least own told n : ℕ) → own ≡ least → told ≡ n → IsTrue (leb own told) ↔ (least ≤ n)
at_least least own told n is e = elim (leb_tells own told) [
  | inl (on, low) ↦ ((λ _. omega (arith, e, is, low)), (λ _. on))
  | inr (off, high) ↦ (
    (λ t. let f : false ≡ true = sym off ∙ t in absurd (cc)),
    (λ low. absurd (omega (arith, e, is, high, low))),
  )
]

-- texts and numbers tie where they are one
pub tied_text : (q a : List ℕ) → is_eq (text_cmp q a) ≡ same_text a q
tied_text q a = tied text_total same_texts a q (same_text a q) (text_decides a q)

tied_number : (q a : ℕ) → is_eq (nat_cmp q a) ≡ (a == q)
tied_number q a = tied nat_cmp_total nat_cmp-IsAntisymmetric a q (a == q) (unsigned_Decides a q)

tied_both : (a b : Ordering) (p q : Bool) → is_eq a ≡ p → is_eq b ≡ q → is_eq (ordering_then a b) ≡ (p && q)
tied_both Less b p q e f = ap (λ x. x && q) e
tied_both Equal b p q e f = f ∙ ap (λ x. x && q) e
tied_both Greater b p q e f = ap (λ x. x && q) e

-- the tests by which answers and protests are counted
pub tied_puzzle : (row other : AnswerRow) → is_eq (to_puzzle_cmp row other) ≡
    (same_text other.key.entrant row.key.entrant && (same_text other.key.round row.key.round &&
    (other.key.number == row.key.number)))
tied_puzzle row other =
    tied_both _ _ _ _ (tied_text row.key.entrant other.key.entrant)
    (tied_both _ _ _ _ (tied_text row.key.round other.key.round) (tied_number row.key.number other.key.number))

pub tied_numbers : (row other : AnswerRow) → is_eq (with_number_cmp row other) ≡ is_numbered_alike row other
tied_numbers row other =
    let entrant = same_text other.key.entrant row.key.entrant in
    let round = same_text other.key.round row.key.round in
    tied_both _ _ _ _ (tied_puzzle row other) (tied_number row.n other.n)
    ∙ and_assoc entrant (round && (other.key.number == row.key.number)) (other.n == row.n)
    ∙ ap (λ b. entrant && b) (and_assoc round (other.key.number == row.key.number) (other.n == row.n))

pub tied_rounds : (row other : ProtestRow) → is_eq (in_round_cmp (in_round row) (in_round other)) ≡
    (same_text other.key.entrant row.key.entrant && same_text other.key.round row.key.round)
tied_rounds row other = tied_both _ _ _ _ (tied_text row.key.entrant other.key.entrant)
    (tied_text row.key.round other.key.round)
