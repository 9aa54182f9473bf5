-- The keys' orders are total, and keys that tie are one.
use Rattle.std.proofs.Common.{◌≡◌, refl}
use Rattle.std.specs.Cmp.{IsTotalOrder}
use Rattle.std.specs.Cmp.Lexicographic.{nat_list_cmp_total}
use Rattle.std.specs.Ordering.{nat_cmp, ordering_then}
use Rattle.std.specs.declared.cmp.Ordering.{Ordering}
use Rattle.std.specs.declared.cmp.Ordering.TheVariants.{Less, Equal, Greater}
use Rattle.std.specs.FinMap.{IsAntisymmetric, nat_cmp-IsAntisymmetric, slice_cmp-IsAntisymmetric}
use Rattle.std.proofs.lemmas.Cmp.{then_total, on_total, nat_cmp_total}
use Rattle.hall_policy.specs.Text.{text_cmp}
use Rattle.hall_policy.specs.World.{puzzle_cmp, place_cmp, tester_cmp, answer_cmp, protest_cmp}

pub text_total : IsTotalOrder text_cmp
text_total = nat_list_cmp_total

pub puzzle_total : IsTotalOrder puzzle_cmp
puzzle_total = then_total (on_total (λ k. k.author) text_total) (on_total (λ k. k.label) text_total)

pub place_total : IsTotalOrder place_cmp
place_total = then_total (on_total (λ k. k.round) text_total) (on_total (λ k. k.number) nat_cmp_total)

pub tester_total : IsTotalOrder tester_cmp
tester_total = then_total (on_total (λ k. k.round) text_total) (on_total (λ k. k.name) text_total)

pub answer_total : IsTotalOrder answer_cmp
answer_total =
    then_total (on_total (λ k. k.entrant) text_total)
    (then_total (on_total (λ k. k.round) text_total) (then_total (on_total (λ k. k.number) nat_cmp_total)
    (on_total (λ k. k.token) text_total)))

pub protest_total : IsTotalOrder protest_cmp
protest_total =
    then_total (on_total (λ k. k.entrant) text_total) (then_total (on_total (λ k. k.round) text_total)
    (on_total (λ k. k.token) text_total))

-- texts, and numbers, that tie are one
pub same_texts : IsAntisymmetric text_cmp
same_texts = slice_cmp-IsAntisymmetric nat_cmp-IsAntisymmetric

-- a tie of two orders in turn is a tie of each
pub tied_then : (a b : Ordering) → ordering_then a b ≡ Equal → (a ≡ Equal) × (b ≡ Equal)
tied_then Less b e = let no : Less ≡ Equal = e in cc
tied_then Equal b e = (refl, e)
tied_then Greater b e = let no : Greater ≡ Equal = e in cc

pub same_puzzle_keys : IsAntisymmetric puzzle_cmp
same_puzzle_keys a b e =
    let t = tied_then (text_cmp a.author b.author) (text_cmp a.label b.label) e in
    let author : a.author ≡ b.author = same_texts a.author b.author t.0 in
    let label : a.label ≡ b.label = same_texts a.label b.label t.1 in
    λ i. record { author = author i; label = label i }

pub same_place_keys : IsAntisymmetric place_cmp
same_place_keys a b e =
    let t = tied_then (text_cmp a.round b.round) (nat_cmp a.number b.number) e in
    let round : a.round ≡ b.round = same_texts a.round b.round t.0 in
    let number : a.number ≡ b.number = nat_cmp-IsAntisymmetric a.number b.number t.1 in
    λ i. record { round = round i; number = number i }

pub same_tester_keys : IsAntisymmetric tester_cmp
same_tester_keys a b e =
    let t = tied_then (text_cmp a.round b.round) (text_cmp a.name b.name) e in
    let round : a.round ≡ b.round = same_texts a.round b.round t.0 in
    let name : a.name ≡ b.name = same_texts a.name b.name t.1 in
    λ i. record { round = round i; name = name i }

pub same_answer_keys : IsAntisymmetric answer_cmp
same_answer_keys a b e =
    let t = tied_then (text_cmp a.entrant b.entrant) (ordering_then (text_cmp a.round b.round)
    (ordering_then (nat_cmp a.number b.number) (text_cmp a.token b.token))) e in
    let u = tied_then (text_cmp a.round b.round) (ordering_then (nat_cmp a.number b.number) (text_cmp a.token b.token))
    t.1 in
    let v = tied_then (nat_cmp a.number b.number) (text_cmp a.token b.token) u.1 in
    let entrant : a.entrant ≡ b.entrant = same_texts a.entrant b.entrant t.0 in
    let round : a.round ≡ b.round = same_texts a.round b.round u.0 in
    let number : a.number ≡ b.number = nat_cmp-IsAntisymmetric a.number b.number v.0 in
    let token : a.token ≡ b.token = same_texts a.token b.token v.1 in
    λ i. record { entrant = entrant i; round = round i; number = number i; token = token i }

pub same_protest_keys : IsAntisymmetric protest_cmp
same_protest_keys a b e =
    let t = tied_then (text_cmp a.entrant b.entrant) (ordering_then (text_cmp a.round b.round)
    (text_cmp a.token b.token)) e in
    let u = tied_then (text_cmp a.round b.round) (text_cmp a.token b.token) t.1 in
    let entrant : a.entrant ≡ b.entrant = same_texts a.entrant b.entrant t.0 in
    let round : a.round ≡ b.round = same_texts a.round b.round u.0 in
    let token : a.token ≡ b.token = same_texts a.token b.token u.1 in
    λ i. record { entrant = entrant i; round = round i; token = token i }
