-- From facts that are true up to a rule to what one rule reads, and to fewer rules.
use Rattle.std.proofs.Common.{◌≡◌, ℕ, zero, suc, ◌<◌, ◌≤◌, Bool, true, false, ◌&&◌, nat_le, nat_lt, List, [], ◌∷◌, drop}
use Rattle.std.proofs.Common.{Some, None, Contains, slice_get, arith, refl, sym, ap, subst, ◌∙◌}
use Rattle.std.specs.List.{AllByRecursion, list_all}
use borrow.Author.Tests.{leb-true, lt-leb, ltb-true}
use Rattle.std.proofs.lemmas.Option.{slice_get-get_or}
use Rattle.std.proofs.lemmas.Bool.Decides.{nat_tests}
use Rattle.hall_policy.specs.World.{World}
use Rattle.hall_policy.specs.Actions.{number_of, rules_asked}
use Rattle.hall_policy.specs.Facts.{Where, Tells, TrueUpTo}
use Rattle.hall_policy.specs.declared.rule.Rule.{Rule}
use Rattle.hall_policy.specs.declared.request.Action.{Action}
use Rattle.hall_policy.specs.declared.facts.Facts.{Facts}

where_true : (b : Bool) (P : Type 0) → Where b P → b ≡ true → P
where_true true P h e = h
where_true false P h e = cc

where_less : (b c : Bool) (P : Type 0) → (c ≡ true → b ≡ true) → Where b P → Where c P
where_less b true P i h = where_true b P h (i refl)
where_less b false P i h = tt

passes_test : (a b : ℕ) → a ≤ b → nat_le a b ≡ true
passes_test a b l = grind (arith, nat_tests)

greater_passes : (a m n : ℕ) → m ≤ n → nat_le a m ≡ true → nat_le a n ≡ true
greater_passes a m n l e = grind (arith, nat_tests)

told_at : (n : ℕ) (facts : Facts) (world : World) (action : Action) (rules : List Rule) (k : ℕ) (r : Rule) →
    AllByRecursion (λ x. Where (nat_le (number_of x) n) (Tells x facts world action)) rules →
    slice_get rules k ≡ Some r → number_of r ≤ n → Tells r facts world action
told_at n facts world action [] k r h e l = absurd (let no : None ≡ Some r = e in cc)
told_at n facts world action (x ∷ rules) zero r h e l =
    let same : x ≡ r = cc in
    where_true (nat_le (number_of r) n) (Tells r facts world action)
    (subst (λ (y : Rule). Where (nat_le (number_of y) n) (Tells y facts world action)) same h.0)
    (passes_test (number_of r) n l)
told_at n facts world action (x ∷ rules) (suc k) r h e l = told_at n facts world action rules k r h.1 e l

-- what a rule reads that is asked, and has no greater number
pub told_by : (n : ℕ) (facts : Facts) (world : World) (action : Action) → TrueUpTo n facts world action →
    (r : Rule) → Contains (rules_asked action) r → number_of r ≤ n → Tells r facts world action
told_by n facts world action told r among l =
    told_at n facts world action (rules_asked action) among.0 r told
    (slice_get-get_or (rules_asked action) among.0 r among.1 ∙ ap Some among.2) l

less_of : (m n : ℕ) (facts : Facts) (world : World) (action : Action) (rules : List Rule) → m ≤ n →
    AllByRecursion (λ x. Where (nat_le (number_of x) n) (Tells x facts world action)) rules →
    AllByRecursion (λ x. Where (nat_le (number_of x) m) (Tells x facts world action)) rules
less_of m n facts world action [] l h = tt
less_of m n facts world action (x ∷ rules) l h = (
  where_less (nat_le (number_of x) n) (nat_le (number_of x) m) (Tells x facts world action)
      (greater_passes (number_of x) m n l) h.0,
  less_of m n facts world action rules l h.1,
)

-- facts that are true up to a rule are so up to an earlier one
pub true_up_to_less : (m n : ℕ) (facts : Facts) (world : World) (action : Action) → m ≤ n
    → TrueUpTo n facts world action → TrueUpTo m facts world action
true_up_to_less m n facts world action l told = less_of m n facts world action (rules_asked action) l told

-- the facts are true up to a rule where each of the rules asked up to there is told what it reads
pub told_of : (n : ℕ) (facts : Facts) (world : World) (action : Action) (rules : List Rule)
    → ((r : Rule) → number_of r ≤ n → Tells r facts world action)
    → AllByRecursion (λ r. Where (nat_le (number_of r) n) (Tells r facts world action)) rules
told_of n facts world action [] tells = tt
told_of n facts world action (r ∷ rules) tells = (
  elim (nat_le (number_of r) n) as (λ b. nat_le (number_of r) n ≡ b → Where b (Tells r facts world action)) [
    | true ↦ λ small. tells r (leb-true _ _ small)
    | false ↦ λ large. tt
  ] refl,
  told_of n facts world action rules tells,
)

pub and_first : (a b : Bool) → (a && b) ≡ true → a ≡ true
and_first true b h = refl
and_first false b h = h

pub and_second : (a b : Bool) → (a && b) ≡ true → b ≡ true
and_second true b h = h
and_second false b h = cc

none_told : (n : ℕ) (facts : Facts) (world : World) (action : Action) (rules : List Rule)
    → list_all (λ r. nat_lt n (number_of r)) rules ≡ true
    → AllByRecursion (λ r. Where (nat_le (number_of r) n) (Tells r facts world action)) rules
none_told n facts world action [] above = tt
none_told n facts world action (r ∷ rules) above =
    let large : n < number_of r = ltb-true _ _ (and_first (nat_lt n (number_of r))
    (list_all (λ later. nat_lt n (number_of later)) rules) above) in (
      subst (λ (b : Bool). Where b (Tells r facts world action)) (sym (lt-leb (number_of r) n large)) tt,
      none_told n facts world action rules (and_second (nat_lt n (number_of r))
          (list_all (λ later. nat_lt n (number_of later)) rules) above),
    )

-- of the rules from a place on, which have greater numbers, nothing is read
pub untold : (n place : ℕ) (facts : Facts) (world : World) (action : Action)
    → list_all (λ r. nat_lt n (number_of r)) (drop place (rules_asked action)) ≡ true
    → AllByRecursion (λ r. Where (nat_le (number_of r) n) (Tells r facts world action))
    (drop place (rules_asked action))
untold n place facts world action above = none_told n facts world action (drop place (rules_asked action)) above
