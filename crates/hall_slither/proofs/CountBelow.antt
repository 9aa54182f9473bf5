-- Counts over the numbers below n.
use Rattle.std.proofs.Common.{◌≡◌, ℕ, zero, suc, ◌+◌, ◌<◌, ◌≤◌, Bool, true, false, ◌&&◌, ◌||◌, cond, Option, Some, None}
use Rattle.std.proofs.Common.{refl, sym, ap, ◌∙◌, subst, inl, inr, arith}
use Rattle.std.specs.Prelude.{count_by, ◌==◌, IfSome}
use Rattle.std.proofs.lemmas.List.Sums.{sum_by-cons}
use Rattle.std.proofs.lemmas.Bool.{cases_eq, eq-eqb, ne_eqb, and_right}
use Rattle.hall_grid.specs.Slither.{numbers}
use Rattle.hall_slither.specs.Dot.{count_at}

abbrev pub worth : Bool → ℕ
worth b = cond b 1 0

-- how many numbers below n pass
abbrev pub count_below : (ℕ → Bool) → ℕ → ℕ
count_below p zero = 0
count_below p (suc n) = worth (p n) + count_below p n

pub count_by-numbers : (p : ℕ → Bool) (n : ℕ) → count_by p (numbers n) ≡ count_below p n
count_by-numbers p zero = refl
count_by-numbers p (suc n) = sum_by-cons (λ x. cond (p x) 1 0) n (numbers n)
    ∙ ap (λ k. cond (p n) 1 0 + k) (count_by-numbers p n)

-- whether the option has this number
abbrev pub hits : Option ℕ → ℕ → Bool
hits None s = false
hits (Some a) s = a == s

split_one : (p a b : Bool) → p ≡ (a || b) → (a ≡ true → b ≡ true → ⊥) → cond p 1 0 ≡ cond a 1 0 + cond b 1 0
split_one p true true e h = absurd (h refl refl)
split_one p true false e h = ap (λ b. cond b 1 0) e
split_one p false true e h = ap (λ b. cond b 1 0) e
split_one p false false e h = ap (λ b. cond b 1 0) e

-- a test that passes where one of two others does, and no number passes both
pub count_below-or : (p a b : ℕ → Bool) (n : ℕ) → ((s : ℕ) → s < n → p s ≡ (a s || b s))
    → ((s : ℕ) → s < n → a s ≡ true → b s ≡ true → ⊥)
    → count_below p n ≡ count_below a n + count_below b n
count_below-or p a b zero e h = refl
count_below-or p a b (suc n) e h =
    let here = split_one (p n) (a n) (b n) (e n (omega arith)) (h n (omega arith)) in
    let rest = count_below-or p a b n (λ s l. e s (omega arith)) (λ s l. h s (omega arith)) in
    omega arith

pub count_below-same : (p q : ℕ → Bool) (n : ℕ) → ((s : ℕ) → s < n → p s ≡ q s) → count_below p n ≡ count_below q n
count_below-same p q zero e = refl
count_below-same p q (suc n) e =
    let here : worth (p n) ≡ worth (q n) = ap worth (e n (omega arith)) in
    let rest = count_below-same p q n (λ s l. e s (omega arith)) in
    omega arith

pub count_below-none : (p : ℕ → Bool) (n : ℕ) → ((s : ℕ) → s < n → p s ≡ false) → count_below p n ≡ 0
count_below-none p zero e = refl
count_below-none p (suc n) e =
    let here : worth (p n) ≡ 0 = ap worth (e n (omega arith)) in
    let rest = count_below-none p n (λ s l. e s (omega arith)) in
    omega arith

and_true : (b : Bool) → worth (b && true) ≡ worth b
and_true true = refl
and_true false = refl

-- the number that an option has, where it passes
pub count_below-hits : (p : ℕ → Bool) (o : Option ℕ) (n : ℕ) → IfSome o (λ a. a < n)
    → count_below (λ s. p s && hits o s) n ≡ count_at p o
count_below-hits p None n h = count_below-none (λ s. p s && false) n (λ s l. and_right (p s) false refl)
count_below-hits p (Some a) zero h = absurd (omega arith)
count_below-hits p (Some a) (suc n) h =
    elim (cases_eq a n) [
      | inl e ↦
          let none = count_below-none (λ s. p s && (a == s)) n
          (λ s l. and_right (p s) (a == s) (ne_eqb a s (λ k. omega arith))) in
          let here : worth (p n && (a == n)) ≡ worth (p a) = rw (eq-eqb a n e)
          (subst (λ m. worth (p m && true) ≡ worth (p a)) e (and_true (p a))) in
          omega arith
      | inr ne ↦
          let rest = count_below-hits p (Some a) n (omega arith) in
          let here : worth (p n && (a == n)) ≡ 0 = ap worth (and_right (p n) (a == n) (ne_eqb a n ne)) in
          omega arith
    ]

worth-le : (p q : Bool) → (p ≡ true → q ≡ true) → worth p ≤ worth q
worth-le true q h = subst (λ q. 1 ≤ worth q) (sym (h refl)) (omega arith)
worth-le false q h = omega arith

-- a test that passes less often counts less
pub count_below-le : (p q : ℕ → Bool) (n : ℕ) → ((s : ℕ) → s < n → p s ≡ true → q s ≡ true)
    → count_below p n ≤ count_below q n
count_below-le p q zero h = omega arith
count_below-le p q (suc n) h =
    let here = worth-le (p n) (q n) (h n (omega arith)) in
    let rest = count_below-le p q n (λ s l. h s (omega arith)) in
    omega arith

worth-true : (p q : Bool) → worth q ≤ worth p → q ≡ true → p ≡ true
worth-true true q h e = refl
worth-true false true h e = absurd (omega arith)
worth-true false false h e = e

-- a test that passes no more often than one that it implies is the same
pub count_below-full : (p q : ℕ → Bool) (n y : ℕ) → ((s : ℕ) → s < n → p s ≡ true → q s ≡ true)
    → count_below q n ≤ count_below p n → y < n → q y ≡ true → p y ≡ true
count_below-full p q zero y h le low e = absurd (omega arith)
count_below-full p q (suc n) y h le low e =
    let here = worth-le (p n) (q n) (h n (omega arith)) in
    let rest = count_below-le p q n (λ s l. h s (omega arith)) in
    elim (cases_eq y n) [
      | inl is ↦ subst (λ k. p k ≡ true) (sym is) (worth-true (p n) (q n) (omega arith) (subst (λ k. q k ≡ true) is e))
      | inr not_n ↦ count_below-full p q n y (λ s l. h s (omega arith)) (omega arith) (omega arith) e
    ]

worth-one : (p : Bool) → p ≡ true → worth p ≡ 1
worth-one p e = ap worth e

-- one passes; two pass
pub count_below-one : (p : ℕ → Bool) (n x : ℕ) → x < n → p x ≡ true → 1 ≤ count_below p n
count_below-one p zero x low e = absurd (omega arith)
count_below-one p (suc n) x low e =
    elim (cases_eq x n) [
      | inl is ↦ let here = worth-one (p n) (subst (λ k. p k ≡ true) is e) in omega arith
      | inr not_n ↦ let rest = count_below-one p n x (omega arith) e in omega arith
    ]

pub count_below-two : (p : ℕ → Bool) (n x y : ℕ) → x < n → y < n → (x ≡ y → ⊥) → p x ≡ true → p y ≡ true
    → 2 ≤ count_below p n
count_below-two p zero x y lx ly ne e f = absurd (omega arith)
count_below-two p (suc n) x y lx ly ne e f =
    elim (cases_eq x n) [
      | inl is ↦
          let here = worth-one (p n) (subst (λ k. p k ≡ true) is e) in
          let rest = count_below-one p n y (omega arith) f in
          omega arith
      | inr not_x ↦ elim (cases_eq y n) [
        | inl is ↦
            let here = worth-one (p n) (subst (λ k. p k ≡ true) is f) in
            let rest = count_below-one p n x (omega arith) e in
            omega arith
        | inr not_y ↦ let rest = count_below-two p n x y (omega arith) (omega arith) ne e f in omega arith
      ]
    ]

pub count_below-three : (p : ℕ → Bool) (n x y z : ℕ) → x < n → y < n → z < n → (x ≡ y → ⊥) → (x ≡ z → ⊥) → (y ≡ z → ⊥)
    → p x ≡ true → p y ≡ true → p z ≡ true
    → 3 ≤ count_below p n
count_below-three p zero x y z lx ly lz xy xz yz e f g = absurd (omega arith)
count_below-three p (suc n) x y z lx ly lz xy xz yz e f g =
    elim (cases_eq x n) [
      | inl is ↦
          let here = worth-one (p n) (subst (λ k. p k ≡ true) is e) in
          let rest = count_below-two p n y z (omega arith) (omega arith) yz f g in
          omega arith
      | inr not_x ↦ elim (cases_eq y n) [
        | inl is ↦
            let here = worth-one (p n) (subst (λ k. p k ≡ true) is f) in
            let rest = count_below-two p n x z (omega arith) (omega arith) xz e g in
            omega arith
        | inr not_y ↦ elim (cases_eq z n) [
          | inl is ↦
              let here = worth-one (p n) (subst (λ k. p k ≡ true) is g) in
              let rest = count_below-two p n x y (omega arith) (omega arith) xy e f in
              omega arith
          | inr not_z ↦ let rest = count_below-three p n x y z (omega arith) (omega arith) (omega arith) xy xz yz e f
              g in omega arith
        ]
      ]
    ]
