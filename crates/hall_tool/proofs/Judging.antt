-- What is read of an input decides its line.
use Rattle.std.proofs.Common.{ℕ, ◌<◌, List, length, take, Option, Some, None, refl, subst, inl, inr, arith}
use Rattle.std.proofs.lemmas.List.{take_all, length-take}
use Rattle.std.proofs.lemmas.Bool.{cases_lt}
use Rattle.hall_tool.specs.Input.{IsFront, IsInput}
use Rattle.hall_tool.specs.JudgeText.{JudgeText}
use Rattle.hall_tool.specs.SolveText.{SolveText}

-- the first 8,193 bytes of an input decide what may be written for it
abbrev pub FrontDecides : (List ℕ → List ℕ → ℕ → Type 0) → Type 0
FrontDecides Writes = (all line : List ℕ) (status : ℕ) → Writes (take 8193 all) line status → Writes all line status

by_length : (Writes : List ℕ → List ℕ → ℕ → Type 0)
    → ((all line : List ℕ) (status : ℕ) → 8192 < length all → Writes (take 8193 all) line status
    → Writes all line status) → FrontDecides Writes
by_length Writes long all line status w =
    elim (cases_lt 8192 (length all)) [
      | inl h ↦ long all line status h w
      | inr few ↦ subst (λ input. Writes input line status) (take_all 8193 all (omega arith)) w
    ]

long_judged : (all line : List ℕ) (status : ℕ) → 8192 < length all → JudgeText (take 8193 all) line status
    → JudgeText all line status
long_judged all line status long (inl j) = let few = j.2.0 in absurd (omega (arith, length-take 8193 all))
long_judged all line status long (inr j) = inr (λ text answer two. (let few = two.0 in omega arith), j.1, j.2)

pub judged_by_front : FrontDecides JudgeText
judged_by_front = by_length JudgeText long_judged

long_solved : (budget : ℕ) (all line : List ℕ) (status : ℕ) → 8192 < length all
    → SolveText (take 8193 all) budget line status → SolveText all budget line status
long_solved budget all line status long (inl j) = let few = j.1.0 in absurd (omega (arith, length-take 8193 all))
long_solved budget all line status long (inr j) = inr (λ text one. (let few = one.0 in omega arith), j.1, j.2)

pub solved_by_front : (budget : ℕ) → FrontDecides (λ input line status. SolveText input budget line status)
solved_by_front budget = by_length (λ input line status. SolveText input budget line status) (long_solved budget)

pub known_decides : (Writes : List ℕ → List ℕ → ℕ → Type 0) → FrontDecides Writes
    → (known : Option (List ℕ)) (input line : List ℕ) (status : ℕ) (P : List ℕ → Type 0)
    → IsFront 8193 known input → Writes input line status → P line
    → (input : List ℕ) × (line : List ℕ) × IsInput known input × Writes input line status × P line
known_decides Writes decides None input line status P front w p = (input, line, tt, w, p)
known_decides Writes decides (Some all) input line status P front w p =
    (all, line, refl, decides all line status (subst (λ input. Writes input line status) front w), p)

-- the same, with the status told
pub known_tells : (Writes : List ℕ → List ℕ → ℕ → Type 0) → FrontDecides Writes
    → (known : Option (List ℕ)) (input line : List ℕ) (status : ℕ) (P : List ℕ → Type 0)
    → IsFront 8193 known input → Writes input line status → P line
    → (input : List ℕ) × (line : List ℕ) × (status : ℕ) × IsInput known input × Writes input line status × P line
known_tells Writes decides None input line status P front w p = (input, line, status, tt, w, p)
known_tells Writes decides (Some all) input line status P front w p =
    (all, line, status, refl, decides all line status (subst (λ input. Writes input line status) front w), p)
