-- The names of the rules that a filling breaks, put into a set by one test after another.
use Rattle.std.proofs.Common.{◌≡◌, ℕ, ◌⊎◌, ◌↔◌, Bool, List, [], ◌∷◌, refl, sym, inl, inr, subst}
use Rattle.std.specs.Prelude.{IsTrue}
use Rattle.hall_grid.specs.declared.board.Kind.{Kind}
use Rattle.hall_grid.specs.declared.board.Kind.TheVariants.{Sudoku, Slither, Nurikabe}
use Rattle.hall_grid.specs.declared.rule.Rule.{Rule}
use Rattle.hall_grid.specs.declared.rule.Rule.TheVariants.{A0, U1, U2, U3, U4, S1, S2, S3, S4, S5, N1, N2, N3, N4, N5}
use Rattle.hall_grid.specs.declared.rule.Rule.TheVariants.{N6}
use Rattle.hall_grid.specs.Board.{Board}
use Rattle.hall_grid.specs.Rule.{Adds, IsNameSet, Names}
use Rattle.hall_grid.specs.Answer.{AreBroken, Breaks}

-- the rules of a kind
abbrev pub rules_of : Kind → List Rule
rules_of Sudoku = U1 ∷ U2 ∷ U3 ∷ U4 ∷ []
rules_of Slither = S1 ∷ S2 ∷ S3 ∷ S4 ∷ S5 ∷ []
rules_of Nurikabe = N1 ∷ N2 ∷ N3 ∷ N4 ∷ N5 ∷ N6 ∷ []

-- the list has the rule
abbrev Lists : List Rule → Rule → Type 0
Lists [] rule = ⊥
Lists (r ∷ rules) rule = (rule ≡ r) ⊎ Lists rules rule

-- a filling breaks the rules of its kind alone
lists_broken : (kind : Kind) (board : Board) (f : List ℕ) (rule : Rule)
    → Breaks kind board f rule
    → Lists (rules_of kind) rule
lists_broken Sudoku board f A0 h = absurd h
lists_broken Sudoku board f U1 h = inl refl
lists_broken Sudoku board f U2 h = inr (inl refl)
lists_broken Sudoku board f U3 h = inr (inr (inl refl))
lists_broken Sudoku board f U4 h = inr (inr (inr (inl refl)))
lists_broken Sudoku board f S1 h = absurd h
lists_broken Sudoku board f S2 h = absurd h
lists_broken Sudoku board f S3 h = absurd h
lists_broken Sudoku board f S4 h = absurd h
lists_broken Sudoku board f S5 h = absurd h
lists_broken Sudoku board f N1 h = absurd h
lists_broken Sudoku board f N2 h = absurd h
lists_broken Sudoku board f N3 h = absurd h
lists_broken Sudoku board f N4 h = absurd h
lists_broken Sudoku board f N5 h = absurd h
lists_broken Sudoku board f N6 h = absurd h
lists_broken Slither board f A0 h = absurd h
lists_broken Slither board f U1 h = absurd h
lists_broken Slither board f U2 h = absurd h
lists_broken Slither board f U3 h = absurd h
lists_broken Slither board f U4 h = absurd h
lists_broken Slither board f S1 h = inl refl
lists_broken Slither board f S2 h = inr (inl refl)
lists_broken Slither board f S3 h = inr (inr (inl refl))
lists_broken Slither board f S4 h = inr (inr (inr (inl refl)))
lists_broken Slither board f S5 h = inr (inr (inr (inr (inl refl))))
lists_broken Slither board f N1 h = absurd h
lists_broken Slither board f N2 h = absurd h
lists_broken Slither board f N3 h = absurd h
lists_broken Slither board f N4 h = absurd h
lists_broken Slither board f N5 h = absurd h
lists_broken Slither board f N6 h = absurd h
lists_broken Nurikabe board f A0 h = absurd h
lists_broken Nurikabe board f U1 h = absurd h
lists_broken Nurikabe board f U2 h = absurd h
lists_broken Nurikabe board f U3 h = absurd h
lists_broken Nurikabe board f U4 h = absurd h
lists_broken Nurikabe board f S1 h = absurd h
lists_broken Nurikabe board f S2 h = absurd h
lists_broken Nurikabe board f S3 h = absurd h
lists_broken Nurikabe board f S4 h = absurd h
lists_broken Nurikabe board f S5 h = absurd h
lists_broken Nurikabe board f N1 h = inl refl
lists_broken Nurikabe board f N2 h = inr (inl refl)
lists_broken Nurikabe board f N3 h = inr (inr (inl refl))
lists_broken Nurikabe board f N4 h = inr (inr (inr (inl refl)))
lists_broken Nurikabe board f N5 h = inr (inr (inr (inr (inl refl))))
lists_broken Nurikabe board f N6 h = inr (inr (inr (inr (inr (inl refl)))))

-- sets from the first to the last: each adds the next name of the list, where its sentence is true
abbrev pub Adding : (Rule → Type 0) → List Rule → ℕ → ℕ → Type 0
Adding Sentence [] first last = first ≡ last
Adding Sentence (rule ∷ rules) first last =
    (next : ℕ) × (holds : Bool) × Adds first next rule holds × (IsTrue holds ↔ Sentence rule)
    × Adding Sentence rules next last

-- a name of the last set was in the first one, or its sentence is true
sentence_true : (Sentence : Rule → Type 0) (rules : List Rule) (first last : ℕ) → Adding Sentence rules first last
    → (rule : Rule) → Names last rule → Names first rule ⊎ Sentence rule
sentence_true Sentence [] first last adding rule h = inl (subst (λ n. Names n rule) (sym adding) h)
sentence_true Sentence (r ∷ rules) first last (next, holds, adds, right, rest) rule h =
    elim (sentence_true Sentence rules next last rest rule h) [
      | inr true ↦ inr true
      | inl before ↦ elim ((adds.each rule).0 before) [
        | inl k ↦ inl k
        | inr k ↦ inr (subst Sentence (sym k.0) (right.0 k.1))
      ]
    ]

-- a name of the first set is in the last one
name_kept : (Sentence : Rule → Type 0) (rules : List Rule) (first last : ℕ) → Adding Sentence rules first last
    → (rule : Rule) → Names first rule → Names last rule
name_kept Sentence [] first last adding rule h = subst (λ n. Names n rule) adding h
name_kept Sentence (r ∷ rules) first last (next, holds, adds, right, rest) rule h =
    name_kept Sentence rules next last rest rule ((adds.each rule).1 (inl h))

-- a name whose sentence is true is in the last set
name_added : (Sentence : Rule → Type 0) (rules : List Rule) (first last : ℕ) → Adding Sentence rules first last
    → (rule : Rule) → Lists rules rule → Sentence rule → Names last rule
name_added Sentence [] first last adding rule lists h = absurd lists
name_added Sentence (r ∷ rules) first last (next, holds, adds, right, rest) rule (inl e) h =
    name_kept Sentence rules next last rest rule ((adds.each rule).1 (inr (e, right.1 (subst Sentence e h))))
name_added Sentence (r ∷ rules) first last (next, holds, adds, right, rest) rule (inr lists) h =
    name_added Sentence rules next last rest rule lists h

set_last : (Sentence : Rule → Type 0) (rules : List Rule) (first last : ℕ)
    → Adding Sentence rules first last
    → IsNameSet first
    → IsNameSet last
set_last Sentence [] first last adding set = subst IsNameSet adding set
set_last Sentence (r ∷ rules) first last (next, holds, adds, right, rest) set =
    set_last Sentence rules next last rest adds.set

-- from the empty set on, the tests of a kind's rules make the set of the broken ones; callers give the last fact as
-- (_, _, adds, right, (_, _, adds, right, .. (_, _, adds, right, refl))), with the clauses of `insert_if` and of
-- the tests
pub broken_are : (kind : Kind) (board : Board) (f : List ℕ) (first last : ℕ) → board.kind ≡ kind
    → ((rule : Rule) → Names first rule → ⊥)
    → IsNameSet first
    → Adding (Breaks kind board f) (rules_of kind) first last
    → AreBroken board f last
broken_are kind board f first last is none set adding = record {
  set = set_last (Breaks kind board f) (rules_of kind) first last adding set;
  each = λ rule. subst (λ (k : Kind). Names last rule ↔ Breaks k board f rule) (sym is) (
    (λ named. elim (sentence_true (Breaks kind board f) (rules_of kind) first last adding rule named) [
      | inl before ↦ absurd (none rule before)
      | inr true ↦ true
    ]),
    (λ true. name_added (Breaks kind board f) (rules_of kind) first last adding rule
        (lists_broken kind board f rule true) true),
  );
}
