-- Deductions followed one after another.
use Rattle.std.proofs.Common.{◌≡◌, ◌≢◌, ℕ, List, Option, refl, sym, subst, arith}
use Rattle.std.specs.Prelude.{Result, Ok, Err, IsErr}
use Rattle.hall_grid.specs.Board.{Board}
use Rattle.hall_grid.specs.declared.board.Kind.TheVariants.{Slither}
use Rattle.hall_solve.specs.Question.{Question, Narrows, IsPartial}
use Rattle.hall_solve.specs.Deduction.{IsDeduced}
use Rattle.hall_solve.specs.Puzzle.{question_of}
use Rattle.hall_solve.specs.Trail.{Trailed, Grows}
use Rattle.hall_solve.specs.declared.deduce.Pass.{Pass}
use Rattle.hall_solve.specs.declared.deduce.Pass.TheVariants.{Settled, Advanced, Dead}
use Rattle.hall_solve.proofs.Boards.{Narrows-itself, Narrows-twice, hopeless_before, open-narrows}
use Rattle.hall_solve.proofs.Trails.{Grows-itself, Grows-twice}
use Rattle.hall_slither.specs.Follow.{IsFollowed}

pub IsFollowed-start : {E : Type 0} (board : Board) (b : Trailed) → IsFollowed {E = E} board b b (Ok Settled)
IsFollowed-start board b = record { deduced = refl; err = tt; grows = Grows-itself b }

-- what was found not dead has narrowed
pub Narrows-deduced : (q : Question) (a b : List (Option ℕ)) (pass : Pass) → IsPartial q a → pass ≢ Dead
    → IsDeduced q a b pass → Narrows q a b
Narrows-deduced q a b Settled partial alive h = subst (λ p. Narrows q a p) (sym h) (Narrows-itself q a partial)
Narrows-deduced q a b Advanced partial alive h = h.0
Narrows-deduced q a b Dead partial alive h = absurd (alive refl)

pub Narrows-followed : {E : Type 0} (board : Board) (a b : Trailed) (pass : Pass)
    → IsPartial (question_of Slither board) a.places → pass ≢ Dead
    → IsFollowed {E = E} board a b (Ok pass) → Narrows (question_of Slither board) a.places b.places
Narrows-followed board a b pass partial alive h = Narrows-deduced (question_of Slither board) a.places b.places pass
    partial alive h.deduced

deduced_still : (q : Question) (a b c : List (Option ℕ)) (pass : Pass) → pass ≢ Dead → IsDeduced q a b pass → c ≡ b
    → IsDeduced q a c pass
deduced_still q a b c pass alive h e = subst (λ p. IsDeduced q a p pass) (sym e) h

-- nothing more was set
pub IsFollowed-settled : {E : Type 0} (board : Board) (a b c : Trailed) (pass next : Pass) → next ≡ Settled
    → pass ≢ Dead
    → IsFollowed {E = E} board a b (Ok pass) → IsFollowed {E = E} board b c (Ok next)
    → IsFollowed {E = E} board a c (Ok pass)
IsFollowed-settled board a b c pass Settled is alive first second = record {
  deduced = deduced_still (question_of Slither board) a.places b.places c.places pass alive first.deduced
      second.deduced;
  err = tt;
  grows = Grows-twice a b c first.grows second.grows;
}
IsFollowed-settled board a b c pass Advanced is alive first second = absurd (cc)
IsFollowed-settled board a b c pass Dead is alive first second = absurd (cc)

-- more was set
pub IsFollowed-advanced : {E : Type 0} (board : Board) (a b c : Trailed) (pass next : Pass) → next ≡ Advanced
    → IsPartial (question_of Slither board) a.places → pass ≢ Dead → IsFollowed {E = E} board a b (Ok pass)
    → IsFollowed {E = E} board b c (Ok next)
    → IsFollowed {E = E} board a c (Ok Advanced)
IsFollowed-advanced board a b c pass Advanced is partial alive first second =
    let narrows = Narrows-followed board a b pass partial alive first in
    let le = open-narrows (question_of Slither board) a.places b.places partial narrows in
    let more = second.deduced in
    record {
      deduced = (
        Narrows-twice (question_of Slither board) a.places b.places c.places narrows more.0,
        let fewer =
            more.1 in omega arith,
      );
      err = tt;
      grows = Grows-twice a b c first.grows second.grows;
    }
IsFollowed-advanced board a b c pass Settled is partial alive first second = absurd (cc)
IsFollowed-advanced board a b c pass Dead is partial alive first second = absurd (cc)

pub IsFollowed-dead : {E : Type 0} (board : Board) (a b c : Trailed) (pass next : Pass) → next ≡ Dead
    → IsPartial (question_of Slither board) a.places → pass ≢ Dead → IsFollowed {E = E} board a b (Ok pass)
    → IsFollowed {E = E} board b c (Ok next)
    → IsFollowed {E = E} board a c (Ok Dead)
IsFollowed-dead board a b c pass Dead is partial alive first second = record {
  deduced = hopeless_before (question_of Slither board) a.places b.places
      (Narrows-followed board a b pass partial alive first) second.deduced;
  err = tt;
  grows = Grows-twice a b c first.grows second.grows;
}
IsFollowed-dead board a b c pass Settled is partial alive first second = absurd (cc)
IsFollowed-dead board a b c pass Advanced is partial alive first second = absurd (cc)

-- memory was refused
pub IsFollowed-error : {E : Type 0} (board : Board) (a b : Trailed) (r : Result Pass E) → IsErr r
    → Narrows (question_of Slither board) a.places b.places → Grows a b → IsFollowed board a b r
IsFollowed-error board a b (Ok pass) failed narrows grows = absurd (cc)
IsFollowed-error board a b (Err e) failed narrows grows = record { deduced = tt; err = narrows; grows = grows }

-- memory was refused later
pub IsFollowed-failed : {E : Type 0} (board : Board) (a b c : Trailed) (pass : Pass) (e : E) (r : Result Pass E)
    → IsErr r
    → IsPartial (question_of Slither board) a.places → pass ≢ Dead → IsFollowed {E = E} board a b (Ok pass)
    → IsFollowed board b c (Err e) → IsFollowed board a c r
IsFollowed-failed board a b c pass e r failed partial alive first second =
    IsFollowed-error board a c r failed
    (Narrows-twice (question_of Slither board) a.places b.places c.places
    (Narrows-followed board a b pass partial alive first) second.err)
    (Grows-twice a b c first.grows second.grows)

-- the same of the same board
pub IsFollowed-at : {E : Type 0} (board other : Board) (a b : Trailed) (r : Result Pass E) → other ≡ board
    → IsFollowed {E = E} other a b r → IsFollowed {E = E} board a b r
IsFollowed-at board other a b r e h = subst (λ x. IsFollowed x a b r) e h

-- what was lent is what the borrower left there
pub Grows-lent : (a b x c : Trailed) → Grows a b → Grows x c → x ≡ b → Grows a c
Grows-lent a b x c first second e = Grows-twice a b c first (subst (λ (t : Trailed). Grows t c) e second)
