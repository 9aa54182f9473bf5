-- Why empty tables are not filled: what was refused, after what was added.
use Rattle.std.proofs.Common.{◌⊎◌, inl, inr, IsTrue, ℕ, List, arith}
use Rattle.sqlite.specs.Effect.{Database}
use Rattle.sqlite.specs.State.{State, HasCleanDisk}
use Rattle.hall_grid.specs.Canonical.{CanonicalText}
use Rattle.hall_policy.specs.Sink.{HasTaken}
use Rattle.hall_policy.specs.declared.record.PuzzleRow.{PuzzleRow}
use Rattle.hall_sql.specs.Cause.{IsStoreCause}
use Rattle.hall_sql.specs.Columns.{puzzle_params}
use Rattle.hall_sql.specs.FillCause.{IsRefusedThere, RefusesToAddPuzzle}
use Rattle.hall_sql.specs.Inside.{LeadsUncommitted, MakesInside}
use Rattle.hall_sql.specs.Standing.{LeadsConnection}
use Rattle.hall_sql.specs.WriteCause.{IsUnderWay, RunFails}
use Rattle.hall_sql.specs.declared.puzzles.TheConstants.{ADD_PUZZLE}
use Rattle.hall_sql.proofs.LastLemmas.{last_then}
use Rattle.hall_sql.proofs.WriteCauseLemmas.{cause_over, goes_on}

-- the puzzle's statement, as its canonical text
pub spelled_refused : (row : PuzzleRow) (text : List ℕ) (old new : State) → CanonicalText text row.puzzle
    → RunFails ADD_PUZZLE.now (puzzle_params text row) old new → IsStoreCause old new ⊎ RefusesToAddPuzzle row old.now
spelled_refused row text old new canonical (inl cause) = inl cause
spelled_refused row text old new canonical (inr refused) = inr (text, canonical, refused)

-- of several causes, this one
pub by_first : {A B C : Type 0} → A ⊎ B → A ⊎ (B ⊎ C)
by_first (inl cause) = inl cause
by_first (inr refused) = inr (inl refused)

-- what is refused after the records were added
pub by_later : {X B : Type 0} (Adds : Database → X → Database → Type 0) (Refused : Database → Type 0) (records : List X)
    (a b c : State)
    → IsUnderWay a → LeadsUncommitted a b → HasCleanDisk b → MakesInside (λ x y. HasTaken Adds x records y) a b
    → LeadsConnection b c
    → (IsUnderWay b → IsStoreCause b c ⊎ Refused b.now) → IsStoreCause a c
    ⊎ (B ⊎ IsRefusedThere Adds Refused records a.now)
by_later Adds Refused records a b c goes carries clean did after why =
    let on = goes_on a b goes carries.lasts did.steps in
    elim (why on) [
      | inl cause ↦ inl (cause_over a b c carries.lasts clean after cause)
      | inr refused ↦ inr (inr (record { mid = b.now; hall = on.hall; before = did.does goes.hall; refused = refused }))
    ]

-- Lists were added, one after another: what is refused after them is refused of all that is added.
pub record HaveAdded (Rest All : Database → Type 0) (a b : State) : Type 1 where
  pub later : (c : State) → HasCleanDisk c → LeadsConnection b c → (IsUnderWay b → IsStoreCause b c ⊎ Rest b.now)
      → IsUnderWay a → IsStoreCause a c ⊎ All a.now

pub added_none : (All : Database → Type 0) (a : State) → HaveAdded All All a a
added_none All a = record { later = λ c clean after why goes. why goes }

-- and one more
pub added_next : {X : Type 0} {B All : Database → Type 0} {a b c : State} (Adds : Database → X → Database → Type 0)
    (Rest : Database → Type 0) (records : List X)
    → HaveAdded (λ db. B db ⊎ IsRefusedThere Adds Rest records db) All a b → LeadsUncommitted b c
    → (HasCleanDisk c → IsTrue b.in_transaction → MakesInside (λ x y. HasTaken Adds x records y) b c)
    → HaveAdded Rest All a c
added_next {a} {b} {c} Adds Rest records before carries did = record {
  later = λ d clean after why.
      let was : HasCleanDisk c = omega (arith, after.clean, clean) in
      before.later d clean (last_then b c d carries.lasts after)
      (λ on. by_later Adds Rest records b c d on carries was (did was on.mode) after why);
}
