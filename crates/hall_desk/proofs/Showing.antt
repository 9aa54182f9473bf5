-- The puzzles of a round that is shown, and their solutions.
use Rattle.std.proofs.Common.{◌≡◌, ◌&&◌, ◌||◌, ℕ, ◌+◌, suc, Bool, true, false, List, [], ◌∷◌, ◌++◌, length, Some}
use Rattle.std.proofs.Common.{IsTrue, arith, refl, sym, ap, ◌∙◌, subst}
use Rattle.std.proofs.lemmas.Option.{slice_get-get_or}
use Rattle.std.specs.FinMap.{get}
use Rattle.hall_policy.specs.World.{World, IsRoundAt}
use Rattle.hall_policy.specs.declared.record.Entry.{Entry}
use Rattle.hall_policy.specs.declared.record.RoundRow.{RoundRow}
use Rattle.hall_policy.specs.Implies.{RoundIsThere}
use Rattle.hall_policy.specs.Rules.{is_director}
use Rattle.hall_policy.specs.declared.facts.Facts.{Facts}
use Rattle.hall_policy.specs.declared.request.Action.TheVariants.{Solutions}
use Rattle.hall_desk.specs.Sane.{Sane}
use Rattle.hall_desk.specs.Plans.{AreKept, AreInStateOne}
use Rattle.hall_desk.specs.Shown.{ShowsPuzzle, ShowsPuzzles, IsStoredSolution, AreSolutions}
use Rattle.hall_desk.specs.declared.reply.ShownPuzzle.{ShownPuzzle}

pub shows_more : (world : World) (number : ℕ) (entries : List Entry) (shown : List ShownPuzzle) (entry : Entry)
    (line : ShownPuzzle) →
    ShowsPuzzles world number entries shown → ShowsPuzzle world (number + length entries) entry line
    → ShowsPuzzles world number (entries ++ entry ∷ []) (shown ++ line ∷ [])
shows_more world number [] [] entry line before here = (
  let at : number + 0 ≡ number = omega arith in subst
      (λ (n : ℕ). ShowsPuzzle world n entry line) at here,
  tt,
)
shows_more world number [] (l ∷ shown) entry line before here = absurd before
shows_more world number (e ∷ entries) [] entry line before here = absurd before
shows_more world number (e ∷ entries) (l ∷ shown) entry line before here =
    let at : number + suc (length entries) ≡ (number + 1) + length entries = omega arith in (
      before.0,
      shows_more world (number + 1) entries shown entry line before.1
          (subst (λ (n : ℕ). ShowsPuzzle world n entry line) at here),
    )

-- in a sane world the puzzles that a round lists are kept
pub listed_kept : (world : World) (id : List ℕ) (row : RoundRow) → IsRoundAt world id row → Sane world
    → AreKept world row.puzzles
listed_kept world id row at sane entry (place, below, found) =
    let kept : get world.places (record { round = id; number = suc place }) ≡ Some entry =
    at.list (suc place) ∙ (slice_get-get_or row.puzzles place entry below ∙ ap Some found) in
    sane.refers.entries (record { round = id; number = suc place }) entry kept

-- one more puzzle with its stored solution
pub solutions_more : (world : World) (entries : List Entry) (texts : List (List ℕ)) (entry : Entry) (text : List ℕ) →
    AreSolutions world entries texts → IsStoredSolution world entry.puzzle text
    → AreSolutions world (entries ++ entry ∷ []) (texts ++ text ∷ [])
solutions_more world [] [] entry text before here = (here, tt)
solutions_more world [] (t ∷ texts) entry text before here = absurd before
solutions_more world (e ∷ entries) [] entry text before here = absurd before
solutions_more world (e ∷ entries) (t ∷ texts) entry text before here =
    (before.0, solutions_more world entries texts entry text before.1 here)

-- in a sane world the puzzles that a released round lists are in state one
pub listed_in_state_one : (world : World) (id : List ℕ) (row : RoundRow) → IsRoundAt world id row
    → IsTrue row.round.released → Sane world → AreInStateOne world row.puzzles
listed_in_state_one world id row at released sane entry (place, below, found) =
    let kept : get world.places (record { round = id; number = suc place }) ≡ Some entry =
    at.list (suc place) ∙ (slice_get-get_or row.puzzles place entry below ∙ ap Some found) in
    sane.certified id entry.puzzle (row.round, entry, at.head, released, (suc place, kept), refl)

without_drafts : (released director : Bool) → IsTrue (released || (director && false)) → IsTrue released
without_drafts true director shown = refl
without_drafts false true shown = shown
without_drafts false false shown = shown

-- a round whose solutions are told is released
pub solutions_released : (facts : Facts) (id : List ℕ) (row : RoundRow) → RoundIsThere facts (Solutions id)
    → facts.round ≡ Some row → IsTrue row.round.released
solutions_released facts id row there found =
    let same : there.row ≡ row = let twice : Some there.row ≡ Some row = sym there.found ∙ found in cc in
    subst (λ (r : RoundRow). IsTrue r.round.released) same (without_drafts there.row.round.released
    (is_director facts.caller) there.shown)
