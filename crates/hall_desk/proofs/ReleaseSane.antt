-- A draft that is released keeps the world sane.
use Rattle.std.proofs.Common.{◌≡◌, ◌≢◌, ℕ, true, List, Option, Some, None, refl, sym, ap, ◌∙◌, subst, lit<}
use Rattle.std.specs.FinMap.{get}
use Rattle.hall_policy.specs.World.{World}
use Rattle.hall_policy.specs.Rules.{IsCertified}
use Rattle.hall_policy.specs.First.{NoneDecides}
use Rattle.hall_policy.specs.declared.rule.Rule.TheVariants as rule
use Rattle.hall_policy.specs.declared.record.Person.{Person}
use Rattle.hall_policy.specs.declared.record.PuzzleKey.{PuzzleKey}
use Rattle.hall_policy.specs.declared.record.PuzzleRow.{PuzzleRow}
use Rattle.hall_policy.specs.declared.record.PuzzleState.{PuzzleState}
use Rattle.hall_policy.specs.declared.record.PuzzleState.TheVariants as state
use Rattle.hall_policy.specs.declared.request.Action.TheVariants as action
use Rattle.hall_desk.specs.Step.{Allowed}
use Rattle.hall_desk.specs.Sane.{Sane}
use Rattle.hall_desk.specs.declared.reply.Reply.{Reply}
use Rattle.hall_desk.proofs.FlagsSane.{flags_sane}

-- a puzzle that is kept in another state than one is not certified
in_other_state : (world : World) (key : PuzzleKey) (row : PuzzleRow) → get world.puzzles key ≡ Some row
    → ((solution : List ℕ) → row.state ≢ state.One solution) → ¬ (IsCertified world key)
in_other_state world key row kept never c =
    let at : Some row ≡ Some c.0 = sym kept ∙ c.2 in
    let same : row ≡ c.0 = cc in
    never c.1 (ap (λ (r : PuzzleRow). r.state) same ∙ c.3)

-- the state that is kept tells, case by case
by_state : (world : World) (key : PuzzleKey) (row : PuzzleRow) (kind : PuzzleState) → get world.puzzles key ≡ Some row
    → row.state ≡ kind → ¬ (¬ (IsCertified world key)) → IsCertified world key
by_state world key row (state.One solution) kept is h = (row, solution, kept, is)
by_state world key row state.New kept is h = absurd (h (in_other_state world key row kept
    (λ s e. let no : state.New ≡ state.One s = sym is ∙ e in cc)))
by_state world key row state.NoSolution kept is h = absurd (h
    (in_other_state world key row kept (λ s e. let no : state.NoSolution ≡ state.One s = sym is ∙ e in cc)))
by_state world key row state.More kept is h = absurd (h (in_other_state world key row kept
    (λ s e. let no : state.More ≡ state.One s = sym is ∙ e in cc)))
by_state world key row state.GaveUp kept is h = absurd (h (in_other_state world key row kept
    (λ s e. let no : state.GaveUp ≡ state.One s = sym is ∙ e in cc)))

-- whether a puzzle is certified can be told by its row, so one that is not uncertified is
certified_unless_not : (world : World) (key : PuzzleKey) → ¬ (¬ (IsCertified world key)) → IsCertified world key
certified_unless_not world key h = elim (get world.puzzles key) as
    (λ (o : Option PuzzleRow). get world.puzzles key ≡ o → IsCertified world key) [
      | None ↦ λ gone. absurd (h (λ c. let no : Some c.0 ≡ None = sym c.2 ∙ gone in cc))
      | Some row ↦ λ kept. by_state world key row row.state kept refl h
    ] refl

-- a Release keeps the world sane: its rules deny a round with a puzzle that is not certified or stands in another
-- released round
pub release_step : (world : World) (caller : Option Person) (id : List ℕ) (t : ℕ) (found : PuzzleState) (given : Reply)
    (new : World) → Sane world →
    NoneDecides world caller (action.Release id) t → Allowed world caller (action.Release id) t found given new
    → Sane new
release_step world caller id t found given new sane none (round, kept, reply, made) =
    subst Sane (sym made)
    (flags_sane world id round true round.published kept refl sane
    (λ entry lists. certified_unless_not world entry.puzzle (λ not_certified. (none rule.NotCertified (lit< tt)).0
    ((4, lit< tt, refl), (id, entry, refl, lists, not_certified))))
    (λ entry other lists differ stands. (none rule.InReleasedRound (lit< tt)).0
    ((3, lit< tt, refl), (entry, other, lists, differ, stands)))
    (sane.ruled id round kept))
