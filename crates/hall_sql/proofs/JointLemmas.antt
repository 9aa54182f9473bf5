-- Answers that are added together.
use Rattle.std.proofs.Common.{◌≡◌, ◌||◌, ℕ, List, [], ◌∷◌, Bool, true, false, refl, sym, ap, subst, ◌∙◌}
use Rattle.std.proofs.lemmas.Bool.{and_parts, and_from}
use Rattle.std.specs.List.{list_any}
use Rattle.sqlite.specs.Effect.{Database}
use Rattle.sqlite.specs.Order.{Row}
use Rattle.hall_policy.specs.Sink.{HasTaken}
use Rattle.hall_policy.specs.World.{World, answer_cmp}
use Rattle.hall_policy.specs.declared.record.AnswerRow.{AnswerRow}
use Rattle.hall_store.specs.Change.{CanAddAnswers, changed, with_answers}
use Rattle.hall_store.specs.declared.change.Change.TheVariants.{AddAnswer, AddAnswers}
use Rattle.hall_sql.specs.Fill.{AddsAnswer}
use Rattle.hall_sql.specs.Inside.{Changes}
use Rattle.hall_sql.specs.Rows.{answer_of_row, world_of}
use Rattle.hall_sql.specs.Spared.{is_keyed_by, may_write, KeptOtherRows}
use Rattle.hall_sql.proofs.SparedLemmas.{same_spared, then_spared, wider_spared}

-- the world has them, one after another
joint_world : (a : Database) (rows : List AnswerRow) (b : Database) → HasTaken AddsAnswer a rows b
    → CanAddAnswers (world_of a.trees) rows → world_of b.trees ≡ changed (AddAnswers rows) (world_of a.trees)
joint_world a [] b done can = ap (λ (d : Database). world_of d.trees) done
joint_world a (row ∷ rows) b (next, adds, rest) (here, later) =
    let step = adds.world here.fresh in
    joint_world next rows b rest (subst (λ (w : World). CanAddAnswers w rows) (sym step) later)
    ∙ ap (λ (w : World). record w { answers = with_answers w.answers rows }) step

or_true : (b : Bool) → b || true ≡ true
or_true true = refl
or_true false = refl

-- what one of them may write they may
first_may : (row : AnswerRow) (rows : List AnswerRow) (tree : ℕ) (r : Row) → may_write (AddAnswer row) tree r ≡ true
    → may_write (AddAnswers (row ∷ rows)) tree r ≡ true
first_may row rows tree r takes =
    let parts = and_parts _ _ takes in
    and_from _ _ parts.0 (ap (λ b. b || list_any (λ (x : AnswerRow). is_keyed_by answer_cmp (λ y. y.key) x.key
    (answer_of_row r)) rows) parts.1)

others_may : (row : AnswerRow) (rows : List AnswerRow) (tree : ℕ) (r : Row) → may_write (AddAnswers rows) tree r ≡ true
    → may_write (AddAnswers (row ∷ rows)) tree r ≡ true
others_may row rows tree r takes =
    let parts = and_parts _ _ takes in
    and_from _ _ parts.0 (ap (λ b. is_keyed_by answer_cmp (λ (y : AnswerRow). y.key) row.key (answer_of_row r) || b)
    parts.1 ∙ or_true _)

-- each other row stays
joint_spared : (a : Database) (rows : List AnswerRow) (b : Database) → HasTaken AddsAnswer a rows b
    → KeptOtherRows (may_write (AddAnswers rows)) a.trees b.trees
joint_spared a [] b done =
    subst (λ (d : Database). KeptOtherRows (may_write (AddAnswers [])) a.trees d.trees) (sym done)
    (same_spared (may_write (AddAnswers [])) a.trees)
joint_spared a (row ∷ rows) b (next, adds, rest) =
    let all = may_write (AddAnswers (row ∷ rows)) in
    then_spared all a.trees next.trees b.trees
    (wider_spared (may_write (AddAnswer row)) all (first_may row rows) a.trees next.trees adds.others)
    (wider_spared (may_write (AddAnswers rows)) all (others_may row rows) next.trees b.trees
    (joint_spared next rows b rest))

-- so they are one change
pub joint_changes : (a : Database) (rows : List AnswerRow) → CanAddAnswers (world_of a.trees) rows → (b : Database)
    → HasTaken AddsAnswer a rows b → Changes (AddAnswers rows) a b
joint_changes a rows can b taken = record {
  world = joint_world a rows b taken can;
  others = joint_spared a rows b taken;
}
