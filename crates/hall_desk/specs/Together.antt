-- Answers of different people, which are stored together: what each is answered over one world it is answered after the
-- others too.
use Rattle.std.specs.Prelude.{◌≡◌, ◌≢◌, ◌⊎◌, ◌++◌, ◌∷◌, [], ℕ, List, Option, Some}
use Rattle.hall_policy.specs.World.{World}
use Rattle.hall_policy.specs.declared.record.AnswerRow.{AnswerRow}
use Rattle.hall_policy.specs.declared.record.Person.{Person}
use Rattle.hall_policy.specs.declared.record.PuzzleState.{PuzzleState}
use Rattle.hall_policy.specs.declared.request.Action.TheVariants.{Submit}
use Rattle.hall_policy.specs.declared.request.Request.{Request}
use Rattle.hall_store.specs.Caller.{caller_of}
use Rattle.hall_store.specs.Change.{CanAddAnswer, CanAddAnswers, changed}
use Rattle.hall_store.specs.declared.change.Change.TheVariants.{Nothing, AddAnswer, AddAnswers}
use Rattle.hall_store.specs.Store.{Content}
use Rattle.hall_desk.specs.Plan.{planned_change, planned_reply}
use Rattle.hall_desk.specs.Plans.{IsPlanFor}
use Rattle.hall_desk.specs.Step.{IsAnswered}
use Rattle.hall_desk.specs.declared.plan.Plan.{Plan}
use Rattle.hall_desk.specs.declared.reply.Reply.{Reply}

-- the request hands an answer in, under this key, if any
abbrev pub submission : Option (List ℕ) → List ℕ → ℕ → List ℕ → List ℕ → Request
submission key round number token answer = record { key = key; action = Submit round number token answer }

-- so it does, under this key
abbrev pub IsSubmission : List ℕ → Request → Type 0
IsSubmission key request =
    (round : List ℕ) × (number : ℕ) × (token : List ℕ) × (answer : List ℕ)
    × (request ≡ submission (Some key) round number token answer)

-- the answer is of nobody who has the key
abbrev pub IsOfOther : World → Option (List ℕ) → AnswerRow → Type 0
IsOfOther world key row = (person : Person) → caller_of world key ≡ Some person → row.key.entrant ≢ person.name

-- The plan for an answer stands after another's answer is stored.
abbrev pub PlansStandBeside : Type 0
PlansStandBeside =
    (world : World) (t : ℕ) (key : Option (List ℕ)) (round : List ℕ) (number : ℕ) (token answer : List ℕ) (plan : Plan)
    (row : AnswerRow) → CanAddAnswer world row → IsOfOther world key row →
    IsPlanFor world t (submission key round number token answer) plan →
    IsPlanFor (changed (AddAnswer row) world) t (submission key round number token answer) plan

-- The request is answered so after these answers, and leads to the world after those ones, which may be stored.
pub record AnswersAfter (world : World) (t : ℕ) (request : Request) (before : List AnswerRow) (given : Reply)
    (after : List AnswerRow) : Type 0 where
  pub found : PuzzleState
  pub answered : IsAnswered (changed (AddAnswers before) world)
      (record { moment = t; request = request; found = found }) given (changed (AddAnswers after) world)
  pub can : CanAddAnswers world after

-- the plan is the request's after these answers, where they may be stored
abbrev pub IsPlanBeside : Content → ℕ → Request → List AnswerRow → Plan → Type 0
IsPlanBeside content t request rows plan =
    content.honest → content.serves × (CanAddAnswers content.world rows
    → IsPlanFor (changed (AddAnswers rows) content.world) t request plan)

-- the change of the plan joins the answers, or it has none
abbrev pub TakesPlan : Plan → List AnswerRow → List AnswerRow → Type 0
TakesPlan plan before after =
    ((planned_change plan ≡ Nothing) × (after ≡ before))
    ⊎ ((row : AnswerRow) × (planned_change plan ≡ AddAnswer row) × (after ≡ before ++ row ∷ []))

-- What is planned after answers and joins them is answered so after them.
abbrev pub PlansBesideAreAnswers : Type 0
PlansBesideAreAnswers =
    (world : World) (t : ℕ) (request : Request) (before after : List AnswerRow) (plan : Plan)
    → CanAddAnswers world before → IsPlanFor (changed (AddAnswers before) world) t request plan
    → TakesPlan plan before after → AnswersAfter world t request before (planned_reply plan) after
