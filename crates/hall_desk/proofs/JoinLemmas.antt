-- Answers of different people that are stored together.
use Rattle.std.proofs.Common.{◌≡◌, ◌≢◌, ◌++◌, inl, inr, ℕ, List, [], ◌∷◌, Option, Some, refl}
use Rattle.std.proofs.Common.{sym, ap, ◌∙◌, subst}
use Rattle.std.specs.Prelude.{All}
use Rattle.std.specs.FinMap.{FinMap, insert}
use Rattle.std.proofs.lemmas.List.Elements.{All-head, All-tail}
use Rattle.hall_policy.specs.World.{World, answer_cmp}
use Rattle.hall_policy.specs.declared.record.AnswerRow.{AnswerRow}
use Rattle.hall_policy.specs.declared.record.Person.{Person}
use Rattle.hall_store.specs.Caller.{caller_of}
use Rattle.hall_store.specs.Change.{CanAddAnswer, CanAddAnswers, CanMake, changed, with_answers}
use Rattle.hall_store.specs.Store.{Content}
use Rattle.hall_store.specs.declared.change.Change.{Change}
use Rattle.hall_store.specs.declared.change.Change.TheVariants.{AddAnswer, AddAnswers}
use Rattle.hall_desk.specs.Plan.{planned_reply}
use Rattle.hall_desk.specs.Plans.{IsPlanFor}
use Rattle.hall_desk.specs.Step.{IsAnswered}
use Rattle.hall_desk.specs.Together.{IsPlanBeside, PlansBesideAreAnswers, submission}
use Rattle.hall_desk.specs.declared.plan.Plan.{Plan}
use Rattle.hall_desk.proofs.Beside.{plans_stand_beside}
use Rattle.hall_desk.proofs.StepsAlike.{same_callers}

-- one more at the end
pub more_answers : (answers : FinMap answer_cmp AnswerRow) (rows : List AnswerRow) (row : AnswerRow)
    → with_answers answers (rows ++ row ∷ []) ≡ insert (with_answers answers rows) row.key row
more_answers answers [] row = refl
more_answers answers (r ∷ rows) row = more_answers (insert answers r.key r) rows row

pub can_more : (world : World) (rows : List AnswerRow) (row : AnswerRow) → CanAddAnswers world rows
    → CanAddAnswer (changed (AddAnswers rows) world) row → CanAddAnswers world (rows ++ row ∷ [])
can_more world [] row all one = (one, tt)
can_more world (r ∷ rows) row all one = (all.0, can_more (changed (AddAnswer r) world) rows row all.1 one)

module _ (t : ℕ) (key : Option (List ℕ)) (round : List ℕ) (number : ℕ) (token answer : List ℕ) (plan : Plan) where
  -- none of the answers is of whoever has the key
  abbrev pub AreOfOthers : World → List AnswerRow → Type 0
  AreOfOthers world rows = (person : Person) → caller_of world key ≡ Some person
      → All (λ (row : AnswerRow). row.key.entrant ≢ person.name) rows

  -- the plan stands after them
  pub plan_after : (world : World) (rows : List AnswerRow) → CanAddAnswers world rows → AreOfOthers world rows
      → IsPlanFor world t (submission key round number token answer) plan
      → IsPlanFor (changed (AddAnswers rows) world) t (submission key round number token answer) plan
  plan_after world [] can apart is = is
  plan_after world (row ∷ rows) can apart is =
      let next : World = changed (AddAnswer row) world in
      plan_after next rows can.1
      (λ person at. All-tail (λ (r : AnswerRow). r.key.entrant ≢ person.name) row rows
      (apart person (same_callers world next refl key ∙ at)))
      (plans_stand_beside world t key round number token answer plan row can.0
      (λ person at. All-head (λ (r : AnswerRow). r.key.entrant ≢ person.name) row rows (apart person at)) is)

  -- over a store
  pub planned_beside : (content : Content) (rows : List AnswerRow) → (content.honest → content.serves
      × IsPlanFor content.world t (submission key round number token answer) plan)
      → (content.honest → AreOfOthers content.world rows)
      → IsPlanBeside content t (submission key round number token answer) rows plan
  planned_beside content rows is apart honest =
      ((is honest).0, λ can. plan_after content.world rows can (apart honest) (is honest).1)

-- what joins is answered after them
pub plans_beside_are_answers : PlansBesideAreAnswers
plans_beside_are_answers world t request before after plan can is (inl (nothing, same)) = record {
  found = is.answered.0;
  answered = subst (λ (w : World). IsAnswered (changed (AddAnswers before) world)
      (record { moment = t; request = request; found = is.answered.0 }) (planned_reply plan) w)
      (ap (λ (c : Change). changed c (changed (AddAnswers before) world)) nothing
      ∙ ap (λ (rows : List AnswerRow). changed (AddAnswers rows) world) (sym same)) is.answered.1;
  can = subst (CanAddAnswers world) (sym same) can;
}
plans_beside_are_answers world t request before after plan can is (inr (row, adds, more)) = record {
  found = is.answered.0;
  answered = subst (λ (w : World). IsAnswered (changed (AddAnswers before) world)
      (record { moment = t; request = request; found = is.answered.0 }) (planned_reply plan) w)
      (ap (λ (c : Change). changed c (changed (AddAnswers before) world)) adds
      ∙ ap (λ (m : FinMap answer_cmp AnswerRow). record world { answers = m })
      (sym (more_answers world.answers before row))
      ∙ ap (λ (rows : List AnswerRow). changed (AddAnswers rows) world) (sym more)) is.answered.1;
  can = subst (CanAddAnswers world) (sym more) (can_more world before row can
      (subst (λ (c : Change). CanMake c (changed (AddAnswers before) world)) adds is.can));
}
