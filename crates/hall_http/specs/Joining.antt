-- Requests that are to be answered together: what is planned for each before anything of it is stored, and what each is
-- told once that was tried.
use Rattle.std.specs.Prelude.{◌≡◌, ◌≢◌, ◌++◌, ℕ, List, [], ◌∷◌, Option, Some, None, All, map}
use Rattle.hall_policy.specs.declared.record.AnswerRow.{AnswerRow}
use Rattle.hall_policy.specs.declared.request.Request.{Request}
use Rattle.hall_store.specs.Change.{CanAddAnswers, changed}
use Rattle.hall_store.specs.Store.{Asks, Content, Leads, LeavesOneOf, WritesOnce}
use Rattle.hall_store.specs.declared.change.Change.TheVariants.{AddAnswers}
use Rattle.hall_desk.specs.Plan.{planned_reply}
use Rattle.hall_desk.specs.Plans.{IsNobodys}
use Rattle.hall_desk.specs.Run.{IsTimed}
use Rattle.hall_desk.specs.Together.{AnswersAfter, TakesPlan}
use Rattle.hall_desk.specs.declared.plan.Plan.{Plan}
use Rattle.hall_desk.specs.declared.reply.Reply.{Reply}
use Rattle.hall_http.specs.Answered.{IsUnavailable, answer_text}
use Rattle.hall_http.specs.Connection.{Exchange}
use Rattle.hall_http.specs.Groups.{AnswersInTurn}
use Rattle.hall_http.specs.Reply.{BytesOf}
use Rattle.hall_http.specs.Request.{ReachesStore}
use Rattle.hall_http.specs.declared.answer.Answer.{Answer}
use Rattle.hall_http.specs.declared.answer.Answer.TheVariants.{Unavailable}
use Rattle.hall_http.specs.declared.group_end.GroupEnd.{GroupEnd}
use Rattle.hall_http.specs.declared.group_end.GroupEnd.TheVariants.{Stored, Refused}

-- the request at this moment, and what is planned for it
abbrev pub planned : Option ℕ → List ℕ → Answer → Exchange
planned moment request answer = record { request = request; moment = moment; reply = answer_text answer }

-- one more request joined these, and this is planned for it; or none did
abbrev pub JoinsOne : {H : Type 0} → (List Exchange → List AnswerRow → H → Type 0) → List Exchange → Option ℕ → List ℕ
    → Option Answer → List AnswerRow → H → Type 0
JoinsOne have_joined xs moment request (Some answer) rows h =
    have_joined (xs ++ planned moment request answer ∷ []) rows h
JoinsOne have_joined xs moment request None rows h = have_joined xs rows h

-- what a request is told that joined others: what was planned for it, once that is stored; or else 503
abbrev pub told_at_end : GroupEnd → Exchange → Exchange
told_at_end Stored x = x
told_at_end _ x = record x { reply = answer_text Unavailable }

-- The plan joined the answers, and its reply is this answer, which isn't 503; or they were left.
abbrev pub TakesReply : Plan → List AnswerRow → Option Answer → List AnswerRow → Type 0
TakesReply plan before (Some answer) after =
    TakesPlan plan before after × BytesOf (planned_reply plan) (answer_text answer)
    × ¬ (IsUnavailable (answer_text answer))
TakesReply plan before None after = after ≡ before

-- The request is put to the store at the moment, and isn't to be told 503. Where the store's device is honest, and it
-- serves, and the answers before may be stored, the request is answered so after them, and those after may be stored.
pub record IsJoined (content : Content) (moment : ℕ) (request : Request) (before : List AnswerRow) (answer : Answer)
    (after : List AnswerRow) : Type 0 where
  pub timed : IsTimed (moment, request)
  pub reaches : ¬ (IsNobodys request)
  pub told : ¬ (IsUnavailable (answer_text answer))
  pub reply : Reply
  pub written : BytesOf reply (answer_text answer)
  pub answered : Asks content (λ world.
      CanAddAnswers world before → AnswersAfter world moment request before reply after)

-- the request joined the answers, and is to be answered so; or they were left
abbrev pub JoinsRequest : Content → ℕ → Request → List AnswerRow → Option Answer → List AnswerRow → Type 0
JoinsRequest content moment request before (Some answer) after =
    IsJoined content moment request before answer after
JoinsRequest content moment request before None after = after ≡ before

-- These requests have joined, over a store, and their answers aren't stored yet, these. Each is put to the store at its
-- moment, and none is to be told 503. Where the store's device is honest, and it serves, the answers may be stored, and
-- the requests are answered as planned, one after another, up to the world that has them all.
pub record HaveJoined {H : Type 0} (content : H → Content) (xs : List Exchange) (rows : List AnswerRow) (h : H) : Type 0
  where
    pub reach : All (λ x. ReachesStore x.moment x.request) xs
    pub told : All (λ x. ¬ (IsUnavailable x.reply)) xs
    pub can : Asks (content h) (λ world. CanAddAnswers world rows)
    pub answered : Asks (content h) (λ world. AnswersInTurn xs world (changed (AddAnswers rows) world))

-- The answers were to be stored by one write: it led on, and a stop leaves what one before it could leave, or all of
-- them. Stored, the store served before and after; else they aren't, while it serves. It does where it isn't shut.
pub record StoresJoint (old : Content) (rows : List AnswerRow) (end : GroupEnd) (new : Content) : Type 0 where
  pub leads : Leads old new
  pub once : WritesOnce old new
  pub stops : LeavesOneOf (λ before left. left ≡ changed (AddAnswers rows) before) old new
  pub stored : end ≡ Stored → new.honest → new.serves × (new.world ≡ changed (AddAnswers rows) old.world)
  pub left : end ≢ Stored → new.honest → new.serves → new.world ≡ old.world
  pub opened : end ≡ Refused → new.honest → new.serves
