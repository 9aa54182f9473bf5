-- What was accepted, as it stands in a world, and what the same bytes are told there.
use Rattle.std.specs.Prelude.{◌≡◌, ◌⊎◌, ◌++◌, ℕ, List, Option, Some, Ok, codes}
use Rattle.std.specs.FinMap.{get}
use Rattle.hall_policy.specs.World.{World, answer_of, protest_of}
use Rattle.hall_policy.specs.declared.record.AnswerRow.{AnswerRow}
use Rattle.hall_policy.specs.declared.record.Person.{Person}
use Rattle.hall_policy.specs.declared.record.ProtestRow.{ProtestRow}
use Rattle.hall_policy.specs.declared.record.Round.{Round}
use Rattle.hall_policy.specs.declared.request.Action.TheVariants.{Submit, Protest}
use Rattle.hall_store.specs.Caller.{caller_of}
use Rattle.hall_desk.specs.Promises.{IsSameProtest}
use Rattle.hall_desk.specs.Shown.{told_verdict}
use Rattle.hall_desk.specs.declared.reply.Reply.TheVariants as reply
use Rattle.hall_http.specs.Answered.{IsUnavailable}
use Rattle.hall_http.specs.Connection.{Exchange}
use Rattle.hall_http.specs.Reply.{BytesOf}
use Rattle.hall_http.specs.Request.{RequestOf}
use Rattle.hall_http.specs.Serving.{AnswersAt}
use Rattle.hall_laws.specs.Happened.{HaveHappened}

-- the reply has the status 200
pub record IsGranted (text : List ℕ) : Type 0 where
  pub rest : List ℕ
  pub same : text ≡ codes "HTTP/1.1 200 OK" ++ rest

-- the bytes hand in an answer, and were told 200
pub record IsAnswerAccepted (x : Exchange) : Type 0 where
  pub key : Option (List ℕ)
  pub id : List ℕ
  pub number : ℕ
  pub token : List ℕ
  pub answer : List ℕ
  pub asks : RequestOf x.request (Ok (record { key = key; action = Submit id number token answer }))
  pub granted : IsGranted x.reply

-- it stands there under its token, with its text, as the answer of whose the key is; and the reply was the one that
-- tells the number and the verdict with which it stands
pub record AnswerStands (x : Exchange) (is : IsAnswerAccepted x) (world : World) : Type 0 where
  pub person : Person
  pub known : caller_of world is.key ≡ Some person
  pub row : AnswerRow
  pub stands : answer_of world person.name is.id is.number is.token ≡ Some row
  pub text : row.answer ≡ is.answer
  pub round : Round
  pub found : get world.rounds is.id ≡ Some round
  pub told : BytesOf (reply.Submit row.n (told_verdict round row.verdict)) x.reply

-- the bytes hand in a protest, and were told 200
pub record IsProtestAccepted (x : Exchange) : Type 0 where
  pub key : Option (List ℕ)
  pub id : List ℕ
  pub token : List ℕ
  pub number : ℕ
  pub text : List ℕ
  pub asks : RequestOf x.request (Ok (record { key = key; action = Protest id token number text }))
  pub granted : IsGranted x.reply

-- it stands there under its token, with its number and text, as the protest of whose the key is
pub record ProtestStands (x : Exchange) (is : IsProtestAccepted x) (world : World) : Type 0 where
  pub person : Person
  pub known : caller_of world is.key ≡ Some person
  pub row : ProtestRow
  pub stands : protest_of world person.name is.id is.token ≡ Some row
  pub same : IsSameProtest row is.number is.text

-- After these requests the same bytes were answered by the same reply, or by 503, in the world to which these had led,
-- which stayed as it was.
pub record IsRepeatedAlike (x : Exchange) (world : World) (front : List Exchange) (y : Exchange) : Type 0 where
  pub between : World
  pub led : HaveHappened world front between
  pub answered : AnswersAt between y.moment y.request y.reply between
  pub told : (y.reply ≡ x.reply) ⊎ IsUnavailable y.reply
