-- The answer to the bytes of one request: a step of the hall, or why none was made.
use Rattle.std.specs.Prelude.{◌≡◌, ◌⊎◌, ◌++◌, ℕ, List, Ok, Err, codes, string_bytes}
use Rattle.hall_policy.specs.World.{World}
use Rattle.hall_policy.specs.declared.request.Request.{Request}
use Rattle.hall_store.specs.Store.{Content, LeavesOneOf, Over}
use Rattle.hall_desk.specs.Step.{Step}
use Rattle.hall_desk.specs.Run.{IsTimed}
use Rattle.hall_desk.specs.declared.reply.Reply.{Reply}
use Rattle.hall_desk.specs.declared.reply.Reply.TheVariants.{Unavailable as NotServed}
use Rattle.hall_http.specs.declared.form.FormFault.{FormFault}
use Rattle.hall_http.specs.declared.answer.Answer.{Answer}
use Rattle.hall_http.specs.declared.answer.Answer.TheVariants.{Text, Parts, Unavailable, Shut}
use Rattle.hall_http.specs.Request.{RequestOf}
use Rattle.hall_http.specs.Reply.{BytesOf, FaultBytesOf}

-- the reply 503: its head, and its body
abbrev pub unavailable_text : List ℕ
unavailable_text =
    codes "HTTP/1.1 503 Service Unavailable\r\nContent-Type: application/json\r\nContent-Length: 16\r\n\r\n"
    ++ codes "{\"fault\":\"hall\"}"

-- the bytes of an answer
abbrev pub answer_text : Answer → List ℕ
answer_text (Text text) = string_bytes text
answer_text (Parts parts) = parts
answer_text Unavailable = unavailable_text
answer_text Shut = unavailable_text

-- the text is the reply 503
pub record IsUnavailable (text : List ℕ) : Type 0 where
  pub same : text ≡ answer_text Unavailable

-- the text is that of the reply of a step of the hall for the request
abbrev pub IsStepReply : World → ℕ → Request → List ℕ → World → Type 0
IsStepReply world moment request text after =
    (reply : Reply) × Step world moment request reply after × BytesOf reply text

-- the bytes are a request of its type, and the text is that of the reply of a step of the hall
pub record IsStepOfBytes (world : World) (moment : ℕ) (bytes text : List ℕ) (after : World) : Type 0 where
  pub request : Request
  pub reply : Reply
  pub reads : RequestOf bytes (Ok request)
  pub timed : IsTimed (moment, request)
  pub step : Step world moment request reply after
  pub written : BytesOf reply text

-- the bytes are no request, and the text names their first fault
pub record IsRefused (bytes text : List ℕ) : Type 0 where
  pub found : FormFault
  pub reads : RequestOf bytes (Err found)
  pub written : FaultBytesOf found text

-- the text names the fault, or is 503, out of memory
abbrev pub AnswersFault : FormFault → List ℕ → Type 0
AnswersFault found text = FaultBytesOf found text ⊎ BytesOf NotServed text

-- the bytes are answered: by a step of the hall; or by the fault of their form, or by 503, out of memory,
-- and the world stays
abbrev pub Answers : World → ℕ → List ℕ → List ℕ → World → Type 0
Answers world moment bytes text after =
    IsStepOfBytes world moment bytes text after ⊎ ((IsRefused bytes text ⊎ BytesOf NotServed text) × (after ≡ world))

-- the bytes are answered over a store
abbrev pub AnswersOver : Content → ℕ → List ℕ → List ℕ → Content → Type 0
AnswersOver old moment bytes text new = Over (λ before after. Answers before moment bytes text after) old new

-- the text is that of the reply of a step of the hall for the request, over a store
abbrev pub IsStepReplyOver : Content → ℕ → Request → List ℕ → Content → Type 0
IsStepReplyOver old moment request text new =
    Over (λ before after. IsStepReply before moment request text after) old new

-- the request is answered: by a step of the hall; or by 503, and the world stays
abbrev pub AnswersRequest : World → ℕ → Request → List ℕ → World → Type 0
AnswersRequest world moment request text after =
    IsStepReply world moment request text after ⊎ (BytesOf NotServed text × (after ≡ world))

-- the same over a store
abbrev pub AnswersRequestOver : Content → ℕ → Request → List ℕ → Content → Type 0
AnswersRequestOver old moment request text new =
    Over (λ before after. AnswersRequest before moment request text after) old new

-- What a stop leaves of a store whose request is answered so: what a stop before it could leave, or the world after a
-- step with these bytes of a reply, or with others where this was 503.
abbrev pub StopsAt : Content → ℕ → Request → List ℕ → Content → Type 0
StopsAt old moment request text new =
    LeavesOneOf (λ before left.
    (made : List ℕ) × ((made ≡ text) ⊎ BytesOf NotServed text) × IsStepReply before moment request made left) old new

-- so it is where bytes are answered
abbrev pub StopsAtBytes : Content → ℕ → List ℕ → List ℕ → Content → Type 0
StopsAtBytes old moment bytes text new =
    LeavesOneOf (λ before left.
    (made : List ℕ) × ((made ≡ text) ⊎ BytesOf NotServed text) × Answers before moment bytes made left) old new
