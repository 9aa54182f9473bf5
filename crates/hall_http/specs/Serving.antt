-- Requests that are answered over a store, one after another.
use Rattle.std.specs.Prelude.{◌≡◌, ◌⊎◌, ℕ, List, [], ◌∷◌, ◌++◌, Option, Some, None, Ok, All, false}
use Rattle.hall_policy.specs.World.{World}
use Rattle.hall_policy.specs.declared.request.Request.{Request}
use Rattle.hall_store.specs.Store.{Content, IsSettled, Leads, LeavesOneOf, Over, WritesOnce}
use Rattle.hall_desk.specs.Plans.{WritesIfAny}
use Rattle.hall_desk.specs.Run.{IsTimed, Run}
use Rattle.hall_desk.specs.Wanted.{MayWait}
use Rattle.hall_desk.specs.declared.reply.Reply.{Reply}
use Rattle.hall_desk.specs.declared.reply.Reply.TheVariants.{Unavailable as NotServed}
use Rattle.hall_http.specs.Request.{RequestOf, AsksNothing}
use Rattle.hall_http.specs.Reply.{BytesOf}
use Rattle.hall_http.specs.Answered.{Answers, IsRefused, answer_text}
use Rattle.hall_http.specs.declared.answer.Answer.TheVariants.{Unavailable as NoStore}
use Rattle.hall_http.specs.Connection.{Exchange, Session}

-- the request is answered at the moment; where the clock told none, by 503, and the world stays
abbrev pub AnswersAt : World → Option ℕ → List ℕ → List ℕ → World → Type 0
AnswersAt world (Some moment) request reply after = Answers world moment request reply after
AnswersAt world None request reply after = BytesOf NotServed reply × (after ≡ world)

-- the same over a store, which stays as it is where the request asks nothing of it, or the clock told no moment; at
-- most one write was made, and none for a request that has nothing to write
pub record IsAnsweredOver {H : Type 0} (content : H → Content) (old : H) (moment : Option ℕ) (request reply : List ℕ)
    (new : H) : Type 0 where
  pub leads : Leads (content old) (content new)
  pub once : WritesOnce (content old) (content new)
  pub quiet : (t : ℕ) (asked : Request) → moment ≡ Some t → RequestOf request (Ok asked) →
      WritesIfAny (content old) t asked (content new)
  pub stops : LeavesOneOf (λ before left.
      (made : List ℕ) × ((made ≡ reply) ⊎ BytesOf NotServed reply) × AnswersAt before moment request made left)
      (content old) (content new)
  pub settled : IsSettled (content new)
  pub answers : (content new).honest →
      Over (λ before after. AnswersAt before moment request reply after) (content old) (content new)
  pub untouched : AsksNothing request ⊎ (moment ≡ None) → new ≡ old

-- the bytes are a request of the hall that needs a search, or asks for a table or for all answers, so that it may be
-- kept waiting for it
abbrev pub WaitsForWork : {H : Type 0} → (H → Content) → H → List ℕ → Type 0
WaitsForWork content keeper bytes =
    (request : Request) × RequestOf bytes (Ok request) × MayWait (content keeper) request

-- the requests are answered over a store, one after another, each over the store that the one before it left: where a
-- fault has shut it, by 503, or by what no store decides
abbrev pub AreAnswered : {H : Type 0} → (H → Content) → H → List Exchange → H → Type 0
AreAnswered content = Session (IsAnsweredOver content)

-- after a reply 503 the store serves still, where its device was honest; or it is as it was
abbrev pub GoesOn : {H : Type 0} → (H → Content) → H → List ℕ → H → Type 0
GoesOn content old reply new =
    reply ≡ answer_text NoStore → (new ≡ old) ⊎ ((content new).honest → (content new).serves)

-- the bytes aren't made into a request of the hall: they are none, and their reply names the fault; or no memory or no
-- moment was there for it, and their reply is 503
abbrev pub IsNoRequestMade : Exchange → Type 0
IsNoRequestMade x = ((moment : ℕ) × (x.moment ≡ Some moment) × IsRefused x.request x.reply) ⊎ BytesOf NotServed x.reply

-- the bytes are this request at its moment, and their reply is the step's
pub record IsRequestMade (x : Exchange) (request : ℕ × Request) (reply : Reply) : Type 0 where
  pub moment : x.moment ≡ Some request.0
  pub reads : RequestOf x.request (Ok request.1)
  pub written : BytesOf reply x.reply

-- the requests of the hall among these, in their order, and the replies to them, in theirs
abbrev pub AreRequestsMade : List Exchange → List (ℕ × Request) → List Reply → Type 0
AreRequestsMade [] requests replies = (requests ≡ []) × (replies ≡ [])
AreRequestsMade (x ∷ xs) requests replies =
    (IsNoRequestMade x × AreRequestsMade xs requests replies)
    ⊎ ((request : ℕ × Request) × (reply : Reply) × (later : List (ℕ × Request)) × (rest : List Reply)
    × (requests ≡ request ∷ later) × (replies ≡ reply ∷ rest) × IsRequestMade x request reply
    × AreRequestsMade xs later rest)

-- the requests of the hall, each of its type, have these replies in a run of the hall
pub record IsRunOver (old : World) (xs : List Exchange) (new : World) : Type 0 where
  pub requests : List (ℕ × Request)
  pub replies : List Reply
  pub timed : All IsTimed requests
  pub run : Run old requests replies new
  pub made : AreRequestsMade xs requests replies

-- over a store, the requests of the hall have these replies in a run to some world, which is the store's where it
-- still serves
abbrev pub RunsOver : Content → List Exchange → Content → Type 0
RunsOver old xs new = (last : World) × IsRunOver old.world xs last × (new.serves → new.world ≡ last)

-- One of the requests was answered 503 and made all the same: those before it are a run of the hall, from where that
-- ended an answer to this one leads to this world, and those after it are a run that leaves that.
pub record IsRunWithOne (world : World) (xs : List Exchange) (left : World) : Type 0 where
  pub before : List Exchange
  pub one : Exchange
  pub after : List Exchange
  pub all : xs ≡ before ++ one ∷ after
  pub refused : BytesOf NotServed one.reply
  pub between : World
  pub run : IsRunOver world before between
  pub made : List ℕ
  pub answered : AnswersAt between one.moment one.request made left
  pub stays : IsRunOver left after left

-- the world is the one after these requests, as they were answered; or one that was answered 503 was made all the same
abbrev pub IsLeftOver : World → List Exchange → World → Type 0
IsLeftOver world xs left = IsRunOver world xs left ⊎ IsRunWithOne world xs left

-- What a stop leaves of a store that served before these requests, which were answered so, is a world that they leave.
abbrev pub LeavesRunOver : Content → List Exchange → Content → Type 0
LeavesRunOver old xs new =
    new.honest → old.serves → (left : World) → new.may_leave left → IsLeftOver old.world xs left
