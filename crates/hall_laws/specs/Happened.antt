-- What became of requests that were answered, as part of a hall's life.
use Rattle.std.specs.Prelude.{◌≡◌, ◌⊎◌, ℕ, List, [], ◌∷◌, ◌++◌, Some, Ok}
use Rattle.hall_policy.specs.World.{World}
use Rattle.hall_policy.specs.declared.request.Request.{Request}
use Rattle.hall_desk.specs.History.{Event, requested, History}
use Rattle.hall_desk.specs.Records.{KeptRecords}
use Rattle.hall_desk.specs.declared.reply.Reply.{Reply}
use Rattle.hall_desk.specs.declared.reply.Reply.TheVariants.{Unavailable}
use Rattle.hall_http.specs.Connection.{Exchange}
use Rattle.hall_http.specs.Reply.{BytesOf}
use Rattle.hall_http.specs.Request.{RequestOf}
use Rattle.hall_http.specs.Serving.{AnswersAt, IsNoRequestMade}
use Rattle.hall_http.specs.Turns.{Turn, exchanges_of}

-- the bytes are this request, which was made at their moment; by the reply that they got, or where that was 503 by some
pub record IsEventOf (x : Exchange) (t : ℕ) (request : Request) (given : Reply) : Type 0 where
  pub moment : x.moment ≡ Some t
  pub reads : RequestOf x.request (Ok request)
  pub told : BytesOf given x.reply ⊎ BytesOf Unavailable x.reply

-- the events are those of these requests, in their order, of each at most one: none of bytes of which no request was
-- made, nor of one that was answered 503 and not made
abbrev pub AreEventsOf : List Exchange → List Event → Type 0
AreEventsOf [] events = events ≡ []
AreEventsOf (x ∷ xs) events =
    (IsNoRequestMade x × AreEventsOf xs events)
    ⊎ ((t : ℕ) × (request : Request) × (given : Reply) × (later : List Event)
    × (events ≡ requested t request given ∷ later) × IsEventOf x t request given × AreEventsOf xs later)

-- these requests lead from one world to another, by a life of the hall that has them and nothing else
abbrev pub HaveHappened : World → List Exchange → World → Type 0
HaveHappened world xs last = (events : List Event) × AreEventsOf xs events × History world events last

-- The request is one of all, which is answered as it was in the world to which those before it led; and the records
-- that stay, as they were in the world that it left, stand in this one: its people, answers, protests and rulings,
-- released rounds and their puzzles.
pub record HasLeftRecords (world : World) (xs : List Exchange) (x : Exchange) (later : World) : Type 0 where
  pub front : List Exchange
  pub rest : List Exchange
  pub all : xs ≡ front ++ x ∷ rest
  pub between : World
  pub kept : World
  pub led : HaveHappened world front between
  pub answered : AnswersAt between x.moment x.request x.reply kept
  pub records : KeptRecords kept later

-- The request is one of all, which is answered as it was in the world to which those before it led; and those after it
-- lead from what it left to the last world. So what it changed is there, but for what these changed again.
pub record IsKeptIn (world : World) (turns : List Turn) (turn : Turn) (left : World) : Type 0 where
  pub front : List Turn
  pub rest : List Turn
  pub all : turns ≡ front ++ turn ∷ rest
  pub between : World
  pub kept : World
  pub led : HaveHappened world (exchanges_of front) between
  pub answered : AnswersAt between turn.1.moment turn.1.request turn.1.reply kept
  pub since : HaveHappened kept (exchanges_of rest) left
