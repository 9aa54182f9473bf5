-- A life of a hall: requests that are answered, and lists of people that come by no request, in any order.
use Rattle.std.specs.Prelude.{◌≡◌, ℕ, List, [], ◌∷◌, All}
use Rattle.hall_policy.specs.World.{World}
use Rattle.hall_policy.specs.Lists.{ArePeople}
use Rattle.hall_policy.specs.Ranges.{IsPerson, IsMoment, IsRequest}
use Rattle.hall_policy.specs.declared.record.Person.{Person}
use Rattle.hall_policy.specs.declared.request.Request.{Request}
use Rattle.hall_desk.specs.Step.{Step, Seed}
use Rattle.hall_desk.specs.Run.{Run}
use Rattle.hall_desk.specs.declared.reply.Reply.{Reply}

-- what happens in a hall's life, with its reply: a request comes at a moment, or a list of people comes by no request
pub data Event : Type 0 where
  requested : ℕ → Request → Reply → Event
  seeded : List Person → Reply → Event

-- the event leads from a world to the next: by a step of the hall, or by a seed
abbrev pub Happens : World → Event → World → Type 0
Happens world (requested t request given) next = Step world t request given next
Happens world (seeded people given) next = Seed world people given next

-- a life of the hall, from a world to a last one: one event after another, in any order
abbrev pub History : World → List Event → World → Type 0
History world [] last = last ≡ world
History world (event ∷ rest) last = (next : World) × Happens world event next × History next rest last

-- an event of its types: a moment and a request, or people
abbrev pub IsTyped : Event → Type 0
IsTyped (requested t request given) = IsMoment t × IsRequest request
IsTyped (seeded people given) = ArePeople people × All IsPerson people

-- the events of a run: its requests, each with its reply
abbrev pub events_of : List (ℕ × Request) → List Reply → List Event
events_of [] replies = []
events_of (timed ∷ rest) [] = []
events_of (timed ∷ rest) (given ∷ replies) = requested timed.0 timed.1 given ∷ events_of rest replies

-- each run of the hall is a life of it
abbrev pub RunsAreHistories : Type 0
RunsAreHistories =
    (world last : World) (requests : List (ℕ × Request)) (replies : List Reply) →
    Run world requests replies last → History world (events_of requests replies) last
