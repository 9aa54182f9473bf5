-- A run of the hall: a list of requests, answered one after another.
use Rattle.std.specs.Prelude.{◌≡◌, ◌⊎◌, ◌++◌, ℕ, List, [], ◌∷◌}
use Rattle.hall_policy.specs.World.{World}
use Rattle.hall_policy.specs.Ranges.{IsMoment, IsRequest}
use Rattle.hall_policy.specs.declared.request.Request.{Request}
use Rattle.hall_desk.specs.Step.{Step}
use Rattle.hall_desk.specs.declared.reply.Reply.{Reply}
use Rattle.hall_desk.specs.declared.reply.Reply.TheVariants.{Unavailable}

-- a moment and a request, each of its type
pub record IsTimed (asked : ℕ × Request) : Type 0 where
  pub moment : IsMoment asked.0
  pub request : IsRequest asked.1

-- there is a reply to each request, and a world after each, with a step of the hall between neighbours
abbrev pub Run : World → List (ℕ × Request) → List Reply → World → Type 0
Run world [] [] last = last ≡ world
Run world (asked ∷ rest) (given ∷ replies) last =
    (next : World) × Step world asked.0 asked.1 given next × Run next rest replies last
Run world [] (given ∷ replies) last = ⊥
Run world (asked ∷ rest) [] last = ⊥

-- One of the requests was answered 503 and made all the same: those before it are a run of the hall, it is a step from
-- there to this world, and those after it leave that world.
pub record RunsWithOne (world : World) (requests : List (ℕ × Request)) (replies : List Reply) (left : World) : Type 0
  where
    pub before : List (ℕ × Request)
    pub told : List Reply
    pub asked : ℕ × Request
    pub made : Reply
    pub after : List (ℕ × Request)
    pub rest : List Reply
    pub all_requests : requests ≡ before ++ asked ∷ after
    pub all_replies : replies ≡ told ++ Unavailable ∷ rest
    pub between : World
    pub run : Run world before told between
    pub step : Step between asked.0 asked.1 made left
    pub stays : Run left after rest left

-- the world is the one after the requests, as they were answered; or one that was answered 503 was made all the same
abbrev pub IsLeftBy : World → List (ℕ × Request) → List Reply → World → Type 0
IsLeftBy world requests replies left = Run world requests replies left ⊎ RunsWithOne world requests replies left
