-- A request has one answer.
use Rattle.std.specs.Prelude.{◌≡◌, ◌≢◌, ℕ}
use Rattle.hall_policy.specs.World.{World}
use Rattle.hall_policy.specs.declared.record.PuzzleKey.{PuzzleKey}
use Rattle.hall_policy.specs.declared.request.Action.TheVariants.{Certify}
use Rattle.hall_policy.specs.declared.request.Request.{Request}
use Rattle.hall_desk.specs.Run.{IsTimed}
use Rattle.hall_desk.specs.Sane.{Sane}
use Rattle.hall_desk.specs.Step.{Asked, IsAnswered, Step}
use Rattle.hall_desk.specs.declared.reply.Reply.{Reply}
use Rattle.hall_desk.specs.declared.reply.Reply.TheVariants as reply

-- a sane world answers a moment and a request of their types, with what a search would find, by one reply and one next
-- world
abbrev pub AnswersAgree : Type 0
AnswersAgree =
    (world : World) (asked : Asked) (given other : Reply) (new next : World) → Sane world →
    IsTimed (asked.moment, asked.request) → IsAnswered world asked given new → IsAnswered world asked other next →
    (given ≡ other) × (new ≡ next)

-- two steps from a sane world by one moment and request, neither of them Unavailable, have one reply and one next
-- world, whatever searches would find; only a Certify runs one
abbrev pub StepsAgree : Type 0
StepsAgree =
    (world : World) (t : ℕ) (request : Request) (given other : Reply) (new next : World) → Sane world →
    IsTimed (t, request) → ((key : PuzzleKey) (budget : ℕ) → request.action ≢ Certify key budget) →
    Step world t request given new → Step world t request other next →
    given ≢ reply.Unavailable → other ≢ reply.Unavailable → (given ≡ other) × (new ≡ next)
