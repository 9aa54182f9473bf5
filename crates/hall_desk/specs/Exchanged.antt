-- A list of requests in which two answers to a sealed round are exchanged, and its replies.
use Rattle.std.specs.Prelude.{◌≡◌, ◌<◌, ℕ, List, [], ◌∷◌, Some, None, map, All, IsTrue, if◌then◌else◌}
use Rattle.std.specs.FinMap.{get}
use Rattle.hall_policy.specs.World.{World, end_of, same_text}
use Rattle.hall_policy.specs.OwnAlike.{exchanged}
use Rattle.hall_policy.specs.declared.record.AnswerKey.{AnswerKey}
use Rattle.hall_policy.specs.declared.record.Round.{Round}
use Rattle.hall_policy.specs.declared.request.Action.{Action}
use Rattle.hall_policy.specs.declared.request.Action.TheVariants.{Answers}
use Rattle.hall_policy.specs.declared.request.Request.{Request}
use Rattle.hall_desk.specs.Shown.{is_sealed}
use Rattle.hall_desk.specs.declared.reply.AnswerLine.{AnswerLine}
use Rattle.hall_desk.specs.declared.reply.Reply.{Reply}
use Rattle.hall_desk.specs.declared.reply.Reply.TheVariants as reply

-- in the round r the text a stands for b, and b for a
abbrev pub swapped : List ℕ → List ℕ → List ℕ → List ℕ → List ℕ → List ℕ
swapped r a b round text =
    if same_text round r then (if same_text text a then b else (if same_text text b then a else text)) else text

-- the request with the text of its answer, where it hands one in, read by `ex`
abbrev pub exchanged_request : (List ℕ → List ℕ → List ℕ) → Request → Request
exchanged_request ex request = record { key = request.key; action = exchanged ex request.action }

-- the list in which a stands for b and b for a, wherever one of them is the answer that is handed in to the round r
abbrev pub exchanged_list : List ℕ → List ℕ → List ℕ → List (ℕ × Request) → List (ℕ × Request)
exchanged_list r a b list = map (λ asked. (asked.0, exchanged_request (swapped r a b) asked.1)) list

-- a line of a listing with its text read by `ex`
abbrev pub exchanged_line : (List ℕ → List ℕ) → AnswerLine → AnswerLine
exchanged_line ex line = record line { answer = ex line.answer }

-- the reply, with the texts read by `ex` where it lists the answers to a round
abbrev pub exchanged_reply : (List ℕ → List ℕ → List ℕ) → Action → Reply → Reply
exchanged_reply ex (Answers round) (reply.Answers lines) = reply.Answers (map (exchanged_line (ex round)) lines)
exchanged_reply ex _ given = given

-- the replies to the list, where a stands for b and b for a wherever one of them is listed as an answer to the round r
abbrev pub exchanged_replies : List ℕ → List ℕ → List ℕ → List (ℕ × Request) → List Reply → List Reply
exchanged_replies r a b [] replies = []
exchanged_replies r a b (asked ∷ rest) [] = []
exchanged_replies r a b (asked ∷ rest) (given ∷ replies) =
    exchanged_reply (swapped r a b) asked.1.action given ∷ exchanged_replies r a b rest replies

-- the round is sealed and released, it has no answer, and isn't over at any moment of the list
pub record IsSealedRound (world : World) (r : List ℕ) (round : Round) (list : List (ℕ × Request)) : Type 0 where
  pub kept : get world.rounds r ≡ Some round
  pub released : IsTrue round.released
  pub sealed : IsTrue (is_sealed round.mode)
  pub none : (key : AnswerKey) → key.round ≡ r → get world.answers key ≡ None
  pub before : All (λ asked. asked.0 < end_of round) list
