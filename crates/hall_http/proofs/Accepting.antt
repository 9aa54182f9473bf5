-- The request at the front of what waits, and its answer.
use Rattle.std.proofs.Common.{◌≡◌, ◌≤◌, refl, inl, ℕ, ◌+◌, List, length, take}
use Rattle.std.specs.Prelude.{Option}
use Rattle.hall_http.specs.Answered.{answer_text}
use Rattle.hall_http.specs.Head.{IsLentBy}
use Rattle.hall_http.specs.Steps.{Accepts, AnswersAt, StandsInFront, then_of}
use Rattle.hall_http.specs.declared.answer.Answer.{Answer}
use Rattle.hall_http.specs.declared.connection.Connection.{Connection}
use Rattle.hall_http.specs.declared.connection.Joined.{Joined}
use Rattle.hall_http.specs.declared.head.RawRequest.{RawRequest}
use Rattle.hall_http.proofs.Endings.{ends_after}
use Rattle.hall_http.proofs.Heads.{lent_whole}

-- what is lent of the bytes stands in front
pub front_lent : (k : Connection) (size : ℕ) (raw : RawRequest) (answer : Answer) → size ≤ length k.inbox
    → IsLentBy (take size k.inbox) raw
    → StandsInFront k (record { size = size; closes = raw.closes; answer = answer })
front_lent k size raw answer inside lent = record {
  whole = lent_whole (take size k.inbox) raw lent;
  inside = inside;
  ends = λ requests. ends_after (take size k.inbox) raw requests lent;
}

-- what was accepted was answered so
pub accepted : {H : Type 0} (answers : H → Option ℕ → List ℕ → List ℕ → H → Type 0) (h i : H) (moment : Option ℕ)
    (k l : Connection) (joined : Joined) → StandsInFront k joined → Accepts k joined l
    → answers h moment (take joined.size k.inbox) (answer_text joined.answer) i → AnswersAt answers moment h k i l
accepted answers h i moment k l joined front is says = inl (record {
  exchange =
      record { request = take joined.size k.inbox; moment = moment; reply = answer_text joined.answer };
  size = joined.size;
  ending = then_of joined.closes (k.requests + 1);
  front = refl;
  exchanged = (front.whole, refl, says);
  reply = is.reply;
  ends = front.ends (k.requests + 1);
  left = is.left;
})
