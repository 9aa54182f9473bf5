-- Which reply a byte that was sent is of.
use Rattle.std.specs.Prelude.{◌≡◌, ℕ, List, ◌∷◌, ◌++◌}
use Rattle.hall_http.specs.Connection.{Exchange, replies_of}
use Rattle.hall_http.specs.Served.{refusal}

-- Where a connection's requests were answered so, the byte that was sent after these is one of the reply to this
-- request.
pub record IsByteOfReply (xs : List Exchange) (sent : List ℕ) (byte : ℕ) (x : Exchange) : Type 0 where
  pub before : List Exchange
  pub after : List Exchange
  pub all : xs ≡ before ++ x ∷ after
  pub front : List ℕ
  pub rest : List ℕ
  pub reply : x.reply ≡ front ++ byte ∷ rest
  pub then : sent ≡ replies_of before ++ front

-- it is one of the reply to bytes that are no request, after all replies
pub record IsByteOfRefusal (xs : List Exchange) (sent : List ℕ) (byte : ℕ) : Type 0 where
  pub front : List ℕ
  pub rest : List ℕ
  pub reply : refusal ≡ front ++ byte ∷ rest
  pub then : sent ≡ replies_of xs ++ front
