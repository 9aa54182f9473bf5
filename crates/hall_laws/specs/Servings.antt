-- One serving of a hall after another, each from a world that a stop of the one before may leave.
use Rattle.std.specs.Prelude.{◌≡◌, ℕ, List, ◌∷◌, ◌++◌, Contains}
use Rattle.hall_policy.specs.World.{World}
use Rattle.hall_policy.specs.declared.record.Person.{Person}
use Rattle.hall_store.specs.Store.{Content}
use Rattle.hall_desk.specs.Step.{Seed}
use Rattle.hall_desk.specs.declared.reply.Reply.{Reply}
use Rattle.hall_http.specs.Connection.{Exchange}
use Rattle.hall_http.specs.Crowd.{AreServed, Past, number_past, traffic_past}
use Rattle.hall_http.specs.Peer.{Traffic}
use Rattle.hall_http.specs.Turns.{of}
use Rattle.hall_http.specs.declared.server.ServeAllEnd.{ServeAllEnd}
use Rattle.hall_laws.specs.Sent.{IsByteOfReply}

-- Connections were served over a store that served, with this world. Its device was honest, and the next open may find
-- this world, were the program stopped then: so says `StopsLeave` of what is found in the files.
pub record Serving {H P : Type 0} (content : H → Content) (traffic : P → Traffic) (world left : World) : Type 0 where
  pub why : ServeAllEnd
  pub before : H
  pub after : H
  pub gone : List (Past P)
  pub served : AreServed content traffic why before after gone
  pub serves : (content before).serves
  pub began : (content before).world ≡ world
  pub honest : (content after).honest
  pub leaves : ∥ (content after).may_leave left ∥₁

-- of the reply to this request at least a byte was sent, on the connection that asked
pub record WasSent {H P : Type 0} {content : H → Content} {traffic : P → Traffic} {world left : World}
    (serving : Serving content traffic world left) (x : Exchange) : Type 0 where
  pub one : Past P
  pub came : Contains serving.gone one
  pub sent : List ℕ
  pub byte : ℕ
  pub more : List ℕ
  pub went : (traffic_past traffic one).went ≡ sent ++ byte ∷ more
  pub is_of : IsByteOfReply (of (number_past traffic one) serving.served.turns) sent byte x

-- From one world to another the hall was served, some times or never, each time from the world that was found, and
-- lists of people came between.
pub data Lasts {H P : Type 0} (content : H → Content) (traffic : P → Traffic) : World → World → Type 0 where
  at_once : (world : World) → Lasts content traffic world world
  by_list : (world next later : World) (people : List Person) (given : Reply) → Seed world people given next
      → Lasts content traffic next later → Lasts content traffic world later
  by_serving : (world left later : World) → Serving content traffic world left → Lasts content traffic left later
      → Lasts content traffic world later
