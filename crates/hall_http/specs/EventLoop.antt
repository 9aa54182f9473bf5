-- What the event loop was asked for, and what it said.
use Rattle.std.specs.Prelude.{◌≡◌, ◌≢◌, ◌+◌, ℕ, Option, Some, None, [], ◌∷◌, ◌++◌, get_or, length, true, All}
use Rattle.std.specs.declared.net.socket_addr.SocketAddr.{SocketAddr}
use Rattle.http_server.specs.declared.log.Log.{Log}
use Rattle.hall_http.specs.Coming.{Heard, IsFreshPeer, Said, logged, newcomer}
use Rattle.hall_http.specs.Fair.{Owes}
use Rattle.hall_http.specs.Line.{WereLines}
use Rattle.hall_http.specs.Looks.{IsHeardOut}
use Rattle.hall_http.specs.Places.{IsLetGo}
use Rattle.hall_http.specs.Seats.{AreCalled, AreFresh, AreLetGo, IsUnheard, LetsGo, heard_in}
use Rattle.hall_http.specs.Socket.{traffic_of}
use Rattle.hall_http.specs.Waited.{AreSaidRightly}
use Rattle.hall_http.specs.declared.event_loop.EventLoop.{EventLoop}
use Rattle.hall_http.specs.declared.places.Places.{Places}
use Rattle.hall_http.specs.declared.places.Visit.TheVariants.{Ready}
use Rattle.hall_http.specs.declared.server.Next.{Next}
use Rattle.hall_http.specs.declared.server.Next.TheVariants as next
use Rattle.hall_http.specs.declared.socket.Socket.{Socket}

-- all that was to be done, how many newcomers had a place, how many may come, and what was heard of turns
abbrev pub said_by : {N E : Type 0} → EventLoop N E → Said Socket
said_by sockets = record {
  nexts = logged sockets.nexts;
  count = length sockets.schedule.places.seated.items;
  most = sockets.schedule.places.most;
  heard = heard_in sockets.schedule.places;
}

-- a newcomer has the place that was given last, by when so much was heard, and is ready there and has waited for
-- nothing; and else none was given
abbrev pub GivesPlace : Places → Next Socket → Places → Type 0
GivesPlace old (next.Newcomer place peer) new =
    (heard : Log Heard ℕ) × (heard.items ≡ old.heard.items)
    × (new.seated.items ≡ old.seated.items ++ (place, heard) ∷ [])
    × (get_or new.visits.items place None ≡ Some (Ready None))
GivesPlace old _ new = new.seated.items ≡ old.seated.items

-- whoever goes was let go last; and else nobody was
abbrev pub LetsOneGo : Places → Next Socket → Places → Type 0
LetsOneGo old (next.Gone place) new = LetsGo old place new
LetsOneGo old _ new = new.let_go.items ≡ old.let_go.items

-- the place of whoever goes is free again; and else none is
abbrev pub FreesPlace : Places → Next Socket → Places → Type 0
FreesPlace old (next.Gone place) new = (now : ℕ) × (new.freed.items ≡ old.freed.items ++ (place, now) ∷ [])
FreesPlace old _ new = new.freed.items ≡ old.freed.items

-- a newcomer has a place, and the number after those before it; whoever goes is let go, and its place is free again;
-- and nothing is heard of a turn
pub record HandsOut (old : Places) (said : Next Socket) (new : Places) : Type 0 where
  pub fresh : IsFreshPeer traffic_of (length old.seated.items) said
  pub count : length new.seated.items ≡ length old.seated.items + newcomer said
  pub most : new.most ≡ old.most
  pub place : GivesPlace old said new
  pub gone : LetsOneGo old said new
  pub freed : FreesPlace old said new
  pub heard : new.heard.items ≡ old.heard.items

-- so it is where anything is to be done, and it is not the end; else they are still; and no time counts meanwhile
abbrev pub MayHandOut : Places → Option (Next Socket) → Places → Type 0
MayHandOut old (Some said) new = HandsOut old said new × (said ≢ next.End) × (new.elapsed ≡ old.elapsed)
MayHandOut old None new = IsUnheard old new

-- it was to listen on the address for so many connections, may still let in all of them, and has said and heard nothing
-- yet
pub record IsFreshLoop {N E : Type 0} (address : SocketAddr) (connections : ℕ) (sockets : EventLoop N E) : Type 0 where
  pub asked : sockets.asked.items ≡ (address, connections) ∷ []
  pub places : AreFresh connections sockets.schedule.places
  pub nexts : (said_by sockets).nexts ≡ []
  pub heard : (said_by sockets).heard ≡ []
  pub count : (said_by sockets).count ≡ 0
  pub most : (said_by sockets).most ≡ connections

-- Nobody had two turns while another waited for one: a newcomer, or one that could go on after its last. Whoever had a
-- turn, of all that was to be done, was called in one line, in which each stands once, and of which whoever came first
-- goes first. Whoever was let go had expired by then, or made room where all places were taken; it had waited so long
-- by what was heard and asked until then, when all that befell the sockets was heard, unless it had left. And so it is
-- where it may judge now who goes.
pub record IsFair {N E : Type 0} (sockets : EventLoop N E) : Type 0 where
  pub owes : ∥ Owes (logged sockets.nexts) (heard_in sockets.schedule.places) sockets.schedule.ready.waiting.items ∥₁
  pub said : ∥ AreSaidRightly sockets.nexts.items sockets.schedule.places.heard.items sockets.schedule.looks.items ∥₁
  pub called : AreCalled (logged sockets.nexts) sockets.schedule.ready
  pub lines : ∥ WereLines sockets.schedule.ready.motions.items ∥₁
  pub goes : AreLetGo (logged sockets.nexts) sockets.schedule.places
  pub rightly : All (λ one. ∥ IsLetGo one ∥₁) sockets.schedule.places.let_go.items
  pub heard : sockets.schedule.has_heard ≡ true → ∥ IsHeardOut sockets.schedule.looks.items ∥₁
