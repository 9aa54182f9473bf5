-- What is done with a hall, on a machine, over stores with some content, readers and writers: where it leads, and how
-- it ends.
use Rattle.std.specs.Prelude.{◌≡◌, ◌⊎◌, ℕ, List, [], Option, Some, None, Result, Ok, Err}
use Rattle.hall_grid.specs.Device.{Tally}
use Rattle.hall_store.specs.Store.{Content, Kept}
use Rattle.hall_desk.specs.Census.{census_of}
use Rattle.hall_desk.specs.declared.census.Census.{Census}
use Rattle.hall_http.specs.Crowd.{AreServedAtTurns, EndsServing, Past}
use Rattle.hall_http.specs.declared.server.ServeAllEnd.{ServeAllEnd}
use Rattle.hall_http.specs.declared.server.ServeAllEnd.TheVariants as end
use Rattle.hall_tool.specs.InitText.{IsInitRun}
use Rattle.hall_tool.specs.Machine.{Hosts, Kinds, OnHost}
use Rattle.hall_tool.specs.ReplayRun.{IsReplayRun}
use Rattle.hall_tool.specs.TableText.{IsTableRun}
use Rattle.hall_tool.specs.declared.fault.CommandFault.{CommandFault}
use Rattle.hall_tool.specs.declared.fault.CommandFault.TheVariants.{Client, Port, Tool}
use Rattle.hall_tool.specs.declared.fault.ToolFault.{ToolFault}
use Rattle.hall_tool.specs.declared.fault.ToolFault.TheVariants.{Memory, Store}

-- a fault of what is done is a fault of the command
abbrev pub command_end : Result ℕ ToolFault → Result ℕ CommandFault
command_end (Ok status) = Ok status
command_end (Err fault) = Err (Tool fault)

-- this is done over the store and the writer, and neither the machine nor the reader is asked
abbrev pub DoesOnStore : {N S R W : Type 0} → Kinds S R W
    → (Content → Content → Tally W → Tally W → Result ℕ ToolFault → Type 0) → OnHost N S R W → OnHost N S R W
    → Result ℕ CommandFault → Type 0
DoesOnStore k Done before after result =
    (ended : Result ℕ ToolFault)
    × Done (k.content before.stand.kept) (k.content after.stand.kept) before.stand.writer after.stand.writer ended
    × (result ≡ command_end ended) × (after.host ≡ before.host) × (after.stand.reader ≡ before.stand.reader)

-- the people of the list are imported
abbrev pub DoesInit : {N S R W : Type 0} → Kinds S R W → List ℕ → OnHost N S R W → OnHost N S R W
    → Result ℕ CommandFault → Type 0
DoesInit k list = DoesOnStore k (IsInitRun k list)

-- the table of the round is written
abbrev pub DoesTable : {N S R W : Type 0} → Kinds S R W → List ℕ → OnHost N S R W → OnHost N S R W
    → Result ℕ CommandFault → Type 0
DoesTable k round = DoesOnStore k (IsTableRun k round)

-- the people of the list are imported, and the records of the reader are answered; the machine isn't asked
abbrev pub DoesReplay : {N S R W : Type 0} → Kinds S R W → List ℕ → OnHost N S R W → OnHost N S R W
    → Result ℕ CommandFault → Type 0
DoesReplay k list before after result =
    (ended : Result ℕ ToolFault) × IsReplayRun k list before.stand after.stand ended
    × (result ≡ command_end ended) × (after.host ≡ before.host)

-- what is to be served: the hall in the file at the path, on the port, for so many connections
pub record Service : Type 0 where
  pub path : List ℕ
  pub port : ℕ
  pub connections : ℕ

-- the hall in the file at this path, on this port, for so many connections
abbrev pub service : List ℕ → ℕ → ℕ → Service
service path port connections = record { path = path; port = port; connections = connections }

-- 0 after the last connection; a fault where no more could come in, or the store serves no more
abbrev pub serve_end : ServeAllEnd → Result ℕ CommandFault
serve_end end.Served = Ok 0
serve_end end.Refused = Err Client
serve_end end.Shut = Err (Tool Store)

-- The people and the rounds of the store were counted, and its world stayed; or, where nothing is told, that alone.
abbrev pub IsCensusTaken : Content → Content → Option Census → Type 0
IsCensusTaken old new (Some census) = Kept old new × (new.honest → new.serves × (census ≡ census_of new.world))
IsCensusTaken old new None = Kept old new

-- The machine was asked once to listen, on the port, for so many connections. It listened there, was told that the hall
-- in the file at the path is served, and how many people and rounds it knows or nothing of that, and showed a clock;
-- and then the connections were served over the store, each at turns of its place, which were given fairly, and the
-- machine was handed back the sockets and told of all that came. Or memory was refused then, and the machine was handed
-- back the sockets as it had handed them out, and told that none came. Or the machine refused, and the store is as it
-- was. Neither reader nor writer is asked.
abbrev pub DoesServe : {N L C P S R W : Type 0} → Hosts N L C P → (S → Content) → Service → OnHost N S R W
    → OnHost N S R W → Result ℕ CommandFault → Type 0
DoesServe {N} {L} {C} {P} {S} h content offered before after result =
    (((listening told : N) × (later : S) × (census : Option Census) × (sockets : L) × (clock : C)
    × h.host.listens before.host offered.port offered.connections sockets listening
    × IsCensusTaken (content before.stand.kept) (content later) census
    × h.host.tells listening offered.port offered.path census told × h.host.shows told clock
    × (((left : L) × (late : C) × (gone : List (Past P)) × (e : ServeAllEnd)
    × AreServedAtTurns content h.clock.now_gives h.peer.traffic e ((later, clock), h.sockets.said sockets)
    ((after.stand.kept, late), h.sockets.said left) gone
    × EndsServing h.sockets.is_over h.sockets.said h.peer.traffic e sockets left gone × h.sockets.is_fair left
    × h.host.ends told left gone after.host × (result ≡ serve_end e))
    ⊎ (h.host.ends told sockets [] after.host × (after.stand.kept ≡ later) × (result ≡ Err (Tool Memory)))))
    ⊎ (h.host.refuses before.host offered.port after.host × (after.stand.kept ≡ before.stand.kept)
    × (result ≡ Err Port)))
    × (after.stand.reader ≡ before.stand.reader) × (after.stand.writer ≡ before.stand.writer)
