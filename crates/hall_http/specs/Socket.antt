-- What a socket was read and was sent.
use Rattle.std.specs.Prelude.{ℕ, List, flat_map, length, take, drop}
use Rattle.hall_http.specs.Outgoing.{outgoing_text}
use Rattle.hall_http.specs.Peer.{Traffic}
use Rattle.hall_http.specs.declared.socket.Socket.{Socket}

-- all bytes that were read of it
abbrev pub came_of : Socket → List ℕ
came_of s = flat_map (λ read. take read.1 read.0) s.reads.items

-- all bytes that it was sent
abbrev pub went_of : Socket → List ℕ
went_of s = flat_map (λ write. take write.1.1 (drop write.1.0 (outgoing_text write.0))) s.writes.items

-- both, how many reads gave the first, how many sockets were handed out before it, whether a read told that no more
-- comes and a write that no more goes, whether it was told that no more is sent, and all calls of it
abbrev pub traffic_of : Socket → Traffic
traffic_of s = record {
  number = length s.before.items;
  came = came_of s;
  reads = length s.reads.items;
  went = went_of s;
  over = s.is_over;
  broke = s.is_broken;
  hung_up = s.is_hung_up;
  calls = s.calls.items;
}
