-- The machine that the program runs on.
use Rattle.std.specs.Prelude.{◌≡◌, ℕ, List, [], ◌∷◌, map}
use Rattle.std.specs.Net.Addr.{ipv4_octets}
use Rattle.std.specs.Net.Socket.{v4_ip, v4_port}
use Rattle.std.specs.declared.net.socket_addr.SocketAddr.{SocketAddr}
use Rattle.std.specs.declared.net.socket_addr.SocketAddr.TheVariants.{V4, V6}
use Rattle.hall_grid.specs.Device.{Tally}
use Rattle.hall_http.specs.Crowd.{Past}
use Rattle.hall_http.specs.EventLoop.{IsFreshLoop}
use Rattle.hall_http.specs.declared.event_loop.EventLoop.{EventLoop}
use Rattle.hall_http.specs.declared.socket.Socket.{Socket}
use Rattle.hall_http.specs.declared.host.SystemHost.{SystemHost}

-- where it tells what it has to tell
abbrev pub told_on : {N E : Type 0} → SystemHost N E → Tally E
told_on host = host.error

-- a device that wasn't called yet
abbrev pub uncalled : {D : Type 0} → D → Tally D
uncalled device = record { device = device; calls = 0; failures = 0 }

-- the connections that came to its sockets, at each time that it listened
abbrev pub ended : {N E : Type 0} → SystemHost N E → List (List (Past Socket) × EventLoop N E)
ended host = map (λ one. (one.0.items, one.1)) host.ended.items

-- it told nothing, and it was told of no connections
abbrev pub TellsNothing : {N E : Type 0} → SystemHost N E → SystemHost N E → Type 0
TellsNothing old new = (told_on new ≡ told_on old) × (ended new ≡ ended old)

-- the address is 127.0.0.1 with this port
abbrev pub IsLocal : ℕ → SocketAddr → Type 0
IsLocal port (V4 address) = (ipv4_octets (v4_ip address) ≡ 127 ∷ 0 ∷ 0 ∷ 1 ∷ []) × (v4_port address ≡ port)
IsLocal port (V6 address) = ⊥

-- it was asked to listen, for clients of this machine alone, on the port, for so many connections, of which none has
-- come yet
abbrev pub ListensOn : {N E : Type 0} → ℕ → ℕ → EventLoop N E → Type 0
ListensOn port connections sockets =
    (address : SocketAddr) × IsLocal port address × IsFreshLoop address connections sockets
