-- How much the server takes on.
use Rattle.std.specs.Prelude.{ℕ}

-- the requests of a connection that are answered
abbrev pub most_requests : ℕ
most_requests = 1000

-- the reads of a connection that give bytes, but for those that are read off after its end
abbrev pub most_reads : ℕ
most_reads = 100000

-- the bytes of a connection that wait
abbrev pub most_waiting : ℕ
most_waiting = 81920

-- the connections that are here at once
abbrev pub most_connections : ℕ
most_connections = 500

-- the requests that are answered together
abbrev pub most_joined : ℕ
most_joined = 64

-- the requests that are taken off at a time: three alone, and then these
abbrev pub most_answered : ℕ
most_answered = 67

-- the milliseconds between two looks at the clock that count against a patience
abbrev pub most_counted : ℕ
most_counted = 1000

-- the milliseconds that one has waited before it may make room for a newcomer
abbrev pub least_stay : ℕ
least_stay = 1000

-- the most things that the sockets tell at a time
abbrev pub most_events : ℕ
most_events = 256

-- how often at most they are asked again for what else befell them
abbrev pub most_asked : ℕ
most_asked = 4
