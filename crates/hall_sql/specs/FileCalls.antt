-- The calls of a file, as the kit reads them.
use Rattle.std.specs.Prelude.{ℕ, List, map, reverse}
use Rattle.sqlite_disk.specs.Events as events
use Rattle.sqlite_disk.specs.Events.{Event}
use Rattle.hall_sql.specs.PathCalls.{noted}
use Rattle.hall_sql.specs.declared.file_calls.FileCall.{FileCall}
use Rattle.hall_sql.specs.declared.file_calls.FileCall.TheVariants.{Settled, Measured, Read, ReadUnder, Written, Cut, Flushed}
use Rattle.hall_sql.specs.declared.file_calls.FileCalls.{FileCalls}

-- a call, with the bytes that were read or given
abbrev pub event_of : FileCall → List ℕ → Event
event_of (Settled key) bytes = events.settled key
event_of (Measured ok len) bytes = events.measured ok len
event_of (Read at n ok) bytes = events.read at n ok bytes
event_of (ReadUnder key want at n ok) bytes = events.read_under key want at n ok bytes
event_of (Written at ok n) bytes = events.written at bytes ok n
event_of (Cut len ok n) bytes = events.cut len ok n
event_of (Flushed ok n) bytes = events.flushed ok n

-- the calls so far, the newest first
abbrev pub history_of : FileCalls → List Event
history_of calls = reverse (map (λ one. event_of one.0 (noted one.1)) calls.log.items)
