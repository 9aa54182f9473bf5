use Rattle.std.proofs.Common.{◌≡◌, take}
use Rattle.hall_sql.specs.PathCalls.{noted}
use Rattle.hall_sql.proofs.file_calls.note.Given as goal

abbrev pub invariant-loop-byte : goal.invariant-loop-byte
invariant-loop-byte l = noted l.list ≡ take l.byte-index l.bytes
