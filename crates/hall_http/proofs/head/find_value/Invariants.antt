use Rattle.std.proofs.Common.{map, take}
use Rattle.httparse.specs.Spans.{header_bytes}
use Rattle.hall_http.specs.Head.{headers_named, Finds}
use Rattle.hall_http.proofs.head.find_value.Given as goal

abbrev pub invariant-loop-header : goal.invariant-loop-header
invariant-loop-header l = Finds l.found (headers_named l.name
    (map (header_bytes l.bytes) (take l.header-index l.headers)))
