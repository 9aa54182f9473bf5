use Rattle.std.proofs.Common.{◌≡◌, map, take}
use Rattle.std.specs.List.{list_any}
use Rattle.httparse.specs.Spans.{header_bytes}
use Rattle.hall_http.specs.Head.{says_close}
use Rattle.hall_http.proofs.head.have_close.Given as goal

abbrev pub invariant-loop-header : goal.invariant-loop-header
invariant-loop-header l = l.found ≡ list_any says_close (map (header_bytes l.bytes) (take l.header-index l.headers))
