use Rattle.std.proofs.Common.{arith, ◌≡◌, ◌≤◌, ◌<◌, ◌∙◌, sym, refl, length, drop, length-drop, Some}
use Rattle.hall_http.specs.Head.{body_size, headers_of}
use Rattle.httparse.specs.Grammar.{print_request, HasNoRequest, MayBecomeRequest}
use Rattle.httparse.specs.Spans.{IsRequestOf, IsRequestWithin}
use Rattle.hall_http.proofs.Heads.{never_without, lent_at, never_past, never_over, size_at, lacks_body}
use Rattle.hall_http.proofs.Heads.{lacks_body_below, lacks_head, below_none}
use Rattle.hall_http.proofs.head.cut_request.Goals as goal
use Rattle.hall_http.proofs.head.cut_request.Goals.{in_default-via-in-Ok-Partial+else-bytes-lt-HEAD_LIMIT}
use Rattle.hall_http.proofs.head.cut_request.Goals.{in_default-via-in_default}

pub returns-in_default-body_room : goal.returns-in_default-body_room
returns-in_default-body_room c =
    let of : IsRequestOf c.args.bytes.now c.parse_request.new.headers c.in-Ok-Complete.head =
    rw (c.in-Ok-Complete.is, c.in-Ok-Complete.field-0-is) at c.parse_request.ensures.complete in
    let (h, found) = of in
    never_without c.args.bytes.now h _ found.reads (sym (size_at _ _ _ h found) ∙ sym c.body_room.ensures
    ∙ c.in_default-body_room.is)

pub returns-else-bytes-head : goal.returns-else-bytes-head
returns-else-bytes-head c =
    let of : IsRequestOf c.args.bytes.now c.parse_request.new.headers c.in-Ok-Complete.head =
    rw (c.in-Ok-Complete.is, c.in-Ok-Complete.field-0-is) at c.parse_request.ensures.complete in
    let (h, found) = of in
    let size : body_size (length (print_request h)) (headers_of h) ≡ Some c.in-Some.room = sym (size_at _ _ _ h found)
    ∙ sym c.body_room.ensures ∙ c.in-Some.is in
    let all : IsRequestWithin c.args.bytes.now c.parse_request.new.headers c.in-Ok-Complete.head =
    rw (c.in-Ok-Complete.is, c.in-Ok-Complete.field-0-is) at c.parse_request.ensures.within in
    let within = all.section.len_fits in
    let fits : c.in-Some.room ≤ length (drop c.in-Ok-Complete.head.len c.args.bytes.now) = simp length-drop
    c.if-bytes-head.false in (
      omega (arith, within, c.if-bytes-head.false),
      lent_at c.args.bytes.now c.parse_request.new.headers c.in-Ok-Complete.head h c.in-Some.room _ _ _ _ _ found size
          fits
          c.of.ensures c.of-in-Ok-Complete.ensures c.shown_key.ensures refl c.closes_after.ensures,
    )

pub returns-in_default : goal.returns-in_default
returns-in_default c = elim c.in_default.branch [
  | in_default-via-in-Ok-Partial+else-bytes-lt-HEAD_LIMIT w ↦
      let none : HasNoRequest c.args.bytes.now = rw (w.in-Ok-Partial.is, w.in-Ok-Partial.field-0-is) at
      c.parse_request.ensures.partial in
      never_past c.args.bytes.now none w.if-bytes-lt-HEAD_LIMIT.false
  | in_default-via-in_default w ↦ never_over c.args.bytes.now (rw w.in_default.is at c.parse_request.ensures.no_room)
]

pub returns-then-bytes-head : goal.returns-then-bytes-head
returns-then-bytes-head c =
    let of : IsRequestOf c.args.bytes.now c.parse_request.new.headers c.in-Ok-Complete.head =
    rw (c.in-Ok-Complete.is, c.in-Ok-Complete.field-0-is) at c.parse_request.ensures.complete in
    let (h, found) = of in
    let size : body_size (length (print_request h)) (headers_of h) ≡ Some c.in-Some.room = sym (size_at _ _ _ h found)
    ∙ sym c.body_room.ensures ∙ c.in-Some.is in
    let short : length (drop c.in-Ok-Complete.head.len c.args.bytes.now) < c.in-Some.room = simp length-drop
    c.if-bytes-head.true in (
      lacks_body c.args.bytes.now h _ c.in-Some.room found.reads size short,
      rw found.len (lacks_body_below c.args.bytes.now h _ c.in-Some.room found.reads size),
    )

pub returns-in-Ok-Partial : goal.returns-in-Ok-Partial
returns-in-Ok-Partial c =
    let none : HasNoRequest c.args.bytes.now = rw (c.in-Ok-Partial.is, c.in-Ok-Partial.field-0-is) at
    c.parse_request.ensures.partial in
    let may : MayBecomeRequest c.args.bytes.now = rw (c.in-Ok-Partial.is, c.in-Ok-Partial.field-0-is) at
    c.parse_request.ensures.unfinished in
    (lacks_head c.args.bytes.now none may c.if-bytes-lt-HEAD_LIMIT.true, below_none c.args.bytes.now)
