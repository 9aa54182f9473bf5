use Rattle.std.proofs.Common.{◌∙◌, sym, arith}
use Rattle.hall_http.proofs.Cutting.{never_long, none_yet, never_header, not_yet, short_yet, cut_whole}
use Rattle.hall_http.proofs.record.cut_record.Goals as goal

pub returns-then-bytes-gt-HEADER_LIMIT : goal.returns-then-bytes-gt-HEADER_LIMIT
returns-then-bytes-gt-HEADER_LIMIT c =
    never_long c.args.bytes.now (sym c.place_of.ensures ∙ c.in_default.is) c.if-bytes-gt-HEADER_LIMIT.true

pub returns-in_default : goal.returns-in_default
returns-in_default c = (
  none_yet c.args.bytes.now (sym c.place_of.ensures ∙ c.in_default.is),
  omega
      (arith, c.if-bytes-gt-HEADER_LIMIT.false),
)

pub returns-in_default-header_of : goal.returns-in_default-header_of
returns-in_default-header_of c =
    never_header c.args.bytes.now c.in-Some.place (sym c.place_of.ensures ∙ c.in-Some.is)
    (sym (rw c.in_default-header_of.is at c.header_of.ensures))

pub returns-then-bytes-start : goal.returns-then-bytes-start
returns-then-bytes-start c =
    let found = sym c.place_of.ensures ∙ c.in-Some.is in
    let reads = sym (rw c.in-Some-header_of.is at c.header_of.ensures) in
    (not_yet _ _ _ _ found reads (omega arith), short_yet _ _ _ _ found reads (omega arith))

pub returns : goal.returns
returns c =
    cut_whole c.args.bytes.now c.in-Some.place c.in-Some-header_of.header.moment c.in-Some-header_of.header.size
    (sym c.place_of.ensures ∙ c.in-Some.is) (sym (rw c.in-Some-header_of.is at c.header_of.ensures)) (omega arith)
