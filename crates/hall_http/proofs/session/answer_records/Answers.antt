use Rattle.std.proofs.Common.{◌∙◌, ℕ, List, refl, ap, sym, subst, arith}
use Rattle.hall_desk.specs.Desk.{kept_by}
use Rattle.hall_http.proofs.Turns.{Kept, kept_start, kept_read, kept_answered, unsent}
use Rattle.hall_http.proofs.Turns.{unread_device, never_record, at_end, too_many}
use Rattle.hall_http.proofs.Runs.{answered_at}
use Rattle.hall_http.proofs.session.answer_records.Goals as goal

pub records-init : goal.records-init
records-init g c = record {
  few = omega arith;
  reader = refl;
  writer = refl;
  kept = subst (λ (unread : List ℕ). Kept g.S.ReadStore.content
      (g.R.Read.remaining c.args.reader.now.device) (g.R.Read.remaining c.args.reader.now.device)
      (g.W.Write.contents c.args.writer.now.device) (g.W.Write.contents c.args.writer.now.device)
      (kept_by c.args.desk.now) (kept_by c.args.desk.now) unread 0
      c.args.reader.now.calls c.args.reader.now.calls)
      (sym c.requires) (kept_start g.S.ReadStore.content _ _ (kept_by c.args.desk.now) _ c.at_rest.ensures);
}

pub returns-in-Err : goal.returns-in-Err
returns-in-Err g c =
    let (r, late, whole) = rw c.unread.ensures at c.in-Whole.ensures in
    let says = rw (c.unread-in-Whole.ensures, ← late) at
    (answered_at g.S.ReadStore.content (kept_by c.records.desk) _ _ _ (kept_by c.answer_bytes-answer.new.desk)
    c.answer_bytes-answer.ensures.leads c.answer_bytes-answer.ensures.once c.answer_bytes-answer.ensures.quiet
    c.answer_bytes-answer.ensures.stops c.at_rest-in-Whole.ensures c.answer_bytes-answer.ensures.answers
    (λ nothing. ap kept_by (c.answer_bytes-answer.ensures.untouched nothing))) in
    unsent _ _ _ _ _ _ _ _ _ _ _ c.records.invariant.kept r c.in-Whole.start c.in-Whole.end _ _ whole says _
    _ _ _ _ c.records.invariant.few c.in-Err.ensures.part
    (c.records.invariant.reader, rw c.records.invariant.writer at c.in-Err.ensures.device)

pub records-preserved-in-Ok : goal.records-preserved-in-Ok
records-preserved-in-Ok g c =
    let (r, late, whole) = rw c.unread.ensures at c.in-Whole.ensures in
    let says = rw (c.unread-in-Whole.ensures, ← late) at
    (answered_at g.S.ReadStore.content (kept_by c.records.desk) _ _ _ (kept_by c.answer_bytes-answer.new.desk)
    c.answer_bytes-answer.ensures.leads c.answer_bytes-answer.ensures.once c.answer_bytes-answer.ensures.quiet
    c.answer_bytes-answer.ensures.stops c.at_rest-in-Whole.ensures c.answer_bytes-answer.ensures.answers
    (λ nothing. ap kept_by (c.answer_bytes-answer.ensures.untouched nothing))) in
    record {
      few = c.records.invariant.few;
      reader = c.records.invariant.reader;
      writer = c.in-Ok.ensures.same ∙ c.records.invariant.writer;
      kept = rw c.pass.ensures
          (kept_answered _ _ _ _ _ _ _ _ _ _ _ c.records.invariant.kept r c.in-Whole.start c.in-Whole.end _ _ whole says
          _ c.in-Ok.ensures.written);
    }

pub records-preserved : goal.records-preserved
records-preserved g c =
    let (piece, some, few, same, more, steady) = rw c.in-Ok-true.field-0-test at c.in-Ok-true.ensures.read in
    record {
      few = omega (arith, c.records.invariant.few, c.if-reads-eq-READ_LIMIT.false);
      reader = steady ∙ c.records.invariant.reader;
      writer = c.records.invariant.writer;
      kept = rw same (kept_read _ _ _ _ _ _ _ _ _ _ _ c.records.invariant.kept _ piece _
          (rw c.unread.ensures at c.in-More.ensures) some few more c.read_more.ensures.asked);
    }

pub returns-in-Err-Device : goal.returns-in-Err-Device
returns-in-Err-Device g c =
    let (same, none, rose) = rw c.in-Err-Device.field-0-is at c.in-Err-Device.ensures.read in
    unread_device _ _ _ _ _ _ _ _ _ _ _ c.records.invariant.kept _ _ _ _ (rw c.unread.ensures at c.in-More.ensures)
    (omega (arith, c.records.invariant.few, c.if-reads-eq-READ_LIMIT.false)) _ _ c.read_more.ensures.asked none
    (rw c.records.invariant.reader at rose, c.records.invariant.writer)

pub returns-in-Never : goal.returns-in-Never
returns-in-Never g c =
    never_record _ _ _ _ _ _ _ _ _ _ _ c.records.invariant.kept _ _ _ _ c.records.invariant.few
    (rw c.unread.ensures at c.in-Never.ensures) (c.records.invariant.reader, c.records.invariant.writer)

pub returns-then-reads-eq-READ_LIMIT : goal.returns-then-reads-eq-READ_LIMIT
returns-then-reads-eq-READ_LIMIT g c =
    too_many _ _ _ _ _ _ _ _ _ _ _ c.records.invariant.kept _ _ _ _ (rw c.unread.ensures at c.in-More.ensures)
    c.if-reads-eq-READ_LIMIT.true (c.records.invariant.reader, c.records.invariant.writer)

pub returns-in-Ok-false : goal.returns-in-Ok-false
returns-in-Ok-false g c =
    let ends = rw c.in-Ok-false.field-0-test at c.in-Ok-false.ensures.read in
    at_end _ _ _ _ _ _ _ _ _ _ _ c.records.invariant.kept _ _ _ _ (rw c.unread.ensures at c.in-More.ensures)
    (omega (arith, c.records.invariant.few, c.if-reads-eq-READ_LIMIT.false)) _ _ c.read_more.ensures.asked
    c.end_of_input.result c.read_more.new.self (rw c.records.invariant.reader at ends) c.records.invariant.writer
    (rw c.unread-in-Ok-false.ensures at c.end_of_input.ensures)
