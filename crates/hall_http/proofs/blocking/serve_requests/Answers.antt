use Rattle.std.proofs.Common.{◌∙◌, sym, refl}
use Rattle.hall_http.proofs.Handling.{kept_start, kept_looked, kept_fed, kept_written, has_ended, read_failed}
use Rattle.hall_http.proofs.Handling.{write_failed}
use Rattle.hall_http.proofs.Gated.{looks_plain}
use Rattle.hall_http.proofs.blocking.serve_requests.Goals as goal

pub loop-connection-init : goal.loop-connection-init
loop-connection-init g c = record {
  reader = refl;
  writer = refl;
  kept = rw c.new-connection.ensures
      (kept_start _ _ _ _ _ _ _);
}

pub loop-connection-preserved-in-Looking : goal.loop-connection-preserved-in-Looking
loop-connection-preserved-in-Looking g c = record {
  reader = c.loop-connection.invariant.reader;
  writer = c.loop-connection.invariant.writer;
  kept = kept_looked _ _ _ _ _ _ _ _ _ _ _ _ _ c.loop-connection.invariant.kept _ _ _
      (sym c.state.ensures ∙ c.in-Looking.is)
      (looks_plain g.H.Responder.answers g.H.Responder.goes_on g.C.Clock.now_gives _ _ _ _ _ _ _
      c.look-goes_on.ensures);
}

pub loop-connection-preserved-in-Ok : goal.loop-connection-preserved-in-Ok
loop-connection-preserved-in-Ok g c = record {
  reader = c.in-Ok.ensures.fed.0 ∙ c.loop-connection.invariant.reader;
  writer = c.loop-connection.invariant.writer;
  kept = kept_fed _ _ _ _ _ _ _ _ _ _ _ _ _ c.loop-connection.invariant.kept _ _ _ _ _
      (sym c.state.ensures ∙ c.in-Reading.is) c.in-Ok.ensures.fed
      c.feed.ensures.asked;
}

pub returns-in-Err : goal.returns-in-Err
returns-in-Err g c =
    read_failed _ _ _ _ _ _ _ _ _ _ _ _ _ c.loop-connection.invariant.kept _ _ _ _ _ _
    (sym c.state.ensures ∙ c.in-Reading.is) c.in-Err.ensures.taken
    c.feed.ensures.asked (
      rw c.loop-connection.invariant.reader at c.in-Err.ensures.failed,
      c.loop-connection.invariant.writer,
    )

pub loop-connection-preserved : goal.loop-connection-preserved
loop-connection-preserved g c = record {
  reader = c.loop-connection.invariant.reader;
  writer = c.in-Ok-write_parts.ensures.same ∙ c.loop-connection.invariant.writer;
  kept = kept_written _ _ _ _ _ _ _ _ _ _ _ _ _ c.loop-connection.invariant.kept c.in-Writing.field-0 _ _
      (sym c.state.ensures ∙ c.in-Writing.is)
      (rw c.pending.ensures at c.in-Ok-write_parts.ensures.written) c.sent_all.ensures;
}

pub returns-in-Err-write_parts : goal.returns-in-Err-write_parts
returns-in-Err-write_parts g c =
    write_failed _ _ _ _ _ _ _ _ _ _ _ _ _ c.loop-connection.invariant.kept _ _ _ _ _ c.in-Writing.field-0
    (sym c.state.ensures ∙ c.in-Writing.is)
    (rw c.pending.ensures at c.in-Err-write_parts.ensures.part)
    (c.loop-connection.invariant.reader, rw c.loop-connection.invariant.writer at c.in-Err-write_parts.ensures.device)

pub returns-in-Ended : goal.returns-in-Ended
returns-in-Ended g c =
    has_ended _ _ _ _ _ _ _ _ _ _ _ _ _ c.loop-connection.invariant.kept _ _ _ _ c.in-Ended.end
    (sym c.state.ensures ∙ c.in-Ended.is)
    (c.loop-connection.invariant.reader, c.loop-connection.invariant.writer)
