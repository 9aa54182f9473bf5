use Rattle.std.proofs.Common.{◌∙◌, ap, length, refl}
use Rattle.std.proofs.lemmas.List.{length_push}
use Rattle.hall_http.proofs.event_loop.Schedule.seat.Goals as goal

pub returns-clause-handed_out : goal.returns-clause-handed_out
returns-clause-handed_out g c =
    let given = c.seat-before.ensures in (
      record {
        fresh = (c.new.ensures.number ∙ ap length given.before, c.new.ensures.untouched);
        count = ap length given.seated ∙ length_push c.args.self.now.places.seated.items _;
        most = given.most;
        place = (c.args.self.now.places.heard, refl, given.seated, given.known);
        gone = given.let_go;
        freed = given.freed;
        heard = given.heard;
      },
      λ same. absurd cc,
      given.elapsed,
    )
