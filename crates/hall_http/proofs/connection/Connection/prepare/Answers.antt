use Rattle.std.proofs.Common.{take}
use Rattle.hall_http.proofs.Heads.{lent_whole}
use Rattle.hall_http.proofs.Rested.{rests_once}
use Rattle.hall_http.proofs.connection.Connection.prepare.Goals as goal

pub returns-in-Whole-clause-rests : goal.returns-in-Whole-clause-rests
returns-in-Whole-clause-rests g c = rests_once g.H.Responder.rests _ _ c.prepare.ensures.rests

pub returns-in-Whole-clause-waits : goal.returns-in-Whole-clause-waits
returns-in-Whole-clause-waits g c = λ waits.
    let bytes = take c.in-Whole.size c.args.self.now.inbox in
    let lent = (rw c.unread-unread.ensures at c.in-Whole.ensures).1 in
    (c.in-Whole.size, lent_whole bytes c.in-Whole.request lent, c.prepare.ensures.waits waits bytes lent)
