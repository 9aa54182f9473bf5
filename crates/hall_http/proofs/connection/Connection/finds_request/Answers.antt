use Rattle.std.proofs.Common.{refl}
use Rattle.hall_http.proofs.Heads.{lent_whole}
use Rattle.hall_http.proofs.connection.Connection.finds_request.Goals as goal

pub returns-in-Whole : goal.returns-in-Whole
returns-in-Whole c =
    let lent = (rw c.unread.ensures at c.in-Whole.ensures).1 in
    (refl, (c.in-Whole.size, lent_whole _ c.in-Whole.request lent))
