use Rattle.std.proofs.Common.{refl}
use Rattle.hall_sql.specs.Feed.{noted}
use Rattle.hall_sql.proofs.LookedLemmas.{looked_more, noted_more}
use Rattle.hall_sql.proofs.looks.LookedGiveRow.give.Goals as goal

pub invariant_of-looked-2 : goal.invariant_of-looked-2
invariant_of-looked-2 g c =
    let rows = noted c.looked.inside.rows.items in
    let is = c.in_ok-unread.ensures.unread in
    rw (c.and-looked-inside.ensures, noted_more) (looked_more g.C.Tell.tells g.C.Tell.is_unread rows c.args.row.now
    c.looked.inside.is_any_unread c.in_ok-unread.unread c.looked.inside.told c.tell.new.self c.looked.invariant
    (λ none told. rw (is, none) at c.tell.ensures.told rows told)
    (λ unread. (rw (is, unread) at c.tell.ensures.unread) refl))
