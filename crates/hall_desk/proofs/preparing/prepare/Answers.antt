use Rattle.std.proofs.Common.{inl, inr}
use Rattle.hall_desk.proofs.Copied.{copies_kept}
use Rattle.hall_desk.proofs.preparing.prepare.Goals as goal

pub returns-in-Table-clause-waits : goal.returns-in-Table-clause-waits
returns-in-Table-clause-waits g c = λ waits. inl (c.prepare_table.ensures.waits (c.unless_failed.ensures waits))

pub returns-in-Answers-clause-waits : goal.returns-in-Answers-clause-waits
returns-in-Answers-clause-waits g c = λ waits.
    inr (inl (c.prepare_listing.ensures.waits (c.unless_failed-in-Answers.ensures waits)))

pub returns-in-Answers-clause-copied : goal.returns-in-Answers-clause-copied
returns-in-Answers-clause-copied g c =
    let left = copies_kept _ _ c.args.copies.now c.prepare_listing.ensures.kept c.requires in
    record {
      tables = left.tables;
      round = left.round;
      tabling = left.tabling;
      listings = c.prepare_listing.ensures.listed;
    }

pub returns-in_default : goal.returns-in_default
returns-in_default g c =
    let searched = c.prepare_search.ensures in
    record {
      kept = searched.kept;
      untouched = searched.untouched;
      copied = copies_kept _ _ c.args.copies.now searched.kept c.requires;
      ready = searched.ready;
      waits = λ waits. inr (inr (searched.waits waits));
    }
