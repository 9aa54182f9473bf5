use Rattle.std.proofs.Common.{◌∙◌, ap, inl}
use Rattle.hall_desk.specs.Searches.{SearchesView}
use Rattle.hall_desk.proofs.under_way.Searches.begin.Goals as goal

pub returns-clause-begun : goal.returns-clause-begun
returns-clause-begun c =
    let (inside, room, free) = c.in-Some.ensures.some in
    let (b, asked, after) = c.put.ensures.put in
    let new = c.in_ok-search.ensures in
    inl (record {
      place = c.in-Some.place;
      inside = inside;
      room = room;
      a = b;
      is = record {
        key = asked.key;
        name = asked.name;
        of = asked.of ∙ new.puzzle;
        within = asked.within ∙ new.budget;
        made = asked.made ∙ new.visits;
        last = asked.last;
      };
      put = ap (λ (v : SearchesView). v.places) after;
    })
