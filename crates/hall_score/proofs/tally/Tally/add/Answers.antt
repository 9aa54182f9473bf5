use Rattle.std.proofs.Common.{refl}
use Rattle.hall_score.proofs.TallyLemmas.{next_takes, next_at}
use Rattle.hall_score.proofs.tally.Tally.add.Goals as goal

pub returns-in-Some : goal.returns-in-Some
returns-in-Some c =
    let entrant = c.in-Some.entrant in
    let next = next_at c.args.self.now.last entrant c.args.row.now c.in-Some.is c.requires in
    next_takes c.args.self.now _ c.args.row.now entrant _ c.in-Some.is next.0 next.1 refl refl refl refl refl
    c.with-entrant.ensures
