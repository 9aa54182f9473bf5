use Rattle.std.proofs.Common.{◌↔◌, IsTrue, sym, subst}
use Rattle.hall_desk.specs.Sane.{MayTakePart}
use Rattle.hall_check.specs.Whole.{world_of_whole}
use Rattle.hall_check.proofs.Standing.{takes_part}
use Rattle.hall_check.proofs.ask_answers.may_take_part.Goals as goal

pub returns-in-Some : goal.returns-in-Some
returns-in-Some c = λ ordered.
    let whole = c.args.whole.now in
    let name = c.args.name.now in
    let round = c.args.round.now in
    subst (λ b. IsTrue b ↔ MayTakePart (world_of_whole whole) name round) (sym c.is_free.ensures)
    (takes_part whole ordered name round c.in-Some.person.now c.is_author_in.result c.is_tester.result
    (sym c.in-Some.ensures) c.is_author_in.ensures c.is_tester.ensures)
