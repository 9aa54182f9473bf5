use Rattle.std.proofs.Common.{◌<◌, length, set, sym, subst, arith}
use Rattle.std.proofs.lemmas.List.{length-set}
use Rattle.hall_slither.specs.declared.colour.Link.{Link}
use Rattle.hall_slither.specs.Colour.{Obeys}
use Rattle.hall_slither.proofs.Turned.{AreTurned-link, Obeys-set}
use Rattle.hall_slither.proofs.colour.Colours.hang.Goals as goal

pub returns-clause-obeyed : goal.returns-clause-obeyed
returns-clause-obeyed c = λ colour obeys differ.
    let links = c.self.inside.links.items in
    let hung : Link = record { to = c.args.upper; differs = c.args.differs; weight = c.index.result.now.weight } in
    let middle = set links c.args.lower hung in
    let link = c.index-link.result.now in
    let first = Obeys-set links c.args.lower hung colour (subst (λ xs. Obeys xs colour) (sym c.self.view_is) obeys)
    (subst (λ xs. c.args.lower < length xs) (sym c.self.view_is) c.requires.lower) differ in
    let low : c.args.upper < length middle = (let size = length-set links c.args.lower hung in let upper = subst
    (λ xs. c.args.upper < length xs) (sym c.self.view_is) c.requires.upper in omega arith) in
    Obeys-set middle c.args.upper (record { to = link.to; differs = link.differs; weight = c.saturating_add.result })
    colour first low
    (AreTurned-link middle c.args.upper link colour first low c.index-link.ensures)
