use Rattle.std.proofs.Common.{◌<◌, length, sym, subst}
use Rattle.hall_slither.specs.Colour.{Obeys, AreTurned}
use Rattle.hall_slither.proofs.Turned.{AreTurned-link, AreTurned-twice, to_within}
use Rattle.hall_slither.proofs.colour.Colours.root_of.Goals as goal

pub loop-preserved : goal.loop-preserved
loop-preserved c =
    let links = c.self.inside.links.items in
    let link = c.index-link.result.now in
    let low : c.loop.at < length links = subst (λ xs. c.loop.at < length xs) (sym c.self.view_is)
    c.loop.invariant.within in
    record {
      within = subst (λ xs. link.to < length xs) c.self.view_is
          (to_within links c.loop.at link c.self.invariant low c.index-link.ensures);
      turned = λ colour obeys.
          subst (λ d. AreTurned d c.args.cell link.to colour) (sym c.turned-differs.ensures)
          (AreTurned-twice c.loop.differs link.differs c.args.cell c.loop.at link.to colour
          (c.loop.invariant.turned colour obeys)
          (AreTurned-link links c.loop.at link colour (subst (λ xs. Obeys xs colour) (sym c.self.view_is) obeys) low
          c.index-link.ensures));
    }
