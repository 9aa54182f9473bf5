use Rattle.std.proofs.Common.{◌≡◌, ◌<◌, length, get_or, ◌∙◌, arith}
use Rattle.std.proofs.lemmas.List.{get_or_default}
use Rattle.hall_nurikabe.proofs.IsFound.{Grouping-step, IsGroup-whole, few_found}
use Rattle.hall_nurikabe.proofs.group.find.Goals as goal

pub loop-at-smaller : goal.loop-at-smaller
loop-at-smaller c =
    let few = few_found c.args.position.now.puzzle.now.size c.args.position.now.partial.now.places c.args.value
    c.loop-at.group.places.items c.loop-at.group.cells.items c.loop-at.group.exits c.loop-at.invariant.found in
    omega (arith, few, c.len.ensures)

pub loop-at-preserved : goal.loop-at-preserved
loop-at-preserved c =
    let low : c.loop-at.at < length c.loop-at.group.cells.items = omega (arith, c.len.ensures) in
    let is : c.index-cell.result.now ≡ get_or c.loop-at.group.cells.items c.loop-at.at 0 =
    c.index-cell.ensures ∙ get_or_default c.loop-at.group.cells.items c.loop-at.at c.index-cell.result.now 0 low in
    Grouping-step c.args.position.now.puzzle.now.size c.args.position.now.partial.now.places c.args.value c.args.from
    c.loop-at.group.places.items _ c.loop-at.group.cells.items _ c.loop-at.group.exits _ c.loop-at.at
    c.index-cell.result.now
    low is c.in_ok-see_round.ensures c.loop-at.invariant

pub returns : goal.returns
returns c =
    IsGroup-whole c.args.position.now.puzzle.now.size c.args.position.now.partial.now.places c.args.value c.args.from
    c.loop-at.group.places.items c.loop-at.group.cells.items c.loop-at.group.exits c.loop-at.at
    (omega (arith, c.len.ensures)) c.loop-at.invariant
