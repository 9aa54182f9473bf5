use Rattle.std.proofs.Common.{subst}
use Rattle.hall_slither.specs.Early.{IsLoop}
use Rattle.hall_slither.proofs.IsLayout.{size_of_board}
use Rattle.hall_slither.proofs.IsTrack.{known_early}
use Rattle.hall_slither.proofs.early.early_side.Goals as goal

pub returns : goal.returns
returns c =
    let board = c.args.puzzle.now in
    let p = c.args.partial.now.places in
    let side = c.in-Some.side in
    let items = c.leads_back.new.passed.items in
    record {
      known = known_early board p side c.in-Some-line_besides.line items c.requires.kind
          (size_of_board board c.requires.kind c.size-size.ensures.board).some_cols c.requires.partial
          c.in-Some.ensures.unset.0
          (subst (λ size. IsLoop size p side items) c.size-size.ensures.size
          (c.in_ok-back.ensures.closes c.if-not-back.false))
          c.in-Some-line_besides.ensures.line
          (λ has. c.has_side.ensures c.if-has_side.false (rw c.deref.ensures.value has));
    }
