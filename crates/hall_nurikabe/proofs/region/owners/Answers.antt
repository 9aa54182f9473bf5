use Rattle.std.proofs.lemmas.Result.{IfOk-from_err}
use Rattle.std.proofs.Common.{◌≡◌, get_or, None, true, false, sym, ◌∙◌, arith}
use Rattle.std.proofs.lemmas.List.{get_or_default}
use Rattle.hall_nurikabe.proofs.Marks.{numbered_clue}
use Rattle.hall_nurikabe.proofs.AreRegions.{OwnersBelow-skip, OwnersBelow-set, two_owners, AreOwners-from_below}
use Rattle.hall_nurikabe.proofs.region.owners.Goals as goal
use Rattle.hall_nurikabe.proofs.region.owners.Goals.{then-is_number+in-Some+in-None, then-is_number+in_default}
use Rattle.hall_nurikabe.proofs.region.owners.Goals.{else-is_number}

pub returns-in-Some-index : goal.returns-in-Some-index
returns-in-Some-index c =
    let whole = c.loop-cell.invariant.exact in
    let low = c.requires.labels c.loop-cell.cell c.in-Some.label c.in-Some.is in
    let e = c.requires.exact in
    let at : get_or c.loop-cell.owners.items c.in-Some.label c.index.result.now ≡ get_or c.loop-cell.owners.items
    c.in-Some.label None =
    get_or_default c.loop-cell.owners.items c.in-Some.label c.index.result.now None (omega arith) in
    two_owners c.args.puzzle.now c.args.labels.now c.loop-cell.owners.items c.loop-cell.cell c.in-Some.label
    c.in-Some-index.field-0
    ((numbered_clue c.args.puzzle.now c.loop-cell.cell c.clue.result c.clue.ensures).0
    (c.is_number.ensures.0 c.if-is_number.true)) c.in-Some.is
    (sym at ∙ sym c.index.ensures ∙ c.in-Some-index.is) c.loop-cell.invariant

pub loop-cell-preserved : goal.loop-cell-preserved
loop-cell-preserved c = elim c.if-is_number.branch [
  | then-is_number+in-Some+in-None w ↦
      let whole = c.loop-cell.invariant.exact in
      let low = c.requires.labels c.loop-cell.cell w.in-Some.label w.in-Some.is in
      rw w.owners-is
      (OwnersBelow-set c.args.puzzle.now c.args.labels.now c.loop-cell.owners.items c.loop-cell.cell w.in-Some.label
      (let e = c.requires.exact in omega arith)
      ((numbered_clue c.args.puzzle.now c.loop-cell.cell c.clue.result c.clue.ensures).0
      (c.is_number.ensures.0 w.if-is_number.true)) w.in-Some.is c.loop-cell.invariant)
  | then-is_number+in_default w ↦ rw w.owners-is (OwnersBelow-skip _ _ _ _
      (λ label numbered h. w.in_default.not-Some label h) c.loop-cell.invariant)
  | else-is_number w ↦
      rw w.owners-is
      (OwnersBelow-skip c.args.puzzle.now c.args.labels.now c.loop-cell.owners.items c.loop-cell.cell
      (λ label numbered h.
      let yes : c.is_number.result ≡ true = c.is_number.ensures.1
      ((numbered_clue c.args.puzzle.now c.loop-cell.cell c.clue.result c.clue.ensures).1 numbered) in
      let no : c.is_number.result ≡ false = w.if-is_number.false in
      absurd (cc)) c.loop-cell.invariant)
]

pub returns : goal.returns
returns c = AreOwners-from_below _ _ _ c.loop-cell.cell (omega arith) c.loop-cell.invariant

pub returns-in_err-owners : goal.returns-in_err-owners
returns-in_err-owners c = IfOk-from_err c.from_residual.result _ c.from_residual.ensures.0
