use Rattle.std.proofs.lemmas.Result.{IfOk-from_err}
use Rattle.std.proofs.Common.{◌≡◌, ◌<◌, ◌++◌, ◌∷◌, [], ℕ, List, sym, subst, below_more, arith}
use Rattle.std.specs.Prelude.{All, Contains}
use Rattle.std.proofs.lemmas.List.Elements.{All-push, Contains-append_left, Contains-push}
use Rattle.hall_grid.specs.declared.board.Size.{Size}
use Rattle.hall_grid.specs.Board.{cells}
use Rattle.hall_grid.specs.Slither.{dots}
use Rattle.hall_slither.specs.declared.count.Centre.{Centre}
use Rattle.hall_slither.specs.declared.count.Centre.TheVariants.{Dot, Cell}
use Rattle.hall_slither.specs.Count.{IsCentre}
use Rattle.hall_slither.specs.Follow.{HasAll}
use Rattle.hall_slither.proofs.follow.push_all.Goals as goal

HasAll-from : (size : Size) (stack : List Centre) → ((d : ℕ) → d < dots size → Contains stack (Dot d))
    → ((k : ℕ) → k < cells size → Contains stack (Cell k))
    → HasAll size stack
HasAll-from size stack at_dots at_cells (Dot d) low = at_dots d low
HasAll-from size stack at_dots at_cells (Cell k) low = at_cells k low

pushed : (old new : List Centre) (x y : Centre) → new ≡ old ++ y ∷ [] → Contains old x → Contains new x
pushed old new x y e has = subst (λ xs. Contains xs x) (sym e) (Contains-append_left old (y ∷ []) x has)

now_in : (old new : List Centre) (y : Centre) → new ≡ old ++ y ∷ [] → Contains new y
now_in old new y e = subst (λ xs. Contains xs y) (sym e) (Contains-push old y)

all_pushed : (size : Size) (old new : List Centre) (y : Centre) → new ≡ old ++ y ∷ [] → All (IsCentre size) old
    → IsCentre size y → All (IsCentre size) new
all_pushed size old new y e all is = subst (All (IsCentre size)) (sym e) (All-push (IsCentre size) old y all is)

pub loop-dot-preserved : goal.loop-dot-preserved
loop-dot-preserved c =
    let e = c.in_ok-push.ensures.items in
    record {
      centres = all_pushed c.args.size c.loop-dot.stack.items c.push.new.self.items (Dot c.loop-dot.dot) e
          c.loop-dot.invariant.centres (omega arith);
      dots_in = below_more (λ d. Contains c.push.new.self.items (Dot d)) c.loop-dot.dot
          (λ d low. pushed c.loop-dot.stack.items c.push.new.self.items (Dot d) (Dot c.loop-dot.dot) e
          (c.loop-dot.invariant.dots_in d low))
          (now_in c.loop-dot.stack.items c.push.new.self.items (Dot c.loop-dot.dot) e);
    }

pub loop-cell-preserved : goal.loop-cell-preserved
loop-cell-preserved c =
    let e = c.in_ok-push-2.ensures.items in
    let old = c.loop-cell.stack.items in
    let new = c.push-in-loop-cell.new.self.items in
    record {
      centres = all_pushed c.args.size old new (Cell c.loop-cell.cell) e c.loop-cell.invariant.centres (omega arith);
      dots_in = λ d low. pushed old new (Dot d) (Cell c.loop-cell.cell) e (c.loop-cell.invariant.dots_in d low);
      cells_in = below_more (λ k. Contains c.push-in-loop-cell.new.self.items (Cell k)) c.loop-cell.cell
          (λ k low. pushed old new (Cell k) (Cell c.loop-cell.cell) e (c.loop-cell.invariant.cells_in k low))
          (now_in old new (Cell c.loop-cell.cell) e);
    }

pub returns-clause-all : goal.returns-clause-all
returns-clause-all c =
    HasAll-from c.args.size c.loop-cell.stack.items c.loop-cell.invariant.dots_in
    (λ k low. c.loop-cell.invariant.cells_in k (omega arith))

pub returns-in_err-push-clause-all : goal.returns-in_err-push-clause-all
returns-in_err-push-clause-all c = IfOk-from_err c.from_residual.result _ c.from_residual.ensures.0

pub returns-in_err-push-2-clause-all : goal.returns-in_err-push-2-clause-all
returns-in_err-push-2-clause-all c = IfOk-from_err c.from_residual-in_err-push-2.result _
    c.from_residual-in_err-push-2.ensures.0
