use Rattle.std.proofs.lemmas.Grind.{common_steps}
use Rattle.std.proofs.Common.{◌≡◌, ◌<◌, None, get_or, sym, ◌∙◌, ap, subst, arith, below_more}
use Rattle.hall_solve.specs.Question.{IsOpen, Narrows}
use Rattle.hall_solve.specs.Deduction.{IsForced, IsDeduced}
use Rattle.hall_solve.specs.declared.deduce.Pass.TheVariants.{Settled, Advanced, Dead}
use Rattle.hall_solve.specs.declared.deduce.Pass.{Pass}
use Rattle.hall_solve.proofs.Boards.{Solves-keeps, forced_after}
use Rattle.hall_solve.proofs.Trails.{Grows-then_set}
use Rattle.hall_sudoku.specs.Units.{units_question}
use Rattle.hall_sudoku.specs.Candidates.{HasNoSole}
use Rattle.hall_grid.specs.Board.{cells}
use Rattle.hall_sudoku.proofs.Sizes.{square_of}
use Rattle.hall_sudoku.proofs.Tables.{none_of, none_holds, some_of}
use Rattle.hall_sudoku.proofs.Deductions.{sole_always}
use Rattle.hall_sudoku.proofs.singles.set_soles.Goals as goal
use Rattle.hall_sudoku.proofs.singles.set_soles.Goals.{then-is_none+in-Some, then-is_none+in_default, else-is_none}

pub loop-cell-preserved : goal.loop-cell-preserved
loop-cell-preserved c =
    let size = c.args.units.now in
    let q = units_question size in
    let p = c.loop-cell.partial.places in
    let cell = c.loop-cell.cell in
    elim c.if-is_none.branch [
      | then-is_none+in-Some w ↦ (
          let within : cell < cells size = omega (arith, c.loop-cell-test.true, c.cells-cell-end.ensures.cells) in
          let unset : IsOpen p cell = (
            omega (arith, within, c.loop-cell.invariant.narrows.partial.size),
            sym
                c.get.ensures ∙ none_of c.get.result c.is_none.result c.is_none.ensures w.if-is_none.true,
          ) in
          let always = sole_always size c.args.partial.now.places c.args.candidates.now c.args.shared.now cell
          w.in-Some.value (square_of size c.cells-cell-end.ensures.sudoku) c.requires.partial.size
          c.requires.candidates c.requires.shared within w.in-Some.ensures.some in
          let forced : IsForced q p cell w.in-Some.value = record {
            unset = unset;
            in_range = (c.requires.candidates cell within).in_range w.in-Some.value w.in-Some.ensures.some.may;
            forced = λ f s. always f (Solves-keeps q c.args.partial.now.places p f c.loop-cell.invariant.narrows.keeps
                s);
          } in
          let after = forced_after q c.args.partial.now.places p cell w.in-Some.value c.requires.partial
          c.loop-cell.invariant.narrows forced in
          let narrows : Narrows q c.args.partial.now.places w.set.new.self.places = (rw w.set.ensures.places after.0) in
          let deduced : IsDeduced q c.args.partial.now.places w.set.new.self.places Advanced =
          (rw w.set.ensures.places after) in
          let grows = Grows-then_set c.args.partial.now c.loop-cell.partial w.set.new.self cell w.in-Some.value
          c.loop-cell.invariant.grows unset.1 w.set.ensures.places w.set.ensures.trail in
          rw (w.partial-is, w.pass-is) (record {
            narrows = narrows;
            deduced = deduced;
            grows = grows;
            alive =
                λ (eq : Advanced ≡ Dead). cc;
            settled = λ (eq : Advanced ≡ Settled). cc;
          }))
      | then-is_none+in_default w ↦ rw (w.partial-is, w.pass-is) (record {
        narrows = c.loop-cell.invariant.narrows;
        deduced = c.loop-cell.invariant.deduced;
        grows = c.loop-cell.invariant.grows;
        alive = c.loop-cell.invariant.alive;
        settled = λ eq. below_more (λ k. get_or c.args.partial.now.places k None ≡ None
            → HasNoSole size c.args.candidates.now c.args.shared.now k) cell (c.loop-cell.invariant.settled eq)
            (λ unset. none_holds w.sole_at.result w.in_default.not-Some w.sole_at.ensures.none);
      })
      | else-is_none w ↦ rw (w.partial-is, w.pass-is) (record {
        narrows = c.loop-cell.invariant.narrows;
        deduced = c.loop-cell.invariant.deduced;
        grows = c.loop-cell.invariant.grows;
        alive = c.loop-cell.invariant.alive;
        settled = λ eq. below_more (λ k. get_or c.args.partial.now.places k None ≡ None
            → HasNoSole size c.args.candidates.now c.args.shared.now k) cell (c.loop-cell.invariant.settled eq)
            (λ unset. absurd (some_of c.get.result c.is_none.result c.is_none.ensures w.if-is_none.false
            (c.get.ensures ∙ ap (λ q. get_or q cell None)
            (subst (λ (x : Pass). IsDeduced q c.args.partial.now.places p x) eq c.loop-cell.invariant.deduced)
            ∙ unset)));
      })
    ]

pub loop-cell-init : goal.loop-cell-init
loop-cell-init c = grind (arith, common_steps)

pub set-requires : goal.set-requires
set-requires c = grind (arith, common_steps)
