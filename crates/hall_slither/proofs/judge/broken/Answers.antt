use Rattle.std.proofs.lemmas.Result.{IfOk-from_err}
use Rattle.std.proofs.Common.{refl}
use Rattle.hall_grid.specs.declared.board.Kind.TheVariants.{Slither}
use Rattle.hall_grid.proofs.Naming.{broken_are}
use Rattle.hall_slither.proofs.judge.broken.Goals as goal

pub returns : goal.returns
returns c =
    broken_are Slither c.args.puzzle.now c.args.filling.now _ _ c.requires.kind c.new-broken.ensures.empty
    c.new-broken.ensures.set (
      _,
      _,
      c.insert_if.ensures,
      (rw (c.size-size.ensures.size, c.as_slice-lines.ensures) at c.has_no_line.ensures),
      (
        _,
        _,
        c.insert_if-2.ensures,
        (rw (c.size-size.ensures.size, c.as_slice-lines.ensures) at c.has_loose_end.ensures),
        (
          _,
          _,
          c.insert_if-3.ensures,
          (rw (c.size-size.ensures.size, c.as_slice-lines.ensures) at c.has_crossing.ensures),
          (
            _,
            _,
            c.insert_if-4.ensures,
            (rw c.as_slice-lines.ensures at c.has_other_count.ensures),
            (
              _,
              _,
              c.insert_if-5.ensures,
              (rw (c.size-size.ensures.size, c.as_slice-lines.ensures) at
                  c.in_ok-has_lines_apart.ensures),
              refl,
            ),
          ),
        ),
      ),
    )

pub returns-in_err-has_lines_apart : goal.returns-in_err-has_lines_apart
returns-in_err-has_lines_apart c = IfOk-from_err c.from_residual.result _ c.from_residual.ensures.0
