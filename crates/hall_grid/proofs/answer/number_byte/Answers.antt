use Rattle.hall_grid.proofs.Values.{low_number, high_number}
use Rattle.hall_grid.proofs.answer.number_byte.Goals as goal

pub returns-then-value-lt9 : goal.returns-then-value-lt9
returns-then-value-lt9 c = low_number c.args.value c.if-value-lt9.true

pub returns-else-value-lt9 : goal.returns-else-value-lt9
returns-else-value-lt9 c = high_number c.args.value c.if-value-lt9.false
