-- A small question: right is a filling whose first value is below a limit.
use Rattle.std.specs.Prelude.{ℕ, ◌<◌, slice_index}
use Rattle.hall_solve.specs.Question.{Question}

abbrev pub first_below : ℕ → ℕ → ℕ → Question
first_below cells values limit = record { cells = cells; values = values; right = λ f. slice_index f 0 < limit }
