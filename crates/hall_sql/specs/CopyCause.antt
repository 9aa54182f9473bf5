-- Why the rows of a world can't be put into a hall's tables that hold nothing.
use Rattle.sqlite.specs.Effect.{Database}
use Rattle.hall_policy.specs.World.{World}
use Rattle.hall_sql.specs.FillCause.{CannotFill}
use Rattle.hall_sql.specs.Standing.{IsBareLike}
use Rattle.hall_sql.specs.Tables.{hall_schema}
use Rattle.hall_sql.specs.WholeRows.{AreRowsOf}
use Rattle.hall_sql.specs.declared.whole.Whole.{Whole}

-- the statement that adds one of the world's rows, but its testers', is refused there, or they are more than can be
-- counted
abbrev pub CannotCopy : World → Type 0
CannotCopy world =
    (rows : Whole) × AreRowsOf world rows × (bare : Database) × IsBareLike hall_schema bare × CannotFill rows bare
