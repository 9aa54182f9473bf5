use Rattle.std.proofs.Common.{rules, ◌≡◌, ◌∙◌, length, sym, ap}
use Rattle.sqlite.specs.Held.{state}
use Rattle.hall_sql.specs.Rows.{world_of}
use Rattle.hall_sql.proofs.PuzzleListings.{puzzles_counted}
use Rattle.hall_sql.proofs.ReadLemmas.{answers_so, refused_as}
use Rattle.hall_sql.proofs.sql_store.SqlStoreReadStore.puzzles_put.Goals as goal

pub returns : goal.returns
returns g c =
    let count : length c.in_ok-puzzles_of.field-0.items ≡ c.len.result = search rules in
    let world = world_of (state g.S.Store c.puzzles_of.new.conn).now.trees in
    rw (← c.self.view_is)
    (answers_so _ _ c.in_ok-puzzles_of.ensures
    (λ clean told. sym count ∙ ap length told ∙ puzzles_counted world c.args.author.now) tt)

pub returns-in_err-puzzles_of : goal.returns-in_err-puzzles_of
returns-in_err-puzzles_of g c =
    rw (← c.self.view_is) (refused_as c.from_residual.result _ c.in_err-puzzles_of.ensures c.from_residual.ensures.1)
