use Rattle.std.proofs.Common.{◌≡◌, sym, ◌∙◌, ap, map, List, ℕ}
use Rattle.std.specs.List.{filter}
use Rattle.hall_policy.specs.World.{same_text}
use Rattle.hall_policy.specs.declared.record.PuzzleKey.{PuzzleKey}
use Rattle.hall_policy.specs.declared.record.PuzzleRow.{PuzzleRow}
use Rattle.hall_policy.proofs.Orders.{puzzle_total, same_puzzle_keys}
use Rattle.hall_store.proofs.MapWorlds.{entries_made}
use Rattle.hall_store.proofs.map_calls.MapStoreReadStore.puzzles_of.Goals as goal

pub returns-clause-served : goal.returns-clause-served
returns-clause-served c =
    let author : c.in_ok-first.first.author ≡ c.args.author.now = ap (λ (k : PuzzleKey). k.author)
    c.in_ok-first.ensures in
    let es : List (PuzzleKey × PuzzleRow) = c.args.self.now.puzzles.entries in
    λ _. (
      tt,
      c.in_ok-puzzle_rows.ensures.rows
          ∙ ap (λ (a : List ℕ). filter (λ (row : PuzzleRow). same_text row.key.author a)
          (map (λ (e : PuzzleKey × PuzzleRow). e.1) es)) author
          ∙ ap (λ (es : List (PuzzleKey × PuzzleRow)). filter
          (λ (row : PuzzleRow). same_text row.key.author c.args.author.now)
          (map (λ (e : PuzzleKey × PuzzleRow). e.1) es))
          (sym (entries_made puzzle_total same_puzzle_keys es c.puzzle_rows.ensures.ordered)),
    )
