use Rattle.std.proofs.Common.{subst}
use Rattle.hall_policy.specs.World.{puzzle_cmp}
use Rattle.hall_policy.specs.declared.record.PuzzleKey.{PuzzleKey}
use Rattle.hall_policy.specs.declared.record.PuzzleRow.{PuzzleRow}
use Rattle.hall_store.specs.Cache.{IsNoted}
use Rattle.hall_store.proofs.cache.Cache.keep_puzzle.Goals as goal

pub returns-clause-puzzles : goal.returns-clause-puzzles
returns-clause-puzzles c =
    let noted = subst (λ (k : PuzzleKey). IsNoted puzzle_cmp c.args.self.now.puzzles c.note.new.map k c.in_ok-key.row)
    c.in_ok-key.ensures.0 c.note.ensures.noted in
    subst (λ (r : PuzzleRow). IsNoted puzzle_cmp c.args.self.now.puzzles c.note.new.map c.args.key.now r)
    c.in_ok-key.ensures.1 noted
