use Rattle.std.proofs.Common.{take}
use Rattle.hall_store.specs.Store.{Kept}
use Rattle.hall_desk.specs.Shown.{ShowsPuzzles}
use Rattle.hall_desk.proofs.read_round.show_puzzles.Given as goal

-- the world is the one before, and the lines so far show the puzzles so far
abbrev pub invariant-loop-place : goal.invariant-loop-place
invariant-loop-place g l =
    let old = g.S.ReadStore.content l.fn.store in
    let new = g.S.ReadStore.content l.store in
    record {
      kept : Kept old new;
      opened : new.honest → old.serves → new.serves;
      lines : new.honest → new.serves → ShowsPuzzles new.world 1 (take l.place l.entries) l.shown.items;
    }
