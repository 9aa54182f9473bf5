use Rattle.std.proofs.Common.{take}
use Rattle.hall_store.specs.Store.{Kept}
use Rattle.hall_desk.specs.Shown.{AreSolutions}
use Rattle.hall_desk.proofs.solutions.find_solutions.Given as goal

-- the world is the one before, and the texts so far are the solutions of the puzzles so far
abbrev pub invariant-loop-entry : goal.invariant-loop-entry
invariant-loop-entry g l =
    let old = g.S.ReadStore.content l.fn.store in
    let new = g.S.ReadStore.content l.store in
    record {
      kept : Kept old new;
      opened : new.honest → old.serves → new.serves;
      texts : new.honest → new.serves → AreSolutions new.world (take l.entry-index l.entries) l.texts.items;
    }
