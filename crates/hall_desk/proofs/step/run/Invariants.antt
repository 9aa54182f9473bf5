use Rattle.std.proofs.Common.{◌≡◌, ◌≤◌, ◌+◌, length, take, vec_len, vec_capacity}
use Rattle.hall_store.specs.Store.{Leads}
use Rattle.hall_desk.specs.Desk.{SaneThen}
use Rattle.hall_desk.specs.Sane.{Sane}
use Rattle.hall_desk.specs.Plans.{LeavesRun, Runs, AreStepped, AreNobodys, NobodysAreAnswered}
use Rattle.hall_desk.proofs.step.run.Given as goal

-- there is room for all replies, those so far are a run over the requests so far, and the world is sane where it was
abbrev pub invariant-loop-asked : goal.invariant-loop-asked
invariant-loop-asked g l =
    let old = g.S.ReadStore.content l.fn.store in
    let new = g.S.ReadStore.content l.store in
    record {
      count : vec_len l.replies ≡ l.asked-index;
      room : length l.requests ≤ vec_capacity l.replies;
      within : l.asked-index ≤ length l.requests;
      leads : Leads old new;
      few : new.writes ≤ old.writes + l.asked-index;
      runs : new.honest → Runs old (take l.asked-index l.requests) l.replies.items new;
      left : LeavesRun old (take l.asked-index l.requests) l.replies.items new;
      stepped : AreStepped g.S.ReadStore.content l.fn.store (take l.asked-index l.requests) l.replies.items l.store;
      answered : NobodysAreAnswered (take l.asked-index l.requests) l.replies.items;
      untouched : AreNobodys l.requests → l.store ≡ l.fn.store;
      sane : SaneThen Sane old new;
    }
