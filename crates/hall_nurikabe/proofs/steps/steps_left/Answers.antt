use Rattle.std.proofs.Common.{◌≡◌, ℕ, ◌-◌, ◌≤◌, ◌++◌, List, length, get_or, drop, take, ◌∙◌, arith, rules}
use Rattle.std.proofs.lemmas.List.{take_all, take-append-le}
use Rattle.hall_grid.specs.Reached.{IsMarked}
use Rattle.hall_nurikabe.specs.Steps.{AreSources, FallsByOne, Raises}
use Rattle.hall_nurikabe.proofs.AreSources.{AreSources-raised, AreStepsLeft-from_sources, falls_below}
use Rattle.hall_nurikabe.proofs.steps.steps_left.Goals as goal

-- a slice that was written back to its list
written : (n : ℕ) (new rest : List ℕ) → length new ≡ n → take n (new ++ rest) ≡ new
written n new rest e = take-append-le n new rest (omega arith) ∙ take_all n new (omega arith)

pub loop-reach-preserved : goal.loop-reach-preserved
loop-reach-preserved c =
    let board = c.args.position.now.puzzle.now in
    let free = c.in_ok-left.field-0.free.items in
    let old = c.loop-reach.left.items in
    let new = c.raise_next-reach.new.left in
    let raised : Raises (c.loop-reach.reach - 1) old new = search rules in
    let falls : FallsByOne board.size (IsMarked free) new (c.loop-reach.reach - 1) = search rules in
    let back : take c.loop-reach.left.len (new ++ drop (length new) old) ≡ new = written c.loop-reach.left.len new
    (drop (length new) old) (omega (arith, raised.exact, c.deref_mut.ensures.len)) in
    let none : (i : ℕ) → get_or new i 0 ≤ c.loop-reach.reach - 1 → get_or new i 0 ≤ c.raise_next-reach.result = search
    rules in
    rw back (record {
      sources = AreSources-raised board c.args.labels.now c.args.sizes.now c.args.owners.now
          c.args.position.now.partial.now.places (IsMarked free) (c.loop-reach.reach - 1) old new
          c.loop-reach.invariant.sources raised;
      falls = falls_below board.size (IsMarked free) new (c.loop-reach.reach - 1) c.raise_next-reach.result falls none;
    })

pub returns : goal.returns
returns c =
    let board = c.args.position.now.puzzle.now in
    let falls : FallsByOne board.size (IsMarked c.in_ok-left.field-0.free.items) c.loop-reach.left.items 0 = search
    rules in
    AreStepsLeft-from_sources board c.args.labels.now c.args.sizes.now c.args.owners.now
    c.args.position.now.partial.now.places c.in_ok-left.field-0.free.items
    c.loop-reach.left.items c.loop-reach.invariant.sources falls
