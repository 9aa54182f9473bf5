use Rattle.std.proofs.Common.{◌≡◌, ℕ, ◌∷◌, [], ◌++◌, List, None, length, arith, ap, subst, length-append}
use Rattle.std.proofs.lemmas.List.{length-set, length-take}
use Rattle.hall_solve.specs.Trail.{IsTrailed, IsUndone}
use Rattle.hall_solve.proofs.Trails.{IsTrailed-pop, IsUndone-pop, end_within}
use Rattle.hall_solve.proofs.partial.Partial.undo_to.Goals as goal

pub index_mut-requires : goal.index_mut-requires
index_mut-requires c =
    let p = c.loop-mark.self-inside.places.items in
    let board = subst (λ (x : List ℕ). IsTrailed (record { places = p; trail = x })) c.in-Some.ensures.items
    c.loop-mark.invariant.board in
    omega (arith, end_within p c.pop.new.self.items c.in-Some.place board, c.loop-mark.self-inside.places.ok.0)

pub loop-mark-preserved-in-Some : goal.loop-mark-preserved-in-Some
loop-mark-preserved-in-Some c =
    let p = c.loop-mark.self-inside.places.items in
    let t = c.pop.new.self.items in
    let i = c.in-Some.place in
    let items : c.loop-mark.self-inside.trail.items ≡ t ++ i ∷ [] = c.in-Some.ensures.items in
    let board : IsTrailed (record { places = p; trail = t ++ i ∷ [] }) = subst
    (λ (x : List ℕ). IsTrailed (record { places = p; trail = x })) items c.loop-mark.invariant.board in
    let undone : IsUndone (length (t ++ i ∷ [])) c.args.self.now (record { places = p; trail = t ++ i ∷ [] }) = subst
    (λ (x : List ℕ). IsUndone (length x) c.args.self.now (record { places = p; trail = x })) items
    c.loop-mark.invariant.undone in
    let shorter : length c.loop-mark.self-inside.trail.items ≡ length (t ++ i ∷ []) = ap length items in
    let size = length-append t (i ∷ []) in
    record {
      board = IsTrailed-pop p t i board;
      room = omega (arith, length-set p i None, c.pop.ensures.capacity, c.loop-mark.invariant.room);
      enough = omega (arith, size, shorter, c.loop-mark-test.true, c.loop-mark.self-inside.trail.ok.0);
      undone = IsUndone-pop c.args.self.now p t i (end_within p t i board) undone
          (omega (arith, ap length undone.trail, length-take (length (t ++ i ∷ [])) c.args.self.now.trail));
    }
