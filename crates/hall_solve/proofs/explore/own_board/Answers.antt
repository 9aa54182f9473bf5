use Rattle.std.proofs.lemmas.Result.{IfOk-from_err}
use Rattle.std.proofs.Common.{◌≡◌, ℕ, ◌<◌, ◌≤◌, ◌∷◌, [], ◌++◌, List, Option, Some, None, length, get_or, set, arith}
use Rattle.std.proofs.Common.{sym, ◌∙◌, ap, inl, inr, refl}
use Rattle.std.proofs.lemmas.Bool.{cases_eq}
use Rattle.std.proofs.lemmas.List.{same_lists, get_or_default, get_or-set_same, get_or-set_other, length-set}
use Rattle.hall_solve.proofs.Trails.{IsTrailed-set, board_is}
use Rattle.hall_solve.proofs.explore.own_board.Goals as goal
use Rattle.hall_solve.proofs.explore.own_board.Goals.{in-Some, in_default}

-- lists that agree where both have places are one
same_places : (a b : List (Option ℕ)) (n : ℕ) → length a ≡ length b → length b ≤ n
    → ((i : ℕ) → i < n → get_or a i None ≡ get_or b i None) → a ≡ b
same_places a b n e le h = same_lists a b e (λ k d lt.
    get_or_default a k d None lt ∙ h k (omega arith) ∙ get_or_default b k None d (omega arith))

pub returns-clause-places : goal.returns-clause-places
returns-clause-places c = same_places c.loop-place.board.places c.args.start.now.places c.loop-place.place
    c.loop-place.invariant.size (omega (arith, c.loop-place.auto.place-end)) c.loop-place.invariant.same

pub loop-place-preserved : goal.loop-place-preserved
loop-place-preserved c =
    let so_far = c.loop-place.invariant in
    let board = c.loop-place.board in
    let start = c.args.start.now.places in
    let place = c.loop-place.place in
    elim c.match-get.branch [
      | in-Some w ↦ (
          let value = w.in-Some.value in
          let there : get_or start place None ≡ Some value = sym c.get.ensures ∙ w.in-Some.is in
          let within : place < length board.places = omega (
            arith,
            so_far.size,
            c.loop-place.auto.place-end,
            c.loop-place-test.true,
          ) in
          let unset = so_far.rest place (omega arith) in
          let after = board_is w.set.new.self (set board.places place (Some value)) (board.trail ++ place ∷ [])
          w.set.ensures.places w.set.ensures.trail in
          rw w.board-is (record {
            size = ap length w.set.ensures.places ∙ length-set board.places place (Some value) ∙ so_far.size;
            same = λ i h. elim (cases_eq i place) [
              | inl e ↦ rw (e, w.set.ensures.places) (get_or-set_same board.places place (Some value) None within
                  ∙ sym there)
              | inr ne ↦ rw w.set.ensures.places (get_or-set_other board.places place i (Some value) None ne
                  ∙ so_far.same i (omega arith))
            ];
            rest = λ i h. rw w.set.ensures.places (get_or-set_other board.places place i (Some value) None
                (λ e. omega arith) ∙ so_far.rest i (omega arith));
            trailed = rw after (IsTrailed-set board.places board.trail place value so_far.trailed within unset);
          }))
      | in_default w ↦ rw w.board-is (record {
        size = so_far.size;
        same = λ i h. elim (cases_eq i place) [
          | inl e ↦ rw e (so_far.rest place (omega arith) ∙ sym
              (nothing (get_or start place None) (λ v at. w.in_default.not-Some v (c.get.ensures ∙ at))))
          | inr ne ↦ so_far.same i (omega arith)
        ];
        rest = λ i h. so_far.rest i (omega arith);
        trailed = so_far.trailed;
      })
    ]
  where
    nothing : (x : Option ℕ) → ((v : ℕ) → x ≡ Some v → ⊥) → x ≡ None
    nothing None h = refl
    nothing (Some v) h = absurd (h v refl)

pub returns-in_err-board-clause-places : goal.returns-in_err-board-clause-places
returns-in_err-board-clause-places c = IfOk-from_err c.from_residual.result _ c.from_residual.ensures.0

pub returns-in_err-board-clause-trailed : goal.returns-in_err-board-clause-trailed
returns-in_err-board-clause-trailed c = IfOk-from_err c.from_residual.result _ c.from_residual.ensures.0
