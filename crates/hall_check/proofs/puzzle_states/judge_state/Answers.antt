use Rattle.std.proofs.Common.{◌≡◌, true, false, sym, ◌∙◌, subst}
use Rattle.hall_policy.specs.declared.record.PuzzleState.{PuzzleState}
use Rattle.hall_desk.specs.Sane.{IsTrueState}
use Rattle.hall_check.proofs.StateTelling.{one_state}
use Rattle.hall_desk.proofs.Truths.{found_true}
use Rattle.hall_check.proofs.puzzle_states.judge_state.Goals as goal

pub returns-then-is_same_state : goal.returns-then-is_same_state
returns-then-is_same_state c =
    let puzzle = c.args.puzzle.now in
    let found = c.in_ok-found.found.state in
    subst (λ (s : PuzzleState). IsTrueState puzzle s) (sym (c.is_same_state.ensures.0 c.if-is_same_state.true))
    (found_true puzzle c.args.budget found c.in_ok-found.ensures.state)

pub returns : goal.returns
returns c = λ is.
    let puzzle = c.args.puzzle.now in
    let found = c.in_ok-found.found.state in
    let same : c.args.state.now ≡ found = one_state puzzle c.args.state.now found
    (sym c.is_open.ensures ∙ c.if-is_open.false) (sym c.is_open-2.ensures ∙ c.if-is_open-2.false) is
    (found_true puzzle c.args.budget found c.in_ok-found.ensures.state) in
    let no : true ≡ false = sym (c.is_same_state.ensures.1 same) ∙ c.if-is_same_state.false in cc
