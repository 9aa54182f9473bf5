use Rattle.std.proofs.lemmas.Result.{IfOk-from_err}
use Rattle.std.proofs.Common.{◌≡◌, ◌∷◌, [], ◌++◌, Some, set, refl}
use Rattle.hall_solve.specs.declared.choice.Choice.{Choice}
use Rattle.hall_solve.proofs.Trails.{IsTrailed-set, board_is}
use Rattle.hall_solve.proofs.Ahead.{choose-ahead, choose-paid}
use Rattle.hall_solve.proofs.explore.descend.Goals as goal

pub returns-clause-ahead : goal.returns-clause-ahead
returns-clause-ahead c =
    let p = c.args.board.now.places in
    let t = c.args.board.now.trail in
    let i = c.args.place in
    let choice : Choice = record { mark = c.mark-mark.result; place = i; value = 0 } in
    let after : c.set.new.self ≡ record { places = set p i (Some 0); trail = t ++ i ∷ [] } = board_is c.set.new.self
    (set p i (Some 0)) (t ++ i ∷ []) c.set.ensures.places c.set.ensures.trail in
    λ f. rw (after, c.in_ok-push.ensures.items) (choose-ahead p t i c.args.stack.now.items choice
    c.mark-mark.ensures.trailed c.requires.unset.0 c.requires.unset.1 c.requires.made c.mark-mark.ensures.mark refl
    refl f)

pub returns-clause-paid : goal.returns-clause-paid
returns-clause-paid c =
    let p = c.args.board.now.places in
    let t = c.args.board.now.trail in
    let i = c.args.place in
    let choice : Choice = record { mark = c.mark-mark.result; place = i; value = 0 } in
    let after : c.set.new.self ≡ record { places = set p i (Some 0); trail = t ++ i ∷ [] } = board_is c.set.new.self
    (set p i (Some 0)) (t ++ i ∷ []) c.set.ensures.places c.set.ensures.trail in
    λ k pos. rw (after, c.in_ok-push.ensures.items) (choose-paid p t i c.args.stack.now.items choice
    c.mark-mark.ensures.trailed c.requires.unset.0 c.requires.unset.1 c.requires.made c.mark-mark.ensures.mark refl
    refl k pos)

pub returns-clause-trailed : goal.returns-clause-trailed
returns-clause-trailed c =
    let p = c.args.board.now.places in
    let t = c.args.board.now.trail in
    let i = c.args.place in
    let after : c.set.new.self ≡ record { places = set p i (Some 0); trail = t ++ i ∷ [] } = board_is c.set.new.self
    (set p i (Some 0)) (t ++ i ∷ []) c.set.ensures.places c.set.ensures.trail in
    rw after (IsTrailed-set p t i 0 c.mark-mark.ensures.trailed c.requires.unset.0 c.requires.unset.1)

pub returns-in_err-push-clause-made : goal.returns-in_err-push-clause-made
returns-in_err-push-clause-made c = IfOk-from_err c.from_residual.result _ c.from_residual.ensures.0

pub returns-in_err-push-clause-ahead : goal.returns-in_err-push-clause-ahead
returns-in_err-push-clause-ahead c = IfOk-from_err c.from_residual.result _ c.from_residual.ensures.0

pub returns-in_err-push-clause-paid : goal.returns-in_err-push-clause-paid
returns-in_err-push-clause-paid c = IfOk-from_err c.from_residual.result _ c.from_residual.ensures.0

pub returns-in_err-push-clause-trailed : goal.returns-in_err-push-clause-trailed
returns-in_err-push-clause-trailed c = IfOk-from_err c.from_residual.result _ c.from_residual.ensures.0
