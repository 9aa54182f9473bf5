use Rattle.std.proofs.Common.{◌≢◌, ◌<◌, ◌∙◌, length, get_or, set, refl, sym, ap, subst, inl, inr, arith}
use Rattle.std.specs.Prelude.{slice_index}
use Rattle.std.proofs.lemmas.List.{get_or_default}
use Rattle.hall_grid.specs.Slither.{HasOtherCount}
use Rattle.hall_solve.specs.Question.{IsOpen}
use Rattle.hall_slither.specs.Close.{Layout, IsLayout, Closes}
use Rattle.hall_slither.proofs.IsLayout.{forced_beside, forced_closing, none_from}
use Rattle.hall_slither.proofs.close.ChainsLook.look.Goals as goal
use Rattle.hall_slither.proofs.close.ChainsLook.look.Goals.{then-self-2-via-then-self-2}
use Rattle.hall_slither.proofs.close.ChainsLook.look.Goals.{then-self-2-via-else-self-2+then-has_other_count}

pub returns-then-self-clause-sound : goal.returns-then-self-clause-sound
returns-then-self-clause-sound c =
    let now = c.args.self.now in
    let is : IsLayout now = subst IsLayout c.self.view_is c.self.invariant in
    let found = is.closed.0 (sym (ap (λ (l : Layout). l.closed) c.self.view_is) ∙ c.if-self.true) in
    let unset : IsOpen c.args.partial.now.places c.args.spot = (
      let size = c.requires.partial.size in let low = c.requires.spot in omega arith,
      sym c.get.ensures
          ∙ none_from c.get.result (sym c.if-is_some.ensures),
    ) in
    let room : c.args.spot < length now.lines = let e = is.exact in let low = c.requires.spot in omega arith in
    let lines_are = ap (λ (l : Layout). l.lines) c.self.view_is in
    let off : slice_index now.lines c.args.spot ≢ 1 = λ e.
    c.if-index-eq1.false
    (c.index.ensures ∙ ap (λ xs. get_or xs c.args.spot c.index.result.now) lines_are
    ∙ get_or_default now.lines c.args.spot c.index.result.now 0 room ∙ e) in
    forced_beside now is c.args.partial.now.places found.0 c.args.spot found.1 unset c.requires.spot off

pub returns-then-self-2-clause-sound : goal.returns-then-self-2-clause-sound
returns-then-self-2-clause-sound c =
    let now = c.args.self.now in
    let is : IsLayout now = subst IsLayout c.self.view_is c.self.invariant in
    let unset : IsOpen c.args.partial.now.places c.args.spot = (
      let size = c.requires.partial.size in let low = c.requires.spot in omega arith,
      sym c.get.ensures
          ∙ none_from c.get.result (sym c.if-is_some.ensures),
    ) in
    let room : c.args.spot < length now.lines = let e = is.exact in let low = c.requires.spot in omega arith in
    let lines_are = ap (λ (l : Layout). l.lines) c.self.view_is in
    let off : slice_index now.lines c.args.spot ≢ 1 = λ e.
    c.if-index-eq1.false
    (c.index.ensures ∙ ap (λ xs. get_or xs c.args.spot c.index.result.now) lines_are
    ∙ get_or_default now.lines c.args.spot c.index.result.now 0 room ∙ e) in
    let closes : Closes now c.args.spot = c.if-not-closes.ensures refl in
    forced_closing now is c.args.partial.now.places c.args.spot closes unset c.requires.spot off
    (elim c.then-self-2.branch [
      | then-self-2-via-then-self-2 w ↦ inl (is.apart.0 (sym (ap (λ (l : Layout). l.apart) c.self.view_is)
          ∙ w.if-self-2.true))
      | then-self-2-via-else-self-2+then-has_other_count w ↦
          let other = w.has_other_count.ensures.0 w.if-has_other_count.true in
          let inside = subst (λ xs. HasOtherCount c.self.inside.puzzle.now (set xs c.args.spot 1)) w.deref.ensures.value
          other in
          inr (subst (λ (l : Layout). HasOtherCount l.board (set l.lines c.args.spot 1)) c.self.view_is inside)
    ])
