use Rattle.std.proofs.Common.{◌≡◌, true, sym, ap, subst}
use Rattle.std.specs.Prelude.{Contains}
use Rattle.std.proofs.lemmas.List.Elements.{Contains-push}
use Rattle.hall_grid.specs.Slither.{all_sides, is_end}
use Rattle.hall_slither.specs.Dot.{AreBelow}
use Rattle.hall_slither.specs.Early.{IsTrack}
use Rattle.hall_slither.proofs.Demand.{AreBelow-dot}
use Rattle.hall_slither.proofs.IsTrack.{LooseAt, IsTrack-onward, IsTrack-closed, line_not_open}
use Rattle.hall_slither.proofs.SidesBeside.{is_end_first}
use Rattle.hall_slither.proofs.early.leads_back.Goals as goal

pub line_onward-requires : goal.line_onward-requires
line_onward-requires c = record {
  below = subst (λ n. AreBelow n c.sides_at.result) (sym c.requires.exact)
      (subst (AreBelow (all_sides c.args.size)) (sym c.sides_at.ensures)
      (AreBelow-dot c.args.size c.loop.at c.requires.size.some_cols c.loop.invariant.board));
}

pub returns-then-at-first : goal.returns-then-at-first
returns-then-at-first c =
    let size = c.args.size in
    let p = c.args.partial.now.places in
    let first = c.dot_ends-first.result.0 in
    let next = c.in-Some.next in
    let so_far = c.loop.invariant in
    let items = c.push-in-loop.new.self.items in
    let track = IsTrack-onward size p c.args.side first c.loop.at c.other_end-at.result c.loop.last next
    c.sides_at.result c.loop.passed.items items
    c.requires.size.some_cols so_far.board c.sides_at.ensures c.in-Some.ensures.onward c.in_ok-push-2.ensures.items
    so_far.last so_far.at c.other_end-at.ensures.both so_far.track in
    record {
      closes = λ t.
          IsTrack-closed size p c.args.side first next items
          (subst (λ xs. Contains xs next) (sym c.in_ok-push-2.ensures.items) (Contains-push c.loop.passed.items next))
          (subst (λ d. is_end size d next ≡ true) c.if-at-first.true c.other_end-at.ensures.end)
          (subst (λ d. is_end size d c.args.side ≡ true) (sym (ap (λ e. e.0) c.dot_ends-first.ensures.ends))
          (is_end_first size c.args.side))
          (line_not_open p c.args.side next c.requires.side.1 c.in-Some.ensures.onward.line)
          (subst (λ at. IsTrack size p c.args.side (LooseAt first at) items) c.if-at-first.true track);
    }

pub loop-preserved : goal.loop-preserved
loop-preserved c =
    let so_far = c.loop.invariant in
    record {
      track = IsTrack-onward c.args.size c.args.partial.now.places c.args.side c.dot_ends-first.result.0 c.loop.at
          c.other_end-at.result c.loop.last c.in-Some.next
          c.sides_at.result c.loop.passed.items c.push-in-loop.new.self.items c.requires.size.some_cols so_far.board
          c.sides_at.ensures c.in-Some.ensures.onward
          c.in_ok-push-2.ensures.items so_far.last so_far.at c.other_end-at.ensures.both so_far.track;
      last = subst (λ xs. Contains xs c.in-Some.next) (sym c.in_ok-push-2.ensures.items)
          (Contains-push c.loop.passed.items c.in-Some.next);
      at = c.other_end-at.ensures.end;
      board = c.other_end-at.ensures.board;
    }
