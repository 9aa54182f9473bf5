use Rattle.std.proofs.Common.{subst}
use Rattle.hall_grid.specs.declared.board.Kind.TheVariants as kind
use Rattle.hall_desk.specs.Underway.{IsUnderWayOf}
use Rattle.hall_desk.specs.declared.puzzle_search.ByKind.{ByKind}
use Rattle.hall_desk.proofs.GoingOn.{found_of, paused_of}
use Rattle.hall_desk.proofs.puzzle_search.PuzzleSearch.go_on.Goals as goal

pub found-requires : goal.found-requires
found-requires c =
    let before =
    subst (λ (x : ByKind). IsUnderWayOf c.self.inside.puzzle c.self.inside.budget x) c.in-Sudoku.is c.self.invariant in
    found_of kind.Sudoku c.self.inside.puzzle c.self.inside.budget c.args.most
    c.in-Sudoku.rules c.go_on.new.rules c.in-Sudoku.search before
    c.in_ok-searched-in-Sudoku.field-0 c.in_ok-searched-in-Sudoku.ensures.gone_on c.in-Ended.searched c.in-Ended.is
    c.in_ok-searched-in-Sudoku.ensures.frugal

pub paused-requires : goal.paused-requires
paused-requires c =
    let before =
    subst (λ (x : ByKind). IsUnderWayOf c.self.inside.puzzle c.self.inside.budget x) c.in-Sudoku.is c.self.invariant in
    paused_of kind.Sudoku c.self.inside.puzzle c.self.inside.budget c.args.most
    c.in-Sudoku.rules c.go_on.new.rules c.in-Sudoku.search before
    c.in_ok-searched-in-Sudoku.field-0 c.in_ok-searched-in-Sudoku.ensures.gone_on c.in-Paused.search c.in-Paused.is
    c.go_on.ensures.same c.go_on.ensures.at_visits

pub found-requires-in-Ended-2 : goal.found-requires-in-Ended-2
found-requires-in-Ended-2 c =
    let before =
    subst (λ (x : ByKind). IsUnderWayOf c.self.inside.puzzle c.self.inside.budget x) c.in-Slither.is c.self.invariant in
    found_of kind.Slither c.self.inside.puzzle c.self.inside.budget c.args.most
    c.in-Slither.rules c.go_on-in-Slither.new.rules c.in-Slither.search before
    c.in_ok-searched-in-Slither.field-0 c.in_ok-searched-in-Slither.ensures.gone_on c.in-Ended-2.searched
    c.in-Ended-2.is
    c.in_ok-searched-in-Slither.ensures.frugal

pub paused-requires-in-Paused-2 : goal.paused-requires-in-Paused-2
paused-requires-in-Paused-2 c =
    let before =
    subst (λ (x : ByKind). IsUnderWayOf c.self.inside.puzzle c.self.inside.budget x) c.in-Slither.is c.self.invariant in
    paused_of kind.Slither c.self.inside.puzzle c.self.inside.budget c.args.most
    c.in-Slither.rules c.go_on-in-Slither.new.rules c.in-Slither.search before
    c.in_ok-searched-in-Slither.field-0 c.in_ok-searched-in-Slither.ensures.gone_on c.in-Paused-2.search
    c.in-Paused-2.is
    c.go_on-in-Slither.ensures.same c.go_on-in-Slither.ensures.at_visits

pub found-requires-in-Ended-3 : goal.found-requires-in-Ended-3
found-requires-in-Ended-3 c =
    let before =
    subst (λ (x : ByKind). IsUnderWayOf c.self.inside.puzzle c.self.inside.budget x) c.in-Nurikabe.is
    c.self.invariant in
    found_of kind.Nurikabe c.self.inside.puzzle c.self.inside.budget c.args.most
    c.in-Nurikabe.rules c.go_on-in-Nurikabe.new.rules c.in-Nurikabe.search before
    c.in_ok-searched-in-Nurikabe.field-0 c.in_ok-searched-in-Nurikabe.ensures.gone_on c.in-Ended-3.searched
    c.in-Ended-3.is
    c.in_ok-searched-in-Nurikabe.ensures.frugal

pub paused-requires-in-Paused-3 : goal.paused-requires-in-Paused-3
paused-requires-in-Paused-3 c =
    let before =
    subst (λ (x : ByKind). IsUnderWayOf c.self.inside.puzzle c.self.inside.budget x) c.in-Nurikabe.is
    c.self.invariant in
    paused_of kind.Nurikabe c.self.inside.puzzle c.self.inside.budget c.args.most
    c.in-Nurikabe.rules c.go_on-in-Nurikabe.new.rules c.in-Nurikabe.search before
    c.in_ok-searched-in-Nurikabe.field-0 c.in_ok-searched-in-Nurikabe.ensures.gone_on c.in-Paused-3.search
    c.in-Paused-3.is
    c.go_on-in-Nurikabe.ensures.same c.go_on-in-Nurikabe.ensures.at_visits
