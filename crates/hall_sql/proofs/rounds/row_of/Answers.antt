use Rattle.std.proofs.Common.{rules, ◌≡◌, ◌∙◌, length, sym, subst}
use Rattle.std.proofs.lemmas.Result.{IfOk-weaker, IfErr-weaker}
use Rattle.hall_policy.specs.Lists.{AreEntries}
use Rattle.hall_store.specs.Store.{IsRoundKept}
use Rattle.hall_sql.specs.Cause.{AreNoRound}
use Rattle.hall_store.proofs.Knowing.{fails_as}
use Rattle.hall_sql.proofs.RoundRows.{round_assembled, round_absent}
use Rattle.hall_sql.proofs.rounds.row_of.Goals as goal

pub returns-in-Some-clause-row : goal.returns-in-Some-clause-row
returns-in-Some-clause-row c world id head are test =
    let listed = c.in_ok-entries_of-in-Some.ensures.entries in
    IfOk-weaker c.listed_row.result _ _ (λ found is. subst (IsRoundKept world id) (sym is)
    (round_assembled world id c.args.places.items are listed.1 c.in-Some.round c.in_ok-puzzles-in-Some.puzzles
    c.args.names.items (sym c.in-Some.is ∙ head)
    (c.in_ok-puzzles-in-Some.ensures.list ∙ listed.0) test)) c.listed_row.ensures.row

pub returns-in-Some-clause-none : goal.returns-in-Some-clause-none
returns-in-Some-clause-none c =
    IfErr-weaker c.listed_row.result _ _ (λ fault none failed.
    subst (λ found. AreNoRound found c.args.places.items c.args.names.items) (sym c.in-Some.is)
    (λ all. none failed all.2)) c.listed_row.ensures.none

pub returns-in_err-puzzles-in-Some-clause-none : goal.returns-in_err-puzzles-in-Some-clause-none
returns-in_err-puzzles-in-Some-clause-none c =
    let listed = c.in_ok-entries_of-in-Some.ensures.entries in
    fails_as c.from_residual-in_err-puzzles-in-Some.result _ _ c.from_residual-in_err-puzzles-in-Some.ensures.1
    (λ failed.
    subst (λ found. AreNoRound found c.args.places.items c.args.names.items) (sym c.in-Some.is)
    (λ all. c.in_err-puzzles-in-Some.ensures.none failed (subst AreEntries (sym listed.0) all.1)))

pub returns-in-None-clause-row : goal.returns-in-None-clause-row
returns-in-None-clause-row c world id head are test =
    let none : length c.args.places.items ≡ 0 = search rules in
    round_absent world id c.args.places.items are (sym c.in-None.is ∙ head) none

pub returns-in_err-entries_of-in-Some-clause-none : goal.returns-in_err-entries_of-in-Some-clause-none
returns-in_err-entries_of-in-Some-clause-none c =
    fails_as c.from_residual.result _ _ c.from_residual.ensures.1 (λ failed.
    subst (λ found. AreNoRound found c.args.places.items c.args.names.items) (sym c.in-Some.is)
    (λ all. c.in_err-entries_of-in-Some.ensures.other failed all.0))
