use Rattle.std.proofs.Common.{rules, arith, ◌≡◌, ◌∙◌, length, sym, subst, [], ◌∷◌}
use Rattle.sqlite.specs.Held.{state}
use Rattle.sqlite.specs.Effect.{Database}
use Rattle.sqlite.specs.State.{HasCleanDisk}
use Rattle.std.specs.List.{filter}
use Rattle.hall_sql.specs.Tables.{IsHallSchema}
use Rattle.hall_sql.specs.Columns.{stands_under}
use Rattle.hall_sql.proofs.PuzzleWrites.{puzzle_looked}
use Rattle.sqlite.specs.declared.types.Value.TheVariants.{Text}
use Rattle.hall_sql.specs.declared.puzzles.TheConstants.{LOOK_PUZZLE}
use Rattle.hall_store.proofs.Knowing.{fails_as}
use Rattle.hall_sql.proofs.ShowsNothing.{asked_quiet}
use Rattle.hall_sql.proofs.StoreLemmas.{over_hall, rested_hall}
use Rattle.hall_sql.proofs.AskedLemmas.{asked_cause}
use Rattle.hall_sql.proofs.Written.{look_puzzle_asked}
use Rattle.hall_sql.proofs.puzzles.look.Goals as goal

pub ask-requires : goal.ask-requires
ask-requires g c = record {
  plain = over_hall c.requires.hall
      (λ schema ours. (look_puzzle_asked [] [] schema ours).plain);
  quiet = asked_quiet LOOK_PUZZLE.now
      (Text [] ∷ Text [] ∷ []) (look_puzzle_asked [] []);
}

pub returns-clause-rested : goal.returns-clause-rested
returns-clause-rested g c = rested_hall c.requires.hall c.ask.ensures.rested

pub returns-in_err-ask-clause-rested : goal.returns-in_err-ask-clause-rested
returns-in_err-ask-clause-rested g c = rested_hall c.requires.hall c.ask.ensures.rested

pub returns-clause-found : goal.returns-clause-found
returns-clause-found g c clean =
    let rested = rested_hall c.requires.hall c.ask.ensures.rested in
    let opens = c.in_ok-ask.ensures.serves clean in
    let was : HasCleanDisk (state g.S.Store c.args.conn.now) = omega (arith, rested.follows.lasts.clean, clean) in
    let opened = rested.follows.opened clean opens in
    let has : IsHallSchema (state g.S.Store c.args.conn.now).now.schema = (c.requires.hall.settled was opened).1 in
    let many = puzzle_looked c.args.key.now (state g.S.Store c.args.conn.now) (state g.S.Store c.ask.new.conn)
    c.in_ok-ask.field-0.items has (rw (
      c.params-to_sql.ensures,
      c.params-to_sql-2.ensures,
      c.as_str.ensures.text,
      c.as_str-2.ensures.text,
    ) at (c.in_ok-ask.ensures.shown clean)) in
    let count : length c.in_ok-ask.field-0.items ≡ c.len.result = search rules in
    subst (λ (d : Database). length (filter (stands_under c.args.key.now) (d.trees 3)) ≡ c.len.result)
    (sym (rested.same clean opens)) (many ∙ count)

pub returns-in_err-ask-clause-cause : goal.returns-in_err-ask-clause-cause
returns-in_err-ask-clause-cause g c clean =
    let old = state g.S.Store c.args.conn.now in
    let key = c.args.key.now in
    let was : HasCleanDisk old = omega (
      arith,
      (rested_hall c.requires.hall c.ask.ensures.rested).follows.lasts.clean,
      clean,
    ) in
    fails_as c.from_residual.result _ _ c.from_residual.ensures.1 (λ failed.
    let it = rw (c.params-to_sql.ensures, c.params-to_sql-2.ensures, c.as_str.ensures.text, c.as_str-2.ensures.text) at
    (c.in_err-ask.ensures.cause clean failed) in
    asked_cause LOOK_PUZZLE.now (Text key.author ∷ Text key.label ∷ []) old (state g.S.Store c.ask.new.conn) it.0
    (look_puzzle_asked key.author key.label)
    c.requires.hall was it.1 it.2)
