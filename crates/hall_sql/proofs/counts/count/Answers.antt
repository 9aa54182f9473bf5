use Rattle.std.proofs.Common.{rules, ◌≡◌, ◌∙◌, inl, length, sym, arith}
use Rattle.sqlite.specs.Values.{bound}
use Rattle.sqlite.specs.Held.{state}
use Rattle.sqlite.specs.State.{HasCleanDisk}
use Rattle.hall_sql.proofs.AskedLemmas.{asked_cause}
use Rattle.hall_store.proofs.Knowing.{fails_as}
use Rattle.hall_sql.proofs.FoundLemmas.{length_read}
use Rattle.hall_sql.proofs.ShowsNothing.{asked_quiet}
use Rattle.hall_sql.proofs.StoreLemmas.{rested_hall}
use Rattle.hall_sql.proofs.counts.count.Goals as goal

pub ask-requires-clause-quiet : goal.ask-requires-clause-quiet
ask-requires-clause-quiet g c = asked_quiet c.args.sql.now (bound c.args.params.now) c.requires.asks

pub returns-in_err-rows-clause-rested : goal.returns-in_err-rows-clause-rested
returns-in_err-rows-clause-rested g c = rested_hall c.requires.hall c.ask.ensures.rested

pub returns-in_err-look_at_all-clause-rested : goal.returns-in_err-look_at_all-clause-rested
returns-in_err-look_at_all-clause-rested g c = rested_hall c.requires.hall c.ask.ensures.rested

pub returns-clause-rested : goal.returns-clause-rested
returns-clause-rested g c = rested_hall c.requires.hall c.ask.ensures.rested

pub returns-in_err-rows-clause-cause : goal.returns-in_err-rows-clause-cause
returns-in_err-rows-clause-cause g c clean =
    let old = state g.S.Store c.args.conn.now in
    let was : HasCleanDisk old = omega (
      arith,
      (rested_hall c.requires.hall c.ask.ensures.rested).follows.lasts.clean,
      clean,
    ) in
    fails_as c.from_residual.result _ _ c.from_residual.ensures.1 (λ failed.
    let it = c.in_err-rows.ensures.cause clean failed in
    inl (asked_cause c.args.sql.now (bound c.args.params.now) old (state g.S.Store c.ask.new.conn) it.0 c.requires.asks
    c.requires.hall was it.1 it.2))

pub returns-clause-counted : goal.returns-clause-counted
returns-clause-counted g c clean =
    let opens = c.in_ok-rows.ensures.serves clean in
    let all = rw c.deref.ensures.value at c.in_ok-look_at_all.ensures.all in
    let many : length c.in_ok-rows.rows.items ≡ c.len.result = search rules in
    record {
      records = all.0;
      many = sym many ∙ length_read g.T.Counted.counts c.in_ok-rows.rows.items all.0 all.1;
      are = (
        opens,
        record {
          served = (rested_hall c.requires.hall c.ask.ensures.rested).follows.opened clean opens;
          rows = c.in_ok-rows.rows.items;
          reads = all.1;
          shown = c.in_ok-rows.ensures.shown clean;
        },
      );
    }
