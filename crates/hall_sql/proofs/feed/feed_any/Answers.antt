use Rattle.std.proofs.Common.{rules, arith, ◌≡◌, ◌∙◌, ◌++◌, inl, inr, true, false, refl, sym, subst, IsTrue, [], ◌∷◌}
use Rattle.sqlite.specs.Values.{bound}
use Rattle.sqlite.specs.Held.{state}
use Rattle.sqlite.specs.State.{HasCleanDisk}
use Rattle.hall_policy.specs.Sink.{HasTaken}
use Rattle.hall_sql.specs.Cause.{FeedFails}
use Rattle.hall_sql.specs.Feed.{Steps, AreAll}
use Rattle.hall_sql.proofs.AskedLemmas.{asked_cause}
use Rattle.hall_store.proofs.Knowing.{fails_as}
use Rattle.hall_sql.proofs.LastLemmas.{survived, last_then, quiet_query, quiet_then}
use Rattle.hall_sql.proofs.ShowsNothing.{asked_quiet}
use Rattle.hall_sql.proofs.CallLemmas.{rested, query_refused}
use Rattle.hall_sql.proofs.FeedLemmas.{taken_more, read_none, read_more, read_all, read_first, fed_first}
use Rattle.hall_sql.proofs.ReadCauseLemmas.{feed_cause}
use Rattle.hall_sql.proofs.feed.feed_any.Goals as goal

pub returns-in-Err-clause-rested : goal.returns-in-Err-clause-rested
returns-in-Err-clause-rested g c =
    let old = state g.S.Store c.args.conn.now in
    let new = state g.S.Store c.query.follows.lender-at-none in
    let held = c.query.follows.holds-at-none in
    let refused = rw c.in-Err.is at held in
    λ schema tabled. rested old new tabled (survived _ _ _ refused.survives)
    (λ was clean. query_refused old new c.args.sql.now (bound c.args.params.now) c.in-Err.error (refused.err clean))
    (quiet_query c.args.sql.now (bound c.args.params.now) old new
    (asked_quiet c.args.sql.now (bound c.args.params.now) c.requires.asks.fits) refused.survives)

pub feed-init : goal.feed-init
feed-init g c =
    let it = c.in-Ok.ensures in (
      refl,
      survived _ _ _ it.survives,
      quiet_query c.args.sql.now (bound c.args.params.now) _ _
          (asked_quiet c.args.sql.now (bound c.args.params.now) c.requires.asks.fits) it.survives,
      (
        [],
        refl,
        λ clean.
            let was : HasCleanDisk (state g.S.Store c.args.conn.now) = omega (arith, it.survives.clean, clean) in
            read_none g.S.Store g.G.Give.read c.args.sql.now (bound c.args.params.now) c.args.conn.now
            c.in-Ok.rows.conn.now
            (λ found like. (c.requires.asks.fits found like).plain) c.requires.asks.tabled was (it.begun clean),
      ),
    )

pub feed-preserved : goal.feed-preserved
feed-preserved g c =
    let old = state g.S.Store c.args.conn.now in
    let before = c.feed.rows.conn.now in
    let after = c.step.new.rows.conn.now in
    let so = c.feed.invariant.3 in
    let is : c.in_ok-step.field-0 ≡ true = search rules in
    let lasts = last_then old (state g.S.Store before) (state g.S.Store after) c.feed.invariant.1
    c.step.ensures.lasts in
    let stepped = subst (Steps g.S.Store g.G.Give.read g.G.Give.takes before after c.feed.taker c.step.new.taker) is
    c.in_ok-step.ensures.stepped in (
      c.step.ensures.same_reference ∙ c.feed.invariant.0,
      lasts,
      quiet_then old (state g.S.Store before) (state g.S.Store after) c.feed.invariant.2 c.step.ensures.lasts
          c.step.ensures.stops,
      (
        so.0 ++ stepped.0 ∷ [],
        taken_more g.G.Give.takes c.args.taker.now c.feed.taker c.step.new.taker so.0 stepped.0 so.1 stepped.1,
        λ clean.
            let mid : HasCleanDisk (state g.S.Store before) = omega (arith, c.step.ensures.lasts.clean, clean) in
            let row = stepped.2 clean in
            read_more g.S.Store g.G.Give.read c.args.sql.now (bound c.args.params.now) old before after so.0
            (so.2 mid)
            stepped.0 row.0 row.1.0 row.1.1 row.1.2,
      ),
    )

pub returns-then-not-branch-clause-fed : goal.returns-then-not-branch-clause-fed
returns-then-not-branch-clause-fed g c =
    let before = c.feed.rows.conn.now in
    let after = c.step.new.rows.conn.now in
    let so = c.feed.invariant.3 in
    let same : c.conn-then-not-branch-1.given.0 ≡ after = search rules in
    let none : c.in_ok-step.field-0 ≡ false = search rules in
    let stepped = subst (Steps g.S.Store g.G.Give.read g.G.Give.takes before after c.feed.taker c.step.new.taker) none
    c.in_ok-step.ensures.stepped in (
      so.0,
      subst (HasTaken g.G.Give.takes c.args.taker.now so.0) (sym stepped.0) so.1,
      λ clean.
          let late : HasCleanDisk (state g.S.Store after) = subst (λ h. HasCleanDisk (state g.S.Store h)) same clean in
          let mid : HasCleanDisk (state g.S.Store before) = omega (arith, c.step.ensures.lasts.clean, late) in
          let old = state g.S.Store c.args.conn.now in
          let was : HasCleanDisk old = omega (arith, c.feed.invariant.1.clean, mid) in
          let last = stepped.1 late in (
            subst (λ h. IsTrue (state g.S.Store h).is_open) (sym same) last.0.0.is_open,
            subst (λ h. AreAll g.G.Give.read c.args.sql.now (bound c.args.params.now) old (state g.S.Store h) so.0)
                (sym same)
                (read_all g.S.Store g.G.Give.read c.args.sql.now (bound c.args.params.now) old before after so.0
                (so.2 mid) (λ found like. (c.requires.asks.fits found like).plain) c.requires.asks.tabled was last.1),
          ),
    )

pub returns-clause-fed : goal.returns-clause-fed
returns-clause-fed g c =
    let held = c.feed.rows.conn.now in
    let so = c.feed.invariant.3 in
    let same : c.conn-2-1.given.0 ≡ held = search rules in (
      so.0,
      so.1,
      inr (λ clean.
          let mid : HasCleanDisk (state g.S.Store held) = subst (λ h. HasCleanDisk (state g.S.Store h)) same clean in
          read_first g.S.Store g.G.Give.read c.args.sql.now (bound c.args.params.now)
          (state g.S.Store c.args.conn.now) held held so.0 (so.2 mid)),
    )

pub returns-in_err-step-clause-fed : goal.returns-in_err-step-clause-fed
returns-in_err-step-clause-fed g c =
    let before = c.feed.rows.conn.now in
    let after = c.step.new.rows.conn.now in
    let so = c.feed.invariant.3 in
    let same : c.conn-in_err-step-1.given.0 ≡ after = search rules in
    fed_first g.S.Store g.G.Give.read g.G.Give.takes c.args.sql.now (bound c.args.params.now)
    (state g.S.Store c.args.conn.now) (state g.S.Store c.conn-in_err-step-1.given.0)
    c.args.taker.now c.step.new.taker c.from_residual.result _ c.from_residual.ensures.1 so.0
    (subst (HasTaken g.G.Give.takes c.args.taker.now so.0) (sym c.in_err-step.ensures.same) so.1)
    (λ clean.
    let late : HasCleanDisk (state g.S.Store after) = subst (λ h. HasCleanDisk (state g.S.Store h)) same clean in
    let mid : HasCleanDisk (state g.S.Store before) = omega (arith, c.step.ensures.lasts.clean, late) in
    read_first g.S.Store g.G.Give.read c.args.sql.now (bound c.args.params.now) (state g.S.Store c.args.conn.now)
    before before so.0 (so.2 mid))

pub returns-in-Err-clause-cause : goal.returns-in-Err-clause-cause
returns-in-Err-clause-cause g c clean failed =
    let old = state g.S.Store c.args.conn.now in
    let new = state g.S.Store c.query.follows.lender-at-none in
    let held = c.query.follows.holds-at-none in
    let refused = rw c.in-Err.is at held in
    let was : HasCleanDisk old = omega (arith, refused.survives.clean, clean) in
    inl (asked_cause c.args.sql.now (bound c.args.params.now) old new c.in-Err.error c.requires.asks.fits
    c.requires.asks.tabled was (c.fault_of.ensures failed) (refused.err clean))

pub returns-in_err-step-clause-cause : goal.returns-in_err-step-clause-cause
returns-in_err-step-clause-cause g c clean =
    let old = state g.S.Store c.args.conn.now in
    let before = c.feed.rows.conn.now in
    let after = c.step.new.rows.conn.now in
    let so = c.feed.invariant.3 in
    let same : c.conn-in_err-step-1.given.0 ≡ after = search rules in
    let late : HasCleanDisk (state g.S.Store after) = subst (λ h. HasCleanDisk (state g.S.Store h)) same clean in
    let mid : HasCleanDisk (state g.S.Store before) = omega (arith, c.step.ensures.lasts.clean, late) in
    let sql = c.args.sql.now in
    let params = bound c.args.params.now in
    fails_as c.from_residual.result _ _ c.from_residual.ensures.1 (λ failed.
    subst (λ h. FeedFails g.G.Give.read g.G.Give.takes g.G.Give.refuses sql params old (state g.S.Store h)
    c.args.taker.now c.step.new.taker)
    (sym same)
    (subst (FeedFails g.G.Give.read g.G.Give.takes g.G.Give.refuses sql params old (state g.S.Store after)
    c.args.taker.now)
    (sym c.in_err-step.ensures.same)
    (feed_cause g.S.Store g.G.Give.read g.G.Give.takes g.G.Give.refuses sql params old c.requires.asks
    before after
    c.args.taker.now c.feed.taker c.feed.invariant.1 mid c.step.ensures.lasts so.0 so.1 (so.2 mid)
    (c.in_err-step.ensures.cause late failed))))
