use Rattle.std.proofs.Common.{rules, arith, [], ◌∷◌, ◌≡◌, ◌∙◌, Some, None, refl, sym, subst}
use Rattle.sqlite.specs.Effect.{Database}
use Rattle.sqlite.specs.Held.{state}
use Rattle.sqlite.specs.State.{HasCleanDisk, IsUnchanged}
use Rattle.sqlite.proofs.Callers.{unchanged_then}
use Rattle.hall_sql.specs.Versions.{HasTable}
use Rattle.hall_sql.specs.Standing.{AddsNoOutcome, AreKeyed}
use Rattle.hall_sql.specs.Statements.{rowids_text}
use Rattle.hall_sql.specs.Scan.{tree_of, Scanned}
use Rattle.hall_sql.proofs.LastLemmas.{last_none, survived, last_then, quiet_query, quiet_then}
use Rattle.hall_sql.proofs.CallLemmas.{query_refused}
use Rattle.hall_sql.proofs.ScanLemmas.{rowids_quiet, scan_begun, scanned_end, scanned_more, ints_chain}
use Rattle.hall_sql.specs.AdoptCause.{ScanFails}
use Rattle.hall_store.proofs.Knowing.{fails_as}
use Rattle.hall_sql.proofs.ScanCauseLemmas.{asks_cause, next_cause}
use Rattle.hall_sql.proofs.scan.check_rowids.Goals as goal

pub returns-in-Err-clause-rests : goal.returns-in-Err-clause-rests
returns-in-Err-clause-rests g c clean =
    let held = c.query.follows.holds-at-none in
    let refused = rw c.in-Err.is at held in
    query_refused (state g.S.Store c.args.conn.now) (state g.S.Store c.query.follows.lender-at-none) _ _ c.in-Err.error
    (refused.err clean)

pub scan-init : goal.scan-init
scan-init g c =
    let it = c.in-Ok.ensures in (
      refl,
      survived _ _ _ it.survives,
      quiet_query (rowids_text c.args.table) [] _ _ (rowids_quiet c.args.table)
          (rw c.rowids_text.ensures at it.survives),
      λ clean.
          let was : HasCleanDisk (state g.S.Store c.args.conn.now) = omega (arith, it.survives.clean, clean) in
          scan_begun g.S.Store c.args.table c.args.conn.now c.in-Ok.rows.conn.now (c.requires.schema was)
          (rw c.rowids_text.ensures at it.begun clean),
    )

pub returns-in_default-clause-scanned : goal.returns-in_default-clause-scanned
returns-in_default-clause-scanned g c clean =
    let old = state g.S.Store c.args.conn.now in
    let before = state g.S.Store c.scan.rows.conn.now in
    let after = state g.S.Store c.next_id.new.rows.conn.now in
    let same : c.conn-in_default-1.given.0 ≡ c.next_id.new.rows.conn.now = search rules in
    let late : HasCleanDisk after = subst (λ h. HasCleanDisk (state g.S.Store h)) same clean in
    let mid : HasCleanDisk before = omega (arith, c.next_id.ensures.lasts.clean, late) in
    let was : HasCleanDisk old = omega (arith, c.scan.invariant.1.clean, mid) in
    let so = c.scan.invariant.3 mid in
    let none : c.in_ok-id.field-0 ≡ None = search rules in
    let it = subst (Scanned g.S.Store c.scan.rows.conn.now c.next_id.new.rows.conn.now c.scan.last) none
    (c.in_ok-id.ensures.scanned late) in
    let has = subst (λ (d : Database). HasTable d.schema c.args.table) (sym so.0.0.now_is) (c.requires.schema was) in
    let keyed = scanned_end g.S.Store c.args.table c.scan.rows.conn.now c.next_id.new.rows.conn.now c.scan.last has so.1
    it.1 in
    let first = subst (λ (d : Database). AreKeyed (d.trees (tree_of c.args.table))) so.0.0.now_is keyed in
    (subst (λ h. IsUnchanged old (state g.S.Store h)) (sym same) (unchanged_then old before after so.0 it.0), first)

pub scan-preserved : goal.scan-preserved
scan-preserved g c =
    let old = state g.S.Store c.args.conn.now in
    let before = state g.S.Store c.scan.rows.conn.now in
    let after = state g.S.Store c.next_id.new.rows.conn.now in
    let lasts = last_then old before after c.scan.invariant.1 c.next_id.ensures.lasts in (
      c.next_id.ensures.same_reference ∙ c.scan.invariant.0,
      lasts,
      quiet_then old before after c.scan.invariant.2 c.next_id.ensures.lasts c.next_id.ensures.stops,
      λ clean.
          let mid : HasCleanDisk before = omega (arith, c.next_id.ensures.lasts.clean, clean) in
          let so = c.scan.invariant.3 mid in
          let is : c.in_ok-id.field-0 ≡ Some c.in-Some.id = search rules in
          let it = subst (Scanned g.S.Store c.scan.rows.conn.now c.next_id.new.rows.conn.now c.scan.last) is
          (c.in_ok-id.ensures.scanned clean) in
          let here = scanned_more g.S.Store (rowids_text c.args.table) c.scan.rows.conn.now c.next_id.new.rows.conn.now
          c.scan.last c.in-Some.id ints_chain so.1 it in
          (unchanged_then old before after so.0 it.0, search rules),
    )

pub returns-in-Err-clause-cause : goal.returns-in-Err-clause-cause
returns-in-Err-clause-cause g c clean failed =
    let old = state g.S.Store c.args.conn.now in
    let new = state g.S.Store c.query.follows.lender-at-none in
    let held = c.query.follows.holds-at-none in
    let refused = rw c.in-Err.is at held in
    let was : HasCleanDisk old = omega (arith, refused.survives.clean, clean) in
    asks_cause c.args.table old old new c.in-Err.error (last_none old) was (survived old new _ refused.survives)
    (c.requires.schema was)
    (c.fault_of.ensures failed) (rw c.rowids_text.ensures at refused.err clean)

pub returns-in_err-id-clause-cause : goal.returns-in_err-id-clause-cause
returns-in_err-id-clause-cause g c clean =
    let old = state g.S.Store c.args.conn.now in
    let before = state g.S.Store c.scan.rows.conn.now in
    let after = state g.S.Store c.next_id.new.rows.conn.now in
    let same : c.conn-in_err-id-1.given.0 ≡ c.next_id.new.rows.conn.now = search rules in
    let late : HasCleanDisk after = subst (λ h. HasCleanDisk (state g.S.Store h)) same clean in
    let mid : HasCleanDisk before = omega (arith, c.next_id.ensures.lasts.clean, late) in
    let was : HasCleanDisk old = omega (arith, c.scan.invariant.1.clean, mid) in
    let so = c.scan.invariant.3 mid in
    let has = subst (λ (d : Database). HasTable d.schema c.args.table) (sym so.0.0.now_is) (c.requires.schema was) in
    fails_as c.from_residual.result _ _ c.from_residual.ensures.1 (λ failed.
    subst (λ h. ScanFails (c.args.table ∷ []) old (state g.S.Store h)) (sym same)
    (next_cause g.S.Store c.args.table old c.scan.rows.conn.now c.next_id.new.rows.conn.now c.scan.last
    c.scan.invariant.1 mid c.next_id.ensures.lasts
    so.0 has so.1 (c.in_err-id.ensures.cause late failed)))

pub returns-in-Err-clause-stops : goal.returns-in-Err-clause-stops
returns-in-Err-clause-stops g c =
    let held = c.query.follows.holds-at-none in
    let refused = rw (c.in-Err.is, c.rowids_text.ensures) at held in
    quiet_query (rowids_text c.args.table) [] (state g.S.Store c.args.conn.now)
    (state g.S.Store c.query.follows.lender-at-none) (rowids_quiet c.args.table) refused.survives

pub returns-in_default-clause-stops : goal.returns-in_default-clause-stops
returns-in_default-clause-stops g c =
    let old = state g.S.Store c.args.conn.now in
    let same : c.conn-in_default-1.given.0 ≡ c.next_id.new.rows.conn.now = search rules in
    subst (λ h. AddsNoOutcome old (state g.S.Store h)) (sym same)
    (quiet_then old (state g.S.Store c.scan.rows.conn.now) (state g.S.Store c.next_id.new.rows.conn.now)
    c.scan.invariant.2 c.next_id.ensures.lasts c.next_id.ensures.stops)

pub returns-in_err-id-clause-stops : goal.returns-in_err-id-clause-stops
returns-in_err-id-clause-stops g c =
    let old = state g.S.Store c.args.conn.now in
    let same : c.conn-in_err-id-1.given.0 ≡ c.next_id.new.rows.conn.now = search rules in
    subst (λ h. AddsNoOutcome old (state g.S.Store h)) (sym same)
    (quiet_then old (state g.S.Store c.scan.rows.conn.now) (state g.S.Store c.next_id.new.rows.conn.now)
    c.scan.invariant.2 c.next_id.ensures.lasts c.next_id.ensures.stops)
