use Rattle.std.proofs.Common.{◌≡◌, ◌⊎◌, ◌∙◌, inl, inr, sym, IfErr, arith}
use Rattle.hall_store.specs.declared.fault.StoreFault.TheVariants.{Failed}
use Rattle.hall_sql.specs.Cause.{IsStoreCause}
use Rattle.hall_sql.specs.WriteCause.{PersonIsRefused}
use Rattle.sqlite.specs.Held.{state}
use Rattle.sqlite.specs.State.{HasCleanDisk}
use Rattle.hall_store.proofs.Knowing.{fails_as}
use Rattle.std.proofs.lemmas.Result.{IfErr-weaker}
use Rattle.hall_sql.specs.declared.people.TheConstants.{ADD_PERSON}
use Rattle.hall_sql.specs.Columns.{person_params}
use Rattle.hall_sql.proofs.WriteCauseLemmas.{goes_on, run_over}
use Rattle.hall_sql.proofs.people.import_one.Goals.{in-Some, in-None}
use Rattle.hall_sql.proofs.people.import_one.Goals as goal

pub returns-in_err-person_in-clause-cause : goal.returns-in_err-person_in-clause-cause
returns-in_err-person_in-clause-cause g c clean goes =
    fails_as c.from_residual.result _ _ c.from_residual.ensures.1 (λ failed.
    elim (c.in_err-person_in.ensures.cause clean goes failed) [
      | inl cause ↦ inl cause
      | inr unfound ↦ inr (inl unfound)
    ])

pub returns-clause-cause : goal.returns-clause-cause
returns-clause-cause g c clean goes = elim c.match-branch-2.branch [
  | in-Some w ↦ rw w.result-is tt
  | in-None w ↦
      let old = state g.S.Store c.args.tx.now.conn.now in
      let mid = state g.S.Store c.person_in.new.tx.conn.now in
      let new = state g.S.Store w.add_person.new.tx.conn.now in
      let to_mid = c.person_in.ensures.carries.lasts in
      let to_new = w.add_person.ensures.carries.lasts in
      let late : HasCleanDisk new = rw w.tx-is at clean in
      let was : HasCleanDisk mid = omega (arith, to_new.clean, late) in
      let it = c.in_ok-person_in.ensures.done was goes.mode in
      let why = w.add_person.ensures.cause late (goes_on old mid goes to_mid it.steps) in
      let all : IfErr w.add_person.result (λ fault. fault ≡ Failed → IsStoreCause old new
      ⊎ PersonIsRefused c.args.person.now old new) =
      IfErr-weaker w.add_person.result _ _ (λ fault one failed.
      elim (run_over ADD_PERSON.now (person_params c.args.person.now) old mid new to_mid was to_new
      (it.does goes.hall).same (one failed)) [
        | inl cause ↦ inl cause
        | inr refused ↦ inr (inr (sym (it.does goes.hall).means ∙ w.in-None.is, refused))
      ]) why in
      rw (w.tx-is, w.result-is) all
]
