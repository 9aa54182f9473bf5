use Rattle.std.proofs.Common.{◌≡◌, ◌∙◌, sym, inl, inr}
use Rattle.std.proofs.lemmas.Result.{IfOk-weaker}
use Rattle.hall_desk.specs.Desk.{kept_by}
use Rattle.hall_desk.specs.Plan.{planned_reply}
use Rattle.hall_tool.proofs.TableText.{other_fails, table_told}
use Rattle.hall_tool.specs.declared.fault.ToolFault.TheVariants as tool
use Rattle.hall_tool.proofs.table.table_of.Goals as goal

pub returns-in-Ok-clause-told : goal.returns-in-Ok-clause-told
returns-in-Ok-clause-told g c =
    let new = g.S.ReadStore.content (kept_by c.plan-planned.new.self) in
    let told = table_told new c.args.round c.in-Ok.plan c.in-Some.t c.in-Some.ensures.value c.in-Ok.ensures.planned in
    IfOk-weaker c.written_of.result _ _ (λ ending written. (planned_reply c.in-Ok.plan, told, written))
    c.written_of.ensures.written

pub returns-in-Ok-clause-fault : goal.returns-in-Ok-clause-fault
returns-in-Ok-clause-fault g c = λ failed.
    let old = g.S.ReadStore.content (kept_by c.args.desk.now) in
    let new = g.S.ReadStore.content (kept_by c.plan-planned.new.self) in
    let told = table_told new c.args.round c.in-Ok.plan c.in-Some.t c.in-Some.ensures.value c.in-Ok.ensures.planned in
    other_fails old new c.args.round (planned_reply c.in-Ok.plan) told (c.written_of.ensures.fault failed)

pub returns-in-Err-clause-cause : goal.returns-in-Err-clause-cause
returns-in-Err-clause-cause g c = elim c.told.ensures [
  | inl memory ↦ inl memory.1
  | inr store ↦ inr store.1
]

pub returns-in-Err-clause-fault : goal.returns-in-Err-clause-fault
returns-in-Err-clause-fault g c = λ failed. elim c.told.ensures [
  | inl memory ↦ let same : c.told.result ≡ tool.Store = cc in absurd
      (let no : tool.Memory ≡ tool.Store = sym memory.1 ∙ same in cc)
  | inr store ↦ (rw c.in-Err.is at c.plan-planned.ensures.fault) store.0
]
