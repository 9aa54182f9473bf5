use Rattle.std.proofs.Common.{refl}
use Rattle.std.specs.Prelude.{string_bytes}
use Rattle.std.proofs.lemmas.Result.{IfOk-weaker}
use Rattle.sqlite.specs.Held.{state}
use Rattle.hall_sql.proofs.StoreLemmas.{rested_kept}
use Rattle.hall_tool.proofs.Checking.{present_fails, present_kept, present_text, store_failed}
use Rattle.hall_tool.proofs.check.present_ending.Goals as goal

pub returns-in-Err-clause-kept : goal.returns-in-Err-clause-kept
returns-in-Err-clause-kept g c = rested_kept _ _ c.in-Err.ensures.rested

pub returns-then-is_whole-clause-kept : goal.returns-then-is_whole-clause-kept
returns-then-is_whole-clause-kept g c =
    let old = state g.S.Store c.args.store.now in
    let mid = state g.S.Store c.bad_rows.new.self in
    let new = state g.S.Store c.world_ending.new.store in
    present_kept old mid new c.in-Ok.ensures.rested c.world_ending.ensures.kept

pub returns-then-is_whole-clause-text : goal.returns-then-is_whole-clause-text
returns-then-is_whole-clause-text g c =
    let none = rw c.deref.ensures.value at c.if-is_whole.ensures in
    let old = state g.S.Store c.args.store.now in
    let mid = state g.S.Store c.bad_rows.new.self in
    let new = state g.S.Store c.world_ending.new.store in
    IfOk-weaker c.world_ending.result _ _ (λ ending (serves, told). present_text c.args.budget old mid new
    (string_bytes ending.line) ending.status c.in-Ok.ensures.rested c.world_ending.ensures.kept
    (λ clean. (c.in-Ok.ensures.bad clean).0) (λ clean. c.in-Ok.ensures.whole clean (none.0 refl))
    (λ clean. c.in-Ok.ensures.room clean (none.0 refl)) serves told) c.world_ending.ensures.text

pub returns-in-Err-clause-fault : goal.returns-in-Err-clause-fault
returns-in-Err-clause-fault g c is = c.in-Err.ensures.fault (store_failed c.in-Err.fault c.told.result c.told.ensures
    is)

pub returns-then-is_whole-clause-fault : goal.returns-then-is_whole-clause-fault
returns-then-is_whole-clause-fault g c is =
    let none = rw c.deref.ensures.value at c.if-is_whole.ensures in
    let old = state g.S.Store c.args.store.now in
    let mid = state g.S.Store c.bad_rows.new.self in
    let new = state g.S.Store c.world_ending.new.store in
    present_fails old mid new c.in-Ok.ensures.rested c.world_ending.ensures.kept
    (λ clean. c.in-Ok.ensures.whole clean (none.0 refl))
    (c.world_ending.ensures.fault is)
