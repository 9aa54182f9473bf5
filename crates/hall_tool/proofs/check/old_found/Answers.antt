use Rattle.std.proofs.Common.{inl, refl}
use Rattle.std.specs.Prelude.{string_bytes}
use Rattle.std.proofs.lemmas.Result.{IfOk-weaker}
use Rattle.sqlite.specs.Held.{state}
use Rattle.hall_sql.proofs.StoreLemmas.{rests_on}
use Rattle.hall_tool.proofs.Checking.{old_fails, old_text, store_failed}
use Rattle.hall_tool.proofs.check.old_found.Goals as goal

pub returns-then-is_whole-clause-rested : goal.returns-then-is_whole-clause-rested
returns-then-is_whole-clause-rested g c =
    let old = state g.S.Store c.args.store.now in
    let mid = state g.S.Store c.bad_rows.new.self in
    let new = state g.S.Store c.copied_ending.new.store in
    rests_on old mid new c.in-Ok.ensures.rested c.copied_ending.ensures.rested

pub returns-then-is_whole-clause-text : goal.returns-then-is_whole-clause-text
returns-then-is_whole-clause-text g c =
    let none = rw c.deref.ensures.value at c.if-is_whole.ensures in
    let old = state g.S.Store c.args.store.now in
    let mid = state g.S.Store c.bad_rows.new.self in
    let new = state g.S.Store c.copied_ending.new.store in
    IfOk-weaker c.copied_ending.result _ _ (λ ending told. old_text c.args.budget old mid new (string_bytes ending.line)
    ending.status c.in-Ok.ensures.rested c.copied_ending.ensures.rested (λ clean. (c.in-Ok.ensures.bad clean).0)
    (λ clean. c.in-Ok.ensures.whole clean (none.0 refl)) told) c.copied_ending.ensures.text

pub returns-in-Err-clause-fault : goal.returns-in-Err-clause-fault
returns-in-Err-clause-fault g c is clean = inl (c.in-Err.ensures.cause clean
    (store_failed c.in-Err.fault c.told.result c.told.ensures is))

pub returns-then-is_whole-clause-fault : goal.returns-then-is_whole-clause-fault
returns-then-is_whole-clause-fault g c is =
    let none = rw c.deref.ensures.value at c.if-is_whole.ensures in
    let old = state g.S.Store c.args.store.now in
    let mid = state g.S.Store c.bad_rows.new.self in
    let new = state g.S.Store c.copied_ending.new.store in
    old_fails old mid new c.in-Ok.ensures.rested c.copied_ending.ensures.rested (λ clean. (c.in-Ok.ensures.bad clean).0)
    (λ clean. c.in-Ok.ensures.whole clean (none.0 refl)) (c.copied_ending.ensures.fault is)
