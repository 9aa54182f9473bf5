use Rattle.std.specs.Prelude.{Result, Ok, Err, OnErr}
use Rattle.std.proofs.KnownBytes.{Appends-trans}
use Rattle.std.proofs.lemmas.Result.{on_err_weaker, on_ok_weaker}
use Rattle.hall_http.proofs.Bytes.{part_before, part_behind}
use Rattle.hall_http.proofs.device.write_parts.Goals as goal

pub returns-clause-written : goal.returns-clause-written
returns-clause-written g c =
    on_ok_weaker c.write_all-2.result (λ more. Appends-trans _ _ _ _ _ c.in_ok-write_all.ensures.written more)
    c.write_all-2.ensures.written

pub returns-clause-part : goal.returns-clause-part
returns-clause-part g c =
    on_err_weaker c.write_all-2.result (part_behind _ _ _ _ _ c.in_ok-write_all.ensures.written) c.write_all-2.ensures.part

on_err : {T E P : Type 0} (r : Result T E) → P → OnErr r P
on_err (Ok x) holds = tt
on_err (Err e) holds = holds

pub returns-in_err-write_all-clause-part : goal.returns-in_err-write_all-clause-part
returns-in_err-write_all-clause-part g c =
    on_err c.from_residual.result (part_before _ _ _ _ c.in_err-write_all.ensures.part)
