use Rattle.std.proofs.Common.{sym, ◌∙◌}
use Rattle.hall_tool.proofs.Seeding.{adds_nobody, nobody_leaves, on_err}
use Rattle.hall_tool.proofs.seed.seed_run.Goals as goal

pub returns-in_err-write_all-clause-left : goal.returns-in_err-write_all-clause-left
returns-in_err-write_all-clause-left g c =
    let part = rw c.as_bytes.ensures.value at c.in_err-write_all.ensures.part in
    let line = c.in_ok-ending.ensures.line in
    let seeded = c.in_ok-seeded.seeded in
    on_err c.from_residual-in_err-write_all.result _
    (nobody_leaves _ _ _ seeded c.in_ok-seeded.ensures.leads c.in_ok-seeded.ensures.seeded
    (adds_nobody seeded part.0 part.1 (sym line.0 ∙ part.2) part.3))

pub returns-in_err-write_all-clause-part : goal.returns-in_err-write_all-clause-part
returns-in_err-write_all-clause-part g c =
    λ _. (
      _,
      _,
      (
        c.in_ok-seeded.seeded,
        c.in_ok-seeded.ensures.seeded,
        c.in_ok-ending.ensures.line.0,
        c.in_ok-ending.ensures.line.1,
      ),
      rw c.as_bytes.ensures.value at c.in_err-write_all.ensures.part,
    )

pub returns-in_err-ending-clause-left : goal.returns-in_err-ending-clause-left
returns-in_err-ending-clause-left g c =
    let seeded = c.in_ok-seeded.seeded in
    on_err c.from_residual-in_err-ending.result _
    (nobody_leaves _ _ _ seeded c.in_ok-seeded.ensures.leads c.in_ok-seeded.ensures.seeded
    c.in_err-ending.ensures.memory)
