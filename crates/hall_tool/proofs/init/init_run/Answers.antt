use Rattle.hall_tool.proofs.init.init_run.Goals as goal

pub returns-in_err-write_all-clause-part : goal.returns-in_err-write_all-clause-part
returns-in_err-write_all-clause-part g c =
    λ _. (
      _,
      _,
      (
        c.in_ok-seeded.seeded,
        c.in_ok-seeded.ensures.seeded,
        c.in_ok-ending.ensures.line.0,
        c.in_ok-ending.ensures.line.1,
      ),
      rw c.as_bytes.ensures.value at c.in_err-write_all.ensures.part,
    )
