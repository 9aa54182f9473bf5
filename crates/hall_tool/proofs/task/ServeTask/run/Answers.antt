use Rattle.std.proofs.Common.{rules, inl, inr, refl}
use Rattle.hall_desk.specs.Desk.{kept_by}
use Rattle.hall_tool.proofs.task.ServeTask.run.Goals as goal

pub returns-in_default-serve_all : goal.returns-in_default-serve_all
returns-in_default-serve_all g c = (
  inl (
    _,
    _,
    kept_by c.census.new.self,
    _,
    _,
    _,
    c.in-Ok.ensures.listening,
    search rules,
    c.tell.ensures,
    c.clock-clock.ensures,
    inr (rw (c.in_default-serve_all.ensures.memory.1, c.none_came.ensures) at c.end.ensures, search rules, refl),
  ),
  refl,
  refl,
)

pub returns : goal.returns
returns g c = (
  inl (
    _,
    _,
    kept_by c.census.new.self,
    _,
    _,
    _,
    c.in-Ok.ensures.listening,
    search rules,
    c.tell.ensures,
    c.clock-clock.ensures,
    inl (
      _,
      _,
      _,
      c.in-Ok-serve_all.end,
      c.in-Ok-serve_all.ensures.served,
      c.in-Ok-serve_all.ensures.ended,
      c.in-Ok-serve_all.ensures.fair,
      c.end-2.ensures,
      c.serve_end.ensures,
    ),
  ),
  refl,
  refl,
)
