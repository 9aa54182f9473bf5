-- That a person is something in the hall.
use Rattle.std.specs.Prelude.{IsTrue, ◌||◌}
use Rattle.hall_policy.specs.declared.record.Roles.{Roles}

-- one of the roles is held
abbrev pub HasRole : Roles → Type 0
HasRole roles = IsTrue (roles.director || (roles.author || (roles.referee || roles.entrant)))
