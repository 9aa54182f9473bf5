-- A line of an entry list, as its reader takes it apart.
use Rattle.std.specs.Prelude.{ℕ, List, true, ◌&&◌, not, if◌then◌else◌, Option, Some, None, codes}
use Rattle.std.specs.Str.{bytes_eq}
use Rattle.hall_policy.specs.declared.record.Roles.{Roles}
use Rattle.hall_sheet.specs.declared.entry.Line.{Line}
use Rattle.hall_sheet.specs.People.{Fields}

-- the texts that a line lends
abbrev pub line_seen : Line → Fields
line_seen line = record { name = line.name.now; key = line.key.now; roles = line.roles.now }

-- the roles with the one that a word names, where it names one that isn't there yet
abbrev pub with_role : Roles → List ℕ → Option Roles
with_role roles word =
    if bytes_eq word (codes "director") && not roles.director then Some (record roles { director = true })
    else if bytes_eq word (codes "author") && not roles.author then Some (record roles { author = true })
    else if bytes_eq word (codes "referee") && not roles.referee then Some (record roles { referee = true })
    else if bytes_eq word (codes "entrant") && not roles.entrant then Some (record roles { entrant = true })
    else None
