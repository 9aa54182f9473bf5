use Rattle.std.proofs.Common.{◌≡◌, length}
use denote.Shadow.{shadow}
use denote.Text.{Utf8}
use Rattle.hall_sheet.specs.People.{words_in, roles_in_text}
use Rattle.hall_sheet.proofs.RolesIn.{roles_from}
use Rattle.hall_sheet.proofs.entry.read_roles.Given as goal

-- the roles so far, and those of the words that are left, are all
abbrev pub invariant-loop-word : goal.invariant-loop-word
invariant-loop-word l = (roles_from l.roles (words_in l.rest) ≡ roles_in_text l.text) × shadow (Utf8 l.rest)

abbrev pub decreases-loop-word : goal.decreases-loop-word
decreases-loop-word l = length l.rest
