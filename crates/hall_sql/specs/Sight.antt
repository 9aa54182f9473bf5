-- What is seen of a file that gives no database.
use Rattle.std.specs.Prelude.{◌||◌, ◌==◌, ℕ, Bool, List, not, get_or, nat_eq, codes, if◌then◌else◌}
use Rattle.std.specs.List.{starts_with}
use Rattle.hall_sql.specs.declared.sight.Sight.{Sight}
use Rattle.hall_sql.specs.declared.sight.Sight.TheVariants.{Other, Utf16, Vacuumed, Nothing}

-- bytes 52 to 55 of the header, the number of the greatest tree's root, which auto_vacuum alone keeps, aren't all 0
abbrev pub is_vacuumed : List ℕ → Bool
is_vacuumed header =
    not (get_or header 52 0 == 0)
    || (not (get_or header 53 0 == 0) || (not (get_or header 54 0 == 0) || not (get_or header 55 0 == 0)))

-- byte 59 of the header says that its texts are UTF-16
abbrev pub is_utf16 : List ℕ → Bool
is_utf16 header = (get_or header 59 0 == 2) || (get_or header 59 0 == 3)

-- what the header says
abbrev pub sight_of : List ℕ → Sight
sight_of header =
    if starts_with nat_eq header (codes "SQLite format 3")
    then (if is_utf16 header then Utf16 else (if is_vacuumed header then Vacuumed else Nothing))
    else Other
