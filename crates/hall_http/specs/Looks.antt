-- What the event loop asked of the clock and of its sockets, and what it was told.
use Rattle.std.specs.Prelude.{◌≡◌, ◌<◌, ◌≤◌, ◌+◌, ◌-◌, ◌^◌, ◌⊎◌, ℕ, true, min, Option, Some, None, List, [], ◌∷◌, ◌++◌}
use Rattle.std.specs.Prelude.{length, map}
use Rattle.std.specs.List.{fold}
use Rattle.hall_http.specs.Limits.{most_asked, most_counted, most_events}
use Rattle.hall_http.specs.declared.event_loop.Look.{Look}
use Rattle.hall_http.specs.declared.event_loop.Look.TheVariants.{Clock, Sockets}

-- what was asked, in order, and how many things the sockets told
abbrev pub Looks : Type 0
Looks = List (Look × ℕ)

-- Of a wait of so long at most, this many things were told: fewer than are told at a time, and no signal ended the wait
-- before any was. So nothing was left over.
abbrev pub TellsAll : Option ℕ → ℕ → Type 0
TellsAll patience told = (told < most_events) × ((patience ≡ Some 0) ⊎ (0 < told))

-- last, the sockets told all that had befallen them
abbrev pub HaveToldAll : Looks → Type 0
HaveToldAll looks =
    (front : Looks) × (patience : Option ℕ) × (told : ℕ) × (looks ≡ front ++ (Sockets patience, told) ∷ [])
    × TellsAll patience told

-- these were told, each time without a wait
abbrev pub at_once : List ℕ → Looks
at_once told = map (λ count. (Sockets (Some 0), count)) told

-- last, the sockets were asked without a wait, as often as they are at most
abbrev pub WereAskedOften : Looks → Type 0
WereAskedOften looks = (front : Looks) × (told : List ℕ) × (looks ≡ front ++ at_once told) × (most_asked ≤ length told)

-- All that had befallen the sockets was heard, or they were asked as often as they are at most: after the clock was
-- read last; or right before, where by what it told nobody's patience had ended, and nobody might have to make room.
abbrev pub IsHeardOut : Looks → Type 0
IsHeardOut looks =
    HaveToldAll looks ⊎ (WereAskedOften looks
    ⊎ ((front : Looks) × (read : Option ℕ) × (looks ≡ front ++ (Clock read true, 0) ∷ []) × HaveToldAll front))

-- how many milliseconds passed since this one, by what the clock told; as many as count where it can't be read
abbrev pub passed_since : ℕ → Option ℕ → ℕ
passed_since last (Some read) = read - last
passed_since last None = most_counted

-- the millisecond that the clock was last read at, after this reading
abbrev pub read_after : ℕ → Option ℕ → ℕ
read_after last (Some read) = read
read_after last None = last

-- the milliseconds that have counted, of those before and those that passed: of a long time only the first count
abbrev pub counted : ℕ → ℕ → ℕ
counted elapsed passed = min (elapsed + min passed most_counted) (2 ^ 64 - 1)

-- the milliseconds that have counted, and the one that the clock was last read at, after one more look
abbrev pub after_look : ℕ × ℕ → Look × ℕ → ℕ × ℕ
after_look (elapsed, last) (Clock read quiet, told) =
    (counted elapsed (passed_since last read), read_after last read)
after_look so_far (Sockets patience, told) = so_far

-- so many have counted, and it was last read at this one, after these looks
abbrev pub time_by : Looks → ℕ × ℕ
time_by looks = fold after_look (0, 0) looks

-- these are the looks before, and perhaps more
abbrev pub AreMore : Looks → Looks → Type 0
AreMore old new = (more : Looks) × (new ≡ old ++ more)
