-- What a reading of the system's clock says.
use Rattle.std.specs.Prelude.{◌≡◌, ◌⊎◌, ℕ, ◌/◌, nat_le, nat_lt, if◌then◌else◌, Option, Some, None}
use Rattle.std.specs.Time.{system_time_nanos}
use Rattle.std.specs.declared.time.SystemTime.{SystemTime}
use Rattle.hall_policy.specs.Limits.{last_second}
use Rattle.hall_http.specs.declared.clock.SystemClock.{SystemClock}

-- what the clock reads the time of day from
abbrev pub read_by : {T : Type 0} → SystemClock T → T
read_by clock = clock.time

-- the whole seconds of so many nanoseconds since 1970, where they are a moment
abbrev pub moment_of_nanos : ℕ → Option ℕ
moment_of_nanos nanos =
    let seconds = nanos / 1_000_000_000 in if nat_le seconds last_second then Some seconds else None

-- the last moment that the clock told
abbrev pub told_by : {T : Type 0} → SystemClock T → Option ℕ
told_by clock = clock.told

-- the moment, or the last one, where that is later
abbrev pub no_earlier : Option ℕ → ℕ → ℕ
no_earlier None moment = moment
no_earlier (Some last) moment = if nat_lt moment last then last else moment

-- Of a reading of this moment, if it has one, this is told, after a last moment: never one before that. What was told
-- is the last one then.
abbrev pub IsToldOf : Option ℕ → Option ℕ → Option ℕ → Option ℕ → Type 0
IsToldOf None last moment later = (moment ≡ None) × (later ≡ last)
IsToldOf (Some read) last moment later = (moment ≡ Some (no_earlier last read)) × (later ≡ moment)

-- the moment is told of a reading that the clock gave; or the clock refused, and there is none
abbrev pub IsOfReading : (SystemTime → Type 0) → Type 0 → Option ℕ → Option ℕ → Option ℕ → Type 0
IsOfReading reads refuses last moment later =
    ((reading : SystemTime) × reads reading
    × IsToldOf (moment_of_nanos (system_time_nanos reading)) last moment later)
    ⊎ (refuses × IsToldOf None last moment later)
