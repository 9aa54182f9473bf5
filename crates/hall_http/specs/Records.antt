-- The records of a replay.
use Rattle.std.specs.Prelude.{◌≡◌, ◌≢◌, ◌<◌, ◌≤◌, ◌-◌, ◌&&◌, nat_le, if◌then◌else◌, ℕ, List, ◌∷◌, ◌++◌, length}
use Rattle.std.specs.Prelude.{take, drop}
use Rattle.std.specs.Prelude.{flat_map, All, Option, Some, None, option_and_then, codes, decimal}
use Rattle.hall_policy.specs.Limits.{last_second}
use Rattle.hall_http.specs.declared.record.RecordCut.{RecordCut}
use Rattle.hall_http.specs.declared.record.RecordCut.TheVariants.{Whole, More, Never}
use Rattle.hall_http.specs.Words.{cut, after_front, decimal_in}

-- a moment, and the bytes of a request
pub record Record : Type 0 where
  pub moment : ℕ
  pub request : List ℕ

-- the moment is one, and the request has at most 73,728 bytes
pub record IsRecord (r : Record) : Type 0 where
  pub moment : r.moment ≤ last_second
  pub size : length r.request ≤ 73728

-- @MOMENT LENGTH, without the line feed
abbrev pub header_of : ℕ → ℕ → List ℕ
header_of moment size = 64 ∷ (decimal moment ++ 32 ∷ decimal size)

-- @MOMENT LENGTH, a line feed, and the bytes
abbrev pub record_bytes : Record → List ℕ
record_bytes r = header_of r.moment (length r.request) ++ 10 ∷ r.request

-- the most bytes of a record
abbrev pub record_limit : ℕ
record_limit = 73746

-- no whole record stands at the front
abbrev pub HasNoRecord : List ℕ → Type 0
HasNoRecord bytes = (r : Record) (rest : List ℕ) → IsRecord r → bytes ≢ record_bytes r ++ rest

-- no whole record stands at the front, and the bytes are fewer than the longest one has
abbrev pub IsUnfinishedRecord : List ℕ → Type 0
IsUnfinishedRecord bytes = HasNoRecord bytes × (length bytes < record_limit)

-- no whole record stands at the front, however the bytes go on
abbrev pub NeverHasRecord : List ℕ → Type 0
NeverHasRecord bytes = (more : List ℕ) → HasNoRecord (bytes ++ more)

-- the bytes are these records and then this rest
pub record Records (stream : List ℕ) (records : List Record) (rest : List ℕ) : Type 0 where
  pub whole : stream ≡ flat_map record_bytes records ++ rest
  pub each : All IsRecord records

-- a moment and a length, where they are in their ranges
abbrev pub in_ranges : ℕ → ℕ → Option (ℕ × ℕ)
in_ranges moment size = if nat_le moment last_second && nat_le size 73728 then Some (moment, size) else None

-- what a header's numbers say: a moment and a length in their ranges
abbrev pub numbers_in : List ℕ × List ℕ → Option (ℕ × ℕ)
numbers_in parts =
    option_and_then (λ moment. option_and_then (in_ranges moment) (decimal_in parts.1)) (decimal_in parts.0)

-- the moment and the length of a header @MOMENT LENGTH
abbrev pub header_in : List ℕ → Option (ℕ × ℕ)
header_in line = option_and_then numbers_in (option_and_then (cut 32) (after_front (codes "@") line))

-- the bytes from one place to another
abbrev pub bytes_between : List ℕ → ℕ → ℕ → List ℕ
bytes_between bytes start end = take (end - start) (drop start bytes)

-- a record stands at the front and ends at a place, its request beginning at another
pub record IsCut (bytes : List ℕ) (r : Record) (start end : ℕ) : Type 0 where
  pub ordered : start ≤ end
  pub inside : end ≤ length bytes
  pub is : IsRecord r
  pub request : r.request ≡ bytes_between bytes start end
  pub whole : take end bytes ≡ record_bytes r

-- what stands at the front: a whole record; none so far, in fewer bytes than the longest one has; none, however the
-- bytes go on
abbrev pub Cuts : List ℕ → RecordCut → Type 0
Cuts bytes (Whole moment start end) = (r : Record) × (r.moment ≡ moment) × IsCut bytes r start end
Cuts bytes More = IsUnfinishedRecord bytes
Cuts bytes Never = NeverHasRecord bytes
