-- What becomes of the calls of a file that may be lost.
use Rattle.std.specs.Prelude.{◌≡◌, ◌<◌, ◌^◌, ℕ, Bool, true, false, List, length, Result, IsTrue}
use Rattle.std.specs.Prelude.{IfOk, IfErr, OnOk, OnErr}
use Rattle.std.specs.IoError.{error_kind}
use Rattle.std.specs.declared.io.Error.{Error}
use Rattle.std.specs.declared.io.ErrorKind.{ErrorKind}
use Rattle.std.specs.declared.io.ErrorKind.TheVariants.{StorageFull, QuotaExceeded, FileTooLarge}
use Rattle.sqlite_disk.specs.declared.Disk.{Ghosts}
use Rattle.sqlite_disk.specs.Disk.{Cut, Holds, Only, Torn}

-- the error is of one of these kinds
abbrev pub is_full_kind : ErrorKind → Bool
is_full_kind StorageFull = true
is_full_kind QuotaExceeded = true
is_full_kind FileTooLarge = true
is_full_kind _ = false

-- The disk is full, or somebody's part of it, or the file may not grow.
abbrev pub is_want_of_room : Error → Bool
is_want_of_room error = is_full_kind (error_kind error)

-- of a file over another: whether it was lost and is, and the other one before and after
module _ {D : Type 0} (g : Ghosts D) (was_lost is_lost : Bool) (old new : D) where
  -- A file that is lost stays so, and the other one is not asked.
  pub record StaysLost : Type 0 where
    pub lost : IsTrue was_lost → IsTrue is_lost
    pub untouched : IsTrue was_lost → new ≡ old

  -- A length that is told is that of a file that isn't lost.
  pub record Measures (result : Result ℕ Error) : Type 0 where
    pub stays : StaysLost
    pub told : IfOk result (λ n. (was_lost ≡ false) × (IsTrue (g.is_clean new) → n ≡ length (g.seen old)))
    pub same : g.seen new ≡ g.seen old

  -- Bytes that are told are those of a file that isn't lost.
  pub record ReadsBytes {T : Type 0} (at : ℕ) (bytes : List ℕ) (result : Result T Error) : Type 0 where
    pub stays : StaysLost
    pub told : OnOk result ((was_lost ≡ false) × (IsTrue (g.is_clean new) → Holds (g.seen old) at bytes))
    pub same : g.seen new ≡ g.seen old

  -- A write is told as refused for want of room alone. Where it is told as made it was, or the file is lost.
  pub record Writes {T : Type 0} (at : ℕ) (bytes : List ℕ) (result : Result T Error) : Type 0 where
    pub stays : StaysLost
    pub made : OnOk result (is_lost ≡ false → Holds (g.seen new) at bytes)
    pub refused : IfErr result (λ error. at < 2 ^ 63 → IsTrue (is_want_of_room error))
    pub others : was_lost ≡ false → at < 2 ^ 63 → Torn at (length bytes) (g.seen old) (g.seen new)

  -- So is a change of the length.
  pub record Cuts {T : Type 0} (len : ℕ) (result : Result T Error) : Type 0 where
    pub stays : StaysLost
    pub made : OnOk result (is_lost ≡ false → length (g.seen new) ≡ len)
    pub refused : IfErr result (λ error. IsTrue (is_want_of_room error))
    pub others : was_lost ≡ false → Cut len (g.seen old) (g.seen new)

  -- A sync that is told as done was made, of a file that isn't lost. One that fails loses it.
  pub record Syncs {T : Type 0} (result : Result T Error) : Type 0 where
    pub stays : StaysLost
    pub made : OnOk result ((is_lost ≡ false) × Only (g.seen old) (g.may_leave new))
    pub failed : OnErr result (IsTrue is_lost)
    pub same : g.seen new ≡ g.seen old
