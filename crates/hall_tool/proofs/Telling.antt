-- What was written, however the write ended.
use Rattle.std.proofs.Common.{◌⊎◌, inl, inr}
use Rattle.std.specs.Prelude.{OnErr, OnOk, Result, Ok, Err}

pub both_told : {A B : Type 0} (result : Result A B) (First Second : Type 0) → OnOk result First → OnOk result Second
    → OnOk result (First × Second)
both_told (Ok done) First Second first second = (first, second)
both_told (Err fault) First Second first second = tt

pub either_end : {A B : Type 0} (result : Result A B) (Whole Failed Part : Type 0) → OnOk result Whole
    → OnErr result Failed → OnErr result Part → Whole ⊎ (Failed × Part)
either_end (Ok done) Whole Failed Part whole failed part = inl whole
either_end (Err fault) Whole Failed Part whole failed part = inr (failed, part)
