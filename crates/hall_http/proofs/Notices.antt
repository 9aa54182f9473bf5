-- What was told, however the write ended.
use Rattle.std.proofs.Common.{◌⊎◌, inl, inr}
use Rattle.std.specs.Prelude.{OnErr, OnOk, Result, Ok, Err}

-- the whole was written, or a part of it
pub told_or_part : {A B : Type 0} (result : Result A B) (Whole Part Nothing : Type 0) → OnOk result Whole
    → OnErr result Part → Whole ⊎ (Part ⊎ Nothing)
told_or_part (Ok done) Whole Part Nothing whole part = inl whole
told_or_part (Err fault) Whole Part Nothing whole part = inr (inl part)
