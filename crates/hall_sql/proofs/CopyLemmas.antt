-- A file as it was read into memory.
use Rattle.std.proofs.Common.{◌≡◌, Bool, true, false, ◌&&◌, IsTrue, cond, refl, ap, ◌∙◌}
use Rattle.std.proofs.lemmas.Slice.Eq.{bytes_eq-Decides}
use Rattle.sqlite_disk.specs.Memory.{memory_bytes}
use Rattle.sqlite_disk.specs.declared.start.Start.{Ghosts}
use Rattle.hall_sql.specs.Copied.{IsCopy, is_start}
use Rattle.hall_sql.specs.declared.copied.Copied.{Copied}

-- a copy that was not changed holds what the file held, where that is what was read
pub held_first : {S : Type 0} (start : Ghosts S) (is_log : Bool) (copy : Copied S) → IsCopy is_log copy
    → IsTrue (is_start start copy.is_log copy.first.items) → memory_bytes copy.disk ≡ cond is_log start.log start.db
held_first start is_log copy it is =
    it.same ∙ (bytes_eq-Decides _ _).0 is ∙ ap (λ b. cond b start.log start.db) it.which

-- both of two that are true
pub both_true : (a b : Bool) → IsTrue (a && b) → IsTrue a × IsTrue b
both_true true b both = (refl, both)
both_true false b both = absurd cc
