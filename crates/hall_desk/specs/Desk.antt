-- What a desk keeps, and what stays of it.
use Rattle.hall_policy.specs.World.{World}
use Rattle.hall_store.specs.Store.{Content}
use Rattle.hall_desk.specs.Sane.{Sane}

-- the store of the desk, which is what a contract sees of it
abbrev pub kept_by : {S : Type 0} → S → S
kept_by desk = desk

-- Where the world before was sane, this holds of the world after, as far as that can be told.
abbrev pub SaneThen : (World → Type 0) → Content → Content → Type 0
SaneThen Holds old new = new.honest → new.serves → Sane old.world → Holds new.world
