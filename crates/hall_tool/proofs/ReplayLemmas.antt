-- The command replay, of the run of its list and of its records.
use Rattle.hall_policy.specs.World.{World}
use Rattle.hall_store.specs.Store.{Content, Leads}
use Rattle.hall_desk.specs.Desk.{SaneThen}
use Rattle.hall_desk.specs.Sane.{Sane}

-- what holds of the world after the second call holds after both
pub then_sane : (Holds : World → Type 0) (old mid new : Content) → Leads mid new → SaneThen Sane old mid
    → SaneThen Holds mid new → SaneThen Holds old new
then_sane Holds old mid new leads first second honest serves sane =
    second honest serves (first (leads.honest honest) (leads.serves honest serves) sane)
