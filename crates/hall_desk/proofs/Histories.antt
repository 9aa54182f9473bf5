-- Lives of a hall: a run is one, and each keeps a sane world.
use Rattle.std.proofs.Common.{ℕ, List, [], ◌∷◌, sym, subst}
use Rattle.std.specs.Prelude.{All}
use Rattle.std.proofs.lemmas.List.Elements.{All-head, All-tail}
use Rattle.hall_policy.specs.World.{World}
use Rattle.hall_policy.specs.declared.request.Request.{Request}
use Rattle.hall_desk.specs.History.{Event, requested, seeded, Happens, History, IsTyped, events_of, RunsAreHistories}
use Rattle.hall_desk.specs.Run.{Run}
use Rattle.hall_desk.specs.Sane.{Sane}
use Rattle.hall_desk.specs.declared.reply.Reply.{Reply}
use Rattle.hall_desk.proofs.Seeding.{seed_sane}
use Rattle.hall_desk.proofs.StepsSane.{step_sane}

-- a run is a life of the hall, by its requests alone
run_history : (requests : List (ℕ × Request)) (replies : List Reply) (world last : World)
    → Run world requests replies last → History world (events_of requests replies) last
run_history [] [] world last run = run
run_history [] (r ∷ replies) world last run = absurd run
run_history (q ∷ requests) [] world last run = absurd run
run_history (q ∷ requests) (r ∷ replies) world last run = (run.0, run.1, run_history requests replies run.0 last run.2)

pub runs_are_histories : RunsAreHistories
runs_are_histories world last requests replies run = run_history requests replies world last run

-- an event of its types keeps a sane world
pub event_sane : (world : World) (event : Event) (next : World) → IsTyped event → Happens world event next → Sane world
    → Sane next
event_sane world (requested t request given) next typed step sane = step_sane world t request given next typed.0 typed.1
    step sane
event_sane world (seeded people given) next typed seed sane = seed_sane world people given next typed.0 typed.1 seed
    sane

-- and so does a life of the hall
pub history_sane : (events : List Event) (world last : World) → All IsTyped events → History world events last
    → Sane world → Sane last
history_sane [] world last typed life sane = subst Sane (sym life) sane
history_sane (event ∷ rest) world last typed life sane =
    history_sane rest life.0 last (All-tail IsTyped event rest typed) life.2
    (event_sane world event life.0 (All-head IsTyped event rest typed) life.1 sane)
