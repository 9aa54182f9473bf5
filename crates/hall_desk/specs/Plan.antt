-- What a plan holds.
use Rattle.hall_desk.specs.declared.plan.Plan.{Plan}
use Rattle.hall_desk.specs.declared.reply.Reply.{Reply}
use Rattle.hall_store.specs.declared.change.Change.{Change}

-- the reply of the plan
abbrev pub planned_reply : Plan → Reply
planned_reply plan = plan.reply

-- the change of the plan
abbrev pub planned_change : Plan → Change
planned_change plan = plan.change
