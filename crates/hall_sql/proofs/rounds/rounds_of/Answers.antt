use Rattle.std.proofs.Common.{◌∙◌, ap}
use Rattle.std.proofs.lemmas.List.Filters.{dedup_is}
use Rattle.std.specs.List.{dedup}
use Rattle.hall_policy.specs.World.{same_text}
use Rattle.hall_sql.proofs.rounds.rounds_of.Goals as goal

pub returns-clause-ids : goal.returns-clause-ids
returns-clause-ids c = dedup_is same_text _ _ c.dedup.ensures.filtered ∙ ap (dedup same_text) c.in_ok-ids.ensures.ids
