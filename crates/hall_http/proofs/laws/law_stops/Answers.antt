use Rattle.hall_http.proofs.Groups.{groups_last}
use Rattle.hall_http.proofs.Runs.{first_parts_last}
use Rattle.hall_http.proofs.laws.law_stops.Goals as goal

pub returns-clause-served : goal.returns-clause-served
returns-clause-served g c = first_parts_last g.S.ReadStore.content

pub returns-clause-crowd : goal.returns-clause-crowd
returns-clause-crowd g c = groups_last g.S.ReadStore.content
