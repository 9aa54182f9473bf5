use Rattle.std.proofs.Common.{sym, subst, Option}
use Rattle.hall_policy.specs.declared.record.Person.{Person}
use Rattle.hall_store.specs.Caller.{IsKeyHolder}
use Rattle.hall_store.specs.Maps.{world_of_maps}
use Rattle.hall_store.proofs.MapWorlds.{holder_found}
use Rattle.hall_store.proofs.map_calls.MapStoreReadStore.person_by_key.Goals as goal

pub returns-clause-served : goal.returns-clause-served
returns-clause-served c = λ _. (
  tt,
  subst (λ (found : Option Person). IsKeyHolder (world_of_maps c.args.self.now) c.args.key.now found)
      (sym c.in_ok-holder.ensures) (holder_found c.args.self.now c.args.key.now),
)
