use Rattle.std.proofs.Common.{[], subst, sym}
use Rattle.std.specs.List.{IsDistinct}
use Rattle.hall_store.specs.Keyed.{AreKeysDistinct}
use Rattle.hall_store.proofs.map_store.MapStore.new.Goals as goal

no_keys : AreKeysDistinct []
unfolding IsDistinct
no_keys = tt

pub invariant_of-result-clause-answer_keys_distinct : goal.invariant_of-result-clause-answer_keys_distinct
invariant_of-result-clause-answer_keys_distinct c = subst AreKeysDistinct (sym c.new-6.ensures.empty) no_keys
