use Rattle.sqlite.specs.Held.{state}
use Rattle.hall_sql.proofs.WholeRows.{own_keys}
use Rattle.hall_sql.proofs.sql_store.SqlStoreWholeStore.under_own_keys.Goals as goal

pub returns : goal.returns
returns g c honest serves = own_keys (state g.S.Store c.args.self.now).now.trees
