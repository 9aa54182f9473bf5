use Rattle.hall_desk.specs.TableCopy.{leaves_table}
use Rattle.hall_desk.specs.declared.table_copy.TableCopy.{TableCopy}
use Rattle.hall_desk.proofs.Copied.{kept_filtered}
use Rattle.hall_desk.proofs.table_copy.left_by.Goals as goal

pub returns-in-Some : goal.returns-in-Some
returns-in-Some c = kept_filtered (λ (copy : TableCopy). leaves_table c.args.change.now copy.round) c.args.copied
    c.in-Some.copies c.left_of.result c.in-Some.is c.left_of.ensures
