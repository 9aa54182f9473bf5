use Rattle.std.proofs.Common.{List, Option, subst}
use Rattle.hall_desk.specs.TableCopy.{IsKept}
use Rattle.hall_desk.specs.declared.table_copy.TableCopy.{TableCopy}
use Rattle.hall_desk.proofs.Copied.{kept_pushed}
use Rattle.hall_desk.proofs.table_copy.keep_copy.Goals as goal

pub returns-clause-some : goal.returns-clause-some
returns-clause-some c = kept_pushed c.push.result c.args.copied.now c.those_beside-copies.result c.push.new.self
    c.args.copy
    (λ copy there. subst (λ (o : Option (List TableCopy)). IsKept o copy) c.take.ensures.value
    (c.those_beside-copies.ensures copy there))
    c.push.ensures.ok c.push.ensures.err
