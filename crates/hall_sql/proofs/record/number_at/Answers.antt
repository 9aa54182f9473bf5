use Rattle.std.proofs.Common.{◌≡◌, ◌∙◌, pos, sym, ap, rules}
use Rattle.sqlite.specs.declared.types.Value.TheVariants.{Int}
use Rattle.hall_sql.proofs.CauseLemmas.{fails_on}
use Rattle.hall_sql.proofs.UnreadLemmas.{none_decided, out_of_range, unread_number}
use Rattle.hall_sql.proofs.record.number_at.Goals as goal

pub returns-in-Ok-clause-unread : goal.returns-in-Ok-clause-unread
returns-in-Ok-clause-unread g c =
    fails_on c.new.result c.ok_or.result _ _ c.ok_or.ensures.value (none_decided c.new.result _ c.new.ensures.in_range)
    (λ other small. let same : c.from.result ≡ c.in-Ok.number = search rules in
    out_of_range _ _ _ c.from.result (c.in-Ok.ensures.ok.1 ∙ ap (λ n. Int (pos n)) (sym same)) other)

pub returns-in-Err-clause-unread : goal.returns-in-Err-clause-unread
returns-in-Err-clause-unread g c = λ failed small.
    unread_number _ _ c.args.row.now c.args.at (c.in-Err.ensures.kind (c.fault_of.ensures failed)) small
