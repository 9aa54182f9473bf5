use Rattle.std.proofs.Common.{◌≡◌, Some, None, IfOk, IfErr, subst}
use Rattle.hall_store.specs.declared.fault.StoreFault.TheVariants.{Failed}
use Rattle.hall_sql.specs.Values.{puzzle_in}
use Rattle.hall_sql.proofs.UnreadLemmas.{past_puzzle}
use Rattle.hall_sql.proofs.record.puzzle_at.Goals as goal

pub returns-in-Ok-clause-puzzle : goal.returns-in-Ok-clause-puzzle
returns-in-Ok-clause-puzzle c =
    subst (λ v. IfOk c.puzzle_of.result (λ puzzle. puzzle_in v ≡ Some puzzle)) c.in-Ok.ensures.ok.1
    c.puzzle_of.ensures.puzzle

pub returns-in-Ok-clause-unread : goal.returns-in-Ok-clause-unread
returns-in-Ok-clause-unread c =
    subst (λ v. IfErr c.puzzle_of.result (λ fault. fault ≡ Failed → puzzle_in v ≡ None)) c.in-Ok.ensures.ok.1
    c.puzzle_of.ensures.unread

pub returns-in-Err-clause-unread : goal.returns-in-Err-clause-unread
returns-in-Err-clause-unread c = λ failed. past_puzzle c.args.row.now c.args.at c.in-Err.ensures.err.1
