use Rattle.std.proofs.Common.{arith}
use Rattle.hall_store.proofs.Knowing.{fails_as}
use Rattle.hall_sql.proofs.CauseLemmas.{none_is}
use Rattle.hall_sql.proofs.UnreadLemmas.{word_ascii}
use Rattle.hall_sql.proofs.record.answer_key_at.Goals as goal

pub returns-in_err-number-clause-unread : goal.returns-in_err-number-clause-unread
returns-in_err-number-clause-unread c =
    fails_as c.from_residual.result _ _ c.from_residual.ensures.1
    (λ failed key it. none_is _ _ (c.in_err-number.ensures.unread failed (omega arith)) it.number)

pub returns-in_err-entrant-clause-unread : goal.returns-in_err-entrant-clause-unread
returns-in_err-entrant-clause-unread c =
    fails_as c.from_residual-in_err-entrant.result _ _ c.from_residual-in_err-entrant.ensures.1
    (λ failed key it. none_is _ _ (c.in_err-entrant.ensures.unread failed word_ascii) it.entrant)

pub returns-in_err-round-clause-unread : goal.returns-in_err-round-clause-unread
returns-in_err-round-clause-unread c =
    fails_as c.from_residual-in_err-round.result _ _ c.from_residual-in_err-round.ensures.1
    (λ failed key it. none_is _ _ (c.in_err-round.ensures.unread failed word_ascii) it.round)

pub returns-in_err-token-clause-unread : goal.returns-in_err-token-clause-unread
returns-in_err-token-clause-unread c =
    fails_as c.from_residual-in_err-token.result _ _ c.from_residual-in_err-token.ensures.1
    (λ failed key it. none_is _ _ (c.in_err-token.ensures.unread failed word_ascii) it.token)
