use Rattle.hall_sql.specs.Rows.{person_in}
use Rattle.hall_store.proofs.Knowing.{fails_as}
use Rattle.hall_sql.proofs.CauseLemmas.{none_of, none_is}
use Rattle.hall_sql.proofs.UnreadLemmas.{key_ascii, word_ascii}
use Rattle.hall_sql.proofs.RecordParts.{person_parts}
use Rattle.hall_sql.proofs.record.PersonRecord.from_row.Goals as goal

pub returns-in_err-name-clause-unread : goal.returns-in_err-name-clause-unread
returns-in_err-name-clause-unread c =
    fails_as c.from_residual.result _ _ c.from_residual.ensures.1
    (λ failed. none_of (person_in c.args.row.now) (λ it reads.
    none_is _ _ (c.in_err-name.ensures.unread failed word_ascii) (person_parts c.args.row.now it reads).name))

pub returns-in_err-key-clause-unread : goal.returns-in_err-key-clause-unread
returns-in_err-key-clause-unread c =
    fails_as c.from_residual-in_err-key.result _ _ c.from_residual-in_err-key.ensures.1
    (λ failed. none_of (person_in c.args.row.now) (λ it reads.
    none_is _ _ (c.in_err-key.ensures.unread failed key_ascii) (person_parts c.args.row.now it reads).key))

pub returns-in_err-roles-clause-unread : goal.returns-in_err-roles-clause-unread
returns-in_err-roles-clause-unread c =
    fails_as c.from_residual-in_err-roles.result _ _ c.from_residual-in_err-roles.ensures.1
    (λ failed. none_of (person_in c.args.row.now) (λ it reads.
    none_is _ _ (c.in_err-roles.ensures.unread failed) (person_parts c.args.row.now it reads).roles))
