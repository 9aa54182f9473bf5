use Rattle.hall_sheet.proofs.Documents.{no_text, document_is}
use Rattle.hall_sheet.proofs.sheet.read_document.Goals as goal

pub returns-in_default : goal.returns-in_default
returns-in_default c = no_text c.args.bytes.now (rw c.in_default.is at c.from_utf8.ensures.cases).0

pub returns-in-Ok-table_from_str : goal.returns-in-Ok-table_from_str
returns-in-Ok-table_from_str c =
    let text = rw c.in-Ok.is at c.from_utf8.ensures.cases in
    let read = rw (c.in-Ok-table_from_str.is, text.0) at c.table_from_str.ensures.ok in
    document_is c.args.bytes.now _ text.1 read
