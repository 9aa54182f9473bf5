use Rattle.csv.specs.Records.{fields_of}
use Rattle.hall_sheet.proofs.Lines.{texts_are, texts_fail}
use Rattle.hall_sheet.proofs.list.text_row.Goals as goal

pub returns-in-Ok : goal.returns-in-Ok
returns-in-Ok c =
    let same = rw c.in-Ok.is at c.from_byte_record.ensures.same in
    let text = rw c.in-Ok.is at c.from_byte_record.ensures.text in
    rw (← same) (texts_are _ text)

pub returns : goal.returns
returns c = texts_fail (fields_of c.args.row) (λ text. cc (rw c.in-Err.is at (c.from_byte_record.ensures.refused text)))
