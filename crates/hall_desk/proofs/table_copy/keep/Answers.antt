use Rattle.hall_desk.proofs.Copied.{kept_told}
use Rattle.hall_desk.proofs.table_copy.keep.Goals as goal

pub returns : goal.returns
returns c = kept_told c.args.copied.now c.keep_copy.new.copied c.in-Ok.copy c.args.round.now c.args.text.now
    c.keep_copy.ensures.some c.in-Ok.ensures
