use Rattle.std.proofs.Common.{rules, tests}
use Rattle.std.specs.Prelude.{not}
use Rattle.std.proofs.lemmas.Iterator.{YieldsList-from_slice}
use Rattle.std.proofs.lemmas.Iterator.Search.{all_from_yields_List}
use Rattle.hall_policy.specs.World.{same_text}
use Rattle.hall_policy.specs.declared.record.AnswerRow.{AnswerRow}
use Rattle.hall_desk.proofs.table_copy.are_outside.Goals as goal

pub returns : goal.returns
returns c = all_from_yields_List (λ (row : AnswerRow). not (same_text row.key.round c.args.round.now)) c.all.new.self _
    c.all.result c.all.ensures.ran (YieldsList-from_slice c.args.rows.now cc) (λ x b q k. search (rules, tests))
