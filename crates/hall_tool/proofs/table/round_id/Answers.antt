use Rattle.hall_policy.specs.Text.{is_word_byte}
use Rattle.hall_http.proofs.Texts.{kind_ascii}
use Rattle.hall_tool.proofs.TableText.{word_low}
use Rattle.hall_tool.proofs.table.round_id.Goals as goal

pub returns-in-Err-clause-none : goal.returns-in-Err-clause-none
returns-in-Err-clause-none c =
    let bad = rw c.in-Err.is at c.from_utf8.ensures.cases in
    λ _ h. bad.0 (kind_ascii 1 24 is_word_byte _ word_low h)
