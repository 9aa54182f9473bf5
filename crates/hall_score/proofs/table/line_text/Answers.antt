use Rattle.std.proofs.Common.{◌≡◌, ◌≤◌, ◌∙◌, All, IsTrue, length, refl}
use Rattle.std.specs.Fmt.{styled_decimal, styled_text, styled_signed_decimal, decimal, signed_decimal}
use Rattle.std.proofs.lemmas.Result.{IfOk-weaker}
use Rattle.hall_policy.specs.Text.{is_word_byte}
use Rattle.hall_score.specs.Table.{to_left, to_right}
use Rattle.hall_score.proofs.Widths.{rank_padded, total_padded, name_padded}
use Rattle.hall_score.proofs.table.line_text.Goals as goal

pub returns : goal.returns
returns c =
    let line = c.args.line.now in
    let few : length line.name ≤ 24 = c.as_str.ensures.of_kind.short_enough in
    let words : All (λ byte. IsTrue (is_word_byte byte)) line.name = c.as_str.ensures.of_kind.allowed in
    let rank : styled_decimal c.laid_out.result line.rank ≡ to_right 4 (decimal line.rank) = rw c.laid_out.ensures
    (rank_padded line.rank) in
    let name : styled_text c.laid_out-2.result c.as_str.result.now ≡ to_left 24 line.name =
    rw (c.laid_out-2.ensures, c.as_str.ensures.text) (name_padded line.name few words) in
    let total : styled_signed_decimal c.laid_out-3.result line.total ≡ to_right 8 (signed_decimal line.total) =
    rw c.laid_out-3.ensures (total_padded line.total) in
    IfOk-weaker c.format.result _ _ (λ text written. written ∙ rw (rank, name, total) refl) c.format.ensures.ok
