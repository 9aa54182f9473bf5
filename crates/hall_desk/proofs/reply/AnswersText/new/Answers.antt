use Rattle.std.proofs.Common.{◌∙◌, subst, sym}
use Rattle.std.specs.Str.{IsUtf8}
use Rattle.hall_desk.specs.Lines.{lines_of}
use Rattle.hall_desk.proofs.LinesTold.{listing_prints}
use Rattle.hall_desk.proofs.reply.AnswersText.new.Goals as goal

pub invariant_of-result : goal.invariant_of-result
invariant_of-result c = (
  c.into_bytes.ensures.bytes
      ∙ listing_prints (lines_of c.args.rows.items) c.args.told c.close_list.new.self c.close.new.self c.requires
      c.in_ok-close_list.ensures c.in_ok-close.ensures,
  subst IsUtf8 (sym c.into_bytes.ensures.bytes) c.into_bytes.ensures.utf8,
)
