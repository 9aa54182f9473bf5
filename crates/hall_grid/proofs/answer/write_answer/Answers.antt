use Rattle.std.proofs.Common.{rules}
use Rattle.hall_grid.proofs.IsPrintableText.{IsPrintableText-from_AnswerText}
use Rattle.hall_grid.proofs.answer.write_answer.Goals as goal

pub returns-clause-printable : goal.returns-clause-printable
returns-clause-printable c =
    IsPrintableText-from_AnswerText c.args.puzzle.now _ c.args.filling.now c.size.ensures.board.size (search rules)
