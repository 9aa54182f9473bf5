use Rattle.std.proofs.Common.{sym, ◌∙◌}
use Rattle.std.proofs.lemmas.Str.{IsUtf8-from_ascii}
use Rattle.hall_http.proofs.Parts.{IsAscii-from_all}
use Rattle.hall_http.proofs.routes.path_text.Goals as goal

pub unreachable-requires : goal.unreachable-requires
unreachable-requires c = c.in-Err.ensures.cases.0 (IsUtf8-from_ascii _
    (IsAscii-from_all _ (sym c.is_ascii.ensures ∙ c.if-not-is_ascii.false)))
