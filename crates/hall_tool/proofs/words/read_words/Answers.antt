use Rattle.std.proofs.Common.{◌∙◌, sym, subst, map, string_bytes, List}
use Rattle.std.proofs.lemmas.Result.{IfErr-weaker, IfOk-weaker}
use Rattle.clap.specs.Words.{HasKind, Kinds, Row, Text, app_of, found_of, kind_of, rows_of}
use Rattle.hall_tool.specs.declared.pages.Page.{Page}
use Rattle.hall_tool.specs.Words.{AsksForPage, IsTakenFrom, SpellsNone}
use Rattle.hall_tool.proofs.Spelling.{IsLineOf, asked_spells, line_faults, line_free, line_options, line_simple}
use Rattle.hall_tool.proofs.Spelling.{line_weaker, none_asked, taken_spells, taken_tells}
use Rattle.hall_tool.proofs.words.read_words.Goals as goal

pub returns-in-Ok-clause-command : goal.returns-in-Ok-clause-command
returns-in-Ok-clause-command c =
    let words : List Text = map string_bytes c.args.words.now in
    let rows : List Row = rows_of (found_of c.in-Ok.matches) in
    let it : IsLineOf words c.page_of-page.result (app_of c.in_ok-line.line) =
    record { named = c.page_of-page.ensures; is = c.in_ok-line.ensures } in
    taken_spells words rows (sym (line_faults it) ∙ c.in-Ok.ensures.kinds (line_free it))
    ((c.in-Ok.ensures.ok.2 (line_simple it)).0 ∙ line_options it) c.taken.result
    (subst (λ (p : Page). IsTakenFrom p rows c.taken.result) it.named c.taken.ensures)

pub returns-in-Ok-clause-fault : goal.returns-in-Ok-clause-fault
returns-in-Ok-clause-fault c =
    let words : List Text = map string_bytes c.args.words.now in
    let rows : List Row = rows_of (found_of c.in-Ok.matches) in
    let it : IsLineOf words c.page_of-page.result (app_of c.in_ok-line.line) =
    record { named = c.page_of-page.ensures; is = c.in_ok-line.ensures } in
    taken_tells words rows (sym (line_faults it) ∙ c.in-Ok.ensures.kinds (line_free it))
    ((c.in-Ok.ensures.ok.2 (line_simple it)).0 ∙ line_options it) c.taken.result
    (subst (λ (p : Page). IsTakenFrom p rows c.taken.result) it.named c.taken.ensures)

pub returns-clause-command : goal.returns-clause-command
returns-clause-command c =
    let words : List Text = map string_bytes c.args.words.now in
    let it : IsLineOf words c.page_of-page.result (app_of c.in_ok-line.line) =
    record { named = c.page_of-page.ensures; is = c.in_ok-line.ensures } in
    IfOk-weaker c.asked.result _ _ (λ command asks. asked_spells words c.in-Err.error command
    (subst (λ (kinds : Kinds). HasKind kinds c.in-Err.error) (line_faults it) (c.in-Err.ensures.kinds (line_free it)))
    (subst (λ (p : Page). AsksForPage p (kind_of c.in-Err.error) command) it.named asks)) c.asked.ensures.command

pub returns-clause-fault : goal.returns-clause-fault
returns-clause-fault c =
    let words : List Text = map string_bytes c.args.words.now in
    let it : IsLineOf words c.page_of-page.result (app_of c.in_ok-line.line) =
    record { named = c.page_of-page.ensures; is = c.in_ok-line.ensures } in
    IfErr-weaker c.asked.result _ _ (λ fault told. line_weaker fault _ (SpellsNone words)
    (none_asked words c.in-Err.error (subst (λ (kinds : Kinds). HasKind kinds c.in-Err.error) (line_faults it)
    (c.in-Err.ensures.kinds (line_free it)))) told) c.asked.ensures.fault
