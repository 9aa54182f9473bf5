-- Lines that took the rows of a listing, one after another.
use Rattle.std.proofs.Common.{◌≡◌, ◌++◌, Bool, List, [], ◌∷◌, map, sym, ap, ◌∙◌}
use Rattle.std.proofs.lemmas.List.{append_assoc, append-nil}
use Rattle.hall_policy.specs.declared.record.AnswerRow.{AnswerRow}
use Rattle.hall_policy.specs.Sink.{HasTaken}
use Rattle.hall_desk.specs.Shown.{answer_line}
use Rattle.hall_desk.specs.Lines.{LinesSoFar, BeginsLines, IsLineAdded}
use Rattle.hall_desk.specs.declared.reply.AnswerLine.{AnswerLine}

-- the lines of the rows stand behind those before
lines_behind : (before after : LinesSoFar) (rows : List AnswerRow) → HasTaken IsLineAdded before rows after →
    after.lines ≡ before.lines ++ map (answer_line before.shows) rows
lines_behind before after [] taken = ap (λ (l : LinesSoFar). l.lines) taken ∙ sym (append-nil before.lines)
lines_behind before after (row ∷ rows) (next, added, taken) =
    let later : after.lines ≡ next.lines ++ map (answer_line next.shows) rows = lines_behind next after rows taken in
    later
    ∙ (ap (λ (shows : Bool). next.lines ++ map (answer_line shows) rows) added.shows
    ∙ (ap (λ (lines : List AnswerLine). lines ++ map (answer_line before.shows) rows) added.lines
    ∙ append_assoc before.lines (answer_line before.shows row ∷ []) (map (answer_line before.shows) rows)))

-- lines that began with none are those of the rows
pub lines_from_none : (shows : Bool) (fresh after : LinesSoFar) (rows : List AnswerRow) → BeginsLines shows fresh
    → HasTaken IsLineAdded fresh rows after →
    after.lines ≡ map (answer_line shows) rows
lines_from_none shows fresh after rows begins taken =
    lines_behind fresh after rows taken
    ∙ (ap (λ (lines : List AnswerLine). lines ++ map (answer_line fresh.shows) rows) begins.none
    ∙ ap (λ (s : Bool). map (answer_line s) rows) begins.asked)
