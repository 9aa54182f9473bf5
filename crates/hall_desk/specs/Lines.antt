-- The lines of a listing of answers, and what a sink of them takes.
use Rattle.std.specs.Prelude.{◌≡◌, ◌++◌, Bool, List, [], ◌∷◌, map, codes}
use Rattle.std.specs.List.{flat_map}
use Rattle.json.specs.Token.{Token, begin_object, begin_array, key}
use Rattle.hall_policy.specs.World.{World}
use Rattle.hall_policy.specs.declared.record.AnswerRow.{AnswerRow}
use Rattle.hall_store.specs.Store.{IsListing}
use Rattle.hall_desk.specs.ListedAnswers.{listed_answer_data}
use Rattle.hall_desk.specs.Shown.{answer_line}
use Rattle.hall_desk.specs.Telling.{tokens_of}
use Rattle.hall_desk.specs.declared.reply.AnswerLine.{AnswerLine}

-- the lines show all answers that pass the test, in the order of listings
abbrev pub AreLinesOf : World → (AnswerRow → Bool) → Bool → List AnswerLine → Type 0
AreLinesOf world test shows lines =
    (rows : List AnswerRow) × IsListing world test rows × (lines ≡ map (answer_line shows) rows)

-- the lines so far, and whether verdicts are told
pub record LinesSoFar : Type 0 where
  pub lines : List AnswerLine
  pub shows : Bool

-- there are no lines yet
pub record BeginsLines (shows : Bool) (begun : LinesSoFar) : Type 0 where
  pub none : begun.lines ≡ []
  pub asked : begun.shows ≡ shows

-- the answer's line stands behind those before
pub record IsLineAdded (before : LinesSoFar) (row : AnswerRow) (after : LinesSoFar) : Type 0 where
  pub lines : after.lines ≡ before.lines ++ answer_line before.shows row ∷ []
  pub shows : after.shows ≡ before.shows

-- the lines of the rows that were told, each with whether its verdict was
abbrev pub lines_of : List (AnswerRow × Bool) → List AnswerLine
lines_of told = map (λ (it : AnswerRow × Bool). answer_line it.1 it.0) told

-- the tokens of the lines, one after another
abbrev pub lines_tokens : List AnswerLine → List Token
lines_tokens lines = flat_map (λ (line : AnswerLine). tokens_of (listed_answer_data line)) lines

-- {"answers":[A,.., to which further lines can be told
abbrev pub open_tokens : List AnswerLine → List Token
open_tokens lines = begin_object ∷ key (codes "answers") ∷ begin_array ∷ lines_tokens lines
