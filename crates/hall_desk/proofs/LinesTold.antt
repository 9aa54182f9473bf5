-- The tokens of the lines of a listing are those of the listing.
use Rattle.std.proofs.Common.{◌≡◌, ◌++◌, List, [], ◌∷◌, map, refl, sym, ap, ◌∙◌}
use Rattle.std.proofs.lemmas.List.{append_assoc}
use Rattle.json.specs.Print.{print}
use Rattle.json.specs.Token.{Token, end_object, end_array}
use Rattle.json.specs.Tree.{items_tokens}
use Rattle.serde_json.specs.View.{items_of}
use Rattle.serde_json.specs.Written.{items_outline, compact_text}
use Rattle.hall_desk.specs.ListedAnswers.{listed_answer_data, answers_data}
use Rattle.hall_desk.specs.Lines.{lines_tokens, open_tokens}
use Rattle.hall_desk.specs.Telling.{AddsTokens, tokens_of}
use Rattle.hall_desk.specs.declared.reply.AnswerLine.{AnswerLine}
use Rattle.hall_desk.proofs.JsonTold.{prints}

-- the lines and the end of their list
items_end : (lines : List AnswerLine) → items_tokens (items_outline (items_of (map listed_answer_data lines)))
    ≡ lines_tokens lines ++ end_array ∷ []
items_end [] = refl
items_end (line ∷ lines) =
    ap (λ (ts : List Token). tokens_of (listed_answer_data line) ++ ts) (items_end lines)
    ∙ sym (append_assoc (tokens_of (listed_answer_data line)) (lines_tokens lines) (end_array ∷ []))

-- the lines whose list and object are ended print as the listing's text
pub listing_prints : (lines : List AnswerLine) (told listed ended : List Token) → told ≡ open_tokens lines
    → AddsTokens told listed (end_array ∷ []) → AddsTokens listed ended (end_object ∷ [])
    → print ended ≡ compact_text (answers_data lines)
listing_prints lines told listed ended begun list object =
    prints (answers_data lines) [] ended refl
    (record {
      same = object.same
          ∙ ap (λ (ts : List Token). ts ++ end_object ∷ [])
          (list.same ∙ ap (λ (ts : List Token). ts ++ end_array ∷ []) begun)
          ∙ ap (λ (ts : List Token). open_tokens [] ++ (ts ++ end_object ∷ [])) (sym (items_end lines));
    })
