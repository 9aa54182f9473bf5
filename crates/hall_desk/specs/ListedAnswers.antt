-- The answers of a listing, as they are told in JSON.
use Rattle.std.specs.Prelude.{ℕ, List, map, Option, Some, None, codes}
use Rattle.serde_json.specs.Data.{Data, number, string, object, array, unsigned, Members, no_members, member}
use Rattle.serde_json.specs.View.{items_of}
use Rattle.hall_grid.specs.Rule.{verdict_text}
use Rattle.hall_desk.specs.declared.reply.AnswerLine.{AnswerLine}

-- a member that is a text, before further members
abbrev pub text_member : List ℕ → List ℕ → Members → Members
text_member name text more = member name (string text) more

-- a member that is a number, before further members
abbrev pub number_member : List ℕ → ℕ → Members → Members
number_member name n more = member name (number (unsigned n)) more

-- the verdict's member, where a verdict is told
abbrev pub verdict_member : Option ℕ → Members
verdict_member None = no_members
verdict_member (Some names) = text_member (codes "verdict") (verdict_text names) no_members

-- an answer's members in the order of their names, the last being its verdict
abbrev pub listed_answer_data : AnswerLine → Data
listed_answer_data a = object (
    text_member (codes "answer") a.answer (
    text_member (codes "entrant") a.entrant (
    number_member (codes "moment") a.moment (
    number_member (codes "n") a.n (
    number_member (codes "number") a.number (
    text_member (codes "token") a.token (
    verdict_member a.verdict)))))))

-- {"answers":[A,..]}
abbrev pub answers_data : List AnswerLine → Data
answers_data lines = object (member (codes "answers") (array (items_of (map listed_answer_data lines))) no_members)
