-- Rows that are looked at are records, and as many as are counted.
use Rattle.std.proofs.Common.{◌≡◌, ◌<◌, ◌+◌, ℕ, List, [], ◌∷◌, ◌++◌, map, take, get_or, length, Bool, Option, Some}
use Rattle.std.proofs.Common.{None, refl, sym, ap, ◌∙◌}
use Rattle.std.proofs.lemmas.List.{take_more}
use Rattle.sqlite.specs.declared.types.Value.TheVariants.{Text}
use Rattle.sqlite.specs.Order.{Row}
use Rattle.sqlite_value.specs.Order.{column}
use Rattle.hall_policy.specs.Limits.{last_second, most_answers, most_number}
use Rattle.hall_policy.specs.Text.{IsOfKind, as_answer, as_protest_text}
use Rattle.hall_policy.specs.declared.record.AnswerKey.{AnswerKey}
use Rattle.hall_policy.proofs.Reading.{kind_holds}
use Rattle.hall_sql.specs.Counts.{IsRead, AreReadAs}
use Rattle.hall_sql.specs.Rows.{IsAnswerKeyIn, answer_in, protest_in}
use Rattle.hall_sql.specs.Values.{kind_in, within, name_in, token_in, ruling_in, verdict_in}
use Rattle.hall_sql.proofs.UnreadLemmas.{other_kind}

module _ (least most : ℕ) (allows : ℕ → Bool) (text : List ℕ) where
  -- a text of the kind is read
  pub kind_read : IsOfKind least most allows text → IsRead (kind_in least most allows (Text text))
  kind_read it = (text, rw (kind_holds least most allows text it) refl)

  pub kind_unread : ¬ (IsOfKind least most allows text) → kind_in least most allows (Text text) ≡ None
  kind_unread other = other_kind least most allows (Text text) text refl other

-- an answer is read where its columns are
pub answer_read : (row : Row) → (key : AnswerKey) × IsAnswerKeyIn row key
    → IsRead (within 1 most_answers (column row 4))
    → IsRead (within 0 last_second (column row 5)) → IsRead (as_answer kind_in (column row 6))
    → IsRead (verdict_in (column row 7)) → IsRead (answer_in row)
answer_read row key n moment answer verdict = (
  record { key = key.0; n = n.0; moment = moment.0; answer = answer.0; verdict = verdict.0 },
  rw (key.1.entrant, key.1.round, key.1.number, key.1.token, n.1, moment.1, answer.1, verdict.1) refl,
)

-- so is a key
pub key_read : (row : Row) → IsRead (name_in (column row 0)) → IsRead (name_in (column row 1))
    → IsRead (within 1 most_number (column row 2))
    → IsRead (token_in (column row 3)) → (key : AnswerKey) × IsAnswerKeyIn row key
key_read row entrant round number token = (
  record { entrant = entrant.0; round = round.0; number = number.0; token = token.0 },
  record { entrant = entrant.1; round = round.1; number = number.1; token = token.1 },
)

-- and a protest
pub protest_read : (row : Row) → IsRead (name_in (column row 0)) → IsRead (name_in (column row 1))
    → IsRead (token_in (column row 2))
    → IsRead (within 1 most_number (column row 3)) → IsRead (as_protest_text kind_in (column row 4))
    → IsRead (ruling_in (column row 5) (column row 6)) → IsRead (protest_in row)
protest_read row entrant round token number text ruling = (
  record {
    key = record { entrant = entrant.0; round = round.0; token = token.0 };
    number = number.0;
    text = text.0;
    ruling = ruling.0;
  },
  rw (entrant.1, round.1, token.1, number.1, text.1, ruling.1) refl,
)

-- ---- one row more

mapped_more : {A B : Type 0} (f : A → B) (xs : List A) (x : A) → map f (xs ++ x ∷ []) ≡ map f xs ++ f x ∷ []
mapped_more f [] x = refl
mapped_more f (y ∷ xs) x = ap (λ l. f y ∷ l) (mapped_more f xs x)

pub more_read : {X : Type 0} (read : Row → Option X) (rows : List Row) (i : ℕ) (row : Row) → i < length rows
    → row ≡ get_or rows i row
    → AreReadAs read (take i rows) → IsRead (read row) → AreReadAs read (take (i + 1) rows)
more_read read rows i row low is before one = (
  before.0 ++ one.0 ∷ [],
  ap (map read) (take_more rows i row low) ∙ mapped_more read (take i rows) (get_or rows i row)
      ∙ ap (λ r. map read (take i rows) ++ read r ∷ []) (sym is) ∙ ap (λ l. l ++ read row ∷ []) before.1
      ∙ ap (λ o. map Some before.0 ++ o ∷ []) one.1 ∙ sym (mapped_more Some before.0 one.0),
)
