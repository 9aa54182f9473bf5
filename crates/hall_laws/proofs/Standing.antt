-- An answer and a protest that were told 200 stand in each later world, and their bytes are told the same there.
use Rattle.std.proofs.Common.{◌≡◌, ◌⊎◌, ◌∙◌, ap, sym, subst, refl, inl, inr, ℕ, ◌==◌, List, Option, Some, None, get_or}
use Rattle.std.proofs.Common.{arith}
use Rattle.std.specs.Prelude.{true, false, Ok}
use Rattle.hall_policy.specs.World.{World}
use Rattle.hall_policy.specs.declared.request.Action.TheVariants.{Submit, Protest}
use Rattle.hall_policy.specs.declared.request.Request.{Request}
use Rattle.hall_policy.specs.declared.rule.Decision.TheVariants.{Allow, Repeat, Deny}
use Rattle.hall_desk.specs.Shown.{told_verdict}
use Rattle.hall_desk.specs.Step.{Step, answer_row}
use Rattle.hall_desk.specs.declared.reply.Reply.{Reply}
use Rattle.hall_desk.specs.declared.reply.Reply.TheVariants as reply
use Rattle.hall_desk.proofs.Answered.{retries_are_answered}
use Rattle.hall_desk.proofs.ProtestAnswered.{protest_retries_are_answered}
use Rattle.hall_desk.proofs.ProtestRetries.{accepted_protests_stay}
use Rattle.hall_desk.proofs.ProtestRetries as protests
use Rattle.hall_desk.proofs.Retries.{accepted, accepted_answers_stay}
use Rattle.hall_http.specs.Answered.{IsUnavailable, answer_text}
use Rattle.hall_http.specs.Connection.{Exchange}
use Rattle.hall_http.specs.Reply.{BytesOf}
use Rattle.hall_http.specs.Request.{RequestOf}
use Rattle.hall_http.specs.Serving.{AnswersAt}
use Rattle.hall_http.specs.declared.answer.Answer.TheVariants.{Unavailable as NoStore}
use Rattle.hall_http.proofs.Refusals.{unavailable_reply}
use Rattle.hall_http.proofs.Told.{no_request, one_spelling, same_request}
use Rattle.hall_laws.specs.Accepted.{AnswerStands, IsAnswerAccepted, IsGranted, IsProtestAccepted, ProtestStands}
use Rattle.hall_laws.proofs.Lived.{Life}

pub unavailable : (text : List ℕ) → BytesOf reply.Unavailable text → IsUnavailable text
unavailable text is =
    let same : text ≡ answer_text NoStore =
    one_spelling reply.Unavailable reply.Unavailable text (answer_text NoStore) refl is unavailable_reply in
    record { same = same }

-- ---- the first digit of a status
granted_digit : (text : List ℕ) → IsGranted text → get_or text 9 0 ≡ 50
granted_digit text granted = ap (λ (bytes : List ℕ). get_or bytes 9 0) granted.same

denied_digit : (text : List ℕ) (rule : ℕ) → BytesOf (reply.Denied rule) text → get_or text 9 0 ≡ 52
denied_digit text rule is = elim (rule == 4) as (λ b. (rule == 4) ≡ b → get_or text 9 0 ≡ 52) [
  | true ↦ λ e. rw e at (ap (λ (bytes : List ℕ). get_or bytes 9 0) is)
  | false ↦ λ e. rw e at (ap (λ (bytes : List ℕ). get_or bytes 9 0) is)
] refl

not_denied : (text : List ℕ) (rule : ℕ) → IsGranted text → BytesOf (reply.Denied rule) text → ⊥
not_denied text rule granted is =
    let both : ◌≡◌ {A = ℕ} 50 52 = sym (granted_digit text granted) ∙ denied_digit text rule is in
    absurd (omega arith)

not_unavailable : (text : List ℕ) → IsGranted text → BytesOf reply.Unavailable text → ⊥
not_unavailable text granted is =
    let both : ◌≡◌ {A = ℕ} 50 53 = sym (granted_digit text granted) ∙ ap (λ (bytes : List ℕ). get_or bytes 9 0) is in
    absurd (omega arith)

pub not_served : (text : List ℕ) → IsGranted text → ¬ (IsUnavailable text)
not_served text granted is =
    not_unavailable text granted (subst (λ (t : List ℕ). BytesOf reply.Unavailable t) (sym is.same) unavailable_reply)

-- ---- the same bytes again
-- in each later world the same bytes are told the same, or 503, and leave it
abbrev pub ToldAlike : Exchange → World → Type 0
ToldAlike x kept =
    (later : World) → Life kept later → (y : Exchange) → y.request ≡ x.request → (moment : Option ℕ) (new : World)
    → AnswersAt later moment y.request y.reply new → (new ≡ later) × ((y.reply ≡ x.reply) ⊎ IsUnavailable y.reply)

module _ (x : Exchange) (asked : Request) (asks : RequestOf x.request (Ok asked)) (kept : World)
    (alike : (later : World) → Life kept later → (u : ℕ) (given : Reply) (new : World) → Step later u asked given new
    → (new ≡ later) × ((given ≡ reply.Unavailable) ⊎ BytesOf given x.reply)) where
  told_by : (y : Exchange) (given : Reply) → BytesOf given y.reply → (given ≡ reply.Unavailable) ⊎ BytesOf given x.reply
      → (y.reply ≡ x.reply) ⊎ IsUnavailable y.reply
  told_by y given written (inl none) =
      inr (unavailable y.reply (subst (λ (g : Reply). BytesOf g y.reply) none written))
  told_by y given written (inr first) = inl (one_spelling given given y.reply x.reply refl written first)

  pub told_alike : ToldAlike x kept
  told_alike later life y same (Some u) new (inl made) =
      let again : RequestOf y.request (Ok asked) = subst (λ (b : List ℕ). RequestOf b (Ok asked)) (sym same) asks in
      let one : made.request ≡ asked = same_request y made.request asked made.reads again in
      let (stays, told) = alike later life u made.reply new
      (subst (λ (r : Request). Step later u r made.reply new) one made.step) in
      (stays, told_by y made.reply made.written told)
  told_alike later life y same (Some u) new (inr (inl refused, stays)) =
      absurd (no_request y refused.found asked refused.reads
      (subst (λ (b : List ℕ). RequestOf b (Ok asked)) (sym same) asks))
  told_alike later life y same (Some u) new (inr (inr none, stays)) = (stays, inr (unavailable y.reply none))
  told_alike later life y same None new (none, stays) = (stays, inr (unavailable y.reply none))

-- the step by which a request was granted
abbrev Granted : Exchange → Request → World → World → Type 0
Granted x asked between kept =
    (t : ℕ) × (given : Reply) × Step between t asked given kept × BytesOf given x.reply

granted_step : (x : Exchange) (asked : Request) (between kept : World) (moment : Option ℕ) → IsGranted x.reply
    → RequestOf x.request (Ok asked) → AnswersAt between moment x.request x.reply kept → Granted x asked between kept
granted_step x asked between kept (Some t) granted asks (inl made) =
    let one : made.request ≡ asked = same_request x made.request asked made.reads asks in
    (t, made.reply, subst (λ (r : Request). Step between t r made.reply kept) one made.step, made.written)
granted_step x asked between kept (Some t) granted asks (inr (inl refused, same)) =
    absurd (no_request x refused.found asked refused.reads asks)
granted_step x asked between kept (Some t) granted asks (inr (inr none, same)) =
    absurd (not_unavailable x.reply granted none)
granted_step x asked between kept None granted asks (none, same) = absurd (not_unavailable x.reply granted none)

-- ---- answers
module _ (x : Exchange) (is : IsAnswerAccepted x) (between kept : World) where
  abbrev answer_asked : Request
  answer_asked = record { key = is.key; action = Submit is.id is.number is.token is.answer }

  -- the step that accepted it
  abbrev AnswerStep : Type 0
  AnswerStep = (t n : ℕ) × (told : Option ℕ) × Step between t answer_asked (reply.Submit n told) kept
      × BytesOf (reply.Submit n told) x.reply

  answer_told : (t : ℕ) (given : Reply) → Step between t answer_asked given kept → BytesOf given x.reply → AnswerStep
  answer_told t given (inl (none, left)) written =
      absurd (not_unavailable x.reply is.granted (subst (λ (g : Reply). BytesOf g x.reply) none written))
  answer_told t given (inr (found, (Deny k, first, (says, left)))) written =
      absurd (not_denied x.reply k is.granted (subst (λ (g : Reply). BytesOf g x.reply) says written))
  answer_told t given (inr (found, (Repeat, first, ((person, known, (round, row, at, stands, says)), left)))) written =
      let told : Option ℕ = told_verdict round row.verdict in (
        t,
        row.n,
        told,
        subst (λ (g : Reply). Step between t answer_asked g kept) says
            (inr (found, (Repeat, first, ((person, known, (round, row, at, stands, says)), left)))),
        subst (λ (g : Reply). BytesOf g x.reply) says written,
      )
  answer_told t given (inr (
    found,
    (
      Allow,
      none,
      (
        person,
        known,
        (round, entry, puzzle, verdict, at, place, grid, judged, (says, made)),
      ),
    ),
  )) written =
      let n : ℕ = (answer_row between person is.id is.number is.token is.answer t verdict).n in
      let told : Option ℕ = told_verdict round verdict in (
        t,
        n,
        told,
        subst (λ (g : Reply). Step between t answer_asked g kept) says
            (inr (
              found,
              (
                Allow,
                none,
                (
                  person,
                  known,
                  (round, entry, puzzle, verdict, at, place, grid, judged, (says, made)),
                ),
              ),
            )),
        subst (λ (g : Reply). BytesOf g x.reply) says written,
      )

  pub answer_step : (moment : Option ℕ) → AnswersAt between moment x.request x.reply kept → AnswerStep
  answer_step moment answered =
      let (t, given, step, written) =
      granted_step x answer_asked between kept moment is.granted is.asks answered in
      answer_told t given step written

  module _ (step : AnswerStep) where
    pub answer_stands : (later : World) → Life kept later → AnswerStands x is later
    answer_stands later (events, life) =
        let (t, n, told, made, written) = step in
        let again = (retries_are_answered between kept later t t is.key is.id is.number is.token is.answer is.answer n
        told events made life).0 refl in
        let h = accepted later later t is.key is.id is.number is.token is.answer n told again in
        record {
          person = h.person;
          known = h.is;
          row = h.row;
          stands = h.stands;
          text = h.text;
          round = h.round;
          found = h.found;
          told = subst (λ (g : Reply). BytesOf g x.reply) h.told written;
        }

    answer_alike : (later : World) → Life kept later → (u : ℕ) (given : Reply) (new : World)
        → Step later u answer_asked given new
        → (new ≡ later) × ((given ≡ reply.Unavailable) ⊎ BytesOf given x.reply)
    answer_alike later (events, life) u given new again =
        let (t, n, told, made, written) = step in
        let (stays, retry) = (accepted_answers_stay between kept later t is.key is.id is.number is.token is.answer n
        told events made life).1 u is.answer given new again in (
          stays,
          elim retry [
            | inl none ↦ inl none
            | inr (inl (other, denied)) ↦ absurd (other refl)
            | inr (inr (same, first)) ↦ inr (subst (λ (g : Reply). BytesOf g x.reply) (sym first) written)
          ],
        )

    pub answer_told_alike : ToldAlike x kept
    answer_told_alike = told_alike x answer_asked is.asks kept answer_alike

-- ---- protests
module _ (x : Exchange) (is : IsProtestAccepted x) (between kept : World) where
  abbrev protest_asked : Request
  protest_asked = record { key = is.key; action = Protest is.id is.token is.number is.text }

  abbrev ProtestStep : Type 0
  ProtestStep = (t : ℕ) × Step between t protest_asked (reply.Protest is.token) kept
      × BytesOf (reply.Protest is.token) x.reply

  protest_told : (t : ℕ) (given : Reply) → Step between t protest_asked given kept → BytesOf given x.reply
      → ProtestStep
  protest_told t given (inl (none, left)) written =
      absurd (not_unavailable x.reply is.granted (subst (λ (g : Reply). BytesOf g x.reply) none written))
  protest_told t given (inr (found, (Deny k, first, (says, left)))) written =
      absurd (not_denied x.reply k is.granted (subst (λ (g : Reply). BytesOf g x.reply) says written))
  protest_told t given (inr (found, (Repeat, first, ((person, known, (row, stands, says)), left)))) written = (
    t,
    subst (λ (g : Reply). Step between t protest_asked g kept) says
        (inr (found, (Repeat, first, ((person, known, (row, stands, says)), left)))),
    subst (λ (g : Reply). BytesOf g x.reply) says written,
  )
  protest_told t given (inr (found, (Allow, none, (person, known, (says, made))))) written = (
    t,
    subst (λ (g : Reply). Step between t protest_asked g kept) says
        (inr (found, (Allow, none, (person, known, (says, made))))),
    subst (λ (g : Reply). BytesOf g x.reply) says written,
  )

  pub protest_step : (moment : Option ℕ) → AnswersAt between moment x.request x.reply kept → ProtestStep
  protest_step moment answered =
      let (t, given, step, written) =
      granted_step x protest_asked between kept moment is.granted is.asks answered in
      protest_told t given step written

  module _ (step : ProtestStep) where
    pub protest_stands : (later : World) → Life kept later → ProtestStands x is later
    protest_stands later (events, life) =
        let (t, made, written) = step in
        let again = (protest_retries_are_answered between kept later t t is.key is.id is.token is.number is.text
        is.number is.text events made life).0 (refl, refl) in
        let h = protests.accepted later later t is.key is.id is.token is.number is.text again in
        record {
          person = h.person;
          known = h.is;
          row = h.row;
          stands = h.stands;
          same = (h.same_number, h.same_text);
        }

    protest_alike : (later : World) → Life kept later → (u : ℕ) (given : Reply) (new : World)
        → Step later u protest_asked given new
        → (new ≡ later) × ((given ≡ reply.Unavailable) ⊎ BytesOf given x.reply)
    protest_alike later (events, life) u given new again =
        let (t, made, written) = step in
        let (stays, retry) = (accepted_protests_stay between kept later t is.key is.id is.token is.number is.text events
        made life).1 u is.number is.text given new again in (
          stays,
          elim retry [
            | inl none ↦ inl none
            | inr (inl (denied, other, missing)) ↦ absurd (other refl)
            | inr (inr (inl (denied, other, there))) ↦ absurd (other (refl, refl))
            | inr (inr (inr (first, same))) ↦ inr (subst (λ (g : Reply). BytesOf g x.reply) (sym first) written)
          ],
        )

    pub protest_told_alike : ToldAlike x kept
    protest_told_alike = told_alike x protest_asked is.asks kept protest_alike
