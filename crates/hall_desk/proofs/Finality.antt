-- What is fixed for good: the table of a published round, and the moments of answers.
use Rattle.std.proofs.Common.{◌≡◌, ◌⊎◌, ◌<◌, ◌≤◌, inl, inr, ℕ, zero, suc, Bool, true, false, List, [], ◌∷◌, Option}
use Rattle.std.proofs.Common.{Some, None, Contains, refl, sym, ap, ◌∙◌, subst, arith, lit<}
use Rattle.std.specs.Prelude.{◌&&◌, All}
use Rattle.std.specs.FinMap.{FinMap, get}
use Rattle.std.proofs.lemmas.Bool.{false≢true}
use Rattle.std.proofs.lemmas.List.Elements.{All-head, All-tail}
use Rattle.hall_policy.specs.World.{World, end_of, same_text, answer_cmp, protest_cmp}
use Rattle.hall_policy.specs.Rules.{is_director}
use Rattle.hall_policy.specs.Actions.{rules_asked}
use Rattle.hall_policy.specs.First.{Forbids, NoneDecides}
use Rattle.hall_policy.specs.declared.rule.Rule.{Rule}
use Rattle.hall_policy.specs.declared.rule.Rule.TheVariants as rule
use Rattle.hall_policy.specs.declared.rule.Decision.TheVariants.{Allow, Repeat, Deny}
use Rattle.hall_policy.specs.declared.record.AnswerKey.{AnswerKey}
use Rattle.hall_policy.specs.declared.record.AnswerRow.{AnswerRow}
use Rattle.hall_policy.specs.declared.record.Person.{Person}
use Rattle.hall_policy.specs.declared.record.ProtestKey.{ProtestKey}
use Rattle.hall_policy.specs.declared.record.ProtestRow.{ProtestRow}
use Rattle.hall_policy.specs.declared.record.Round.{Round}
use Rattle.hall_policy.specs.declared.record.Ruling.{Ruling}
use Rattle.hall_policy.specs.declared.request.Action.{Action}
use Rattle.hall_policy.specs.declared.request.Action.TheVariants as action
use Rattle.hall_policy.proofs.Orders.{text_total, answer_total, same_answer_keys, protest_total, same_protest_keys}
use Rattle.hall_policy.proofs.Texts.{text_decides, and_first}
use Rattle.hall_policy.proofs.Viewed.{left_same}
use Rattle.hall_store.specs.Caller.{caller_of}
use Rattle.hall_store.specs.Maps.{empty_world}
use Rattle.hall_store.specs.Store.{is_of}
use Rattle.hall_store.proofs.Inserts.{found_after}
use Rattle.hall_store.proofs.Tests.{not_true}
use Rattle.hall_desk.specs.Lookups.{IsReleasedRound}
use Rattle.hall_desk.specs.Totals.{round_answers_by, round_protests_by}
use Rattle.hall_desk.specs.Sane.{Sane}
use Rattle.hall_desk.specs.Step.{Step, IsTableStep, answer_row, open_protest}
use Rattle.hall_desk.specs.History.{Event, requested, seeded, History, IsTyped}
use Rattle.hall_desk.specs.Records.{StaysReleased, KeptRecords}
use Rattle.hall_desk.specs.Final.{PublishedRoundsStay, TablesAreFinal, AreAnswersInTime, AnswersStayInTime}
use Rattle.hall_desk.specs.declared.reply.Reply.{Reply}
use Rattle.hall_desk.specs.declared.reply.Reply.TheVariants as reply
use Rattle.hall_desk.proofs.Answering.{find-value}
use Rattle.hall_desk.proofs.Agreeing.{one_table_read}
use Rattle.hall_desk.proofs.EmptySane.{nowhere, empty_sane}
use Rattle.hall_desk.proofs.Histories.{event_sane, history_sane}
use Rattle.hall_desk.proofs.Releases.{released_found}
use Rattle.hall_desk.proofs.Remaining.{records_stay, event_remains, released_puzzles_stay}
use Rattle.hall_desk.proofs.RepliesAlike.{le_unless, true_unless}
use Rattle.hall_desk.proofs.Authored.{lt_unless, same_times}
use Rattle.hall_desk.proofs.Bringing.{allowed_person}
use Rattle.hall_desk.proofs.TablesLeft.{table_moved}
use Rattle.hall_desk.proofs.Touching.{Changes, happened}

-- a round that is there, released and published
record IsShut (world : World) (id : List ℕ) : Type 0 where
  pub round : Round
  pub kept : get world.rounds id ≡ Some round
  pub released : round.released ≡ true
  pub published : round.published ≡ true

-- it stays so
still_shut : (world later : World) (id : List ℕ) → KeptRecords world later → IsShut world id → IsShut later id
still_shut world later id remains shut =
    let stays = remains.rounds id shut.round shut.kept shut.released in
    record {
      round = stays.after;
      kept = stays.found;
      released = ap (λ (r : Round). r.released) stays.same ∙ shut.released;
      published = stays.risen shut.published;
    }

-- ---- nothing is added to a published round
-- an event adds no answer to it
no_answer_now : (world : World) (event : Event) (next : World) (id : List ℕ) (key : AnswerKey) (row : AnswerRow)
    → Changes world event next → IsShut world id → key.round ≡ id →
    get next.answers key ≡ Some row → get world.answers key ≡ Some row
no_answer_now world (seeded people given) next id key row (count, told, made) shut own at = ap
    (λ (w : World). get w.answers key) (sym made) ∙ at
no_answer_now world (requested t request given) next id key row (none, touches) shut own at = elim touches.answers [
  | inl same ↦ ap (λ (m : FinMap answer_cmp AnswerRow). get m key) (sym same) ∙ at
  | inr h ↦
      let asked : Action = action.Submit h.id h.number h.token h.answer in
      let none_for : NoneDecides world (caller_of world request.key) asked t = subst
      (λ (a : Action). NoneDecides world (caller_of world request.key) a t) h.asks none in
      elim (found_after answer_total same_answer_keys world.answers
      (record { entrant = h.person.name; round = h.id; number = h.number; token = h.token })
      (answer_row world h.person h.id h.number h.token h.answer t h.verdict) key row
      (ap (λ (m : FinMap answer_cmp AnswerRow). get m key) (sym h.made) ∙ at)) [
        | inl both ↦
            let here : h.id ≡ id = sym (ap (λ (k : AnswerKey). k.round) both.0) ∙ own in
            absurd ((none_for rule.Published (lit< tt)).0 (
              (7, lit< tt, refl),
              (h.id, shut.round, refl, ap (get world.rounds) here ∙ shut.kept, shut.published),
            ))
        | inr other ↦ other.1
      ]
]

-- the protest stands under the key, but for its ruling
HasProtest : World → ProtestKey → Type 0
HasProtest world key = (row : ProtestRow) × (get world.protests key ≡ Some row)

-- an event adds no protest to it
no_protest_now : (world : World) (event : Event) (next : World) (id : List ℕ) (key : ProtestKey)
    → Changes world event next → IsShut world id → key.round ≡ id →
    HasProtest next key → HasProtest world key
unfolding HasProtest
no_protest_now world (seeded people given) next id key (count, told, made) shut own (row, at) =
    (row, ap (λ (w : World). get w.protests key) (sym made) ∙ at)
no_protest_now world (requested t request given) next id key (none, touch) shut own (row, at) = elim touch.protests [
  | inl same ↦ (row, ap (λ (m : FinMap protest_cmp ProtestRow). get m key) (sym same) ∙ at)
  | inr (inl h) ↦
      let asked : Action = action.Protest h.id h.token h.number h.text in
      let none_for : NoneDecides world (caller_of world request.key) asked t = subst
      (λ (a : Action). NoneDecides world (caller_of world request.key) a t) h.asks none in
      elim (found_after protest_total same_protest_keys world.protests
      (record { entrant = h.person.name; round = h.id; token = h.token })
      (open_protest h.person h.id h.token h.number h.text) key row
      (ap (λ (m : FinMap protest_cmp ProtestRow). get m key) (sym h.made) ∙ at)) [
        | inl both ↦
            let here : h.id ≡ id = sym (ap (λ (k : ProtestKey). k.round) both.0) ∙ own in
            absurd ((none_for rule.Published (lit< tt)).0 (
              (7, lit< tt, refl),
              (h.id, shut.round, refl, ap (get world.rounds) here ∙ shut.kept, shut.published),
            ))
        | inr other ↦ (row, other.1)
      ]
  | inr (inr h) ↦ elim (found_after protest_total same_protest_keys world.protests
      (record { entrant = h.entrant; round = h.id; token = h.token }) (record h.row { ruling = Some h.ruling }) key row
      (ap (λ (m : FinMap protest_cmp ProtestRow). get m key) (sym h.made) ∙ at)) [
        | inl both ↦ (h.row, ap (get world.protests) both.0 ∙ h.kept)
        | inr other ↦ (row, other.1)
      ]
]

-- what no event adds, no life adds
none_added : (P : World → Type 0) (id : List ℕ) → ((world : World) (event : Event) (next : World)
    → Changes world event next → IsShut world id → P next → P world) →
    (events : List Event) (world later : World) → History world events later → IsShut world id → P later → P world
none_added P id first [] world later life shut at = subst P life at
none_added P id first (event ∷ rest) world later life shut at =
    let next = none_added P id first rest life.0 later life.2
    (still_shut world life.0 id (event_remains world event life.0 life.1) shut) at in
    elim (happened world event life.0 life.1) [
      | inl same ↦ subst P same next
      | inr changes ↦ first world event life.0 changes shut next
    ]

-- ---- the rows of a published round
module _ (world later : World) (events : List Event) (id : List ℕ) (sane : Sane world) (typed : All IsTyped events)
    (life : History world events later) (shut : IsShut world id) where
  remains : KeptRecords world later
  remains = records_stay world later events life

  stays : StaysReleased world later id shut.round
  stays = remains.rounds id shut.round shut.kept shut.released

  same_round : get later.rounds id ≡ get world.rounds id
  same_round =
      let risen : stays.after.published ≡ shut.round.published = stays.risen shut.published ∙ sym shut.published in
      let one : stays.after ≡ shut.round = stays.same ∙ ap (λ (b : Bool). let r : Round = record shut.round
      { published = b } in r) risen in
      stays.found ∙ ap (λ (r : Round). Some r) one ∙ sym shut.kept

  same_answers : (key : AnswerKey) → key.round ≡ id → get later.answers key ≡ get world.answers key
  same_answers key own = elim (get later.answers key) as (λ (o : Option AnswerRow). get later.answers key ≡ o
      → o ≡ get world.answers key) [
        | Some row ↦ λ at. sym (none_added (λ w. get w.answers key ≡ Some row) id
            (λ w event next changes is here. no_answer_now w event next id key row changes is own here) events world
            later
            life shut at)
        | None ↦ λ lost. elim (get world.answers key) as (λ (o : Option AnswerRow). get world.answers key ≡ o
            → None ≡ o) [
              | None ↦ λ _. refl
              | Some row ↦ λ at. let no : None ≡ Some row = sym lost ∙ remains.answers key row at in absurd (cc)
            ] refl
      ] refl

  -- a protest is ruled there, so its whole row stays
  protest_stays : (key : ProtestKey) (row : ProtestRow) → key.round ≡ id → get world.protests key ≡ Some row
      → get later.protests key ≡ Some row
  protest_stays key row own at =
      let kept = remains.protests key row at in
      elim row.ruling as (λ (o : Option Ruling). row.ruling ≡ o → get later.protests key ≡ Some row) [
        | None ↦ λ open_still. absurd (sane.ruled id shut.round shut.kept shut.published key row own at open_still)
        | Some ruling ↦ λ ruled.
            let same : kept.after.ruling ≡ row.ruling = kept.ruled ruling ruled ∙ sym ruled in
            kept.found ∙ ap (λ (r : ProtestRow). Some r) (kept.same
            ∙ ap (λ (o : Option Ruling). let r : ProtestRow = record row { ruling = o } in r) same)
      ] refl

  same_protests : (key : ProtestKey) → key.round ≡ id → get later.protests key ≡ get world.protests key
  unfolding HasProtest
  same_protests key own = elim (get later.protests key) as (λ (o : Option ProtestRow). get later.protests key ≡ o
      → o ≡ get world.protests key) [
        | Some row ↦ λ at.
            let (before, had) = none_added (λ w. HasProtest w key) id
            (λ w event next changes is here. no_protest_now w event next id key changes is own here) events world later
            life shut (row, at) in
            let both : Some row ≡ Some before = sym at ∙ protest_stays key before own had in
            both ∙ sym had
        | None ↦ λ lost. elim (get world.protests key) as (λ (o : Option ProtestRow). get world.protests key ≡ o
            → None ≡ o) [
              | None ↦ λ _. refl
              | Some row ↦ λ at. let no : None ≡ Some row = sym lost ∙ protest_stays key row own at in absurd (cc)
            ] refl
      ] refl

  -- ---- its table
  -- an entrant's rows
  answers_alike : (entrant : List ℕ) → round_answers_by world id entrant ≡ round_answers_by later id entrant
  answers_alike entrant =
      let retyped = (history_sane events world later typed life sane).typed in
      left_same answer_total same_answer_keys (λ k. same_text k.round id && same_text k.entrant entrant)
      (is_of entrant id) world.answers later.answers
      (λ k r here. ap (λ (x : AnswerKey). same_text x.round id && same_text x.entrant entrant)
      (sane.typed.answers k r here))
      (λ k r here. ap (λ (x : AnswerKey). same_text x.round id && same_text x.entrant entrant)
      (retyped.answers k r here))
      (λ k passes. sym (same_answers k ((text_decides k.round id).0 (and_first _ _ passes))))

  protests_alike : (entrant : List ℕ) → round_protests_by world id entrant ≡ round_protests_by later id entrant
  protests_alike entrant =
      let retyped = (history_sane events world later typed life sane).typed in
      left_same protest_total same_protest_keys (λ k. same_text k.round id && same_text k.entrant entrant)
      (λ r. same_text r.key.round id && same_text r.key.entrant entrant) world.protests later.protests
      (λ k r here. ap (λ (x : ProtestKey). same_text x.round id && same_text x.entrant entrant)
      (sane.typed.protests k r here))
      (λ k r here. ap (λ (x : ProtestKey). same_text x.round id && same_text x.entrant entrant)
      (retyped.protests k r here))
      (λ k passes. sym (same_protests k ((text_decides k.round id).0 (and_first _ _ passes))))

pub published_rounds_stay : PublishedRoundsStay
published_rounds_stay world later events id round sane typed life at published =
    let shut : IsShut world id = record {
      round = round;
      kept = at;
      released = sane.published id round at published;
      published = published;
    } in
    let stays = stays world later events id sane typed life shut in
    let head : get later.rounds id ≡ get world.rounds id = same_round world later events id sane typed life shut in
    let answers = answers_alike world later events id sane typed life shut in
    let protests = protests_alike world later events id sane typed life shut in
    record {
      round = head;
      places = stays.places;
      testers = stays.testers;
      puzzles = λ key stands. released_puzzles_stay world later events sane life id key stands;
      answers = same_answers world later events id sane typed life shut;
      protests = same_protests world later events id sane typed life shut;
      table = λ text. (
        (λ told. table_moved later world id text
            (λ row is. record {
              head = sym head ∙ is.head;
              list = λ number. sym (stays.places number) ∙ is.list number;
              testers = λ name. (
                λ tests. (is.testers name).0 ((stays.testers name).1 tests),
                λ among.
                    (stays.testers name).0 ((is.testers name).1 among),
              );
            })
            (λ entrant. sym (answers entrant)) (λ entrant. sym (protests entrant)) told),
        (λ told. table_moved world later id text
            (λ row is. record {
              head = head ∙ is.head;
              list = λ number. stays.places number ∙ is.list number;
              testers = λ name. (
                λ tests. (is.testers name).0 ((stays.testers name).0 tests),
                λ among.
                    (stays.testers name).1 ((is.testers name).1 among),
              );
            })
            answers protests told),
      );
    }

-- ---- a table that was told
-- a Table is denied where the round isn't there, or isn't published
pub table_rules : (r : Rule) (id : List ℕ) → Contains (rules_asked (action.Table id)) r → (r ≡ rule.Missing)
    ⊎ (r ≡ rule.Published)
table_rules r id (zero, within, is) = inl (sym is)
table_rules r id (suc zero, within, is) = inr (sym is)
table_rules r id (suc (suc i), within, is) = absurd (omega (arith, within))

-- a round that is there and published denies no table
table_not_denied : (world : World) (caller : Option Person) (t : ℕ) (id : List ℕ) (r : Rule) → IsShut world id
    → ¬ (Forbids r world caller (action.Table id) t)
table_not_denied world caller t id r shut forbids = elim (table_rules r id forbids.0) [
  | inl missing ↦
      let now : Forbids rule.Missing world caller (action.Table id) t = subst
      (λ (x : Rule). Forbids x world caller (action.Table id) t) missing forbids in
      false≢true (sym (now.1 shut.round shut.kept).0 ∙ shut.released)
  | inr unpublished ↦
      let now : Forbids rule.Published world caller (action.Table id) t = subst
      (λ (x : Rule). Forbids x world caller (action.Table id) t) unpublished forbids in
      let (named, round, same, kept, not_yet) = now.1 in
      let own : Some id ≡ Some named = same in
      let here : id ≡ named = cc in
      let both : Some round ≡ Some shut.round = sym kept ∙ ap (get world.rounds) (sym here) ∙ shut.kept in
      let one : round ≡ shut.round = cc in
      false≢true (sym not_yet ∙ ap (λ (x : Round). x.published) one ∙ shut.published)
]

-- where a table is told, the round is published, and the text is its table
told_table : (world : World) (t : ℕ) (key : Option (List ℕ)) (id : List ℕ) (text : List ℕ) (new : World) → Sane world →
    Step world t (record { key = key; action = action.Table id }) (reply.Table text) new → IsShut world id
    × IsTableStep world id (reply.Table text) × (new ≡ world)
told_table world t key id text new sane (inl h) = let no : reply.Table text ≡ reply.Unavailable = h.0 in absurd (cc)
told_table world t key id text new sane (inr (found, (Deny k, first, decided))) = let no : reply.Table text ≡
    reply.Denied k = decided.0 in absurd (cc)
told_table world t key id text new sane (inr (found, (Repeat, first, decided))) = absurd decided.0
told_table world t key id text new sane (inr (found, (Allow, none, (read, same)))) =
    let (script, (row, at, of), told) = read in
    let published : row.round.published ≡ true = true_unless row.round.published
    (λ no. (none rule.Published (lit< tt)).0 ((1, lit< tt, refl), (id, row.round, refl, at.head, no))) in (
      record {
        round = row.round;
        kept = at.head;
        released = sane.published id row.round at.head published;
        published =
            published;
      },
      read,
      same,
    )

-- a table is told where the round is published, or the reply is 503
table_told : (world : World) (t : ℕ) (key : Option (List ℕ)) (id : List ℕ) (given : Reply) (new : World)
    → IsShut world id →
    Step world t (record { key = key; action = action.Table id }) given new → (given ≡ reply.Unavailable)
    ⊎ IsTableStep world id given
table_told world t key id given new shut (inl h) = inl h.0
table_told world t key id given new shut (inr (found, (Deny k, (r, own, forbids, none), decided))) = absurd
    (table_not_denied world (caller_of world key) t id r shut forbids)
table_told world t key id given new shut (inr (found, (Repeat, first, decided))) = absurd decided.0
table_told world t key id given new shut (inr (found, (Allow, none, decided))) = inr decided.0

pub tables_are_final : TablesAreFinal
tables_are_final world told later new t u key by id text given events sane typed first life second =
    let (shut, read, same) = told_table world t key id text told sane first in
    let on : History world events later = subst (λ (w : World). History w events later) same life in
    let whole = published_rounds_stay world later events id shut.round sane typed on shut.kept shut.published in
    let shut_later : IsShut later id = still_shut world later id (records_stay world later events on) shut in
    elim (table_told later u by id given new shut_later second) [
      | inl none ↦ inl none
      | inr (script, at, says) ↦ inr (one_table_read world sane.typed id given (reply.Table text)
          (script, (whole.table script).0 at, says) read)
    ]

-- ---- moments
-- a moment in a round's time
abbrev IsInTime : World → List ℕ → ℕ → Type 0
IsInTime world id t = (round : Round) × (get world.rounds id ≡ Some round) × (round.start ≤ t) × (t < end_of round)

-- a released round's times stay
still_in_time : (world next : World) (id : List ℕ) (t : ℕ) → KeptRecords world next → IsReleasedRound world id
    → IsInTime world id t → IsInTime next id t
still_in_time world next id t remains (other, there, released) (round, kept, started, before) =
    let both : Some other ≡ Some round = sym there ∙ kept in
    let one : other ≡ round = cc in
    let stays = remains.rounds id round kept (ap (λ (r : Round). r.released) (sym one) ∙ released) in
    let times = same_times round stays.after stays.same in
    (stays.after, stays.found, subst (λ (n : ℕ). n ≤ t) times.0 started, subst (λ (n : ℕ). t < n) times.1 before)

-- a caller is a person who is there
caller_there : (world : World) (key : Option (List ℕ)) (person : Person) → caller_of world key ≡ Some person
    → (name : List ℕ) × (get world.people name ≡ Some person)
caller_there world None person is = let no : None ≡ Some person = is in absurd (cc)
caller_there world (Some key) person is = let under = find-value text_total (λ p. same_text p.key key) world.people
    person is in (under.0, under.1)

-- an answer that is taken comes in its round's time
submitted_in_time : (world : World) (key : Option (List ℕ)) (person : Person) (id : List ℕ) (number : ℕ)
    (token answer : List ℕ) (t : ℕ) (round : Round) → Sane world →
    caller_of world key ≡ Some person → get world.rounds id ≡ Some round
    → NoneDecides world (caller_of world key) (action.Submit id number token answer) t → IsInTime world id t
submitted_in_time world key person id number token answer t round sane is kept none =
    let entrant : person.roles.entrant ≡ true = allowed_person world (caller_of world key)
    (action.Submit id number token answer) t none person (1, lit< tt, refl) is in
    let there = caller_there world key person is in
    let no_director : is_director (caller_of world key) ≡ false = ap is_director is
    ∙ not_true person.roles.director (λ director. sane.apart there.0 person there.1 director entrant) in (
      round,
      kept,
      le_unless round.start t (λ early. (none rule.NotStarted (lit< tt)).0
          ((5, lit< tt, refl), (no_director, (λ reads. reads), (id, round, refl, kept, early)))),
      lt_unless t (end_of round) (λ late. (none rule.Ended (lit< tt)).0
          ((6, lit< tt, refl), (id, round, refl, kept, late))),
    )

-- an event keeps the answers in time
in_time_now : (world : World) (event : Event) (next : World) → Sane world → KeptRecords world next
    → Changes world event next → AreAnswersInTime world → AreAnswersInTime next
in_time_now world (seeded people given) next sane remains (count, told, made) before key row at =
    let was = ap (λ (w : World). get w.answers key) (sym made) ∙ at in
    still_in_time world next key.round row.moment remains (sane.answers_released key row was) (before key row was)
in_time_now world (requested t request given) next sane remains (none, touch) before key row at = elim touch.answers [
  | inl same ↦
      let was = ap (λ (m : FinMap answer_cmp AnswerRow). get m key) (sym same) ∙ at in
      still_in_time world next key.round row.moment remains (sane.answers_released key row was) (before key row was)
  | inr h ↦
      let asked : Action = action.Submit h.id h.number h.token h.answer in
      let stored : AnswerRow = answer_row world h.person h.id h.number h.token h.answer t h.verdict in
      let none_for : NoneDecides world (caller_of world request.key) asked t = subst
      (λ (a : Action). NoneDecides world (caller_of world request.key) a t) h.asks none in
      elim (found_after answer_total same_answer_keys world.answers
      (record { entrant = h.person.name; round = h.id; number = h.number; token = h.token })
      stored key row (ap (λ (m : FinMap answer_cmp AnswerRow). get m key) (sym h.made) ∙ at)) [
        | inl both ↦
            let now : IsInTime next h.id t = still_in_time world next h.id t remains
            (released_found world (caller_of world request.key) asked h.id refl
            (λ missing. (none_for rule.Missing (lit< tt)).0 ((2, lit< tt, refl), inl missing)))
            (submitted_in_time world request.key h.person h.id h.number h.token h.answer t h.round sane h.is h.kept
            none_for) in
            subst (λ (k : AnswerKey). IsInTime next k.round row.moment) (sym both.0)
            (subst (λ (r : AnswerRow). IsInTime next h.id r.moment) (sym both.1) now)
        | inr other ↦ still_in_time world next key.round row.moment remains (sane.answers_released key row other.1)
            (before key row other.1)
      ]
]

in_time_on : (events : List Event) (world later : World) → Sane world → All IsTyped events → History world events later
    → AreAnswersInTime world → AreAnswersInTime later
in_time_on [] world later sane typed life before = subst AreAnswersInTime (sym life) before
in_time_on (event ∷ rest) world later sane typed life before =
    in_time_on rest life.0 later (event_sane world event life.0 (All-head IsTyped event rest typed) life.1 sane)
    (All-tail IsTyped event rest typed) life.2
    (elim (happened world event life.0 life.1) [
      | inl same ↦ subst AreAnswersInTime (sym same) before
      | inr changes ↦ in_time_now world event life.0 sane (event_remains world event life.0 life.1) changes before
    ])

pub answers_stay_in_time : AnswersStayInTime
answers_stay_in_time = record {
  kept = λ world later events sane typed life before. in_time_on events world later sane typed life before;
  lives = λ world events typed life. in_time_on events empty_world world empty_sane typed life
      (λ key row at. absurd (nowhere answer_total AnswerRow key row at));
}
