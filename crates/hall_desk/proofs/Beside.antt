-- The plan for an answer stands after another's answer is stored.
use Rattle.std.proofs.Common.{◌≡◌, ◌≢◌, ◌↔◌, ◌==◌, ◌&&◌, ◌≤◌, ◌+◌, inl, inr, ℕ, Bool, true, false, cond, List, Option}
use Rattle.std.proofs.Common.{Some, None, arith, lit<, refl, sym, ap, ◌∙◌, subst}
use Rattle.std.specs.FinMap.{FinMap, get, insert}
use Rattle.hall_policy.specs.Limits.{most_answers}
use Rattle.hall_policy.specs.World.{World, answer_cmp, same_text}
use Rattle.hall_policy.specs.Rules.{answers_given}
use Rattle.hall_policy.specs.First.{First, NoneBelow, SameBefore, Sentence}
use Rattle.hall_policy.specs.declared.record.AnswerKey.{AnswerKey}
use Rattle.hall_policy.specs.declared.record.AnswerRow.{AnswerRow}
use Rattle.hall_policy.specs.declared.record.Person.{Person}
use Rattle.hall_policy.specs.declared.record.PuzzleState.{PuzzleState}
use Rattle.hall_policy.specs.declared.request.Action.{Action}
use Rattle.hall_policy.specs.declared.request.Action.TheVariants as action
use Rattle.hall_policy.specs.declared.request.Request.{Request}
use Rattle.hall_policy.specs.declared.rule.Decision.{Decision}
use Rattle.hall_policy.specs.declared.rule.Decision.TheVariants.{Allow, Repeat, Deny}
use Rattle.hall_policy.specs.declared.rule.Rule.{Rule}
use Rattle.hall_policy.specs.declared.rule.Rule.TheVariants as rule
use Rattle.hall_policy.proofs.Maps.{count_by-insert_new, get-insert_other, get-insert_same}
use Rattle.hall_policy.proofs.Orders.{answer_total, same_answer_keys}
use Rattle.hall_policy.proofs.Texts.{and_first, text_decides}
use Rattle.hall_store.specs.Caller.{caller_of}
use Rattle.hall_store.specs.Change.{CanAddAnswer, CanMake, changed}
use Rattle.hall_store.specs.declared.change.Change.{Change}
use Rattle.hall_store.specs.declared.change.Change.TheVariants as change
use Rattle.hall_store.proofs.Inserts.{keys_apart}
use Rattle.hall_desk.specs.Plan.{planned_change, planned_reply}
use Rattle.hall_desk.specs.Plans.{IsChangeOf}
use Rattle.hall_desk.specs.Shown.{told_verdict}
use Rattle.hall_desk.specs.Step.{Allowed, Decided, answer_row}
use Rattle.hall_desk.specs.Together.{PlansStandBeside, submission}
use Rattle.hall_desk.specs.declared.plan.Plan.{Plan}
use Rattle.hall_desk.specs.declared.reply.Reply.{Reply}
use Rattle.hall_desk.specs.declared.reply.Reply.TheVariants as reply
use Rattle.hall_desk.proofs.StepsAlike.{same_callers}

module _ (world : World) (row : AnswerRow) (fresh : get world.answers row.key ≡ None) where
  abbrev pub later : World
  later = record world { answers = insert world.answers row.key row }

  -- ---- of another person
  module _ (person : Person) (apart : row.key.entrant ≢ person.name) where
    same_answer : (q : AnswerKey) → q.entrant ≡ person.name → get later.answers q ≡ get world.answers q
    same_answer q own = get-insert_other answer_total same_answer_keys world.answers row.key row q
        (λ same. apart (ap (λ (k : AnswerKey). k.entrant) (sym same) ∙ own))

    abbrev counts : List ℕ → ℕ → AnswerRow → Bool
    counts id number r = same_text r.key.entrant person.name && (same_text r.key.round id && (r.key.number == number))

    not_counted : (id : List ℕ) (number : ℕ) → counts id number row ≡ false
    not_counted id number = elim (counts id number row) as (λ b. counts id number row ≡ b → b ≡ false) [
      | true ↦ λ yes. absurd (apart ((text_decides row.key.entrant person.name).0 (and_first _ _ yes)))
      | false ↦ λ no. refl
    ] refl

    same_given : (id : List ℕ) (number : ℕ) → answers_given later person.name id number ≡ answers_given world person.name
        id number
    same_given id number =
        let more : answers_given later person.name id number ≡ answers_given world person.name id number
        + cond (counts id number row) 1 0 = count_by-insert_new answer_total (counts id number) world.answers row.key row
        fresh in
        let none : ◌≡◌ {A = ℕ} (cond (counts id number row) 1 0) 0 = ap (λ (b : Bool). let n : ℕ = cond b 1 0 in n)
        (not_counted id number) in
        omega (arith, more, none)

  -- ---- decisions
  module _ (caller : Option Person) (apart : (person : Person) → caller ≡ Some person → row.key.entrant ≢ person.name)
      (t : ℕ) (id : List ℕ) (number : ℕ) (token answer : List ℕ) where
    abbrev a : Action
    a = action.Submit id number token answer

    abbrev own : Person → AnswerKey
    own person = record { entrant = person.name; round = id; number = number; token = token }

    same_own : (person : Person) → caller ≡ Some person → get later.answers (own person) ≡ get world.answers (own person)
    same_own person is = same_answer person (apart person is) (own person) refl

    same_before : (r : Rule) → SameBefore r world caller a ↔ SameBefore r later caller a
    same_before rule.TokenTaken = (
      (λ (person, is, (x, at, same)). (person, is, (x, same_own person is ∙ at, same))),
      (λ (person, is, (x, at, same)). (person, is, (x, sym (same_own person is) ∙ at, same))),
    )
    same_before _ = ((λ h. h), (λ h. h))

    sentence : (r : Rule) → Sentence r world caller a t ↔ Sentence r later caller a t
    sentence rule.TokenTaken = (
      (λ ((person, is, (x, at)), other). (
        (person, is, (x, same_own person is ∙ at)),
        (λ same. other ((same_before rule.TokenTaken).1 same)),
      )),
      (λ ((person, is, (x, at)), other). (
        (person, is, (x, sym (same_own person is) ∙ at)),
        (λ same. other ((same_before rule.TokenTaken).0 same)),
      )),
    )
    sentence rule.LimitReached = (
      (λ (person, is, many). (
        person,
        is,
        subst (λ n. most_answers ≤ n) (sym (same_given person (apart person is) id
            number)) many,
      )),
      (λ (person, is, many). (
        person,
        is,
        subst (λ n. most_answers ≤ n) (same_given person (apart person is) id number)
            many,
      )),
    )
    sentence _ = ((λ h. h), (λ h. h))

    none_below : (n : ℕ) → NoneBelow n world caller a t → NoneBelow n later caller a t
    none_below n none r low =
        let it = none r low in (
          (λ forbids. it.0 (forbids.0, (sentence r).1 forbids.1)),
          (λ repeated. it.1 (repeated.0, (same_before r).1 repeated.1)),
        )

    first : (d : Decision) → First world caller a t d → First later caller a t d
    first (Deny k) (r, number_is, forbids, none) = (r, number_is, (forbids.0, (sentence r).0 forbids.1), none_below k none)
    first Repeat (r, repeated, none) = (r, (repeated.0, (same_before r).0 repeated.1), none_below _ none)
    first Allow none = none_below _ none

    -- an allowed answer's key is new
    key_is_new : First world caller a t Allow → (person : Person) → caller ≡ Some person → (x : AnswerRow)
        → x.answer ≡ answer → get world.answers (own person) ≡ Some x → ⊥
    key_is_new none person is x same at = (none rule.TokenTaken (lit< tt)).1 (
      (4, lit< tt, refl),
      (
        person,
        is,
        (
          x,
          at,
          same,
        ),
      ),
    )

    -- ---- plans
    module _ (found : PuzzleState) (plan : Plan) where
      abbrev given : Reply
      given = planned_reply plan

      -- a plan that changes nothing
      decided_quiet : (d : Decision) → d ≢ Allow → planned_change plan ≡ change.Nothing
          → Decided d world caller a t found given (changed (planned_change plan) world)
          → Decided d later caller a t found given (changed (planned_change plan) later)
      decided_quiet (Deny k) other nothing done = (done.0, ap (λ (c : Change). changed c later) nothing)
      decided_quiet Repeat other nothing ((person, is, (round, x, at, stands, told)), left) = (
        (person, is, (round, x, at, same_own person is ∙ stands, told)),
        ap (λ (c : Change). changed c later) nothing,
      )
      decided_quiet Allow other nothing done = absurd (other refl)

      abbrev new_row : Person → ℕ → AnswerRow
      new_row person verdict = answer_row world person id number token answer t verdict

      -- the change of an allowed answer is its row
      change_is : First world caller a t Allow → (person : Person) → caller ≡ Some person → (verdict : ℕ) → (c : Change)
          → CanMake c world → IsChangeOf c a
          → changed c world ≡ record world { answers = insert world.answers (own person) (new_row person verdict) }
          → c ≡ change.AddAnswer (new_row person verdict)
      change_is none person is verdict change.Nothing can own_change made =
          absurd (key_is_new none person is (new_row person verdict) refl
          (ap (λ (w : World). get w.answers (own person)) made
          ∙ get-insert_same answer_total world.answers (own person) (new_row person verdict)))
      change_is none person is verdict (change.AddAnswer y) can own_change made =
          let x : AnswerRow = new_row person verdict in
          let put : insert world.answers y.key y ≡ insert world.answers (own person) x = ap
          (λ (w : World). w.answers) made in
          let there : Some y ≡ get (insert world.answers (own person) x) y.key =
          sym (get-insert_same answer_total world.answers y.key y)
          ∙ ap (λ (m : FinMap answer_cmp AnswerRow). get m y.key) put in
          elim (keys_apart answer_total same_answer_keys y.key (own person)) [
            | inl same ↦
                let one : Some y ≡ Some x = there
                ∙ ap (get (insert world.answers (own person) x)) same
                ∙ get-insert_same answer_total world.answers (own person) x in
                let row_is : y ≡ x = cc in
                ap change.AddAnswer row_is
            | inr differ ↦
                let no : Some y ≡ None = there
                ∙ get-insert_other answer_total same_answer_keys world.answers (own person) x y.key differ
                ∙ can.fresh in
                absurd (cc)
          ]
      change_is none person is verdict _ can own_change made = absurd own_change

      -- it may be added later too
      can_later : (person : Person) → caller ≡ Some person → (x : AnswerRow) → x.key.entrant ≡ person.name
          → CanAddAnswer world x → CanAddAnswer later x
      can_later person is x by can = record {
        fresh = same_answer person (apart person is) x.key by ∙ can.fresh;
        entrant = can.entrant;
        place = can.place;
        next = λ taken other at. can.next taken other
            (sym (same_answer person (apart person is)
            (record { entrant = x.key.entrant; round = x.key.round; number = x.key.number; token = taken }) by) ∙ at);
      }

      -- and its number is the same
      same_row : (person : Person) → caller ≡ Some person → (verdict : ℕ)
          → answer_row world person id number token answer t verdict ≡ answer_row later person id number token answer t
          verdict
      same_row person is verdict =
          let n : answers_given world person.name id number ≡ answers_given later person.name id number =
          sym (same_given person (apart person is) id number) in
          λ i. record { key = own person; n = n i + 1; moment = t; answer = answer; verdict = verdict }

      -- an allowed answer is given the same reply, and stored
      allowed_later : First world caller a t Allow → CanMake (planned_change plan) world
          → IsChangeOf (planned_change plan) a → Allowed world caller a t found given (changed (planned_change plan) world)
          → Allowed later caller a t found given (changed (planned_change plan) later) × CanMake (planned_change plan) later
      allowed_later none can own_change
          (person, is, (round, entry, puzzle, verdict, at, place, kept, judged, (told, made))) =
          let x : AnswerRow = answer_row world person id number token answer t verdict in
          let c : planned_change plan ≡ change.AddAnswer x = change_is none person is verdict (planned_change plan) can own_change made in
          let same : x ≡ answer_row later person id number token answer t verdict = same_row person is verdict in
          let can_add : CanAddAnswer world x = subst (λ (k : Change). CanMake k world) c can in (
            (
              person,
              is,
              (
                round,
                entry,
                puzzle,
                verdict,
                at,
                place,
                kept,
                judged,
                (
                  told ∙ ap (λ (r : AnswerRow). reply.Submit r.n (told_verdict round verdict)) same,
                  ap (λ (k : Change). changed k later) c
                      ∙ ap (λ (r : AnswerRow). record later { answers = insert later.answers r.key r }) same,
                ),
              ),
            ),
            subst (λ (k : Change). CanMake k later) (sym c) (can_later person is x refl can_add),
          )

-- ---- all of it
module _ (world : World) (t : ℕ) (key : Option (List ℕ)) (id : List ℕ) (number : ℕ) (token answer : List ℕ) (plan : Plan)
    (row : AnswerRow) (can : CanAddAnswer world row)
    (apart : (person : Person) → caller_of world key ≡ Some person → row.key.entrant ≢ person.name) where
  abbrev request : Request
  request = submission key id number token answer

  abbrev after : World
  after = later world row can.fresh

  abbrev who : Option Person
  who = caller_of world key

  answers_at : (caller : Option Person) → caller ≡ who → (d : Decision) → (found : PuzzleState)
      → First after who (request.action) t d → Decided d after who request.action t found (planned_reply plan)
      (changed (planned_change plan) after)
      → First after caller (request.action) t d × Decided d after caller request.action t found (planned_reply plan)
      (changed (planned_change plan) after)
  answers_at caller is d found first done = (
    subst (λ (c : Option Person). First after c request.action t d) (sym is) first,
    subst (λ (c : Option Person). Decided d after c request.action t found (planned_reply plan)
        (changed (planned_change plan) after)) (sym is) done,
  )

  callers : caller_of after key ≡ who
  callers = sym (same_callers world after refl key)

  stands_at : (d : Decision) (found : PuzzleState) → First world who request.action t d
      → Decided d world who request.action t found (planned_reply plan) (changed (planned_change plan) world)
      → CanMake (planned_change plan) world → (d ≢ Allow → planned_change plan ≡ change.Nothing)
      → (d ≡ Allow → IsChangeOf (planned_change plan) request.action)
      → First after (caller_of after key) request.action t d
      × Decided d after (caller_of after key) request.action t found (planned_reply plan)
      (changed (planned_change plan) after)
      × CanMake (planned_change plan) after
  stands_at Allow found is_first done can_make quiet made =
      let it = allowed_later world row can.fresh who apart t id number token answer found plan is_first can_make (made refl)
      done in
      let at = answers_at (caller_of after key) callers Allow found (first world row can.fresh who apart t id number token answer Allow is_first) it.0 in
      (at.0, at.1, it.1)
  stands_at (Deny k) found is_first done can_make quiet made =
      let nothing : planned_change plan ≡ change.Nothing = quiet (λ e. let no : Deny k ≡ Allow = e in cc) in
      let at = answers_at (caller_of after key) callers (Deny k) found
      (first world row can.fresh who apart t id number token answer (Deny k) is_first)
      (decided_quiet world row can.fresh who apart t id number token answer found plan (Deny k)
      (λ e. let no : Deny k ≡ Allow = e in cc) nothing done) in
      (at.0, at.1, subst (λ (c : Change). CanMake c after) (sym nothing) tt)
  stands_at Repeat found is_first done can_make quiet made =
      let nothing : planned_change plan ≡ change.Nothing = quiet (λ e. let no : Repeat ≡ Allow = e in cc) in
      let at = answers_at (caller_of after key) callers Repeat found
      (first world row can.fresh who apart t id number token answer Repeat is_first)
      (decided_quiet world row can.fresh who apart t id number token answer found plan Repeat
      (λ e. let no : Repeat ≡ Allow = e in cc) nothing done) in
      (at.0, at.1, subst (λ (c : Change). CanMake c after) (sym nothing) tt)

pub plans_stand_beside : PlansStandBeside
plans_stand_beside world t key id number token answer plan row can apart is =
    let it = stands_at world t key id number token answer plan row can apart is.answered.1.0 is.answered.0
    is.answered.1.1 is.answered.1.2 is.can (λ other. is.quiet (inl other)) (λ allowed. (is.made allowed).0) in
    record {
      answered = (is.answered.0, (is.answered.1.0, it.0, it.1));
      can = it.2;
      quiet = is.quiet;
      made = λ allowed. ((is.made allowed).0, tt);
    }
