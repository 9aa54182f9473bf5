-- Two worlds that are alike in what is kept stay so after a request that both make.
use Rattle.std.proofs.Common.{◌≡◌, ◌+◌, inl, inr, if◌then◌else◌, ℕ, Bool, true, false, List, Option, Some, refl, sym}
use Rattle.std.proofs.Common.{ap, ◌∙◌, subst}
use Rattle.std.specs.Option.{option_map}
use Rattle.std.specs.FinMap.{FinMap, get, insert}
use Rattle.std.proofs.lemmas.Bool.{false≢true}
use Rattle.hall_grid.specs.Board.{Board}
use Rattle.hall_policy.specs.Text.{text_cmp}
use Rattle.hall_policy.specs.World.{World, puzzle_cmp, answer_cmp, protest_cmp, protest_of}
use Rattle.hall_policy.specs.Ranges.{IsWorld}
use Rattle.hall_policy.specs.Rules.{answers_given}
use Rattle.hall_policy.specs.First.{First}
use Rattle.hall_policy.specs.declared.record.Person.{Person}
use Rattle.hall_policy.specs.declared.record.PuzzleKey.{PuzzleKey}
use Rattle.hall_policy.specs.declared.record.PuzzleRow.{PuzzleRow}
use Rattle.hall_policy.specs.declared.record.PuzzleState.{PuzzleState}
use Rattle.hall_policy.specs.declared.record.Round.{Round}
use Rattle.hall_policy.specs.declared.record.Entry.{Entry}
use Rattle.hall_policy.specs.declared.record.AnswerKey.{AnswerKey}
use Rattle.hall_policy.specs.declared.record.AnswerRow.{AnswerRow}
use Rattle.hall_policy.specs.declared.record.ProtestKey.{ProtestKey}
use Rattle.hall_policy.specs.declared.record.ProtestRow.{ProtestRow}
use Rattle.hall_policy.specs.declared.record.Ruling.{Ruling}
use Rattle.hall_policy.specs.declared.request.Action.{Action}
use Rattle.hall_policy.specs.declared.request.Action.TheVariants as action
use Rattle.hall_policy.specs.declared.rule.Decision.{Decision}
use Rattle.hall_policy.specs.declared.rule.Decision.TheVariants.{Allow, Repeat, Deny}
use Rattle.hall_policy.proofs.Orders.{answer_total, same_answer_keys, protest_total, same_protest_keys}
use Rattle.hall_store.proofs.Inserts.{keys_apart, inserted_there}
use Rattle.hall_policy.proofs.Maps.{get-insert_other}
use Rattle.hall_desk.specs.Judged.{IsVerdictOn}
use Rattle.hall_desk.specs.Step.{Allowed, Decided, answer_row, open_protest, is_open}
use Rattle.hall_policy.specs.OwnAlike.{seen, as_is, exchanged, OwnAlike}
use Rattle.hall_desk.specs.Alike.{AlikeFor}
use Rattle.hall_desk.specs.declared.reply.Reply.{Reply}
use Rattle.hall_policy.proofs.DecidingAlike.{one_caller, given_alike, Needs, same_decision}
use Rattle.hall_desk.proofs.VerdictOnce.{one_verdict_on}
use Rattle.hall_desk.proofs.Shows.{one_row}

-- what the rules read of others: the protest that is ruled is the same, and so are the protests where one publishes
abbrev pub Agrees : World → World → Action → Type 0
Agrees world other (action.RuleProtest id entrant token ruling) = protest_of world entrant id token ≡ protest_of other
    entrant id token
Agrees world other (action.Publish id) = world.protests ≡ other.protests
Agrees world other _ = Unit {0}

module _ (ex : List ℕ → List ℕ → List ℕ) (hidden : List ℕ → Bool)
    (apart : (id a b : List ℕ) → ex id a ≡ ex id b → a ≡ b)
    (plain : (id : List ℕ) → hidden id ≡ false → (a : List ℕ) → ex id a ≡ a) (Kept : List ℕ → List ℕ → Type 0)
    (world : World) (answers : FinMap answer_cmp AnswerRow) (protests : FinMap protest_cmp ProtestRow)
    (typed : IsWorld world) (retyped : IsWorld (record world
    { puzzles = world.puzzles; answers = answers; protests = protests })) where
  abbrev pub beside : World
  beside = record world { puzzles = world.puzzles; answers = answers; protests = protests }

  module _ (alike : AlikeFor ex hidden Kept world beside) (caller : Option Person)
      (kept : (person : Person) → caller ≡ Some person → (round : List ℕ) → Kept person.name round) (t : ℕ) where
    own_alike : (person : Person) → caller ≡ Some person → OwnAlike ex hidden person world beside
    own_alike person is = record {
      answers = λ key own. alike.answers key (subst (λ (name : List ℕ). Kept name key.round) (sym own)
          (kept person is key.round));
      protests = λ key own. alike.protests key (subst (λ (name : List ℕ). Kept name key.round) (sym own)
          (kept person is key.round));
    }

    -- what changes beside answers and protests changes alike
    others_change : (new : World) (changed : World) → new.people ≡ changed.people → new.puzzles ≡ changed.puzzles
        → new.rounds ≡ changed.rounds → new.places ≡ changed.places → new.testers ≡ changed.testers →
        new.answers ≡ world.answers → changed.answers ≡ answers → new.protests ≡ world.protests
        → changed.protests ≡ protests → AlikeFor ex hidden Kept new changed
    others_change new changed people puzzles rounds places testers a b p q = record {
      people = people;
      puzzles = puzzles;
      rounds = rounds;
      places = places;
      testers = testers;
      answers = λ key k.
          ap (λ (m : FinMap answer_cmp AnswerRow). option_map (seen ex hidden) (get m key)) a ∙ alike.answers key k
          ∙ sym (ap (λ (m : FinMap answer_cmp AnswerRow). option_map (seen as_is hidden) (get m key)) b);
      protests = λ key k. ap (λ (m : FinMap protest_cmp ProtestRow). get m key) p ∙ alike.protests key k
          ∙ sym (ap (λ (m : FinMap protest_cmp ProtestRow). get m key) q);
    }

    unchanged : (new changed : World) → new ≡ world → changed ≡ beside → AlikeFor ex hidden Kept new changed
    unchanged new changed first second = subst (λ (w : World). AlikeFor ex hidden Kept w changed) (sym first)
        (subst (λ (w : World). AlikeFor ex hidden Kept world w) (sym second) alike)

    -- a change that is told on both sides
    told_change : (new changed first second : World) → new ≡ first → changed ≡ second
        → AlikeFor ex hidden Kept first second → AlikeFor ex hidden Kept new changed
    told_change new changed first second p q h = subst (λ (w : World). AlikeFor ex hidden Kept w changed) (sym p)
        (subst (λ (w : World). AlikeFor ex hidden Kept first w) (sym q) h)

    puzzles_change : (new changed : World) (m n : FinMap puzzle_cmp PuzzleRow) → m ≡ n
        → new ≡ record world { puzzles = m } → changed ≡ record beside { puzzles = n }
        → AlikeFor ex hidden Kept new changed
    puzzles_change new changed m n same first second =
        told_change new changed (record world { puzzles = m }) (record beside { puzzles = n }) first second
        (others_change (record world { puzzles = m }) (record beside { puzzles = n }) refl same refl refl refl refl refl
        refl refl)

    rounds_change : (new changed : World) (m n : FinMap text_cmp Round) → m ≡ n → new ≡ record world { rounds = m }
        → changed ≡ record beside { rounds = n } → AlikeFor ex hidden Kept new changed
    rounds_change new changed m n same first second =
        told_change new changed (record world { rounds = m }) (record beside { rounds = n }) first second
        (others_change (record world { rounds = m }) (record beside { rounds = n }) refl refl same refl refl refl refl
        refl refl)

    put_alike : (key : PuzzleKey) (puzzle : Board) (found : PuzzleState) (given answered : Reply) (new changed : World)
        →
        Allowed world caller (action.PutPuzzle key puzzle) t found given new
        → Allowed beside caller (action.PutPuzzle key puzzle) t found answered changed
        → AlikeFor ex hidden Kept new changed
    put_alike key puzzle found given answered new changed (text, canonical, inl h) (text', canonical', inl k) =
        unchanged new changed h.4 k.4
    put_alike key puzzle found given answered new changed (text, canonical, inl h) (text', canonical', inr k) = absurd
        (k.0 h.0 h.1 h.2)
    put_alike key puzzle found given answered new changed (text, canonical, inr h) (text', canonical', inl k) = absurd
        (h.0 k.0 k.1 k.2)
    put_alike key puzzle found given answered new changed (text, canonical, inr h) (text', canonical', inr k) =
        puzzles_change new changed _ _ refl h.2 k.2

    certify_alike : (key : PuzzleKey) (budget : ℕ) (found : PuzzleState) (given answered : Reply) (new changed : World)
        →
        Allowed world caller (action.Certify key budget) t found given new
        → Allowed beside caller (action.Certify key budget) t found answered changed
        → AlikeFor ex hidden Kept new changed
    certify_alike key budget found given answered new changed (row, at, inl h) (row', at', inl k) =
        let one : row ≡ row' = one_row (get world.puzzles key) row row' at at' in
        puzzles_change new changed _ _ (ap (λ (r : PuzzleRow). insert world.puzzles key (record r { state = found }))
        one) h.stored k.stored
    certify_alike key budget found given answered new changed (row, at, inl h) (row', at', inr k) =
        let one : row ≡ row' = one_row (get world.puzzles key) row row' at at' in
        absurd (false≢true (sym k.settled ∙ ap (λ (r : PuzzleRow). is_open r.state) (sym one) ∙ h.unsettled))
    certify_alike key budget found given answered new changed (row, at, inr h) (row', at', inl k) =
        let one : row ≡ row' = one_row (get world.puzzles key) row row' at at' in
        absurd (false≢true (sym h.settled ∙ ap (λ (r : PuzzleRow). is_open r.state) one ∙ k.unsettled))
    certify_alike key budget found given answered new changed (row, at, inr h) (row', at', inr k) = unchanged new
        changed h.same k.same

    answers_change : (new changed : World) (key : AnswerKey) (row row' : AnswerRow)
        → seen ex hidden row ≡ seen as_is hidden row' →
        new ≡ record world { answers = insert world.answers key row }
        → changed ≡ record beside { answers = insert answers key row' } → AlikeFor ex hidden Kept new changed
    answers_change new changed key row row' same first second =
        told_change new changed (record world { answers = insert world.answers key row })
        (record beside { answers = insert answers key row' }) first second (record {
          people = refl;
          puzzles = refl;
          rounds = refl;
          places = refl;
          testers = refl;
          answers = λ q k. elim (keys_apart answer_total same_answer_keys q key) [
            | inl own ↦
                ap (option_map (seen ex hidden)) (inserted_there answer_total same_answer_keys world.answers key row q
                own) ∙ ap Some same
                ∙ sym (ap (option_map (seen as_is hidden)) (inserted_there answer_total same_answer_keys answers key
                row' q own))
            | inr other ↦
                ap (option_map (seen ex hidden)) (get-insert_other answer_total same_answer_keys world.answers key row q
                other) ∙ alike.answers q k
                ∙ sym (ap (option_map (seen as_is hidden)) (get-insert_other answer_total same_answer_keys answers key
                row' q other))
          ];
          protests = alike.protests;
        })

    protests_change : (new changed : World) (key : ProtestKey) (row : ProtestRow) →
        new ≡ record world { protests = insert world.protests key row }
        → changed ≡ record beside { protests = insert protests key row } → AlikeFor ex hidden Kept new changed
    protests_change new changed key row first second =
        told_change new changed (record world { protests = insert world.protests key row })
        (record beside { protests = insert protests key row }) first second (record {
          people = refl;
          puzzles = refl;
          rounds = refl;
          places = refl;
          testers = refl;
          answers = alike.answers;
          protests = λ q k. elim (keys_apart protest_total same_protest_keys q key) [
            | inl own ↦ inserted_there protest_total same_protest_keys world.protests key row q own
                ∙ sym (inserted_there protest_total same_protest_keys protests key row q own)
            | inr other ↦ get-insert_other protest_total same_protest_keys world.protests key row q other
                ∙ alike.protests q k ∙ sym (get-insert_other protest_total same_protest_keys protests key row q other)
          ];
        })

    submit_alike : (id : List ℕ) (number : ℕ) (token answer : List ℕ) (found : PuzzleState) (given answered : Reply)
        (new changed : World) →
        Allowed world caller (action.Submit id number token answer) t found given new →
        Allowed beside caller (action.Submit id number token (ex id answer)) t found answered changed
        → AlikeFor ex hidden Kept new changed
    submit_alike id number token answer found given answered new changed
        (person, is, (round, entry, puzzle, verdict, at, place, grid, judged, (told, made)))
        (person', is', (round', entry', puzzle', verdict', at', place', grid', judged', (told', made'))) =
        let one : person' ≡ person = one_caller caller person person' is is' in
        let same_entry : entry' ≡ entry = one_row (get world.places (record { round = id; number = number })) entry'
        entry place' place in
        let same_puzzle : puzzle' ≡ puzzle = one_row (get world.puzzles entry.puzzle) puzzle' puzzle
        (ap (λ (x : Entry). get world.puzzles x.puzzle) (sym same_entry) ∙ grid') grid in
        let n : answers_given world person.name id number ≡ answers_given beside person.name id number = given_alike ex
        hidden apart world world.puzzles answers protests typed retyped person (own_alike person is) id number in
        let verdicts : (if hidden id then 0 else verdict) ≡ (if hidden id then 0 else verdict') =
        elim (hidden id) as (λ b. hidden id ≡ b → (if b then 0 else verdict) ≡ (if b then 0 else verdict')) [
          | true ↦ λ h. refl
          | false ↦ λ plainly. one_verdict_on puzzle answer verdict verdict' judged
              (subst (λ (text : List ℕ). IsVerdictOn puzzle text verdict') (plain id plainly answer)
              (subst (λ (p : PuzzleRow). IsVerdictOn p (ex id answer) verdict') same_puzzle judged'))
        ] refl in
        let key : AnswerKey = record { entrant = person.name; round = id; number = number; token = token } in
        let row : AnswerRow = answer_row world person id number token answer t verdict in
        let row' : AnswerRow = answer_row beside person id number token (ex id answer) t verdict' in
        let same : seen ex hidden row ≡ seen as_is hidden row' = λ i.
        record { key = key; n = n i + 1; moment = t; answer = ex id answer; verdict = verdicts i } in
        let made_too : changed ≡ record beside { answers = insert answers key row' } =
        made' ∙ ap (λ (p : Person). record beside {
          answers = insert answers
              (answer_row beside p id number token (ex id answer) t verdict').key
              (answer_row beside p id number token (ex id answer) t verdict');
        }) one in
        answers_change new changed key row row' same made made_too

    protest_alike : (id token : List ℕ) (number : ℕ) (text : List ℕ) (found : PuzzleState) (given answered : Reply)
        (new changed : World) →
        Allowed world caller (action.Protest id token number text) t found given new
        → Allowed beside caller (action.Protest id token number text) t found answered changed
        → AlikeFor ex hidden Kept new changed
    protest_alike id token number text found given answered new changed (person, is, (told, made))
        (person', is', (told', made')) =
        let one : person' ≡ person = one_caller caller person person' is is' in
        let row : ProtestRow = open_protest person id token number text in
        protests_change new changed row.key row made
        (made' ∙ ap (λ (p : Person). record beside {
          protests = insert protests
              (open_protest p id token number text).key (open_protest p id token number text);
        }) one)

    rule_alike : (id entrant token : List ℕ) (ruling : Ruling) (found : PuzzleState) (given answered : Reply)
        (new changed : World) → protest_of world entrant id token ≡ protest_of beside entrant id token →
        Allowed world caller (action.RuleProtest id entrant token ruling) t found given new
        → Allowed beside caller (action.RuleProtest id entrant token ruling) t found answered changed
        → AlikeFor ex hidden Kept new changed
    rule_alike id entrant token ruling found given answered new changed same (row, at, told, made)
        (row', at', told', made') =
        let key : ProtestKey = record { entrant = entrant; round = id; token = token } in
        let one : row' ≡ row = one_row (get protests key) row' row at' (sym same ∙ at) in
        protests_change new changed key (record row { ruling = Some ruling }) made
        (made' ∙ ap (λ (r : ProtestRow). record beside {
          protests = insert protests key
              (record r { ruling = Some ruling });
        }) one)

    needed : (a : Action) → Agrees world beside a → Needs ex hidden apart world world.puzzles answers protests typed
        retyped a
    needed (action.PutPuzzle key puzzle) h = refl
    needed (action.ReadPuzzle key) h = refl
    needed (action.Certify key budget) h = refl
    needed (action.PutRound id sheet) h = refl
    needed (action.Release id) h = refl
    needed (action.RuleProtest id entrant token ruling) h = h
    needed (action.Publish id) h = h
    needed _ h = tt

    allowed_alike : (a : Action) → Agrees world beside a → (found : PuzzleState) (given answered : Reply)
        (new changed : World) →
        Allowed world caller a t found given new → Allowed beside caller (exchanged ex a) t found answered changed
        → AlikeFor ex hidden Kept new changed
    allowed_alike (action.Import people) h found given answered new changed (told, made) (told', made') =
        told_change new changed _ _ made made' (others_change _ _ refl refl refl refl refl refl refl refl refl)
    allowed_alike (action.PutPuzzle key puzzle) h found given answered new changed p q = put_alike key puzzle found
        given answered new changed p q
    allowed_alike (action.ReadPuzzle key) h found given answered new changed p q = unchanged new changed p.1 q.1
    allowed_alike action.ListPuzzles h found given answered new changed p q = unchanged new changed p.2.1 q.2.1
    allowed_alike (action.Certify key budget) h found given answered new changed p q = certify_alike key budget found
        given answered new changed p q
    allowed_alike (action.PutRound id sheet) h found given answered new changed (told, made) (told', made') =
        told_change new changed _ _ made made' (others_change _ _ refl refl refl refl refl refl refl refl refl)
    allowed_alike (action.Release id) h found given answered new changed (round, at, told, made)
        (round', at', told', made') =
        let one : round ≡ round' = one_row (get world.rounds id) round round' at at' in
        rounds_change new changed _ _ (ap (λ (r : Round). insert world.rounds id (record r { released = true })) one)
        made made'
    allowed_alike action.ListRounds h found given answered new changed p q = unchanged new changed p.2.1 q.2.1
    allowed_alike (action.ReadRound id) h found given answered new changed p q = unchanged new changed p.1 q.1
    allowed_alike (action.Submit id number token answer) h found given answered new changed p q = submit_alike id number
        token answer found given answered new changed p q
    allowed_alike (action.Answers id) h found given answered new changed p q = unchanged new changed p.2.1 q.2.1
    allowed_alike (action.Solutions id) h found given answered new changed p q = unchanged new changed p.1 q.1
    allowed_alike (action.Protest id token number text) h found given answered new changed p q = protest_alike id token
        number text found given answered new changed p q
    allowed_alike (action.Protests id) h found given answered new changed p q = unchanged new changed p.2.1 q.2.1
    allowed_alike (action.RuleProtest id entrant token ruling) h found given answered new changed p q = rule_alike id
        entrant token ruling found given answered new changed h p q
    allowed_alike (action.Publish id) h found given answered new changed (round, at, told, made)
        (round', at', told', made') =
        let one : round ≡ round' = one_row (get world.rounds id) round round' at at' in
        rounds_change new changed _ _ (ap (λ (r : Round). insert world.rounds id (record r { published = true })) one)
        made made'
    allowed_alike (action.Table id) h found given answered new changed p q = unchanged new changed p.1 q.1

    decided_on : (a : Action) → Agrees world beside a → (d : Decision) (found : PuzzleState) (given answered : Reply)
        (new changed : World) →
        Decided d world caller a t found given new → Decided d beside caller (exchanged ex a) t found answered changed
        → AlikeFor ex hidden Kept new changed
    decided_on a h (Deny k) found given answered new changed p q = unchanged new changed p.1 q.1
    decided_on a h Repeat found given answered new changed p q = unchanged new changed p.1 q.1
    decided_on a h Allow found given answered new changed p q = allowed_alike a h found given answered new changed p q

    -- both worlds stay alike
    pub stay_alike : (a : Action) → Agrees world beside a → (d f : Decision) (found : PuzzleState)
        (given answered : Reply) (new changed : World) →
        First world caller a t d → Decided d world caller a t found given new → First beside caller (exchanged ex a) t f
        → Decided f beside caller (exchanged ex a) t found answered changed →
        AlikeFor ex hidden Kept new changed
    stay_alike a h d f found given answered new changed first p second q =
        let same : d ≡ f = same_decision ex hidden apart world world.puzzles answers protests typed retyped caller
        own_alike t a (needed a h) d f first second in
        decided_on a h d found given answered new changed p (subst
        (λ (x : Decision). Decided x beside caller (exchanged ex a) t found answered changed) (sym same) q)

-- a world with the answers and protests of another one that is alike
pub alike_world : (ex : List ℕ → List ℕ → List ℕ) (hidden : List ℕ → Bool) (Kept : List ℕ → List ℕ → Type 0)
    (world other : World) → AlikeFor ex hidden Kept world other →
    record world { puzzles = world.puzzles; answers = other.answers; protests = other.protests } ≡ other
alike_world ex hidden Kept world other alike =
    let people : world.people ≡ other.people = alike.people in
    let puzzles : world.puzzles ≡ other.puzzles = alike.puzzles in
    let rounds : world.rounds ≡ other.rounds = alike.rounds in
    let places : world.places ≡ other.places = alike.places in
    let testers : world.testers ≡ other.testers = alike.testers in
    λ i. record {
      people = people i;
      puzzles = puzzles i;
      rounds = rounds i;
      places = places i;
      testers = testers i;
      answers = other.answers;
      protests = other.protests;
    }

-- two worlds that are alike stay so
pub both_stay : (ex : List ℕ → List ℕ → List ℕ) (hidden : List ℕ → Bool)
    → ((id a b : List ℕ) → ex id a ≡ ex id b → a ≡ b) → ((id : List ℕ) → hidden id ≡ false → (a : List ℕ) → ex id a ≡ a)
    →
    (Kept : List ℕ → List ℕ → Type 0) (world other : World) → IsWorld world → IsWorld other
    → AlikeFor ex hidden Kept world other → (caller also : Option Person) → also ≡ caller →
    ((person : Person) → caller ≡ Some person → (round : List ℕ) → Kept person.name round) → (t : ℕ) (a : Action)
    → Agrees world other a →
    (d f : Decision) (found : PuzzleState) (given answered : Reply) (new changed : World) →
    First world caller a t d → Decided d world caller a t found given new → First other also (exchanged ex a) t f
    → Decided f other also (exchanged ex a) t found answered changed →
    AlikeFor ex hidden Kept new changed
both_stay ex hidden apart plain Kept world other typed retyped alike caller also same kept t a agrees d f found given
    answered new changed first p second q =
    let Claim : World → Option Person → Type 0 = λ w c.
    IsWorld w → AlikeFor ex hidden Kept world w → Agrees world w a → First w c (exchanged ex a) t f
    → Decided f w c (exchanged ex a) t found answered changed → AlikeFor ex hidden Kept new changed in
    let base : Claim (record world { puzzles = world.puzzles; answers = other.answers; protests = other.protests })
    caller = λ right h agree last done.
    stay_alike ex hidden apart plain Kept world other.answers other.protests typed right h caller kept t a agree d f
    found given answered new changed first p last done in
    let moved : Claim other caller = subst (λ (w : World). Claim w caller)
    (alike_world ex hidden Kept world other alike) base in
    let of_caller : Claim other also = subst (λ (c : Option Person). Claim other c) (sym same) moved in
    of_caller retyped alike agrees second q
