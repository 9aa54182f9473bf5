-- Each row of a world came by a request of who may bring it, or stood at the start.
use Rattle.std.proofs.Common.{◌≡◌, ◌≢◌, ◌⊎◌, ◌↔◌, ◌<◌, ◌≤◌, inl, inr, ℕ, zero, suc, Bool, true, false, List, ◌∷◌}
use Rattle.std.proofs.Common.{Option, Some, None, Contains, refl, sym, ap, ◌∙◌, subst, arith, lit<}
use Rattle.std.specs.FinMap.{FinMap, get}
use Rattle.std.proofs.lemmas.Bool.{cases_order}
use Rattle.hall_grid.specs.Board.{Board}
use Rattle.hall_policy.specs.World.{World, place_of, entry_at, IsTesterOf, end_of, close_of, place_cmp, tester_cmp}
use Rattle.hall_policy.specs.World.{puzzle_cmp, answer_cmp, protest_cmp}
use Rattle.hall_policy.specs.Text.{text_cmp}
use Rattle.hall_policy.specs.Actions.{rules_asked}
use Rattle.hall_policy.specs.First.{NoneDecides}
use Rattle.hall_policy.specs.declared.rule.Decision.TheVariants.{Allow, Repeat, Deny}
use Rattle.hall_policy.specs.declared.rule.Rule.TheVariants as rule
use Rattle.hall_policy.specs.declared.record.AnswerKey.{AnswerKey}
use Rattle.hall_policy.specs.declared.record.AnswerRow.{AnswerRow}
use Rattle.hall_policy.specs.declared.record.Entry.{Entry}
use Rattle.hall_policy.specs.declared.record.Person.{Person}
use Rattle.hall_policy.specs.declared.record.ProtestKey.{ProtestKey}
use Rattle.hall_policy.specs.declared.record.ProtestRow.{ProtestRow}
use Rattle.hall_policy.specs.declared.record.PuzzleKey.{PuzzleKey}
use Rattle.hall_policy.specs.declared.record.PuzzleRow.{PuzzleRow}
use Rattle.hall_policy.specs.declared.record.PuzzleState.{PuzzleState}
use Rattle.hall_policy.specs.declared.record.PuzzleState.TheVariants as state
use Rattle.hall_policy.specs.declared.record.Round.{Round}
use Rattle.hall_policy.specs.declared.record.Ruling.{Ruling}
use Rattle.hall_policy.specs.declared.request.Action.{Action}
use Rattle.hall_policy.specs.declared.request.Action.TheVariants as action
use Rattle.hall_policy.specs.declared.request.Request.{Request}
use Rattle.hall_policy.specs.declared.request.Sheet.{Sheet}
use Rattle.hall_policy.proofs.Orders.{text_total, same_texts, puzzle_total, same_puzzle_keys, answer_total}
use Rattle.hall_policy.proofs.Orders.{same_answer_keys, protest_total, same_protest_keys}
use Rattle.hall_store.specs.Caller.{caller_of}
use Rattle.hall_store.specs.Change.{relisted, retested}
use Rattle.hall_store.proofs.Changes.{with_people-found}
use Rattle.hall_store.proofs.Tests.{later as later_in}
use Rattle.hall_store.proofs.Inserts.{found_after, inserted_there}
use Rattle.hall_desk.specs.Lookups.{IsReleasedRound}
use Rattle.hall_desk.specs.Shown.{state_name}
use Rattle.hall_desk.specs.Step.{Step, new_row, draft_of, answer_row, open_protest}
use Rattle.hall_desk.specs.History.{Event, requested, seeded, Happens, History}
use Rattle.hall_desk.specs.Records.{KeptRecords}
use Rattle.hall_desk.specs.Authorship.{IsAdmitted, HadPuzzle, IsPut, HadState, NoneIsPut, IsSearchedFor, IsFromSheet}
use Rattle.hall_desk.specs.Authorship.{HadRound, IsDrafted, IsPublishedRound, IsFlagged, IsHandedIn, HadProtest}
use Rattle.hall_desk.specs.Authorship.{TakesProtests, IsProtested, HadRuling, IsRuledSo, RowsAreAuthored}
use Rattle.hall_desk.specs.declared.reply.Reply.{Reply}
use Rattle.hall_desk.specs.declared.reply.Reply.TheVariants as reply
use Rattle.hall_desk.specs.declared.reply.StateName.TheVariants as name
use Rattle.hall_desk.proofs.DraftSane.{relisted_own, relisted_other, retested_own, retested_other}
use Rattle.hall_desk.proofs.Releases.{released_found}
use Rattle.hall_desk.proofs.Remaining.{records_stay}
use Rattle.hall_desk.proofs.RepliesAlike.{le_unless}
use Rattle.hall_desk.proofs.Touching.{Flags, Touches, Changes, happened}
use Rattle.hall_desk.proofs.Bringing.{carried, brought, asked_more, asked_first, allowed_person, known_person, writer}

-- ---- answers
answer_came : (later : World) (key : AnswerKey) (row : AnswerRow) (world next : World) (event : Event)
    (rest : List Event) → History world (event ∷ rest) later → Changes world event next →
    get next.answers key ≡ Some row → (get world.answers key ≡ Some row) ⊎ IsHandedIn world later (event ∷ rest) key row
answer_came later key row world next (seeded people given) rest life (count, told, made) at = inl
    (ap (λ (w : World). get w.answers key) (sym made) ∙ at)
answer_came later key row world next (requested t request given) rest life (none, touches) at = elim touches.answers [
  | inl same ↦ inl (ap (λ (m : FinMap answer_cmp AnswerRow). get m key) (sym same) ∙ at)
  | inr h ↦
      let own : AnswerKey = record { entrant = h.person.name; round = h.id; number = h.number; token = h.token } in
      let stored : AnswerRow = answer_row world h.person h.id h.number h.token h.answer t h.verdict in
      let asked : Action = action.Submit h.id h.number h.token h.answer in
      let none_for : NoneDecides world (caller_of world request.key) asked t = subst
      (λ (a : Action). NoneDecides world (caller_of world request.key) a t) h.asks none in
      elim (found_after answer_total same_answer_keys world.answers own stored key row
      (ap (λ (m : FinMap answer_cmp AnswerRow). get m key) (sym h.made) ∙ at)) [
        | inl both ↦
            let mine : IsHandedIn world later (requested t request given ∷ rest) own stored = (
              h.person,
              h.shown,
              refl,
              asked_first world later t request given (reply.Submit stored.n h.shown) rest life h.person asked h.asks
                  h.told h.is
                  (allowed_person world (caller_of world request.key) asked t none_for h.person (1, lit< tt, refl)
                  h.is),
            ) in
            inr (subst (λ (k : AnswerKey). IsHandedIn world later (requested t request given ∷ rest) k row) (sym both.0)
            (subst (λ (r : AnswerRow). IsHandedIn world later (requested t request given ∷ rest) own r) (sym both.1)
            mine))
        | inr other ↦ inl other.1
      ]
]

answers_authored : (world later : World) (events : List Event) → History world events later
    → (key : AnswerKey) (row : AnswerRow) → get later.answers key ≡ Some row →
    (get world.answers key ≡ Some row) ⊎ IsHandedIn world later events key row
answers_authored world later events life key row at = brought later (λ w. get w.answers key ≡ Some row)
    (λ w list. IsHandedIn w later list key row)
    (λ world next event rest happens (person, told, own, h).
    (person, told, own, asked_more world next later event rest happens person row.moment _ _ h))
    (answer_came later key row) events world life at

-- ---- protests
pub lt_unless : (a b : ℕ) → ¬ (b ≤ a) → a < b
lt_unless a b h = elim (cases_order a b) [
  | inl e ↦ absurd (h (omega (arith, e)))
  | inr (inl lt) ↦ lt
  | inr (inr gt) ↦ absurd (h (omega (arith, gt)))
]

-- a round's times are told by its head alone
pub same_times : (round after : Round) → after ≡ record round { published = after.published }
    → (round.start ≡ after.start) × (end_of round ≡ end_of after) × (close_of round ≡ close_of after)
same_times round after same = (sym (ap (λ (r : Round). r.start) same), sym (ap end_of same), sym (ap close_of same))

-- where a protest is taken, the round is released, over and not closed, and it stays so
takes : (world later : World) (caller : Option Person) (id token : List ℕ) (number : ℕ) (text : List ℕ) (t : ℕ)
    → NoneDecides world caller (action.Protest id token number text) t →
    KeptRecords world later → TakesProtests later id t
takes world later caller id token number text t none remains =
    let (round, kept, released) = released_found world caller (action.Protest id token number text) id refl
    (λ missing. (none rule.Missing (lit< tt)).0 ((2, lit< tt, refl), inl missing)) in
    let over : end_of round ≤ t = le_unless (end_of round) t
    (λ early. (none rule.NotEnded (lit< tt)).0 ((5, lit< tt, refl), (id, round, refl, kept, early))) in
    let before : t < close_of round = lt_unless t (close_of round)
    (λ late. (none rule.Closed (lit< tt)).0 ((6, lit< tt, refl), (id, round, refl, kept, late))) in
    let stays = remains.rounds id round kept released in
    let times = same_times round stays.after stays.same in
    (stays.after, stays.found, subst (λ (n : ℕ). n ≤ t) times.1 over, subst (λ (n : ℕ). t < n) times.2 before)

protest_came : (later : World) (key : ProtestKey) (row : ProtestRow) (world next : World) (event : Event)
    (rest : List Event) → History world (event ∷ rest) later → Changes world event next →
    HadProtest next key row → HadProtest world key row ⊎ IsProtested world later (event ∷ rest) key row
protest_came later key row world next (seeded people given) rest life (count, told, made) (before, at, like) =
    inl (before, ap (λ (w : World). get w.protests key) (sym made) ∙ at, like)
protest_came later key row world next (requested t request given) rest life (none, touches) (before, at, like) =
    elim touches.protests [
      | inl same ↦ inl (before, ap (λ (m : FinMap protest_cmp ProtestRow). get m key) (sym same) ∙ at, like)
      | inr (inl h) ↦
          let own : ProtestKey = record { entrant = h.person.name; round = h.id; token = h.token } in
          let stored : ProtestRow = open_protest h.person h.id h.token h.number h.text in
          let asked : Action = action.Protest h.id h.token h.number h.text in
          let none_for : NoneDecides world (caller_of world request.key) asked t = subst
          (λ (a : Action). NoneDecides world (caller_of world request.key) a t) h.asks none in
          elim (found_after protest_total same_protest_keys world.protests own stored key before
          (ap (λ (m : FinMap protest_cmp ProtestRow). get m key) (sym h.made) ∙ at)) [
            | inl both ↦
                let of_stored : row ≡ record stored { ruling = row.ruling } = like
                ∙ ap (λ (r : ProtestRow). let ruled : ProtestRow = record r { ruling = row.ruling } in ruled) both.1 in
                let mine : IsProtested world later (requested t request given ∷ rest) own
                (record stored { ruling = row.ruling }) = (
                  h.person,
                  t,
                  refl,
                  takes world later (caller_of world request.key) h.id h.token h.number h.text t none_for
                      (records_stay world later (requested t request given ∷ rest) life),
                  asked_first world later t request given (reply.Protest h.token) rest life h.person asked h.asks h.told
                      h.is
                      (allowed_person world (caller_of world request.key) asked t none_for h.person (1, lit< tt, refl)
                      h.is),
                ) in
                inr (subst (λ (k : ProtestKey). IsProtested world later (requested t request given ∷ rest) k row)
                (sym both.0)
                (subst (λ (r : ProtestRow). IsProtested world later (requested t request given ∷ rest) own r)
                (sym of_stored) mine))
            | inr other ↦ inl (before, other.1, like)
          ]
      | inr (inr h) ↦
          let own : ProtestKey = record { entrant = h.entrant; round = h.id; token = h.token } in
          elim (found_after protest_total same_protest_keys world.protests own (record h.row { ruling = Some h.ruling })
          key
          before (ap (λ (m : FinMap protest_cmp ProtestRow). get m key) (sym h.made) ∙ at)) [
            | inl both ↦ inl (
              h.row,
              ap (get world.protests) both.0 ∙ h.kept,
              like
                  ∙ ap (λ (r : ProtestRow). let ruled : ProtestRow = record r { ruling = row.ruling } in ruled) both.1,
            )
            | inr other ↦ inl (before, other.1, like)
          ]
    ]

protests_authored : (world later : World) (events : List Event) → History world events later
    → (key : ProtestKey) (row : ProtestRow) → get later.protests key ≡ Some row →
    HadProtest world key row ⊎ IsProtested world later events key row
protests_authored world later events life key row at = brought later (λ w. HadProtest w key row)
    (λ w list. IsProtested w later list key row)
    (λ world next event rest happens (person, t, own, open_then, h).
    (person, t, own, open_then, asked_more world next later event rest happens person t _ _ h))
    (protest_came later key row) events world life (row, at, refl)

-- ---- rulings
ruling_came : (later : World) (key : ProtestKey) (ruling : Ruling) (world next : World) (event : Event)
    (rest : List Event) → History world (event ∷ rest) later → Changes world event next →
    HadRuling next key ruling → HadRuling world key ruling ⊎ IsRuledSo world later (event ∷ rest) key ruling
ruling_came later key ruling world next (seeded people given) rest life (count, told, made) (before, at, ruled) =
    inl (before, ap (λ (w : World). get w.protests key) (sym made) ∙ at, ruled)
ruling_came later key ruling world next (requested t request given) rest life (none, touches) (before, at, ruled) =
    elim touches.protests [
      | inl same ↦ inl (before, ap (λ (m : FinMap protest_cmp ProtestRow). get m key) (sym same) ∙ at, ruled)
      | inr (inl h) ↦
          elim (found_after protest_total same_protest_keys world.protests
          (record { entrant = h.person.name; round = h.id; token = h.token })
          (open_protest h.person h.id h.token h.number h.text) key before
          (ap (λ (m : FinMap protest_cmp ProtestRow). get m key) (sym h.made) ∙ at)) [
            | inl both ↦ absurd (let no : None ≡ Some ruling = sym (ap (λ (r : ProtestRow). r.ruling) both.1)
                ∙ ruled in cc)
            | inr other ↦ inl (before, other.1, ruled)
          ]
      | inr (inr h) ↦
          let own : ProtestKey = record { entrant = h.entrant; round = h.id; token = h.token } in
          let asked : Action = action.RuleProtest h.id h.entrant h.token h.ruling in
          let none_for : NoneDecides world (caller_of world request.key) asked t = subst
          (λ (a : Action). NoneDecides world (caller_of world request.key) a t) h.asks none in
          elim (found_after protest_total same_protest_keys world.protests own (record h.row { ruling = Some h.ruling })
          key
          before (ap (λ (m : FinMap protest_cmp ProtestRow). get m key) (sym h.made) ∙ at)) [
            | inl both ↦
                let given_so : Some h.ruling ≡ Some ruling = sym (ap (λ (r : ProtestRow). r.ruling) both.1) ∙ ruled in
                let one : h.ruling ≡ ruling = cc in
                let (person, is, allowed) = known_person world (caller_of world request.key) asked t none_for
                (0, lit< tt, refl) (1, lit< tt, refl) in
                let mine : IsRuledSo world later (requested t request given ∷ rest) own h.ruling = (
                  person,
                  t,
                  (λ same. (none_for rule.Involved (lit< tt)).0 ((3, lit< tt, refl), (person, is, inr (sym same)))),
                  asked_first world later t request given (reply.RuleProtest h.ruling) rest life person asked h.asks
                      h.told
                      is allowed,
                ) in
                inr (subst (λ (k : ProtestKey). IsRuledSo world later (requested t request given ∷ rest) k ruling)
                (sym both.0)
                (subst (λ (r : Ruling). IsRuledSo world later (requested t request given ∷ rest) own r) one mine))
            | inr other ↦ inl (before, other.1, ruled)
          ]
    ]

rulings_authored : (world later : World) (events : List Event) → History world events later
    → (key : ProtestKey) (ruling : Ruling) → HadRuling later key ruling →
    HadRuling world key ruling ⊎ IsRuledSo world later events key ruling
rulings_authored world later events life key ruling at = brought later (λ w. HadRuling w key ruling)
    (λ w list. IsRuledSo w later list key ruling)
    (λ world next event rest happens (person, t, other, h). (
      person,
      t,
      other,
      asked_more world next later event rest
          happens person t _ _ h,
    ))
    (ruling_came later key ruling) events world life at

-- ---- puzzles
puzzle_came : (later : World) (key : PuzzleKey) (puzzle : Board) (world next : World) (event : Event)
    (rest : List Event) → History world (event ∷ rest) later → Changes world event next →
    HadPuzzle next key puzzle → HadPuzzle world key puzzle ⊎ IsPut world later (event ∷ rest) key puzzle
puzzle_came later key puzzle world next (seeded people given) rest life (count, told, made) (before, at, own) =
    inl (before, ap (λ (w : World). get w.puzzles key) (sym made) ∙ at, own)
puzzle_came later key puzzle world next (requested t request given) rest life (none, touches) (before, at, own) =
    elim touches.puzzles [
      | inl same ↦ inl (before, ap (λ (m : FinMap puzzle_cmp PuzzleRow). get m key) (sym same) ∙ at, own)
      | inr (inl h) ↦
          let asked : Action = action.PutPuzzle h.key h.puzzle in
          let none_for : NoneDecides world (caller_of world request.key) asked t = subst
          (λ (a : Action). NoneDecides world (caller_of world request.key) a t) h.asks none in
          elim (found_after puzzle_total same_puzzle_keys world.puzzles h.key (new_row h.key h.puzzle) key before
          (ap (λ (m : FinMap puzzle_cmp PuzzleRow). get m key) (sym h.made) ∙ at)) [
            | inl both ↦
                let one : h.puzzle ≡ puzzle = sym (ap (λ (r : PuzzleRow). r.puzzle) both.1) ∙ own in
                let (person, is, allowed) = known_person world (caller_of world request.key) asked t none_for
                (0, lit< tt, refl) (1, lit< tt, refl) in
                let mine : IsPut world later (requested t request given ∷ rest) h.key h.puzzle = (
                  person,
                  t,
                  h.text,
                  writer world (caller_of world request.key) asked t none_for person h.key (2, lit< tt, refl) is refl,
                  asked_first world later t request given (reply.PutPuzzle (state_name state.New) h.text) rest life
                      person
                      asked h.asks h.told is allowed,
                ) in
                inr (subst (λ (k : PuzzleKey). IsPut world later (requested t request given ∷ rest) k puzzle)
                (sym both.0)
                (subst (λ (b : Board). IsPut world later (requested t request given ∷ rest) h.key b) one mine))
            | inr other ↦ inl (before, other.1, own)
          ]
      | inr (inr h) ↦
          elim (found_after puzzle_total same_puzzle_keys world.puzzles h.key (record h.row { state = h.found }) key
          before
          (ap (λ (m : FinMap puzzle_cmp PuzzleRow). get m key) (sym h.made) ∙ at)) [
            | inl both ↦ inl (
              h.row,
              ap (get world.puzzles) both.0 ∙ h.kept,
              sym (ap (λ (r : PuzzleRow). r.puzzle) both.1)
                  ∙ own,
            )
            | inr other ↦ inl (before, other.1, own)
          ]
    ]

puzzles_authored : (world later : World) (events : List Event) → History world events later
    → (key : PuzzleKey) (puzzle : Board) → HadPuzzle later key puzzle →
    HadPuzzle world key puzzle ⊎ IsPut world later events key puzzle
puzzles_authored world later events life key puzzle at = brought later (λ w. HadPuzzle w key puzzle)
    (λ w list. IsPut w later list key puzzle)
    (λ world next event rest happens (person, t, text, may_write, h).
    (person, t, text, may_write, asked_more world next later event rest happens person t _ _ h))
    (puzzle_came later key puzzle) events world life at

-- only a new puzzle is told as new
told_new : (s : PuzzleState) → name.New ≡ state_name s → s ≡ state.New
told_new state.New same = refl
told_new (state.One solution) same = let none : name.New ≡ name.One = same in absurd (cc)
told_new state.NoSolution same = let none : name.New ≡ name.NoSolution = same in absurd (cc)
told_new state.More same = let none : name.New ≡ name.More = same in absurd (cc)
told_new state.GaveUp same = let none : name.New ≡ name.GaveUp = same in absurd (cc)

-- a puzzle that was put as a new one is new then
put_is_new : (world : World) (t : ℕ) (sender : Option (List ℕ)) (key : PuzzleKey) (puzzle : Board) (text : List ℕ)
    (next : World) →
    Step world t (record { key = sender; action = action.PutPuzzle key puzzle })
    (reply.PutPuzzle (state_name state.New) text) next →
    (row : PuzzleRow) × (get next.puzzles key ≡ Some row) × (row.state ≡ state.New)
put_is_new world t sender key puzzle text next (inl h) = let none : reply.PutPuzzle name.New text ≡ reply.Unavailable =
    h.0 in absurd (cc)
put_is_new world t sender key puzzle text next (inr (found, (Deny k, first, decided))) = let none : reply.PutPuzzle
    name.New text ≡ reply.Denied k = decided.0 in absurd (cc)
put_is_new world t sender key puzzle text next (inr (found, (Repeat, first, decided))) = absurd decided.0
put_is_new world t sender key puzzle text next (inr (
  found,
  (
    Allow,
    none,
    (canonical, is, inl (row, kept, same, told, made)),
  ),
)) =
    let names : reply.PutPuzzle name.New text ≡ reply.PutPuzzle (state_name row.state) canonical = told in
    (row, ap (λ (w : World). get w.puzzles key) made ∙ kept, told_new row.state (cc))
put_is_new world t sender key puzzle text next (inr (found, (Allow, none, (exact, is, inr (other, told, made))))) = (
  new_row key puzzle,
  ap (λ (w : World). get w.puzzles key) made ∙ inserted_there puzzle_total same_puzzle_keys
      world.puzzles key (new_row key puzzle) key refl,
  refl,
)

-- an event that leaves a puzzle in another state than new puts none under its key as a new one
none_put_on : (world next : World) (event : Event) (rest : List Event) (key : PuzzleKey) (row : PuzzleRow)
    → Happens world event next → get next.puzzles key ≡ Some row → row.state ≢ state.New →
    NoneIsPut rest key → NoneIsPut (event ∷ rest) key
none_put_on world next event rest key row happens at searched none t sender puzzle text (suc i, within, is) = none t
    sender puzzle text (i, omega (arith, within), is)
none_put_on world next event rest key row happens at searched none t sender puzzle text (zero, within, is) =
    let same : event ≡ requested t (record { key = sender; action = action.PutPuzzle key puzzle })
    (reply.PutPuzzle (state_name state.New) text) = is in
    let (put, there, new) = put_is_new world t sender key puzzle text next
    (subst (λ (e : Event). Happens world e next) same happens) in
    let one : Some row ≡ Some put = sym at ∙ there in
    let own : row ≡ put = cc in
    searched (ap (λ (r : PuzzleRow). r.state) own ∙ new)

state_changed : (later : World) (key : PuzzleKey) (puzzle : Board) (found : PuzzleState) → found ≢ state.New
    → (world next : World) (event : Event) (rest : List Event) → History world (event ∷ rest) later
    → NoneIsPut (event ∷ rest) key → Changes world event next →
    HadState next rest key puzzle found → HadState world (event ∷ rest) key puzzle found
    ⊎ IsSearchedFor world later (event ∷ rest) key puzzle found
unfolding asked_first
state_changed later key puzzle found searched world next (seeded people given) rest life still (count, told, made)
    (before, at, own, is, none_put) =
    inl (before, ap (λ (w : World). get w.puzzles key) (sym made) ∙ at, own, is, still)
state_changed later key puzzle found searched world next (requested t request given) rest life still (none, touches)
    (before, at, own, is, none_put) = elim touches.puzzles [
      | inl same ↦ inl (before, ap (λ (m : FinMap puzzle_cmp PuzzleRow). get m key) (sym same) ∙ at, own, is, still)
      | inr (inl h) ↦
          elim (found_after puzzle_total same_puzzle_keys world.puzzles h.key (new_row h.key h.puzzle) key before
          (ap (λ (m : FinMap puzzle_cmp PuzzleRow). get m key) (sym h.made) ∙ at)) [
            | inl both ↦ absurd (searched (sym is ∙ ap (λ (r : PuzzleRow). r.state) both.1))
            | inr other ↦ inl (before, other.1, own, is, still)
          ]
      | inr (inr h) ↦
          let asked : Action = action.Certify h.key h.budget in
          let none_for : NoneDecides world (caller_of world request.key) asked t = subst
          (λ (a : Action). NoneDecides world (caller_of world request.key) a t) h.asks none in
          elim (found_after puzzle_total same_puzzle_keys world.puzzles h.key (record h.row { state = h.found }) key
          before
          (ap (λ (m : FinMap puzzle_cmp PuzzleRow). get m key) (sym h.made) ∙ at)) [
            | inl both ↦
                let one : h.found ≡ found = sym (ap (λ (r : PuzzleRow). r.state) both.1) ∙ is in
                let board : h.row.puzzle ≡ puzzle = sym (ap (λ (r : PuzzleRow). r.puzzle) both.1) ∙ own in
                let (person, calls, allowed) = known_person world (caller_of world request.key) asked t none_for
                (0, lit< tt, refl) (1, lit< tt, refl) in
                let mine : IsSearchedFor world later (requested t request given ∷ rest) h.key h.row.puzzle h.found = (
                  person,
                  t,
                  h.budget,
                  writer world (caller_of world request.key) asked t none_for person h.key (2, lit< tt, refl) calls
                      refl,
                  h.is_found,
                  asked_first world later t request given (reply.Certify (state_name h.found)) rest life person asked
                      h.asks
                      h.told calls allowed,
                  (h.row, h.kept, refl),
                  subst (λ (k : PuzzleKey). NoneIsPut rest k) both.0 none_put,
                ) in
                inr (subst (λ (k : PuzzleKey). IsSearchedFor world later (requested t request given ∷ rest) k puzzle
                found)
                (sym both.0)
                (subst (λ (b : Board). IsSearchedFor world later (requested t request given ∷ rest) h.key b found) board
                (subst (λ (s : PuzzleState). IsSearchedFor world later (requested t request given ∷ rest) h.key
                h.row.puzzle
                s) one mine)))
            | inr other ↦ inl (before, other.1, own, is, still)
          ]
    ]

state_came : (later : World) (key : PuzzleKey) (puzzle : Board) (found : PuzzleState) → found ≢ state.New
    → (world next : World) (event : Event) (rest : List Event) → History world (event ∷ rest) later →
    Happens world event next → HadState next rest key puzzle found → HadState world (event ∷ rest) key puzzle found
    ⊎ IsSearchedFor world later (event ∷ rest) key puzzle found
state_came later key puzzle found searched world next event rest life happens (row, at, own, is, none_put) =
    let still : NoneIsPut (event ∷ rest) key = none_put_on world next event rest key row happens at
    (λ new. searched (sym is ∙ new)) none_put in
    elim (happened world event next happens) [
      | inl same ↦ inl (row, ap (λ (w : World). get w.puzzles key) (sym same) ∙ at, own, is, still)
      | inr changes ↦ state_changed later key puzzle found searched world next event rest life still changes
          (row, at, own, is, none_put)
    ]

states_authored : (world later : World) (events : List Event) → History world events later
    → (key : PuzzleKey) (row : PuzzleRow) → get later.puzzles key ≡ Some row → row.state ≢ state.New →
    HadState world events key row.puzzle row.state ⊎ IsSearchedFor world later events key row.puzzle row.state
unfolding asked_more
states_authored world later events life key row at searched = carried later
    (λ w list. HadState w list key row.puzzle row.state) (λ w list. IsSearchedFor w later list key row.puzzle row.state)
    (λ world next event rest happens (person, t, budget, may_write, is, h, stood, none).
    (person, t, budget, may_write, is, asked_more world next later event rest happens person t _ _ h, stood, none))
    (state_came later key row.puzzle row.state searched) events world life
    (row, at, refl, refl, λ t sender puzzle text among. absurd (omega (arith, among.1)))

-- ---- rounds
-- a round's head with the flags of another
flags_again : (round mid before : Round) → round ≡ record mid { released = round.released; published = round.published }
    → mid ≡ record before { released = mid.released; published = mid.published } →
    round ≡ record before { released = round.released; published = round.published }
flags_again round mid before first second =
    first ∙ ap (λ (r : Round). let flagged : Round = record r
    { released = round.released; published = round.published } in flagged) second

tests_alike : (world next later : World) (id : List ℕ) → ((name : List ℕ)
    → get next.testers (record { round = id; name = name }) ≡ get world.testers (record { round = id; name = name })) →
    ((name : List ℕ) → IsTesterOf later id name ↔ IsTesterOf next id name) → (name : List ℕ) → IsTesterOf later id name
    ↔ IsTesterOf world id name
tests_alike world next later id same after name = (
  λ tests. sym (same name)
      ∙ (after name).0 tests,
  λ tests. (after name).1 (same name ∙ tests),
)

-- a round with the same lists, and the same head but for flags
round_on : (world next later : World) (id : List ℕ) (round before : Round) (h : HadRound next later id round)
    → get world.rounds id ≡ Some before →
    h.before ≡ record before { released = h.before.released; published = h.before.published } →
    ((number : ℕ) → place_of next id number ≡ place_of world id number) →
    ((name : List ℕ) → get next.testers (record { round = id; name = name }) ≡ get world.testers
    (record { round = id; name = name })) → HadRound world later id round
round_on world next later id round before h kept same places testers = record {
  before = before;
  kept = kept;
  same = flags_again round h.before before h.same same;
  places = λ number. h.places number ∙ places number;
  testers = tests_alike world next later id testers h.testers;
}

round_came : (later : World) (id : List ℕ) (round : Round) → get later.rounds id ≡ Some round
    → (world next : World) (event : Event) (rest : List Event) → History world (event ∷ rest) later
    → Changes world event next →
    HadRound next later id round → HadRound world later id round ⊎ IsDrafted world later (event ∷ rest) id
round_came later id round there world next (seeded people given) rest life (count, told, made) h =
    inl (round_on world next later id round h.before h (ap (λ (w : World). get w.rounds id) (sym made) ∙ h.kept) refl
    (λ number. ap (λ (w : World). place_of w id number) made)
    (λ name. ap (λ (w : World). get w.testers (record { round = id; name = name })) made))
round_came later id round there world next (requested t request given) rest life (none, touch) h = elim touch.rounds [
  | inl same ↦
      inl (round_on world next later id round h.before h (ap (λ (m : FinMap text_cmp Round). get m id) (sym same.rounds)
      ∙ h.kept) refl
      (λ number. ap (λ (m : FinMap place_cmp Entry). get m (record { round = id; number = number })) same.places)
      (λ name. ap (λ (m : FinMap tester_cmp (Unit {0})). get m (record { round = id; name = name })) same.testers))
  | inr (inl d) ↦
      let asked : Action = action.PutRound d.id d.sheet in
      let none_for : NoneDecides world (caller_of world request.key) asked t = subst
      (λ (a : Action). NoneDecides world (caller_of world request.key) a t) d.asks none in
      elim (found_after text_total same_texts world.rounds d.id (draft_of d.id d.sheet) id h.before
      (ap (λ (m : FinMap text_cmp Round). get m id) (sym d.made) ∙ h.kept)) [
        | inl both ↦
            let (person, is, allowed) = known_person world (caller_of world request.key) asked t none_for
            (0, lit< tt, refl) (1, lit< tt, refl) in
            let places : (number : ℕ) → place_of later id number ≡ entry_at d.sheet.puzzles number = λ number.
            h.places number
            ∙ ap (λ (m : FinMap place_cmp Entry). get m (record { round = id; number = number })) d.places
            ∙ ap (λ (i : List ℕ). get (relisted world.places d.id d.sheet.puzzles)
            (record { round = i; number = number })) both.0
            ∙ relisted_own world.places d.id d.sheet.puzzles number in
            let tested : (name : List ℕ) → get next.testers (record { round = id; name = name }) ≡ get
            (retested world.testers d.id d.sheet.testers) (record { round = d.id; name = name }) = λ name.
            ap (λ (m : FinMap tester_cmp (Unit {0})). get m (record { round = id; name = name })) d.testers
            ∙ ap (λ (i : List ℕ). get (retested world.testers d.id d.sheet.testers) (record { round = i; name = name }))
            both.0 in
            let own = λ (name : List ℕ). retested_own world.testers d.id d.sheet.testers name in
            let from : IsFromSheet later id d.sheet = record {
              round = round;
              kept = there;
              same = h.same ∙ ap (λ (r : Round). let flagged : Round = record r
                  { released = round.released; published = round.published } in flagged) both.1
                  ∙ ap (λ (i : List ℕ). let flagged : Round = record (draft_of i d.sheet)
                  { released = round.released; published = round.published } in flagged) (sym both.0);
              places = places;
              testers = λ name. (
                (λ tests. (own name).0 (sym (tested name) ∙ (h.testers name).0 tests)),
                (λ among. (h.testers name).1 (tested name ∙ (own name).1 among)),
              );
            } in
            let mine : IsDrafted world later (requested t request given ∷ rest) id = (
              person,
              t,
              d.sheet,
              from,
              asked_first world later t request given (reply.PutRound id) rest life person (action.PutRound id d.sheet)
                  (d.asks ∙ ap (λ (i : List ℕ). action.PutRound i d.sheet) (sym both.0))
                  (d.told ∙ ap reply.PutRound (sym both.0)) is allowed,
            ) in
            inr mine
        | inr other ↦
            inl (round_on world next later id round h.before h other.1 refl
            (λ number. ap (λ (m : FinMap place_cmp Entry). get m (record { round = id; number = number })) d.places
            ∙ relisted_other world.places d.id d.sheet.puzzles (record { round = id; number = number }) other.0)
            (λ name. ap (λ (m : FinMap tester_cmp (Unit {0})). get m (record { round = id; name = name })) d.testers
            ∙ retested_other world.testers d.id d.sheet.testers (record { round = id; name = name }) other.0))
      ]
  | inr (inr f) ↦
      let places : (number : ℕ) → place_of next id number ≡ place_of world id number = λ number. ap
      (λ (m : FinMap place_cmp Entry). get m (record { round = id; number = number })) f.places in
      let testers = λ (name : List ℕ). ap (λ (m : FinMap tester_cmp (Unit {0})). get m
      (record { round = id; name = name })) f.testers in
      elim (found_after text_total same_texts world.rounds f.id f.now id h.before
      (ap (λ (m : FinMap text_cmp Round). get m id) (sym f.made) ∙ h.kept)) [
        | inl both ↦
            inl (round_on world next later id round f.round h (ap (get world.rounds) both.0 ∙ f.kept)
            (subst (λ (r : Round). r ≡ record f.round { released = r.released; published = r.published }) (sym both.1)
            f.same) places testers)
        | inr other ↦ inl (round_on world next later id round h.before h other.1 refl places testers)
      ]
]

rounds_authored : (world later : World) (events : List Event) → History world events later
    → (id : List ℕ) (round : Round) → get later.rounds id ≡ Some round →
    HadRound world later id round ⊎ IsDrafted world later events id
rounds_authored world later events life id round at = brought later (λ w. HadRound w later id round)
    (λ w list. IsDrafted w later list id)
    (λ world next event rest happens (person, t, sheet, from, h).
    (person, t, sheet, from, asked_more world next later event rest happens person t _ _ h))
    (round_came later id round at) events world life
    (record {
      before = round;
      kept = at;
      same = refl;
      places = λ number. refl;
      testers = λ name.
          (λ tests. tests, λ tests. tests);
    })

-- ---- flags
-- a round whose flag stands had it, or its flag has just risen
flag_found : (flag : Round → Bool) (world next : World) (caller : Option Person) (asked : Action) (t : ℕ)
    (given : Reply) (id : List ℕ) (round : Round) → ((sheet : Sheet) → flag (draft_of id sheet) ≡ false) →
    Touches world caller asked t given next → get next.rounds id ≡ Some round → flag round ≡ true →
    ((before : Round) × (get world.rounds id ≡ Some before) × (flag before ≡ true))
    ⊎ ((f : Flags world caller asked t given next) × (f.id ≡ id) × (flag f.now ≡ true))
flag_found flag world next caller asked t given id round fresh touches at is = elim touches.rounds [
  | inl same ↦ inl (round, ap (λ (m : FinMap text_cmp Round). get m id) (sym same.rounds) ∙ at, is)
  | inr (inl d) ↦ elim (found_after text_total same_texts world.rounds d.id (draft_of d.id d.sheet) id round
      (ap (λ (m : FinMap text_cmp Round). get m id) (sym d.made) ∙ at)) [
        | inl both ↦ absurd (let no : false ≡ true = sym (fresh d.sheet)
            ∙ ap (λ (i : List ℕ). flag (draft_of i d.sheet))
            both.0 ∙ sym (ap flag both.1) ∙ is in cc)
        | inr other ↦ inl (round, other.1, is)
      ]
  | inr (inr f) ↦ elim (found_after text_total same_texts world.rounds f.id f.now id round
      (ap (λ (m : FinMap text_cmp Round). get m id) (sym f.made) ∙ at)) [
        | inl both ↦ inr (f, sym both.0, sym (ap flag both.1) ∙ is)
        | inr other ↦ inl (round, other.1, is)
      ]
]

-- a director asked for it
flagged_first : (world later : World) (t : ℕ) (request : Request) (given told : Reply) (rest : List Event)
    → History world (requested t request given ∷ rest) later → (asked : Action)
    → NoneDecides world (caller_of world request.key) request.action t →
    Contains (rules_asked asked) rule.UnknownKey → Contains (rules_asked asked) rule.NoRole → request.action ≡ asked
    → given ≡ told → IsFlagged world later (requested t request given ∷ rest) asked told
flagged_first world later t request given told rest life asked none key role same also =
    let none_for : NoneDecides world (caller_of world request.key) asked t = subst
    (λ (a : Action). NoneDecides world (caller_of world request.key) a t) same none in
    let (person, is, allowed) = known_person world (caller_of world request.key) asked t none_for key role in
    (person, t, asked_first world later t request given told rest life person asked same also is allowed)

release_came : (later : World) (id : List ℕ) (world next : World) (event : Event) (rest : List Event)
    → History world (event ∷ rest) later → Changes world event next →
    IsReleasedRound next id → IsReleasedRound world id ⊎ IsFlagged world later (event ∷ rest) (action.Release id)
    (reply.Release id)
release_came later id world next (seeded people given) rest life (count, told, made) (round, at, is) = inl
    (round, ap (λ (w : World). get w.rounds id) (sym made) ∙ at, is)
release_came later id world next (requested t request given) rest life (none, touches) (round, at, is) =
    elim (flag_found (λ r. r.released) world next (caller_of world request.key) request.action t given id round
    (λ sheet. refl) touches at is) [
      | inl had ↦ inl had
      | inr (f, own, risen) ↦ elim f.released [
        | inl same ↦ inl (f.round, ap (get world.rounds) (sym own) ∙ f.kept, sym same ∙ risen)
        | inr (asks, told) ↦ inr (flagged_first world later t request given (reply.Release id) rest life
            (action.Release id) none (0, lit< tt, refl) (1, lit< tt, refl)
            (asks ∙ ap action.Release own) (told ∙ ap reply.Release own))
      ]
    ]

publication_came : (later : World) (id : List ℕ) (world next : World) (event : Event) (rest : List Event)
    → History world (event ∷ rest) later → Changes world event next →
    IsPublishedRound next id → IsPublishedRound world id ⊎ IsFlagged world later (event ∷ rest) (action.Publish id)
    (reply.Publish id)
publication_came later id world next (seeded people given) rest life (count, told, made) (round, at, is) = inl
    (round, ap (λ (w : World). get w.rounds id) (sym made) ∙ at, is)
publication_came later id world next (requested t request given) rest life (none, touches) (round, at, is) =
    elim (flag_found (λ r. r.published) world next (caller_of world request.key) request.action t given id round
    (λ sheet. refl) touches at is) [
      | inl had ↦ inl had
      | inr (f, own, risen) ↦ elim f.published [
        | inl same ↦ inl (f.round, ap (get world.rounds) (sym own) ∙ f.kept, sym same ∙ risen)
        | inr (asks, told) ↦ inr (flagged_first world later t request given (reply.Publish id) rest life
            (action.Publish id) none (0, lit< tt, refl) (1, lit< tt, refl)
            (asks ∙ ap action.Publish own) (told ∙ ap reply.Publish own))
      ]
    ]

flags_authored : (later : World) (Had : World → Type 0) (asked : Action) (told : Reply) →
    ((world next : World) (event : Event) (rest : List Event) → History world (event ∷ rest) later
    → Changes world event next → Had next → Had world ⊎ IsFlagged world later (event ∷ rest) asked told) →
    (events : List Event) (world : World) → History world events later → Had later → Had world
    ⊎ IsFlagged world later events asked told
flags_authored later Had asked told first = brought later Had (λ w list. IsFlagged w later list asked told)
    (λ world next event rest happens (person, t, h). (
      person,
      t,
      asked_more world next later event rest happens person t
          asked told h,
    )) first

-- ---- people
-- a person of a list that stood before any request, or that a director imported
person_came : (later : World) (name : List ℕ) (person : Person) (world next : World) (event : Event) (rest : List Event)
    → History world (event ∷ rest) later → Changes world event next →
    get next.people name ≡ Some person → (get world.people name ≡ Some person)
    ⊎ ((person.name ≡ name) × IsAdmitted world later (event ∷ rest) person)
person_came later name person world next (seeded people given) rest life (count, told, made) at =
    elim (with_people-found world.people people name person (ap (λ (w : World). get w.people name) (sym made) ∙ at)) [
      | inl before ↦ inl before
      | inr (unknown, among, own) ↦ inr (
        own,
        (
          people,
          count,
          among,
          inl
              (0, omega arith, ap (λ (r : Reply). seeded people r) told),
        ),
      )
    ]
person_came later name person world next (requested t request given) rest life (none, touch) at = elim touch.people [
  | inl same ↦ inl (ap (λ (m : FinMap text_cmp Person). get m name) (sym same) ∙ at)
  | inr h ↦
      let asked : Action = action.Import h.people in
      let none_for : NoneDecides world (caller_of world request.key) asked t = subst
      (λ (a : Action). NoneDecides world (caller_of world request.key) a t) h.asks none in
      elim (with_people-found world.people h.people name person
      (ap (λ (m : FinMap text_cmp Person). get m name) (sym h.made) ∙ at)) [
        | inl before ↦ inl before
        | inr (unknown, among, own) ↦
            let (director, is, allowed) = known_person world (caller_of world request.key) asked t none_for
            (0, lit< tt, refl) (1, lit< tt, refl) in
            inr (
              own,
              (
                h.people,
                h.count,
                among,
                inr (
                  director,
                  t,
                  asked_first world later t request given (reply.Import h.count) rest life director asked h.asks h.told
                      is allowed,
                ),
              ),
            )
      ]
]

admitted_more : (world next later : World) (event : Event) (rest : List Event) → Happens world event next
    → (person : Person) → IsAdmitted next later rest person → IsAdmitted world later (event ∷ rest) person
admitted_more world next later event rest happens person (people, count, among, inl listed) =
    (people, count, among, inl (later_in event rest (seeded people (reply.Import count)) listed))
admitted_more world next later event rest happens person (people, count, among, inr (director, t, h)) =
    (people, count, among, inr (director, t, asked_more world next later event rest happens director t _ _ h))

people_authored : (world later : World) (events : List Event) → History world events later
    → (name : List ℕ) (person : Person) → get later.people name ≡ Some person →
    (get world.people name ≡ Some person) ⊎ ((person.name ≡ name) × IsAdmitted world later events person)
people_authored world later events life name person at = brought later (λ w. get w.people name ≡ Some person)
    (λ w list. (person.name ≡ name) × IsAdmitted w later list person)
    (λ world next event rest happens (own, h). (own, admitted_more world next later event rest happens person h))
    (person_came later name person) events world life at

-- ---- all rows
pub rows_are_authored : RowsAreAuthored
rows_are_authored world later events life = record {
  people = people_authored world later events life;
  puzzles = λ key row at. puzzles_authored world later events life key row.puzzle (row, at, refl);
  states = states_authored world later events life;
  rounds = rounds_authored world later events life;
  released = λ id at. flags_authored later (λ w. IsReleasedRound w id) (action.Release id) (reply.Release id)
      (release_came later id) events world life at;
  published = λ id at. flags_authored later (λ w. IsPublishedRound w id) (action.Publish id) (reply.Publish id)
      (publication_came later id) events world life at;
  answers = answers_authored world later events life;
  protests = protests_authored world later events life;
  rulings = λ key row ruling at ruled. rulings_authored world later events life key ruling (row, at, ruled);
}
