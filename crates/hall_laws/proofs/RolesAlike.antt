-- What two worlds that differ in puzzles and in hidden verdicts answer to a person who is no director.
use Rattle.std.proofs.Common.{◌∷◌, ◌≡◌, ◌⊎◌, ◌&&◌, ◌||◌, ◌+◌, ◌<◌, ◌≤◌, inl, inr, if◌then◌else◌, ℕ, suc, Bool, true}
use Rattle.std.proofs.Common.{false, not, nat_le, List, [], Option, Some, None, map, slice_get, arith, lit<, refl, sym}
use Rattle.std.proofs.Common.{ap, ◌∙◌, subst, Contains}
use Rattle.std.specs.List.{filter}
use Rattle.std.specs.Option.{option_map}
use Rattle.std.specs.FinMap.{FinMap, get, insert, values}
use Rattle.std.proofs.lemmas.Bool.{false≢true}
use Rattle.std.proofs.lemmas.Bool.Decides.{nat_tests}
use Rattle.hall_grid.specs.Board.{Board}
use Rattle.hall_grid.specs.Canonical.{CanonicalText}
use Rattle.hall_grid.proofs.HasOneCanonicalText.{one_canonical_text}
use Rattle.hall_policy.specs.World.{World, puzzle_cmp, answer_cmp, IsRoundAt, IsTesterOf, protest_of, end_of, same_text}
use Rattle.hall_policy.specs.Ranges.{IsAction, IsName}
use Rattle.hall_policy.specs.Actions.{may, finds_drafts, puzzle_named, rules_asked}
use Rattle.hall_policy.specs.Rules.{TheCaller, RoundIsMissing, ReadsAsTester, answers_given}
use Rattle.hall_policy.specs.First.{First, NoneDecides}
use Rattle.hall_policy.specs.OwnAlike.{seen, as_is, exchanged}
use Rattle.hall_policy.specs.declared.record.AnswerKey.{AnswerKey}
use Rattle.hall_policy.specs.declared.record.AnswerRow.{AnswerRow}
use Rattle.hall_policy.specs.declared.record.Entry.{Entry}
use Rattle.hall_policy.specs.declared.record.Person.{Person}
use Rattle.hall_policy.specs.declared.record.ProtestKey.{ProtestKey}
use Rattle.hall_policy.specs.declared.record.ProtestRow.{ProtestRow}
use Rattle.hall_policy.specs.declared.record.PuzzleKey.{PuzzleKey}
use Rattle.hall_policy.specs.declared.record.PuzzleRow.{PuzzleRow}
use Rattle.hall_policy.specs.declared.record.PuzzleState.{PuzzleState}
use Rattle.hall_policy.specs.declared.record.Round.{Round}
use Rattle.hall_policy.specs.declared.record.RoundRow.{RoundRow}
use Rattle.hall_policy.specs.declared.record.Ruling.{Ruling}
use Rattle.hall_policy.specs.declared.request.Action.{Action}
use Rattle.hall_policy.specs.declared.request.Action.TheVariants as action
use Rattle.hall_policy.specs.declared.rule.Decision.{Decision}
use Rattle.hall_policy.specs.declared.rule.Decision.TheVariants.{Allow, Repeat, Deny}
use Rattle.hall_policy.specs.declared.rule.Rule.TheVariants as rule
use Rattle.hall_policy.proofs.DecidingAlike.{given_alike}
use Rattle.hall_policy.proofs.LoneDecisions.{lone}
use Rattle.hall_policy.proofs.Orders.{answer_total, same_answer_keys, puzzle_total, same_puzzle_keys}
use Rattle.hall_policy.proofs.Texts.{text_decides, and_first}
use Rattle.hall_policy.proofs.Viewed.{left_alike, left_same}
use Rattle.hall_store.specs.Store.{IsListing}
use Rattle.hall_desk.specs.Alike.{LooksAlike}
use Rattle.hall_desk.specs.Judged.{IsVerdictOn}
use Rattle.hall_desk.specs.Exchanged.{exchanged_line, exchanged_reply}
use Rattle.hall_desk.specs.Shown.{is_sealed, sees_puzzle, puzzle_line, sees_all, sees_answer, shows_verdict}
use Rattle.hall_desk.specs.Shown.{answer_line, told_verdict, ShowsRound, AreSolutions, state_name}
use Rattle.hall_desk.specs.Step.{Allowed, Decided, FirstReply, IsAnswersStep, IsSubmitStep, IsListPuzzlesStep}
use Rattle.hall_desk.specs.Step.{IsRuleProtestStep, StandsAlready, IsPutAnew, is_open, new_row, answer_row}
use Rattle.hall_desk.specs.Step.{open_protest, IsReadPuzzleStep, IsCertifyStep, IsReadRoundStep, IsSolutionsStep}
use Rattle.hall_desk.specs.declared.reply.AnswerLine.{AnswerLine}
use Rattle.hall_desk.specs.declared.reply.Reply.{Reply}
use Rattle.hall_desk.specs.declared.reply.Reply.TheVariants as reply
use Rattle.hall_desk.proofs.Listings.{same_listing}
use Rattle.hall_desk.proofs.RepliesAlike.{le_unless, true_unless, table_read}
use Rattle.hall_desk.proofs.Shows.{one_row, tested_by, one_round_row, shows_tested, same_shown, same_solutions}
use Rattle.hall_desk.proofs.Shows.{IsKeptAlike}
use Rattle.hall_desk.proofs.StepsAlike.{whole_rows}
use Rattle.hall_desk.proofs.VerdictOnce.{one_verdict_on}
use Rattle.hall_laws.specs.Roles.{Knows}
use Rattle.hall_laws.proofs.RolesDecided.{Differ, later, own_alike, same_decisions}

-- where a round hides verdicts, none is listed and none is told
unshown : (a b c : Bool) → a ≡ true → b ≡ false → c ≡ false → (not a || (b || c)) ≡ false
unshown true false false h k l = refl
unshown true false true h k l = absurd (false≢true (sym l))
unshown true true c h k l = absurd (false≢true (sym k))
unshown false b c h k l = absurd (false≢true h)

not_over : (a b : ℕ) → b < a → nat_le a b ≡ false
not_over a b h = grind (arith, nat_tests)

told_sealed : (round : Round) (m n : ℕ) → is_sealed round.mode ≡ true → told_verdict round m ≡ told_verdict round n
told_sealed round m n is = ap (λ b. if b then None else Some m) is ∙ sym (ap (λ b. if b then None else Some n) is)

mapped_twice : {X Y Z : Type 0} (f : Y → Z) (g : X → Y) (xs : List X) → map (λ x. f (g x)) xs ≡ map f (map g xs)
mapped_twice f g [] = refl
mapped_twice f g (x ∷ xs) = ap (λ zs. f (g x) ∷ zs) (mapped_twice f g xs)

-- two views that show the same of rows that are seen alike
both_views : {X : Type 0} (view late : AnswerRow → X) (see also : AnswerRow → AnswerRow) (x y : Option AnswerRow)
    → ((r s : AnswerRow) → x ≡ Some r → see r ≡ also s → view r ≡ late s) → option_map see x ≡ option_map also y
    → option_map view x ≡ option_map late y
both_views view late see also None None same alike = refl
both_views view late see also None (Some s) same alike = let no : None ≡ Some (also s) = alike in absurd (cc)
both_views view late see also (Some r) None same alike = let no : Some (see r) ≡ None = alike in absurd (cc)
both_views view late see also (Some r) (Some s) same alike =
    let both : Some (see r) ≡ Some (also s) = alike in
    let one : see r ≡ also s = cc in
    ap Some (same r s refl one)

one_view : {X Y : Type 0} (view late : X → Y) (x : Option X) → ((r : X) → x ≡ Some r → view r ≡ late r)
    → option_map view x ≡ option_map late x
one_view view late None same = refl
one_view view late (Some r) same = ap Some (same r refl)

-- both worlds stay, or change by the same row; by an answer that is the same where no text is exchanged
pub data Change (ex : List ℕ → List ℕ → List ℕ) (world other new changed : World) : Type 0 where
  nothing : new ≡ world → changed ≡ other → Change ex world other new changed
  by_puzzle : (key : PuzzleKey) (row : PuzzleRow) → new ≡ record world { puzzles = insert world.puzzles key row }
      → changed ≡ record other { puzzles = insert other.puzzles key row } → Change ex world other new changed
  by_answer : (key : AnswerKey) (row twin : AnswerRow) → (((id a : List ℕ) → ex id a ≡ a) → row ≡ twin)
      → new ≡ record world { answers = insert world.answers key row }
      → changed ≡ record other { answers = insert other.answers key twin } → Change ex world other new changed
  by_protest : (key : ProtestKey) (row : ProtestRow) → new ≡ record world { protests = insert world.protests key row }
      → changed ≡ record other { protests = insert other.protests key row } → Change ex world other new changed

module _ (ex : List ℕ → List ℕ → List ℕ) (hidden : List ℕ → Bool) (world : World)
    (puzzles : FinMap puzzle_cmp PuzzleRow) (answers : FinMap answer_cmp AnswerRow) (t : ℕ)
    (differ : Differ ex hidden world puzzles answers t) where
  abbrev other : World
  other = later ex hidden world puzzles answers t differ

  -- ---- what shows of answers
  whole_alike : (id : List ℕ) (key : AnswerKey) → key.round ≡ id → hidden id ≡ false
      → get world.answers key ≡ get answers key
  whole_alike id key own plainly =
      let here : (r : AnswerRow) → get world.answers key ≡ Some r → hidden r.key.round ≡ false = λ r at.
      ap hidden (ap (λ (k : AnswerKey). k.round) (differ.typed.answers key r at) ∙ own) ∙ plainly in
      whole_rows hidden (get world.answers key) (get answers key) here
      (λ r at. ap hidden (ap (λ (k : AnswerKey). k.round) (differ.retyped.answers key r at) ∙ own) ∙ plainly)
      (one_view (seen as_is hidden) (seen ex hidden) (get world.answers key) (λ r at.
      λ i. record (seen as_is hidden r) { answer = sym (differ.plain r.key.round (here r at) r.answer) i })
      ∙ differ.shown key)

  viewed_alike : {X : Type 0} (view late : AnswerRow → X) (id : List ℕ) (key : AnswerKey) → key.round ≡ id
      → (hidden id ≡ true → (r s : AnswerRow) → r.key ≡ key → seen ex hidden r ≡ seen as_is hidden s → view r ≡ late s)
      → (hidden id ≡ false → (r : AnswerRow) → view r ≡ late r)
      → option_map view (get world.answers key) ≡ option_map late (get answers key)
  viewed_alike view late id key own blind whole = elim (hidden id) as
      (λ b. hidden id ≡ b → option_map view (get world.answers key) ≡ option_map late (get answers key)) [
        | true ↦ λ is. both_views view late (seen ex hidden) (seen as_is hidden) (get world.answers key)
            (get answers key) (λ r s at alike. blind is r s (differ.typed.answers key r at) alike) (differ.shown key)
        | false ↦ λ plainly. one_view view late (get world.answers key) (λ r at. whole plainly r)
            ∙ ap (option_map late) (whole_alike id key own plainly)
      ] refl

  told_alike : (id : List ℕ) (round : Round) (m n : ℕ) → get world.rounds id ≡ Some round
      → (hidden id ≡ false → m ≡ n) → told_verdict round m ≡ told_verdict round n
  told_alike id round m n kept same = elim (hidden id) as
      (λ b. hidden id ≡ b → told_verdict round m ≡ told_verdict round n) [
        | true ↦ λ is. told_sealed round m n (differ.seals id round is kept).0
        | false ↦ λ plainly. ap (told_verdict round) (same plainly)
      ] refl

  -- what is told of a published round is told to nobody too, who is no tester
  no_name : {P : Type 0} → IsName [] → P
  no_name is = absurd (let none : 1 ≤ 0 = is.long_enough in omega (arith, none))

  pub looks_alike : LooksAlike ex hidden (lone [] []) t world other
  looks_alike = record {
    own = record { answers = λ key own. differ.shown key; protests = λ key own. refl };
    sealed = differ.seals;
    answers = λ id round kept published key own. elim (hidden id) as
        (λ b. hidden id ≡ b → get world.answers key ≡ get answers key) [
          | true ↦ λ is. differ.published id round is kept published key own
          | false ↦ λ plainly. whole_alike id key own plainly
        ] refl;
    protests = λ id round kept published key own. refl;
    puzzles = differ.started;
    tested = λ key (id, entry, tests, listed, own). no_name
        (differ.typed.in_range.testers (record { round = id; name = [] }) tests);
  }

  module _ (person : Person) (plain : person.roles.director ≡ false)
      (knows : (key : PuzzleKey) → Knows world person key → get world.puzzles key ≡ get puzzles key) where
    -- both are told the same, but that texts of listed answers are read by `ex`, and change alike
    abbrev Alike : Action → Reply → Reply → World → World → Type 0
    Alike a given answered new changed = (exchanged_reply ex a given ≡ answered) × Change ex world other new changed

    abbrev AlikeStill : Reply → Reply → World → World → Type 0
    AlikeStill given answered new changed = (given ≡ answered) × Change ex world other new changed

    -- both steps are the person's
    by_person : (P Q : Person → Type 0) (R : Type 0) → (P person → Q person → R) → TheCaller (Some person) P
        → TheCaller (Some person) Q → R
    by_person P Q R one (a, is, p) (b, also, q) = one (subst P (one_row (Some person) a person is refl) p)
        (subst Q (one_row (Some person) b person also refl) q)

    is_released : (a : Action) (id : List ℕ) (round : Round) → ¬ (RoundIsMissing world (Some person) a id)
        → get world.rounds id ≡ Some round → round.released ≡ true
    is_released a id round there kept =
        true_unless round.released (λ draft. there (λ r at. (
          ap (λ (x : Round). x.released) (one_row (get world.rounds id) r round at kept) ∙ draft,
          ap (λ b. b && finds_drafts a) plain,
        )))

    -- the puzzle that the person may name is the person's own
    own_puzzle : (a : Action) (key : PuzzleKey) → puzzle_named a ≡ Some key → Contains (rules_asked a) rule.OtherAuthor
        → NoneDecides world (Some person) a t → get world.puzzles key ≡ get puzzles key
    own_puzzle a key named asked none =
        let is : Bool = same_text key.author person.name in
        let own : is ≡ true = true_unless is (λ no. (none rule.OtherAuthor (lit< tt)).0 (
          asked,
          (
            person,
            refl,
            (
              plain,
              key,
              named,
              (λ own.
                  false≢true (sym no ∙ (text_decides key.author person.name).1 own)),
            ),
          ),
        )) in
        knows key (inl ((text_decides key.author person.name).0 own))

    submitted : (id : List ℕ) (number : ℕ) (token answer : List ℕ) (given answered : Reply) (new changed : World)
        → NoneDecides world (Some person) (action.Submit id number token answer) t
        → IsSubmitStep world person id number token answer t given new
        → IsSubmitStep other person id number token (ex id answer) t answered changed
        → AlikeStill given answered new changed
    submitted id number token answer given answered new changed none
        (round, entry, puzzle, verdict, kept, place, grid, judged, (told, made))
        (twin, spot, board, also, found, listed, here, says, (tells, after)) =
        let a : Action = action.Submit id number token answer in
        let released = is_released a id twin (λ missing. (none rule.Missing (lit< tt)).0
        ((2, lit< tt, refl), inl missing)) found in
        let started : twin.start ≤ t = le_unless twin.start t (λ early. (none rule.NotStarted (lit< tt)).0
        ((5, lit< tt, refl), (plain, (λ reads. reads), (id, twin, refl, found, early)))) in
        let rounds : round ≡ twin = one_row (get world.rounds id) round twin kept found in
        let entries : entry ≡ spot = one_row (get world.places (record { round = id; number = number })) entry spot
        place listed in
        let alike : get world.puzzles spot.puzzle ≡ get puzzles spot.puzzle = differ.started spot.puzzle
        (id, twin, spot, found, released, started, (number, listed), refl) in
        let boards : puzzle ≡ board = one_row (get puzzles spot.puzzle) puzzle board
        (sym alike ∙ ap (λ (e : Entry). get world.puzzles e.puzzle) (sym entries) ∙ grid) here in
        let verdicts : ex id answer ≡ answer → verdict ≡ also = λ same. one_verdict_on board answer verdict also
        (subst (λ (r : PuzzleRow). IsVerdictOn r answer verdict) boards judged)
        (subst (λ (text : List ℕ). IsVerdictOn board text also) same says) in
        let n : answers_given world person.name id number ≡ answers_given other person.name id number =
        given_alike ex hidden differ.apart world puzzles answers world.protests differ.typed differ.retyped person
        (own_alike ex hidden world puzzles answers t differ (Some person) person refl) id number in
        let row : AnswerRow = answer_row world person id number token answer t verdict in
        let late : AnswerRow = answer_row other person id number token (ex id answer) t also in (
          told ∙ (λ i. reply.Submit (n i + 1) (told_verdict (rounds i) verdict))
              ∙ ap (reply.Submit late.n)
              (told_alike id twin verdict also found (λ plainly. verdicts (differ.plain id plainly answer)))
              ∙ sym tells,
          by_answer row.key row late (λ same. λ i. record row {
            n = n i + 1;
            answer = sym (same id answer) i;
            verdict = verdicts (same id answer) i;
          }) made after,
        )

    told_again : (id : List ℕ) (number : ℕ) (token answer : List ℕ) (given answered : Reply)
        → FirstReply world (Some person) (action.Submit id number token answer) given
        → FirstReply other (Some person) (action.Submit id number token (ex id answer)) answered → given ≡ answered
    told_again id number token answer given answered = by_person _ _ (given ≡ answered)
        (λ (round, row, kept, at, told) (twin, same, found, there, says).
        let key : AnswerKey = record { entrant = person.name; round = id; number = number; token = token } in
        let view : AnswerRow → Reply = λ r. reply.Submit r.n (told_verdict round r.verdict) in
        let alike = viewed_alike view view id key refl (λ is r s own seen.
        ap (λ (x : AnswerRow). reply.Submit x.n (told_verdict round r.verdict)) seen
        ∙ ap (reply.Submit s.n) (told_sealed round r.verdict s.verdict (differ.seals id round is kept).0))
        (λ plainly r. refl) in
        let both : Some (view row) ≡ Some (view same) = sym (ap (option_map view) at) ∙ alike
        ∙ ap (option_map view) there in
        let rounds : round ≡ twin = one_row (get world.rounds id) round twin kept found in
        told ∙ one_row (Some (view row)) (view row) (view same) refl both
        ∙ ap (λ (r : Round). reply.Submit same.n (told_verdict r same.verdict)) rounds ∙ sym says)

    -- a line of a listing, where verdicts are hidden
    line_alike : (id : List ℕ) (round : Round) (r s : AnswerRow) → hidden id ≡ true
        → get world.rounds id ≡ Some round → r.key.round ≡ id → seen ex hidden r ≡ seen as_is hidden s
        → exchanged_line (ex id) (answer_line (shows_verdict person round t) r)
        ≡ answer_line (shows_verdict person round t) s
    line_alike id round r s is kept own alike =
        let sealed = differ.seals id round is kept in
        let none : shows_verdict person round t ≡ false = unshown (is_sealed round.mode) (nat_le (end_of round) t)
        person.roles.director sealed.0 (not_over (end_of round) t sealed.1) plain in
        let answer : ex id r.answer ≡ s.answer = ap (λ (x : List ℕ). ex x r.answer) (sym own)
        ∙ ap (λ (x : AnswerRow). x.answer) alike in
        ap (λ b. exchanged_line (ex id) (answer_line b r)) none
        ∙ (λ i. record (answer_line false (alike i)) { answer = answer i })
        ∙ sym (ap (λ b. answer_line b s) none)

    listed : (id : List ℕ) (given answered : Reply) → IsAnswersStep world person id t given
        → IsAnswersStep other person id t answered → exchanged_reply ex (action.Answers id) given ≡ answered
    listed id given answered (round, rows, kept, listing, told) (twin, others, found, lists, says) =
        let rounds : twin ≡ round = one_row (get world.rounds id) twin round found kept in
        let sees : AnswerRow → Bool = sees_answer person round id t in
        let passes : AnswerKey → Bool = λ k.
        same_text k.round id && (sees_all person round t || same_text k.entrant person.name) in
        let line : AnswerRow → AnswerLine = answer_line (shows_verdict person round t) in
        let view : AnswerRow → AnswerLine = λ r. exchanged_line (ex id) (line r) in
        let left : map view (filter sees (values world.answers)) ≡ map line (filter sees (values answers)) =
        left_alike answer_total same_answer_keys passes view line sees world.answers answers
        (λ k r at. ap passes (differ.typed.answers k r at)) (λ k r at. ap passes (differ.retyped.answers k r at))
        (λ k passed.
        let here : k.round ≡ id = (text_decides k.round id).0 (and_first _ _ passed) in
        viewed_alike view line id k here
        (λ is r s own alike. line_alike id round r s is kept (ap (λ (x : AnswerKey). x.round) own ∙ here) alike)
        (λ plainly r. λ i. record (line r) { answer = differ.plain id plainly r.answer i })) in
        let lines : map view rows ≡ map line others =
        same_listing world other id sees view line rows others differ.typed
        (λ r passed. (text_decides r.key.round id).0 (and_first _ _ passed)) (λ a b. refl) (λ a b. refl) left listing
        (subst (λ (r : Round). IsListing other (sees_answer person r id t) others) rounds lists) in
        ap (exchanged_reply ex (action.Answers id)) told
        ∙ ap reply.Answers (sym (mapped_twice (exchanged_line (ex id)) line rows) ∙ lines)
        ∙ ap (λ (r : Round). reply.Answers (map (answer_line (shows_verdict person r t)) others)) (sym rounds)
        ∙ sym says

    -- ---- what shows of puzzles
    -- those of a released round that has started are kept alike
    started_alike : (id : List ℕ) (row : RoundRow) → IsRoundAt world id row → row.round.released ≡ true
        → row.round.start ≤ t → (k : ℕ) (entry : Entry) → slice_get row.puzzles k ≡ Some entry
        → IsKeptAlike world other differ.typed entry
    started_alike id row at released started k entry here = differ.started entry.puzzle
        (id, row.round, entry, at.head, released, started, (suc k, at.list (suc k) ∙ here), refl)

    -- so are those of a round that the person reads: it has started, or the person is its tester
    read_alike : (id : List ℕ) (row : RoundRow) → IsRoundAt world id row → row.round.released ≡ true
        → NoneDecides world (Some person) (action.ReadRound id) t → (k : ℕ) (entry : Entry)
        → slice_get row.puzzles k ≡ Some entry → IsKeptAlike world other differ.typed entry
    read_alike id row at released none k entry here =
        let tester : List ℕ → Option (Unit {0}) = λ round.
        get world.testers (record { round = round; name = person.name }) in
        elim (tester id) as (λ (o : Option (Unit {0})). tester id ≡ o → IsKeptAlike world other differ.typed entry) [
          | Some _ ↦ λ tests. knows entry.puzzle (inr
              (id, row.round, entry, at.head, released, tests, (suc k, at.list (suc k) ∙ here), refl))
          | None ↦ λ gone.
              let no_reading : ¬ (ReadsAsTester world (Some person) (action.ReadRound id)) = λ reads.
              let one : reads.2.0 ≡ id = let both : Some id ≡ Some reads.2.0 = reads.2.2 in cc in
              let own : reads.0 ≡ person = one_row (Some person) reads.0 person reads.1 refl in
              let tests : tester id ≡ Some tt = subst (λ (r : List ℕ). tester r ≡ Some tt) one
              (subst (λ (p : Person). IsTesterOf world reads.2.0 p.name) own reads.2.4) in
              let no : None ≡ Some tt = sym gone ∙ tests in
              absurd (cc) in
              started_alike id row at released
              (le_unless row.round.start t (λ early. (none rule.NotStarted (lit< tt)).0
              ((4, lit< tt, refl), (plain, no_reading, (id, row.round, refl, at.head, early)))))
              k entry here
        ] refl

    read : (id : List ℕ) (given answered : Reply) → NoneDecides world (Some person) (action.ReadRound id) t
        → IsReadRoundStep world id given → IsReadRoundStep other id answered → given ≡ answered
    read id given answered none (row, shown, at, shows, told) (twin, screen, there, showing, says) =
        let a : Action = action.ReadRound id in
        let released = is_released a id row.round
        (λ missing. (none rule.Missing (lit< tt)).0 ((2, lit< tt, refl), missing)) at.head in
        let one : twin ≡ tested_by row twin.testers = one_round_row other world id twin row refl refl there at in
        let same = same_shown world other differ.typed row shown screen (read_alike id row at released none) shows
        (shows_tested other row twin.testers screen (subst (λ (r : RoundRow). ShowsRound other r screen) one
        showing)) in
        told ∙ ap reply.ReadRound same ∙ sym says

    solved : (id : List ℕ) (given answered : Reply) → NoneDecides world (Some person) (action.Solutions id) t
        → IsSolutionsStep world id given → IsSolutionsStep other id answered → given ≡ answered
    solved id given answered none (row, texts, at, are, told) (twin, scripts, there, solve, says) =
        let a : Action = action.Solutions id in
        let released = is_released a id row.round
        (λ missing. (none rule.Missing (lit< tt)).0 ((2, lit< tt, refl), missing)) at.head in
        let over : end_of row.round ≤ t = le_unless (end_of row.round) t
        (λ early. (none rule.NotEnded (lit< tt)).0 ((3, lit< tt, refl), (id, row.round, refl, at.head, early))) in
        let started : row.round.start ≤ t = omega (arith, over) in
        let one : twin ≡ tested_by row twin.testers = one_round_row other world id twin row refl refl there at in
        let same = same_solutions world other differ.typed row.puzzles texts scripts
        (started_alike id row at released started) are
        (subst (λ (r : RoundRow). AreSolutions other r.puzzles scripts) one solve) in
        told ∙ ap reply.Solutions same ∙ sym says

    puzzles_listed : (given answered : Reply) → IsListPuzzlesStep world person given
        → IsListPuzzlesStep other person answered → given ≡ answered
    puzzles_listed given answered told says =
        let passes : PuzzleKey → Bool = λ k. person.roles.director || same_text k.author person.name in
        let left : filter (sees_puzzle person) (values world.puzzles) ≡ filter (sees_puzzle person) (values puzzles) =
        left_same puzzle_total same_puzzle_keys passes (sees_puzzle person) world.puzzles puzzles
        (λ k r at. ap passes (differ.typed.puzzles k r at)) (λ k r at. ap passes (differ.retyped.puzzles k r at))
        (λ k passed. knows k (inl ((text_decides k.author person.name).0
        (ap (λ b. b || same_text k.author person.name) (sym plain) ∙ passed)))) in
        told ∙ ap (λ (rows : List PuzzleRow). reply.ListPuzzles (map puzzle_line rows)) left ∙ sym says

    -- a puzzle that is kept alike
    module _ (key : PuzzleKey) (alike : get world.puzzles key ≡ get puzzles key) where
      one_kept : (row twin : PuzzleRow) → get world.puzzles key ≡ Some row → get puzzles key ≡ Some twin → row ≡ twin
      one_kept row twin kept stands = one_row (get puzzles key) row twin (sym alike ∙ kept) stands

      put : (puzzle : Board) (text : List ℕ) (given answered : Reply) (new changed : World)
          → StandsAlready world key puzzle text given new ⊎ IsPutAnew world key puzzle text given new
          → StandsAlready other key puzzle text answered changed ⊎ IsPutAnew other key puzzle text answered changed
          → AlikeStill given answered new changed
      put puzzle text given answered new changed (inl a) (inl b) = (
        a.3 ∙ ap (λ (r : PuzzleRow). reply.PutPuzzle (state_name r.state) text) (one_kept a.0 b.0 a.1 b.1) ∙ sym b.3,
        nothing a.4 b.4,
      )
      put puzzle text given answered new changed (inl a) (inr b) = absurd (b.0 a.0 (sym alike ∙ a.1) a.2)
      put puzzle text given answered new changed (inr a) (inl b) = absurd (a.0 b.0 (alike ∙ b.1) b.2)
      put puzzle text given answered new changed (inr a) (inr b) =
          (a.1 ∙ sym b.1, by_puzzle key (new_row key puzzle) a.2 b.2)

      puzzle_read : (given answered : Reply) → IsReadPuzzleStep world key given → IsReadPuzzleStep other key answered
          → given ≡ answered
      puzzle_read given answered (row, text, kept, canonical, told) (twin, script, stands, also, says) =
          let rows : row ≡ twin = one_kept row twin kept stands in
          let texts : text ≡ script =
          one_canonical_text text script twin.puzzle (differ.retyped.in_range.puzzles key twin stands).puzzle
          (subst (λ (r : PuzzleRow). CanonicalText text r.puzzle) rows canonical) also in
          told ∙ (λ i. reply.ReadPuzzle key (state_name (rows i).state) (texts i)) ∙ sym says

      certified : (budget : ℕ) (found : PuzzleState) (given answered : Reply) (new changed : World)
          → IsCertifyStep world key budget found given new → IsCertifyStep other key budget found answered changed
          → AlikeStill given answered new changed
      certified budget found given answered new changed (row, kept, inl a) (twin, stands, inl b) = (
        a.told ∙ sym b.told,
        by_puzzle key (record row { state = found }) a.stored (b.stored
            ∙ ap (λ (r : PuzzleRow). record other { puzzles = insert puzzles key (record r { state = found }) })
            (sym (one_kept row twin kept stands))),
      )
      certified budget found given answered new changed (row, kept, inl a) (twin, stands, inr b) = absurd
          (false≢true (sym b.settled ∙ ap (λ (r : PuzzleRow). is_open r.state) (sym (one_kept row twin kept stands))
          ∙ a.unsettled))
      certified budget found given answered new changed (row, kept, inr a) (twin, stands, inl b) = absurd
          (false≢true (sym a.settled ∙ ap (λ (r : PuzzleRow). is_open r.state) (one_kept row twin kept stands)
          ∙ b.unsettled))
      certified budget found given answered new changed (row, kept, inr a) (twin, stands, inr b) = (
        a.told ∙ ap (λ (r : PuzzleRow). reply.Certify (state_name r.state)) (one_kept row twin kept stands)
            ∙ sym b.told,
        nothing a.same b.same,
      )

    -- ---- what is decided alike is answered alike
    no_director : (a : Action) → Contains (rules_asked a) rule.NoRole → may person.roles a ≡ false
        → NoneDecides world (Some person) a t → ⊥
    no_director a asked lacks none = (none rule.NoRole (lit< tt)).0 (asked, (person, refl, lacks))

    protest_ruled : (id entrant token : List ℕ) (ruling : Ruling) (given answered : Reply) (new changed : World)
        → IsRuleProtestStep world id entrant token ruling given new
        → IsRuleProtestStep other id entrant token ruling answered changed → AlikeStill given answered new changed
    protest_ruled id entrant token ruling given answered new changed (row, kept, told, made)
        (twin, found, says, after) =
        let key : ProtestKey = record { entrant = entrant; round = id; token = token } in
        let rows : twin ≡ row = one_row (protest_of world entrant id token) twin row found kept in (
          told ∙ sym says,
          by_protest key (record row { ruling = Some ruling }) made (after ∙ ap (λ (r : ProtestRow). record other
              { protests = insert world.protests key (record r { ruling = Some ruling }) }) rows),
        )

    allowed_alike : (a : Action) (found : PuzzleState) (given answered : Reply) (new changed : World) → IsAction a
        → NoneDecides world (Some person) a t → Allowed world (Some person) a t found given new
        → Allowed other (Some person) (exchanged ex a) t found answered changed → Alike a given answered new changed
    allowed_alike (action.Import people) found given answered new changed is none p q =
        absurd (no_director (action.Import people) (1, lit< tt, refl) plain none)
    allowed_alike (action.PutPuzzle key puzzle) found given answered new changed is none (text, canonical, p)
        (script, also, q) =
        let texts : text ≡ script = one_canonical_text text script puzzle is.1 canonical also in
        put key (own_puzzle (action.PutPuzzle key puzzle) key refl (2, lit< tt, refl) none) puzzle script given answered
        new changed (subst (λ (x : List ℕ). StandsAlready world key puzzle x given new
        ⊎ IsPutAnew world key puzzle x given new) texts p) q
    allowed_alike (action.ReadPuzzle key) found given answered new changed is none p q = (
      puzzle_read key (own_puzzle (action.ReadPuzzle key) key refl (2, lit< tt, refl) none) given answered p.0 q.0,
      nothing p.1 q.1,
    )
    allowed_alike action.ListPuzzles found given answered new changed is none p q =
        by_person _ _ (AlikeStill given answered new changed)
        (λ x y. (puzzles_listed given answered x.0 y.0, nothing x.1 y.1)) p q
    allowed_alike (action.Certify key budget) found given answered new changed is none p q = certified key
        (own_puzzle (action.Certify key budget) key refl (2, lit< tt, refl) none) budget found given answered new
        changed p q
    allowed_alike (action.PutRound id sheet) found given answered new changed is none p q =
        absurd (no_director (action.PutRound id sheet) (1, lit< tt, refl) plain none)
    allowed_alike (action.Release id) found given answered new changed is none p q =
        absurd (no_director (action.Release id) (1, lit< tt, refl) plain none)
    allowed_alike action.ListRounds found given answered new changed is none p q =
        by_person _ _ (AlikeStill given answered new changed) (λ x y. (x.0 ∙ sym y.0, nothing x.1 y.1)) p q
    allowed_alike (action.ReadRound id) found given answered new changed is none p q =
        (read id given answered none p.0 q.0, nothing p.1 q.1)
    allowed_alike (action.Submit id number token answer) found given answered new changed is none p q =
        by_person _ _ (AlikeStill given answered new changed)
        (λ x y. submitted id number token answer given answered new changed none x y) p q
    allowed_alike (action.Answers id) found given answered new changed is none p q =
        by_person _ _ (Alike (action.Answers id) given answered new changed)
        (λ x y. (listed id given answered x.0 y.0, nothing x.1 y.1)) p q
    allowed_alike (action.Solutions id) found given answered new changed is none p q =
        (solved id given answered none p.0 q.0, nothing p.1 q.1)
    allowed_alike (action.Protest id token number text) found given answered new changed is none p q =
        by_person _ _ (AlikeStill given answered new changed) (λ x y.
        let row : ProtestRow = open_protest person id token number text in
        (x.0 ∙ sym y.0, by_protest row.key row x.1 y.1)) p q
    allowed_alike (action.Protests id) found given answered new changed is none p q =
        by_person _ _ (AlikeStill given answered new changed) (λ x y. (x.0 ∙ sym y.0, nothing x.1 y.1)) p q
    allowed_alike (action.RuleProtest id entrant token ruling) found given answered new changed is none p q =
        protest_ruled id entrant token ruling given answered new changed p q
    allowed_alike (action.Publish id) found given answered new changed is none p q =
        absurd (no_director (action.Publish id) (1, lit< tt, refl) plain none)
    allowed_alike (action.Table id) found given answered new changed is none p q = (
      sym (table_read ex hidden differ.apart differ.plain world puzzles answers world.protests differ.typed
          differ.retyped [] [] t looks_alike (Some person) id found found given answered new changed none p q),
      nothing p.1 q.1,
    )

    repeated_alike : (a : Action) (given answered : Reply) → FirstReply world (Some person) a given
        → FirstReply other (Some person) (exchanged ex a) answered → exchanged_reply ex a given ≡ answered
    repeated_alike (action.Submit id number token answer) given answered p q = told_again id number token answer given
        answered p q
    repeated_alike (action.Protest id token number text) given answered p q = by_person _ _ (given ≡ answered)
        (λ x y. x.2 ∙ sym y.2) p q
    repeated_alike (action.RuleProtest id entrant token ruling) given answered (row, ruled, kept, has, told)
        (twin, rules, found, also, says) =
        let rows : row ≡ twin = one_row (protest_of world entrant id token) row twin kept found in
        let rulings : ruled ≡ rules = one_row twin.ruling ruled rules
        (ap (λ (r : ProtestRow). r.ruling) (sym rows) ∙ has) also in
        told ∙ ap reply.RuleProtest rulings ∙ sym says
    repeated_alike _ given answered p q = absurd p

    denied_alike : (a : Action) (given answered : Reply) (k : ℕ) → given ≡ reply.Denied k → answered ≡ reply.Denied k
        → exchanged_reply ex a given ≡ answered
    denied_alike (action.Answers id) given answered k told says = ap (exchanged_reply ex (action.Answers id)) told
        ∙ sym says
    denied_alike _ given answered k told says = told ∙ sym says

    one_decision : (a : Action) (d : Decision) (found : PuzzleState) (given answered : Reply) (new changed : World)
        → IsAction a → First world (Some person) a t d → Decided d world (Some person) a t found given new
        → Decided d other (Some person) (exchanged ex a) t found answered changed → Alike a given answered new changed
    one_decision a (Deny k) found given answered new changed is first p q =
        (denied_alike a given answered k p.0 q.0, nothing p.1 q.1)
    one_decision a Repeat found given answered new changed is first p q =
        (repeated_alike a given answered p.0 q.0, nothing p.1 q.1)
    one_decision a Allow found given answered new changed is first p q = allowed_alike a found given answered new
        changed is first p q

    pub person_answers : (a : Action) (d f : Decision) (found : PuzzleState) (given answered : Reply)
        (new changed : World) → IsAction a → First world (Some person) a t d
        → Decided d world (Some person) a t found given new → First other (Some person) (exchanged ex a) t f
        → Decided f other (Some person) (exchanged ex a) t found answered changed → Alike a given answered new changed
    person_answers a d f found given answered new changed is first p second q =
        let of_own : (key : PuzzleKey) → key.author ≡ person.name → get world.puzzles key ≡ get puzzles key =
        λ key is. knows key (inl is) in
        let same : d ≡ f = same_decisions ex hidden world puzzles answers t differ person plain of_own a d f first
        second in
        one_decision a d found given answered new changed is first p
        (subst (λ (x : Decision). Decided x other (Some person) (exchanged ex a) t found answered changed) (sym same) q)
