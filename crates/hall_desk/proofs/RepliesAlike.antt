-- What two worlds that look alike to a person answer to that person's requests.
use Rattle.std.proofs.Common.{◌≡◌, ◌≢◌, ◌+◌, ◌<◌, ◌≤◌, ◌⊎◌, ◌&&◌, ◌||◌, inl, inr, if◌then◌else◌, ℕ, suc, Bool, true}
use Rattle.std.proofs.Common.{false, not, nat_le, List, [], ◌∷◌, Option, Some, None, Contains, slice_get, map, arith}
use Rattle.std.proofs.Common.{lit<, refl, sym, ap, ◌∙◌, subst}
use Rattle.std.specs.List.{filter}
use Rattle.std.specs.Option.{option_map}
use Rattle.std.specs.FinMap.{FinMap, get, values}
use Rattle.std.proofs.lemmas.Bool.{cases_order, false≢true}
use Rattle.std.proofs.lemmas.Bool.Decides.{nat_tests}
use Rattle.hall_policy.specs.World.{World, puzzle_cmp, answer_cmp, protest_cmp, IsRoundAt, IsTesterOf, answer_of}
use Rattle.hall_policy.specs.World.{end_of, same_text}
use Rattle.hall_policy.specs.Ranges.{IsWorld}
use Rattle.hall_policy.specs.Actions.{rules_asked, may}
use Rattle.hall_policy.specs.Rules.{RoundIsMissing, ReadsAsTester, answers_given}
use Rattle.hall_policy.specs.First.{First, NoneDecides}
use Rattle.hall_policy.specs.declared.record.Person.{Person}
use Rattle.hall_policy.specs.declared.record.PuzzleRow.{PuzzleRow}
use Rattle.hall_policy.specs.declared.record.PuzzleState.{PuzzleState}
use Rattle.hall_policy.specs.declared.record.Round.{Round}
use Rattle.hall_policy.specs.declared.record.Entry.{Entry}
use Rattle.hall_policy.specs.declared.record.RoundRow.{RoundRow}
use Rattle.hall_policy.specs.declared.record.AnswerKey.{AnswerKey}
use Rattle.hall_policy.specs.declared.record.AnswerRow.{AnswerRow}
use Rattle.hall_policy.specs.declared.record.ProtestKey.{ProtestKey}
use Rattle.hall_policy.specs.declared.record.ProtestRow.{ProtestRow}
use Rattle.hall_policy.specs.declared.request.Action.{Action}
use Rattle.hall_policy.specs.declared.request.Action.TheVariants as action
use Rattle.hall_policy.specs.declared.rule.Rule.TheVariants as rule
use Rattle.hall_policy.specs.declared.rule.Decision.{Decision}
use Rattle.hall_policy.specs.declared.rule.Decision.TheVariants.{Allow, Repeat, Deny}
use Rattle.hall_policy.proofs.LoneDecisions.{lone, is_lone, no_key, no_role, asks_for_role, lone_decisions, same_world}
use Rattle.hall_policy.proofs.Orders.{answer_total, same_answer_keys, protest_total, same_protest_keys}
use Rattle.hall_store.specs.Store.{is_of, IsListing}
use Rattle.hall_desk.specs.Judged.{IsVerdictOn}
use Rattle.hall_desk.specs.Totals.{round_answers_by, round_protests_by, AreTotals}
use Rattle.hall_desk.specs.Shown.{is_sealed, told_verdict, shows_verdict, sees_answer, answer_line, sees_protest}
use Rattle.hall_desk.specs.Shown.{protest_line, sees_round, round_line, ShowsRound, AreSolutions}
use Rattle.hall_desk.specs.Step.{Allowed, FirstReply, Decided}
use Rattle.hall_policy.specs.OwnAlike.{is_entrant_alone, seen, as_is, exchanged, OwnAlike}
use Rattle.hall_desk.specs.Alike.{LooksAlike}
use Rattle.hall_desk.specs.Exchanged.{exchanged_line, exchanged_reply}
use Rattle.hall_desk.specs.declared.reply.AnswerLine.{AnswerLine}
use Rattle.hall_desk.specs.declared.reply.Reply.{Reply}
use Rattle.hall_desk.specs.declared.reply.Reply.TheVariants as reply
use Rattle.hall_policy.proofs.Texts.{text_decides, and_first, and_second}
use Rattle.hall_policy.proofs.DecidingAlike.{one_caller, answer_there, given_alike, same_decision}
use Rattle.hall_desk.proofs.VerdictOnce.{one_verdict_on}
use Rattle.hall_desk.proofs.Shows.{one_row, tested_by, one_round_row, shows_tested, totals_tested, same_shown}
use Rattle.hall_desk.proofs.Shows.{same_solutions, IsKeptAlike}
use Rattle.hall_policy.proofs.Viewed.{left_alike, left_same}
use Rattle.hall_desk.proofs.Listings.{same_listing}
use Rattle.hall_desk.proofs.TableOnce.{one_table}

pub le_unless : (a b : ℕ) → ¬ (b < a) → a ≤ b
le_unless a b h = elim (cases_order a b) [
  | inl e ↦ omega (arith, e)
  | inr (inl lt) ↦ omega (arith, lt)
  | inr (inr gt) ↦ absurd (h gt)
]

pub true_unless : (b : Bool) → ¬ (b ≡ false) → b ≡ true
true_unless true h = refl
true_unless false h = absurd (h refl)

mapped_twice : {X Y Z : Type 0} (f : Y → Z) (g : X → Y) (xs : List X) → map f (map g xs) ≡ map (λ x. f (g x)) xs
mapped_twice f g [] = refl
mapped_twice f g (x ∷ xs) = ap (λ zs. f (g x) ∷ zs) (mapped_twice f g xs)

-- where a round's mode is sealed, no verdict is told
told_sealed : (round : Round) (m n : ℕ) → is_sealed round.mode ≡ true → told_verdict round m ≡ told_verdict round n
told_sealed round m n is = ap (λ b. if b then None else Some m) is ∙ sym (ap (λ b. if b then None else Some n) is)

unshown : (a c : Bool) → a ≡ true → c ≡ false → (not a || (c || false)) ≡ false
unshown true false h k = refl
unshown true true h k = let no : true ≡ false = k in absurd (cc)
unshown false c h k = let no : false ≡ true = h in absurd (cc)

not_over : (a b : ℕ) → b < a → nat_le a b ≡ false
not_over a b h = grind (arith, nat_tests)

module _ (ex : List ℕ → List ℕ → List ℕ) (hidden : List ℕ → Bool)
    (apart : (id a b : List ℕ) → ex id a ≡ ex id b → a ≡ b)
    (plain : (id : List ℕ) → hidden id ≡ false → (a : List ℕ) → ex id a ≡ a)
    (world : World) (puzzles : FinMap puzzle_cmp PuzzleRow) (answers : FinMap answer_cmp AnswerRow)
    (protests : FinMap protest_cmp ProtestRow)
    (typed : IsWorld world) (retyped : IsWorld (record world
    { puzzles = puzzles; answers = answers; protests = protests }))
    (name key : List ℕ) (t : ℕ) where
  abbrev pub later : World
  later = record world { puzzles = puzzles; answers = answers; protests = protests }

  abbrev pub e : Person
  e = lone name key

  module _ (look : LooksAlike ex hidden e t world later) where
    -- whoever the caller is found to be is e
    is_e : (person : Person) → Some e ≡ Some person → person ≡ e
    is_e person is = one_caller (Some e) e person refl is

    is_released : (a : Action) (id : List ℕ) (round : Round) → ¬ (RoundIsMissing world (Some e) a id)
        → get world.rounds id ≡ Some round → round.released ≡ true
    is_released a id round there kept =
        true_unless round.released (λ draft. there (λ r at. (
          ap (λ (x : Round). x.released)
              (one_row (get world.rounds id) r round at kept) ∙ draft,
          refl,
        )))

    -- the puzzles of a released round that has started are kept alike
    kept_alike : (id : List ℕ) (row : RoundRow) → IsRoundAt world id row → row.round.released ≡ true
        → row.round.start ≤ t → (k : ℕ) (entry : Entry) → slice_get row.puzzles k ≡ Some entry
        → IsKeptAlike world later typed entry
    kept_alike id row at released started k entry here =
        look.puzzles entry.puzzle (
          id,
          row.round,
          entry,
          at.head,
          released,
          started,
          (suc k, at.list (suc k) ∙ here),
          refl,
        )

    -- so are those of a round that e reads: it has started, or e is its tester
    read_alike : (id : List ℕ) (row : RoundRow) → IsRoundAt world id row → row.round.released ≡ true
        → NoneDecides world (Some e) (action.ReadRound id) t →
        (k : ℕ) (entry : Entry) → slice_get row.puzzles k ≡ Some entry → IsKeptAlike world later typed entry
    read_alike id row at released none k entry here =
        let tester : List ℕ → Option (Unit {0}) = λ round. get world.testers (record { round = round; name = name }) in
        elim (tester id) as (λ (o : Option (Unit {0})). tester id ≡ o → IsKeptAlike world later typed entry) [
          | Some _ ↦ λ tests. look.tested entry.puzzle (id, entry, tests, (suc k, at.list (suc k) ∙ here), refl)
          | None ↦ λ other.
              let no_reading : ¬ (ReadsAsTester world (Some e) (action.ReadRound id)) = λ reads.
              let one : id ≡ reads.2.0 = let both : Some id ≡ Some reads.2.0 = reads.2.2 in cc in
              let own : reads.0.name ≡ name = ap (λ (p : Person). p.name) (is_e reads.0 reads.1) in
              let tests : tester id ≡ Some tt = subst (λ (r : List ℕ). tester r ≡ Some tt) (sym one)
              (subst (λ (n : List ℕ). IsTesterOf world reads.2.0 n) own reads.2.4) in
              let no : None ≡ Some tt = sym other ∙ tests in
              absurd (cc) in
              kept_alike id row at released
              (le_unless row.round.start t (λ early. (none rule.NotStarted (lit< tt)).0
              ((4, lit< tt, refl), (refl, no_reading, (id, row.round, refl, at.head, early)))))
              k entry here
        ] refl

    -- ---- what is told of an answer
    told_alike : (id : List ℕ) (round : Round) (m n : ℕ) → get world.rounds id ≡ Some round
        → (hidden id ≡ false → m ≡ n) → told_verdict round m ≡ told_verdict round n
    told_alike id round m n kept same = elim (hidden id) as (λ b. hidden id ≡ b
        → told_verdict round m ≡ told_verdict round n) [
          | true ↦ λ is. told_sealed round m n (look.sealed id round is kept).0
          | false ↦ λ is. ap (told_verdict round) (same is)
        ] refl

    submitted : (id : List ℕ) (number : ℕ) (token answer : List ℕ) (found again : PuzzleState) (given answered : Reply)
        (new changed : World) →
        NoneDecides world (Some e) (action.Submit id number token answer) t →
        Allowed world (Some e) (action.Submit id number token answer) t found given new →
        Allowed later (Some e) (action.Submit id number token (ex id answer)) t again answered changed
        → answered ≡ given
    submitted id number token answer found again given answered new changed none
        (person, is, (round, entry, puzzle, verdict, kept, place, grid, judged, (told, made)))
        (person', is', (round', entry', puzzle', verdict', kept', place', grid', judged', (told', made'))) =
        let a : Action = action.Submit id number token answer in
        let released = is_released a id round (λ missing. (none rule.Missing (lit< tt)).0
        ((2, lit< tt, refl), inl missing)) kept in
        let started : round.start ≤ t = le_unless round.start t
        (λ early. (none rule.NotStarted (lit< tt)).0 (
          (5, lit< tt, refl),
          (refl, (λ reads. reads), (id, round, refl, kept, early)),
        )) in
        let same_round : round' ≡ round = one_row (get world.rounds id) round' round kept' kept in
        let same_entry : entry' ≡ entry = one_row (get world.places (record { round = id; number = number })) entry'
        entry place' place in
        let alike : get world.puzzles entry.puzzle ≡ get puzzles entry.puzzle = look.puzzles entry.puzzle
        (id, round, entry, kept, released, started, (number, place), refl) in
        let same_puzzle : puzzle' ≡ puzzle = one_row (get puzzles entry.puzzle) puzzle' puzzle
        (ap (λ (x : Entry). get puzzles x.puzzle) (sym same_entry) ∙ grid') (sym alike ∙ grid) in
        let n : answers_given later person'.name id number ≡ answers_given world person.name id number =
        ap (λ (p : Person). answers_given later p.name id number) (is_e person' is')
        ∙ sym (given_alike ex hidden apart world puzzles answers protests typed retyped e look.own id number)
        ∙ ap (λ (p : Person). answers_given world p.name id number) (sym (is_e person is)) in
        let verdicts : hidden id ≡ false → verdict' ≡ verdict = λ plainly.
        one_verdict_on puzzle answer verdict' verdict
        (subst (λ (text : List ℕ). IsVerdictOn puzzle text verdict') (plain id plainly answer)
        (subst (λ (p : PuzzleRow). IsVerdictOn p (ex id answer) verdict') same_puzzle judged'))
        judged in
        told'
        ∙ ap (λ (r : Round). reply.Submit (answers_given later person'.name id number + 1) (told_verdict r verdict'))
        same_round
        ∙ ap (λ (told : Option ℕ). reply.Submit (answers_given later person'.name id number + 1) told)
        (told_alike id round verdict' verdict kept verdicts)
        ∙ ap (λ m. reply.Submit (m + 1) (told_verdict round verdict)) n
        ∙ sym told

    told_again : (id : List ℕ) (number : ℕ) (token answer : List ℕ) (given answered : Reply) →
        FirstReply world (Some e) (action.Submit id number token answer) given →
        FirstReply later (Some e) (action.Submit id number token (ex id answer)) answered → answered ≡ given
    told_again id number token answer given answered (person, is, (round, row, kept, at, told))
        (person', is', (round', row', kept', at', told')) =
        let here : answer_of world name id number token ≡ Some row = ap
        (λ (p : Person). answer_of world p.name id number token) (sym (is_e person is)) ∙ at in
        let there : answer_of later name id number token ≡ Some row' = ap
        (λ (p : Person). answer_of later p.name id number token) (sym (is_e person' is')) ∙ at' in
        let x = answer_there ex hidden apart world puzzles answers protests typed retyped e look.own id number token row
        here in
        let same : x.0 ≡ row' = one_row (answer_of later name id number token) x.0 row' x.1 there in
        let alike : seen ex hidden row ≡ seen as_is hidden row' = x.2 ∙ ap (seen as_is hidden) same in
        let same_round : round' ≡ round = one_row (get world.rounds id) round' round kept' kept in
        let n : row'.n ≡ row.n = ap (λ (r : AnswerRow). r.n) (sym alike) in
        let verdicts : hidden id ≡ false → row'.verdict ≡ row.verdict = λ plainly.
        let own : row.key.round ≡ id = ap (λ (k : AnswerKey). k.round)
        (typed.answers (record { entrant = name; round = id; number = number; token = token }) row here) in
        let also : row'.key.round ≡ id = ap (λ (k : AnswerKey). k.round)
        (retyped.answers (record { entrant = name; round = id; number = number; token = token }) row' there) in
        sym (ap (λ (b : Bool). if b then 0 else row'.verdict) (ap hidden also ∙ plainly))
        ∙ ap (λ (r : AnswerRow). r.verdict) (sym alike)
        ∙ ap (λ (b : Bool). if b then 0 else row.verdict) (ap hidden own ∙ plainly) in
        told'
        ∙ ap (λ (r : Round). reply.Submit row'.n (told_verdict r row'.verdict)) same_round
        ∙ ap (λ (told : Option ℕ). reply.Submit row'.n told)
        (told_alike id round row'.verdict row.verdict kept verdicts)
        ∙ ap (λ m. reply.Submit m (told_verdict round row.verdict)) n
        ∙ sym told

    -- ---- listings
    abbrev sees : List ℕ → AnswerKey → Bool
    sees id k = same_text k.round id && same_text k.entrant name

    lines_alike : (id : List ℕ) (round : Round) → get world.rounds id ≡ Some round → (k : AnswerKey) → sees id k ≡ true
        → (x y : Option AnswerRow) →
        ((r : AnswerRow) → x ≡ Some r → r.key ≡ k) → ((r : AnswerRow) → y ≡ Some r → r.key ≡ k) →
        option_map (seen ex hidden) x ≡ option_map (seen as_is hidden) y →
        option_map (λ r. exchanged_line (ex id) (answer_line (shows_verdict e round t) r)) x ≡ option_map
        (answer_line (shows_verdict e round t)) y
    lines_alike id round kept k passes None None own also alike = refl
    lines_alike id round kept k passes None (Some s) own also alike = let no : None ≡ Some (seen as_is hidden s) =
        alike in absurd (cc)
    lines_alike id round kept k passes (Some r) None own also alike = let no : Some (seen ex hidden r) ≡ None = alike in
        absurd (cc)
    lines_alike id round kept k passes (Some r) (Some s) own also alike =
        let both : Some (seen ex hidden r) ≡ Some (seen as_is hidden s) = alike in
        let same : seen ex hidden r ≡ seen as_is hidden s = cc in
        let in_round : k.round ≡ id = (text_decides k.round id).0 (and_first _ _ passes) in
        let here : r.key.round ≡ id = ap (λ (x : AnswerKey). x.round) (own r refl) ∙ in_round in
        let there : s.key.round ≡ id = ap (λ (x : AnswerKey). x.round) (also s refl) ∙ in_round in
        let answer : ex id r.answer ≡ s.answer = ap (λ (x : List ℕ). ex x r.answer) (sym here)
        ∙ ap (λ (x : AnswerRow). x.answer) same in
        let key_same : r.key ≡ s.key = ap (λ (x : AnswerRow). x.key) same in
        let moment : r.moment ≡ s.moment = ap (λ (x : AnswerRow). x.moment) same in
        let n : r.n ≡ s.n = ap (λ (x : AnswerRow). x.n) same in
        let shows : Bool = shows_verdict e round t in
        let verdict : (if shows then Some r.verdict else None) ≡ (if shows then Some s.verdict else None) =
        elim (hidden id) as (λ b. hidden id ≡ b → (if shows_verdict e round t then Some r.verdict else None) ≡
        (if shows_verdict e round t then Some s.verdict else None)) [
          | true ↦ λ is.
              let sealed = look.sealed id round is kept in
              let none : shows_verdict e round t ≡ false = unshown (is_sealed round.mode) (nat_le (end_of round) t)
              sealed.0 (not_over (end_of round) t sealed.1) in
              ap (λ b. if b then Some r.verdict else None) none
              ∙ sym (ap (λ b. if b then Some s.verdict else None) none)
          | false ↦ λ plainly.
              let one : r.verdict ≡ s.verdict =
              sym (ap (λ (b : Bool). if b then 0 else r.verdict) (ap hidden here ∙ plainly))
              ∙ ap (λ (x : AnswerRow). x.verdict) same
              ∙ ap (λ (b : Bool). if b then 0 else s.verdict) (ap hidden there ∙ plainly) in
              ap (λ (v : ℕ). if shows_verdict e round t then Some v else None) one
        ] refl in
        λ i. Some (record {
          answer = answer i;
          entrant = (key_same i).entrant;
          moment = moment i;
          n = n i;
          number = (key_same i).number;
          token = (key_same i).token;
          verdict = verdict i;
        })

    listed : (id : List ℕ) (found again : PuzzleState) (given answered : Reply) (new changed : World) →
        Allowed world (Some e) (action.Answers id) t found given new → Allowed later (Some e) (action.Answers id) t
        again answered changed →
        answered ≡ exchanged_reply ex (action.Answers id) given
    listed id found again given answered new changed (person, is, ((round, rows, kept, listing, told), same))
        (person', is', ((round', rows', kept', listing', told'), same')) =
        let one : person ≡ e = is_e person is in
        let also : person' ≡ e = is_e person' is' in
        let same_round : round' ≡ round = one_row (get world.rounds id) round' round kept' kept in
        let first = subst (λ (p : Person). IsListing world (sees_answer p round id t) rows) one listing in
        let second = subst (λ (r : Round). IsListing later (sees_answer e r id t) rows') same_round
        (subst (λ (p : Person). IsListing later (sees_answer p round' id t) rows') also listing') in
        let view : AnswerRow → AnswerLine = λ r. exchanged_line (ex id) (answer_line (shows_verdict e round t) r) in
        let late : AnswerRow → AnswerLine = answer_line (shows_verdict e round t) in
        let left : map view (filter (sees_answer e round id t) (values world.answers)) ≡ map late
        (filter (sees_answer e round id t) (values answers)) =
        left_alike answer_total same_answer_keys (sees id) view late (sees_answer e round id t) world.answers answers
        (λ k r at. ap (sees id) (typed.answers k r at)) (λ k r at. ap (sees id) (retyped.answers k r at))
        (λ k passes. lines_alike id round kept k passes (get world.answers k) (get answers k)
        (λ r at. typed.answers k r at) (λ r at. retyped.answers k r at)
        (look.own.answers k ((text_decides k.entrant name).0 (and_second _ _ passes)))) in
        let lines : map view rows ≡ map late rows' =
        same_listing world later id (sees_answer e round id t) view late rows rows' typed
        (λ r passes. (text_decides r.key.round id).0 (and_first _ _ passes)) (λ a b. refl) (λ a b. refl) left first
        second in
        told'
        ∙ ap (λ (r : Round). reply.Answers (map (answer_line (shows_verdict person' r t)) rows')) same_round
        ∙ ap (λ (p : Person). reply.Answers (map (answer_line (shows_verdict p round t)) rows')) also
        ∙ ap reply.Answers (sym lines)
        ∙ ap reply.Answers (sym (mapped_twice (exchanged_line (ex id)) (answer_line (shows_verdict e round t)) rows))
        ∙ ap (λ (p : Person). exchanged_reply ex (action.Answers id)
        (reply.Answers (map (answer_line (shows_verdict p round t)) rows))) (sym one)
        ∙ ap (exchanged_reply ex (action.Answers id)) (sym told)

    read : (id : List ℕ) (found again : PuzzleState) (given answered : Reply) (new changed : World)
        → NoneDecides world (Some e) (action.ReadRound id) t →
        Allowed world (Some e) (action.ReadRound id) t found given new → Allowed later (Some e) (action.ReadRound id) t
        again answered changed → answered ≡ given
    read id found again given answered new changed none ((row, shown, at, shows, told), same)
        ((row', shown', at', shows', told'), same') =
        let a : Action = action.ReadRound id in
        let released = is_released a id row.round (λ missing. (none rule.Missing (lit< tt)).0
        ((2, lit< tt, refl), missing)) at.head in
        let one : row' ≡ tested_by row row'.testers = one_round_row later world id row' row refl refl at' at in
        let shown_same = same_shown world later typed row shown shown' (read_alike id row at released none) shows
        (shows_tested later row row'.testers shown' (subst (λ (r : RoundRow). ShowsRound later r shown') one
        shows')) in
        told' ∙ ap reply.ReadRound (sym shown_same) ∙ sym told

    solved : (id : List ℕ) (found again : PuzzleState) (given answered : Reply) (new changed : World)
        → NoneDecides world (Some e) (action.Solutions id) t →
        Allowed world (Some e) (action.Solutions id) t found given new → Allowed later (Some e) (action.Solutions id) t
        again answered changed → answered ≡ given
    solved id found again given answered new changed none ((row, texts, at, are, told), same)
        ((row', texts', at', are', told'), same') =
        let a : Action = action.Solutions id in
        let released = is_released a id row.round (λ missing. (none rule.Missing (lit< tt)).0
        ((2, lit< tt, refl), missing)) at.head in
        let over : end_of row.round ≤ t = le_unless (end_of row.round) t
        (λ early. (none rule.NotEnded (lit< tt)).0 ((3, lit< tt, refl), (id, row.round, refl, at.head, early))) in
        let started : row.round.start ≤ t = omega (arith, over) in
        let one : row' ≡ tested_by row row'.testers = one_round_row later world id row' row refl refl at' at in
        let texts_same = same_solutions world later typed row.puzzles texts texts'
        (kept_alike id row at released started) are (subst (λ (r : RoundRow). AreSolutions later r.puzzles texts')
        one are') in
        told' ∙ ap reply.Solutions (sym texts_same) ∙ sym told

    protests_listed : (id : List ℕ) (found again : PuzzleState) (given answered : Reply) (new changed : World) →
        Allowed world (Some e) (action.Protests id) t found given new → Allowed later (Some e) (action.Protests id) t
        again answered changed → answered ≡ given
    protests_listed id found again given answered new changed (person, is, (told, same))
        (person', is', (told', same')) =
        let left : filter (sees_protest e id) (values world.protests) ≡ filter (sees_protest e id) (values protests) =
        left_same protest_total same_protest_keys (λ k. same_text k.round id && same_text k.entrant name)
        (sees_protest e id) world.protests protests
        (λ k r at. ap (λ (x : ProtestKey). same_text x.round id && same_text x.entrant name) (typed.protests k r at))
        (λ k r at. ap (λ (x : ProtestKey). same_text x.round id && same_text x.entrant name) (retyped.protests k r at))
        (λ k passes. look.own.protests k ((text_decides k.entrant name).0 (and_second _ _ passes))) in
        told'
        ∙ ap (λ (p : Person). reply.Protests (map protest_line (filter (sees_protest p id) (values protests))))
        (is_e person' is')
        ∙ ap (λ (rows : List ProtestRow). reply.Protests (map protest_line rows)) (sym left)
        ∙ ap (λ (p : Person). reply.Protests (map protest_line (filter (sees_protest p id) (values world.protests))))
        (sym (is_e person is))
        ∙ sym told

    rounds_listed : (found again : PuzzleState) (given answered : Reply) (new changed : World) →
        Allowed world (Some e) action.ListRounds t found given new → Allowed later (Some e) action.ListRounds t again
        answered changed → answered ≡ given
    rounds_listed found again given answered new changed (person, is, (told, same)) (person', is', (told', same')) =
        told'
        ∙ ap (λ (p : Person). reply.ListRounds (map round_line (filter (sees_round p) (values world.rounds))))
        (is_e person' is' ∙ sym (is_e person is))
        ∙ sym told

    -- a table of a published round: anyone's
    pub table_read : (caller : Option Person) (id : List ℕ) (found again : PuzzleState) (given answered : Reply)
        (new changed : World) → NoneDecides world caller (action.Table id) t →
        Allowed world caller (action.Table id) t found given new → Allowed later caller (action.Table id) t again
        answered changed → answered ≡ given
    table_read caller id found again given answered new changed none ((text, (row, at, (totals, are, is)), told), same)
        ((text', (row', at', (totals', are', is')), told'), same') =
        let one : row' ≡ tested_by row row'.testers = one_round_row later world id row' row refl refl at' at in
        let published : row.round.published ≡ true = true_unless row.round.published
        (λ no. (none rule.Published (lit< tt)).0 ((1, lit< tt, refl), (id, row.round, refl, at.head, no))) in
        let by_answers : (entrant : List ℕ) → round_answers_by world id entrant ≡ round_answers_by later id entrant =
        λ entrant.
        left_same answer_total same_answer_keys (λ k. same_text k.round id && same_text k.entrant entrant)
        (is_of entrant id) world.answers answers
        (λ k r here. ap (λ (x : AnswerKey). same_text x.round id && same_text x.entrant entrant)
        (typed.answers k r here))
        (λ k r here. ap (λ (x : AnswerKey). same_text x.round id && same_text x.entrant entrant)
        (retyped.answers k r here))
        (λ k passes. look.answers id row.round at.head published k
        ((text_decides k.round id).0 (and_first _ _ passes))) in
        let by_protests : (entrant : List ℕ) → round_protests_by world id entrant ≡ round_protests_by later id entrant =
        λ entrant.
        left_same protest_total same_protest_keys (λ k. same_text k.round id && same_text k.entrant entrant)
        (λ r. same_text r.key.round id && same_text r.key.entrant entrant) world.protests protests
        (λ k r here. ap (λ (x : ProtestKey). same_text x.round id && same_text x.entrant entrant)
        (typed.protests k r here))
        (λ k r here. ap (λ (x : ProtestKey). same_text x.round id && same_text x.entrant entrant)
        (retyped.protests k r here))
        (λ k passes. look.protests id row.round at.head published k
        ((text_decides k.round id).0 (and_first _ _ passes))) in
        let text_same : text ≡ text' = one_table world later id row totals totals' text text' by_answers by_protests are
        (totals_tested later id row row'.testers totals'
        (subst (λ (r : RoundRow). AreTotals later id r totals') one are')) is is' in
        told' ∙ ap reply.Table (sym text_same) ∙ sym told

    -- ---- what is decided alike is answered alike
    allowed_alike : (a : Action) (found again : PuzzleState) (given answered : Reply) (new changed : World)
        → may e.roles a ≡ true → NoneDecides world (Some e) a t →
        Allowed world (Some e) a t found given new → Allowed later (Some e) (exchanged ex a) t again answered changed
        → answered ≡ exchanged_reply ex a given
    allowed_alike (action.Submit id number token answer) found again given answered new changed may none h k = submitted
        id number token answer found again given answered new changed none h k
    allowed_alike (action.Answers id) found again given answered new changed may none h k = listed id found again given
        answered new changed h k
    allowed_alike (action.ReadRound id) found again given answered new changed may none h k = read id found again given
        answered new changed none h k
    allowed_alike (action.Solutions id) found again given answered new changed may none h k = solved id found again
        given answered new changed none h k
    allowed_alike (action.Protests id) found again given answered new changed may none h k = protests_listed id found
        again given answered new changed h k
    allowed_alike action.ListRounds found again given answered new changed may none h k = rounds_listed found again
        given answered new changed h k
    allowed_alike (action.Table id) found again given answered new changed may none h k = table_read (Some e) id found
        again given answered new changed none h k
    allowed_alike (action.Protest id token number text) found again given answered new changed may none
        (person, is, (told, made)) (person', is', (told', made')) = told' ∙ sym told
    allowed_alike (action.Import people) found again given answered new changed may none h k = absurd (false≢true may)
    allowed_alike (action.PutPuzzle puzzle_key puzzle) found again given answered new changed may none h k = absurd
        (false≢true may)
    allowed_alike (action.ReadPuzzle puzzle_key) found again given answered new changed may none h k = absurd
        (false≢true may)
    allowed_alike action.ListPuzzles found again given answered new changed may none h k = absurd (false≢true may)
    allowed_alike (action.Certify puzzle_key budget) found again given answered new changed may none h k = absurd
        (false≢true may)
    allowed_alike (action.PutRound id sheet) found again given answered new changed may none h k = absurd
        (false≢true may)
    allowed_alike (action.Release id) found again given answered new changed may none h k = absurd (false≢true may)
    allowed_alike (action.RuleProtest id entrant token ruling) found again given answered new changed may none h k =
        absurd (false≢true may)
    allowed_alike (action.Publish id) found again given answered new changed may none h k = absurd (false≢true may)

    repeated_alike : (a : Action) (given answered : Reply) → may e.roles a ≡ true → FirstReply world (Some e) a given
        → FirstReply later (Some e) (exchanged ex a) answered → answered ≡ exchanged_reply ex a given
    repeated_alike (action.Submit id number token answer) given answered may h k = told_again id number token answer
        given answered h k
    repeated_alike (action.Protest id token number text) given answered may (person, is, (row, at, told))
        (person', is', (row', at', told')) = told' ∙ sym told
    repeated_alike (action.RuleProtest id entrant token ruling) given answered may h k = absurd (false≢true may)
    repeated_alike _ given answered may h k = absurd h

    denied_alike : (a : Action) (given answered : Reply) (k : ℕ) → given ≡ reply.Denied k → answered ≡ reply.Denied k
        → answered ≡ exchanged_reply ex a given
    denied_alike (action.Answers id) given answered k told told' = told' ∙ ap (exchanged_reply ex (action.Answers id))
        (sym told)
    denied_alike _ given answered k told told' = told' ∙ sym told

    one_decision : (a : Action) (d : Decision) (found again : PuzzleState) (given answered : Reply)
        (new changed : World) → may e.roles a ≡ true → First world (Some e) a t d →
        Decided d world (Some e) a t found given new → Decided d later (Some e) (exchanged ex a) t again answered
        changed → answered ≡ exchanged_reply ex a given
    one_decision a (Deny k) found again given answered new changed h first p q = denied_alike a given answered k p.0 q.0
    one_decision a Repeat found again given answered new changed h first p q = repeated_alike a given answered h p.0 q.0
    one_decision a Allow found again given answered new changed h first p q = allowed_alike a found again given answered
        new changed h first p q

    pub lone_answers : (a : Action) (d f : Decision) (found again : PuzzleState) (given answered : Reply)
        (new changed : World) →
        First world (Some e) a t d → Decided d world (Some e) a t found given new →
        First later (Some e) (exchanged ex a) t f → Decided f later (Some e) (exchanged ex a) t again answered changed
        → answered ≡ exchanged_reply ex a given
    lone_answers a d f found again given answered new changed first p second q =
        let same : d ≡ f = lone_decisions ex hidden apart world puzzles answers protests typed retyped name key t
        look.own a d f first second in
        let there = subst (λ (x : Decision). Decided x later (Some e) (exchanged ex a) t again answered changed)
        (sym same) q in
        elim (may e.roles a) as (λ b. may e.roles a ≡ b → answered ≡ exchanged_reply ex a given) [
          | true ↦ λ h. one_decision a d found again given answered new changed h first p there
          | false ↦ λ h.
              let here : d ≡ Deny 2 = no_role world e a t d h (asks_for_role name key a h) first in
              let denied = subst (λ (x : Decision). Decided x world (Some e) a t found given new) here p in
              let refused = subst (λ (x : Decision). Decided x later (Some e) (exchanged ex a) t again answered changed)
              here there in
              denied_alike a given answered 2 denied.0 refused.0
        ] refl

    -- ---- a request whose key is unknown
    asks_key : (a : Action) → ((id : List ℕ) → a ≢ action.Table id) → Contains (rules_asked a) rule.UnknownKey
    asks_key (action.Table id) h = absurd (h id refl)
    asks_key _ h = (0, lit< tt, refl)

    own_none : (person : Person) → None ≡ Some person → OwnAlike ex hidden person world later
    own_none person is = absurd (cc)

    table_for : (id : List ℕ) (d : Decision) (found again : PuzzleState) (given answered : Reply) (new changed : World)
        → First world None (action.Table id) t d →
        Decided d world None (action.Table id) t found given new → Decided d later None (action.Table id) t again
        answered changed → answered ≡ given
    table_for id (Deny k) found again given answered new changed first p q = q.0 ∙ sym p.0
    table_for id Repeat found again given answered new changed first p q = absurd p.0
    table_for id Allow found again given answered new changed first p q = table_read None id found again given answered
        new changed first p q

    no_table : (a : Action) → ((id : List ℕ) → a ≢ action.Table id) → (id : List ℕ) → exchanged ex a ≢ action.Table id
    no_table (action.Submit round number token answer) h id same = h id
        (absurd (let no : action.Submit round number token (ex round answer) ≡ action.Table id = same in cc))
    no_table (action.Import people) h id same = h id same
    no_table _ h id same = h id same

    refused_alike : (a : Action) → ((id : List ℕ) → a ≢ action.Table id) → (d f : Decision) (found again : PuzzleState)
        (given answered : Reply) (new changed : World) →
        First world None a t d → Decided d world None a t found given new →
        First later None (exchanged ex a) t f → Decided f later None (exchanged ex a) t again answered changed
        → answered ≡ exchanged_reply ex a given
    refused_alike a other d f found again given answered new changed first p second q =
        let here : d ≡ Deny 1 = no_key world a t d (asks_key a other) first in
        let there : f ≡ Deny 1 = no_key later (exchanged ex a) t f (asks_key (exchanged ex a) (no_table a other))
        second in
        let denied = subst (λ (x : Decision). Decided x world None a t found given new) here p in
        let refused = subst (λ (x : Decision). Decided x later None (exchanged ex a) t again answered changed) there
        q in
        denied_alike a given answered 1 denied.0 refused.0

    pub stranger_answers : (a : Action) (d f : Decision) (found again : PuzzleState) (given answered : Reply)
        (new changed : World) →
        First world None a t d → Decided d world None a t found given new →
        First later None (exchanged ex a) t f → Decided f later None (exchanged ex a) t again answered changed
        → answered ≡ exchanged_reply ex a given
    stranger_answers (action.Table id) d f found again given answered new changed first p second q =
        let same : d ≡ f = same_decision ex hidden apart world puzzles answers protests typed retyped None own_none t
        (action.Table id) tt d f first second in
        table_for id d found again given answered new changed first p
        (subst (λ (x : Decision). Decided x later None (action.Table id) t again answered changed) (sym same) q)
    stranger_answers (action.Import people) d f found again given answered new changed first p second q = refused_alike
        (action.Import people) (λ id e. absurd (cc)) d f found again given answered new changed first p second q
    stranger_answers (action.PutPuzzle a b) d f found again given answered new changed first p second q = refused_alike
        (action.PutPuzzle a b) (λ id e. absurd (cc)) d f found again given answered new changed first p second q
    stranger_answers (action.ReadPuzzle a) d f found again given answered new changed first p second q = refused_alike
        (action.ReadPuzzle a) (λ id e. absurd (cc)) d f found again given answered new changed first p second q
    stranger_answers action.ListPuzzles d f found again given answered new changed first p second q = refused_alike
        action.ListPuzzles (λ id e. absurd (cc)) d f found again given answered new changed first p second q
    stranger_answers (action.Certify a b) d f found again given answered new changed first p second q = refused_alike
        (action.Certify a b) (λ id e. absurd (cc)) d f found again given answered new changed first p second q
    stranger_answers (action.PutRound a b) d f found again given answered new changed first p second q = refused_alike
        (action.PutRound a b) (λ id e. absurd (cc)) d f found again given answered new changed first p second q
    stranger_answers (action.Release a) d f found again given answered new changed first p second q = refused_alike
        (action.Release a) (λ id e. absurd (cc)) d f found again given answered new changed first p second q
    stranger_answers action.ListRounds d f found again given answered new changed first p second q = refused_alike
        action.ListRounds (λ id e. absurd (cc)) d f found again given answered new changed first p second q
    stranger_answers (action.ReadRound a) d f found again given answered new changed first p second q = refused_alike
        (action.ReadRound a) (λ id e. absurd (cc)) d f found again given answered new changed first p second q
    stranger_answers (action.Submit a b c g) d f found again given answered new changed first p second q = refused_alike
        (action.Submit a b c g) (λ id e. absurd (cc)) d f found again given answered new changed first p second q
    stranger_answers (action.Answers a) d f found again given answered new changed first p second q = refused_alike
        (action.Answers a) (λ id e. absurd (cc)) d f found again given answered new changed first p second q
    stranger_answers (action.Solutions a) d f found again given answered new changed first p second q = refused_alike
        (action.Solutions a) (λ id e. absurd (cc)) d f found again given answered new changed first p second q
    stranger_answers (action.Protest a b c g) d f found again given answered new changed first p second q =
        refused_alike (action.Protest a b c g) (λ id e. absurd (cc)) d f found again given answered new changed first p
        second q
    stranger_answers (action.Protests a) d f found again given answered new changed first p second q = refused_alike
        (action.Protests a) (λ id e. absurd (cc)) d f found again given answered new changed first p second q
    stranger_answers (action.RuleProtest a b c g) d f found again given answered new changed first p second q =
        refused_alike (action.RuleProtest a b c g) (λ id e. absurd (cc)) d f found again given answered new changed
        first p second q
    stranger_answers (action.Publish a) d f found again given answered new changed first p second q = refused_alike
        (action.Publish a) (λ id e. absurd (cc)) d f found again given answered new changed first p second q

-- two worlds that look alike to a person who holds the role entrant alone answer the person's requests alike
pub entrant_answers : (ex : List ℕ → List ℕ → List ℕ) (hidden : List ℕ → Bool)
    → ((id a b : List ℕ) → ex id a ≡ ex id b → a ≡ b) → ((id : List ℕ) → hidden id ≡ false → (a : List ℕ) → ex id a ≡ a)
    →
    (world other : World) → world.people ≡ other.people → world.rounds ≡ other.rounds → world.places ≡ other.places
    → world.testers ≡ other.testers → IsWorld world → IsWorld other →
    (person : Person) → is_entrant_alone person ≡ true → (t : ℕ) → LooksAlike ex hidden person t world other
    → (caller also : Option Person) → caller ≡ Some person → also ≡ Some person →
    (a : Action) (d f : Decision) (found again : PuzzleState) (given answered : Reply) (new changed : World) →
    First world caller a t d → Decided d world caller a t found given new →
    First other also (exchanged ex a) t f → Decided f other also (exchanged ex a) t again answered changed
    → answered ≡ exchanged_reply ex a given
entrant_answers ex hidden apart plain world other people rounds places testers typed retyped person alone t look caller
    also is same a d f found again given answered new changed =
    let Claim : World → Person → Option Person → Option Person → Type 0 = λ w p c b.
    IsWorld w → LooksAlike ex hidden p t world w → First world c a t d → Decided d world c a t found given new →
    First w b (exchanged ex a) t f → Decided f w b (exchanged ex a) t again answered changed
    → answered ≡ exchanged_reply ex a given in
    let one : Person = lone person.name person.key in
    let base : Claim (record world { puzzles = other.puzzles; answers = other.answers; protests = other.protests }) one
    (Some one) (Some one) = λ right alike.
    lone_answers ex hidden apart plain world other.puzzles other.answers other.protests typed right person.name
    person.key t alike a d f found again given answered new changed in
    let moved : Claim other one (Some one) (Some one) = subst (λ (w : World). Claim w one (Some one) (Some one))
    (same_world world other people rounds places testers) base in
    let of_person : Claim other person (Some person) (Some person) = subst
    (λ (p : Person). Claim other p (Some p) (Some p)) (sym (is_lone person alone)) moved in
    let of_caller : Claim other person caller (Some person) = subst
    (λ (c : Option Person). Claim other person c (Some person)) (sym is) of_person in
    let of_both : Claim other person caller also = subst (λ (c : Option Person). Claim other person caller c) (sym same)
    of_caller in
    of_both retyped look

-- so do they where the key is unknown
pub unknown_answers : (ex : List ℕ → List ℕ → List ℕ) (hidden : List ℕ → Bool)
    → ((id a b : List ℕ) → ex id a ≡ ex id b → a ≡ b) → ((id : List ℕ) → hidden id ≡ false → (a : List ℕ) → ex id a ≡ a)
    →
    (world other : World) → world.people ≡ other.people → world.rounds ≡ other.rounds → world.places ≡ other.places
    → world.testers ≡ other.testers → IsWorld world → IsWorld other →
    (person : Person) → is_entrant_alone person ≡ true → (t : ℕ) → LooksAlike ex hidden person t world other
    → (caller also : Option Person) → caller ≡ None → also ≡ None →
    (a : Action) (d f : Decision) (found again : PuzzleState) (given answered : Reply) (new changed : World) →
    First world caller a t d → Decided d world caller a t found given new →
    First other also (exchanged ex a) t f → Decided f other also (exchanged ex a) t again answered changed
    → answered ≡ exchanged_reply ex a given
unknown_answers ex hidden apart plain world other people rounds places testers typed retyped person alone t look caller
    also is same a d f found again given answered new changed =
    let Claim : World → Person → Option Person → Option Person → Type 0 = λ w p c b.
    IsWorld w → LooksAlike ex hidden p t world w → First world c a t d → Decided d world c a t found given new →
    First w b (exchanged ex a) t f → Decided f w b (exchanged ex a) t again answered changed
    → answered ≡ exchanged_reply ex a given in
    let one : Person = lone person.name person.key in
    let base : Claim (record world { puzzles = other.puzzles; answers = other.answers; protests = other.protests }) one
    None None = λ right alike.
    stranger_answers ex hidden apart plain world other.puzzles other.answers other.protests typed right person.name
    person.key t alike a d f found again given answered new changed in
    let moved : Claim other one None None = subst (λ (w : World). Claim w one None None)
    (same_world world other people rounds places testers) base in
    let of_person : Claim other person None None = subst (λ (p : Person). Claim other p None None)
    (sym (is_lone person alone)) moved in
    let of_caller : Claim other person caller None = subst (λ (c : Option Person). Claim other person c None) (sym is)
    of_person in
    let of_both : Claim other person caller also = subst (λ (c : Option Person). Claim other person caller c) (sym same)
    of_caller in
    of_both retyped look

-- the caller is the person, or the key is unknown
abbrev pub IsAtMost : Option Person → Person → Type 0
IsAtMost caller person = (caller ≡ Some person) ⊎ (caller ≡ None)

pub either_answers : (ex : List ℕ → List ℕ → List ℕ) (hidden : List ℕ → Bool)
    → ((id a b : List ℕ) → ex id a ≡ ex id b → a ≡ b) → ((id : List ℕ) → hidden id ≡ false → (a : List ℕ) → ex id a ≡ a)
    →
    (world other : World) → world.people ≡ other.people → world.rounds ≡ other.rounds → world.places ≡ other.places
    → world.testers ≡ other.testers → IsWorld world → IsWorld other →
    (person : Person) → is_entrant_alone person ≡ true → (t : ℕ) → LooksAlike ex hidden person t world other
    → (caller also : Option Person) → also ≡ caller → IsAtMost caller person →
    (a : Action) (d f : Decision) (found again : PuzzleState) (given answered : Reply) (new changed : World) →
    First world caller a t d → Decided d world caller a t found given new →
    First other also (exchanged ex a) t f → Decided f other also (exchanged ex a) t again answered changed
    → answered ≡ exchanged_reply ex a given
either_answers ex hidden apart plain world other people rounds places testers typed retyped person alone t look caller
    also same (inl is) = entrant_answers ex hidden apart plain world other people rounds places testers typed retyped
    person alone t look caller also is (same ∙ is)
either_answers ex hidden apart plain world other people rounds places testers typed retyped person alone t look caller
    also same (inr is) = unknown_answers ex hidden apart plain world other people rounds places testers typed retyped
    person alone t look caller also is (same ∙ is)

-- ---- where no text is exchanged
lines_stand : (lines : List AnswerLine) (id : List ℕ) → map (exchanged_line (as_is id)) lines ≡ lines
lines_stand [] id = refl
lines_stand (line ∷ lines) id = ap (λ ls. line ∷ ls) (lines_stand lines id)

reply_of : (id : List ℕ) (given : Reply) → exchanged_reply as_is (action.Answers id) given ≡ given
reply_of id (reply.Answers lines) = ap reply.Answers (lines_stand lines id)
reply_of id _ = refl

pub reply_stands : (a : Action) (given : Reply) → exchanged_reply as_is a given ≡ given
reply_stands (action.Answers id) given = reply_of id given
reply_stands _ given = refl
