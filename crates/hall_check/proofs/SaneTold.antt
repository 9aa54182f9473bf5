-- A world against which a check found nothing is sane.
use Rattle.std.proofs.Common.{◌≡◌, ◌≢◌, ◌≤◌, ◌==◌, ◌&&◌, ◌∷◌, [], ◌+◌, ℕ, zero, suc, Bool, true, false, cond, List}
use Rattle.std.proofs.Common.{Option, Some, None, Contains, slice_get, refl, sym, ap, ◌∙◌, subst, arith}
use Rattle.std.specs.Cmp.{unsigned_Decides}
use Rattle.std.specs.FinMap.{get, entries, values}
use Rattle.std.specs.List.{count_by, find}
use Rattle.std.proofs.lemmas.List.Sums.{sum_by-cons}
use Rattle.hall_policy.specs.Limits.{most_answers, most_protests, most_puzzles}
use Rattle.hall_policy.specs.Ranges.{AreRowsInRange}
use Rattle.hall_policy.specs.Rules.{StandsReleased, IsCertified, answers_given, protests_made, puzzles_put}
use Rattle.hall_policy.specs.World.{World, same_text}
use Rattle.hall_policy.specs.declared.record.Person.{Person}
use Rattle.hall_policy.specs.declared.record.PuzzleKey.{PuzzleKey}
use Rattle.hall_policy.specs.declared.record.PuzzleRow.{PuzzleRow}
use Rattle.hall_policy.specs.declared.record.Round.{Round}
use Rattle.hall_policy.specs.declared.record.Entry.{Entry}
use Rattle.hall_policy.specs.declared.record.PlaceKey.{PlaceKey}
use Rattle.hall_policy.specs.declared.record.TesterKey.{TesterKey}
use Rattle.hall_policy.specs.declared.record.AnswerKey.{AnswerKey}
use Rattle.hall_policy.specs.declared.record.AnswerRow.{AnswerRow}
use Rattle.hall_policy.specs.declared.record.ProtestKey.{ProtestKey}
use Rattle.hall_policy.specs.declared.record.ProtestRow.{ProtestRow}
use Rattle.hall_policy.proofs.Maps.{value_of_get, counted}
use Rattle.hall_policy.proofs.Orders.{text_total, same_texts, puzzle_total, same_puzzle_keys, place_total}
use Rattle.hall_policy.proofs.Orders.{same_place_keys, tester_total, same_tester_keys, answer_total, same_answer_keys}
use Rattle.hall_policy.proofs.Orders.{protest_total, same_protest_keys}
use Rattle.hall_policy.proofs.Texts.{text_decides, and_first, and_second}
use Rattle.hall_store.proofs.Tests.{and_both, contained, placed, later, find-None, find-Contains}
use Rattle.hall_check.specs.Checked.{AreAllTold, AreStatesAsked, AreStatesTrue, all_sentences}
use Rattle.hall_check.specs.Checks.{AreTold, TellsSentence}
use Rattle.hall_check.specs.Finds.{EveryRow}
use Rattle.hall_desk.specs.Lookups.{IsReleasedRound}
use Rattle.hall_desk.specs.Sane.{Sane, IsTrueState, IsPlaceThere, IsVerdictAt, MayTakePart}
use Rattle.hall_check.specs.Sentences.{is_numbered_alike, HasOwnKey, HasRolesApart, IsKnown, HasFewPuzzles, HasList}
use Rattle.hall_check.specs.Sentences.{HasFewTesters, IsReleasedFirst, IsRoundThere, HasPuzzle, IsCertifiedFirst}
use Rattle.hall_check.specs.Sentences.{IsInNoOther, IsAnswerNumbered, IsNumberedOnce, IsOneOfFewAnswers, IsRuledFirst}
use Rattle.hall_check.specs.Sentences.{IsOneOfFewProtests}
use Rattle.hall_check.specs.Whole.{world_of_whole}
use Rattle.hall_check.specs.declared.sentence.Breaches.{Breaches}
use Rattle.hall_check.specs.declared.sentence.Sentence.{Sentence}
use Rattle.hall_check.specs.declared.sentence.Sentence.TheVariants as sentence
use Rattle.hall_check.specs.declared.puzzle_states.States.{States}
use Rattle.hall_check.specs.declared.whole.Whole.{Whole}
use Rattle.hall_check.proofs.Asking.{all_true}
use Rattle.hall_check.proofs.OwnRows.{own_row}
use Rattle.hall_check.proofs.Standing.{entry_of_get}
use Rattle.hall_check.proofs.StateTelling.{all_states_true}
use Rattle.hall_check.proofs.WholeLists.{whole_list}

-- what is told of the sentence at a place in the list
told_at : (world : World) (sentences : List Sentence) (told : List Breaches) → AreTold world sentences told
    → EveryRow (λ found. found.first.items ≡ []) told → (k : ℕ) (sentence : Sentence)
    → slice_get sentences k ≡ Some sentence →
    (found : Breaches) × TellsSentence world sentence found × (found.first.items ≡ [])
told_at world [] told are none k sentence at = absurd (cc)
told_at world (s ∷ ss) [] are none k sentence at = absurd are
told_at world (s ∷ ss) (f ∷ fs) (own, tells, rest) none zero sentence at =
    let first : Some s ≡ Some sentence = at in
    let same : s ≡ sentence = cc in
    (f, subst (λ (x : Sentence). TellsSentence world x f) same tells, none f (contained (f ∷ fs) f 0 refl))
told_at world (s ∷ ss) (f ∷ fs) (own, tells, rest) none (suc k) sentence at = told_at world ss fs rest
    (λ found among. none found (later f fs found among)) k sentence at

-- ---- counts
count_cons : {X : Type 0} (p : X → Bool) (x : X) (xs : List X) → count_by p (x ∷ xs) ≡ cond (p x) 1 0 + count_by p xs
count_cons p x xs = sum_by-cons (λ y. cond (p y) 1 0) x xs

-- of the rows that pass where at most one does, each two are one
only_one : {X : Type 0} (p : X → Bool) (xs : List X) (i j : ℕ) (a b : X) → count_by p xs ≤ 1 → slice_get xs i ≡ Some a
    → slice_get xs j ≡ Some b → p a ≡ true → p b ≡ true → a ≡ b
only_one p [] i j a b few at_a at_b is_a is_b = absurd (cc)
only_one p (x ∷ xs) zero zero a b few at_a at_b is_a is_b = let one : Some x ≡ Some a = at_a in let other : Some x ≡
    Some b = at_b in cc
only_one {X} p (x ∷ xs) zero (suc j) a b few at_a at_b is_a is_b =
    let one : Some x ≡ Some a = at_a in
    let same : x ≡ a = cc in
    let here : (let n : ℕ = cond (p x) 1 0 in n) ≡ 1 = ap (λ (y : X). let n : ℕ = cond (p y) 1 0 in n) same
    ∙ ap (λ (t : Bool). let n : ℕ = cond t 1 0 in n) is_a in
    let later_one : 1 ≤ count_by p xs = counted p xs b (contained xs b j at_b) is_b in
    absurd (omega (arith, count_cons p x xs, here, later_one, few))
only_one {X} p (x ∷ xs) (suc i) zero a b few at_a at_b is_a is_b =
    let one : Some x ≡ Some b = at_b in
    let same : x ≡ b = cc in
    let here : (let n : ℕ = cond (p x) 1 0 in n) ≡ 1 = ap (λ (y : X). let n : ℕ = cond (p y) 1 0 in n) same
    ∙ ap (λ (t : Bool). let n : ℕ = cond t 1 0 in n) is_b in
    let later_one : 1 ≤ count_by p xs = counted p xs a (contained xs a i at_a) is_a in
    absurd (omega (arith, count_cons p x xs, here, later_one, few))
only_one p (x ∷ xs) (suc i) (suc j) a b few at_a at_b is_a is_b = only_one p xs i j a b
    (omega (arith, count_cons p x xs, few)) at_a at_b is_a is_b

one_of : {X : Type 0} (p : X → Bool) (xs : List X) (a b : X) → count_by p xs ≤ 1 → Contains xs a → Contains xs b
    → p a ≡ true → p b ≡ true → a ≡ b
one_of p xs a b few in_a in_b is_a is_b = let at = placed xs a in_a in let other = placed xs b in_b in only_one p xs
    at.0 other.0 a b few at.1 other.1 is_a is_b

-- a count is low where each row that counts says so
low_count : {X : Type 0} (p : X → Bool) (xs : List X) (most : ℕ)
    → ((x : X) → Contains xs x → p x ≡ true → count_by p xs ≤ most) → count_by p xs ≤ most
low_count {X} p xs most says = elim (find p xs) as (λ o. find p xs ≡ o → count_by p xs ≤ most) [
  | None ↦ λ none. let zero_count = count_none xs (find-None p xs none) in omega (arith, zero_count)
  | Some x ↦ λ at. let is = find-Contains p xs x at in says x is.0 is.1
] refl
  where
    count_none : (ys : List X) → ((x : X) → Contains ys x → p x ≡ false) → count_by p ys ≡ 0
    count_none [] off = refl
    count_none (y ∷ ys) off =
        let here : (let n : ℕ = cond (p y) 1 0 in n) ≡ 0 = ap (λ (t : Bool). let n : ℕ = cond t 1 0 in n)
        (off y (contained (y ∷ ys) y 0 refl)) in
        let rest = count_none ys (λ x among. off x (later y ys x among)) in
        omega (arith, count_cons p y ys, here, rest)

module _ (whole : Whole) (told : List Breaches) (are : AreAllTold (world_of_whole whole) told)
    (none : EveryRow (λ found. found.first.items ≡ []) told)
    (true_states : EveryRow (λ row. IsTrueState row.puzzle row.state) (values (world_of_whole whole).puzzles))
    (ranges : AreRowsInRange (world_of_whole whole)) where
  abbrev W : World
  W = world_of_whole whole

  at : (k : ℕ) (sentence : Sentence) → slice_get all_sentences k ≡ Some sentence → (found : Breaches)
      × TellsSentence W sentence found × (found.first.items ≡ [])
  at k sentence is = told_at W all_sentences told are none k sentence is

  own_key : EveryRow (HasOwnKey W) (values W.people)
  own_key = let f = at 0 sentence.OwnKey refl in all_true f.1 f.2

  roles_apart : EveryRow HasRolesApart (values W.people)
  roles_apart = let f = at 1 sentence.RolesApart refl in all_true f.1 f.2

  author_there : EveryRow (λ (row : PuzzleRow). IsKnown W row.key.author) (values W.puzzles)
  author_there = let f = at 2 sentence.AuthorThere refl in all_true f.1 f.2

  few_puzzles : EveryRow (HasFewPuzzles W) (values W.puzzles)
  few_puzzles = let f = at 3 sentence.FewPuzzles refl in all_true f.1 f.2

  list_whole : EveryRow (λ (round : Round). HasList W round.id) (values W.rounds)
  list_whole = let f = at 5 sentence.ListWhole refl in all_true f.1 f.2

  few_testers : EveryRow (λ (round : Round). HasFewTesters W round.id) (values W.rounds)
  few_testers = let f = at 6 sentence.FewTesters refl in all_true f.1 f.2

  released_first : EveryRow IsReleasedFirst (values W.rounds)
  released_first = let f = at 7 sentence.ReleasedFirst refl in all_true f.1 f.2

  entry_home : EveryRow (λ (place : PlaceKey × Entry). IsRoundThere W place.0.round) (entries W.places)
  entry_home = let f = at 8 sentence.EntryHome refl in all_true f.1 f.2

  puzzle_there : EveryRow (λ (place : PlaceKey × Entry). HasPuzzle W place.1) (entries W.places)
  puzzle_there = let f = at 9 sentence.PuzzleThere refl in all_true f.1 f.2

  certified_first : EveryRow (IsCertifiedFirst W) (entries W.places)
  certified_first = let f = at 10 sentence.CertifiedFirst refl in all_true f.1 f.2

  in_no_other : EveryRow (IsInNoOther W) (entries W.places)
  in_no_other = let f = at 11 sentence.InNoOther refl in all_true f.1 f.2

  tester_home : EveryRow (λ (tester : TesterKey × Unit {0}). IsRoundThere W tester.0.round) (entries W.testers)
  tester_home = let f = at 12 sentence.TesterHome refl in all_true f.1 f.2

  tester_there : EveryRow (λ (tester : TesterKey × Unit {0}). IsKnown W tester.0.name) (entries W.testers)
  tester_there = let f = at 13 sentence.TesterThere refl in all_true f.1 f.2

  answerer_there : EveryRow (λ (row : AnswerRow). IsKnown W row.key.entrant) (values W.answers)
  answerer_there = let f = at 14 sentence.AnswererThere refl in all_true f.1 f.2

  answered_there : EveryRow (λ (row : AnswerRow). IsPlaceThere W row.key.round row.key.number) (values W.answers)
  answered_there = let f = at 15 sentence.AnsweredThere refl in all_true f.1 f.2

  answer_released : EveryRow (λ (row : AnswerRow). IsReleasedRound W row.key.round) (values W.answers)
  answer_released = let f = at 16 sentence.AnswerReleased refl in all_true f.1 f.2

  may_answer : EveryRow (λ (row : AnswerRow). MayTakePart W row.key.entrant row.key.round) (values W.answers)
  may_answer = let f = at 17 sentence.MayAnswer refl in all_true f.1 f.2

  verdict_true : EveryRow (λ (row : AnswerRow). IsVerdictAt W row.key.round row.key.number row) (values W.answers)
  verdict_true = let f = at 18 sentence.VerdictTrue refl in all_true f.1 f.2

  numbered : EveryRow (IsAnswerNumbered W) (values W.answers)
  numbered = let f = at 19 sentence.Numbered refl in all_true f.1 f.2

  numbered_once : EveryRow (IsNumberedOnce W) (values W.answers)
  numbered_once = let f = at 20 sentence.NumberedOnce refl in all_true f.1 f.2

  few_answers : EveryRow (IsOneOfFewAnswers W) (values W.answers)
  few_answers = let f = at 21 sentence.FewAnswers refl in all_true f.1 f.2

  protester_there : EveryRow (λ (row : ProtestRow). IsKnown W row.key.entrant) (values W.protests)
  protester_there = let f = at 22 sentence.ProtesterThere refl in all_true f.1 f.2

  protested_there : EveryRow (λ (row : ProtestRow). IsPlaceThere W row.key.round row.number) (values W.protests)
  protested_there = let f = at 23 sentence.ProtestedThere refl in all_true f.1 f.2

  protest_released : EveryRow (λ (row : ProtestRow). IsReleasedRound W row.key.round) (values W.protests)
  protest_released = let f = at 24 sentence.ProtestReleased refl in all_true f.1 f.2

  may_protest : EveryRow (λ (row : ProtestRow). MayTakePart W row.key.entrant row.key.round) (values W.protests)
  may_protest = let f = at 25 sentence.MayProtest refl in all_true f.1 f.2

  ruled_first : EveryRow (IsRuledFirst W) (values W.protests)
  ruled_first = let f = at 26 sentence.RuledFirst refl in all_true f.1 f.2

  few_protests : EveryRow (IsOneOfFewProtests W) (values W.protests)
  few_protests = let f = at 27 sentence.FewProtests refl in all_true f.1 f.2

  -- each row is among the values, and stands under its own key
  person : (name : List ℕ) (row : Person) → get W.people name ≡ Some row → row.name ≡ name
  person name row found = (own_row text_total same_texts (λ (p : Person). p.name) whole.people.items name row found).1

  puzzle : (key : PuzzleKey) (row : PuzzleRow) → get W.puzzles key ≡ Some row → row.key ≡ key
  puzzle key row found = (own_row puzzle_total same_puzzle_keys (λ (r : PuzzleRow). r.key) whole.puzzles.items key row
      found).1

  round_own : (id : List ℕ) (row : Round) → get W.rounds id ≡ Some row → row.id ≡ id
  round_own id row found = (own_row text_total same_texts (λ (r : Round). r.id) whole.rounds.items id row found).1

  answer : (key : AnswerKey) (row : AnswerRow) → get W.answers key ≡ Some row → row.key ≡ key
  answer key row found = (own_row answer_total same_answer_keys (λ (r : AnswerRow). r.key) whole.answers.items key row
      found).1

  protest : (key : ProtestKey) (row : ProtestRow) → get W.protests key ≡ Some row → row.key ≡ key
  protest key row found = (own_row protest_total same_protest_keys (λ (r : ProtestRow). r.key) whole.protests.items key
      row found).1

  -- what is told of a row is told of its key
  of_answer : (Says : AnswerKey → AnswerRow → Type 0) → EveryRow (λ row. Says row.key row) (values W.answers)
      → (key : AnswerKey) (row : AnswerRow) → get W.answers key ≡ Some row → Says key row
  of_answer Says each key row found = subst (λ (k : AnswerKey). Says k row) (answer key row found)
      (each row (value_of_get W.answers key row found))

  of_protest : (Says : ProtestKey → ProtestRow → Type 0) → EveryRow (λ row. Says row.key row) (values W.protests)
      → (key : ProtestKey) (row : ProtestRow) → get W.protests key ≡ Some row → Says key row
  of_protest Says each key row found = subst (λ (k : ProtestKey). Says k row) (protest key row found)
      (each row (value_of_get W.protests key row found))

  one_key : (a b : List ℕ) (p q : Person) → get W.people a ≡ Some p → get W.people b ≡ Some q → p.key ≡ q.key → a ≡ b
  one_key a b p q at_a at_b same =
      let in_a = value_of_get W.people a p at_a in
      let in_b = value_of_get W.people b q at_b in
      let one : p ≡ q = one_of (λ (other : Person). same_text other.key p.key) (values W.people) p q (own_key p in_a)
      in_a in_b ((text_decides p.key p.key).1 refl) ((text_decides q.key p.key).1 (sym same)) in
      sym (person a p at_a) ∙ ap (λ (r : Person). r.name) one ∙ person b q at_b

  one_number : (a b : AnswerKey) (row other : AnswerRow) → get W.answers a ≡ Some row → get W.answers b ≡ Some other
      → a.entrant ≡ b.entrant → a.round ≡ b.round → a.number ≡ b.number → row.n ≡ other.n → a ≡ b
  one_number a b row other at_a at_b entrant round number n =
      let in_a = value_of_get W.answers a row at_a in
      let in_b = value_of_get W.answers b other at_b in
      let own = answer a row at_a in
      let its = answer b other at_b in
      let alike : (r : AnswerRow) → r.key.entrant ≡ row.key.entrant → r.key.round ≡ row.key.round
      → r.key.number ≡ row.key.number → r.n ≡ row.n → is_numbered_alike row r ≡ true =
      λ r e f g h. and_both _ _ ((text_decides r.key.entrant row.key.entrant).1 e)
      (and_both _ _ ((text_decides r.key.round row.key.round).1 f)
      (and_both _ _ ((unsigned_Decides r.key.number row.key.number).1 g) ((unsigned_Decides r.n row.n).1 h))) in
      let back : b ≡ other.key = sym its in
      let one : row ≡ other = one_of (is_numbered_alike row) (values W.answers) row other (numbered_once row in_a) in_a
      in_b
      (alike row refl refl refl refl)
      (alike other
      (ap (λ (k : AnswerKey). k.entrant) its ∙ sym entrant ∙ ap (λ (k : AnswerKey). k.entrant) (sym own))
      (ap (λ (k : AnswerKey). k.round) its ∙ sym round ∙ ap (λ (k : AnswerKey). k.round) (sym own))
      (ap (λ (k : AnswerKey). k.number) its ∙ sym number ∙ ap (λ (k : AnswerKey). k.number) (sym own))
      (sym n)) in
      sym own ∙ ap (λ (r : AnswerRow). r.key) one ∙ its

  -- a place of a released round
  released_place : (id : List ℕ) (key : PuzzleKey) → StandsReleased W key id → (place : PlaceKey × Entry)
      × Contains (entries W.places) place × (place.0.round ≡ id) × (place.1.puzzle ≡ key) × IsReleasedRound W id
  released_place id key stands =
      let where_it : PlaceKey = record { round = id; number = stands.4.0 } in (
        (where_it, stands.1),
        entry_of_get place_total same_place_keys W.places where_it stands.1 stands.4.1,
        refl,
        stands.5,
        (stands.0, stands.2, stands.3),
      )

  certified : (id : List ℕ) (key : PuzzleKey) → StandsReleased W key id → IsCertified W key
  certified id key stands =
      let place = released_place id key stands in
      subst (λ (k : PuzzleKey). IsCertified W k) place.3 (certified_first place.0 place.1
      (subst (λ (r : List ℕ). IsReleasedRound W r) (sym place.2) place.4))

  in_one_round : (a b : List ℕ) (key : PuzzleKey) → StandsReleased W key a → StandsReleased W key b → a ≡ b
  in_one_round a b key first second =
      let place = released_place a key first in
      let other : b ≡ place.0.0.round = in_no_other place.0 place.1
      (subst (λ (r : List ℕ). IsReleasedRound W r) (sym place.2) place.4) b
      (subst (λ (k : PuzzleKey). StandsReleased W k b) (sym place.3) second) in
      sym (other ∙ place.2)

  few_answers_of : (entrant round : List ℕ) (number : ℕ) → answers_given W entrant round number ≤ most_answers
  few_answers_of entrant round number =
      let p : AnswerRow → Bool = λ row. same_text row.key.entrant entrant &&
      (same_text row.key.round round && (row.key.number == number)) in
      low_count p (values W.answers) most_answers (λ row among is.
      let e : row.key.entrant ≡ entrant = (text_decides row.key.entrant entrant).0
      (and_first (same_text row.key.entrant entrant) _ is) in
      let rest = and_second (same_text row.key.entrant entrant)
      (same_text row.key.round round && (row.key.number == number)) is in
      let r : row.key.round ≡ round = (text_decides row.key.round round).0
      (and_first (same_text row.key.round round) _ rest) in
      let n : row.key.number ≡ number = (unsigned_Decides row.key.number number).0
      (and_second (same_text row.key.round round) (row.key.number == number) rest) in
      subst (λ (m : ℕ). answers_given W entrant round m ≤ most_answers) n
      (subst (λ (x : List ℕ). answers_given W entrant x row.key.number ≤ most_answers) r
      (subst (λ (x : List ℕ). answers_given W x row.key.round row.key.number ≤ most_answers) e
      (few_answers row among))))

  few_protests_of : (entrant round : List ℕ) → protests_made W entrant round ≤ most_protests
  few_protests_of entrant round =
      let p : ProtestRow → Bool = λ row. same_text row.key.entrant entrant && same_text row.key.round round in
      low_count p (values W.protests) most_protests (λ row among is.
      let e : row.key.entrant ≡ entrant = (text_decides row.key.entrant entrant).0
      (and_first (same_text row.key.entrant entrant) _ is) in
      let r : row.key.round ≡ round = (text_decides row.key.round round).0
      (and_second (same_text row.key.entrant entrant) (same_text row.key.round round) is) in
      subst (λ (x : List ℕ). protests_made W entrant x ≤ most_protests) r
      (subst (λ (x : List ℕ). protests_made W x row.key.round ≤ most_protests) e (few_protests row among)))

  few_puzzles_of : (author : List ℕ) → puzzles_put W author ≤ most_puzzles
  few_puzzles_of author =
      low_count (λ (row : PuzzleRow). same_text row.key.author author) (values W.puzzles) most_puzzles (λ row among is.
      subst (λ (x : List ℕ). puzzles_put W x ≤ most_puzzles) ((text_decides row.key.author author).0 is)
      (few_puzzles row among))

  pub sane : Sane W
  sane = record {
    typed = record {
      in_range = ranges;
      people = person;
      puzzles = puzzle;
      rounds = round_own;
      answers = answer;
      protests = protest;
      keys_differ = one_key;
      lists = λ id round found.
          let among = value_of_get W.rounds id round found in
          let own = round_own id round found in
          whole_list W id round found (subst (λ (i : List ℕ). HasList W i) own (list_whole round among))
          (subst (λ (i : List ℕ). HasFewTesters W i) own (few_testers round among));
      homes = λ key entry found. entry_home (key, entry) (entry_of_get place_total same_place_keys W.places key entry
          found);
      tester_homes = λ key found. tester_home (key, tt) (entry_of_get tester_total same_tester_keys W.testers key tt
          found);
    };
    refers = record {
      authors = λ key row found. subst (λ (k : PuzzleKey). get W.people k.author ≢ None) (puzzle key row found)
          (author_there row (value_of_get W.puzzles key row found));
      entries = λ key entry found. puzzle_there (key, entry)
          (entry_of_get place_total same_place_keys W.places key entry found);
      testers = λ round name tests. tester_there (record { round = round; name = name }, tt)
          (entry_of_get tester_total same_tester_keys W.testers (record { round = round; name = name }) tt tests);
      entrants = of_answer (λ key row. IsKnown W key.entrant) answerer_there;
      answered = of_answer (λ key row. IsPlaceThere W key.round key.number) answered_there;
      protesters = of_protest (λ key row. IsKnown W key.entrant) protester_there;
      protested = of_protest (λ key row. IsPlaceThere W key.round row.number) protested_there;
    };
    states = λ key row found. true_states row (value_of_get W.puzzles key row found);
    answers_released = of_answer (λ key row. IsReleasedRound W key.round) answer_released;
    protests_released = of_protest (λ key row. IsReleasedRound W key.round) protest_released;
    answerers = of_answer (λ key row. MayTakePart W key.entrant key.round) may_answer;
    protesters = of_protest (λ key row. MayTakePart W key.entrant key.round) may_protest;
    verdicts = of_answer (λ key row. IsVerdictAt W key.round key.number row) verdict_true;
    certified = certified;
    in_one_round = in_one_round;
    published = λ id round found. released_first round (value_of_get W.rounds id round found);
    ruled = λ id round found published key row own kept.
        ruled_first row (value_of_get W.protests key row kept) round
        (ap (λ (k : ProtestKey). get W.rounds k.round) (protest key row kept) ∙ ap (get W.rounds) own ∙ found)
        published;
    numbered = λ key row found. (
      (ranges.answers key row found).n.0,
      of_answer
          (λ k r. r.n ≤ answers_given W k.entrant k.round k.number) numbered key row found,
    );
    numbered_once = one_number;
    apart = λ name row found. roles_apart row (value_of_get W.people name row found);
    few_answers = few_answers_of;
    few_protests = few_protests_of;
    few_puzzles = few_puzzles_of;
  }

-- where each puzzle was searched to an end, and no state was found false, each is true
pub states_true : (budget : Option ℕ) (rows : List PuzzleRow) (states : Option States)
    → AreStatesAsked budget rows states → AreStatesTrue states → EveryRow (λ row. IsTrueState row.puzzle row.state) rows
states_true budget rows None asked true_all = absurd true_all
states_true None rows (Some states) asked true_all = absurd asked
states_true (Some most) rows (Some states) asked true_all = all_states_true most rows states asked true_all.0 true_all.1
