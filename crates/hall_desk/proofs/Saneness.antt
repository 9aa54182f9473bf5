-- Every step of the hall keeps a sane world.
use Rattle.std.proofs.Common.{◌≡◌, ◌≢◌, ◌==◌, ◌+◌, ◌&&◌, ◌<◌, ◌≤◌, ◌⊎◌, inl, inr, ℕ, Bool, true, false, cond, List}
use Rattle.std.proofs.Common.{Option, Some, None, IsTrue, refl, sym, ap, ◌∙◌, subst, arith}
use Rattle.std.specs.List.{count_by}
use Rattle.std.specs.FinMap.{FinMap, get, insert, values}
use Rattle.hall_policy.specs.Limits.{most_answers, most_puzzles}
use Rattle.hall_policy.specs.World.{World, same_text, puzzle_cmp, answer_cmp}
use Rattle.hall_policy.specs.Ranges.{IsPuzzleRow, IsAnswerRow, AreRowsInRange, IsWorld}
use Rattle.hall_policy.specs.Rules.{StandsReleased, answers_given, puzzles_put}
use Rattle.hall_policy.specs.declared.record.PuzzleKey.{PuzzleKey}
use Rattle.hall_policy.specs.declared.record.PuzzleRow.{PuzzleRow}
use Rattle.hall_policy.specs.declared.record.Round.{Round}
use Rattle.hall_policy.specs.declared.record.Entry.{Entry}
use Rattle.hall_policy.specs.declared.record.AnswerKey.{AnswerKey}
use Rattle.hall_policy.specs.declared.record.AnswerRow.{AnswerRow}
use Rattle.hall_policy.proofs.Maps.{count_by-insert_new, count_by-insert_alike}
use Rattle.hall_policy.proofs.Orders.{puzzle_total, same_puzzle_keys, answer_total, same_answer_keys}
use Rattle.hall_policy.proofs.Texts.{text_decides}
use Rattle.hall_store.proofs.Inserts.{found_after, others_stay, still_there}
use Rattle.std.specs.Cmp.{unsigned_Decides}
use Rattle.hall_desk.specs.Lookups.{IsReleasedRound}
use Rattle.hall_desk.specs.Sane.{Sane, RefersToRows, IsTrueState, IsVerdictAt, IsPlaceThere, MayTakePart}

and_all : (a b c : Bool) → a ≡ true → b ≡ true → c ≡ true → (a && (b && c)) ≡ true
and_all true true true p q r = refl
and_all true true false p q r = r
and_all true false c p q r = q
and_all false b c p q r = p

all_parts : (a b c : Bool) → (a && (b && c)) ≡ true → (a ≡ true) × (b ≡ true) × (c ≡ true)
all_parts true true true h = (refl, refl, refl)
all_parts true true false h = let no : false ≡ true = h in absurd (cc)
all_parts true false c h = let no : false ≡ true = h in absurd (cc)
all_parts false b c h = let no : false ≡ true = h in absurd (cc)

-- ---- a puzzle
module _ (world : World) (key : PuzzleKey) (row : PuzzleRow) where
  abbrev new_puzzles : FinMap puzzle_cmp PuzzleRow
  new_puzzles = insert world.puzzles key row

  after_put : (q : PuzzleKey) (r : PuzzleRow) → get new_puzzles q ≡ Some r → ((q ≡ key) × (r ≡ row))
      ⊎ ((q ≢ key) × (get world.puzzles q ≡ Some r))
  after_put q r found = found_after puzzle_total same_puzzle_keys world.puzzles key row q r found

  module _ (own : row.key ≡ key) (in_range : IsPuzzleRow row) (true_state : IsTrueState row.puzzle row.state)
      (sane : Sane world) (there : get world.people key.author ≢ None)
      (free : (id : List ℕ) → ¬ (StandsReleased world key id))
      (room : get world.puzzles key ≡ None → puzzles_put world key.author < most_puzzles) where
    unused : (id : List ℕ) (round : Round) (number : ℕ) (entry : Entry) → get world.rounds id ≡ Some round
        → IsTrue round.released →
        get world.places (record { round = id; number = number }) ≡ Some entry → entry.puzzle ≢ key
    unused id round number entry kept released place same = free id
        (round, entry, kept, released, (number, place), same)

    few : (author : List ℕ) → count_by (λ r. same_text r.key.author author) (values new_puzzles) ≤ most_puzzles
    few author = elim (get world.puzzles key) as (λ (o : Option PuzzleRow). get world.puzzles key ≡ o
        → count_by (λ r. same_text r.key.author author) (values new_puzzles) ≤ most_puzzles) [
          | None ↦ λ none.
              let more = count_by-insert_new puzzle_total (λ r. same_text r.key.author author) world.puzzles key row
              none in
              elim (same_text row.key.author author) as (λ b. same_text row.key.author author ≡ b
              → count_by (λ r. same_text r.key.author author) (values new_puzzles) ≡ puzzles_put world author + cond b 1
              0 → count_by (λ r. same_text r.key.author author) (values new_puzzles) ≤ most_puzzles) [
                | true ↦ λ t e.
                    let author_is : key.author ≡ author = ap (λ (k : PuzzleKey). k.author) (sym own)
                    ∙ (text_decides row.key.author author).0 t in
                    let bound : puzzles_put world author < most_puzzles = subst
                    (λ (a : List ℕ). puzzles_put world a < most_puzzles) author_is (room none) in
                    omega (arith, e, bound)
                | false ↦ λ t e. omega (arith, e, sane.few_puzzles author)
              ] refl more
          | Some old ↦ λ kept.
              let alike = count_by-insert_alike puzzle_total (λ r. same_text r.key.author author) world.puzzles key row
              old
              kept (ap (λ (k : PuzzleKey). same_text k.author author) (own ∙ sym (sane.typed.puzzles key old kept))) in
              subst (λ n. n ≤ most_puzzles) (sym alike) (sane.few_puzzles author)
        ] refl

    put_in_range : AreRowsInRange (record world { puzzles = new_puzzles })
    put_in_range = record {
      people = sane.typed.in_range.people;
      puzzles = λ q r found. elim (after_put q r found) [
        | inl h ↦ subst IsPuzzleRow (sym h.1) in_range
        | inr h ↦ sane.typed.in_range.puzzles q r h.1
      ];
      rounds = sane.typed.in_range.rounds;
      places = sane.typed.in_range.places;
      answers = sane.typed.in_range.answers;
      protests = sane.typed.in_range.protests;
      testers = sane.typed.in_range.testers;
    }

    put_typed : IsWorld (record world { puzzles = new_puzzles })
    put_typed = record {
      in_range = put_in_range;
      people = sane.typed.people;
      puzzles = λ q r found. elim (after_put q r found) [
        | inl h ↦ ap (λ (x : PuzzleRow). x.key) h.1 ∙ own ∙ sym h.0
        | inr h ↦ sane.typed.puzzles q r h.1
      ];
      rounds = sane.typed.rounds;
      answers = sane.typed.answers;
      protests = sane.typed.protests;
      keys_differ = sane.typed.keys_differ;
      lists = λ id round found. let l = sane.typed.lists id round found in
          (l.0, record { head = l.1.head; list = l.1.list; testers = l.1.testers }, l.2, l.3);
      homes = sane.typed.homes;
      tester_homes = sane.typed.tester_homes;
    }

    put_refers : RefersToRows (record world { puzzles = new_puzzles })
    put_refers = record {
      authors = λ q r found. elim (after_put q r found) [
        | inl h ↦ λ none. there (ap (λ (k : PuzzleKey). get world.people k.author) (sym h.0) ∙ none)
        | inr h ↦ sane.refers.authors q r h.1
      ];
      entries = λ place entry found. still_there puzzle_total same_puzzle_keys world.puzzles key row entry.puzzle
          (sane.refers.entries place entry found);
      testers = sane.refers.testers;
      entrants = sane.refers.entrants;
      answered = sane.refers.answered;
      protesters = sane.refers.protesters;
      protested = sane.refers.protested;
    }

    -- a puzzle that is put, or whose state is put, keeps the world sane: no released round has it
    pub put_sane : Sane (record world { puzzles = new_puzzles })
    put_sane = record {
      typed = put_typed;
      refers = put_refers;
      states = λ q r found. elim (after_put q r found) [
        | inl h ↦ subst (λ (x : PuzzleRow). IsTrueState x.puzzle x.state) (sym h.1) true_state
        | inr h ↦ sane.states q r h.1
      ];
      answers_released = sane.answers_released;
      protests_released = sane.protests_released;
      answerers = sane.answerers;
      protesters = sane.protesters;
      verdicts = λ k answer found.
          let v = sane.verdicts k answer found in
          let r = sane.answers_released k answer found in (
            v.0,
            v.1,
            v.2,
            others_stay puzzle_total same_puzzle_keys world.puzzles key row v.0.puzzle v.1
                (unused k.round r.0 k.number v.0 r.1 r.2 v.2) v.3,
            v.4,
          );
      certified = λ id q stands.
          let c = sane.certified id q stands in (
            c.0,
            c.1,
            others_stay puzzle_total same_puzzle_keys world.puzzles key row q c.0
                (λ same. free id (subst (λ (k : PuzzleKey). StandsReleased world k id) same stands)) c.2,
            c.3,
          );
      in_one_round = sane.in_one_round;
      published = sane.published;
      ruled = sane.ruled;
      numbered = sane.numbered;
      numbered_once = sane.numbered_once;
      apart = sane.apart;
      few_answers = sane.few_answers;
      few_protests = sane.few_protests;
      few_puzzles = few;
    }

-- ---- a Submit
module _ (world : World) (row : AnswerRow) where
  abbrev new_answers : FinMap answer_cmp AnswerRow
  new_answers = insert world.answers row.key row

  after_submit : (q : AnswerKey) (r : AnswerRow) → get new_answers q ≡ Some r → ((q ≡ row.key) × (r ≡ row))
      ⊎ ((q ≢ row.key) × (get world.answers q ≡ Some r))
  after_submit q r found = found_after answer_total same_answer_keys world.answers row.key row q r found

  -- how many answers of an entrant to a puzzle there are then
  abbrev of_place : List ℕ → List ℕ → ℕ → AnswerRow → Bool
  of_place entrant round number r = same_text r.key.entrant entrant &&
      (same_text r.key.round round && (r.key.number == number))

  module _ (sane : Sane world) (in_range : IsAnswerRow row) (fresh : get world.answers row.key ≡ None)
      (entrant : get world.people row.key.entrant ≢ None) (released : IsReleasedRound world row.key.round)
      (part : MayTakePart world row.key.entrant row.key.round)
      (verdict : IsVerdictAt world row.key.round row.key.number row)
      (next : row.n ≡ answers_given world row.key.entrant row.key.round row.key.number + 1)
      (room : answers_given world row.key.entrant row.key.round row.key.number < most_answers) where
    counted_more : (e r : List ℕ) (n : ℕ) → count_by (of_place e r n) (values new_answers) ≡ answers_given world e r n +
        cond (of_place e r n row) 1 0
    counted_more e r n = count_by-insert_new answer_total (of_place e r n) world.answers row.key row fresh

    own_place : of_place row.key.entrant row.key.round row.key.number row ≡ true
    own_place = and_all (same_text row.key.entrant row.key.entrant) (same_text row.key.round row.key.round)
        (row.key.number == row.key.number)
        ((text_decides row.key.entrant row.key.entrant).1 refl) ((text_decides row.key.round row.key.round).1 refl)
        ((unsigned_Decides row.key.number row.key.number).1 refl)

    same_place : (e r : List ℕ) (n : ℕ) → of_place e r n row ≡ true → (row.key.entrant ≡ e) × (row.key.round ≡ r)
        × (row.key.number ≡ n)
    same_place e r n h =
        let parts = all_parts (same_text row.key.entrant e) (same_text row.key.round r) (row.key.number == n) h in (
          (text_decides row.key.entrant e).0 parts.0,
          (text_decides row.key.round r).0 parts.1,
          (unsigned_Decides row.key.number n).0 parts.2,
        )

    few_then : (e r : List ℕ) (n : ℕ) → count_by (of_place e r n) (values new_answers) ≤ most_answers
    few_then e r n = elim (of_place e r n row) as (λ b. of_place e r n row ≡ b
        → count_by (of_place e r n) (values new_answers) ≡ answers_given world e r n + cond b 1 0
        → count_by (of_place e r n) (values new_answers) ≤ most_answers) [
          | true ↦ λ t more.
              let at = same_place e r n t in
              let bound : answers_given world e r n < most_answers = subst
              (λ (m : ℕ). answers_given world e r m < most_answers) at.2
              (subst (λ (x : List ℕ). answers_given world e x row.key.number < most_answers) at.1
              (subst (λ (x : List ℕ). answers_given world x row.key.round row.key.number < most_answers) at.0 room)) in
              omega (arith, more, bound)
          | false ↦ λ t more. omega (arith, more, sane.few_answers e r n)
        ] refl (counted_more e r n)

    grown : (e r : List ℕ) (n : ℕ) → answers_given world e r n ≤ count_by (of_place e r n) (values new_answers)
    grown e r n = omega (arith, counted_more e r n)

    -- the new answer's number is no older one's
    newest : (q : AnswerKey) (other : AnswerRow) → get world.answers q ≡ Some other → q.entrant ≡ row.key.entrant
        → q.round ≡ row.key.round → q.number ≡ row.key.number → other.n ≢ row.n
    newest q other kept e r n same =
        let old = (sane.numbered q other kept).1 in
        let bound : other.n ≤ answers_given world row.key.entrant row.key.round row.key.number =
        subst (λ (m : ℕ). other.n ≤ answers_given world row.key.entrant row.key.round m) n
        (subst (λ (x : List ℕ). other.n ≤ answers_given world row.key.entrant x q.number) r
        (subst (λ (x : List ℕ). other.n ≤ answers_given world x q.round q.number) e old)) in
        omega (arith, bound, next, same)

    submit_in_range : AreRowsInRange (record world { answers = new_answers })
    submit_in_range = record {
      people = sane.typed.in_range.people;
      puzzles = sane.typed.in_range.puzzles;
      rounds = sane.typed.in_range.rounds;
      places = sane.typed.in_range.places;
      answers = λ q r found. elim (after_submit q r found) [
        | inl h ↦ subst IsAnswerRow (sym h.1) in_range
        | inr h ↦ sane.typed.in_range.answers q r h.1
      ];
      protests = sane.typed.in_range.protests;
      testers = sane.typed.in_range.testers;
    }

    submit_typed : IsWorld (record world { answers = new_answers })
    submit_typed = record {
      in_range = submit_in_range;
      people = sane.typed.people;
      puzzles = sane.typed.puzzles;
      rounds = sane.typed.rounds;
      answers = λ q r found. elim (after_submit q r found) [
        | inl h ↦ ap (λ (x : AnswerRow). x.key) h.1 ∙ sym h.0
        | inr h ↦ sane.typed.answers q r h.1
      ];
      protests = sane.typed.protests;
      keys_differ = sane.typed.keys_differ;
      lists = λ id round found. let l = sane.typed.lists id round found in
          (l.0, record { head = l.1.head; list = l.1.list; testers = l.1.testers }, l.2, l.3);
      homes = sane.typed.homes;
      tester_homes = sane.typed.tester_homes;
    }

    submit_refers : RefersToRows (record world { answers = new_answers })
    submit_refers = record {
      authors = sane.refers.authors;
      entries = sane.refers.entries;
      testers = sane.refers.testers;
      entrants = λ q r found. elim (after_submit q r found) [
        | inl h ↦ λ none. entrant (ap (λ (k : AnswerKey). get world.people k.entrant) (sym h.0) ∙ none)
        | inr h ↦ sane.refers.entrants q r h.1
      ];
      answered = λ q r found. elim (after_submit q r found) [
        | inl h ↦ subst (λ (k : AnswerKey). IsPlaceThere world k.round k.number) (sym h.0) (verdict.0, verdict.2)
        | inr h ↦ sane.refers.answered q r h.1
      ];
      protesters = sane.refers.protesters;
      protested = sane.refers.protested;
    }

    numbered_then : (q : AnswerKey) (r : AnswerRow) → get new_answers q ≡ Some r → (1 ≤ r.n)
        × (r.n ≤ count_by (of_place q.entrant q.round q.number) (values new_answers))
    numbered_then q r found = elim (after_submit q r found) [
      | inl h ↦ subst (λ (k : AnswerKey). (1 ≤ r.n) × (r.n ≤ count_by (of_place k.entrant k.round k.number)
          (values new_answers))) (sym h.0)
          (subst (λ (x : AnswerRow). (1 ≤ x.n) × (x.n ≤ count_by (of_place row.key.entrant row.key.round row.key.number)
          (values new_answers))) (sym h.1)
          (let total : count_by (of_place row.key.entrant row.key.round row.key.number) (values new_answers) ≡
          answers_given world row.key.entrant row.key.round row.key.number + 1 =
          counted_more row.key.entrant row.key.round row.key.number
          ∙ ap (λ (b : Bool). let w : ℕ = cond b 1 0 in answers_given world row.key.entrant row.key.round
          row.key.number + w) own_place in
          (omega (arith, next), omega (arith, next, total))))
      | inr h ↦ let old = sane.numbered q r h.1 in (old.0, omega (arith, old.1, grown q.entrant q.round q.number))
    ]

    once_then : (a b : AnswerKey) (x y : AnswerRow) → get new_answers a ≡ Some x → get new_answers b ≡ Some y
        → a.entrant ≡ b.entrant → a.round ≡ b.round → a.number ≡ b.number → x.n ≡ y.n → a ≡ b
    once_then a b x y fa fb e r n same = elim (after_submit a x fa) [
      | inl h ↦ elim (after_submit b y fb) [
        | inl k ↦ h.0 ∙ sym k.0
        | inr k ↦ absurd (newest b y k.1 (sym e ∙ ap (λ (q : AnswerKey). q.entrant) h.0)
            (sym r ∙ ap (λ (q : AnswerKey). q.round) h.0) (sym n ∙ ap (λ (q : AnswerKey). q.number) h.0)
            (sym same ∙ ap (λ (z : AnswerRow). z.n) h.1))
      ]
      | inr h ↦ elim (after_submit b y fb) [
        | inl k ↦ absurd (newest a x h.1 (e ∙ ap (λ (q : AnswerKey). q.entrant) k.0)
            (r ∙ ap (λ (q : AnswerKey). q.round) k.0) (n ∙ ap (λ (q : AnswerKey). q.number) k.0)
            (same ∙ ap (λ (z : AnswerRow). z.n) k.1))
        | inr k ↦ sane.numbered_once a b x y h.1 k.1 e r n same
      ]
    ]

    -- an answer that is stored keeps the world sane
    pub submit_sane : Sane (record world { answers = new_answers })
    submit_sane = record {
      typed = submit_typed;
      refers = submit_refers;
      states = sane.states;
      answers_released = λ q r found. elim (after_submit q r found) [
        | inl h ↦ subst (λ (k : AnswerKey). IsReleasedRound world k.round) (sym h.0) released
        | inr h ↦ sane.answers_released q r h.1
      ];
      protests_released = sane.protests_released;
      answerers = λ q r found. elim (after_submit q r found) [
        | inl h ↦ subst (λ (k : AnswerKey). MayTakePart world k.entrant k.round) (sym h.0) part
        | inr h ↦ sane.answerers q r h.1
      ];
      protesters = sane.protesters;
      verdicts = λ q r found. elim (after_submit q r found) [
        | inl h ↦ subst (λ (k : AnswerKey). IsVerdictAt world k.round k.number r) (sym h.0)
            (subst (λ (x : AnswerRow). IsVerdictAt world row.key.round row.key.number x) (sym h.1) verdict)
        | inr h ↦ sane.verdicts q r h.1
      ];
      certified = sane.certified;
      in_one_round = sane.in_one_round;
      published = sane.published;
      ruled = sane.ruled;
      numbered = numbered_then;
      numbered_once = once_then;
      apart = sane.apart;
      few_answers = few_then;
      few_protests = sane.few_protests;
      few_puzzles = sane.few_puzzles;
    }
