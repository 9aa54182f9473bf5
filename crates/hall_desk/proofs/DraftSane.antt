-- A draft that is put, for the first time or in the place of another, keeps the world sane.
use Rattle.std.proofs.Common.{◌≡◌, ◌≢◌, ◌⊎◌, ◌↔◌, inl, inr, if◌then◌else◌, ℕ, true, false, List, Option, Some, None}
use Rattle.std.proofs.Common.{Contains, IsTrue, refl, sym, ap, ◌∙◌, subst, lit<}
use Rattle.std.specs.Prelude.{All}
use Rattle.std.specs.FinMap.{FinMap, get, insert}
use Rattle.hall_policy.specs.Text.{text_cmp}
use Rattle.hall_policy.specs.World.{World, IsTesterOf, entry_at, same_text, place_cmp, tester_cmp}
use Rattle.hall_policy.specs.Ranges.{IsRoundId, IsName, IsSheet, IsRound, IsEntry, IsRoundRow, IsAction, AreRowsInRange}
use Rattle.hall_policy.specs.Ranges.{HasWholeList, IsWorld}
use Rattle.hall_policy.specs.Rules.{StandsReleased, may_test}
use Rattle.hall_policy.specs.First.{NoneDecides}
use Rattle.hall_policy.specs.declared.rule.Rule.TheVariants as rule
use Rattle.hall_policy.specs.declared.record.Person.{Person}
use Rattle.hall_policy.specs.declared.record.PuzzleKey.{PuzzleKey}
use Rattle.hall_policy.specs.declared.record.PuzzleState.{PuzzleState}
use Rattle.hall_policy.specs.declared.record.Round.{Round}
use Rattle.hall_policy.specs.declared.record.RoundRow.{RoundRow}
use Rattle.hall_policy.specs.declared.record.Entry.{Entry}
use Rattle.hall_policy.specs.declared.record.PlaceKey.{PlaceKey}
use Rattle.hall_policy.specs.declared.record.TesterKey.{TesterKey}
use Rattle.hall_policy.specs.declared.request.Sheet.{Sheet}
use Rattle.hall_policy.specs.declared.request.Action.TheVariants as action
use Rattle.hall_policy.proofs.Orders.{text_total, same_texts}
use Rattle.hall_policy.proofs.Rounds.{entry_contained}
use Rattle.hall_store.specs.Change.{CanPutRound, relisted, retested}
use Rattle.hall_store.proofs.Inserts.{keys_apart, found_after, others_stay, inserted_there, still_there}
use Rattle.hall_store.proofs.Changes.{get-relisted, get-retested, if_named, if_named-Contains}
use Rattle.hall_store.proofs.Tests.{not_true}
use Rattle.hall_desk.specs.Lookups.{IsReleasedRound}
use Rattle.hall_desk.specs.Step.{Allowed, draft_of}
use Rattle.hall_desk.specs.Sane.{Sane, RefersToRows, MayTakePart}
use Rattle.hall_desk.specs.declared.reply.Reply.{Reply}
use Rattle.hall_policy.proofs.Texts.{text_decides}

-- an entry of the list is in the ranges of its type
entry_in_range : (entries : List Entry) (entry : Entry) → All IsEntry entries → Contains entries entry → IsEntry entry
entry_in_range entries entry each among = subst IsEntry among.2 (each among.0 entry among.1)

-- a name of the list is in the ranges of its type
name_in_range : (names : List (List ℕ)) (name : List ℕ) → All IsName names → Contains names name → IsName name
name_in_range names name each among = subst IsName among.2 (each among.0 name among.1)

module _ (world : World) (id : List ℕ) (row : RoundRow) (places : FinMap place_cmp Entry)
    (testers : FinMap tester_cmp (Unit {0})) (sane : Sane world) (unreleased : ¬ (IsReleasedRound world id))
    (at_own : (number : ℕ) → get places (record { round = id; number = number }) ≡ entry_at row.puzzles number)
    (at_other : (key : PlaceKey) → key.round ≢ id → get places key ≡ get world.places key)
    (tested_own : (name : List ℕ) → (get testers (record { round = id; name = name }) ≡ Some tt)
    ↔ Contains row.testers name)
    (tested_other : (key : TesterKey) → key.round ≢ id → get testers key ≡ get world.testers key) where
  abbrev new_rounds : FinMap text_cmp Round
  new_rounds = insert world.rounds id row.round

  abbrev after : World
  after = record world { rounds = new_rounds; places = places; testers = testers }

  -- a round that is found is the draft, or was there before under another id
  after_draft : (q : List ℕ) (r : Round) → get new_rounds q ≡ Some r → ((q ≡ id) × (r ≡ row.round))
      ⊎ ((q ≢ id) × (get world.rounds q ≡ Some r))
  after_draft q r found = found_after text_total same_texts world.rounds id row.round q r found

  -- a released round has another id
  another : (q : List ℕ) → IsReleasedRound world q → q ≢ id
  another q released same = unreleased (subst (IsReleasedRound world) same released)

  -- a place is one of the draft's, or was there before
  place_from : (key : PlaceKey) (entry : Entry) → get places key ≡ Some entry
      → ((key.round ≡ id) × (entry_at row.puzzles key.number ≡ Some entry))
      ⊎ ((key.round ≢ id) × (get world.places key ≡ Some entry))
  place_from key entry found = elim (keys_apart text_total same_texts key.round id) [
    | inl same ↦ inl (
      same,
      sym (at_own key.number) ∙ ap (λ (x : List ℕ). get places
          (record { round = x; number = key.number })) (sym same) ∙ found,
    )
    | inr other ↦ inr (other, sym (at_other key other) ∙ found)
  ]

  -- a tester is one of the draft's, or was there before
  tester_from : (q name : List ℕ) → get testers (record { round = q; name = name }) ≡ Some tt
      → ((q ≡ id) × Contains row.testers name) ⊎ ((q ≢ id) × IsTesterOf world q name)
  tester_from q name found = elim (keys_apart text_total same_texts q id) [
    | inl same ↦ inl (
      same,
      (tested_own name).0 (sym (ap (λ (x : List ℕ). get testers
          (record { round = x; name = name })) same) ∙ found),
    )
    | inr other ↦ inr (other, sym (tested_other (record { round = q; name = name }) other) ∙ found)
  ]

  -- a place of a released round stays
  place_stays : (key : PlaceKey) (entry : Entry) → IsReleasedRound world key.round → get world.places key ≡ Some entry
      → get places key ≡ Some entry
  place_stays key entry released found = at_other key (another key.round released) ∙ found

  -- a released round stays one, since it is not the draft
  released_stays : (q : List ℕ) → IsReleasedRound world q → IsReleasedRound after q
  released_stays q (r, found, is) = (
    r,
    others_stay text_total same_texts world.rounds id row.round q r
        (another q (r, found, is)) found,
    is,
  )

  -- who may take part in a released round still may: its list and its testers stay
  part_stays : (name q : List ℕ) → IsReleasedRound world q → MayTakePart world name q → MayTakePart after name q
  part_stays name q released (person, there, entrant, no_author, no_tester) = (
    person,
    there,
    entrant,
    (λ entry lists. no_author entry (
      lists.0,
      sym (at_other (record { round = q; number = lists.0 })
          (another q released)) ∙ lists.1,
    )),
    (λ tests. no_tester (sym (tested_other (record { round = q; name = name }) (another q released)) ∙ tests)),
  )

  module _ (own : row.round.id ≡ id) (in_range : IsRoundRow row) (can : CanPutRound world row) where
    draft_in_range : AreRowsInRange after
    draft_in_range = record {
      people = sane.typed.in_range.people;
      puzzles = sane.typed.in_range.puzzles;
      rounds = λ q r found. elim (after_draft q r found) [
        | inl h ↦ subst IsRound (sym h.1) in_range.round
        | inr h ↦ sane.typed.in_range.rounds q r h.1
      ];
      places = λ key entry found. elim (place_from key entry found) [
        | inl h ↦ entry_in_range row.puzzles entry in_range.puzzles.each
            (entry_contained row.puzzles key.number entry h.1)
        | inr h ↦ sane.typed.in_range.places key entry h.1
      ];
      answers = sane.typed.in_range.answers;
      protests = sane.typed.in_range.protests;
      testers = λ key found. elim (tester_from key.round key.name found) [
        | inl h ↦ name_in_range row.testers key.name in_range.testers.each h.1
        | inr h ↦ sane.typed.in_range.testers key h.1
      ];
    }

    -- the draft's list is whole, and each other stays
    lists_then : (q : List ℕ) (r : Round) → get new_rounds q ≡ Some r → HasWholeList after q
    lists_then q r found = elim (after_draft q r found) [
      | inl h ↦ (
        row,
        record {
          head = inserted_there text_total same_texts world.rounds id row.round q h.0;
          list = λ number. ap (λ (x : List ℕ). get places (record { round = x; number = number })) h.0 ∙ at_own number;
          testers = λ name. subst (λ (x : List ℕ). (get testers (record { round = x; name = name }) ≡ Some tt)
              ↔ Contains row.testers name) (sym h.0) (tested_own name);
        },
        in_range.puzzles.list,
        in_range.testers.list,
      )
      | inr h ↦
          let l = sane.typed.lists q r h.1 in (
            l.0,
            record {
              head = others_stay text_total same_texts world.rounds id row.round q l.0.round h.0 l.1.head;
              list = λ number. at_other (record { round = q; number = number }) h.0 ∙ l.1.list number;
              testers = λ name. subst (λ (found : Option (Unit {0})). (found ≡ Some tt) ↔ Contains l.0.testers name)
                  (sym (tested_other (record { round = q; name = name }) h.0)) (l.1.testers name);
            },
            l.2,
            l.3,
          )
    ]

    draft_typed : IsWorld after
    draft_typed = record {
      in_range = draft_in_range;
      people = sane.typed.people;
      puzzles = sane.typed.puzzles;
      rounds = λ q r found. elim (after_draft q r found) [
        | inl h ↦ ap (λ (x : Round). x.id) h.1 ∙ own ∙ sym h.0
        | inr h ↦ sane.typed.rounds q r h.1
      ];
      answers = sane.typed.answers;
      protests = sane.typed.protests;
      keys_differ = sane.typed.keys_differ;
      lists = lists_then;
      homes = λ key entry found. elim (place_from key entry found) [
        | inl h ↦ λ none. let no : Some row.round ≡ None = sym
            (inserted_there text_total same_texts world.rounds id row.round key.round h.0) ∙ none in cc
        | inr h ↦ still_there text_total same_texts world.rounds id row.round key.round (sane.typed.homes key entry h.1)
      ];
      tester_homes = λ key found. elim (tester_from key.round key.name found) [
        | inl h ↦ λ none. let no : Some row.round ≡ None = sym
            (inserted_there text_total same_texts world.rounds id row.round key.round h.0) ∙ none in cc
        | inr h ↦ still_there text_total same_texts world.rounds id row.round key.round
            (sane.typed.tester_homes key h.1)
      ];
    }

    draft_refers : RefersToRows after
    draft_refers = record {
      authors = sane.refers.authors;
      entries = λ key entry found. elim (place_from key entry found) [
        | inl h ↦ can.puzzles entry (entry_contained row.puzzles key.number entry h.1)
        | inr h ↦ sane.refers.entries key entry h.1
      ];
      testers = λ q name found. elim (tester_from q name found) [
        | inl h ↦ can.testers name h.1
        | inr h ↦ sane.refers.testers q name h.1
      ];
      entrants = sane.refers.entrants;
      answered = λ key answer found. let at = sane.refers.answered key answer found in (
        at.0,
        place_stays (record { round = key.round; number = key.number }) at.0
            (sane.answers_released key answer found) at.1,
      );
      protesters = sane.refers.protesters;
      protested = λ key protest found. let at = sane.refers.protested key protest found in (
        at.0,
        place_stays (record { round = key.round; number = protest.number }) at.0
            (sane.protests_released key protest found) at.1,
      );
    }

    module _ (draft : row.round.released ≡ false) (secret : row.round.published ≡ false) where
      -- what stands in a released round stood there before
      stood : (q : List ℕ) (key : PuzzleKey) → StandsReleased after key q → StandsReleased world key q
      stood q key (r, entry, found, is, (number, place), of) = elim (after_draft q r found) [
        | inl h ↦ absurd (let no : true ≡ false = sym is ∙ ap (λ (x : Round). x.released) h.1 ∙ draft in cc)
        | inr h ↦ (r, entry, h.1, is, (number, sym (at_other (record { round = q; number = number }) h.0) ∙ place), of)
      ]

      -- the draft is not published
      not_published : (r : Round) → r ≡ row.round → IsTrue r.published → ⊥
      not_published r same is = let no : true ≡ false = sym is ∙ ap (λ (x : Round). x.published) same ∙ secret in cc

      draft_added : Sane after
      draft_added = record {
        typed = draft_typed;
        refers = draft_refers;
        states = sane.states;
        answers_released = λ key answer found. released_stays key.round (sane.answers_released key answer found);
        protests_released = λ key protest found. released_stays key.round (sane.protests_released key protest found);
        answerers = λ key answer found. part_stays key.entrant key.round (sane.answers_released key answer found)
            (sane.answerers key answer found);
        protesters = λ key protest found. part_stays key.entrant key.round (sane.protests_released key protest found)
            (sane.protesters key protest found);
        verdicts = λ key answer found. let v = sane.verdicts key answer found in (
          v.0,
          v.1,
          place_stays (record { round = key.round; number = key.number }) v.0
              (sane.answers_released key answer found) v.2,
          v.3,
          v.4,
        );
        certified = λ q key stands. sane.certified q key (stood q key stands);
        in_one_round = λ a b key at_a at_b. sane.in_one_round a b key (stood a key at_a) (stood b key at_b);
        published = λ q r found is. elim (after_draft q r found) [
          | inl h ↦ absurd (not_published r h.1 is)
          | inr h ↦ sane.published q r h.1 is
        ];
        ruled = λ q r found is. elim (after_draft q r found) [
          | inl h ↦ absurd (not_published r h.1 is)
          | inr h ↦ sane.ruled q r h.1 is
        ];
        numbered = sane.numbered;
        numbered_once = sane.numbered_once;
        apart = sane.apart;
        few_answers = sane.few_answers;
        few_protests = sane.few_protests;
        few_puzzles = sane.few_puzzles;
      }

-- a draft may be put where no released round stands, with the places of its puzzles and its testers, who are there
pub draft_sane : (world : World) (id : List ℕ) (row : RoundRow) (places : FinMap place_cmp Entry)
    (testers : FinMap tester_cmp (Unit {0})) → Sane world → ¬ (IsReleasedRound world id) →
    row.round.id ≡ id → row.round.released ≡ false → row.round.published ≡ false → IsRoundRow row
    → CanPutRound world row →
    ((number : ℕ) → get places (record { round = id; number = number }) ≡ entry_at row.puzzles number) →
    ((key : PlaceKey) → key.round ≢ id → get places key ≡ get world.places key) →
    ((name : List ℕ) → (get testers (record { round = id; name = name }) ≡ Some tt) ↔ Contains row.testers name) →
    ((key : TesterKey) → key.round ≢ id → get testers key ≡ get world.testers key) →
    Sane (record world { rounds = insert world.rounds id row.round; places = places; testers = testers })
draft_sane world id row places testers sane unreleased own draft secret in_range can at_own at_other tested_own
    tested_other =
    draft_added world id row places testers sane unreleased at_own at_other tested_own tested_other own in_range can
    draft secret

-- ---- the places of a draft that is put
-- the round's places are its entries
pub relisted_own : (places : FinMap place_cmp Entry) (id : List ℕ) (entries : List Entry) (number : ℕ)
    → get (relisted places id entries) (record { round = id; number = number }) ≡ entry_at entries number
relisted_own places id entries number =
    let key : PlaceKey = record { round = id; number = number } in
    get-relisted places id entries key ∙ ap (λ b. if b then entry_at entries number else get places key)
    ((text_decides id id).1 refl)

-- those of other rounds stay
pub relisted_other : (places : FinMap place_cmp Entry) (id : List ℕ) (entries : List Entry) (key : PlaceKey)
    → key.round ≢ id → get (relisted places id entries) key ≡ get places key
relisted_other places id entries key other =
    get-relisted places id entries key
    ∙ ap (λ b. if b then entry_at entries key.number else get places key)
    (not_true (same_text key.round id) (λ same. other ((text_decides key.round id).0 same)))

-- ---- the testers of a draft that is put
-- the round's testers are those of the names
pub retested_own : (testers : FinMap tester_cmp (Unit {0})) (id : List ℕ) (names : List (List ℕ)) (name : List ℕ) →
    (get (retested testers id names) (record { round = id; name = name }) ≡ Some tt) ↔ Contains names name
retested_own testers id names name =
    let key : TesterKey = record { round = id; name = name } in
    let told : get (retested testers id names) key ≡ if_named names name =
    get-retested testers id names key ∙ ap (λ b. if b then if_named names name else get testers key)
    ((text_decides id id).1 refl) in
    subst (λ (found : Option (Unit {0})). (found ≡ Some tt) ↔ Contains names name) (sym told)
    (if_named-Contains names name)

-- those of other rounds stay
pub retested_other : (testers : FinMap tester_cmp (Unit {0})) (id : List ℕ) (names : List (List ℕ)) (key : TesterKey)
    → key.round ≢ id → get (retested testers id names) key ≡ get testers key
retested_other testers id names key other =
    get-retested testers id names key
    ∙ ap (λ b. if b then if_named names key.name else get testers key)
    (not_true (same_text key.round id) (λ same. other ((text_decides key.round id).0 same)))

-- a PutRound asks that no released round stands under the id
pub puts_no_released : (world : World) (caller : Option Person) (id : List ℕ) (sheet : Sheet) (t : ℕ)
    → NoneDecides world caller (action.PutRound id sheet) t → ¬ (IsReleasedRound world id)
puts_no_released world caller id sheet t none (round, kept, released) = (none rule.NoDraft (lit< tt)).0
    ((3, lit< tt, refl), (id, round, refl, kept, released))

-- the draft of a sheet with its list and its testers
abbrev draft_row : List ℕ → Sheet → RoundRow
draft_row id sheet = record { round = draft_of id sheet; puzzles = sheet.puzzles; testers = sheet.testers }

draft_in_type : (id : List ℕ) (sheet : Sheet) → IsRoundId id → IsSheet sheet → IsRoundRow (draft_row id sheet)
draft_in_type id sheet named is = record {
  round = record {
    id = named;
    title = is.title;
    start = is.start;
    minutes = is.minutes;
    protest_minutes = is.protest_minutes;
    penalty = is.penalty;
    bonus = is.bonus;
  };
  puzzles = is.puzzles;
  testers = is.testers;
}

-- whoever may test is there
tester_there : (found : Option Person) → may_test found ≢ false → found ≢ None
tester_there None able none = able refl
tester_there (Some person) able none = let no : Some person ≡ None = none in cc

-- a PutRound asks that each puzzle of the sheet is kept, and each tester there
can_put_draft : (world : World) (caller : Option Person) (id : List ℕ) (sheet : Sheet) (t : ℕ)
    → NoneDecides world caller (action.PutRound id sheet) t → CanPutRound world (draft_row id sheet)
can_put_draft world caller id sheet t none = record {
  puzzles = λ entry among gone. (none rule.Missing (lit< tt)).0 ((2, lit< tt, refl), inl (entry, among, gone));
  testers = λ name among. tester_there (get world.people name)
      (λ able. (none rule.Missing (lit< tt)).0 ((2, lit< tt, refl), inr (name, among, able)));
}

-- a PutRound keeps the world sane: its rules deny a sheet with a puzzle that isn't kept or a tester who isn't there,
-- and a released round's id
pub put_round_step : (world : World) (caller : Option Person) (id : List ℕ) (sheet : Sheet) (t : ℕ)
    (found : PuzzleState) (given : Reply) (new : World) → Sane world →
    IsAction (action.PutRound id sheet) → NoneDecides world caller (action.PutRound id sheet) t
    → Allowed world caller (action.PutRound id sheet) t found given new → Sane new
put_round_step world caller id sheet t found given new sane is none (told, made) =
    subst Sane (sym made)
    (draft_sane world id (draft_row id sheet) (relisted world.places id sheet.puzzles)
    (retested world.testers id sheet.testers) sane
    (puts_no_released world caller id sheet t none)
    refl refl refl (draft_in_type id sheet is.0 is.1)
    (can_put_draft world caller id sheet t none)
    (relisted_own world.places id sheet.puzzles)
    (relisted_other world.places id sheet.puzzles)
    (retested_own world.testers id sheet.testers)
    (retested_other world.testers id sheet.testers))
