-- A round whose flags change, and nothing else of it, keeps the world sane.
use Rattle.std.proofs.Common.{◌≡◌, ◌≢◌, ◌⊎◌, ◌↔◌, inl, inr, ℕ, Bool, List, Some, None, IsTrue, Contains, sym, ap, ◌∙◌}
use Rattle.std.proofs.Common.{subst}
use Rattle.std.specs.FinMap.{FinMap, get, insert}
use Rattle.hall_policy.specs.Text.{text_cmp}
use Rattle.hall_policy.specs.World.{World, IsTesterOf}
use Rattle.hall_policy.specs.Ranges.{IsRound, AreRowsInRange, HasWholeList, IsWorld}
use Rattle.hall_policy.specs.Rules.{ListsEntry, StandsReleased, IsCertified}
use Rattle.hall_policy.specs.declared.record.PuzzleKey.{PuzzleKey}
use Rattle.hall_policy.specs.declared.record.Round.{Round}
use Rattle.hall_policy.specs.declared.record.RoundRow.{RoundRow}
use Rattle.hall_policy.specs.declared.record.Entry.{Entry}
use Rattle.hall_policy.specs.declared.record.ProtestKey.{ProtestKey}
use Rattle.hall_policy.specs.declared.record.ProtestRow.{ProtestRow}
use Rattle.hall_policy.proofs.Orders.{text_total, same_texts}
use Rattle.hall_desk.specs.Lookups.{IsReleasedRound}
use Rattle.hall_desk.specs.Sane.{Sane, RefersToRows}
use Rattle.hall_store.proofs.Inserts.{keys_apart, found_after, others_stay, inserted_there, still_there}

module _ (world : World) (id : List ℕ) (round : Round) (released published : Bool)
    (kept : get world.rounds id ≡ Some round) (is_released : IsTrue released) (sane : Sane world) where
  abbrev flagged : Round
  flagged = record round { released = released; published = published }

  abbrev new_rounds : FinMap text_cmp Round
  new_rounds = insert world.rounds id flagged

  abbrev after : World
  after = record world { rounds = new_rounds }

  -- a round that is found is this one, with its flags, or was there before under another id
  after_flags : (q : List ℕ) (r : Round) → get new_rounds q ≡ Some r → ((q ≡ id) × (r ≡ flagged))
      ⊎ ((q ≢ id) × (get world.rounds q ≡ Some r))
  after_flags q r found = found_after text_total same_texts world.rounds id flagged q r found

  -- a released round stays one
  stays_released : (q : List ℕ) → IsReleasedRound world q → IsReleasedRound after q
  stays_released q (r, found, is) = elim (keys_apart text_total same_texts q id) [
    | inl own ↦ (flagged, inserted_there text_total same_texts world.rounds id flagged q own, is_released)
    | inr other ↦ (r, others_stay text_total same_texts world.rounds id flagged q r other found, is)
  ]

  -- a puzzle of a released round is one of this round, or was in another released round before
  stands_then : (q : List ℕ) (key : PuzzleKey) → StandsReleased after key q
      → ((q ≡ id) × ((entry : Entry) × ListsEntry world id entry × (entry.puzzle ≡ key)))
      ⊎ ((q ≢ id) × StandsReleased world key q)
  stands_then q key (r, entry, found, is, lists, of) = elim (after_flags q r found) [
    | inl h ↦ inl (h.0, (entry, subst (λ (x : List ℕ). ListsEntry world x entry) h.0 lists, of))
    | inr h ↦ inr (h.0, (r, entry, h.1, is, lists, of))
  ]

  -- each round keeps its list: no place changes
  lists_then : (q : List ℕ) (r : Round) → get new_rounds q ≡ Some r → HasWholeList after q
  lists_then q r found = elim (after_flags q r found) [
    | inl h ↦
        let l = sane.typed.lists id round kept in
        let old : RoundRow = l.0 in (
          record old { round = flagged },
          record {
            head = inserted_there text_total same_texts world.rounds id flagged q h.0;
            list = λ number. ap (λ (x : List ℕ). get world.places (record { round = x; number = number })) h.0
                ∙ l.1.list number;
            testers = λ name. subst (λ (x : List ℕ). IsTesterOf world x name ↔ Contains old.testers name) (sym h.0)
                (l.1.testers name);
          },
          l.2,
          l.3,
        )
    | inr h ↦ let l = sane.typed.lists q r h.1 in (
      l.0,
      record {
        head = others_stay text_total same_texts world.rounds
            id flagged q l.0.round h.0 l.1.head;
        list = l.1.list;
        testers = l.1.testers;
      },
      l.2,
      l.3,
    )
  ]

  -- no flag has a range
  round_in_range : IsRound flagged
  round_in_range =
      let is = sane.typed.in_range.rounds id round kept in
      record {
        id = is.id;
        title = is.title;
        start = is.start;
        minutes = is.minutes;
        protest_minutes = is.protest_minutes;
        penalty = is.penalty;
        bonus = is.bonus;
      }

  flags_in_range : AreRowsInRange after
  flags_in_range = record {
    people = sane.typed.in_range.people;
    puzzles = sane.typed.in_range.puzzles;
    rounds = λ q r found. elim (after_flags q r found) [
      | inl h ↦ subst IsRound (sym h.1) round_in_range
      | inr h ↦ sane.typed.in_range.rounds q r h.1
    ];
    places = sane.typed.in_range.places;
    answers = sane.typed.in_range.answers;
    protests = sane.typed.in_range.protests;
    testers = sane.typed.in_range.testers;
  }

  flags_typed : IsWorld after
  flags_typed = record {
    in_range = flags_in_range;
    people = sane.typed.people;
    puzzles = sane.typed.puzzles;
    rounds = λ q r found. elim (after_flags q r found) [
      | inl h ↦ ap (λ (x : Round). x.id) h.1 ∙ sane.typed.rounds id round kept ∙ sym h.0
      | inr h ↦ sane.typed.rounds q r h.1
    ];
    answers = sane.typed.answers;
    protests = sane.typed.protests;
    keys_differ = sane.typed.keys_differ;
    lists = lists_then;
    homes = λ key entry found. still_there text_total same_texts world.rounds id flagged key.round
        (sane.typed.homes key entry found);
    tester_homes = λ key found. still_there text_total same_texts world.rounds id flagged key.round
        (sane.typed.tester_homes key found);
  }

  flags_refers : RefersToRows after
  flags_refers = record {
    authors = sane.refers.authors;
    entries = sane.refers.entries;
    testers = sane.refers.testers;
    entrants = sane.refers.entrants;
    answered = sane.refers.answered;
    protesters = sane.refers.protesters;
    protested = sane.refers.protested;
  }

  module _ (all_certified : (entry : Entry) → ListsEntry world id entry → IsCertified world entry.puzzle)
      (none_shared : (entry : Entry) (other : List ℕ) → ListsEntry world id entry → other ≢ id
      → ¬ (StandsReleased world entry.puzzle other))
      (none_open : IsTrue published → (key : ProtestKey) (row : ProtestRow) → key.round ≡ id
      → get world.protests key ≡ Some row → row.ruling ≢ None) where
    -- a puzzle of this round is certified, and one of another round was before
    certified_then : (q : List ℕ) (key : PuzzleKey) → StandsReleased after key q → IsCertified world key
    certified_then q key stands = elim (stands_then q key stands) [
      | inl h ↦ subst (λ (k : PuzzleKey). IsCertified world k) h.1.2 (all_certified h.1.0 h.1.1)
      | inr h ↦ sane.certified q key h.1
    ]

    -- a puzzle of this round stands in no other, and two others were one before
    one_round_then : (a b : List ℕ) (key : PuzzleKey) → StandsReleased after key a → StandsReleased after key b → a ≡ b
    one_round_then a b key at_a at_b = elim (stands_then a key at_a) [
      | inl h ↦ elim (stands_then b key at_b) [
        | inl k ↦ h.0 ∙ sym k.0
        | inr k ↦ absurd (none_shared h.1.0 b h.1.1 k.0 (subst (λ (x : PuzzleKey). StandsReleased world x b) (sym h.1.2)
            k.1))
      ]
      | inr h ↦ elim (stands_then b key at_b) [
        | inl k ↦ absurd (none_shared k.1.0 a k.1.1 h.0 (subst (λ (x : PuzzleKey). StandsReleased world x a) (sym k.1.2)
            h.1))
        | inr k ↦ sane.in_one_round a b key h.1 k.1
      ]
    ]

    -- a round whose puzzles are certified, and in no other released round, may be released; it may be published, too,
    -- where no protest of it is open
    pub flags_sane : Sane after
    flags_sane = record {
      typed = flags_typed;
      refers = flags_refers;
      states = sane.states;
      answers_released = λ key row found. stays_released key.round (sane.answers_released key row found);
      protests_released = λ key row found. stays_released key.round (sane.protests_released key row found);
      answerers = sane.answerers;
      protesters = sane.protesters;
      verdicts = sane.verdicts;
      certified = certified_then;
      in_one_round = one_round_then;
      published = λ q r found is. elim (after_flags q r found) [
        | inl h ↦ ap (λ (x : Round). x.released) h.1 ∙ is_released
        | inr h ↦ sane.published q r h.1 is
      ];
      ruled = λ q r found is key row of. elim (after_flags q r found) [
        | inl h ↦ none_open (subst (λ (x : Round). IsTrue x.published) h.1 is) key row (of ∙ h.0)
        | inr h ↦ sane.ruled q r h.1 is key row of
      ];
      numbered = sane.numbered;
      numbered_once = sane.numbered_once;
      apart = sane.apart;
      few_answers = sane.few_answers;
      few_protests = sane.few_protests;
      few_puzzles = sane.few_puzzles;
    }
