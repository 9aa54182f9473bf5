-- A list of people that is imported keeps the world sane.
use Rattle.std.proofs.Common.{◌≡◌, ◌≢◌, ◌⊎◌, inl, inr, if◌then◌else◌, ℕ, suc, true, false, List, [], ◌∷◌, Option, Some}
use Rattle.std.proofs.Common.{None, Contains, IsTrue, refl, sym, ap, ◌∙◌, subst, arith, lit<}
use Rattle.std.specs.Prelude.{All, is_some}
use Rattle.std.specs.FinMap.{FinMap, get, insert}
use Rattle.std.proofs.lemmas.List.Elements.{All-head, All-tail}
use Rattle.hall_policy.specs.Text.{text_cmp}
use Rattle.hall_policy.specs.World.{World}
use Rattle.hall_policy.specs.Lists.{ArePeopleDifferent}
use Rattle.hall_policy.specs.Ranges.{IsPerson, IsAction, AreRowsInRange, IsWorld}
use Rattle.hall_policy.specs.Rules.{Conflicts}
use Rattle.hall_policy.specs.First.{NoneDecides}
use Rattle.hall_policy.specs.declared.rule.Rule.TheVariants as rule
use Rattle.hall_policy.specs.declared.record.Person.{Person}
use Rattle.hall_policy.specs.declared.record.PuzzleState.{PuzzleState}
use Rattle.hall_policy.specs.declared.request.Action.TheVariants as action
use Rattle.hall_policy.proofs.Orders.{text_total, same_texts}
use Rattle.hall_store.specs.Change.{with_person, with_people}
use Rattle.hall_store.proofs.Inserts.{found_after, others_stay, still_there}
use Rattle.hall_desk.specs.Step.{Allowed}
use Rattle.hall_desk.specs.Sane.{Sane, RefersToRows, MayTakePart}
use Rattle.hall_desk.specs.declared.reply.Reply.{Reply}

-- ---- a person
module _ (world : World) (person : Person) (sane : Sane world) where
  abbrev new_people : FinMap text_cmp Person
  new_people = insert world.people person.name person

  -- who is found is the new person, or was there before under another name
  after_person : (q : List ℕ) (p : Person) → get new_people q ≡ Some p → ((q ≡ person.name) × (p ≡ person))
      ⊎ ((q ≢ person.name) × (get world.people q ≡ Some p))
  after_person q p found = found_after text_total same_texts world.people person.name person q p found

  -- nobody is lost
  stays : (q : List ℕ) → get world.people q ≢ None → get new_people q ≢ None
  stays q there = still_there text_total same_texts world.people person.name person q there

  person_refers : RefersToRows (record world { people = new_people })
  person_refers = record {
    authors = λ key row found. stays key.author (sane.refers.authors key row found);
    entries = sane.refers.entries;
    testers = λ round name found. stays name (sane.refers.testers round name found);
    entrants = λ key row found. stays key.entrant (sane.refers.entrants key row found);
    answered = sane.refers.answered;
    protesters = λ key row found. stays key.entrant (sane.refers.protesters key row found);
    protested = sane.refers.protested;
  }

  module _ (in_range : IsPerson person) (own_key : (name : List ℕ) (other : Person) → get world.people name ≡ Some other
      → other.key ≢ person.key) where
    person_in_range : AreRowsInRange (record world { people = new_people })
    person_in_range = record {
      people = λ q p found. elim (after_person q p found) [
        | inl h ↦ subst IsPerson (sym h.1) in_range
        | inr h ↦ sane.typed.in_range.people q p h.1
      ];
      puzzles = sane.typed.in_range.puzzles;
      rounds = sane.typed.in_range.rounds;
      places = sane.typed.in_range.places;
      answers = sane.typed.in_range.answers;
      protests = sane.typed.in_range.protests;
      testers = sane.typed.in_range.testers;
    }

    person_typed : IsWorld (record world { people = new_people })
    person_typed = record {
      in_range = person_in_range;
      people = λ q p found. elim (after_person q p found) [
        | inl h ↦ ap (λ (x : Person). x.name) h.1 ∙ sym h.0
        | inr h ↦ sane.typed.people q p h.1
      ];
      puzzles = sane.typed.puzzles;
      rounds = sane.typed.rounds;
      answers = sane.typed.answers;
      protests = sane.typed.protests;
      keys_differ = λ a b p q at_a at_b same. elim (after_person a p at_a) [
        | inl h ↦ elim (after_person b q at_b) [
          | inl k ↦ h.0 ∙ sym k.0
          | inr k ↦ absurd (own_key b q k.1 (sym same ∙ ap (λ (x : Person). x.key) h.1))
        ]
        | inr h ↦ elim (after_person b q at_b) [
          | inl k ↦ absurd (own_key a p h.1 (same ∙ ap (λ (x : Person). x.key) k.1))
          | inr k ↦ sane.typed.keys_differ a b p q h.1 k.1 same
        ]
      ];
      lists = λ id round found. let l = sane.typed.lists id round found in
          (l.0, record { head = l.1.head; list = l.1.list; testers = l.1.testers }, l.2, l.3);
      homes = sane.typed.homes;
      tester_homes = sane.typed.tester_homes;
    }

-- who may take part in a round still may
still_takes_part : (world : World) (person : Person) → get world.people person.name ≡ None → (name round : List ℕ)
    → MayTakePart world name round →
    MayTakePart (record world { people = insert world.people person.name person }) name round
still_takes_part world person fresh name round (other, there, entrant, no_author, no_tester) =
    let differ : name ≢ person.name = λ same. let no : None ≡ Some other = sym fresh ∙ ap (get world.people) (sym same)
    ∙ there in cc in (
      other,
      others_stay text_total same_texts world.people person.name person name other differ there,
      entrant,
      no_author,
      no_tester,
    )

-- a person whose key no other has, and who is not director and entrant may be added
pub person_sane : (world : World) (person : Person) → Sane world → IsPerson person → get world.people person.name ≡ None
    → ((name : List ℕ) (other : Person) → get world.people name ≡ Some other → other.key ≢ person.key) →
    (IsTrue person.roles.director → IsTrue person.roles.entrant → ⊥)
    → Sane (record world { people = insert world.people person.name person })
person_sane world person sane in_range fresh own_key one_role = record {
  typed = person_typed world person sane in_range own_key;
  refers = person_refers world person sane;
  states = sane.states;
  answers_released = sane.answers_released;
  protests_released = sane.protests_released;
  answerers = λ key row found. still_takes_part world person fresh key.entrant key.round (sane.answerers key row found);
  protesters = λ key row found. still_takes_part world person fresh key.entrant key.round
      (sane.protesters key row found);
  verdicts = sane.verdicts;
  certified = sane.certified;
  in_one_round = sane.in_one_round;
  published = sane.published;
  ruled = sane.ruled;
  numbered = sane.numbered;
  numbered_once = sane.numbered_once;
  apart = λ name p found. elim (after_person world person sane name p found) [
    | inl h ↦ λ director entrant. one_role (subst (λ (x : Person). IsTrue x.roles.director) h.1 director)
        (subst (λ (x : Person). IsTrue x.roles.entrant) h.1 entrant)
    | inr h ↦ sane.apart name p h.1
  ];
  few_answers = sane.few_answers;
  few_protests = sane.few_protests;
  few_puzzles = sane.few_puzzles;
}

-- ---- a list
-- the world with the person, where the name is unknown
abbrev joined : World → Person → World
joined world person = record world { people = with_person world.people person }

-- a person who conflicts with nobody may be added
joined_sane : (world : World) (person : Person) → Sane world → IsPerson person → ¬ (Conflicts world person)
    → Sane (joined world person)
joined_sane world person sane in_range fits =
    elim (get world.people person.name) as (λ (o : Option Person). get world.people person.name ≡ o
    → Sane (record world { people = if is_some o then world.people else insert world.people person.name person })) [
      | None ↦ λ none. person_sane world person sane in_range none
          (λ name other found same. fits (inr (inl (
            name,
            other,
            found,
            (λ own. let no : Some other ≡ None = sym found ∙ ap (get world.people) own ∙ none in cc),
            same,
          ))))
          (λ director entrant. fits (inr (inr (director, entrant))))
      | Some known ↦ λ _. sane
    ] refl

-- who conflicted with nobody still does, once another name and key were added
still_fits : (world : World) (person next : Person) → ¬ ((person.name ≡ next.name) ⊎ (person.key ≡ next.key))
    → ¬ (Conflicts world next) → ¬ (Conflicts (joined world person) next)
still_fits world person next differ fits =
    elim (is_some (get world.people person.name)) as (λ b. ¬
    (Conflicts (record world { people = if b then world.people else insert world.people person.name person }) next)) [
      | true ↦ fits
      | false ↦ λ conflict. elim conflict [
        | inl h ↦ elim (found_after text_total same_texts world.people person.name person next.name h.0 h.1) [
          | inl own ↦ differ (inl (sym own.0))
          | inr other ↦ fits (inl (h.0, other.1, h.2))
        ]
        | inr (inl h) ↦ elim (found_after text_total same_texts world.people person.name person h.0 h.1 h.2) [
          | inl own ↦ differ (inr (ap (λ (p : Person). p.key) (sym own.1) ∙ h.4))
          | inr other ↦ fits (inr (inl (h.0, h.1, other.1, h.3, h.4)))
        ]
        | inr (inr h) ↦ fits (inr (inr h))
      ]
    ]

-- people who conflict with nobody, and have names and keys of their own, may be added one by one
pub people_sane : (world : World) (people : List Person) → Sane world → ArePeopleDifferent people → All IsPerson people
    → ((person : Person) → Contains people person → ¬ (Conflicts world person)) →
    Sane (record world { people = with_people world.people people })
people_sane world [] sane different each fits = sane
people_sane world (person ∷ rest) sane different each fits =
    people_sane (joined world person) rest
    (joined_sane world person sane (All-head IsPerson person rest each) (fits person (0, omega arith, refl)))
    (λ i j d before within. different (suc i) (suc j) d (omega arith) (omega arith))
    (All-tail IsPerson person rest each)
    (λ next among. still_fits world person next
    (subst (λ (x : Person). ¬ ((person.name ≡ x.name) ⊎ (person.key ≡ x.key))) among.2
    (different 0 (suc among.0) next (omega arith) (omega (arith, among.1))))
    (fits next (suc among.0, omega (arith, among.1), among.2)))

-- an Import keeps the world sane: its rule denies a list that conflicts with somebody
pub import_step : (world : World) (caller : Option Person) (people : List Person) (t : ℕ) (found : PuzzleState)
    (given : Reply) (new : World) → Sane world →
    IsAction (action.Import people) → NoneDecides world caller (action.Import people) t
    → Allowed world caller (action.Import people) t found given new → Sane new
import_step world caller people t found given new sane is none (told, made) =
    subst Sane (sym made)
    (people_sane world people sane is.0.different is.1
    (λ person among conflict. (none rule.ListConflict (lit< tt)).0 ((2, lit< tt, refl), (person, among, conflict))))
