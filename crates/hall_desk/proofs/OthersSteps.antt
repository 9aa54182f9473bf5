-- Two worlds that are alike but for the rows of others stay so, whether a request of the others is left out, or both
-- make a request.
use Rattle.std.proofs.Common.{◌≡◌, ◌≢◌, ◌⊎◌, ◌&&◌, ◌||◌, inl, inr, ℕ, Bool, true, false, not, List, Option, Some, None}
use Rattle.std.proofs.Common.{refl, sym, ap, ◌∙◌, subst}
use Rattle.std.specs.Option.{option_map}
use Rattle.std.specs.FinMap.{FinMap, get, insert}
use Rattle.std.proofs.lemmas.Bool.{false≢true}
use Rattle.hall_policy.specs.Text.{text_cmp}
use Rattle.hall_policy.specs.World.{World, answer_cmp, protest_cmp, same_text}
use Rattle.hall_policy.specs.Ranges.{IsWorld}
use Rattle.hall_policy.specs.First.{First}
use Rattle.hall_policy.specs.declared.record.Person.{Person}
use Rattle.hall_policy.specs.declared.record.Round.{Round}
use Rattle.hall_policy.specs.declared.record.AnswerRow.{AnswerRow}
use Rattle.hall_policy.specs.declared.record.ProtestKey.{ProtestKey}
use Rattle.hall_policy.specs.declared.record.ProtestRow.{ProtestRow}
use Rattle.hall_policy.specs.declared.record.PuzzleState.{PuzzleState}
use Rattle.hall_policy.specs.declared.record.Ruling.{Ruling}
use Rattle.hall_policy.specs.declared.request.Action.{Action}
use Rattle.hall_policy.specs.declared.request.Action.TheVariants as action
use Rattle.hall_policy.specs.declared.rule.Decision.{Decision}
use Rattle.hall_policy.specs.declared.rule.Decision.TheVariants.{Allow, Repeat, Deny}
use Rattle.hall_policy.proofs.Orders.{text_total, same_texts}
use Rattle.hall_store.specs.Caller.{caller_of}
use Rattle.hall_policy.specs.Rules.{HasOpenProtest, HasConflict}
use Rattle.hall_policy.proofs.Deciding.{decided_alike}
use Rattle.hall_store.specs.Change.{with_people}
use Rattle.hall_store.proofs.Inserts.{found_after}
use Rattle.hall_desk.specs.Step.{Asked, IsAnswered, IsPublishStep, Seed, Decided, unknown_people}
use Rattle.hall_desk.specs.Lives.{IsRefusedAlike, hands_in}
use Rattle.hall_policy.specs.OwnAlike.{is_entrant_alone, seen, as_is}
use Rattle.hall_desk.specs.Alike.{LooksAlike, AlikeFor}
use Rattle.hall_desk.specs.Without.{has_key, is_other_person}
use Rattle.hall_desk.specs.declared.reply.Reply.{Reply}
use Rattle.hall_desk.specs.declared.reply.Reply.TheVariants as reply
use Rattle.hall_policy.proofs.Texts.{text_decides, and_first, and_second}
use Rattle.hall_desk.proofs.Answering.{find-value}
use Rattle.hall_desk.specs.Records.{KeptRecords}
use Rattle.hall_desk.proofs.Shows.{one_row}
use Rattle.hall_policy.proofs.LoneDecisions.{lone, is_lone, as_it_stands}
use Rattle.hall_desk.proofs.RepliesAlike.{IsAtMost}
use Rattle.hall_desk.proofs.StepsAlike.{same_callers, whole_rows}
use Rattle.hall_desk.proofs.Preserving.{Agrees, alike_world, both_stay}
use Rattle.hall_desk.proofs.Changing.{KeepsRest, IsMaker, Changes, step_changes, was_published, rules_alone}

-- ---- who is called
-- who is found by a key stands under that person's name, and has the key
pub record IsFoundBy (world : World) (asked : Option (List ℕ)) (person : Person) : Type 0 where
  pub under : get world.people person.name ≡ Some person
  pub key : asked ≡ Some person.key

pub found_by : (world : World) → IsWorld world → (key : Option (List ℕ)) (person : Person)
    → caller_of world key ≡ Some person → IsFoundBy world key person
found_by world typed None person is = let none : None ≡ Some person = is in absurd (cc)
found_by world typed (Some key) person is =
    let at = find-value text_total (λ p. same_text p.key key) world.people person is in
    record {
      under = ap (get world.people) (typed.people at.0 person at.1) ∙ at.1;
      key = ap Some (sym ((text_decides person.key key).0 at.2));
    }

and_false : (b : Bool) → (b && false) ≡ false
and_false true = refl
and_false false = refl

true_not : (b : Bool) → not b ≡ true → b ≡ false
true_not true h = absurd (false≢true h)
true_not false h = refl

-- what is kept less
fewer : (hidden : List ℕ → Bool) (ex : List ℕ → List ℕ → List ℕ) (Kept Less : List ℕ → List ℕ → Type 0)
    (world other : World) → ((name id : List ℕ) → Less name id → Kept name id) → AlikeFor ex hidden Kept world other
    → AlikeFor ex hidden Less world other
fewer hidden ex Kept Less world other less alike = record {
  people = alike.people;
  puzzles = alike.puzzles;
  rounds = alike.rounds;
  places = alike.places;
  testers = alike.testers;
  answers = λ key k. alike.answers key (less key.entrant key.round k);
  protests = λ key k. alike.protests key (less key.entrant key.round k);
}

abbrev pub nothing : List ℕ → Bool
nothing id = false

-- a key is e's, or not
pub asks_as : (key : List ℕ) (asked : Option (List ℕ)) → has_key key asked ≡ true → asked ≡ Some key
asks_as key None h = absurd (false≢true h)
asks_as key (Some own) h = ap Some ((text_decides own key).0 h)

-- a round that is published, or isn't where it is kept
published_or_not : (found : Option Round) → ((round : Round) × (found ≡ Some round) × (round.published ≡ true))
    ⊎ ((round : Round) → found ≡ Some round → round.published ≡ false)
published_or_not None = inr (λ round at. absurd (let no : None ≡ Some round = at in cc))
published_or_not (Some round) = elim round.published as (λ b. round.published ≡ b →
    ((r : Round) × (◌≡◌ {A = Option Round} (Some round) (Some r)) × (r.published ≡ true))
    ⊎ ((r : Round) → ◌≡◌ {A = Option Round} (Some round) (Some r) → r.published ≡ false)) [
      | true ↦ λ published. inl (round, refl, published)
      | false ↦ λ not_yet. inr (λ r at. let one : round ≡ r = cc in ap (λ (x : Round). x.published) (sym one) ∙ not_yet)
    ] refl

-- ---- a publication
-- whether the action is to publish a round
pub asks_publication : (a : Action) → ((id : List ℕ) × (a ≡ action.Publish id))
    ⊎ ((id : List ℕ) → a ≢ action.Publish id)
asks_publication (action.Publish id) = inl (id, refl)
asks_publication _ = inr (λ id same. cc)

-- it leaves the world, or is granted
publishes : (world : World) (caller : Option Person) (t : ℕ) (id : List ℕ) (d : Decision) (found : PuzzleState)
    (given : Reply) (new : World) →
    Decided d world caller (action.Publish id) t found given new → (new ≡ world) ⊎ IsPublishStep world id given new
publishes world caller t id (Deny k) found given new h = inl h.1
publishes world caller t id Repeat found given new h = absurd h.0
publishes world caller t id Allow found given new h = inr h

-- so does one that is decided alike in two worlds
publish_both : (world other : World) (caller twin : Option Person) (t : ℕ) (id : List ℕ) (d : Decision)
    (found : PuzzleState) (given answered : Reply) (next after : World) →
    Decided d world caller (action.Publish id) t found given next → Decided d other twin (action.Publish id) t found
    answered after →
    ((next ≡ world) × (after ≡ other)) ⊎ (IsPublishStep world id given next × IsPublishStep other id answered after)
publish_both world other caller twin t id (Deny k) found given answered next after h k' = inl (h.1, k'.1)
publish_both world other caller twin t id Repeat found given answered next after h k' = absurd h.0
publish_both world other caller twin t id Allow found given answered next after h k' = inr (h, k')

-- whether a protest of the round is open is told by the round's protests
open_moved : (protests others : FinMap protest_cmp ProtestRow) (id : List ℕ)
    → ((k : ProtestKey) → k.round ≡ id → get protests k ≡ get others k) → (world : World) →
    HasOpenProtest (record world { protests = protests }) (action.Publish id)
    → HasOpenProtest (record world { protests = others }) (action.Publish id)
open_moved protests others id same world (named, key, row, own, here, at, open_still) =
    let both : Some id ≡ Some named = own in
    let one : named ≡ id = cc in
    (named, key, row, own, here, sym (same key (here ∙ one)) ∙ at, open_still)

-- two worlds that differ in answers and protests decide alike whether a round is published whose protests are the same
same_publication : (world : World) (answers : FinMap answer_cmp AnswerRow) (protests : FinMap protest_cmp ProtestRow)
    (caller : Option Person) (id : List ℕ) (t : ℕ) →
    ((k : ProtestKey) → k.round ≡ id → get world.protests k ≡ get protests k) → (d f : Decision)
    → First world caller (action.Publish id) t d →
    First (record world { puzzles = world.puzzles; answers = answers; protests = protests }) caller (action.Publish id)
    t f → d ≡ f
same_publication world answers protests caller id t same d f first second =
    let other : World = record world { puzzles = world.puzzles; answers = answers; protests = protests } in
    decided_alike world other caller (action.Publish id) (action.Publish id) t refl (
      record { forbids = ((λ h. h), (λ h. h)); repeats = ((λ h. h), (λ h. h)) },
      (
        record { forbids = ((λ h. h), (λ h. h)); repeats = ((λ h. h), (λ h. h)) },
        (
          record { forbids = ((λ h. h), (λ h. h)); repeats = ((λ h. h), (λ h. h)) },
          (
            record { forbids = ((λ h. h), (λ h. h)); repeats = ((λ h. h), (λ h. h)) },
            (
              record { forbids = ((λ h. h), (λ h. h)); repeats = ((λ h. h), (λ h. h)) },
              (
                record {
                  forbids = (
                    open_moved world.protests protests id same world,
                    open_moved protests world.protests id
                        (λ k own. sym (same k own)) world,
                  );
                  repeats = ((λ h. h), (λ h. h));
                },
                tt,
              ),
            ),
          ),
        ),
      ),
    ) d f first second

-- ---- people who stand before any request
-- a list contradicts those who are known, or not, in both worlds
conflict_moved : (world other : World) (people : List Person) → world.people ≡ other.people
    → HasConflict world (action.Import people) → HasConflict other (action.Import people)
conflict_moved world other people same h = subst (λ (m : FinMap text_cmp Person). HasConflict
    (record world { people = m }) (action.Import people)) same h

-- where both worlds have the same people, the list leaves both, or its people join both
pub seeded_both : (world other next after : World) (people : List Person) (given answered : Reply)
    → world.people ≡ other.people → IsRefusedAlike given answered →
    Seed world people given next → Seed other people answered after →
    ((next ≡ world) × (after ≡ other))
    ⊎ ((next ≡ record world { people = with_people world.people people })
    × (after ≡ record other { people = with_people other.people people }))
seeded_both world other next after people given answered same refused (inl h) (inl k) = inl (h.1, k.1)
seeded_both world other next after people given answered same refused (inl h) (inr (inl k)) = let no : reply.Denied 20 ≡
    reply.Unavailable = sym k.1 ∙ refused.0 h.0 in absurd (cc)
seeded_both world other next after people given answered same refused (inl h) (inr (inr k)) =
    let no : reply.Import (unknown_people other people) ≡ reply.Unavailable = sym k.1.0 ∙ refused.0 h.0 in absurd (cc)
seeded_both world other next after people given answered same refused (inr (inl h)) (inl k) = let no : reply.Denied 20 ≡
    reply.Unavailable = sym h.1 ∙ refused.1 k.0 in absurd (cc)
seeded_both world other next after people given answered same refused (inr (inl h)) (inr (inl k)) = inl (h.2, k.2)
seeded_both world other next after people given answered same refused (inr (inl h)) (inr (inr k)) = absurd
    (k.0 (conflict_moved world other people same h.0))
seeded_both world other next after people given answered same refused (inr (inr h)) (inl k) =
    let no : reply.Import (unknown_people world people) ≡ reply.Unavailable = sym h.1.0 ∙ refused.1 k.0 in absurd (cc)
seeded_both world other next after people given answered same refused (inr (inr h)) (inr (inl k)) = absurd
    (h.0 (conflict_moved other world people (sym same) k.0))
seeded_both world other next after people given answered same refused (inr (inr h)) (inr (inr k)) = inr (h.1.1, k.1.1)

-- worlds that are alike stay so where the same people join
pub people_join : (ex : List ℕ → List ℕ → List ℕ) (hidden : List ℕ → Bool) (Kept : List ℕ → List ℕ → Type 0)
    (world other : World) (people : List Person) → AlikeFor ex hidden Kept world other →
    AlikeFor ex hidden Kept (record world { people = with_people world.people people })
    (record other { people = with_people other.people people })
people_join ex hidden Kept world other people alike = record {
  people = ap (λ (m : FinMap text_cmp Person). with_people m people) alike.people;
  puzzles = alike.puzzles;
  rounds = alike.rounds;
  places = alike.places;
  testers = alike.testers;
  answers = alike.answers;
  protests = alike.protests;
}

module _ (last : World) (e : Person) (settled : IsWorld last) (there : get last.people e.name ≡ Some e)
    (alone : is_entrant_alone e ≡ true) where
  -- whether the name is that of another person who holds the role entrant alone
  abbrev pub is_other_name : List ℕ → Bool
  is_other_name name = is_other_person e (get last.people name)

  abbrev pub IsPublishedIn : World → List ℕ → Type 0
  IsPublishedIn world id = (round : Round) × (get world.rounds id ≡ Some round) × (round.published ≡ true)

  e_stays : is_other_name e.name ≡ false
  e_stays =
      let own : same_text e.name e.name ≡ true = (text_decides e.name e.name).1 refl in
      ap (is_other_person e) there ∙ ap (λ b. is_entrant_alone e && not b) own ∙ and_false (is_entrant_alone e)

  pub someone : (found : Option Person) → is_other_person e found ≡ true → (person : Person) × (found ≡ Some person)
  someone None h = absurd (false≢true h)
  someone (Some person) h = (person, refl)

  -- another person's request isn't e's
  pub not_own : (key : Option (List ℕ)) → is_other_person e (caller_of last key) ≡ true → has_key e.key key ≡ false
  not_own key is_other = elim (has_key e.key key) as (λ b. has_key e.key key ≡ b → b ≡ false) [
    | false ↦ λ h. refl
    | true ↦ λ h.
        let (person, found) = someone (caller_of last key) is_other in
        let by = found_by last settled key person found in
        let both : Some person.key ≡ Some e.key = sym by.key ∙ asks_as e.key key h in
        let same_key : person.key ≡ e.key = cc in
        let same_name : person.name ≡ e.name = settled.keys_differ person.name e.name person e by.under there
        same_key in
        let other : is_other_person e (Some person) ≡ true = ap (is_other_person e) (sym found) ∙ is_other in
        let differ : same_text person.name e.name ≡ false = true_not (same_text person.name e.name)
        (and_second _ _ other) in
        absurd (false≢true (sym differ ∙ (text_decides person.name e.name).1 same_name))
  ] refl

  -- who has the key at the list's end has it, or nobody does, in a world before
  module _ (world : World) (remains : KeptRecords world last) (key : Option (List ℕ)) where
    pub later_caller : (person : Person) → caller_of world key ≡ Some person → caller_of last key ≡ Some person
    later_caller person is = remains.callers key person is

    -- a request with e's key is made by e, or by nobody yet
    pub e_calls : key ≡ Some e.key → IsAtMost (caller_of world key) e
    e_calls own = elim (caller_of world key) as (λ c. caller_of world key ≡ c → IsAtMost c e) [
      | None ↦ λ gone. inr refl
      | Some person ↦ λ is.
          let by = found_by last settled key person (later_caller person is) in
          let both : Some person.key ≡ Some e.key = sym by.key ∙ own in
          let same_key : person.key ≡ e.key = cc in
          let same_name : person.name ≡ e.name = settled.keys_differ person.name e.name person e by.under there
          same_key in
          inl (sym by.under ∙ ap (get last.people) same_name ∙ there)
    ] refl

-- the rounds of `apart` are those whose rows are the same in both worlds, to which no other hands in
module _ (last : World) (e : Person) (settled : IsWorld last) (there : get last.people e.name ≡ Some e)
    (alone : is_entrant_alone e ≡ true) (apart : List ℕ → Bool) where
  -- rows under the name in the round are the same in both worlds
  abbrev pub Stays : World → List ℕ → List ℕ → Type 0
  Stays world name id = (is_other_name last e settled there alone name ≡ false)
      ⊎ (IsPublishedIn last e settled there alone world id ⊎ (apart id ≡ true))

  abbrev pub AlikeIn : World → World → Type 0
  AlikeIn world other = AlikeFor as_is nothing (Stays world) world other

  -- a kept caller's rows stay
  kept_caller : (world : World) → KeptRecords world last → (key : Option (List ℕ))
      → is_other_person e (caller_of last key) ≡ false → (person : Person) → caller_of world key ≡ Some person
      → (round : List ℕ) → Stays world person.name round
  kept_caller world remains key kept person is round =
      let at_last = later_caller last e settled there alone world remains key person is in
      let by = found_by last settled key person at_last in
      inl (ap (is_other_person e) by.under ∙ ap (is_other_person e) (sym at_last) ∙ kept)

  -- ---- what e sees
  pub looks_alike : (world other : World) (t : ℕ) → IsWorld world → IsWorld other → AlikeIn world other
      → LooksAlike as_is nothing e t world other
  looks_alike world other t typed retyped alike = record {
    own = record {
      answers = λ key own. alike.answers key (inl (ap (is_other_name last e settled there alone) own
          ∙ e_stays last e settled there alone));
      protests = λ key own. alike.protests key (inl (ap (is_other_name last e settled there alone) own
          ∙ e_stays last e settled there alone));
    };
    sealed = λ id round hidden kept. absurd (false≢true hidden);
    answers = λ id round kept published key own.
        whole_rows nothing (get world.answers key) (get other.answers key) (λ r at. refl) (λ r at. refl)
        (alike.answers key (inr (inl (round, ap (get world.rounds) own ∙ kept, published))));
    protests = λ id round kept published key own. alike.protests key
        (inr (inl (round, ap (get world.rounds) own ∙ kept, published)));
    puzzles = λ key started. ap (λ m. get m key) alike.puzzles;
    tested = λ key tests. ap (λ m. get m key) alike.puzzles;
  }

  -- ---- a request that is left out
  module _ (world next other : World) (caller : Option Person) (a : Action) (person : Person)
      (found : get last.people person.name ≡ Some person) (is_other : is_other_person e (Some person) ≡ true)
      (who : (p : Person) → caller ≡ Some p → p ≡ person) (changes : Changes world next caller a)
      (hands : (id : List ℕ) → hands_in a ≡ Some id → apart id ≡ false) (alike : AlikeIn world other) where
    roles : person ≡ lone person.name person.key
    roles = is_lone person (and_first _ _ is_other)

    no_maker : IsMaker caller → ⊥
    no_maker (p, is, made) = false≢true (sym (ap (λ (x : Person). x.roles.author || x.roles.director)
        (who p is ∙ roles)) ∙ made)

    no_referee : (p : Person) → caller ≡ Some p → p.roles.referee ≡ true → ⊥
    no_referee p is rules = false≢true (sym (ap (λ (x : Person). x.roles.referee) (who p is ∙ roles)) ∙ rules)

    its_rest : KeepsRest world next
    its_rest = elim changes.rest [ inl h ↦ h | inr maker ↦ absurd (no_maker maker) ]

    stayed : (name id : List ℕ) → Stays next name id → Stays world name id
    stayed name id (inl h) = inl h
    stayed name id (inr (inl (round, at, published))) = inr (inl
        (round, ap (λ (m : FinMap text_cmp Round). get m id) (sym its_rest.rounds) ∙ at, published))
    stayed name id (inr (inr is_apart)) = inr (inr is_apart)

    -- no row is added that stays
    not_added : (name id : List ℕ) (p : Person) → caller ≡ Some p → (name ≡ p.name) × (hands_in a ≡ Some id)
        → ((round : Round) → get world.rounds id ≡ Some round → round.published ≡ false) → Stays world name id → ⊥
    not_added name id p is (own, handed) unpublished (inl kept) =
        let of_person : name ≡ person.name = own ∙ ap (λ (x : Person). x.name) (who p is) in
        false≢true (sym kept ∙ ap (is_other_name last e settled there alone) of_person ∙ ap (is_other_person e) found
        ∙ is_other)
    not_added name id p is (own, handed) unpublished (inr (inl (round, at, published))) = false≢true
        (sym (unpublished round at) ∙ published)
    not_added name id p is (own, handed) unpublished (inr (inr is_apart)) = false≢true
        (sym (hands id handed) ∙ is_apart)

    left_out : AlikeIn next other
    left_out = record {
      people = its_rest.people ∙ alike.people;
      puzzles = its_rest.puzzles ∙ alike.puzzles;
      rounds = its_rest.rounds ∙ alike.rounds;
      places = its_rest.places ∙ alike.places;
      testers = its_rest.testers ∙ alike.testers;
      answers = λ key k.
          let kept = stayed key.entrant key.round k in
          elim (changes.answers key) [
            | inl same ↦ ap (option_map (seen as_is nothing)) same ∙ alike.answers key kept
            | inr ((p, is, own), unpublished) ↦ absurd (not_added key.entrant key.round p is own unpublished kept)
          ];
      protests = λ key k.
          let kept = stayed key.entrant key.round k in
          elim (changes.protests key) [
            | inl same ↦ same ∙ alike.protests key kept
            | inr (inl ((p, is, own), unpublished)) ↦ absurd (not_added key.entrant key.round p is own unpublished kept)
            | inr (inr ((p, is, rules), asked)) ↦ absurd (no_referee p is rules)
          ];
    }

  -- a request of the others that is answered
  pub answered_without : (world next other : World) (q : Asked) (given : Reply) → KeptRecords world last
      → AlikeIn world other → IsAnswered world q given next →
      ((id : List ℕ) → hands_in q.request.action ≡ Some id → apart id ≡ false)
      → is_other_person e (caller_of last q.request.key) ≡ true → AlikeIn next other
  answered_without world next other q given remains alike done hands is_other =
      let some = someone last e settled there alone (caller_of last q.request.key) is_other in
      let is_so : is_other_person e (Some some.0) ≡ true = ap (is_other_person e) (sym some.1) ∙ is_other in
      let by = found_by last settled q.request.key some.0 some.1 in
      let caller : Option Person = caller_of world q.request.key in
      let who : (p : Person) → caller ≡ Some p → p ≡ some.0 = λ p is.
      one_row (caller_of last q.request.key) p some.0 (later_caller last e settled there alone world remains
      q.request.key p is) some.1 in
      let changes = step_changes world caller q.moment q.request.action done.0 q.found given next done.1 done.2 in
      left_out world next other caller q.request.action some.0 by.under is_so who changes hands alike

  -- ---- a request that both make
  abbrev RulesOther : World → Action → Type 0
  RulesOther world a = (id : List ℕ) × (entrant : List ℕ) × (token : List ℕ) × (ruling : Ruling)
      × (a ≡ action.RuleProtest id entrant token ruling) × (Stays world entrant id → ⊥)

  agrees : (world other : World) → AlikeIn world other → (a : Action) → ((id : List ℕ) → a ≢ action.Publish id)
      → Agrees world other a ⊎ RulesOther world a
  agrees world other alike (action.RuleProtest id entrant token ruling) never =
      let key : ProtestKey = record { entrant = entrant; round = id; token = token } in
      elim (is_other_name last e settled there alone entrant) as
      (λ b. is_other_name last e settled there alone entrant ≡ b
      → Agrees world other (action.RuleProtest id entrant token ruling)
      ⊎ RulesOther world (action.RuleProtest id entrant token ruling)) [
        | false ↦ λ kept. inl (alike.protests key (inl kept))
        | true ↦ λ is_other. elim (apart id) as (λ b. apart id ≡ b
            → Agrees world other (action.RuleProtest id entrant token ruling)
            ⊎ RulesOther world (action.RuleProtest id entrant token ruling)) [
              | true ↦ λ is_apart. inl (alike.protests key (inr (inr is_apart)))
              | false ↦ λ shared. elim (published_or_not (get world.rounds id)) [
                | inl (round, at, published) ↦ inl (alike.protests key (inr (inl (round, at, published))))
                | inr never_yet ↦ inr (
                  id,
                  entrant,
                  token,
                  ruling,
                  refl,
                  λ stays. elim stays [
                    | inl kept ↦ false≢true (sym kept ∙ is_other)
                    | inr (inl (r, here, published)) ↦ false≢true (sym (never_yet r here) ∙ published)
                    | inr (inr is_apart) ↦ false≢true (sym shared ∙ is_apart)
                  ],
                )
              ]
            ] refl
      ] refl
  agrees world other alike (action.Publish id) never = absurd (never id refl)
  agrees world other alike (action.Import people) never = inl tt
  agrees world other alike _ never = inl tt

  module _ (world other next after : World) (q : Asked) (given answered : Reply) (typed : IsWorld world)
      (retyped : IsWorld other) (alike : AlikeIn world other)
      (never : (id : List ℕ) → q.request.action ≢ action.Publish id)
      (kept : (person : Person) → caller_of world q.request.key ≡ Some person → (round : List ℕ)
      → Stays world person.name round)
      (first : IsAnswered world q given next) (second : IsAnswered other q answered after) where
    abbrev a : Action
    a = q.request.action

    stays_before : (name id : List ℕ) → Stays next name id → Stays world name id
    stays_before name id (inl h) = inl h
    stays_before name id (inr (inr is_apart)) = inr (inr is_apart)
    stays_before name id (inr (inl (round, at, published))) =
        elim (was_published world (caller_of world q.request.key) q.moment a first.0 q.found given next first.2 id round
        at published) [
          | inl h ↦ inr (inl h)
          | inr publishes ↦ absurd (never id publishes)
        ]

    -- a ruling of a protest that doesn't stay changes that one alone, in both
    ruled_apart : RulesOther world a → AlikeIn next after
    ruled_apart (id, entrant, token, ruling, asked, differs) =
        let here = rules_alone world (caller_of world q.request.key) q.moment id entrant token ruling first.0 q.found
        given next
        (subst (λ (x : Action). Decided first.0 world (caller_of world q.request.key) x q.moment q.found given next)
        asked first.2) in
        let also = rules_alone other (caller_of other q.request.key) q.moment id entrant token ruling second.0 q.found
        answered after
        (subst (λ (x : Action). Decided second.0 other (caller_of other q.request.key) x q.moment q.found answered
        after) asked second.2) in
        record {
          people = here.rest.people ∙ alike.people ∙ sym also.rest.people;
          puzzles = here.rest.puzzles ∙ alike.puzzles ∙ sym also.rest.puzzles;
          rounds = here.rest.rounds ∙ alike.rounds ∙ sym also.rest.rounds;
          places = here.rest.places ∙ alike.places ∙ sym also.rest.places;
          testers = here.rest.testers ∙ alike.testers ∙ sym also.rest.testers;
          answers = λ key k.
              ap (λ (m : FinMap answer_cmp AnswerRow). option_map (seen as_is nothing) (get m key)) here.answers
              ∙ alike.answers key (stays_before key.entrant key.round k)
              ∙ sym (ap (λ (m : FinMap answer_cmp AnswerRow). option_map (seen as_is nothing) (get m key))
              also.answers);
          protests = λ key k.
              let before = stays_before key.entrant key.round k in
              elim (here.protests key) [
                | inl same ↦ elim (also.protests key) [
                  | inl too ↦ same ∙ alike.protests key before ∙ sym too
                  | inr own ↦ absurd (differs (subst (λ (name : List ℕ). Stays world name id) own.0
                      (subst (λ (r : List ℕ). Stays world key.entrant r) own.1 before)))
                ]
                | inr own ↦ absurd (differs (subst (λ (name : List ℕ). Stays world name id) own.0
                    (subst (λ (r : List ℕ). Stays world key.entrant r) own.1 before)))
              ];
        }

    both_made : AlikeIn next after
    both_made = elim (agrees world other alike a never) [
      | inl agree ↦ fewer nothing as_is (Stays world) (Stays next) next after stays_before
          (both_stay as_is nothing (λ id x y h. h) (λ id h x. refl) (Stays world) world other typed retyped alike
          (caller_of world q.request.key) (caller_of other q.request.key)
          (sym (same_callers world other alike.people q.request.key)) kept q.moment a agree first.0 second.0 q.found
          given answered next after first.1 first.2
          (subst (λ (x : Action). First other (caller_of other q.request.key) x q.moment second.0)
          (sym (as_it_stands a)) second.1)
          (subst (λ (x : Action). Decided second.0 other (caller_of other q.request.key) x q.moment q.found answered
          after) (sym (as_it_stands a)) second.2))
      | inr rules ↦ ruled_apart rules
    ]

  -- a request that is answered in both, and publishes nothing
  pub answered_with : (world other next after : World) (q : Asked) (given answered : Reply) → IsWorld world
      → IsWorld other → KeptRecords world last → AlikeIn world other →
      ((id : List ℕ) → q.request.action ≢ action.Publish id) → is_other_person e (caller_of last q.request.key) ≡ false
      → IsAnswered world q given next → IsAnswered other q answered after → AlikeIn next after
  answered_with world other next after q given answered typed retyped remains alike never kept first second =
      both_made world other next after q given answered typed retyped alike never
      (kept_caller world remains q.request.key kept) first second

  -- ---- a publication in both
  module _ (world other next after : World) (id : List ℕ) (given answered : Reply) (is_apart : apart id ≡ true)
      (alike : AlikeIn world other) (first : IsPublishStep world id given next)
      (second : IsPublishStep other id answered after) where
    stays_unpublished : (name r : List ℕ) → Stays next name r → Stays world name r
    stays_unpublished name r (inl h) = inl h
    stays_unpublished name r (inr (inr h)) = inr (inr h)
    stays_unpublished name r (inr (inl (round, at, published))) =
        let found = found_after text_total same_texts world.rounds id (record first.0 { published = true }) r round
        (ap (λ (w : World). get w.rounds r) (sym first.3) ∙ at) in
        elim found [
          | inl both ↦ inr (inr (ap apart both.0 ∙ is_apart))
          | inr other_round ↦ inr (inl (round, other_round.1, published))
        ]

    -- whose round no other hands in to
    both_published : AlikeIn next after
    both_published =
        let one : first.0 ≡ second.0 = one_row (get other.rounds id) first.0 second.0
        (ap (λ (m : FinMap text_cmp Round). get m id) (sym alike.rounds) ∙ first.1) second.1 in
        record {
          people = ap (λ (w : World). w.people) first.3 ∙ alike.people ∙ sym (ap (λ (w : World). w.people) second.3);
          puzzles = ap (λ (w : World). w.puzzles) first.3 ∙ alike.puzzles
              ∙ sym (ap (λ (w : World). w.puzzles) second.3);
          rounds = ap (λ (w : World). w.rounds) first.3
              ∙ (λ i. insert (alike.rounds i) id (record (one i) { published = true }))
              ∙ sym (ap (λ (w : World). w.rounds) second.3);
          places = ap (λ (w : World). w.places) first.3 ∙ alike.places ∙ sym (ap (λ (w : World). w.places) second.3);
          testers = ap (λ (w : World). w.testers) first.3 ∙ alike.testers
              ∙ sym (ap (λ (w : World). w.testers) second.3);
          answers = λ key k.
              ap (λ (w : World). option_map (seen as_is nothing) (get w.answers key)) first.3
              ∙ alike.answers key (stays_unpublished key.entrant key.round k)
              ∙ sym (ap (λ (w : World). option_map (seen as_is nothing) (get w.answers key)) second.3);
          protests = λ key k.
              ap (λ (w : World). get w.protests key) first.3
              ∙ alike.protests key (stays_unpublished key.entrant key.round k)
              ∙ sym (ap (λ (w : World). get w.protests key) second.3);
        }

  -- the protests of such a round are the same in both worlds, and so is the decision
  decided_same : (world other : World) (key : Option (List ℕ)) (t : ℕ) (id : List ℕ) (d f : Decision) → apart id ≡ true
      → AlikeIn world other →
      First world (caller_of world key) (action.Publish id) t d → First other (caller_of other key) (action.Publish id)
      t f → d ≡ f
  decided_same world other key t id d f is_apart alike first second =
      let Claim : World → Option Person → Type 0 = λ w c. ((k : ProtestKey) → k.round ≡ id
      → get world.protests k ≡ get w.protests k) → First w c (action.Publish id) t f → d ≡ f in
      let base : Claim (record world { puzzles = world.puzzles; answers = other.answers; protests = other.protests })
      (caller_of world key) = λ same decided.
      same_publication world other.answers other.protests (caller_of world key) id t same d f first decided in
      let moved : Claim other (caller_of world key) = subst (λ (w : World). Claim w (caller_of world key))
      (alike_world as_is nothing (Stays world) world other alike) base in
      let of_caller : Claim other (caller_of other key) = subst (λ (c : Option Person). Claim other c)
      (same_callers world other alike.people key) moved in
      of_caller (λ k own. alike.protests k (inr (inr (ap apart own ∙ is_apart)))) second

  -- a request to publish, which isn't granted but for such a round
  pub published_with : (world other next after : World) (q : Asked) (given answered : Reply) (id : List ℕ)
      → AlikeIn world other → q.request.action ≡ action.Publish id →
      (given ≡ reply.Publish id → apart id ≡ true) → (answered ≡ reply.Publish id → apart id ≡ true)
      → IsAnswered world q given next → IsAnswered other q answered after → AlikeIn next after
  published_with world other next after q given answered id alike asked granted also_granted first second =
      let caller : Option Person = caller_of world q.request.key in
      let twin : Option Person = caller_of other q.request.key in
      let done = subst (λ (x : Action). Decided first.0 world caller x q.moment q.found given next) asked first.2 in
      let too = subst (λ (x : Action). Decided second.0 other twin x q.moment q.found answered after) asked second.2 in
      elim (apart id) as (λ b. apart id ≡ b → AlikeIn next after) [
        | true ↦ λ is_apart.
            let same = decided_same world other q.request.key q.moment id first.0 second.0 is_apart alike
            (subst (λ (x : Action). First world caller x q.moment first.0) asked first.1)
            (subst (λ (x : Action). First other twin x q.moment second.0) asked second.1) in
            elim (publish_both world other caller twin q.moment id first.0 q.found given answered next after done
            (subst (λ (d : Decision). Decided d other twin (action.Publish id) q.moment q.found answered after)
            (sym same) too)) [
              | inl left ↦ subst (λ (w : World). AlikeIn next w) (sym left.1)
                  (subst (λ (w : World). AlikeIn w other) (sym left.0) alike)
              | inr steps ↦ both_published world other next after id given answered is_apart alike steps.0 steps.1
            ]
        | false ↦ λ shared. elim (publishes world caller q.moment id first.0 q.found given next done) [
          | inr step ↦ absurd (false≢true (sym shared ∙ granted step.2))
          | inl left ↦ elim (publishes other twin q.moment id second.0 q.found answered after too) [
            | inr step ↦ absurd (false≢true (sym shared ∙ also_granted step.2))
            | inl stays ↦ subst (λ (w : World). AlikeIn next w) (sym stays)
                (subst (λ (w : World). AlikeIn w other) (sym left) alike)
          ]
        ]
      ] refl

  -- ---- people who stand before any request
  pub seeded_with : (world other next after : World) (people : List Person) (given answered : Reply)
      → AlikeIn world other → IsRefusedAlike given answered →
      Seed world people given next → Seed other people answered after → AlikeIn next after
  seeded_with world other next after people given answered alike refused first second =
      elim (seeded_both world other next after people given answered alike.people refused first second) [
        | inl same ↦ subst (λ (w : World). AlikeIn next w) (sym same.1)
            (subst (λ (w : World). AlikeIn w other) (sym same.0) alike)
        | inr joined ↦
            subst (λ (w : World). AlikeIn next w) (sym joined.1)
            (subst (λ (w : World). AlikeIn w (record other { people = with_people other.people people })) (sym joined.0)
            (people_join as_is nothing (Stays world) world other people alike))
      ]
