-- A protest that is stored, and one that is ruled, keeps the world sane.
use Rattle.std.proofs.Common.{◌≡◌, ◌≢◌, ◌+◌, ◌&&◌, ◌<◌, ◌≤◌, ◌⊎◌, inl, inr, ℕ, Bool, true, false, cond, List, Option}
use Rattle.std.proofs.Common.{Some, None, IsTrue, refl, sym, ap, ◌∙◌, subst, arith, lit<}
use Rattle.std.specs.List.{count_by}
use Rattle.std.specs.FinMap.{FinMap, get, insert, values}
use Rattle.std.proofs.Math.Nat.{lt_of_not-le}
use Rattle.hall_policy.specs.Limits.{most_protests}
use Rattle.hall_policy.specs.World.{World, place_of, same_text, protest_cmp}
use Rattle.hall_policy.specs.Ranges.{IsProtestRow, IsAction, AreRowsInRange, IsWorld}
use Rattle.hall_policy.specs.Rules.{protests_made}
use Rattle.hall_policy.specs.First.{NoneDecides}
use Rattle.hall_policy.specs.declared.rule.Rule.TheVariants as rule
use Rattle.hall_policy.specs.declared.record.Person.{Person}
use Rattle.hall_policy.specs.declared.record.PuzzleState.{PuzzleState}
use Rattle.hall_policy.specs.declared.record.Round.{Round}
use Rattle.hall_policy.specs.declared.record.Entry.{Entry}
use Rattle.hall_policy.specs.declared.record.ProtestKey.{ProtestKey}
use Rattle.hall_policy.specs.declared.record.ProtestRow.{ProtestRow}
use Rattle.hall_policy.specs.declared.record.Ruling.{Ruling}
use Rattle.hall_policy.specs.declared.request.Action.TheVariants as action
use Rattle.hall_policy.proofs.Maps.{count_by-insert_new, count_by-insert_alike}
use Rattle.hall_policy.proofs.Orders.{protest_total, same_protest_keys}
use Rattle.hall_store.proofs.Inserts.{found_after}
use Rattle.hall_desk.specs.Lookups.{IsReleasedRound}
use Rattle.hall_desk.specs.Step.{Allowed, open_protest}
use Rattle.hall_desk.specs.Sane.{Sane, RefersToRows, IsPlaceThere, MayTakePart}
use Rattle.hall_desk.specs.declared.reply.Reply.{Reply}
use Rattle.hall_policy.proofs.Texts.{text_decides, and_first, and_second}
use Rattle.hall_desk.proofs.Releases.{released_found, takes_part}

-- whether the protest is one of the entrant in the round
abbrev of_entrant : List ℕ → List ℕ → ProtestRow → Bool
of_entrant entrant round row = same_text row.key.entrant entrant && same_text row.key.round round

module _ (world : World) (key : ProtestKey) (row : ProtestRow) where
  abbrev new_protests : FinMap protest_cmp ProtestRow
  new_protests = insert world.protests key row

  -- a protest that is found is this one, or was there before under another key
  after_protest : (q : ProtestKey) (r : ProtestRow) → get new_protests q ≡ Some r → ((q ≡ key) × (r ≡ row))
      ⊎ ((q ≢ key) × (get world.protests q ≡ Some r))
  after_protest q r found = found_after protest_total same_protest_keys world.protests key row q r found

  module _ (own : row.key ≡ key) (in_range : IsProtestRow row) (sane : Sane world)
      (entrant : get world.people key.entrant ≢ None) (released : IsReleasedRound world key.round)
      (part : MayTakePart world key.entrant key.round) (place : IsPlaceThere world key.round row.number)
      (settled : (round : Round) → get world.rounds key.round ≡ Some round → IsTrue round.published
      → row.ruling ≢ None)
      (room : get world.protests key ≡ None → protests_made world key.entrant key.round < most_protests) where
    few_new : (e r : List ℕ) → get world.protests key ≡ None → count_by (of_entrant e r) (values new_protests) ≤
        most_protests
    few_new e r none = elim (of_entrant e r row) as (λ b. of_entrant e r row ≡ b
        → count_by (of_entrant e r) (values new_protests) ≡ protests_made world e r + cond b 1 0
        → count_by (of_entrant e r) (values new_protests) ≤ most_protests) [
          | true ↦ λ t more.
              let by : key.entrant ≡ e = ap (λ (k : ProtestKey). k.entrant) (sym own)
              ∙ (text_decides row.key.entrant e).0 (and_first (same_text row.key.entrant e) (same_text row.key.round r)
              t) in
              let on : key.round ≡ r = ap (λ (k : ProtestKey). k.round) (sym own)
              ∙ (text_decides row.key.round r).0 (and_second (same_text row.key.entrant e) (same_text row.key.round r)
              t) in
              let bound : protests_made world e r < most_protests = subst
              (λ (x : List ℕ). protests_made world e x < most_protests) on
              (subst (λ (x : List ℕ). protests_made world x key.round < most_protests) by (room none)) in
              omega (arith, more, bound)
          | false ↦ λ t more. omega (arith, more, sane.few_protests e r)
        ] refl (count_by-insert_new protest_total (of_entrant e r) world.protests key row none)

    few_then : (e r : List ℕ) → count_by (of_entrant e r) (values new_protests) ≤ most_protests
    few_then e r = elim (get world.protests key) as (λ (o : Option ProtestRow). get world.protests key ≡ o
        → count_by (of_entrant e r) (values new_protests) ≤ most_protests) [
          | None ↦ λ none. few_new e r none
          | Some old ↦ λ kept.
              let same : row.key ≡ old.key = own ∙ sym (sane.typed.protests key old kept) in
              let alike = count_by-insert_alike protest_total (of_entrant e r) world.protests key row old kept
              (ap (λ (k : ProtestKey). same_text k.entrant e && same_text k.round r) same) in
              subst (λ n. n ≤ most_protests) (sym alike) (sane.few_protests e r)
        ] refl

    protest_in_range : AreRowsInRange (record world { protests = new_protests })
    protest_in_range = record {
      people = sane.typed.in_range.people;
      puzzles = sane.typed.in_range.puzzles;
      rounds = sane.typed.in_range.rounds;
      places = sane.typed.in_range.places;
      answers = sane.typed.in_range.answers;
      protests = λ q r found. elim (after_protest q r found) [
        | inl h ↦ subst IsProtestRow (sym h.1) in_range
        | inr h ↦ sane.typed.in_range.protests q r h.1
      ];
      testers = sane.typed.in_range.testers;
    }

    protest_typed : IsWorld (record world { protests = new_protests })
    protest_typed = record {
      in_range = protest_in_range;
      people = sane.typed.people;
      puzzles = sane.typed.puzzles;
      rounds = sane.typed.rounds;
      answers = sane.typed.answers;
      protests = λ q r found. elim (after_protest q r found) [
        | inl h ↦ ap (λ (x : ProtestRow). x.key) h.1 ∙ own ∙ sym h.0
        | inr h ↦ sane.typed.protests q r h.1
      ];
      keys_differ = sane.typed.keys_differ;
      lists = λ id round found. let l = sane.typed.lists id round found in
          (l.0, record { head = l.1.head; list = l.1.list; testers = l.1.testers }, l.2, l.3);
      homes = sane.typed.homes;
      tester_homes = sane.typed.tester_homes;
    }

    protest_refers : RefersToRows (record world { protests = new_protests })
    protest_refers = record {
      authors = sane.refers.authors;
      entries = sane.refers.entries;
      testers = sane.refers.testers;
      entrants = sane.refers.entrants;
      answered = sane.refers.answered;
      protesters = λ q r found. elim (after_protest q r found) [
        | inl h ↦ λ none. entrant (ap (λ (k : ProtestKey). get world.people k.entrant) (sym h.0) ∙ none)
        | inr h ↦ sane.refers.protesters q r h.1
      ];
      protested = λ q r found. elim (after_protest q r found) [
        | inl h ↦ subst (λ (k : ProtestKey). IsPlaceThere world k.round r.number) (sym h.0)
            (subst (λ (x : ProtestRow). IsPlaceThere world key.round x.number) (sym h.1) place)
        | inr h ↦ sane.refers.protested q r h.1
      ];
    }

    -- this protest is no open one of a published round, and no other changes
    ruled_then : (id : List ℕ) (round : Round) → get world.rounds id ≡ Some round → IsTrue round.published
        → (q : ProtestKey) (r : ProtestRow) → q.round ≡ id → get new_protests q ≡ Some r → r.ruling ≢ None
    ruled_then id round kept is q r of found = elim (after_protest q r found) [
      | inl h ↦
          let at : key.round ≡ id = ap (λ (k : ProtestKey). k.round) (sym h.0) ∙ of in
          subst (λ (x : ProtestRow). x.ruling ≢ None) (sym h.1) (settled round (ap (get world.rounds) at ∙ kept) is)
      | inr h ↦ sane.ruled id round kept is q r of h.1
    ]

    -- a protest that is stored, or whose ruling is, keeps the world sane
    pub protest_sane : Sane (record world { protests = new_protests })
    protest_sane = record {
      typed = protest_typed;
      refers = protest_refers;
      states = sane.states;
      answers_released = sane.answers_released;
      protests_released = λ q r found. elim (after_protest q r found) [
        | inl h ↦ subst (λ (k : ProtestKey). IsReleasedRound world k.round) (sym h.0) released
        | inr h ↦ sane.protests_released q r h.1
      ];
      answerers = sane.answerers;
      protesters = λ q r found. elim (after_protest q r found) [
        | inl h ↦ subst (λ (k : ProtestKey). MayTakePart world k.entrant k.round) (sym h.0) part
        | inr h ↦ sane.protesters q r h.1
      ];
      verdicts = sane.verdicts;
      certified = sane.certified;
      in_one_round = sane.in_one_round;
      published = sane.published;
      ruled = ruled_then;
      numbered = sane.numbered;
      numbered_once = sane.numbered_once;
      apart = sane.apart;
      few_answers = sane.few_answers;
      few_protests = few_then;
      few_puzzles = sane.few_puzzles;
    }

-- a place that is not missing is there
has_place : (world : World) (round : List ℕ) (number : ℕ) → place_of world round number ≢ None
    → IsPlaceThere world round number
has_place world round number there = elim (place_of world round number) as
    (λ (o : Option Entry). place_of world round number ≡ o → IsPlaceThere world round number) [
      | None ↦ λ gone. absurd (there gone)
      | Some entry ↦ λ at. (entry, at)
    ] refl

-- a Protest keeps the world sane: its rules deny a draft, a number without a place, a published round and a sixth
-- protest
pub protest_step : (world : World) (caller : Option Person) (id token : List ℕ) (number : ℕ) (text : List ℕ) (t : ℕ)
    (found : PuzzleState) (given : Reply) (new : World) → Sane world →
    ((person : Person) → caller ≡ Some person → get world.people person.name ≡ Some person)
    → IsAction (action.Protest id token number text) →
    NoneDecides world caller (action.Protest id token number text) t
    → Allowed world caller (action.Protest id token number text) t found given new → Sane new
protest_step world caller id token number text t found given new sane there asked none (person, is, (reply, made)) =
    let row : ProtestRow = open_protest person id token number text in
    let in_range : IsProtestRow row = record {
      key = record {
        entrant = (sane.typed.in_range.people person.name person (there person is)).name;
        round = asked.0;
        token = asked.1;
      };
      number = asked.2;
      text = asked.3;
      ruling = tt;
    } in
    let released = released_found world caller (action.Protest id token number text) id refl
    (λ missing. (none rule.Missing (lit< tt)).0 ((2, lit< tt, refl), inl missing)) in
    subst Sane (sym made)
    (protest_sane world row.key row refl in_range sane
    (λ gone. let no : Some person ≡ None = sym (there person is) ∙ gone in cc)
    released
    (takes_part world caller (action.Protest id token number text) person id is (there person is) refl refl released
    (λ lacks. (none rule.NoRole (lit< tt)).0 ((1, lit< tt, refl), lacks))
    (λ reads. reads) (λ own. (none rule.OwnPuzzle (lit< tt)).0 ((3, lit< tt, refl), own)))
    (has_place world id number (λ gone. (none rule.Missing (lit< tt)).0 ((2, lit< tt, refl), inr gone)))
    (λ round kept published _. (none rule.Published (lit< tt)).0
    ((7, lit< tt, refl), (id, round, refl, kept, published)))
    (λ _. lt_of_not-le (λ many. (none rule.LimitReached (lit< tt)).0 ((8, lit< tt, refl), (person, is, many)))))

-- a Rule keeps the world sane: it closes a protest that stands, whoever made it
pub rule_step : (world : World) (caller : Option Person) (id entrant token : List ℕ) (ruling : Ruling) (t : ℕ)
    (found : PuzzleState) (given : Reply) (new : World) → Sane world →
    IsAction (action.RuleProtest id entrant token ruling) → Allowed world caller
    (action.RuleProtest id entrant token ruling) t found given new → Sane new
rule_step world caller id entrant token ruling t found given new sane asked (row, kept, reply, made) =
    let key : ProtestKey = record { entrant = entrant; round = id; token = token } in
    let ruled : ProtestRow = record row { ruling = Some ruling } in
    let is = sane.typed.in_range.protests key row kept in
    let in_range : IsProtestRow ruled = record { key = is.key; number = is.number; text = is.text; ruling = asked.3 } in
    subst Sane (sym made)
    (protest_sane world key ruled (sane.typed.protests key row kept) in_range sane
    (sane.refers.protesters key row kept)
    (sane.protests_released key row kept)
    (sane.protesters key row kept)
    (sane.refers.protested key row kept)
    (λ round at published unruled. let no : Some ruling ≡ None = unruled in cc)
    (λ gone. absurd (let no : Some row ≡ None = sym kept ∙ gone in cc)))
