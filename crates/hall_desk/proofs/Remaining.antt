-- What no event of a hall's life takes away: who has a key, the answers and protests that stand, their rulings, and the
-- released rounds with their puzzles.
use Rattle.std.proofs.Common.{◌≡◌, ◌≢◌, ◌⊎◌, ◌↔◌, inl, inr, if◌then◌else◌, ℕ, suc, Bool, true, false, cond, List, []}
use Rattle.std.proofs.Common.{◌∷◌, Option, Some, None, Contains, IsTrue, refl, sym, ap, ◌∙◌, subst, arith, lit<}
use Rattle.std.specs.Prelude.{find, is_some}
use Rattle.std.specs.FinMap.{FinMap, get, insert, entries, values, put, get-entries, entries-insert, find as by_key}
use Rattle.std.specs.FinMap.Entries.{by_order}
use Rattle.std.specs.Map.{values_of}
use Rattle.std.specs.Ordering.{is_eq}
use Rattle.std.specs.declared.cmp.Ordering.{Ordering}
use Rattle.std.specs.declared.cmp.Ordering.TheVariants.{Less, Equal, Greater}
use Rattle.hall_policy.specs.Actions.{last_rule}
use Rattle.hall_policy.specs.Text.{text_cmp}
use Rattle.hall_policy.specs.World.{World, protest_of, same_text, puzzle_cmp, place_cmp, tester_cmp}
use Rattle.hall_policy.specs.Rules.{Conflicts, StandsReleased}
use Rattle.hall_policy.specs.First.{NoneDecides}
use Rattle.hall_policy.specs.declared.rule.Rule.TheVariants as rule
use Rattle.hall_policy.specs.declared.rule.Decision.TheVariants.{Allow, Repeat, Deny}
use Rattle.hall_policy.specs.declared.record.Person.{Person}
use Rattle.hall_policy.specs.declared.record.PuzzleKey.{PuzzleKey}
use Rattle.hall_policy.specs.declared.record.PuzzleState.{PuzzleState}
use Rattle.hall_policy.specs.declared.record.PuzzleRow.{PuzzleRow}
use Rattle.hall_policy.specs.declared.record.Round.{Round}
use Rattle.hall_policy.specs.declared.record.Entry.{Entry}
use Rattle.hall_policy.specs.declared.record.AnswerRow.{AnswerRow}
use Rattle.hall_policy.specs.declared.record.ProtestKey.{ProtestKey}
use Rattle.hall_policy.specs.declared.record.ProtestRow.{ProtestRow}
use Rattle.hall_policy.specs.declared.record.Ruling.{Ruling}
use Rattle.hall_policy.specs.declared.request.Sheet.{Sheet}
use Rattle.hall_policy.specs.declared.request.Action.{Action}
use Rattle.hall_policy.specs.declared.request.Action.TheVariants as action
use Rattle.hall_policy.specs.declared.request.Request.{Request}
use Rattle.hall_grid.specs.Board.{Board}
use Rattle.hall_policy.proofs.Orders.{text_total, same_texts, puzzle_total, same_puzzle_keys, answer_total}
use Rattle.hall_policy.proofs.Orders.{same_answer_keys, protest_total, same_protest_keys}
use Rattle.hall_store.specs.Caller.{with_key, caller_of}
use Rattle.hall_store.specs.Change.{with_person, with_people, relisted, retested}
use Rattle.hall_desk.specs.Lookups.{IsReleasedRound}
use Rattle.hall_desk.specs.Step.{Step, Seed, Allowed, IsSearched, IsFound, is_open, new_row, draft_of, answer_row}
use Rattle.hall_desk.specs.Step.{open_protest}
use Rattle.hall_desk.specs.History.{Event, requested, seeded, Happens}
use Rattle.hall_desk.specs.Records.{StaysReleased, StaysProtested, StaysListed, KeptRecords, RecordsStay}
use Rattle.hall_desk.specs.Records.{ReleasedPuzzlesStay}
use Rattle.hall_desk.specs.declared.reply.Reply.{Reply}
use Rattle.hall_store.proofs.Changes.{with_people-known}
use Rattle.hall_store.proofs.Inserts.{keys_apart, others_stay, inserted_there}
use Rattle.hall_store.proofs.Tests.{not_true}
use Rattle.hall_policy.proofs.Texts.{text_decides}
use Rattle.hall_desk.proofs.Answering.{find-value}
use Rattle.hall_desk.proofs.DraftSane.{puts_no_released, relisted_other, retested_other}
use Rattle.hall_desk.proofs.Tokens.{token_decides}
use Rattle.hall_desk.proofs.ProtestTokens.{token_decides as protest_token_decides}
use Rattle.hall_desk.proofs.Rulings.{ruling_decides}

-- a released round that stays is released
pub still_released : (world later : World) (id : List ℕ) (round : Round) → (stays : StaysReleased world later id round)
    → round.released ≡ true → stays.after.released ≡ true
still_released world later id round stays is = ap (λ (r : Round). r.released) stays.same ∙ is

-- what is found alike is there alike
as_kept : {a b : Option (Unit {0})} → a ≡ b → (a ≡ Some tt) ↔ (b ≡ Some tt)
as_kept same = (λ found. sym same ∙ found, λ found. same ∙ found)

-- a round that is found with its places and its testers is as it was
stays_as_found : (world later : World) (id : List ℕ) (round : Round) → get later.rounds id ≡ Some round
    → round.released ≡ true → later.places ≡ world.places → later.testers ≡ world.testers
    → StaysReleased world later id round
stays_as_found world later id round at is places testers = record {
  after = round;
  found = at;
  same = refl;
  risen = λ published. published;
  places = λ number. ap (λ (m : FinMap place_cmp Entry). get m (record { round = id; number = number })) places;
  testers = λ name. as_kept (ap (λ (m : FinMap tester_cmp (Unit {0})). get m (record { round = id; name = name }))
      testers);
}

-- a protest that is found as it was
protest_as_found : (later : World) (key : ProtestKey) (row : ProtestRow) → get later.protests key ≡ Some row
    → StaysProtested later key row
protest_as_found later key row at = record { after = row; found = at; same = refl; ruled = λ ruling is. is }

-- a puzzle that is found as it was
puzzle_as_found : (later : World) (key : PuzzleKey) (row : PuzzleRow) → get later.puzzles key ≡ Some row
    → StaysListed later key row
puzzle_as_found later key row at = record { after = row; found = at; same = refl; state = inl refl }

-- and so in a world with the same puzzles
puzzles_as_found : (world later : World) → later.puzzles ≡ world.puzzles
    → (id : List ℕ) (key : PuzzleKey) (row : PuzzleRow) → StandsReleased world key id → get world.puzzles key ≡ Some row
    → StaysListed later key row
puzzles_as_found world later same id key row stands at = puzzle_as_found later key row
    (ap (λ (m : FinMap puzzle_cmp PuzzleRow). get m key) same ∙ at)

-- a puzzle of a released round that stays is one of it
still_listed : (world later : World) (key : PuzzleKey) (id : List ℕ)
    → ((round : Round) → get world.rounds id ≡ Some round → IsTrue round.released → StaysReleased world later id round)
    → StandsReleased world key id → StandsReleased later key id
still_listed world later key id rounds (round, entry, at, is, lists, own) =
    let stays = rounds round at is in (
      stays.after,
      entry,
      stays.found,
      ap (λ (r : Round). r.released) stays.same
          ∙ is,
      (lists.0, stays.places lists.0 ∙ lists.1),
      own,
    )

-- a state that a search may set, twice
state_on : (puzzle : Board) (first mid last : PuzzleState) →
    ((mid ≡ first) ⊎ ((is_open first ≡ true) × (budget : ℕ) × IsFound puzzle budget mid)) →
    ((last ≡ mid) ⊎ ((is_open mid ≡ true) × (budget : ℕ) × IsFound puzzle budget last)) →
    ((last ≡ first) ⊎ ((is_open first ≡ true) × (budget : ℕ) × IsFound puzzle budget last))
state_on puzzle first mid last (inl a) (inl b) = inl (b ∙ a)
state_on puzzle first mid last (inl a) (inr (open_yet, budget, found)) = inr
    (ap is_open (sym a) ∙ open_yet, budget, found)
state_on puzzle first mid last (inr (open_yet, budget, found)) (inl b) = inr
    (open_yet, budget, subst (IsFound puzzle budget) (sym b) found)
state_on puzzle first mid last (inr (open_yet, before, set)) (inr (open_still, budget, found)) = inr
    (open_yet, budget, found)

-- the caller is told by the people alone
callers_stay : (world later : World) → later.people ≡ world.people → (key : Option (List ℕ)) (person : Person)
    → caller_of world key ≡ Some person → caller_of later key ≡ Some person
callers_stay world later same None person is = is
callers_stay world later same (Some key) person is = ap (λ (people : FinMap text_cmp Person). find
    (λ p. same_text p.key key) (values people)) same ∙ is

-- a world keeps what it has
remains_itself : (world : World) → KeptRecords world world
remains_itself world = record {
  people = λ name person at. at;
  callers = λ key person is. is;
  answers = λ key row at.
      at;
  protests = protest_as_found world;
  rounds = λ id round at is. stays_as_found world world id round at is refl
      refl;
  puzzles = puzzles_as_found world world refl;
}

-- so does one that is the same
remains_same : (world new : World) → new ≡ world → KeptRecords world new
remains_same world new same = subst (λ (w : World). KeptRecords world w) (sym same) (remains_itself world)

-- what is kept of what was kept
pub remains_on : (world mid later : World) → KeptRecords world mid → KeptRecords mid later → KeptRecords world later
remains_on world mid later first second = record {
  people = λ name person at. second.people name person (first.people name person at);
  callers = λ key person is. second.callers key person (first.callers key person is);
  answers = λ key row at. second.answers key row (first.answers key row at);
  protests = λ key row at.
      let a = first.protests key row at in
      let b = second.protests key a.after a.found in
      record {
        after = b.after;
        found = b.found;
        same = b.same ∙ ap (λ (r : ProtestRow). let now : ProtestRow = record r { ruling = b.after.ruling } in now)
            a.same;
        ruled = λ ruling is. b.ruled ruling (a.ruled ruling is);
      };
  rounds = λ id round at is.
      let a = first.rounds id round at is in
      let b = second.rounds id a.after a.found (still_released world mid id round a is) in
      record {
        after = b.after;
        found = b.found;
        same = b.same ∙ ap (λ (r : Round). let now : Round = record r { published = b.after.published } in now) a.same;
        risen = λ published. b.risen (a.risen published);
        places = λ number. b.places number ∙ a.places number;
        testers = λ name. (
          λ tests. (a.testers name).0 ((b.testers name).0 tests),
          λ tests. (b.testers name).1
              ((a.testers name).1 tests),
        );
      };
  puzzles = λ id key row stands at.
      let a = first.puzzles id key row stands at in
      let b = second.puzzles id key a.after (still_listed world mid key id (first.rounds id) stands) a.found in
      let same_puzzle : a.after.puzzle ≡ row.puzzle = ap (λ (r : PuzzleRow). r.puzzle) a.same in
      record {
        after = b.after;
        found = b.found;
        same = b.same ∙ ap (λ (r : PuzzleRow). let now : PuzzleRow = record r { state = b.after.state } in now) a.same;
        state = state_on row.puzzle row.state a.after.state b.after.state a.state
            (subst (λ (p : Board). (b.after.state ≡ a.after.state)
            ⊎ ((is_open a.after.state ≡ true) × (budget : ℕ) × IsFound p budget b.after.state)) same_puzzle
            b.state);
      };
}

-- a world whose puzzles change keeps the rest, where those of released rounds stay
puzzles_change : (world new : World) (puzzles : FinMap puzzle_cmp PuzzleRow) →
    ((id : List ℕ) (key : PuzzleKey) (row : PuzzleRow) → StandsReleased world key id → get world.puzzles key ≡ Some row
    → StaysListed (record world { puzzles = puzzles }) key row) →
    new ≡ record world { puzzles = puzzles } → KeptRecords world new
puzzles_change world new puzzles listed made =
    let after : World = record world { puzzles = puzzles } in
    subst (λ (w : World). KeptRecords world w) (sym made)
    (record {
      people = λ name person at. at;
      callers = callers_stay world after refl;
      answers = λ key row at. at;
      protests = protest_as_found after;
      rounds = λ id round at is. stays_as_found world after id round at is refl refl;
      puzzles = listed;
    })

-- a PutPuzzle's rule denies a puzzle of a released round
put_remains : (world : World) (caller : Option Person) (key : PuzzleKey) (puzzle : Board) (t : ℕ) (new : World) →
    NoneDecides world caller (action.PutPuzzle key puzzle) t
    → new ≡ record world { puzzles = insert world.puzzles key (new_row key puzzle) } → KeptRecords world new
put_remains world caller key puzzle t new none made =
    let put : PuzzleRow = new_row key puzzle in
    let after : World = record world { puzzles = insert world.puzzles key put } in
    puzzles_change world new (insert world.puzzles key put)
    (λ id q row stands at. puzzle_as_found after q row (others_stay puzzle_total same_puzzle_keys world.puzzles key put
    q row
    (λ own. (none rule.InReleasedRound (lit< tt)).0 (
      (4, lit< tt, refl),
      (id, subst (λ (k : PuzzleKey). StandsReleased world k id) own stands),
    )) at)) made

-- a Certify sets the state of its puzzle alone, to what a search finds
certify_remains : (world : World) (key : PuzzleKey) (row : PuzzleRow) (budget : ℕ) (found : PuzzleState) (given : Reply)
    (new : World) →
    get world.puzzles key ≡ Some row → IsSearched world key row budget found given new → KeptRecords world new
certify_remains world key row budget found given new kept h =
    let now : PuzzleRow = record row { state = found } in
    let after : World = record world { puzzles = insert world.puzzles key now } in
    puzzles_change world new (insert world.puzzles key now)
    (λ id q r stands at. elim (keys_apart puzzle_total same_puzzle_keys q key) [
      | inl own ↦
          let both : Some row ≡ Some r = sym kept ∙ ap (get world.puzzles) (sym own) ∙ at in
          let one : row ≡ r = cc in
          record {
            after = now;
            found = inserted_there puzzle_total same_puzzle_keys world.puzzles key now q own;
            same = ap (λ (x : PuzzleRow). let found_one : PuzzleRow = record x { state = found } in found_one) one;
            state = inr (
              ap (λ (x : PuzzleRow). is_open x.state) (sym one)
                  ∙ h.unsettled,
              budget,
              subst (λ (x : PuzzleRow). IsFound x.puzzle budget found) one h.is_found,
            );
          }
      | inr other ↦ puzzle_as_found after q r (others_stay puzzle_total same_puzzle_keys world.puzzles key now q r other
          at)
    ]) h.stored

-- ---- an Import
-- who is found first stays so, as a value that fails the test is put under a new key
find_value-put : {K X : Type 0} (R : K → K → Ordering) (p : X → Bool) (k : K) (v : X) (es : List (K × X))
    → by_key R k es ≡ None → p v ≡ false → find p (values_of (put R k v es)) ≡ find p (values_of es)
find_value-put R p k v [] new fails = ap (λ b. cond b (Some v) None) fails
find_value-put {X = X} R p k v (e ∷ es) new fails =
    elim (R k e.0) as (λ r. cond (is_eq r) (Some e.1) (by_key R k es) ≡ None
    → find p (values_of (by_order r ((k, v) ∷ e ∷ es) ((e.0, v) ∷ es) (e ∷ put R k v es))) ≡ find p
    (values_of (e ∷ es))) [
      | Less ↦ λ n. ap (λ b. cond b (Some v) (find p (values_of (e ∷ es)))) fails
      | Equal ↦ λ n. absurd (let no : Some e.1 ≡ None = n in cc)
      | Greater ↦ λ n. ap (cond (p e.1) (Some e.1)) (find_value-put R p k v es n fails)
    ] new

-- a new person is found by that person's key alone
found_still : (people : FinMap text_cmp Person) (person : Person) (key : List ℕ)
    → (get people person.name ≡ None → same_text person.key key ≡ false) →
    find (λ p. same_text p.key key) (values (with_person people person)) ≡ find (λ p. same_text p.key key)
    (values people)
found_still people person key other =
    elim (get people person.name) as (λ (o : Option Person). get people person.name ≡ o
    → find (λ p. same_text p.key key) (values (if is_some o then people else insert people person.name person)) ≡
    find (λ p. same_text p.key key) (values people)) [
      | None ↦ λ none.
          ap (λ es. find (λ p. same_text p.key key) (values_of es))
          (entries-insert text_total people person.name person)
          ∙ find_value-put text_cmp (λ p. same_text p.key key) person.name person (entries people)
          (sym (get-entries people person.name) ∙ none) (other none)
      | Some known ↦ λ _. refl
    ] refl

-- a name that is unknown later was unknown before
unknown_before : (people : FinMap text_cmp Person) (person : Person) (name : List ℕ)
    → get (with_person people person) name ≡ None → get people name ≡ None
unknown_before people person name none = elim (get people name) as
    (λ (o : Option Person). get people name ≡ o → o ≡ None) [
      | None ↦ λ _. refl
      | Some known ↦ λ found. absurd (let no : Some known ≡ None = sym
          (with_people-known people (person ∷ []) name known found) ∙ none in cc)
    ] refl

-- a list of people, those with unknown names having other keys, leaves who is found
found_in_list : (people : FinMap text_cmp Person) (list : List Person) (key : List ℕ)
    → ((person : Person) → Contains list person → get people person.name ≡ None → same_text person.key key ≡ false) →
    find (λ p. same_text p.key key) (values (with_people people list)) ≡ find (λ p. same_text p.key key) (values people)
found_in_list people [] key others = refl
found_in_list people (person ∷ rest) key others =
    found_in_list (with_person people person) rest key (λ next among none. others next
    (suc among.0, omega (arith, among.1), among.2) (unknown_before people person next.name none))
    ∙ found_still people person key (others person (0, omega arith, refl))

-- a key that finds somebody is the key of nobody in the list whose name is unknown
not_given : (world : World) (people : List Person) (key : List ℕ) (holder : Person)
    → ((person : Person) → Contains people person → ¬ (Conflicts world person)) → with_key world key ≡ Some holder →
    (person : Person) → Contains people person → get world.people person.name ≡ None → same_text person.key key ≡ false
not_given world people key holder fits is person among unknown =
    let under = find-value text_total (λ p. same_text p.key key) world.people holder is in
    not_true (same_text person.key key) (λ same. fits person among (inr (inl (
      under.0,
      holder,
      under.1,
      (λ named. let no : Some holder ≡ None = sym under.1 ∙ ap (get world.people) named ∙ unknown in cc),
      (text_decides holder.key key).0 under.2 ∙ sym ((text_decides person.key key).0 same),
    ))))

-- so it finds the same person once the list is added
still_callers : (world : World) (people : List Person) → ((person : Person) → Contains people person
    → ¬ (Conflicts world person)) → (key : Option (List ℕ)) (person : Person) →
    caller_of world key ≡ Some person → caller_of (record world { people = with_people world.people people }) key ≡ Some
    person
still_callers world people fits None person is = is
still_callers world people fits (Some key) person is = found_in_list world.people people key
    (not_given world people key person fits is) ∙ is

-- people who conflict with nobody leave the rest
people_join : (world : World) (people : List Person) (new : World)
    → ((person : Person) → Contains people person → ¬ (Conflicts world person)) →
    new ≡ record world { people = with_people world.people people } → KeptRecords world new
people_join world people new fits made =
    let after : World = record world { people = with_people world.people people } in
    subst (λ (w : World). KeptRecords world w) (sym made) (record {
      people = λ name person at. with_people-known world.people people name person at;
      callers = still_callers world people fits;
      answers = λ key row at. at;
      protests = protest_as_found after;
      rounds = λ id round at is. stays_as_found world after id round at is refl refl;
      puzzles = puzzles_as_found world after refl;
    })

-- an Import's rule denies a list that conflicts with somebody
import_remains : (world : World) (caller : Option Person) (people : List Person) (t : ℕ) (found : PuzzleState)
    (given : Reply) (new : World) →
    NoneDecides world caller (action.Import people) t → Allowed world caller (action.Import people) t found given new
    → KeptRecords world new
import_remains world caller people t found given new none (told, made) =
    people_join world people new (λ person among conflict. (none rule.ListConflict (lit< tt)).0
    ((2, lit< tt, refl), (person, among, conflict))) made

-- and so does a list before any request
seed_remains : (world : World) (people : List Person) (given : Reply) (new : World) → Seed world people given new
    → KeptRecords world new
seed_remains world people given new (inl h) = remains_same world new h.1
seed_remains world people given new (inr (inl h)) = remains_same world new h.2
seed_remains world people given new (inr (inr (clear, (told, made)))) = people_join world people new
    (λ person among conflict. clear (person, among, conflict)) made

-- ---- a round
-- a draft that is put leaves the released rounds
put_round_remains : (world : World) (caller : Option Person) (id : List ℕ) (sheet : Sheet) (t : ℕ) (found : PuzzleState)
    (given : Reply) (new : World) →
    NoneDecides world caller (action.PutRound id sheet) t → Allowed world caller (action.PutRound id sheet) t found
    given new → KeptRecords world new
put_round_remains world caller id sheet t found given new none (told, made) =
    let draft : Round = draft_of id sheet in
    let after : World = record world {
      rounds = insert world.rounds id draft;
      places = relisted world.places id
          sheet.puzzles;
      testers = retested world.testers id sheet.testers;
    } in
    subst (λ (w : World). KeptRecords world w) (sym made) (record {
      people = λ name person at. at;
      callers = callers_stay world after refl;
      answers = λ key row at. at;
      protests = protest_as_found after;
      rounds = λ q r at is.
          let other : q ≢ id = λ same. puts_no_released world caller id sheet t none
          (subst (IsReleasedRound world) same (r, at, is)) in
          record {
            after = r;
            found = others_stay text_total same_texts world.rounds id draft q r other at;
            same = refl;
            risen = λ published. published;
            places = λ number. relisted_other world.places id sheet.puzzles (record { round = q; number = number })
                other;
            testers = λ name. as_kept (retested_other world.testers id sheet.testers (record { round = q; name = name })
                other);
          };
      puzzles = puzzles_as_found world after refl;
    })

-- a round of which a flag rises, that of publication where it was released before, leaves the rest
round_changes : (world new : World) (id : List ℕ) (round now : Round) → get world.rounds id ≡ Some round
    → (round.released ≡ true → now ≡ record round { published = now.published }) →
    (round.published ≡ true → now.published ≡ true) → new ≡ record world { rounds = insert world.rounds id now }
    → KeptRecords world new
round_changes world new id round now kept same risen made =
    let after : World = record world { rounds = insert world.rounds id now } in
    subst (λ (w : World). KeptRecords world w) (sym made) (record {
      people = λ name person at. at;
      callers = callers_stay world after refl;
      answers = λ key row at. at;
      protests = protest_as_found after;
      rounds = λ q r at is. elim (keys_apart text_total same_texts q id) [
        | inl own ↦
            let both : Some round ≡ Some r = sym kept ∙ ap (get world.rounds) (sym own) ∙ at in
            let one : round ≡ r = cc in
            record {
              after = now;
              found = inserted_there text_total same_texts world.rounds id now q own;
              same = same (ap (λ (x : Round). x.released) one ∙ is)
                  ∙ ap (λ (x : Round). let risen_one : Round = record x { published = now.published } in risen_one) one;
              risen = λ published. risen (ap (λ (x : Round). x.published) one ∙ published);
              places = λ number. refl;
              testers = λ name. as_kept refl;
            }
        | inr other ↦ stays_as_found world after q r (others_stay text_total same_texts world.rounds id now q r other
            at) is refl refl
      ];
      puzzles = puzzles_as_found world after refl;
    })

-- a Submit stores its answer where none stands
submit_remains : (world : World) (caller : Option Person) (id : List ℕ) (number : ℕ) (token answer : List ℕ) (t : ℕ)
    (found : PuzzleState) (given : Reply) (new : World) →
    NoneDecides world caller (action.Submit id number token answer) t
    → Allowed world caller (action.Submit id number token answer) t found given new → KeptRecords world new
submit_remains world caller id number token answer t found given new none
    (person, is, (round, entry, puzzle, verdict, kept, place, grid, judged, (told, made))) =
    let row : AnswerRow = answer_row world person id number token answer t verdict in
    let after : World = record world { answers = insert world.answers row.key row } in
    subst (λ (w : World). KeptRecords world w) (sym made) (record {
      people = λ name person at. at;
      callers = callers_stay world after refl;
      answers = λ key old at. others_stay answer_total same_answer_keys world.answers row.key row key old
          (λ own. token_decides world caller t person id number token answer old is
          (ap (get world.answers) (sym own) ∙ at) (suc last_rule) none (lit< tt)) at;
      protests = protest_as_found after;
      rounds = λ q r at is. stays_as_found world after q r at is refl refl;
      puzzles = puzzles_as_found world after refl;
    })

-- a Protest stores its row where none stands
protest_remains : (world : World) (caller : Option Person) (id token : List ℕ) (number : ℕ) (text : List ℕ) (t : ℕ)
    (found : PuzzleState) (given : Reply) (new : World) →
    NoneDecides world caller (action.Protest id token number text) t
    → Allowed world caller (action.Protest id token number text) t found given new → KeptRecords world new
protest_remains world caller id token number text t found given new none (person, is, (told, made)) =
    let row : ProtestRow = open_protest person id token number text in
    let after : World = record world { protests = insert world.protests row.key row } in
    subst (λ (w : World). KeptRecords world w) (sym made) (record {
      people = λ name person at. at;
      callers = callers_stay world after refl;
      answers = λ key old at. at;
      protests = λ key old at. protest_as_found after key old
          (others_stay protest_total same_protest_keys world.protests row.key row key old
          (λ own. protest_token_decides world caller t person id token number text old is
          (ap (get world.protests) (sym own) ∙ at) (suc last_rule) none (lit< tt)) at);
      rounds = λ q r at is. stays_as_found world after q r at is refl refl;
      puzzles = puzzles_as_found world after refl;
    })

-- a Rule rules its protest where no ruling stands
rule_remains : (world : World) (caller : Option Person) (id entrant token : List ℕ) (ruling : Ruling) (t : ℕ)
    (found : PuzzleState) (given : Reply) (new : World) →
    NoneDecides world caller (action.RuleProtest id entrant token ruling) t
    → Allowed world caller (action.RuleProtest id entrant token ruling) t found given new → KeptRecords world new
rule_remains world caller id entrant token ruling t found given new none (row, kept, told, made) =
    let own_key : ProtestKey = record { entrant = entrant; round = id; token = token } in
    let now : ProtestRow = record row { ruling = Some ruling } in
    let after : World = record world { protests = insert world.protests own_key now } in
    subst (λ (w : World). KeptRecords world w) (sym made) (record {
      people = λ name person at. at;
      callers = callers_stay world after refl;
      answers = λ key old at. at;
      protests = λ key old at. elim (keys_apart protest_total same_protest_keys key own_key) [
        | inl own ↦
            let there : protest_of world entrant id token ≡ Some old = ap (get world.protests) (sym own) ∙ at in
            let both : Some row ≡ Some old = sym kept ∙ there in
            let one : row ≡ old = cc in
            record {
              after = now;
              found = inserted_there protest_total same_protest_keys world.protests own_key now key own;
              same = ap (λ (r : ProtestRow). let ruled_one : ProtestRow = record r { ruling = Some ruling } in
                  ruled_one) one;
              ruled = λ ruled is. absurd (ruling_decides world caller t id entrant token ruling ruled old there is
                  (suc last_rule) none (lit< tt));
            }
        | inr other ↦ protest_as_found after key old (others_stay protest_total same_protest_keys world.protests own_key
            now key old other at)
      ];
      rounds = λ q r at is. stays_as_found world after q r at is refl refl;
      puzzles = puzzles_as_found world after refl;
    })

-- a round that is released already is left as it is by its release
released_as_it_was : (round : Round) → round.released ≡ true → ◌≡◌ {A = Round} (record round { released = true })
    (record round { published = round.published })
released_as_it_was round is = ap (λ (b : Bool). let now : Round = record round { released = b } in now) (sym is)

-- a Release and a Publish change one flag of their round; what else takes effect is said above
allowed_remains : (world : World) (caller : Option Person) (asked : Action) (t : ℕ) (found : PuzzleState)
    (given : Reply) (new : World) →
    NoneDecides world caller asked t → Allowed world caller asked t found given new → KeptRecords world new
allowed_remains world caller (action.PutPuzzle key puzzle) t found given new none (text, canonical, inl h) =
    remains_same world new h.4
allowed_remains world caller (action.PutPuzzle key puzzle) t found given new none (text, canonical, inr h) = put_remains
    world caller key puzzle t new none h.2
allowed_remains world caller (action.Certify key budget) t found given new none (row, kept, inl h) = certify_remains
    world key row budget found given new kept h
allowed_remains world caller (action.Certify key budget) t found given new none (row, kept, inr h) = remains_same world
    new h.same
allowed_remains world caller (action.Release id) t found given new none (round, kept, told, made) = round_changes world
    new id round (record round { released = true }) kept (λ is. released_as_it_was round is) (λ is. is) made
allowed_remains world caller (action.Publish id) t found given new none (round, kept, told, made) = round_changes world
    new id round (record round { published = true }) kept (λ _. refl) (λ _. refl) made
allowed_remains world caller (action.Submit id number token answer) t found given new none h = submit_remains world
    caller id number token answer t found given new none h
allowed_remains world caller (action.Import people) t found given new none h = import_remains world caller people t
    found given new none h
allowed_remains world caller (action.PutRound id sheet) t found given new none h = put_round_remains world caller id
    sheet t found given new none h
allowed_remains world caller (action.ReadRound id) t found given new none h = remains_same world new h.1
allowed_remains world caller (action.Answers id) t found given new none h = remains_same world new h.2.1
allowed_remains world caller (action.ReadPuzzle key) t found given new none h = remains_same world new h.1
allowed_remains world caller action.ListPuzzles t found given new none h = remains_same world new h.2.1
allowed_remains world caller action.ListRounds t found given new none h = remains_same world new h.2.1
allowed_remains world caller (action.Solutions id) t found given new none h = remains_same world new h.1
allowed_remains world caller (action.Protests id) t found given new none h = remains_same world new h.2.1
allowed_remains world caller (action.Protest id token number text) t found given new none h = protest_remains world
    caller id token number text t found given new none h
allowed_remains world caller (action.RuleProtest id entrant token ruling) t found given new none h = rule_remains world
    caller id entrant token ruling t found given new none h
allowed_remains world caller (action.Table id) t found given new none h = remains_same world new h.1

-- a step keeps them
pub step_remains : (world : World) (t : ℕ) (request : Request) (given : Reply) (new : World)
    → Step world t request given new → KeptRecords world new
step_remains world t request given new (inl h) = remains_same world new h.1
step_remains world t request given new (inr (found, (Deny k, first, decided))) = remains_same world new decided.1
step_remains world t request given new (inr (found, (Repeat, first, decided))) = remains_same world new decided.1
step_remains world t request given new (inr (found, (Allow, none, decided))) =
    allowed_remains world (caller_of world request.key) request.action t found given new none decided

-- an event of a hall's life keeps them
pub event_remains : (world : World) (event : Event) (next : World) → Happens world event next → KeptRecords world next
event_remains world (requested t request given) next step = step_remains world t request given next step
event_remains world (seeded people given) next seed = seed_remains world people given next seed

-- and so does the whole life
pub records_stay : RecordsStay
records_stay world last [] life = remains_same world last life
records_stay world last (event ∷ rest) life =
    remains_on world life.0 last (event_remains world event life.0 life.1) (records_stay life.0 last rest life.2)

-- a puzzle whose search came to an end stays whole
settled_stays : (later : World) (key : PuzzleKey) (row : PuzzleRow) → StaysListed later key row
    → is_open row.state ≡ false → get later.puzzles key ≡ Some row
settled_stays later key row stays settled = elim stays.state [
  | inl same ↦ stays.found ∙ ap (λ (r : PuzzleRow). Some r) (stays.same
      ∙ ap (λ (s : PuzzleState). let now : PuzzleRow = record row { state = s } in now) same)
  | inr (open_yet, budget, found) ↦ absurd (let no : true ≡ false = sym open_yet ∙ settled in cc)
]

-- so do those of a sane world's released rounds
pub released_puzzles_stay : ReleasedPuzzlesStay
released_puzzles_stay world later events sane life id key stands =
    let (row, solution, at, one) = sane.certified id key stands in
    settled_stays later key row ((records_stay world later events life).puzzles id key row stands at) (ap is_open one)
    ∙ sym at
