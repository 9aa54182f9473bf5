-- Which of the world's maps an event of a hall's life changes, and by what.
use Rattle.std.proofs.Common.{◌≡◌, ◌+◌, ◌⊎◌, inl, inr, ℕ, true, List, Option, Some, refl, ap, ◌∙◌}
use Rattle.std.specs.FinMap.{get, insert}
use Rattle.hall_grid.specs.Board.{Board}
use Rattle.hall_policy.specs.World.{World, protest_of}
use Rattle.hall_policy.specs.Rules.{answers_given}
use Rattle.hall_policy.specs.First.{NoneDecides}
use Rattle.hall_policy.specs.declared.rule.Decision.TheVariants.{Allow, Repeat, Deny}
use Rattle.hall_policy.specs.declared.record.Person.{Person}
use Rattle.hall_policy.specs.declared.record.ProtestRow.{ProtestRow}
use Rattle.hall_policy.specs.declared.record.PuzzleKey.{PuzzleKey}
use Rattle.hall_policy.specs.declared.record.PuzzleRow.{PuzzleRow}
use Rattle.hall_policy.specs.declared.record.PuzzleState.{PuzzleState}
use Rattle.hall_policy.specs.declared.record.PuzzleState.TheVariants as state
use Rattle.hall_policy.specs.declared.record.Round.{Round}
use Rattle.hall_policy.specs.declared.record.Ruling.{Ruling}
use Rattle.hall_policy.specs.declared.request.Action.{Action}
use Rattle.hall_policy.specs.declared.request.Action.TheVariants as action
use Rattle.hall_policy.specs.declared.request.Sheet.{Sheet}
use Rattle.hall_store.specs.Caller.{caller_of}
use Rattle.hall_store.specs.Change.{with_people, relisted, retested}
use Rattle.hall_desk.specs.Shown.{state_name, told_verdict}
use Rattle.hall_desk.specs.Step.{Allowed, IsFound, new_row, draft_of, answer_row, open_protest}
use Rattle.hall_desk.specs.History.{Event, requested, seeded, Happens}
use Rattle.hall_desk.specs.declared.reply.Reply.{Reply}
use Rattle.hall_desk.specs.declared.reply.Reply.TheVariants as reply

-- ---- what an allowed action changes
module _ (world : World) (caller : Option Person) (asked : Action) (t : ℕ) (given : Reply) (new : World) where
  -- people join
  pub record Imports : Type 0 where
    pub people : List Person
    pub count : ℕ
    pub asks : asked ≡ action.Import people
    pub told : given ≡ reply.Import count
    pub made : new.people ≡ with_people world.people people

  -- a puzzle is put
  pub record Puts : Type 0 where
    pub key : PuzzleKey
    pub puzzle : Board
    pub text : List ℕ
    pub asks : asked ≡ action.PutPuzzle key puzzle
    pub told : given ≡ reply.PutPuzzle (state_name state.New) text
    pub made : new.puzzles ≡ insert world.puzzles key (new_row key puzzle)

  -- a puzzle's state is found
  pub record Searches : Type 0 where
    pub key : PuzzleKey
    pub budget : ℕ
    pub row : PuzzleRow
    pub found : PuzzleState
    pub asks : asked ≡ action.Certify key budget
    pub told : given ≡ reply.Certify (state_name found)
    pub kept : get world.puzzles key ≡ Some row
    pub is_found : IsFound row.puzzle budget found
    pub made : new.puzzles ≡ insert world.puzzles key (record row { state = found })

  -- a draft is put
  pub record Drafts : Type 0 where
    pub id : List ℕ
    pub sheet : Sheet
    pub asks : asked ≡ action.PutRound id sheet
    pub told : given ≡ reply.PutRound id
    pub made : new.rounds ≡ insert world.rounds id (draft_of id sheet)
    pub places : new.places ≡ relisted world.places id sheet.puzzles
    pub testers : new.testers ≡ retested world.testers id sheet.testers

  -- a flag rises, with the lists as they were
  pub record Flags : Type 0 where
    pub id : List ℕ
    pub round : Round
    pub now : Round
    pub kept : get world.rounds id ≡ Some round
    pub same : now ≡ record round { released = now.released; published = now.published }
    pub released : (now.released ≡ round.released) ⊎ ((asked ≡ action.Release id) × (given ≡ reply.Release id))
    pub published : (now.published ≡ round.published) ⊎ ((asked ≡ action.Publish id) × (given ≡ reply.Publish id))
    pub made : new.rounds ≡ insert world.rounds id now
    pub places : new.places ≡ world.places
    pub testers : new.testers ≡ world.testers

  -- rounds and their lists are as they were
  pub record SameRounds : Type 0 where
    pub rounds : new.rounds ≡ world.rounds
    pub places : new.places ≡ world.places
    pub testers : new.testers ≡ world.testers

  -- an answer is stored
  pub record HandsIn : Type 0 where
    pub person : Person
    pub id : List ℕ
    pub number : ℕ
    pub token : List ℕ
    pub answer : List ℕ
    pub verdict : ℕ
    pub shown : Option ℕ
    pub round : Round
    pub is : caller ≡ Some person
    pub asks : asked ≡ action.Submit id number token answer
    pub kept : get world.rounds id ≡ Some round
    pub told : given ≡ reply.Submit (answers_given world person.name id number + 1) shown
    pub made : new.answers ≡ insert world.answers (record {
      entrant = person.name;
      round = id;
      number = number;
      token =
          token;
    })
        (answer_row world person id number token answer t verdict)

  -- a protest is stored
  pub record Protests : Type 0 where
    pub person : Person
    pub id : List ℕ
    pub token : List ℕ
    pub number : ℕ
    pub text : List ℕ
    pub is : caller ≡ Some person
    pub asks : asked ≡ action.Protest id token number text
    pub told : given ≡ reply.Protest token
    pub made : new.protests ≡ insert world.protests (record { entrant = person.name; round = id; token = token })
        (open_protest person id token number text)

  -- a protest is ruled
  pub record Rules : Type 0 where
    pub id : List ℕ
    pub entrant : List ℕ
    pub token : List ℕ
    pub ruling : Ruling
    pub row : ProtestRow
    pub asks : asked ≡ action.RuleProtest id entrant token ruling
    pub kept : protest_of world entrant id token ≡ Some row
    pub told : given ≡ reply.RuleProtest ruling
    pub made : new.protests ≡ insert world.protests (record { entrant = entrant; round = id; token = token })
        (record row { ruling = Some ruling })

  -- each map is as it was, or changed so
  pub record Touches : Type 0 where
    pub people : (new.people ≡ world.people) ⊎ Imports
    pub puzzles : (new.puzzles ≡ world.puzzles) ⊎ (Puts ⊎ Searches)
    pub rounds : SameRounds ⊎ (Drafts ⊎ Flags)
    pub answers : (new.answers ≡ world.answers) ⊎ HandsIn
    pub protests : (new.protests ≡ world.protests) ⊎ (Protests ⊎ Rules)

  -- the rounds of a world with other rows are as they were
  same_rounds : (made_of : World) → new ≡ made_of → made_of.rounds ≡ world.rounds → made_of.places ≡ world.places
      → made_of.testers ≡ world.testers → SameRounds
  same_rounds made_of made rounds places testers = record {
    rounds = ap (λ (w : World). w.rounds) made ∙ rounds;
    places = ap (λ (w : World). w.places) made ∙ places;
    testers = ap (λ (w : World). w.testers) made ∙ testers;
  }

  -- nothing is changed
  touches_nothing : new ≡ world → Touches
  touches_nothing same = record {
    people = inl (ap (λ (w : World). w.people) same);
    puzzles = inl (ap (λ (w : World). w.puzzles) same);
    rounds = inl (same_rounds world same refl refl refl);
    answers = inl (ap (λ (w : World). w.answers) same);
    protests = inl (ap (λ (w : World). w.protests) same);
  }

-- an allowed action changes one map at most, or the three of the rounds
pub allowed_touches : (world : World) (caller : Option Person) (asked : Action) (t : ℕ) (found : PuzzleState)
    (given : Reply) (new : World) →
    Allowed world caller asked t found given new → Touches world caller asked t given new
allowed_touches world caller (action.Import people) t found given new (told, made) = record {
  people = inr (record {
    people = people;
    count = _;
    asks = refl;
    told = told;
    made = ap (λ (w : World). w.people)
        made;
  });
  puzzles = inl (ap (λ (w : World). w.puzzles) made);
  rounds = inl (same_rounds world caller (action.Import people) t given new _ made refl refl refl);
  answers = inl (ap (λ (w : World). w.answers) made);
  protests = inl (ap (λ (w : World). w.protests) made);
}
allowed_touches world caller (action.PutPuzzle key puzzle) t found given new (text, canonical, inl h) = touches_nothing
    world caller (action.PutPuzzle key puzzle) t given new h.4
allowed_touches world caller (action.PutPuzzle key puzzle) t found given new
    (text, canonical, inr (other, told, made)) = record {
      people = inl (ap (λ (w : World). w.people) made);
      puzzles = inr (inl (record {
        key = key;
        puzzle = puzzle;
        text = text;
        asks = refl;
        told = told;
        made = ap
            (λ (w : World). w.puzzles) made;
      }));
      rounds = inl (same_rounds world caller (action.PutPuzzle key puzzle) t given new _ made refl refl refl);
      answers = inl (ap (λ (w : World). w.answers) made);
      protests = inl (ap (λ (w : World). w.protests) made);
    }
allowed_touches world caller (action.Certify key budget) t found given new (row, kept, inl h) = record {
  people = inl (ap (λ (w : World). w.people) h.stored);
  puzzles = inr (inr (record {
    key = key;
    budget = budget;
    row = row;
    found = found;
    asks = refl;
    told = h.told;
    kept =
        kept;
    is_found = h.is_found;
    made = ap (λ (w : World). w.puzzles) h.stored;
  }));
  rounds = inl (same_rounds world caller (action.Certify key budget) t given new _ h.stored refl refl refl);
  answers = inl (ap (λ (w : World). w.answers) h.stored);
  protests = inl (ap (λ (w : World). w.protests) h.stored);
}
allowed_touches world caller (action.Certify key budget) t found given new (row, kept, inr h) = touches_nothing world
    caller (action.Certify key budget) t given new h.same
allowed_touches world caller (action.PutRound id sheet) t found given new (told, made) = record {
  people = inl (ap (λ (w : World). w.people) made);
  puzzles = inl (ap (λ (w : World). w.puzzles) made);
  rounds = inr (inl (record {
    id = id;
    sheet = sheet;
    asks = refl;
    told = told;
    made = ap (λ (w : World). w.rounds) made;
    places = ap (λ (w : World). w.places) made;
    testers = ap (λ (w : World). w.testers) made;
  }));
  answers = inl (ap (λ (w : World). w.answers) made);
  protests = inl (ap (λ (w : World). w.protests) made);
}
allowed_touches world caller (action.Release id) t found given new (round, kept, told, made) = record {
  people = inl (ap (λ (w : World). w.people) made);
  puzzles = inl (ap (λ (w : World). w.puzzles) made);
  rounds = inr (inr (record {
    id = id;
    round = round;
    now = record round { released = true };
    kept = kept;
    same = refl;
    released = inr (refl, told);
    published = inl refl;
    made = ap (λ (w : World). w.rounds) made;
    places = ap (λ (w : World). w.places) made;
    testers = ap (λ (w : World). w.testers) made;
  }));
  answers = inl (ap (λ (w : World). w.answers) made);
  protests = inl (ap (λ (w : World). w.protests) made);
}
allowed_touches world caller (action.Publish id) t found given new (round, kept, told, made) = record {
  people = inl (ap (λ (w : World). w.people) made);
  puzzles = inl (ap (λ (w : World). w.puzzles) made);
  rounds = inr (inr (record {
    id = id;
    round = round;
    now = record round { published = true };
    kept = kept;
    same = refl;
    released = inl refl;
    published = inr (refl, told);
    made = ap (λ (w : World). w.rounds) made;
    places = ap (λ (w : World). w.places) made;
    testers = ap (λ (w : World). w.testers) made;
  }));
  answers = inl (ap (λ (w : World). w.answers) made);
  protests = inl (ap (λ (w : World). w.protests) made);
}
allowed_touches world caller (action.Submit id number token answer) t found given new
    (person, is, (round, entry, puzzle, verdict, kept, place, grid, judged, (told, made))) = record {
      people = inl (ap (λ (w : World). w.people) made);
      puzzles = inl (ap (λ (w : World). w.puzzles) made);
      rounds = inl (same_rounds world caller (action.Submit id number token answer) t given new _ made refl refl refl);
      answers = inr (record {
        person = person;
        id = id;
        number = number;
        token = token;
        answer = answer;
        verdict = verdict;
        shown = told_verdict round verdict;
        round = round;
        is = is;
        asks = refl;
        kept = kept;
        told = told;
        made = ap (λ (w : World). w.answers) made;
      });
      protests = inl (ap (λ (w : World). w.protests) made);
    }
allowed_touches world caller (action.Protest id token number text) t found given new (person, is, (told, made)) =
    record {
      people = inl (ap (λ (w : World). w.people) made);
      puzzles = inl (ap (λ (w : World). w.puzzles) made);
      rounds = inl (same_rounds world caller (action.Protest id token number text) t given new _ made refl refl refl);
      answers = inl (ap (λ (w : World). w.answers) made);
      protests = inr (inl (record {
        person = person;
        id = id;
        token = token;
        number = number;
        text = text;
        is = is;
        asks = refl;
        told = told;
        made = ap (λ (w : World). w.protests) made;
      }));
    }
allowed_touches world caller (action.RuleProtest id entrant token ruling) t found given new (row, kept, told, made) =
    record {
      people = inl (ap (λ (w : World). w.people) made);
      puzzles = inl (ap (λ (w : World). w.puzzles) made);
      rounds = inl (same_rounds world caller (action.RuleProtest id entrant token ruling) t given new _ made refl refl
          refl);
      answers = inl (ap (λ (w : World). w.answers) made);
      protests = inr (inr (record {
        id = id;
        entrant = entrant;
        token = token;
        ruling = ruling;
        row = row;
        asks = refl;
        kept = kept;
        told = told;
        made = ap (λ (w : World). w.protests) made;
      }));
    }
allowed_touches world caller (action.ReadRound id) t found given new h = touches_nothing world caller
    (action.ReadRound id) t given new h.1
allowed_touches world caller (action.Answers id) t found given new h = touches_nothing world caller (action.Answers id)
    t given new h.2.1
allowed_touches world caller (action.ReadPuzzle key) t found given new h = touches_nothing world caller
    (action.ReadPuzzle key) t given new h.1
allowed_touches world caller action.ListPuzzles t found given new h = touches_nothing world caller action.ListPuzzles t
    given new h.2.1
allowed_touches world caller action.ListRounds t found given new h = touches_nothing world caller action.ListRounds t
    given new h.2.1
allowed_touches world caller (action.Solutions id) t found given new h = touches_nothing world caller
    (action.Solutions id) t given new h.1
allowed_touches world caller (action.Protests id) t found given new h = touches_nothing world caller
    (action.Protests id) t given new h.2.1
allowed_touches world caller (action.Table id) t found given new h = touches_nothing world caller (action.Table id) t
    given new h.1

-- ---- what an event changes
-- the request was allowed, and so touches the maps; or the people of the list joined
abbrev pub Changes : World → Event → World → Type 0
Changes world (requested t request given) next =
    NoneDecides world (caller_of world request.key) request.action t × Touches world (caller_of world request.key)
    request.action t given next
Changes world (seeded people given) next = (count : ℕ) × (given ≡ reply.Import count)
    × (next ≡ record world { people = with_people world.people people })

-- an event leaves the world, or changes it so
pub happened : (world : World) (event : Event) (next : World) → Happens world event next → (next ≡ world)
    ⊎ Changes world event next
happened world (requested t request given) next (inl h) = inl h.1
happened world (requested t request given) next (inr (found, (Deny k, first, decided))) = inl decided.1
happened world (requested t request given) next (inr (found, (Repeat, first, decided))) = inl decided.1
happened world (requested t request given) next (inr (found, (Allow, none, decided))) =
    inr (none, allowed_touches world (caller_of world request.key) request.action t found given next decided)
happened world (seeded people given) next (inl h) = inl h.1
happened world (seeded people given) next (inr (inl h)) = inl h.2
happened world (seeded people given) next (inr (inr (clear, (told, made)))) = inr (_, told, made)
