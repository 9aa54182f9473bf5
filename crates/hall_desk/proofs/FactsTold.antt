-- What was found tells all that the rules asked of the action read, up to a rule.
use Rattle.std.proofs.Common.{◌≡◌, ◌↔◌, ◌≤◌, ℕ, List, Some, None, IsTrue, Contains, refl, sym, ◌∙◌, subst, lit<, arith}
use Rattle.std.specs.FinMap.{get}
use Rattle.hall_grid.specs.Board.{Board}
use Rattle.hall_policy.specs.World.{World}
use Rattle.hall_policy.specs.Facts.{AreTrue, TrueUpTo, Tells, IsRoundFound}
use Rattle.hall_policy.specs.Rules.{SheetLacks, ListsEntry, StandsReleased, Conflicts, IsInvolved, puzzles_put}
use Rattle.hall_policy.specs.Rules.{answers_given, protests_made}
use Rattle.hall_policy.proofs.TrueUpTo.{told_of, untold}
use Rattle.hall_policy.specs.declared.record.Person.{Person}
use Rattle.hall_policy.specs.declared.record.PuzzleKey.{PuzzleKey}
use Rattle.hall_policy.specs.declared.record.Ruling.{Ruling}
use Rattle.hall_policy.specs.declared.request.Sheet.{Sheet}
use Rattle.hall_policy.specs.declared.request.Action.{Action}
use Rattle.hall_policy.specs.declared.request.Action.TheVariants.{Import, PutPuzzle, ReadPuzzle, ListPuzzles, Certify}
use Rattle.hall_policy.specs.declared.request.Action.TheVariants.{PutRound, Release, ListRounds, ReadRound, Submit}
use Rattle.hall_policy.specs.declared.request.Action.TheVariants.{Answers, Solutions, Protest, Protests, RuleProtest}
use Rattle.hall_policy.specs.declared.request.Action.TheVariants.{Publish, Table}
use Rattle.hall_policy.specs.declared.facts.Facts.{Facts}
use Rattle.hall_policy.specs.Actions.{number_of, rules_asked}
use Rattle.hall_policy.specs.Decided.{PassesUpTo}
use Rattle.hall_policy.specs.declared.rule.Rule.{Rule}
use Rattle.hall_policy.specs.declared.rule.Rule.TheVariants as rule
use Rattle.hall_store.specs.Maps.{empty_world}
use Rattle.hall_store.specs.Store.{IsProtestOpen}
use Rattle.hall_desk.specs.Lookups.{HasAuthor, HasFaultyEntry}
use Rattle.hall_desk.specs.declared.release_faults.EntryFault.TheVariants.{Shared, Uncertified}

caller_tells : (facts : Facts) (world : World) (action : Action) (r : Rule) → number_of r ≤ 3
    → Tells r facts world action
caller_tells facts world action rule.UnknownKey small = tt
caller_tells facts world action rule.NoRole small = tt
caller_tells facts world action rule.OtherAuthor small = tt
caller_tells facts world action _ small = absurd (omega (arith, small))

-- the rules on the caller read nothing else
pub caller_told : (facts : Facts) (world : World) (action : Action) → TrueUpTo 3 facts world action
caller_told facts world action = told_of 3 facts world action (rules_asked action) (caller_tells facts world action)

-- a rule on the caller forbids an action that asks whether the key is known, where there is no caller
without_caller : (facts : Facts) (action : Action) (t : ℕ) → Contains (rules_asked action) rule.UnknownKey
    → PassesUpTo 3 facts action t → facts.caller ≡ None → ⊥
without_caller facts action t asked passes none = (passes empty_world (caller_told facts empty_world action)
    rule.UnknownKey (lit< tt)).0 (asked, none)

-- where there is no caller, and the rules on the caller let the action pass, it asks for a table
pub table_without_caller : (facts : Facts) (action : Action) (t : ℕ) → PassesUpTo 3 facts action t → facts.caller ≡ None
    → (round : List ℕ) × (action ≡ Table round)
table_without_caller facts (Import people) t passes none = absurd
    (without_caller facts (Import people) t (0, lit< tt, refl) passes none)
table_without_caller facts (PutPuzzle key puzzle) t passes none = absurd
    (without_caller facts (PutPuzzle key puzzle) t (0, lit< tt, refl) passes none)
table_without_caller facts (ReadPuzzle key) t passes none = absurd
    (without_caller facts (ReadPuzzle key) t (0, lit< tt, refl) passes none)
table_without_caller facts ListPuzzles t passes none = absurd
    (without_caller facts ListPuzzles t (0, lit< tt, refl) passes none)
table_without_caller facts (Certify key budget) t passes none = absurd
    (without_caller facts (Certify key budget) t (0, lit< tt, refl) passes none)
table_without_caller facts (PutRound round sheet) t passes none = absurd
    (without_caller facts (PutRound round sheet) t (0, lit< tt, refl) passes none)
table_without_caller facts (Release round) t passes none = absurd
    (without_caller facts (Release round) t (0, lit< tt, refl) passes none)
table_without_caller facts ListRounds t passes none = absurd
    (without_caller facts ListRounds t (0, lit< tt, refl) passes none)
table_without_caller facts (ReadRound round) t passes none = absurd
    (without_caller facts (ReadRound round) t (0, lit< tt, refl) passes none)
table_without_caller facts (Submit round number token answer) t passes none = absurd
    (without_caller facts (Submit round number token answer) t (0, lit< tt, refl) passes none)
table_without_caller facts (Answers round) t passes none = absurd
    (without_caller facts (Answers round) t (0, lit< tt, refl) passes none)
table_without_caller facts (Solutions round) t passes none = absurd
    (without_caller facts (Solutions round) t (0, lit< tt, refl) passes none)
table_without_caller facts (Protest round token number text) t passes none = absurd
    (without_caller facts (Protest round token number text) t (0, lit< tt, refl) passes none)
table_without_caller facts (Protests round) t passes none = absurd
    (without_caller facts (Protests round) t (0, lit< tt, refl) passes none)
table_without_caller facts (RuleProtest round entrant token ruling) t passes none = absurd
    (without_caller facts (RuleProtest round entrant token ruling) t (0, lit< tt, refl) passes none)
table_without_caller facts (Publish round) t passes none = absurd
    (without_caller facts (Publish round) t (0, lit< tt, refl) passes none)
table_without_caller facts (Table round) t passes none = (round, refl)

module _ (world : World) (facts : Facts) (action : Action) where
  -- a puzzle that is put: its author, then its rounds, then how many puzzles there are
  module _ (key : PuzzleKey) (puzzle : Board) (is : action ≡ PutPuzzle key puzzle)
      (author : IsTrue facts.author_is_there ↔ HasAuthor world key.author) where
    pub author_told : TrueUpTo 4 facts world action
    author_told = subst (λ (a : Action). TrueUpTo 4 facts world a) (sym is)
        (tt, (tt, (tt, (author, untold 4 4 facts world (PutPuzzle key puzzle) refl))))

    module _ (released : IsTrue facts.in_released ↔ ((id : List ℕ) × StandsReleased world key id)) where
      pub release_told : TrueUpTo 11 facts world action
      release_told = subst (λ (a : Action). TrueUpTo 11 facts world a) (sym is)
          (tt, (tt, (tt, (author, (released, untold 11 5 facts world (PutPuzzle key puzzle) refl)))))

      pub put_told : facts.puzzle ≡ get world.puzzles key → (facts.puzzle ≡ None
          → facts.count ≡ puzzles_put world key.author) → AreTrue facts world action
      put_told found count = subst (λ (a : Action). AreTrue facts world a) (sym is)
          (tt, (tt, (tt, (author, (released, ((found, count), tt))))))

  -- people who are imported
  pub import_told : (people : List Person) → action ≡ Import people
      → (IsTrue facts.conflict ↔ ((person : Person) × Contains people person × Conflicts world person))
      → AreTrue facts world action
  import_told people is conflict = subst (λ (a : Action). AreTrue facts world a) (sym is) (tt, (tt, (conflict, tt)))

  -- a round that is put: what its sheet names, then itself
  module _ (id : List ℕ) (sheet : Sheet) (is : action ≡ PutRound id sheet)
      (lacks : IsTrue facts.sheet_lacks ↔ SheetLacks world sheet) where
    pub sheet_told : TrueUpTo 4 facts world action
    sheet_told = subst (λ (a : Action). TrueUpTo 4 facts world a) (sym is)
        (tt, (tt, (lacks, untold 4 3 facts world (PutRound id sheet) refl)))

    pub replaced_told : IsRoundFound world (Some id) facts.round → AreTrue facts world action
    replaced_told round = subst (λ (a : Action). AreTrue facts world a) (sym is) (tt, (tt, (lacks, (round, tt))))

  -- a puzzle that is certified
  pub certify_told : (key : PuzzleKey) (budget : ℕ) → action ≡ Certify key budget → facts.puzzle ≡ get world.puzzles key
      → AreTrue facts world action
  certify_told key budget is found = subst (λ (a : Action). AreTrue facts world a) (sym is)
      (tt, (tt, (tt, (found, tt))))

  -- an answer that is handed in: its round, then what the caller gave
  module _ (id : List ℕ) (number : ℕ) (token answer : List ℕ) (is : action ≡ Submit id number token answer)
      (round : IsRoundFound world (Some id) facts.round) where
    pub place_told : TrueUpTo 5 facts world action
    place_told = subst (λ (a : Action). TrueUpTo 5 facts world a) (sym is)
        (tt, (tt, (round, (round, untold 5 4 facts world (Submit id number token answer) refl))))

    module _ (standing : (person : Person) → facts.caller ≡ Some person
        → facts.answer ≡ get world.answers (record {
          entrant = person.name;
          round = id;
          number = number;
          token =
              token;
        })) where
      pub token_told : TrueUpTo 15 facts world action
      token_told = subst (λ (a : Action). TrueUpTo 15 facts world a) (sym is) (
        tt,
        (
          tt,
          (
            round,
            (
              round,
              (
                (standing, tt),
                (
                  round,
                  (round, (round, untold 15 8 facts world (Submit id number token answer) refl)),
                ),
              ),
            ),
          ),
        ),
      )

      pub submit_told : ((person : Person) → facts.caller ≡ Some person → facts.count ≡ answers_given world person.name
          id number) → AreTrue facts world action
      submit_told given = subst (λ (a : Action). AreTrue facts world a) (sym is)
          (tt, (tt, (round, (round, ((standing, tt), (round, (round, (round, (given, tt)))))))))

  -- a protest: its round, then what the caller protested
  module _ (id token : List ℕ) (number : ℕ) (text : List ℕ) (is : action ≡ Protest id token number text)
      (round : IsRoundFound world (Some id) facts.round) where
    pub protest_place_told : TrueUpTo 5 facts world action
    protest_place_told = subst (λ (a : Action). TrueUpTo 5 facts world a) (sym is)
        (tt, (tt, (round, (round, untold 5 4 facts world (Protest id token number text) refl))))

    module _ (standing : (person : Person) → facts.caller ≡ Some person
        → facts.protest ≡ get world.protests (record { entrant = person.name; round = id; token = token })) where
      pub protest_token_told : TrueUpTo 15 facts world action
      protest_token_told = subst (λ (a : Action). TrueUpTo 15 facts world a) (sym is) (
        tt,
        (
          tt,
          (
            round,
            (
              round,
              (
                (tt, standing),
                (
                  round,
                  (round, (round, untold 15 8 facts world (Protest id token number text) refl)),
                ),
              ),
            ),
          ),
        ),
      )

      pub protest_told : ((person : Person) → facts.caller ≡ Some person → facts.count ≡ protests_made world person.name
          id) → AreTrue facts world action
      protest_told made = subst (λ (a : Action). AreTrue facts world a) (sym is)
          (tt, (tt, (round, (round, ((tt, standing), (round, (round, (round, (made, tt)))))))))

  -- a protest that is ruled: its round and itself, then who rules
  module _ (id entrant token : List ℕ) (ruling : Ruling) (is : action ≡ RuleProtest id entrant token ruling)
      (round : IsRoundFound world (Some id) facts.round)
      (standing : facts.protest ≡ get world.protests (record { entrant = entrant; round = id; token = token })) where
    pub protest_there_told : TrueUpTo 4 facts world action
    protest_there_told = subst (λ (a : Action). TrueUpTo 4 facts world a) (sym is)
        (tt, (tt, ((round, standing), untold 4 3 facts world (RuleProtest id entrant token ruling) refl)))

    pub rule_told : (IsTrue facts.involved ↔ IsInvolved world facts.caller (RuleProtest id entrant token ruling))
        → AreTrue facts world action
    rule_told involved = subst (λ (a : Action). AreTrue facts world a) (sym is)
        (tt, (tt, ((round, standing), (involved, (standing, tt)))))

  -- a round that is released: itself, then its entries' faults
  module _ (id : List ℕ) (is : action ≡ Release id) (round : IsRoundFound world (Some id) facts.round) where
    pub draft_told : TrueUpTo 4 facts world action
    draft_told = subst (λ (a : Action). TrueUpTo 4 facts world a) (sym is)
        (tt, (tt, (round, untold 4 3 facts world (Release id) refl)))

    module _ (shared : IsTrue facts.in_released ↔ HasFaultyEntry Shared world id) where
      pub shared_told : TrueUpTo 11 facts world action
      shared_told = subst (λ (a : Action). TrueUpTo 11 facts world a) (sym is) (
        tt,
        (
          tt,
          (
            round,
            (
              (
                (λ t. let f = shared.0 t in (f.0, f.2.0, f.1, f.2.1, f.2.2)),
                (λ f. shared.1 (f.0, f.2, (f.1, f.3, f.4))),
              ),
              untold 11 4 facts world (Release id) refl,
            ),
          ),
        ),
      )

      pub faults_told : IsTrue facts.uncertified ↔ HasFaultyEntry Uncertified world id → AreTrue facts world action
      faults_told uncertified = subst (λ (a : Action). AreTrue facts world a) (sym is) (
        tt,
        (
          tt,
          (
            round,
            (
              (
                (λ t. let f = shared.0 t in (f.0, f.2.0, f.1, f.2.1, f.2.2)),
                (λ f. shared.1 (f.0, f.2, (f.1, f.3, f.4))),
              ),
              (
                (
                  (λ t. let f = uncertified.0 t in (id, f.0, refl, f.1, f.2)),
                  (λ f. let same : id ≡ f.0 = let named = f.2 in cc in uncertified.1
                      (f.1, subst (λ (x : List ℕ). ListsEntry world x f.1) (sym same) f.3, f.4)),
                ),
                (round, (round, tt)),
              ),
            ),
          ),
        ),
      )

  -- a round that is read
  pub read_told : (id : List ℕ) → action ≡ ReadRound id → IsRoundFound world (Some id) facts.round
      → AreTrue facts world action
  read_told id is found = subst (λ (a : Action). AreTrue facts world a) (sym is)
      (tt, (tt, (found, (found, (found, tt)))))

  -- a round whose answers are listed
  pub list_told : (id : List ℕ) → action ≡ Answers id → IsRoundFound world (Some id) facts.round
      → AreTrue facts world action
  list_told id is found = subst (λ (a : Action). AreTrue facts world a) (sym is) (tt, (tt, (found, tt)))

  -- a puzzle that is read
  pub puzzle_read_told : (key : PuzzleKey) → action ≡ ReadPuzzle key → facts.puzzle ≡ get world.puzzles key
      → AreTrue facts world action
  puzzle_read_told key is found = subst (λ (a : Action). AreTrue facts world a) (sym is) (tt, (tt, (tt, (found, tt))))

  -- puzzles that are listed
  pub puzzles_list_told : action ≡ ListPuzzles → AreTrue facts world action
  puzzles_list_told is = subst (λ (a : Action). AreTrue facts world a) (sym is) (tt, (tt, tt))

  -- rounds that are listed
  pub rounds_list_told : action ≡ ListRounds → AreTrue facts world action
  rounds_list_told is = subst (λ (a : Action). AreTrue facts world a) (sym is) (tt, tt)

  -- a round whose solutions are told
  pub solutions_told : (id : List ℕ) → action ≡ Solutions id → IsRoundFound world (Some id) facts.round
      → AreTrue facts world action
  solutions_told id is found = subst (λ (a : Action). AreTrue facts world a) (sym is) (tt, (tt, (found, (found, tt))))

  -- a round whose protests are listed
  pub protests_list_told : (id : List ℕ) → action ≡ Protests id → IsRoundFound world (Some id) facts.round
      → AreTrue facts world action
  protests_list_told id is found = subst (λ (a : Action). AreTrue facts world a) (sym is) (tt, (tt, (found, tt)))

  -- a round that is published: its row, then whether a protest of it is open
  module _ (id : List ℕ) (is : action ≡ Publish id) (found : IsRoundFound world (Some id) facts.round) where
    pub ended_told : TrueUpTo 15 facts world action
    ended_told = subst (λ (a : Action). TrueUpTo 15 facts world a) (sym is)
        (tt, (tt, (found, (found, (found, untold 15 5 facts world (Publish id) refl)))))

    pub publish_told : IsTrue facts.open_protest ↔ IsProtestOpen world id → AreTrue facts world action
    publish_told open_one = subst (λ (a : Action). AreTrue facts world a) (sym is) (
      tt,
      (
        tt,
        (
          found,
          (
            found,
            (
              found,
              (
                (
                  (λ t. let f = open_one.0 t in (id, f.0, f.1, refl, f.2, f.3, f.4)),
                  (λ f. let same : id ≡ f.0 = let named = f.3 in cc in open_one.1 (f.1, f.2, f.4 ∙ sym same, f.5, f.6)),
                ),
                tt,
              ),
            ),
          ),
        ),
      ),
    )

  -- a round whose table is read
  pub table_told : (id : List ℕ) → action ≡ Table id → IsRoundFound world (Some id) facts.round
      → AreTrue facts world action
  table_told id is found = subst (λ (a : Action). AreTrue facts world a) (sym is) (found, (found, tt))
