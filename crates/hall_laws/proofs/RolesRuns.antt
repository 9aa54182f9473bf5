-- What who is no director can't learn from a run of requests.
use Rattle.std.proofs.Common.{◌≡◌, ◌≤◌, inl, inr, ℕ, List, [], ◌∷◌, Option, Some, None, arith, refl, sym, ap, ◌∙◌}
use Rattle.std.proofs.Common.{subst}
use Rattle.std.specs.Prelude.{All}
use Rattle.std.specs.FinMap.{get, insert}
use Rattle.std.proofs.lemmas.List.Elements.{All-head, All-tail}
use Rattle.hall_policy.specs.World.{World}
use Rattle.hall_policy.specs.OwnAlike.{as_is}
use Rattle.hall_policy.specs.declared.record.AnswerKey.{AnswerKey}
use Rattle.hall_policy.specs.declared.record.AnswerRow.{AnswerRow}
use Rattle.hall_policy.specs.declared.record.Person.{Person}
use Rattle.hall_policy.specs.declared.record.ProtestKey.{ProtestKey}
use Rattle.hall_policy.specs.declared.record.ProtestRow.{ProtestRow}
use Rattle.hall_policy.specs.declared.record.PuzzleKey.{PuzzleKey}
use Rattle.hall_policy.specs.declared.record.PuzzleRow.{PuzzleRow}
use Rattle.hall_policy.proofs.Maps.{get-insert_other}
use Rattle.hall_policy.proofs.Orders.{puzzle_total, same_puzzle_keys}
use Rattle.hall_store.specs.Caller.{caller_of}
use Rattle.hall_store.proofs.Inserts.{keys_apart, inserted_there}
use Rattle.hall_desk.specs.AnsweredRun.{AnsweredRun}
use Rattle.hall_desk.specs.Sane.{Sane}
use Rattle.hall_desk.specs.Step.{Asked, IsAnswered}
use Rattle.hall_desk.specs.declared.reply.Reply.{Reply}
use Rattle.hall_desk.proofs.OthersAlike.{step_of}
use Rattle.hall_desk.proofs.StepsAlike.{same_callers}
use Rattle.hall_desk.proofs.StepsSane.{step_sane}
use Rattle.hall_laws.specs.Roles.{IsNoDirector, KnowsNothingElse, DifferInUnstarted, IsAskedUnknowing}
use Rattle.hall_laws.specs.Roles.{PuzzlesHiddenInRuns}
use Rattle.hall_laws.proofs.Roles.{puzzles_alike}
use Rattle.hall_laws.proofs.RolesAlike.{Change, nothing, by_puzzle, by_answer, by_protest}

-- what differs so at a moment differed so before
by_then : (world other : World) (m t : ℕ) → m ≤ t → DifferInUnstarted world other t → DifferInUnstarted world other m
by_then world other m t early differ = record {
  people = differ.people;
  rounds = differ.rounds;
  places = differ.places;
  testers = differ.testers;
  answers = differ.answers;
  protests = differ.protests;
  started = λ key (id, round, entry, kept, released, started, listed, own).
      differ.started key (id, round, entry, kept, released, omega (arith, early, started), listed, own);
}

module _ (first second : World) (t : ℕ) where
  -- the worlds differ only so, and each caller of the first worlds is one of these, and knows no more
  pub record Since (world other : World) : Type 0 where
    pub differ : DifferInUnstarted world other t
    pub callers : (key : Option (List ℕ)) → caller_of world key ≡ caller_of first key
    pub knows : (caller : Option Person) → KnowsNothingElse first second caller → KnowsNothingElse world other caller

  module _ (world other : World) (since : Since world other) where
    module _ (key : PuzzleKey) (row : PuzzleRow) where
      put_there : (q : PuzzleKey) → get world.puzzles q ≡ get other.puzzles q
          → get (insert world.puzzles key row) q ≡ get (insert other.puzzles key row) q
      put_there q same = elim (keys_apart puzzle_total same_puzzle_keys q key) [
        | inl own ↦ inserted_there puzzle_total same_puzzle_keys world.puzzles key row q own
            ∙ sym (inserted_there puzzle_total same_puzzle_keys other.puzzles key row q own)
        | inr apart ↦ get-insert_other puzzle_total same_puzzle_keys world.puzzles key row q apart ∙ same
            ∙ sym (get-insert_other puzzle_total same_puzzle_keys other.puzzles key row q apart)
      ]

      knows_there : (caller : Option Person) → KnowsNothingElse world other caller → KnowsNothingElse
          (record world { puzzles = insert world.puzzles key row })
          (record other { puzzles = insert other.puzzles key row }) caller
      knows_there None knows = tt
      knows_there (Some person) knows = λ q known. put_there q (knows q known)

      by_put : Since (record world { puzzles = insert world.puzzles key row })
          (record other { puzzles = insert other.puzzles key row })
      by_put = record {
        differ = record {
          people = since.differ.people;
          rounds = since.differ.rounds;
          places = since.differ.places;
          testers = since.differ.testers;
          answers = since.differ.answers;
          protests = since.differ.protests;
          started = λ q started. put_there q (since.differ.started q started);
        };
        callers = λ q. same_callers (record world { puzzles = insert world.puzzles key row }) world refl q
            ∙ since.callers q;
        knows = λ caller knows. knows_there caller (since.knows caller knows);
      }

    by_handing : (key : AnswerKey) (row : AnswerRow) → Since
        (record world { answers = insert world.answers key row })
        (record other { answers = insert other.answers key row })
    by_handing key row = record {
      differ = record {
        people = since.differ.people;
        rounds = since.differ.rounds;
        places = since.differ.places;
        testers = since.differ.testers;
        answers = ap (λ m. insert m key row) since.differ.answers;
        protests = since.differ.protests;
        started = since.differ.started;
      };
      callers = λ q. same_callers (record world { answers = insert world.answers key row }) world refl q
          ∙ since.callers q;
      knows = λ caller knows. knew caller (since.knows caller knows);
    }
      where
        knew : (caller : Option Person) → KnowsNothingElse world other caller → KnowsNothingElse
            (record world { answers = insert world.answers key row })
            (record other { answers = insert other.answers key row }) caller
        knew None knows = tt
        knew (Some person) knows = knows

    by_protesting : (key : ProtestKey) (row : ProtestRow) → Since
        (record world { protests = insert world.protests key row })
        (record other { protests = insert other.protests key row })
    by_protesting key row = record {
      differ = record {
        people = since.differ.people;
        rounds = since.differ.rounds;
        places = since.differ.places;
        testers = since.differ.testers;
        answers = since.differ.answers;
        protests = ap (λ m. insert m key row) since.differ.protests;
        started = since.differ.started;
      };
      callers = λ q. same_callers (record world { protests = insert world.protests key row }) world refl q
          ∙ since.callers q;
      knows = λ caller knows. knew caller (since.knows caller knows);
    }
      where
        knew : (caller : Option Person) → KnowsNothingElse world other caller → KnowsNothingElse
            (record world { protests = insert world.protests key row })
            (record other { protests = insert other.protests key row }) caller
        knew None knows = tt
        knew (Some person) knows = knows

    -- where both stay or change by the same row, all stays so
    moved : (new changed now then : World) → new ≡ now → changed ≡ then → Since now then → Since new changed
    moved new changed now then p q h = subst (λ (w : World). Since w changed) (sym p)
        (subst (λ (w : World). Since now w) (sym q) h)

    still : (new changed : World) → Change as_is world other new changed → Since new changed
    still new changed (nothing p q) = moved new changed world other p q since
    still new changed (by_puzzle key row p q) = moved new changed _ _ p q (by_put key row)
    still new changed (by_answer key row twin same p q) = moved new changed _ _ p
        (q ∙ ap (λ (r : AnswerRow). record other { answers = insert other.answers key r }) (sym (same (λ id a. refl))))
        (by_handing key row)
    still new changed (by_protest key row p q) = moved new changed _ _ p q (by_protesting key row)

    -- one request
    asked_alike : (asked : Asked) (given answered : Reply) (new changed : World) → Sane world → Sane other
        → IsAskedUnknowing first second t asked → IsAnswered world asked given new
        → IsAnswered other asked answered changed → (given ≡ answered) × Since new changed
    asked_alike asked given answered new changed sane too is here there =
        let caller : caller_of world asked.request.key ≡ caller_of first asked.request.key =
        since.callers asked.request.key in
        let alike = puzzles_alike world other new changed asked given answered here there since.differ.people sane.typed
        too.typed is.typed.request (by_then world other asked.moment t is.in_time since.differ)
        (subst IsNoDirector (sym caller) is.no_director)
        (since.knows (caller_of world asked.request.key)
        (subst (KnowsNothingElse first second) (sym caller) is.knows)) in
        (alike.0, still new changed alike.1)

  abbrev Claim : List Asked → Type 0
  Claim list = (world other last end : World) (replies others : List Reply) → Sane world → Sane other
      → Since world other → All (IsAskedUnknowing first second t) list → AnsweredRun world list replies last
      → AnsweredRun other list others end → (replies ≡ others) × Since last end

  runs_alike : (list : List Asked) → Claim list
  runs_alike [] world other last end [] [] sane too since all run also = (
    refl,
    moved world other since last end world other run also since,
  )
  runs_alike [] world other last end (given ∷ replies) others sane too since all run also = absurd run
  runs_alike [] world other last end [] (given ∷ others) sane too since all run also = absurd also
  runs_alike (asked ∷ list) world other last end [] others sane too since all run also = absurd run
  runs_alike (asked ∷ list) world other last end (given ∷ replies) [] sane too since all run also = absurd also
  runs_alike (asked ∷ list) world other last end (given ∷ replies) (answered ∷ others) sane too since all
      (new, here, run) (changed, there, also) =
      let is = All-head (IsAskedUnknowing first second t) asked list all in
      let (told, since_then) = asked_alike world other since asked given answered new changed sane too is here there in
      let (tells, at_last) = runs_alike list new changed last end replies others
      (step_sane world asked.moment asked.request given new is.typed.moment is.typed.request
      (step_of world new asked given here) sane)
      (step_sane other asked.moment asked.request answered changed is.typed.moment is.typed.request
      (step_of other changed asked answered there) too)
      since_then (All-tail (IsAskedUnknowing first second t) asked list all) run also in
      (λ i. told i ∷ tells i, at_last)

pub puzzles_hidden_in_runs : PuzzlesHiddenInRuns
puzzles_hidden_in_runs world other last end t list replies others sane too differ all run also =
    let (told, since) = runs_alike world other t list world other last end replies others sane too (record {
      differ = differ;
      callers = λ key. refl;
      knows = λ caller knows. knows;
    }) all run also in
    (told, since.differ, since.knows)
