-- The empty world is sane: what the law of sanity opens with.
use Rattle.std.proofs.Common.{◌≡◌, ◌==◌, ◌&&◌, Bool, List, [], map, Some, None, sym, ap, ◌∙◌, arith}
use Rattle.std.specs.List.{count_by}
use Rattle.std.specs.List.Sorted.{IsStrictlySortedBy}
use Rattle.std.specs.FinMap.{IsAntisymmetric, get, values, from_entries}
use Rattle.std.specs.Cmp.{IsTotalOrder}
use Rattle.std.specs.declared.cmp.Ordering.{Ordering}
use Rattle.hall_policy.specs.World.{same_text}
use Rattle.hall_policy.specs.declared.record.Person.{Person}
use Rattle.hall_policy.specs.declared.record.PuzzleRow.{PuzzleRow}
use Rattle.hall_policy.specs.declared.record.AnswerRow.{AnswerRow}
use Rattle.hall_policy.specs.declared.record.ProtestRow.{ProtestRow}
use Rattle.hall_policy.specs.declared.record.Round.{Round}
use Rattle.hall_policy.specs.declared.record.Entry.{Entry}
use Rattle.hall_policy.proofs.Orders.{text_total, puzzle_total, place_total, tester_total, answer_total, protest_total}
use Rattle.hall_policy.proofs.Orders.{same_puzzle_keys, same_answer_keys, same_protest_keys}
use Rattle.hall_store.specs.Maps.{empty_world}
use Rattle.hall_desk.specs.Sane.{Sane}
use Rattle.hall_store.proofs.MapWorlds.{get_found, entries_made}

module _ {K : Type 0} {R : K → K → Ordering} (o : IsTotalOrder R) (X : Type 0) where
  -- nothing is found in a map of no entries
  pub nowhere : (k : K) (v : X) → get (from_entries {R = R} []) k ≡ Some v → ⊥
  nowhere k v found = let no : None ≡ Some v = sym (get_found o [] k) ∙ found in cc

  -- and none of its values counts
  none_counts : IsAntisymmetric R → (p : X → Bool) → count_by p (values (from_entries {R = R} [])) ≡ 0
  unfolding IsStrictlySortedBy
  none_counts same p = ap (λ (es : List (K × X)). count_by p (map (λ e. e.1) es)) (entries_made o same [] tt)

-- the empty world is sane: nothing stands anywhere, and nothing counts
pub empty_sane : Sane empty_world
empty_sane = record {
  typed = record {
    in_range = record {
      people = λ name row found. absurd (nowhere text_total Person name row found);
      puzzles = λ key row found. absurd (nowhere puzzle_total PuzzleRow key row found);
      rounds = λ id round found. absurd (nowhere text_total Round id round found);
      places = λ key entry found. absurd (nowhere place_total Entry key entry found);
      answers = λ key row found. absurd (nowhere answer_total AnswerRow key row found);
      protests = λ key row found. absurd (nowhere protest_total ProtestRow key row found);
      testers = λ key found. absurd (nowhere tester_total (Unit {0}) key tt found);
    };
    people = λ name row found. absurd (nowhere text_total Person name row found);
    puzzles = λ key row found. absurd (nowhere puzzle_total PuzzleRow key row found);
    rounds = λ id round found. absurd (nowhere text_total Round id round found);
    answers = λ key row found. absurd (nowhere answer_total AnswerRow key row found);
    protests = λ key row found. absurd (nowhere protest_total ProtestRow key row found);
    keys_differ = λ a b p q found. absurd (nowhere text_total Person a p found);
    lists = λ id round found. absurd (nowhere text_total Round id round found);
    homes = λ key entry found. absurd (nowhere place_total Entry key entry found);
    tester_homes = λ key found. absurd (nowhere tester_total (Unit {0}) key tt found);
  };
  refers = record {
    authors = λ key row found. absurd (nowhere puzzle_total PuzzleRow key row found);
    entries = λ key entry found. absurd (nowhere place_total Entry key entry found);
    testers = λ round name found. absurd (nowhere tester_total (Unit {0}) (record { round = round; name = name }) tt
        found);
    entrants = λ key row found. absurd (nowhere answer_total AnswerRow key row found);
    answered = λ key row found. absurd (nowhere answer_total AnswerRow key row found);
    protesters = λ key row found. absurd (nowhere protest_total ProtestRow key row found);
    protested = λ key row found. absurd (nowhere protest_total ProtestRow key row found);
  };
  states = λ key row found. absurd (nowhere puzzle_total PuzzleRow key row found);
  answers_released = λ key row found. absurd (nowhere answer_total AnswerRow key row found);
  protests_released = λ key row found. absurd (nowhere protest_total ProtestRow key row found);
  answerers = λ key row found. absurd (nowhere answer_total AnswerRow key row found);
  protesters = λ key row found. absurd (nowhere protest_total ProtestRow key row found);
  verdicts = λ key row found. absurd (nowhere answer_total AnswerRow key row found);
  certified = λ id key stands. absurd (nowhere text_total Round id stands.0 stands.2);
  in_one_round = λ a b key stands other. absurd (nowhere text_total Round a stands.0 stands.2);
  published = λ id round found. absurd (nowhere text_total Round id round found);
  ruled = λ id round found. absurd (nowhere text_total Round id round found);
  numbered = λ key row found. absurd (nowhere answer_total AnswerRow key row found);
  numbered_once = λ a b row other found. absurd (nowhere answer_total AnswerRow a row found);
  apart = λ name person found. absurd (nowhere text_total Person name person found);
  few_answers = λ entrant round number. omega (
    arith,
    none_counts answer_total AnswerRow same_answer_keys
        (λ row. same_text row.key.entrant entrant && (same_text row.key.round round && (row.key.number == number))),
  );
  few_protests = λ entrant round. omega (
    arith,
    none_counts protest_total ProtestRow same_protest_keys
        (λ row. same_text row.key.entrant entrant && same_text row.key.round round),
  );
  few_puzzles = λ author. omega (
    arith,
    none_counts puzzle_total PuzzleRow same_puzzle_keys
        (λ row. same_text row.key.author author),
  );
}
