use Rattle.std.proofs.Common.{subst}
use Rattle.hall_policy.specs.Ranges.{IsPerson, IsPuzzleRow, IsRound, IsEntry, IsName, IsAnswerRow, IsProtestRow}
use Rattle.hall_policy.specs.declared.record.Person.{Person}
use Rattle.hall_policy.specs.declared.record.PuzzleRow.{PuzzleRow}
use Rattle.hall_policy.specs.declared.record.Round.{Round}
use Rattle.hall_policy.specs.declared.record.Entry.{Entry}
use Rattle.hall_policy.specs.declared.record.PlaceKey.{PlaceKey}
use Rattle.hall_policy.specs.declared.record.TesterKey.{TesterKey}
use Rattle.hall_policy.specs.declared.record.AnswerRow.{AnswerRow}
use Rattle.hall_policy.specs.declared.record.ProtestRow.{ProtestRow}
use Rattle.hall_policy.proofs.Orders.{text_total, same_texts, puzzle_total, same_puzzle_keys, place_total}
use Rattle.hall_policy.proofs.Orders.{same_place_keys, answer_total, same_answer_keys, protest_total, same_protest_keys}
use Rattle.hall_policy.proofs.Orders.{tester_total, same_tester_keys}
use Rattle.hall_check.specs.Finds.{EveryRow}
use Rattle.hall_check.proofs.OwnRows.{own_row, own_entry}
use Rattle.hall_check.proofs.ranges.in_range.Goals as goal

pub returns : goal.returns
returns c =
    let whole = c.args.whole.now in
    record {
      people = λ name row found. subst (λ rows. EveryRow IsPerson rows) c.as_slice.ensures.value c.read_people.ensures
          row (own_row text_total same_texts (λ (person : Person). person.name) whole.people.items name row found).0;
      puzzles = λ key row found. subst (λ rows. EveryRow IsPuzzleRow rows) c.as_slice-2.ensures.value
          c.read_puzzles.ensures row (own_row puzzle_total same_puzzle_keys (λ (row : PuzzleRow). row.key)
          whole.puzzles.items key row found).0;
      rounds = λ id round found. subst (λ rows. EveryRow IsRound rows) c.as_slice-3.ensures.value c.read_rounds.ensures
          round (own_row text_total same_texts (λ (round : Round). round.id) whole.rounds.items id round found).0;
      places = λ key entry found. subst (λ rows. EveryRow (λ (place : PlaceKey × Entry). IsEntry place.1) rows)
          c.as_slice-4.ensures.value c.read_places.ensures (key, entry)
          (own_entry place_total same_place_keys whole.places.items key entry found);
      answers = λ key row found. subst (λ rows. EveryRow IsAnswerRow rows) c.as_slice-6.ensures.value
          c.read_answers.ensures row (own_row answer_total same_answer_keys (λ (row : AnswerRow). row.key)
          whole.answers.items key row found).0;
      protests = λ key row found. subst (λ rows. EveryRow IsProtestRow rows) c.as_slice-7.ensures.value
          c.read_protests.ensures row (own_row protest_total same_protest_keys (λ (row : ProtestRow). row.key)
          whole.protests.items key row found).0;
      testers = λ key found. subst (λ rows. EveryRow (λ (tester : TesterKey × Unit {0}). IsName tester.0.name) rows)
          c.as_slice-5.ensures.value c.read_testers.ensures (key, tt)
          (own_entry tester_total same_tester_keys whole.testers.items key tt found);
    }
