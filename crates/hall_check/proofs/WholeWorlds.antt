-- The rows of a store's world give that world.
use Rattle.std.proofs.Common.{◌≡◌, List, map, sym, ap, ◌∙◌, subst}
use Rattle.std.specs.Cmp.{IsTotalOrder}
use Rattle.std.specs.FinMap.{FinMap, IsAntisymmetric, entries, values, from_entries, entries_sorted, same_entries_map}
use Rattle.std.specs.List.Sorted.{IsStrictlySortedBy}
use Rattle.std.specs.Map.{keys_of}
use Rattle.std.specs.declared.cmp.Ordering.{Ordering}
use Rattle.hall_policy.specs.World.{World}
use Rattle.hall_policy.specs.declared.record.Person.{Person}
use Rattle.hall_policy.specs.declared.record.PuzzleRow.{PuzzleRow}
use Rattle.hall_policy.specs.declared.record.Round.{Round}
use Rattle.hall_policy.specs.declared.record.AnswerRow.{AnswerRow}
use Rattle.hall_policy.specs.declared.record.ProtestRow.{ProtestRow}
use Rattle.hall_policy.proofs.Maps.{strictly_sorted}
use Rattle.hall_policy.proofs.Orders.{text_total, same_texts, puzzle_total, same_puzzle_keys, place_total}
use Rattle.hall_policy.proofs.Orders.{same_place_keys, tester_total, same_tester_keys, answer_total, same_answer_keys}
use Rattle.hall_policy.proofs.Orders.{protest_total, same_protest_keys}
use Rattle.hall_store.proofs.MapWorlds.{entries_made}
use Rattle.hall_check.specs.Whole.{IsInOrder, IsWholeOf, world_of_whole}
use Rattle.hall_check.specs.declared.whole.Whole.{Whole}

module _ {K X : Type 0} {R : K → K → Ordering} (o : IsTotalOrder R) (same : IsAntisymmetric R) (m : FinMap R X) where
  -- the map of a map's entries is the map
  made_again : (es : List (K × X)) → entries m ≡ es → from_entries {R = R} es ≡ m
  made_again es is =
      let sorted : IsStrictlySortedBy R (keys_of es) = subst (λ x. IsStrictlySortedBy R (keys_of x)) is
      (strictly_sorted R (entries m) (entries_sorted m)) in
      same_entries_map (from_entries {R = R} es) m (entries_made o same es sorted ∙ sym is)

  -- so is that of its values under their own keys
  keyed_again : (key_of : X → K) (xs : List X) → entries m ≡ map (λ x. (key_of x, x)) (values m) → xs ≡ values m
      → from_entries {R = R} (map (λ x. (key_of x, x)) xs) ≡ m
  keyed_again key_of xs own is = made_again (map (λ x. (key_of x, x)) xs) (own ∙ ap (map (λ x. (key_of x, x))) (sym is))

pub whole_world : (world : World) (whole : Whole) → IsWholeOf world whole → (world_of_whole whole ≡ world)
    × IsInOrder whole
whole_world world whole is =
    let people = keyed_again text_total same_texts world.people (λ (p : Person). p.name) whole.people.items
    is.own.people is.people in
    let puzzles = keyed_again puzzle_total same_puzzle_keys world.puzzles (λ (r : PuzzleRow). r.key) whole.puzzles.items
    is.own.puzzles is.puzzles in
    let rounds = keyed_again text_total same_texts world.rounds (λ (r : Round). r.id) whole.rounds.items is.own.rounds
    is.rounds in
    let places = made_again place_total same_place_keys world.places whole.places.items (sym is.places) in
    let answers = keyed_again answer_total same_answer_keys world.answers (λ (r : AnswerRow). r.key) whole.answers.items
    is.own.answers is.answers in
    let protests = keyed_again protest_total same_protest_keys world.protests (λ (r : ProtestRow). r.key)
    whole.protests.items is.own.protests is.protests in
    let testers = made_again tester_total same_tester_keys world.testers whole.testers.items (sym is.testers) in (
      (λ i. record {
        people = people i;
        puzzles = puzzles i;
        rounds = rounds i;
        places = places i;
        answers = answers i;
        protests = protests i;
        testers = testers i;
      }),
      record {
        people = ap values people ∙ sym is.people;
        puzzles = ap values puzzles ∙ sym is.puzzles;
        rounds = ap values rounds ∙ sym is.rounds;
        places = ap entries places ∙ sym is.places;
        answers = ap values answers ∙ sym is.answers;
        protests = ap values protests ∙ sym is.protests;
        testers = ap entries testers ∙ sym is.testers;
      },
    )
