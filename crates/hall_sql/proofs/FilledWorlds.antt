-- Rows that were added to nothing make the world whose rows they are.
use Rattle.std.proofs.Common.{◌≡◌, List, [], ◌∷◌, map, refl, sym, ap, ◌∙◌}
use Rattle.hall_policy.specs.World.{World}
use Rattle.hall_policy.specs.declared.record.Person.{Person}
use Rattle.hall_policy.specs.declared.record.PuzzleRow.{PuzzleRow}
use Rattle.hall_policy.specs.declared.record.Round.{Round}
use Rattle.hall_policy.specs.declared.record.PlaceKey.{PlaceKey}
use Rattle.hall_policy.specs.declared.record.Entry.{Entry}
use Rattle.hall_policy.specs.declared.record.AnswerRow.{AnswerRow}
use Rattle.hall_policy.specs.declared.record.ProtestRow.{ProtestRow}
use Rattle.hall_policy.proofs.Orders.{text_total, same_texts, puzzle_total, same_puzzle_keys, place_total}
use Rattle.hall_policy.proofs.Orders.{same_place_keys, answer_total, same_answer_keys, protest_total, same_protest_keys}
use Rattle.hall_store.specs.Maps.{empty_world}
use Rattle.hall_sql.specs.declared.whole.Whole.{Whole}
use Rattle.hall_sql.specs.Fill.{WithAnswer, WithPerson, WithPlace, WithProtest, WithPuzzle, WithRound}
use Rattle.hall_sql.specs.WholeRows.{AreRowsOf, without_testers}
use Rattle.hall_sql.proofs.FillLemmas.{FillsWorlds, filled}

same_pairs : {K V : Type 0} (es : List (K × V)) → map {B = K × V} (λ e. (e.0, e.1)) es ≡ es
same_pairs [] = refl
same_pairs (e ∷ es) = ap (λ l. e ∷ l) (same_pairs es)

-- rows that were added to nothing make the world whose rows they are, without its testers
pub filled_whole : (world new : World) (rows : Whole) → AreRowsOf world rows → FillsWorlds rows empty_world new
    → new ≡ without_testers world
filled_whole world new rows are fills =
    let a : fills.with_people ≡ record empty_world { people = world.people } =
    filled text_total same_texts (λ (x : Person). x.name) (λ x. x) (λ w. w.people) (λ w m. record w { people = m })
    (λ w m. refl) (λ w m n. refl) (λ w. refl)
    WithPerson (λ old x new h none. h none) world.people rows.people.items (sym are.people) empty_world
    fills.with_people fills.people refl in
    let b : fills.with_puzzles ≡ record empty_world { people = world.people; puzzles = world.puzzles } =
    filled puzzle_total same_puzzle_keys (λ (x : PuzzleRow). x.key) (λ x. x) (λ w. w.puzzles)
    (λ w m. record w { puzzles = m }) (λ w m. refl) (λ w m n. refl) (λ w. refl)
    WithPuzzle (λ old x new h none. h none) world.puzzles rows.puzzles.items (sym are.puzzles) fills.with_people
    fills.with_puzzles fills.puzzles
    (ap (λ (w : World). w.puzzles) a) ∙ ap (λ (w : World). record w { puzzles = world.puzzles }) a in
    let c : fills.with_heads ≡ record empty_world {
      people = world.people;
      puzzles = world.puzzles;
      rounds =
          world.rounds;
    } =
    filled text_total same_texts (λ (x : Round). x.id) (λ x. x) (λ w. w.rounds) (λ w m. record w { rounds = m })
    (λ w m. refl) (λ w m n. refl) (λ w. refl)
    WithRound (λ old x new h none. h none) world.rounds rows.heads.items (sym are.heads) fills.with_puzzles
    fills.with_heads fills.heads
    (ap (λ (w : World). w.rounds) b) ∙ ap (λ (w : World). record w { rounds = world.rounds }) b in
    let d : fills.with_places ≡ record empty_world {
      people = world.people;
      puzzles = world.puzzles;
      rounds =
          world.rounds;
      places = world.places;
    } =
    filled place_total same_place_keys (λ (x : PlaceKey × Entry). x.0) (λ x. x.1) (λ w. w.places)
    (λ w m. record w { places = m }) (λ w m. refl) (λ w m n. refl) (λ w. refl)
    WithPlace (λ old x new h none. h none) world.places rows.places.items
    (same_pairs rows.places.items ∙ sym are.places) fills.with_heads fills.with_places fills.places
    (ap (λ (w : World). w.places) c) ∙ ap (λ (w : World). record w { places = world.places }) c in
    let e : fills.with_answers
    ≡ record empty_world {
      people = world.people;
      puzzles = world.puzzles;
      rounds = world.rounds;
      places = world.places;
      answers = world.answers;
    } =
    filled answer_total same_answer_keys (λ (x : AnswerRow). x.key) (λ x. x) (λ w. w.answers)
    (λ w m. record w { answers = m }) (λ w m. refl) (λ w m n. refl) (λ w. refl)
    WithAnswer (λ old x new h none. h none) world.answers rows.answers.items (sym are.answers) fills.with_places
    fills.with_answers fills.answers
    (ap (λ (w : World). w.answers) d) ∙ ap (λ (w : World). record w { answers = world.answers }) d in
    filled protest_total same_protest_keys (λ (x : ProtestRow). x.key) (λ x. x) (λ w. w.protests)
    (λ w m. record w { protests = m }) (λ w m. refl) (λ w m n. refl) (λ w. refl)
    WithProtest (λ old x new h none. h none) world.protests rows.protests.items (sym are.protests) fills.with_answers
    new fills.protests
    (ap (λ (w : World). w.protests) e) ∙ ap (λ (w : World). record w { protests = world.protests }) e
