-- Worlds and the rows that are all of them but testers.
use Rattle.std.proofs.Common.{◌≡◌, ◌+◌, List, [], ◌∷◌, map, length, Option, refl, sym, ap, ◌∙◌, arith}
use Rattle.std.proofs.lemmas.List.{length-map}
use Rattle.std.specs.Cmp.{IsTotalOrder}
use Rattle.std.specs.declared.cmp.Ordering.{Ordering}
use Rattle.std.specs.FinMap.{FinMap, IsAntisymmetric, empty, entries, len, len-empty, len-entries, same_entries_map}
use Rattle.std.specs.FinMap.{values}
use Rattle.sqlite.specs.Order.{Row}
use Rattle.sqlite.specs.Tree.{Trees}
use Rattle.hall_policy.specs.World.{World, puzzle_cmp, answer_cmp, protest_cmp, place_cmp}
use Rattle.hall_policy.specs.Text.{text_cmp}
use Rattle.hall_policy.specs.declared.record.Person.{Person}
use Rattle.hall_policy.specs.declared.record.PuzzleRow.{PuzzleRow}
use Rattle.hall_policy.specs.declared.record.Round.{Round}
use Rattle.hall_policy.specs.declared.record.Entry.{Entry}
use Rattle.hall_policy.specs.declared.record.AnswerRow.{AnswerRow}
use Rattle.hall_policy.specs.declared.record.ProtestRow.{ProtestRow}
use Rattle.hall_policy.proofs.Orders.{text_total, same_texts, puzzle_total, same_puzzle_keys, answer_total}
use Rattle.hall_policy.proofs.Orders.{same_answer_keys, protest_total, same_protest_keys}
use Rattle.hall_store.specs.Maps.{empty_world}
use Rattle.hall_store.specs.Whole.{AreUnderOwnKeys}
use Rattle.hall_sql.specs.declared.whole.Whole.{Whole}
use Rattle.hall_sql.specs.Migrate.{row_count}
use Rattle.hall_sql.specs.Rows.{answer_of_row, kept, person_of_row, protest_of_row, puzzle_of_row, round_of_row}
use Rattle.hall_sql.specs.Rows.{world_of}
use Rattle.hall_sql.specs.WholeRows.{AreRowsOf, AreSameRows, count_of, without_testers}
use Rattle.hall_sql.proofs.RisingLemmas.{AreOwn, kept_own}
use Rattle.hall_sql.proofs.TesterListings.{empty_entries}
use Rattle.hall_sql.proofs.ValueLemmas.{no_more}

-- ---- each record under its key

module _ {K X : Type 0} {R : K → K → Ordering} (total : IsTotalOrder R) (same : IsAntisymmetric R) (key : X → K) where
  keyed : (es : List (K × X)) → AreOwn total same key es → es ≡ map (λ x. (key x, x)) (map (λ e. e.1) es)
  keyed [] own = refl
  keyed (e ∷ es) own = λ i. (own.0 i, e.1) ∷ keyed es own.1 i

  entries_listed : (read : Row → Option X) (rows : List Row) (out : List X) → out ≡ values (kept R key read rows)
      → entries (kept R key read rows) ≡ map (λ x. (key x, x)) out
  entries_listed read rows out is =
      keyed (entries (kept R key read rows)) (kept_own total same key read rows) ∙ ap (map (λ x. (key x, x))) (sym is)

-- the rows that were read are all that the tables hold but testers
pub rows_of : (trees : Trees) (rows : Whole)
    → rows.people.items ≡ values (world_of trees).people
    → rows.puzzles.items ≡ values (world_of trees).puzzles
    → rows.heads.items ≡ values (world_of trees).rounds
    → rows.places.items ≡ entries (world_of trees).places
    → rows.answers.items ≡ values (world_of trees).answers
    → rows.protests.items ≡ values (world_of trees).protests
    → AreRowsOf (world_of trees) rows
rows_of trees rows people puzzles heads places answers protests = record {
  people = entries_listed text_total same_texts (λ (x : Person). x.name) person_of_row (trees 0) rows.people.items
      people;
  puzzles = entries_listed puzzle_total same_puzzle_keys (λ (x : PuzzleRow). x.key) puzzle_of_row (trees 3)
      rows.puzzles.items puzzles;
  heads = entries_listed text_total same_texts (λ (x : Round). x.id) round_of_row (trees 5) rows.heads.items heads;
  places = sym places;
  answers = entries_listed answer_total same_answer_keys (λ (x : AnswerRow). x.key) answer_of_row (trees 9)
      rows.answers.items answers;
  protests = entries_listed protest_total same_protest_keys (λ (x : ProtestRow). x.key) protest_of_row (trees 12)
      rows.protests.items protests;
}

-- each row of the world stands under its own key
pub own_keys : (trees : Trees) → AreUnderOwnKeys (world_of trees)
own_keys trees = record {
  people = entries_listed text_total same_texts (λ (x : Person). x.name) person_of_row (trees 0) _ refl;
  puzzles = entries_listed puzzle_total same_puzzle_keys (λ (x : PuzzleRow). x.key) puzzle_of_row (trees 3) _ refl;
  rounds = entries_listed text_total same_texts (λ (x : Round). x.id) round_of_row (trees 5) _ refl;
  answers = entries_listed answer_total same_answer_keys (λ (x : AnswerRow). x.key) answer_of_row (trees 9) _ refl;
  protests = entries_listed protest_total same_protest_keys (λ (x : ProtestRow). x.key) protest_of_row (trees 12) _
      refl;
}

-- testers don't count
pub bare_rows : (world : World) (rows : Whole) → AreRowsOf world rows → AreRowsOf (without_testers world) rows
bare_rows world rows are = record {
  people = are.people;
  puzzles = are.puzzles;
  heads = are.heads;
  places = are.places;
  answers = are.answers;
  protests = are.protests;
}

-- where there are none, nothing was taken away
pub bare_world : (world : World) → world.testers ≡ empty → world ≡ without_testers world
bare_world world none = λ i. record world { testers = none i }

-- ---- two worlds with the same rows

-- worlds whose maps have the same entries, but for testers
pub same_worlds : (one other : World) → entries one.people ≡ entries other.people
    → entries one.puzzles ≡ entries other.puzzles
    → entries one.rounds ≡ entries other.rounds → entries one.places ≡ entries other.places
    → entries one.answers ≡ entries other.answers
    → entries one.protests ≡ entries other.protests → without_testers one ≡ without_testers other
same_worlds one other people puzzles rounds places answers protests =
    let a = same_entries_map one.people other.people people in
    let b = same_entries_map one.puzzles other.puzzles puzzles in
    let c = same_entries_map one.rounds other.rounds rounds in
    let d = same_entries_map one.places other.places places in
    let e = same_entries_map one.answers other.answers answers in
    let f = same_entries_map one.protests other.protests protests in
    λ i. record {
      people = a i;
      puzzles = b i;
      rounds = c i;
      places = d i;
      answers = e i;
      protests = f i;
      testers =
          empty;
    }

pub one_world : (one other : World) (a b : Whole) → AreRowsOf one a → AreRowsOf other b → AreSameRows a b
    → without_testers one ≡ without_testers other
one_world one other a b p q same =
    same_worlds one other
    (p.people ∙ ap (map (λ (x : Person). (x.name, x))) same.people ∙ sym q.people)
    (p.puzzles ∙ ap (map (λ (x : PuzzleRow). (x.key, x))) same.puzzles ∙ sym q.puzzles)
    (p.heads ∙ ap (map (λ (x : Round). (x.id, x))) same.heads ∙ sym q.heads)
    (p.places ∙ same.places ∙ sym q.places)
    (p.answers ∙ ap (map (λ (x : AnswerRow). (x.key, x))) same.answers ∙ sym q.answers)
    (p.protests ∙ ap (map (λ (x : ProtestRow). (x.key, x))) same.protests ∙ sym q.protests)

unkeyed : {K X : Type 0} (key : X → K) (xs : List X) → map (λ (e : K × X). e.1) (map {B = K × X} (λ x. (key x, x)) xs) ≡
    xs
unkeyed key [] = refl
unkeyed key (x ∷ xs) = ap (λ l. x ∷ l) (unkeyed key xs)

records_same : {K X : Type 0} (key : X → K) (xs ys : List X)
    → map {B = K × X} (λ x. (key x, x)) xs ≡ map (λ x. (key x, x)) ys → xs ≡ ys
records_same {K} {X} key xs ys is = sym (unkeyed key xs) ∙ ap (map (λ (e : K × X). e.1)) is ∙ unkeyed key ys

-- one world has one list of rows
pub one_rows : (one other : World) (a b : Whole) → AreRowsOf one a → AreRowsOf other b
    → without_testers one ≡ without_testers other
    → AreSameRows a b
one_rows one other a b p q is = record {
  people = records_same (λ (x : Person). x.name) _ _ (sym p.people ∙ ap (λ (w : World). entries w.people) is
      ∙ q.people);
  puzzles = records_same (λ (x : PuzzleRow). x.key) _ _ (sym p.puzzles ∙ ap (λ (w : World). entries w.puzzles) is
      ∙ q.puzzles);
  heads = records_same (λ (x : Round). x.id) _ _ (sym p.heads ∙ ap (λ (w : World). entries w.rounds) is ∙ q.heads);
  places = sym p.places ∙ ap (λ (w : World). entries w.places) is ∙ q.places;
  answers = records_same (λ (x : AnswerRow). x.key) _ _ (sym p.answers ∙ ap (λ (w : World). entries w.answers) is
      ∙ q.answers);
  protests = records_same (λ (x : ProtestRow). x.key) _ _ (sym p.protests ∙ ap (λ (w : World). entries w.protests) is
      ∙ q.protests);
}

-- ---- how many there are

counted : {K X Y : Type 0} {R : K → K → Ordering} (m : FinMap R Y) (f : X → K × Y) (xs : List X) → entries m ≡ map f xs
    → length xs ≡ len m
counted m f xs is = sym (length-map xs f) ∙ ap length (sym is) ∙ sym (len-entries m)

pub rows_counted : (world : World) (rows : Whole) → AreRowsOf world rows → count_of rows ≡ row_count world
rows_counted world rows are =
    let a = counted world.people (λ (x : Person). (x.name, x)) rows.people.items are.people in
    let b = counted world.puzzles (λ (x : PuzzleRow). (x.key, x)) rows.puzzles.items are.puzzles in
    let c = counted world.rounds (λ (x : Round). (x.id, x)) rows.heads.items are.heads in
    let d = ap length (sym are.places) ∙ sym (len-entries world.places) in
    let e = counted world.answers (λ (x : AnswerRow). (x.key, x)) rows.answers.items are.answers in
    let f = counted world.protests (λ (x : ProtestRow). (x.key, x)) rows.protests.items are.protests in
    λ i. a i + b i + c i + d i + e i + f i

pub none_counted : (world : World) → without_testers world ≡ empty_world → row_count world ≡ 0
none_counted world is =
    let none = ap row_count is in
    let a = len-empty text_cmp Person in
    let b = len-empty puzzle_cmp PuzzleRow in
    let c = len-empty text_cmp Round in
    let d = len-empty place_cmp Entry in
    let e = len-empty answer_cmp AnswerRow in
    let f = len-empty protest_cmp ProtestRow in
    none ∙ λ i. a i + b i + c i + d i + e i + f i

none_left : {K X : Type 0} {R : K → K → Ordering} (m : FinMap R X) → len m ≡ 0 → m ≡ empty
none_left m none = empty_entries m (no_more (entries m) (sym (len-entries m) ∙ none))

-- no rows, no world
pub nothing_kept : (world : World) (rows : Whole) → AreRowsOf world rows → count_of rows ≡ 0
    → without_testers world ≡ empty_world
nothing_kept world rows are none =
    let all : row_count world ≡ 0 = sym (rows_counted world rows are) ∙ none in
    let a = none_left world.people (omega (arith, all)) in
    let b = none_left world.puzzles (omega (arith, all)) in
    let c = none_left world.rounds (omega (arith, all)) in
    let d = none_left world.places (omega (arith, all)) in
    let e = none_left world.answers (omega (arith, all)) in
    let f = none_left world.protests (omega (arith, all)) in
    λ i. record {
      people = a i;
      puzzles = b i;
      rounds = c i;
      places = d i;
      answers = e i;
      protests = f i;
      testers =
          empty;
    }
