-- Where one table alone was written, what that table holds alone is changed in the world.
use Rattle.std.proofs.Common.{◌≡◌, ◌≢◌, ◌==◌, if◌then◌else◌, inl, inr, ℕ, flat_map, option_to_list, refl, ap}
use Rattle.std.proofs.lemmas.Bool.{cases_Bool}
use Rattle.std.specs.List.{AllByRecursion}
use Rattle.std.specs.FinMap.{from_entries}
use Rattle.sqlite.specs.Table.{Table}
use Rattle.sqlite.specs.Tree.{Trees}
use Rattle.hall_policy.specs.Text.{text_cmp}
use Rattle.hall_policy.specs.World.{World, puzzle_cmp, answer_cmp, protest_cmp}
use Rattle.hall_sql.specs.Rows.{kept, person_of_row, puzzle_of_row, round_of_row, place_of_row, answer_of_row}
use Rattle.hall_sql.specs.Rows.{protest_of_row, tester_of_row, world_of}
use Rattle.hall_sql.specs.Tables.{hall_schema}
use Rattle.hall_sql.proofs.KeyedLemmas.{other_tree}

-- worlds are one where their maps are
same_worlds : (a b : World) → a.people ≡ b.people → a.puzzles ≡ b.puzzles → a.rounds ≡ b.rounds → a.places ≡ b.places
    → a.answers ≡ b.answers → a.protests ≡ b.protests → a.testers ≡ b.testers → a ≡ b
same_worlds a b people puzzles rounds places answers protests testers = λ i. record {
  people = people i;
  puzzles = puzzles i;
  rounds = rounds i;
  places = places i;
  answers = answers i;
  protests = protests i;
  testers = testers i;
}

module _ (tree : ℕ) (old new : Trees) where
  -- the old trees, with the new one in this place
  abbrev pub with_tree : Trees
  with_tree n = if n == tree then new n else old n

  at_tree : (n : ℕ) → (n ≢ tree → new n ≡ old n) → new n ≡ with_tree n
  at_tree n same = elim (cases_Bool (n == tree)) [
    | inl is ↦ rw is refl
    | inr apart ↦ rw apart (same (other_tree n tree apart))
  ]

  -- The world is that of the old trees with the new one. For a tree that is written out, this is the old world with
  -- what its table holds.
  pub alone_world : AllByRecursion (λ (t : Table). t.tree ≢ tree → new t.tree ≡ old t.tree) hall_schema.tables
      → world_of new ≡ world_of with_tree
  alone_world others =
      same_worlds (world_of new) (world_of with_tree)
      (ap (kept text_cmp (λ person. person.name) person_of_row) (at_tree 0 others.0))
      (ap (kept puzzle_cmp (λ row. row.key) puzzle_of_row) (at_tree 3 others.1.0))
      (ap (kept text_cmp (λ round. round.id) round_of_row) (at_tree 5 others.1.1.0))
      (ap (λ rows. from_entries (flat_map (λ row. option_to_list (place_of_row row)) rows)) (at_tree 7 others.1.1.1.0))
      (ap (kept answer_cmp (λ row. row.key) answer_of_row) (at_tree 9 others.1.1.1.1.0))
      (ap (kept protest_cmp (λ row. row.key) protest_of_row) (at_tree 12 others.1.1.1.1.1.0))
      (ap (λ rows. from_entries (flat_map (λ row. option_to_list (tester_of_row row)) rows))
      (at_tree 14 others.1.1.1.1.1.1.0))
