-- A round is put: its head, then its list, then its testers.
use Rattle.std.proofs.Common.{◌≡◌, ◌||◌, List, ℕ, [], ◌∷◌, filter, Bool, true, false, refl, sym, ap, ◌∙◌}
use Rattle.sqlite.specs.Effect.{Database}
use Rattle.sqlite.specs.Order.{Row}
use Rattle.sqlite.specs.Tree.{Trees}
use Rattle.hall_policy.specs.World.{World}
use Rattle.hall_policy.specs.declared.record.RoundRow.{RoundRow}
use Rattle.hall_store.specs.Change.{relisted, retested}
use Rattle.hall_store.specs.declared.change.Change.TheVariants.{PutRound}
use Rattle.hall_sql.specs.Inside.{Changes}
use Rattle.hall_sql.specs.RoundColumns.{is_under}
use Rattle.hall_sql.specs.RoundPuts.{PutsHead, PutsList, PutsTesterList, PutsRows, with_places, with_tester_rows}
use Rattle.hall_sql.specs.RoundPuts.{without_rows}
use Rattle.hall_sql.specs.Spared.{is_head_of, is_place_of, is_tester_of, may_write, KeptOtherRows}
use Rattle.hall_sql.proofs.SparedLemmas.{then_spared, wider_spared}

either_first : (a b : Bool) → a ≡ true → a || b ≡ true
either_first a b is = ap (λ c. c || b) is

either_second : (a b : Bool) → b ≡ true → a || b ≡ true
either_second true b is = refl
either_second false b is = is

passing_all : (rows : List Row) → filter (λ r. true) rows ≡ rows
passing_all [] = refl
passing_all (r ∷ rows) = ap (λ l. r ∷ l) (passing_all rows)

-- a table of which no row may be written is as it was
table_left : (old new : List Row) → filter (λ r. true) new ≡ filter (λ r. true) old → new ≡ old
table_left old new it = sym (passing_all new) ∙ it ∙ passing_all old

module _ (row : RoundRow) (a b c d : Database) (head : PutsHead row.round a b)
    (list : PutsList row.round.id row.puzzles b c)
    (testers : PutsTesterList row.round.id row.testers c d) where
  abbrev id : List ℕ
  id = row.round.id

  wider : (takes : ℕ → Row → Bool) → ((tree : ℕ) (r : Row) → takes tree r ≡ true
      → may_write (PutRound row) tree r ≡ true) → (old new : Trees) → KeptOtherRows takes old new
      → KeptOtherRows (may_write (PutRound row)) old new
  wider takes more old new it = wider_spared takes (may_write (PutRound row)) more old new it

  pub round_put : Changes (PutRound row) a d
  round_put = record {
    world = testers.world
        ∙ ap (λ (w : World). record w { testers = retested w.testers id row.testers }) list.world
        ∙ ap (λ (w : World). record w {
          places = relisted w.places id row.puzzles;
          testers = retested w.testers id
              row.testers;
        }) head.world;
    others = then_spared (may_write (PutRound row)) a.trees c.trees d.trees
        (then_spared (may_write (PutRound row)) a.trees b.trees c.trees
        (wider (is_head_of id) (λ tree r is. either_first _ _ is) a.trees b.trees head.others)
        (wider (is_place_of id) (λ tree r is. either_second _ _ (either_first _ _ is)) b.trees c.trees list.others))
        (wider (is_tester_of id) (λ tree r is. either_second _ _ (either_second _ _ is)) c.trees d.trees
        testers.others);
  }

  -- and no other row stands under the id
  pub rows_put : PutsRows row a d
  rows_put =
      let places : b.trees 7 ≡ a.trees 7 = table_left (a.trees 7) (b.trees 7) head.others.1.1.1.0 in
      let names : b.trees 14 ≡ a.trees 14 = table_left (a.trees 14) (b.trees 14) head.others.1.1.1.1.1.1.0 in
      let listed_heads : c.trees 5 ≡ b.trees 5 = table_left (b.trees 5) (c.trees 5) list.others.1.1.0 in
      let listed_names : c.trees 14 ≡ b.trees 14 = table_left (b.trees 14) (c.trees 14) list.others.1.1.1.1.1.1.0 in
      let heads : d.trees 5 ≡ c.trees 5 = table_left (c.trees 5) (d.trees 5) testers.others.1.1.0 in
      let last_places : d.trees 7 ≡ c.trees 7 = table_left (c.trees 7) (d.trees 7) testers.others.1.1.1.0 in
      record {
        head = record {
          rowid = head.row.rowid;
          alone = ap (filter (is_under id)) (heads ∙ listed_heads)
              ∙ head.row.alone;
        };
        places = last_places ∙ list.rows ∙ ap (λ rows. with_places id 1 row.puzzles (without_rows id rows)) places;
        testers = testers.rows ∙ ap (λ rows. with_tester_rows id row.testers (without_rows id rows))
            (listed_names ∙ names);
      }
