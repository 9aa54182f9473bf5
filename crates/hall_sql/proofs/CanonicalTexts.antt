-- What is added to a table of puzzles without a row stands as canonical texts.
use Rattle.std.proofs.Common.{◌≡◌, ℕ, List, [], ◌∷◌, true, not, refl, sym, subst, ◌∙◌, arith}
use Rattle.std.specs.List.{AllByRecursion, filter}
use Rattle.sqlite.specs.declared.types.Value.TheVariants.{Int}
use Rattle.sqlite.specs.Effect.{Database}
use Rattle.sqlite.specs.Order.{Row}
use Rattle.sqlite_rules.specs.Edit.{next_rowid}
use Rattle.sqlite_trees.specs.Tree.{put_row}
use Rattle.sqlite_trees.proofs.ListLemmas.{all-permutation, all_of, filter_all}
use Rattle.hall_policy.specs.Sink.{HasTaken}
use Rattle.hall_policy.specs.declared.record.PuzzleRow.{PuzzleRow}
use Rattle.hall_sql.specs.declared.whole.Whole.{Whole}
use Rattle.hall_sql.specs.Columns.{puzzle_params}
use Rattle.hall_sql.specs.Fill.{AddsAnswer, AddsHead, AddsPlace, AddsProtest, AddsPuzzle, Fills, PutsPerson}
use Rattle.hall_sql.specs.PuzzleText.{AreCanonical, IsCanonicalRow}
use Rattle.hall_sql.specs.Spared.{AreOtherRowsKept, is_place_of}
use Rattle.hall_sql.proofs.InsertLemmas.{put_permutes}

-- a puzzle's row that is added is one
puzzle_texted : (old : Database) (row : PuzzleRow) (new : Database) → AddsPuzzle old row new → AreCanonical old.trees
    → AreCanonical new.trees
puzzle_texted old row new (text, canonical, it) all =
    let id = Int (next_rowid (old.trees 3)) in
    let one = id ∷ puzzle_params text row in
    let own : IsCanonicalRow one = record { row = row; text = text; canonical = canonical; rowid = id; is = refl } in
    subst (AllByRecursion IsCanonicalRow) (sym it.row.put)
    (all-permutation IsCanonicalRow (one ∷ old.trees 3) (put_row one (old.trees 3))
    (put_permutes one (old.trees 3) it.row.free) (own, all))

-- a place that is put leaves the puzzles
places_spare : (id : List ℕ) (old new : List Row) → AreOtherRowsKept (is_place_of id 3) old new → new ≡ old
places_spare id old new same = sym (none_taken new) ∙ same ∙ none_taken old
  where
    none_taken : (rows : List Row) → filter (λ row. not (is_place_of id 3 row)) rows ≡ rows
    none_taken rows = filter_all (λ row. not (is_place_of id 3 row)) rows
        (all_of (λ row. not (is_place_of id 3 row) ≡ true) (λ row. refl) rows)

-- what leaves the puzzles, one after another, leaves them
taken_texted : {X : Type 0} (Adds : Database → X → Database → Type 0)
    → ((a : Database) (x : X) (b : Database) → Adds a x b → AreCanonical a.trees → AreCanonical b.trees)
    → (a : Database) (xs : List X) (b : Database) → HasTaken Adds a xs b → AreCanonical a.trees → AreCanonical b.trees
taken_texted Adds one a [] b done = subst (λ (d : Database). AreCanonical d.trees) (sym done)
taken_texted Adds one a (x ∷ xs) b done = λ all. taken_texted Adds one done.0 xs b done.2 (one a x done.0 done.1 all)

still : (old new : List Row) → new ≡ old → AllByRecursion IsCanonicalRow old → AllByRecursion IsCanonicalRow new
still old new same = subst (AllByRecursion IsCanonicalRow) (sym same)

pub fills_texts : (rows : Whole) (a b : Database) → Fills rows a b → a.trees 3 ≡ [] → AreCanonical b.trees
fills_texts rows a b fills none =
    taken_texted AddsProtest (λ d x e it. still _ _ (it.row.others.1.0 (λ same. absurd (omega (arith, same))))) _ _ _
    fills.protests
    (taken_texted AddsAnswer (λ d x e it. still _ _ (it.row.others.1.0 (λ same. absurd (omega (arith, same))))) _ _ _
    fills.answers
    (taken_texted AddsPlace (λ d x e it. still _ _ (places_spare x.0.round (d.trees 3) (e.trees 3) it.others.1.0)) _ _ _
    fills.places
    (taken_texted AddsHead (λ d x e it. still _ _ (it.row.others.1.0 (λ same. absurd (omega (arith, same))))) _ _ _
    fills.heads
    (taken_texted AddsPuzzle puzzle_texted _ _ _ fills.puzzles
    (taken_texted PutsPerson (λ d x e it. still _ _ (it.row.others.1.0 (λ same. absurd (omega (arith, same))))) _ _ _
    fills.people
    (still [] (a.trees 3) none tt))))))
