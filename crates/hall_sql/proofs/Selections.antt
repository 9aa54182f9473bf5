-- A query of one table answers a selection of its rows.
use Rattle.std.proofs.Common.{◌≡◌, ◌+◌, ℕ, List, [], ◌∷◌, ◌++◌, map, flat_map, filter, true, false, Bool, cond, refl}
use Rattle.std.proofs.Common.{ap, subst, ◌∙◌}
use Rattle.std.proofs.Math.ListN as listn
use Rattle.std.proofs.lemmas.List.{length-map}
use Rattle.std.specs.List.{list_all}
use Rattle.std.specs.List.Sorted.{IsSorted}
use Rattle.std.specs.declared.cmp.Ordering.{Ordering}
use Rattle.sqlite.specs.Order.{Row}
use Rattle.sqlite.specs.Term.{Term, Env, holds}
use Rattle.sqlite_value.specs.declared.keys.Key.{Key}
use Rattle.sqlite.specs.Query.{IsAnswer, output, Output, output_cmp}
use Rattle.sqlite.specs.Tree.{Trees}
use Rattle.sqlite_trees.proofs.ListLemmas.{pull_back, map-map}
use Rattle.hall_sql.specs.Statements.{plain_query}
use Rattle.hall_sql.specs.Standing.{IsSelection}

-- the environments of the rows that pass
kept_rows : (keeps : Row → Bool) (params : Row) (rows : List Row)
    → flat_map (λ r. cond (keeps r) ((params ∷ r ∷ []) ∷ []) []) rows ≡ map (λ r. params ∷ r ∷ []) (filter keeps rows)
kept_rows keeps params [] = refl
kept_rows keeps params (r ∷ rows) =
    elim (keeps r) as (λ b. cond b ((params ∷ r ∷ []) ∷ []) []
    ++ flat_map (λ r. cond (keeps r) ((params ∷ r ∷ []) ∷ []) []) rows ≡ map (λ r. params ∷ r ∷ [])
    (cond b (r ∷ filter keeps rows) (filter keeps rows)))
    [ true ↦ ap (λ l. (params ∷ r ∷ []) ∷ l) (kept_rows keeps params rows) | false ↦ kept_rows keeps params rows ]

-- the order of images is an order of what they are images of
sorted_back : {A B : Type 0} (f : A → B) (cmp : B → B → Ordering) (xs : List A) → IsSorted cmp (map f xs)
    → IsSorted (λ a b. cmp (f a) (f b)) xs
sorted_back f cmp xs up k d low high =
    let it = up k (f d) low (rw (length-map xs f) high) in rw (
      listn.get_or-map f xs (k + 1) d,
      listn.get_or-map f xs k
          d,
    ) at it

pub selected : (tree : ℕ) (terms project : List Term) (order : List (Term × Key)) (db : Trees) (params : Row)
    (rows : List Row) → IsAnswer (plain_query tree terms project order) db params rows
    → IsSelection (plain_query tree terms project order) (db tree) params rows
selected tree terms project order db params rows a =
    let q = plain_query tree terms project order in
    let mk : Row → Env = λ r. params ∷ r ∷ [] in
    let keeps : Row → Bool = λ r. list_all (holds (mk r)) terms in
    let staged : a.staged ≡ map mk (filter keeps (db tree)) = a.grouped ∙ kept_rows keeps params (db tree) in
    let kept : a.kept ≡ map (output q) a.staged = a.distinct in
    let first = pull_back (output q) a.kept a.ordered a.same a.staged kept in
    let second = pull_back mk a.staged first.0 first.1 (filter keeps (db tree)) staged in
    let all : a.ordered ≡ map (λ r. output q (mk r)) second.0 = first.2 ∙ ap (map (output q)) second.2
    ∙ map-map (output q) mk second.0 in
    record {
      found = second.0;
      same = second.1;
      sorted = sorted_back (λ r. output q (mk r)) (output_cmp q) second.0
          (subst (IsSorted (output_cmp q)) all a.sorted);
      shown = a.shown ∙ ap (map (λ (o : Output). o.1)) all ∙ map-map (λ (o : Output). o.1) (λ r. output q (mk r))
          second.0;
    }
