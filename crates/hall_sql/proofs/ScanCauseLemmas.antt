-- Why a scan of rowids is refused: what it met stands in the table.
use Rattle.std.proofs.Common.{◌≡◌, ◌≢◌, ◌<◌, ◌+◌, inl, inr, ℕ, ℤ, List, [], ◌∷◌, ◌++◌, length, map, get_or, true, false}
use Rattle.std.proofs.Common.{append_assoc, Option, Some, None, IsSome, IsTrue, IfSome, refl, sym, ap, subst, ◌∙◌}
use Rattle.std.proofs.Common.{arith}
use Rattle.std.proofs.lemmas.Cmp.{on_total}
use Rattle.std.proofs.lemmas.List.{map-append}
use Rattle.std.proofs.lemmas.List.Elements.{All-from_recursion}
use Rattle.std.specs.List.{AllByRecursion}
use Rattle.std.specs.List.Sorted.{IsPermutation, IsSorted}
use Rattle.std.specs.Ordering.{int_cmp, is_gt, is_lt}
use Rattle.std.specs.declared.cmp.Ordering.{Ordering}
use Rattle.std.specs.declared.cmp.Ordering.TheVariants.{Less, Equal, Greater}
use Rattle.sqlite_rules.specs.Lists.{Has}
use Rattle.sqlite_rules.proofs.ListLemmas.{all_has}
use Rattle.sqlite_schema.specs.declared.command.Command.{Command}
use Rattle.sqlite_trees.specs.declared.store.Store.{Ghosts}
use Rattle.sqlite_trees.specs.Tree.{IsAscending, rowid}
use Rattle.sqlite_trees.specs.View.{is_int}
use Rattle.sqlite_trees.proofs.ListLemmas.{map-map}
use Rattle.sqlite_value.specs.Order.{column, value_cmp}
use Rattle.sqlite_value.specs.declared.value.Value.{Value}
use Rattle.sqlite_value.specs.declared.value.Value.TheVariants.{Null, Int, Real, Text, Blob}
use Rattle.sqlite_value.proofs.OrderLemmas.{then-Equal, value_cmp-Int, value_cmp_total}
use Rattle.sqlite.specs.Clock.{timed}
use Rattle.sqlite.specs.Effect.{Database}
use Rattle.sqlite.specs.declared.error.ErrorCode.TheVariants as code
use Rattle.sqlite.specs.declared.error.Error.{Error}
use Rattle.sqlite.specs.declared.error.Error.TheVariants.{SqliteFailure}
use Rattle.sqlite.specs.Given.{Advances}
use Rattle.sqlite.specs.Held.{Held, state}
use Rattle.sqlite.specs.Listing.{understood}
use Rattle.sqlite.specs.Order.{Row}
use Rattle.sqlite.specs.State.{State, HasCleanDisk, FailsToQuery, IsUnchanged}
use Rattle.sqlite.specs.Term.{col, eval_all}
use Rattle.sqlite.specs.Values.{IsInt}
use Rattle.sqlite.proofs.Callers.{EndsIn, begins_shown, command_of, given_begin}
use Rattle.hall_sql.specs.AdoptCause.{IsUnfit, NextFails, ScanFails}
use Rattle.hall_sql.specs.Scan.{tree_of, Rises, IsAbove, HasScanned, IsTableKeyed, AreScanned}
use Rattle.hall_sql.specs.Standing.{Apart, AreKeyed, LeadsConnection}
use Rattle.hall_sql.specs.Statements.{plain_query, rowids_text}
use Rattle.hall_sql.specs.declared.tables.HallTable.{HallTable}
use Rattle.hall_sql.specs.Versions.{HasTable}
use Rattle.hall_sql.proofs.AskedLemmas.{open_cause}
use Rattle.hall_sql.proofs.Versions.{asked_all}
use Rattle.hall_sql.proofs.CallLemmas.{answers_selection}
use Rattle.hall_sql.proofs.KeyedLemmas.{keyed_permuted}
use Rattle.hall_sql.proofs.RisingLemmas.{AtMost, ascending}
use Rattle.hall_sql.proofs.Queries.{apart}
use Rattle.hall_sql.proofs.ScanLemmas.{by_rowid, rowids_are, all_pass}
use Rattle.hall_sql.proofs.WriteCauseLemmas.{cause_over}
use Rattle.sqlite.specs.Query.{output, output_cmp}

-- a row with no integer in its column
pub unfit_unread : (last : Option ℤ) (shown : Row) → (0 < length shown → ¬ IsInt (column shown 0)) → IsUnfit last shown
unfit_unread last [] unread id is above = absurd cc
unfit_unread last (v ∷ shown) unread id is above = unread (omega arith) (id, is)

-- ---- the rowids of a table that is keyed rise in the answer

less : (o : Ordering) → o ≢ Equal → is_gt o ≡ false → o ≡ Less
less Less apart up = refl
less Equal apart up = absurd (apart refl)
less Greater apart up = absurd cc

int_of : (v : Value) → IsTrue (is_int v) → IsInt v
int_of Null int = absurd cc
int_of (Int id) int = (id, refl)
int_of (Real x) int = absurd cc
int_of (Text t) int = absurd cc
int_of (Blob b) int = absurd cc

abbrev NotAbove : Row → Row → Type 0
NotAbove = AtMost (λ a b. value_cmp (rowid a) (rowid b)) (on_total rowid value_cmp_total)

later : (i : ℤ) (r : Row) (rows : List Row) (js : List ℤ) → rowid r ≡ Int i → map rowid rows ≡ map Int js
    → AllByRecursion (Apart r) rows
    → AllByRecursion (NotAbove r) rows → AllByRecursion (λ j. int_cmp i j ≡ Less) js
later i r [] [] at is apart up = tt
later i r [] (j ∷ js) at is apart up = absurd cc
later i r (y ∷ rows) [] at is apart up = absurd cc
later i r (y ∷ rows) (j ∷ js) at is apart up =
    let head : rowid y ≡ Int j = cc in
    let tail : map rowid rows ≡ map Int js = cc in
    let tie : value_cmp (rowid r) (rowid y) ≡ int_cmp i j = rw (at, head) (value_cmp-Int i j) in (
      less (int_cmp i j) (λ same. apart.0 (tie ∙ same)) (ap is_gt (sym tie) ∙ up.0),
      later i r rows js at tail apart.1
          up.1,
    )

rising : (rows : List Row) → AreKeyed rows → IsAscending NotAbove rows → (js : List ℤ) × (map rowid rows ≡ map Int js)
    × Rises js
rising [] keyed up = ([], refl, tt)
rising (r ∷ rows) keyed up =
    let rest = rising rows (record { ints = keyed.ints.1; distinct = keyed.distinct.1 }) up.1 in
    let head = int_of (rowid r) keyed.ints.0 in
    let is : map rowid (r ∷ rows) ≡ map Int (head.0 ∷ rest.0) = ap (λ v. v ∷ map rowid rows) head.1
    ∙ ap (λ l. Int head.0 ∷ l) rest.1 in
    (head.0 ∷ rest.0, is, (later head.0 r rows rest.0 head.1 rest.1 keyed.distinct.0 up.0, rest.2))

-- ---- what follows the first of numbers that rise

reach : (P : ℤ → Type 0) (ids js : List ℤ) (v : Value) (vs : List Value) (id : ℤ) → map Int js ≡ map Int ids ++ v ∷ vs
    → v ≡ Int id
    → AllByRecursion P js → P id
reach P [] [] v vs id is next all = absurd cc
reach P [] (j ∷ js) v vs id is next all = let same : j ≡ id = cc in subst P same all.0
reach P (i ∷ ids) [] v vs id is next all = absurd cc
reach P (i ∷ ids) (j ∷ js) v vs id is next all = let tail : map Int js ≡ map Int ids ++ v
    ∷ vs = cc in reach P ids js v vs id tail next all.1

next_int : (ids js : List ℤ) (v : Value) (vs : List Value) → map Int js ≡ map Int ids ++ v ∷ vs → Rises js
    → (id : ℤ) × (v ≡ Int id) × AllByRecursion (λ j. int_cmp j id ≡ Less) ids
next_int [] [] v vs is up = absurd cc
next_int [] (j ∷ js) v vs is up = let same : v ≡ Int j = cc in (j, same, tt)
next_int (i ∷ ids) [] v vs is up = absurd cc
next_int (i ∷ ids) (j ∷ js) v vs is up =
    let same : i ≡ j = cc in
    let tail : map Int js ≡ map Int ids ++ v ∷ vs = cc in
    let more = next_int ids js v vs tail up.1 in
    let low : int_cmp j more.0 ≡ Less = reach (λ k. int_cmp j k ≡ Less) ids js v vs more.0 tail more.1 up.0 in
    (more.0, more.1, (ap (λ k. int_cmp k more.0) same ∙ low, more.2))

above : (ids : List ℤ) (last : Option ℤ) (id : ℤ) → IfSome last (Has ids)
    → AllByRecursion (λ j. int_cmp j id ≡ Less) ids → IsAbove last id
above ids None id met below = tt
above ids (Some j) id met below = all_has (λ k. int_cmp k id ≡ Less) ids j below met

-- ---- the scan

-- ORDER BY rowid
abbrev by_order : ℕ → Row → Row → Ordering
by_order tree a b =
    let q = plain_query tree [] (col 1 0 ∷ []) by_rowid in
    output_cmp q (output q ([] ∷ a ∷ [])) (output q ([] ∷ b ∷ []))

order_is : (tree : ℕ) (a b : Row) → by_order tree a b ≡ value_cmp (rowid a) (rowid b)
order_is tree a b = then-Equal (value_cmp (rowid a) (rowid b))

-- an unfit row stands in a table that is not keyed
unkeyed : {S : Type 0} (g : Ghosts S) (table : HallTable) (h next : Held S) (last : Option ℤ) (shown : Row)
    → HasTable h.schema table
    → HasScanned g (rowids_text table) h last → IsUnchanged (state g h) (state g next) → Advances g h next (Some shown)
    → IsUnfit last shown
    → ¬ IsTableKeyed (state g h) table
unkeyed g table h next last shown has so same moves unfit keyed =
    let sql = rowids_text table in
    let s = state g next in
    let is = rowids_are s.now.schema table (subst (λ (d : Database). HasTable d.schema table) (sym same.0.now_is)
    has) in
    let still : IsUnchanged s s = (
      record { was_open = same.0.is_open; is_open = same.0.is_open; now_is = refl; committed_is = refl; mode = refl },
      record { changes = refl; last_rowid = refl },
      refl,
    ) in
    let whole = begins_shown sql [] s s (so.given ++ shown ∷ [])
    (given_begin g sql [] next (so.given ++ shown ∷ []) (moves sql [] so.given so.has)) still
    (λ c db it source.
    let known : c.command ≡ command_of (understood s.now.schema sql) = ap command_of (sym it.is) in
    subst (λ (k : Command). EndsIn k db (timed [] c.formats it.now)) (sym (known ∙ is.is)) tt) in
    let rows = s.now.trees (tree_of table) in
    let sel = answers_selection sql [] s s (tree_of table) [] (col 1 0 ∷ []) by_rowid _ is.is is.unlisted is.plain
    (apart table s.now.trees) refl _ whole.1 in
    let found = sel.found in
    let all : AreKeyed rows = subst (λ (d : Database). AreKeyed (d.trees (tree_of table))) (sym same.0.now_is) keyed in
    let ours : AreKeyed found = keyed_permuted rows found (subst (λ l. IsPermutation l found) (all_pass rows) sel.same)
    all in
    let sorted : IsSorted (λ a b. value_cmp (rowid a) (rowid b)) found = λ k d low high. ap is_lt
    (sym (order_is (tree_of table) (get_or found (k + 1) d) (get_or found k d))) ∙ sel.sorted k d low high in
    let ints = rising found ours (ascending (λ a b. value_cmp (rowid a) (rowid b)) (on_total rowid value_cmp_total)
    found sorted) in
    let tail = map (λ r. column r 0) whole.0 in
    let split : map (λ r. column r 0) (so.given ++ shown ∷ [] ++ whole.0) ≡ map Int so.ids ++ column shown 0 ∷ tail =
    map-append (λ r. column r 0) (so.given ++ shown ∷ []) whole.0
    ∙ ap (λ l. l ++ tail) (map-append (λ r. column r 0) so.given (shown ∷ [])
    ∙ ap (λ l. l ++ column shown 0 ∷ []) so.read)
    ∙ append_assoc (map Int so.ids) (column shown 0 ∷ []) tail in
    let ids : map rowid found ≡ map Int so.ids ++ column shown 0 ∷ tail =
    sym (ap (map (λ r. column r 0)) sel.shown ∙ map-map (λ r. column r 0) (λ r. eval_all (col 1 0 ∷ []) ([] ∷ r ∷ []))
    found) ∙ split in
    let it = next_int so.ids ints.0 (column shown 0) tail (sym ints.1 ∙ ids) ints.2 in
    unfit it.0 it.1 (above so.ids last it.0 so.met it.2)

-- ---- the causes

-- the query fails after a call that left the connection
pub asks_cause : (table : HallTable) (old mid new : State) (e : Error) → LeadsConnection old mid → HasCleanDisk mid
    → LeadsConnection mid new → HasTable mid.now.schema table
    → e ≢ SqliteFailure code.OutOfMemory → FailsToQuery (rowids_text table) [] mid new e
    → ScanFails (table ∷ []) old new
asks_cause table old mid new e before clean after has other fails = go old.step_limit refl
  where
    go : (limit : Option ℕ) → old.step_limit ≡ limit → ScanFails (table ∷ []) old new
    go (Some steps) is = inr (inl (subst IsSome (sym is) refl))
    go None is =
        inl (cause_over old mid new before clean after (open_cause (rowids_text table) [] mid new e
        (asked_all (rowids_are mid.now.schema table has)) (before.limit ∙ is) other refl fails))

pub next_cause : {S : Type 0} (g : Ghosts S) (table : HallTable) (old : State) (h next : Held S) (last : Option ℤ)
    → LeadsConnection old (state g h)
    → HasCleanDisk (state g h) → LeadsConnection (state g h) (state g next) → IsUnchanged old (state g h)
    → HasTable h.schema table
    → HasScanned g (rowids_text table) h last → NextFails g h next last → ScanFails (table ∷ []) old (state g next)
next_cause g table old h next last before clean after same has so (inl it) =
    asks_cause table old (state g h) (state g next) it.0 before clean after has it.1
    (it.2 (rowids_text table) [] so.given so.has)
next_cause g table old h next last before clean after same has so (inr it) =
    inr (inr (λ all. unkeyed g table h next last it.1 has so it.0 it.2 it.3
    (subst (λ (d : Database). AreKeyed (d.trees (tree_of table))) (sym same.0.now_is) all.0)))

-- one table after others
pub scan_cause : (tables done : List HallTable) (i : ℕ) (none : HallTable) (old mid new : State) → i < length tables
    → LeadsConnection old mid → HasCleanDisk mid
    → LeadsConnection mid new → AreScanned done old mid → ScanFails (get_or tables i none ∷ []) mid new
    → ScanFails tables old new
scan_cause tables done i none old mid new low before clean after some (inl cause) = inl
    (cause_over old mid new before clean after cause)
scan_cause tables done i none old mid new low before clean after some (inr (inl limit)) = go old.step_limit refl
  where
    go : (steps : Option ℕ) → old.step_limit ≡ steps → ScanFails tables old new
    go (Some count) is = inr (inl (subst IsSome (sym is) refl))
    go None is = absurd (let no : false ≡ true = subst IsSome (before.limit ∙ is) limit in cc)
scan_cause tables done i none old mid new low before clean after some (inr (inr strange)) =
    inr (inr (λ all. strange (
      subst (λ (d : Database). AreKeyed (d.trees (tree_of (get_or tables i none)))) (sym some.left.now_is)
          (All-from_recursion (IsTableKeyed old) tables all i none low),
      tt,
    )))
