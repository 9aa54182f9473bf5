-- The table of patterns goes into a router without a conflict.
use Rattle.std.proofs.Common.{◌≡◌, ◌∙◌, List, [], ℕ, true, refl, sym, Result, Ok, Err, Some, ◌&&◌, inl, inr}
use Rattle.std.specs.Prelude.{not, is_some}
use Rattle.matchit.specs.Router.{InsertsRead, nearest, Refused}
use Rattle.matchit.specs.Route.{Scan, parse_route}
use Rattle.matchit.specs.declared.error.InsertError.{InsertError}
use Rattle.matchit.specs.declared.error.InsertError.TheVariants as error
use Rattle.matchit.proofs.OnLiterals.{matchit_on_literals}
use Rattle.hall_http.specs.Routes.{Table, added, is_free, are_free, rows_from, patterns}
use Rattle.hall_http.specs.declared.routes.Resource.{Resource}
use Rattle.std.proofs.Common.{◌<◌, ◌+◌, length, drop, get_or, map, Bor}
use Rattle.std.proofs.lemmas.List.{drop_more}
use Rattle.std.proofs.lemmas.Bool.{and_parts}

pub patterns_free : are_free [] patterns ≡ true
unfolding are_free matchit_on_literals
patterns_free = refl

pub adds : (read : Result Scan InsertError) (value : Resource) (old new : Table)
    → InsertsRead read value old new (Ok tt) → new ≡ added value read old
adds (Ok s) value old new h = h.1
adds (Err e) value old new (same, inl a) = cc
adds (Err e) value old new (same, inr b) = cc

no_conflict : (p : List ℕ) (rows : Table) (e : InsertError) → not (is_some (nearest p rows)) ≡ true → Refused p rows e
    → e ≡ error.OutOfMemory
no_conflict p rows (error.Conflict with) free (n, near, text) = let bad : not (is_some (Some n)) ≡ true = rw near at
    free in cc
no_conflict p rows error.OutOfMemory free h = refl
no_conflict p rows error.InvalidParamSegment free h = absurd h
no_conflict p rows error.InvalidParam free h = absurd h
no_conflict p rows error.InvalidCatchAll free h = absurd h

pub refused : (read : Result Scan InsertError) (value : Resource) (old new : Table) (e : InsertError)
    → is_free value read old ≡ true → InsertsRead read value old new (Err e) → e ≡ error.OutOfMemory
refused (Ok s) value old new e free h = no_conflict s.pattern old e free h.1
refused (Err x) value old new e free h = cc

abbrev pub texts : List (Bor (List ℕ) × Resource) → List (List ℕ × Resource)
texts xs = map (λ p. (p.0.now, p.1)) xs

pub rows_more : (xs : List (Bor (List ℕ) × Resource)) (i : ℕ) (d : Bor (List ℕ) × Resource) (rows : Table)
    → i < length xs
    → rows_from rows (texts (drop i xs)) ≡ rows_from (added (get_or xs i d).1 (parse_route (get_or xs i d).0.now) rows)
    (texts (drop (i + 1) xs))
unfolding rows_from
rows_more xs i d rows h = rw (drop_more xs i d h) refl

pub free_more : (xs : List (Bor (List ℕ) × Resource)) (i : ℕ) (d : Bor (List ℕ) × Resource) (rows : Table)
    → i < length xs
    → are_free rows (texts (drop i xs)) ≡ is_free (get_or xs i d).1 (parse_route (get_or xs i d).0.now) rows && are_free
    (added (get_or xs i d).1 (parse_route (get_or xs i d).0.now) rows) (texts (drop (i + 1) xs))
unfolding are_free
free_more xs i d rows h = rw (drop_more xs i d h) refl

-- what the loop over the patterns keeps
abbrev pub Kept : List (Bor (List ℕ) × Resource) → ℕ → Table → Table → Type 0
Kept xs i start rows = (rows_from rows (texts (drop i xs)) ≡ rows_from start (texts xs))
    × (are_free rows (texts (drop i xs)) ≡ true)

pub kept_more : (xs : List (Bor (List ℕ) × Resource)) (i : ℕ) (d : Bor (List ℕ) × Resource) (start rows new : Table)
    → i < length xs
    → InsertsRead (parse_route (get_or xs i d).0.now) (get_or xs i d).1 rows new (Ok tt) → Kept xs i start rows
    → Kept xs (i + 1) start new
kept_more xs i d start rows new h inserts kept =
    let now = adds _ _ _ _ inserts in
    let free = rw (free_more xs i d rows h) at kept.1 in
    rw now (sym (rows_more xs i d rows h) ∙ kept.0, (and_parts _ _ free).1)

pub kept_refuses : (xs : List (Bor (List ℕ) × Resource)) (i : ℕ) (d : Bor (List ℕ) × Resource) (start rows new : Table)
    (e : InsertError) → i < length xs
    → InsertsRead (parse_route (get_or xs i d).0.now) (get_or xs i d).1 rows new (Err e) → Kept xs i start rows
    → e ≡ error.OutOfMemory
kept_refuses xs i d start rows new e h inserts kept =
    let free = rw (free_more xs i d rows h) at kept.1 in
    refused _ _ _ _ _ (and_parts _ _ free).0 inserts
