-- The patterns of the hall, the resource of a path, and what the path and the method name there.
use Rattle.std.specs.Prelude.{ℕ, List, [], ◌∷◌, Bool, true, false, ◌&&◌, not}
use Rattle.std.specs.Prelude.{Option, is_some, Result, Ok, Err, codes, option_map}
use Rattle.matchit.specs.Rows.{RowsOf}
use Rattle.matchit.specs.Order.{placed}
use Rattle.matchit.specs.Router.{RouteOf, route_from, nearest}
use Rattle.matchit.specs.Route.{Scan, parse_route}
use Rattle.matchit.specs.Seek.{first}
use Rattle.matchit.specs.Params.{walk}
use Rattle.matchit.specs.declared.error.InsertError.{InsertError}
use Rattle.std.specs.Prelude.{nat_le}
use Rattle.std.specs.List.{list_all}
use Rattle.std.specs.Char.{is_ascii}
use Rattle.std.specs.Str.{bytes_eq}
use Rattle.hall_policy.specs.Limits.{most_number}
use Rattle.hall_policy.specs.Text.{as_word, as_token}
use Rattle.hall_policy.specs.Reading.{◌>>=◌, or_fault, unless, of_kind}
use Rattle.hall_policy.specs.declared.record.PuzzleKey.{PuzzleKey}
use Rattle.hall_http.specs.Words.{decimal_in}
use Rattle.hall_http.specs.declared.form.FormFault.{FormFault}
use Rattle.hall_http.specs.declared.form.FormFault.TheVariants as fault
use Rattle.hall_http.specs.declared.routes.Resource.{Resource}
use Rattle.hall_http.specs.declared.routes.Resource.TheVariants as resource

-- a table of patterns, each with the resource that it leads to
abbrev pub Table : Type 0
Table = RowsOf (RouteOf Resource)

-- the rows with one more pattern, where that is one
abbrev pub added : Resource → Result Scan InsertError → Table → Table
added value (Ok s) rows = placed (s.pattern, route_from s value) rows
added value (Err e) rows = rows

-- the rows of these patterns, put in from the first on
unfoldable pub rows_from : Table → List (List ℕ × Resource) → Table
rows_from rows [] = rows
rows_from rows ((text, value) ∷ more) = rows_from (added value (parse_route text) rows) more

-- each pattern is one, and none of the rows before it is in conflict with it
abbrev pub is_free : Resource → Result Scan InsertError → Table → Bool
is_free value (Ok s) rows = not (is_some (nearest s.pattern rows))
is_free value (Err e) rows = false

-- each of these is a pattern, and none is in conflict with a row before it
unfoldable pub are_free : Table → List (List ℕ × Resource) → Bool
are_free rows [] = true
are_free rows ((text, value) ∷ more) =
    is_free value (parse_route text) rows && are_free (added value (parse_route text) rows) more

-- the patterns of the hall, each with its resource
abbrev pub patterns : List (List ℕ × Resource)
patterns =
    (codes "/people", resource.People)
    ∷ (codes "/puzzles", resource.Puzzles)
    ∷ (codes "/puzzles/{author}/{label}", resource.Puzzle)
    ∷ (codes "/puzzles/{author}/{label}/certificate", resource.Certificate)
    ∷ (codes "/rounds", resource.Rounds)
    ∷ (codes "/rounds/{round}", resource.Round)
    ∷ (codes "/rounds/{round}/release", resource.Release)
    ∷ (codes "/rounds/{round}/answers", resource.Answers)
    ∷ (codes "/rounds/{round}/answers/{number}/{token}", resource.Answer)
    ∷ (codes "/rounds/{round}/solutions", resource.Solutions)
    ∷ (codes "/rounds/{round}/protests", resource.Protests)
    ∷ (codes "/rounds/{round}/protests/{token}", resource.Protest)
    ∷ (codes "/rounds/{round}/rulings/{entrant}/{token}", resource.Ruling)
    ∷ (codes "/rounds/{round}/publish", resource.Publish)
    ∷ (codes "/rounds/{round}/table", resource.Table) ∷ []

-- the rows of the hall's patterns
abbrev pub routes : Table
routes = rows_from [] patterns

-- a path parameter that is a name, a label or a round's id
abbrev pub word_in : List ℕ → Result (List ℕ) FormFault
word_in text = as_word (of_kind fault.NoRoute) text

-- a path parameter that is a token
abbrev pub token_in_path : List ℕ → Result (List ℕ) FormFault
token_in_path text = as_token (of_kind fault.NoRoute) text

-- a puzzle's number: 1 to 99 in decimal
abbrev pub puzzle_number : List ℕ → Result ℕ FormFault
puzzle_number text =
    or_fault fault.NoRoute (decimal_in text) >>=
    (λ n. unless fault.NoRoute (nat_le 1 n && nat_le n most_number) >>= (λ _. Ok n))

-- nothing, where the method is this one
abbrev pub by_method : List ℕ → List ℕ → Result (Unit {0}) FormFault
by_method method name = unless fault.NoRoute (bytes_eq method name)

-- what the parameters of a route took of the path, each with its name
abbrev pub parameters : List ℕ → RouteOf Resource → List (List ℕ × List ℕ)
parameters path route = walk route.pattern route.text path route.names 0 0

-- the first three parameters' texts; the empty text for one that isn't there
pub record Parts : Type 0 where
  pub first : List ℕ
  pub second : List ℕ
  pub third : List ℕ

-- the text of the parameter that stands first
abbrev pub part : List (List ℕ × List ℕ) → List ℕ
part [] = []
part (p ∷ rest) = p.1

-- the parameters after the first
abbrev pub parts_after : List (List ℕ × List ℕ) → List (List ℕ × List ℕ)
parts_after [] = []
parts_after (p ∷ rest) = rest

-- the texts of the first three parameters
abbrev pub parts_of : List (List ℕ × List ℕ) → Parts
parts_of ps = record { first = part ps; second = part (parts_after ps); third = part (parts_after (parts_after ps)) }

-- the resource of a path, with its parts
abbrev pub found : List ℕ → Option (Resource × Parts)
found path = option_map (λ route. (route.value, parts_of (parameters path route))) (first routes path)

-- the key of a puzzle: its author and label
abbrev pub puzzle_key_in : Parts → Result PuzzleKey FormFault
puzzle_key_in p =
    word_in p.first >>= (λ author. word_in p.second >>= (λ label. Ok (record { author = author; label = label })))

-- the same, where the method is this one
abbrev pub puzzle_by : List ℕ → List ℕ → Parts → Result PuzzleKey FormFault
puzzle_by method name p = by_method method name >>= (λ _. puzzle_key_in p)

-- the round's id, where the method is this one
abbrev pub round_by : List ℕ → List ℕ → Parts → Result (List ℕ) FormFault
round_by method name p = by_method method name >>= (λ _. word_in p.first)

-- the path, where it is ASCII
abbrev pub ascii_path : List ℕ → Result (List ℕ) FormFault
ascii_path path = unless fault.NoRoute (list_all is_ascii path) >>= (λ _. Ok path)

-- the resource of a path, with its parts; a path that isn't ASCII has none
abbrev pub resource_in : List ℕ → Result (Resource × Parts) FormFault
resource_in path = ascii_path path >>= (λ text. or_fault fault.NoRoute (found text))
