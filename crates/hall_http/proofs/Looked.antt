-- What was asked of the sockets, once they were asked once more.
use Rattle.std.proofs.Common.{◌≡◌, ◌∙◌, sym, ap, refl, arith, ℕ, ◌+◌, ◌≤◌, inl, inr, Option, Some, List, [], ◌∷◌, ◌++◌}
use Rattle.std.proofs.Common.{append_assoc, length, true}
use Rattle.std.proofs.lemmas.List.{append-nil, length_push, map-append}
use Rattle.hall_http.specs.Looks.{HaveToldAll, IsHeardOut, Looks, TellsAll, at_once}
use Rattle.hall_http.specs.Limits.{most_asked}
use Rattle.hall_http.specs.declared.event_loop.Look.TheVariants.{Clock, Sockets}

-- they were asked so often without a wait, after these
abbrev pub WereAsked : Looks → ℕ → Looks → Type 0
WereAsked before often now = (told : List ℕ) × (length told ≡ often) × (now ≡ before ++ at_once told)

pub not_asked : (before : Looks) → WereAsked before 0 before
not_asked before = ([], refl, sym (append-nil before))

pub asked_again : (before now then : Looks) (often count : ℕ) → WereAsked before often now
    → then ≡ now ++ (Sockets (Some 0), count) ∷ [] → WereAsked before (often + 1) then
asked_again before now then often count (told, long, is) is_then = (
  told ++ count ∷ [],
  length_push told count ∙ ap (λ n. n + 1) long,
  is_then ∙ ap (λ xs. xs ++ (Sockets (Some 0), count) ∷ []) is
      ∙ append_assoc before (at_once told) ((Sockets (Some 0), count) ∷ [])
      ∙ ap (λ xs. before ++ xs) (sym (map-append (λ n. (Sockets (Some 0), n)) told (count ∷ []))),
)

pub asked_often : (before now : Looks) (often : ℕ) → WereAsked before often now → most_asked ≤ often → IsHeardOut now
asked_often before now often (told, long, is) most = inr (inl (before, told, is, omega (arith, long, most)))

-- they told all
pub all_told : (now then : Looks) (patience : Option ℕ) (told : ℕ) → then ≡ now ++ (Sockets patience, told) ∷ []
    → TellsAll patience told → HaveToldAll then
all_told now then patience told is tells = (now, patience, told, is, tells)

-- and by the clock nobody's patience had ended
pub all_told_before : (now then : Looks) (read : Option ℕ) → HaveToldAll now → then ≡ now ++ (Clock read true, 0) ∷ []
    → IsHeardOut then
all_told_before now then read told is = inr (inr (now, read, is, told))
