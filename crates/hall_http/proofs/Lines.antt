-- Lines after one more has come or gone.
use Rattle.std.proofs.Common.{◌≡◌, ◌≢◌, ◌∙◌, sym, ap, subst, refl, arith, ℕ, ◌<◌, ◌==◌, inl, inr, List}
use Rattle.std.proofs.Common.{[], ◌∷◌}
use Rattle.std.proofs.Common.{◌++◌, length, drop, append_assoc, true, false}
use Rattle.std.specs.Prelude.{Bool, ◌||◌}
use Rattle.std.specs.Cmp.{IsEquivalence}
use Rattle.std.specs.List.{IsDistinct, list_any}
use Rattle.std.proofs.lemmas.Bool.Decides.{leb_tells}
use Rattle.std.proofs.lemmas.Grind.{flat_map-append}
use Rattle.std.proofs.lemmas.List.{append-nil, length_push, take-append-le, take_all}
use Rattle.std.proofs.lemmas.List.Folds.{list_any-append}
use Rattle.std.proofs.lemmas.Map.Keys.{IsDistinct-push, IsDistinct-tail}
use Rattle.std.proofs.lemmas.Map.Steps.{length-le_from_distinct_below}
use Rattle.hall_http.specs.Line.{IsLineSoFar, Motions, WereLines, called_by}
use Rattle.hall_http.specs.Line.{called_in, came_by, came_in, gone_by, gone_in}
use Rattle.hall_http.specs.Line.{has}
use Rattle.hall_http.specs.declared.queue.Motion.{Motion}
use Rattle.hall_http.specs.declared.queue.Motion.TheVariants.{Comes, Called, Skipped}

-- whether two numbers are the same
pub numbers : IsEquivalence (λ (one : ℕ) (other : ℕ). one == other)
numbers = record {
  refl = λ x. grind arith;
  symm = λ x y. grind arith;
  congr = λ x y z is. grind (arith, is);
}

or_right : (one other : Bool) → other ≡ true → (one || other) ≡ true
or_right true other is = refl
or_right false other is = is

-- it is in the line, by either order of the test
pub flipped : (line : List ℕ) (place : ℕ) → list_any (λ one. place == one) line ≡ has line place
flipped [] place = refl
flipped (one ∷ rest) place = rw (flipped rest place, numbers.symm place one) refl

-- who comes last is in the line, with all who were
pub has_then : (line : List ℕ) (place other : ℕ)
    → has (line ++ place ∷ []) other ≡ (has line other || (place == other || false))
has_then line place other = list_any-append (λ one. one == other) line (place ∷ [])

-- those that came, went and were called, after one more motion
pub came_then : (motions : Motions) (place : ℕ) (motion : Motion)
    → came_in (motions ++ (place, motion) ∷ []) ≡ came_in motions ++ came_by place motion
came_then motions place motion =
    flat_map-append (λ one. came_by one.0 one.1) motions ((place, motion) ∷ [])
    ∙ ap (λ xs. came_in motions ++ xs) (append-nil (came_by place motion))

pub gone_then : (motions : Motions) (place : ℕ) (motion : Motion)
    → gone_in (motions ++ (place, motion) ∷ []) ≡ gone_in motions ++ gone_by place motion
gone_then motions place motion =
    flat_map-append (λ one. gone_by one.0 one.1) motions ((place, motion) ∷ [])
    ∙ ap (λ xs. gone_in motions ++ xs) (append-nil (gone_by place motion))

pub called_then : (motions : Motions) (place : ℕ) (motion : Motion)
    → called_in (motions ++ (place, motion) ∷ []) ≡ called_in motions ++ called_by place motion
called_then motions place motion =
    flat_map-append (λ one. called_by one.0 one.1) motions ((place, motion) ∷ [])
    ∙ ap (λ xs. called_in motions ++ xs) (append-nil (called_by place motion))

-- the line after one that wasn't in it has come
pub line_comes : (motions : Motions) (line : List ℕ) (place : ℕ) → IsLineSoFar motions line → has line place ≡ false
    → IsLineSoFar (motions ++ (place, Comes) ∷ []) (line ++ place ∷ [])
line_comes motions line place is none = (
  came_then motions place Comes ∙ ap (λ xs. xs ++ place ∷ []) is.0 ∙ append_assoc (gone_in motions) line (place ∷ [])
      ∙ ap (λ xs. xs ++ (line ++ place ∷ [])) (sym (gone_then motions place Comes ∙ append-nil (gone_in motions))),
  IsDistinct-push numbers line place is.1 (flipped line place ∙ none),
)

-- by this the first of a line goes
abbrev pub Goes : ℕ → Motion → Type 0
Goes place motion = (came_by place motion ≡ []) × (gone_by place motion ≡ place ∷ [])

pub goes : (place : ℕ) (motion : Motion) → motion ≢ Comes → Goes place motion
goes place Comes not = absurd (not refl)
goes place Called not = (refl, refl)
goes place Skipped not = (refl, refl)

-- the line after the first has gone
pub line_goes : (motions : Motions) (line : List ℕ) (place : ℕ) (motion : Motion) → IsLineSoFar motions (place ∷ line)
    → Goes place motion → IsLineSoFar (motions ++ (place, motion) ∷ []) line
line_goes motions line place motion is by =
    let came = came_then motions place motion ∙ ap (λ xs. came_in motions ++ xs) by.0 ∙ append-nil (came_in motions) in
    let gone = gone_then motions place motion ∙ ap (λ xs. gone_in motions ++ xs) by.1 in (
      came ∙ is.0 ∙ sym (append_assoc (gone_in motions) (place ∷ []) line) ∙ ap (λ xs. xs ++ line) (sym gone),
      IsDistinct-tail (λ one other. one == other) place line is.1,
    )

-- there were lines after each first part, also after one more motion
pub lines_then : (motions : Motions) (one : ℕ × Motion) (line : List ℕ) → WereLines motions
    → IsLineSoFar (motions ++ one ∷ []) line → WereLines (motions ++ one ∷ [])
lines_then motions one line before now count = elim (leb_tells count (length motions)) [
  | inl short ↦ subst (λ (xs : Motions). (then : List ℕ) × IsLineSoFar xs then)
      (sym (take-append-le count motions (one ∷ []) short.1)) (before count)
  | inr long ↦ (
    line,
    subst (λ (xs : Motions). IsLineSoFar xs line)
        (sym (take_all count (motions ++ one ∷ []) (omega (arith, long.1, length_push motions one)))) now,
  )
]

-- all in a line are below, also after one more
pub within_then : (line : List ℕ) (place most : ℕ) → ((other : ℕ) → has line other ≡ true → other < most) → place < most
    → (other : ℕ) → has (line ++ place ∷ []) other ≡ true → other < most
within_then line place most within few other is = grind (arith, has_then line place other, is, within other, few)

-- a line of so few places has room for one that isn't in it
pub room_in : (line : List ℕ) (place most : ℕ) → IsDistinct (λ one other. one == other) line
    → ((other : ℕ) → has line other ≡ true → other < most) → place < most → has line place ≡ false → length line < most
room_in line place most once within few none =
    let more = IsDistinct-push numbers line place once (flipped line place ∙ none) in
    let each : (other : ℕ) → list_any (λ one. other == one) (line ++ place ∷ []) ≡ true → other < most =
    λ other is. within_then line place most within few other (sym (flipped (line ++ place ∷ []) other) ∙ is) in
    omega (arith, length_push line place, length-le_from_distinct_below (line ++ place ∷ []) most more each)

-- nobody stands in line before anybody has come
pub nobody : IsDistinct (λ (one : ℕ) (other : ℕ). one == other) []
unfolding IsDistinct
nobody = tt

pub lines_none : WereLines []
lines_none count =
    ([], subst (λ (xs : Motions). IsLineSoFar xs []) (sym (take_all count [] (omega arith))) (refl, nobody))

-- all in a line are below, also after the first has gone
pub within_after : (line rest : List ℕ) (place most : ℕ) → line ≡ place ∷ rest
    → ((other : ℕ) → has line other ≡ true → other < most) → (other : ℕ) → has rest other ≡ true → other < most
within_after line rest place most is within other in_rest =
    within other (ap (λ xs. has xs other) is ∙ or_right (place == other) (has rest other) in_rest)

-- what is left of a line without its first
pub rest_of : (line rest : List ℕ) (place : ℕ) → line ≡ place ∷ rest → drop 1 line ≡ rest
rest_of line rest place is = ap (λ xs. drop 1 xs) is
