-- Nobody is called twice while another stands in line.
use Rattle.std.proofs.Common.{◌≡◌, ◌∙◌, sym, ap, subst, arith, ℕ, ◌==◌, List, [], ◌∷◌, ◌++◌, length, take, drop}
use Rattle.std.proofs.Common.{append_assoc, true, false, refl, get_or}
use Rattle.std.specs.Prelude.{Bool, ◌||◌}
use Rattle.std.specs.List.{AllByRecursion}
use Rattle.std.proofs.Math.Seq.{take-append_seam}
use Rattle.std.proofs.lemmas.Grind.{flat_map-append}
use Rattle.std.proofs.lemmas.List.{append-nil, append_cancel_left}
use Rattle.std.proofs.lemmas.Map.Keys.{IsDistinct-head}
use Rattle.hall_http.specs.Line.{IsLineSoFar, Motions, NobodyTwiceBefore, WereLines}
use Rattle.hall_http.specs.Line.{came_by, came_in, gone_by, gone_in, has}
use Rattle.hall_http.specs.declared.queue.Motion.TheVariants.{Called}
use Rattle.hall_http.proofs.Lines.{came_then, gone_then, numbers}

-- the one that stands first in a line stands in it once
once_in : (line : List ℕ) (place : ℕ) → AllByRecursion (λ one. (place == one) ≡ false) line → has line place ≡ false
once_in [] place each = refl
once_in (one ∷ line) place each = rw (numbers.symm one place, each.0) (once_in line place each.1)

either : (a b c : Bool) → (a || b) ≡ true → (b ≡ true → c ≡ true) → (a || c) ≡ true
either true b c is later = refl
either false b c is later = later is

second_false : (a b : Bool) → (a || b) ≡ false → b ≡ false
second_false true b is = absurd cc
second_false false b is = is

second_true : (a b : Bool) → a ≡ false → (a || b) ≡ true → b ≡ true
second_true true b is either = absurd cc
second_true false b is either = either

first_same : (one other : ℕ) (b : Bool) → one ≡ other → ((one == other) || b) ≡ false → ⊥
first_same one other b is none = grind (arith, is, none)

-- a line in which this one isn't, and more, are those that went before it, and then it: so whoever is in the line went
among : (line more between after : List ℕ) (mine other : ℕ) → has line other ≡ false → has line mine ≡ true
    → line ++ more ≡ between ++ other ∷ after → has between mine ≡ true
among [] more between after mine other none there is = absurd cc
among (one ∷ line) more [] after mine other none there is =
    absurd (first_same one other (has line other) (ap (λ xs. get_or xs 0 0) is) none)
among (one ∷ line) more (first ∷ between) after mine other none there is =
    subst (λ x. ((x == mine) || has between mine) ≡ true) (ap (λ xs. get_or xs 0 0) is)
    (either (one == mine) (has line mine) (has between mine) there
    (λ later. among line more between after mine other (second_false (one == other) (has line other) none) later
    (ap (λ xs. drop 1 xs) is)))

-- the line after a first part of what was done
line_at : (motions front rest : Motions) → WereLines motions → motions ≡ front ++ rest
    → (line : List ℕ) × IsLineSoFar front line
line_at motions front rest were is =
    let then = were (length front) in (
      then.0,
      subst (λ (xs : Motions). IsLineSoFar xs then.0)
          (ap (λ xs. take (length front) xs) is ∙ take-append_seam front rest) then.1,
    )

-- who came and who went, of two parts
came_both : (front rest : Motions) → came_in (front ++ rest) ≡ came_in front ++ came_in rest
came_both front rest = flat_map-append (λ one. came_by one.0 one.1) front rest

gone_both : (front rest : Motions) → gone_in (front ++ rest) ≡ gone_in front ++ gone_in rest
gone_both front rest = flat_map-append (λ one. gone_by one.0 one.1) front rest

-- once the first of a line was called, the others stand there
behind_of : (front : Motions) (line behind : List ℕ) (other : ℕ) → IsLineSoFar front line
    → IsLineSoFar (front ++ (other, Called) ∷ []) behind → line ≡ other ∷ behind
behind_of front line behind other was is =
    append_cancel_left (gone_in front) line (other ∷ behind)
    (sym was.0 ∙ sym (came_then front other Called ∙ append-nil (came_in front)) ∙ is.0
    ∙ ap (λ xs. xs ++ behind) (gone_then front other Called) ∙ append_assoc (gone_in front) (other ∷ []) behind)

-- and where it is called again, these and whoever came are those that went between, and it, and those behind it
between_of : (first between : Motions) (behind after : List ℕ) (other : ℕ) → IsLineSoFar first behind
    → IsLineSoFar ((first ++ between) ++ (other, Called) ∷ []) after
    → behind ++ came_in between ≡ gone_in between ++ other ∷ after
between_of first between behind after other was is =
    append_cancel_left (gone_in first) (behind ++ came_in between) (gone_in between ++ other ∷ after)
    (sym (append_assoc (gone_in first) behind (came_in between)) ∙ ap (λ xs. xs ++ came_in between) (sym was.0)
    ∙ sym (came_then (first ++ between) other Called ∙ append-nil (came_in (first ++ between)) ∙ came_both first between)
    ∙ is.0 ∙ ap (λ xs. xs ++ after) (gone_then (first ++ between) other Called
    ∙ ap (λ xs. xs ++ other ∷ []) (gone_both first between))
    ∙ append_assoc (gone_in first ++ gone_in between) (other ∷ []) after
    ∙ append_assoc (gone_in first) (gone_in between) (other ∷ after))

pub nobody_twice : NobodyTwiceBefore
nobody_twice motions front between rest line mine other were is stood there apart =
    let first : Motions = front ++ (other, Called) ∷ [] in
    let more : Motions = between ++ (other, Called) ∷ rest in
    let is_first : motions ≡ first ++ more =
    is ∙ append_assoc front ((other, Called) ∷ between) ((other, Called) ∷ rest)
    ∙ sym (append_assoc front ((other, Called) ∷ []) more) in
    let one = line_at motions first more were is_first in
    let is_second : motions ≡ ((first ++ between) ++ (other, Called) ∷ []) ++ rest =
    is_first ∙ sym (append_assoc first between ((other, Called) ∷ rest))
    ∙ sym (append_assoc (first ++ between) ((other, Called) ∷ []) rest) in
    let two = line_at motions ((first ++ between) ++ (other, Called) ∷ []) rest were is_second in
    let stands = behind_of front line one.0 other stood one.1 in
    let alone = once_in one.0 other (IsDistinct-head (λ a b. a == b) other one.0
    (subst (λ xs. IsLineSoFar front xs) stands stood).1) in
    let in_it : has one.0 mine ≡ true = second_true (other == mine) (has one.0 mine)
    (numbers.symm other mine ∙ apart) (sym (ap (λ xs. has xs mine) stands) ∙ there) in
    among one.0 (came_in between) (gone_in between) two.0 mine other alone in_it
    (between_of first between one.0 two.0 other one.1 two.1)
