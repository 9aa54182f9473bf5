-- Bytes that were written so far.
use Rattle.std.proofs.Common.{◌≡◌, ℕ, ◌++◌, List, [], ◌∷◌, length, take, drop, Option, Some, None, refl}
use Rattle.std.proofs.Common.{sym, ap, ◌∙◌, subst, arith}
use Rattle.std.proofs.lemmas.List.{append_assoc, append-nil, length-append, take-append-drop}
use Rattle.std.specs.Io.KnownBytes.{Appends}
use Rattle.hall_http.specs.Device.{WritesPart}

-- a front of the bytes was written, and the rest is left
pub record HasWritten (old new : Option (List ℕ)) (bytes rest : List ℕ) : Type 0 where
  pub front : List ℕ
  pub split : bytes ≡ front ++ rest
  pub appends : Appends old new front

pub HasWritten-start : (known : Option (List ℕ)) (bytes : List ℕ) → HasWritten known known bytes bytes
HasWritten-start None bytes = record { front = []; split = refl; appends = tt }
HasWritten-start (Some xs) bytes = record { front = []; split = refl; appends = sym (append-nil xs) }

Appends-then : (a b c : Option (List ℕ)) (xs ys : List ℕ) → Appends a b xs → Appends b c ys → Appends a c (xs ++ ys)
Appends-then None b c xs ys p q = tt
Appends-then (Some a) None c xs ys p q = absurd p
Appends-then (Some a) (Some b) None xs ys p q = absurd q
Appends-then (Some a) (Some b) (Some c) xs ys p q = q ∙ ap (λ s. s ++ ys) p ∙ append_assoc a xs ys

pub HasWritten-more : (old mid new : Option (List ℕ)) (bytes rest : List ℕ) (n : ℕ) → HasWritten old mid bytes rest
    → Appends mid new (take n rest)
    → HasWritten old new bytes (drop n rest)
HasWritten-more old mid new bytes rest n w a = record {
  front = w.front ++ take n rest;
  split = w.split ∙ ap (λ s. w.front ++ s) (sym (take-append-drop n rest))
      ∙ sym (append_assoc w.front (take n rest) (drop n rest));
  appends = Appends-then old mid new w.front (take n rest) w.appends a;
}

pub HasWritten-end : (old new : Option (List ℕ)) (bytes rest : List ℕ) → length rest ≡ 0
    → HasWritten old new bytes rest → Appends old new bytes
HasWritten-end old new bytes [] e w = subst (λ s. Appends old new s) (sym (w.split ∙ append-nil w.front)) w.appends
HasWritten-end old new bytes (b ∷ rest) e w = absurd (omega arith)

-- a first part of a front is one of the whole
pub part_before : (old new : Option (List ℕ)) (front rest : List ℕ) → WritesPart old new front
    → WritesPart old new (front ++ rest)
part_before old new front rest (first, left, split, some, appends) = (
  first,
  left ++ rest,
  ap (λ s. s ++ rest) split ∙ append_assoc first left rest,
  let longer = length-append left rest in omega (arith, some, longer),
  appends,
)

-- behind a front that was written, a first part of the rest is one of the whole
pub part_behind : (old mid new : Option (List ℕ)) (front rest : List ℕ) → Appends old mid front
    → WritesPart mid new rest → WritesPart old new (front ++ rest)
part_behind old mid new front rest before (first, left, split, some, appends) = (
  front ++ first,
  left,
  ap (λ s. front ++ s) split ∙ sym (append_assoc front first left),
  some,
  Appends-then old mid new front first before appends,
)
