-- The list of a round, from its places in their order.
use Rattle.std.proofs.Common.{◌≡◌, ◌↔◌, ◌+◌, ◌<◌, ◌++◌, ◌∷◌, [], ℕ, zero, suc, Bool, true, false, cond, List, map}
use Rattle.std.proofs.Common.{take, drop, length, get_or, slice_get, Some, None, IsTrue}
use Rattle.std.proofs.Common.{refl, sym, ap, ◌∙◌, subst, arith}
use Rattle.std.specs.List.{filter}
use Rattle.std.proofs.lemmas.List.Elements.{filter-append, filter_more}
use Rattle.hall_policy.specs.Lists.{AreEntries}
use Rattle.hall_policy.specs.World.{World, same_text}
use Rattle.hall_policy.specs.declared.record.Entry.{Entry}
use Rattle.hall_policy.specs.declared.record.PlaceKey.{PlaceKey}
use Rattle.hall_store.specs.Maps.{places_from}
use Rattle.hall_policy.proofs.Texts.{text_decides}
use Rattle.hall_store.proofs.Tests.{not_true}
use Rattle.hall_check.specs.Sentences.{HasList, IsListTold, places_of_round}
use Rattle.hall_check.specs.Whole.{IsInOrder, world_of_whole}
use Rattle.hall_check.specs.declared.whole.Whole.{Whole}

-- one entry more
places_from_more : (id : List ℕ) (n : ℕ) (xs : List Entry) (x : Entry) → places_from id n (xs ++ x ∷ []) ≡ places_from
    id n xs ++ (record { round = id; number = n + length xs }, x) ∷ []
places_from_more id n [] x = let e : n ≡ n + 0 = omega arith in ap
    (λ (k : ℕ). (record { round = id; number = k }, x) ∷ []) e
places_from_more id n (y ∷ ys) x =
    let e : (n + 1) + length ys ≡ n + suc (length ys) = omega arith in
    ap (λ rest. (record { round = id; number = n }, y) ∷ rest)
    (places_from_more id (n + 1) ys x ∙ ap (λ (k : ℕ). places_from id (n + 1) ys
    ++ (record { round = id; number = k }, x) ∷ []) e)

number_at : (id : List ℕ) (n : ℕ) (xs : List Entry) (k : ℕ) (p : PlaceKey × Entry)
    → slice_get (places_from id n xs) k ≡ Some p → p.0.number ≡ n + k
number_at id n [] k p e = absurd (cc)
number_at id n (x ∷ xs) zero p e =
    let one : Some (record { round = id; number = n }, x) ≡ Some p = e in
    let key : ◌≡◌ {A = PlaceKey × Entry} (record { round = id; number = n }, x) p = cc in
    let same : n ≡ p.0.number = ap (λ (q : PlaceKey × Entry). q.0.number) key in omega (arith, same)
number_at id n (x ∷ xs) (suc k) p e = let later = number_at id (n + 1) xs k p e in omega (arith, later)

entries_back : (id : List ℕ) (n : ℕ) (xs : List Entry) → map (λ (p : PlaceKey × Entry). p.1) (places_from id n xs) ≡ xs
entries_back id n [] = refl
entries_back id n (x ∷ xs) = ap (λ rest. x ∷ rest) (entries_back id (n + 1) xs)

length_from : (id : List ℕ) (n : ℕ) (xs : List Entry) → length (places_from id n xs) ≡ length xs
length_from id n [] = refl
length_from id n (x ∷ xs) = ap suc (length_from id (n + 1) xs)

at_seam : {X : Type 0} (xs : List X) (y : X) (zs : List X) → slice_get (xs ++ y ∷ zs) (length xs) ≡ Some y
at_seam [] y zs = refl
at_seam (x ∷ xs) y zs = at_seam xs y zs

split_at : {X : Type 0} (xs : List X) (i : ℕ) (x : X) → i < length xs → get_or xs i x ≡ x → xs ≡ take i xs ++ x
    ∷ drop (i + 1) xs
split_at [] i x low is = absurd (omega arith)
split_at (y ∷ ys) zero x low is = ap (λ z. z ∷ ys) is
split_at {X} (y ∷ ys) (suc i) x low is =
    let e : suc i + 1 ≡ suc (i + 1) = omega arith in
    ap (λ rest. y ∷ rest) (split_at ys i x (omega arith) is) ∙ ap (λ (n : ℕ). y ∷ (take i ys ++ x ∷ drop n (y ∷ ys)))
    (sym e)

abbrev pub of : List ℕ → PlaceKey × Entry → Bool
of id place = same_text place.0.round id

-- whether the place is the round's
pub of_same : (id : List ℕ) (place : PlaceKey × Entry) (told : Bool) → IsTrue told ↔ (place.0.round ≡ id) → told ≡ true
    → of id place ≡ true
of_same id place told is on = (text_decides place.0.round id).1 (is.0 on)

pub of_other : (id : List ℕ) (place : PlaceKey × Entry) (told : Bool) → IsTrue told ↔ (place.0.round ≡ id)
    → told ≡ false → of id place ≡ false
of_other id place told is off = not_true (of id place) (λ same. let on : told ≡ true = is.1
    ((text_decides place.0.round id).0 same) in let no : true ≡ false = sym on ∙ off in cc)

-- the list so far, with a place of another round, and with one of this round
pub passed_on : (id : List ℕ) (places : List (PlaceKey × Entry)) (i : ℕ) (place : PlaceKey × Entry) → i < length places
    → get_or places i place ≡ place → of id place ≡ false → filter (of id) (take (i + 1) places) ≡ filter (of id)
    (take i places)
passed_on id places i place low is other =
    filter_more (of id) places i place low
    ∙ ap (λ (p : PlaceKey × Entry). filter (of id) (take i places) ++ cond (of id p) (p ∷ []) []) is
    ∙ ap (λ b. filter (of id) (take i places) ++ cond b (place ∷ []) []) other
    ∙ nothing_more (filter (of id) (take i places))
  where
    nothing_more : {X : Type 0} (xs : List X) → xs ++ [] ≡ xs
    nothing_more [] = refl
    nothing_more (x ∷ xs) = ap (λ rest. x ∷ rest) (nothing_more xs)

pub kept_on : (id : List ℕ) (places : List (PlaceKey × Entry)) (list : List Entry) (i : ℕ) (place : PlaceKey × Entry)
    → filter (of id) (take i places) ≡ places_from id 1 list → i < length places → get_or places i place ≡ place →
    of id place ≡ true → place.0.number ≡ 1 + length list → filter (of id) (take (i + 1) places) ≡ places_from id 1
    (list ++ place.1 ∷ [])
kept_on id places list i place so_far low is own next =
    let round : place.0.round ≡ id = (text_decides place.0.round id).0 own in
    let key : ◌≡◌ {A = PlaceKey} place.0 (record { round = id; number = 1 + length list }) = λ j.
    record { round = round j; number = next j } in
    filter_more (of id) places i place low
    ∙ ap (λ (p : PlaceKey × Entry). filter (of id) (take i places) ++ cond (of id p) (p ∷ []) []) is
    ∙ ap (λ b. filter (of id) (take i places) ++ cond b (place ∷ []) []) own
    ∙ ap (λ front. front ++ place ∷ []) so_far
    ∙ ap (λ (k : PlaceKey). places_from id 1 list ++ (k, place.1) ∷ []) key
    ∙ sym (places_from_more id 1 list place.1)

-- a place of another number than the next ends it
pub broken_off : (id : List ℕ) (places : List (PlaceKey × Entry)) (list : List Entry) (i : ℕ) (place : PlaceKey × Entry)
    → filter (of id) (take i places) ≡ places_from id 1 list → i < length places → get_or places i place ≡ place →
    of id place ≡ true → ¬ (place.0.number ≡ 1 + length list) → (other : List Entry)
    → ¬ (filter (of id) places ≡ places_from id 1 other)
broken_off id places list i place so_far low is own differs other all =
    let whole : filter (of id) places ≡ places_from id 1 list ++ place ∷ filter (of id) (drop (i + 1) places) =
    ap (filter (of id)) (split_at places i place low is) ∙ filter-append (of id) (take i places)
    (place ∷ drop (i + 1) places)
    ∙ ap (λ b. filter (of id) (take i places) ++ cond b (place ∷ filter (of id) (drop (i + 1) places))
    (filter (of id) (drop (i + 1) places))) own
    ∙ ap (λ front. front ++ place ∷ filter (of id) (drop (i + 1) places)) so_far in
    let at : slice_get (places_from id 1 other) (length list) ≡ Some place =
    ap (λ (n : ℕ). slice_get (places_from id 1 other) n) (sym (length_from id 1 list))
    ∙ ap (λ ps. slice_get ps (length (places_from id 1 list))) (sym all ∙ whole)
    ∙ at_seam (places_from id 1 list) place (filter (of id) (drop (i + 1) places)) in
    differs (number_at id 1 other (length list) place at)

pub list_told : (world : World) (id : List ℕ) (list : List Entry) (told : Bool)
    → places_of_round world id ≡ places_from id 1 list → IsTrue told ↔ AreEntries list → IsTrue told ↔ HasList world id
list_told world id list told are is = (
  (λ t. (list, are, is.0 t)),
  (λ (other, same, valid).
      let one : other ≡ list = sym (entries_back id 1 other) ∙ ap (map (λ (p : PlaceKey × Entry). p.1)) (sym same ∙ are)
      ∙ entries_back id 1 list in
      is.1 (subst AreEntries one valid)),
)

-- where the places aren't numbered so, there is no list
pub none_told : (whole : Whole) → IsInOrder whole → (id : List ℕ) → IsListTold whole.places.items id None → IsTrue false
    ↔ HasList (world_of_whole whole) id
none_told whole ordered id none = (
  (λ t. let no : false ≡ true = t in absurd (cc)),
  (λ (list, same, valid). absurd (none list (sym (ap (filter (of id)) ordered.places) ∙ same))),
)
