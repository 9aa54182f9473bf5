-- A sentence that is asked of one row more.
use Rattle.std.proofs.Common.{◌≡◌, ◌⊎◌, ◌<◌, ◌≤◌, ◌++◌, ℕ, zero, suc, List, [], ◌∷◌, length, map, take, slice_get}
use Rattle.std.proofs.Common.{Contains, Some, inl, inr, refl, sym, ap, ◌∙◌, subst, arith, length-append, length-take}
use Rattle.std.proofs.Common.{take_all}
use Rattle.std.proofs.lemmas.List.{map-append, take-append-le}
use Rattle.hall_store.proofs.Tests.{contained, placed}
use Rattle.hall_check.specs.Finds.{AreParted, EveryRow, Finds, IsBreachTold, IsNotedIn}
use Rattle.hall_check.specs.declared.sentence.Spot.{Spot}
use Rattle.hall_check.specs.declared.sentence.Breaches.{Breaches}

module _ {X : Type 0} where
  -- what is in a list with one item more
  pub first_or_later : (xs : List X) (x y : X) → Contains (xs ++ x ∷ []) y → (Contains xs y) ⊎ (y ≡ x)
  first_or_later xs x y among = split (placed (xs ++ x ∷ []) y among)
    where
      at : (zs : List X) (j : ℕ) → slice_get (zs ++ x ∷ []) j ≡ Some y → ((k : ℕ) × (slice_get zs k ≡ Some y)) ⊎ (y ≡ x)
      at [] zero e = inr (let f : Some x ≡ Some y = e in cc)
      at [] (suc j) e = absurd (cc)
      at (z ∷ zs) zero e = inl (0, e)
      at (z ∷ zs) (suc j) e = elim (at zs j e) [
        | inl there ↦ inl (suc there.0, there.1)
        | inr is ↦ inr is
      ]

      split : ((j : ℕ) × (slice_get (xs ++ x ∷ []) j ≡ Some y)) → (Contains xs y) ⊎ (y ≡ x)
      split (j, e) = elim (at xs j e) [
        | inl there ↦ inl (contained xs y there.0 there.1)
        | inr is ↦ inr is
      ]

  -- what is so of each row, with one more
  pub every_more : (P : X → Type 0) (xs : List X) (x : X) → EveryRow P xs → P x → EveryRow P (xs ++ x ∷ [])
  every_more P xs x each own y among = elim (first_or_later xs x y among) [
    | inl before ↦ each y before
    | inr is ↦ subst P (sym is) own
  ]

  pub every_none : (P : X → Type 0) → EveryRow P []
  every_none P x among = absurd (omega (arith, among.1))

  -- ---- rows in two lists
  pub first_more : (xs first second : List X) (x : X) → AreParted xs first second
      → AreParted (xs ++ x ∷ []) (first ++ x ∷ []) second
  first_more [] first second x (none, empty) = inl ([], ap (λ l. l ++ x ∷ []) none, (refl, empty))
  first_more (y ∷ ys) first second x (inl (rest, e, more)) = inl
      (rest ++ x ∷ [], ap (λ l. l ++ x ∷ []) e, first_more ys rest second x more)
  first_more (y ∷ ys) first second x (inr (rest, e, more)) = inr (rest, e, first_more ys first rest x more)

  pub second_more : (xs first second : List X) (x : X) → AreParted xs first second
      → AreParted (xs ++ x ∷ []) first (second ++ x ∷ [])
  second_more [] first second x (empty, none) = inr ([], ap (λ l. l ++ x ∷ []) none, (empty, refl))
  second_more (y ∷ ys) first second x (inl (rest, e, more)) = inl (rest, e, second_more ys rest second x more)
  second_more (y ∷ ys) first second x (inr (rest, e, more)) = inr
      (rest ++ x ∷ [], ap (λ l. l ++ x ∷ []) e, second_more ys first rest x more)

  -- where none stands in the second, all stand in the first
  pub all_first : (xs first second : List X) → AreParted xs first second → second ≡ [] → xs ≡ first
  all_first [] first second (none, empty) lone = sym none
  all_first (y ∷ ys) first second (inl (rest, e, more)) lone = ap (λ l. y ∷ l) (all_first ys rest second more lone)
      ∙ sym e
  all_first (y ∷ ys) first second (inr (rest, e, more)) lone = absurd (let no : y ∷ rest ≡ [] = sym e ∙ lone in cc)

  pub none_mapped : {Y : Type 0} (f : X → Y) (xs : List X) → map f xs ≡ [] → xs ≡ []
  none_mapped f [] e = refl
  none_mapped f (x ∷ xs) e = absurd (cc)

  none_taken : (xs : List X) (most : ℕ) → take (suc most) xs ≡ [] → xs ≡ []
  none_taken [] most e = refl
  none_taken (x ∷ xs) most e = absurd (cc)

  -- one item more, where few are taken, and where the most are
  taken_more : (xs taken : List X) (x : X) (most : ℕ) → taken ≡ take most xs → length taken < most
      → taken ++ x ∷ [] ≡ take most (xs ++ x ∷ [])
  taken_more xs taken x most e few =
      let size = ap length e in
      let all : length xs < most = omega (arith, few, size, length-take most xs) in
      let longer : length (xs ++ x ∷ []) ≤ most = omega (arith, all, length-append xs (x ∷ [])) in
      ap (λ l. l ++ x ∷ []) (e ∙ take_all most xs (omega (arith, all))) ∙ sym (take_all most (xs ++ x ∷ []) longer)

  taken_same : (xs taken : List X) (x : X) (most : ℕ) → taken ≡ take most xs → most ≤ length taken
      → taken ≡ take most (xs ++ x ∷ [])
  taken_same xs taken x most e many =
      let size = ap length e in
      e ∙ sym (take-append-le most xs (x ∷ []) (omega (arith, many, size, length-take most xs)))

noted_more : (spots before after : List Spot) (spot : Spot) → before ≡ take 20 spots → IsNotedIn before after spot
    → after ≡ take 20 (spots ++ spot ∷ [])
noted_more spots before after spot e (inl (few, put)) = put ∙ taken_more spots before spot 20 e few
noted_more spots before after spot e (inr (many, kept)) = kept ∙ taken_same spots before spot 20 e many

module _ {X : Type 0} where
  -- nothing is found in no rows
  pub finds_none : (P : X → Type 0) (spot_of : X → Spot) (found : Breaches) → found.first.items ≡ [] → found.count ≡ 0
      → Finds P spot_of [] found
  finds_none P spot_of found none zero_count = record {
    true_of = [];
    false_of = [];
    parted = (refl, refl);
    is_true = every_none P;
    is_false = every_none (λ x. ¬ (P x));
    counted = zero_count;
    named = none;
  }

  -- what is found with one row more
  pub finds_more : (P : X → Type 0) (spot_of : X → Spot) (xs : List X) (x : X) (old new : Breaches)
      → IsBreachTold (P x) (spot_of x) old new → Finds P spot_of xs old → Finds P spot_of (xs ++ x ∷ []) new
  finds_more P spot_of xs x old new (inl (has, kept)) finds = subst
      (λ (found : Breaches). Finds P spot_of (xs ++ x ∷ []) found) (sym kept) (record {
        true_of = finds.true_of ++ x ∷ [];
        false_of = finds.false_of;
        parted = first_more xs finds.true_of finds.false_of x finds.parted;
        is_true = every_more P finds.true_of x finds.is_true has;
        is_false = finds.is_false;
        counted = finds.counted;
        named = finds.named;
      })
  finds_more P spot_of xs x old new (inr (lacks, one, noted)) finds = record {
    true_of = finds.true_of;
    false_of = finds.false_of ++ x ∷ [];
    parted = second_more xs finds.true_of finds.false_of x finds.parted;
    is_true = finds.is_true;
    is_false = every_more (λ y. ¬ (P y)) finds.false_of x finds.is_false lacks;
    counted = omega (arith, one, finds.counted, length-append finds.false_of (x ∷ []));
    named = noted_more (map spot_of finds.false_of) old.first.items new.first.items (spot_of x) finds.named noted
        ∙ ap (take 20) (sym (map-append spot_of finds.false_of (x ∷ [])));
  }

  -- where none is named, the sentence is true of each row
  pub all_true : {P : X → Type 0} {spot_of : X → Spot} {xs : List X} {found : Breaches} → Finds P spot_of xs found
      → found.first.items ≡ [] → EveryRow P xs
  all_true {P} {spot_of} {xs} finds none =
      let lone : finds.false_of ≡ [] = none_mapped spot_of finds.false_of
      (none_taken (map spot_of finds.false_of) 19 (sym finds.named ∙ none)) in
      subst (λ rows. EveryRow P rows) (sym (all_first xs finds.true_of finds.false_of finds.parted lone)) finds.is_true
