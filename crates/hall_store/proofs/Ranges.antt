-- The entries of an ordered map that pass a test of an interval of its keys: they are the first from the interval's
-- least key on.
use Rattle.std.proofs.Common.{◌≡◌, ◌&&◌, Bool, true, false, cond, List, [], ◌∷◌, Some, None, Result, Ok, Err, OnOk}
use Rattle.std.proofs.Common.{OnErr, refl, sym, ap, ◌∙◌, subst, length, suc}
use Rattle.std.specs.Cmp.{IsTotalOrder, tied_itself}
use Rattle.std.specs.Ordering.{is_eq, is_le}
use Rattle.std.specs.declared.cmp.Ordering.{Ordering}
use Rattle.std.specs.declared.cmp.Ordering.TheVariants.{Less, Equal, Greater}
use Rattle.std.specs.declared.ops.Bound.TheVariants.{Included, Unbounded}
use Rattle.std.specs.List.{filter, take_while, AllByRecursion}
use Rattle.std.specs.List.Sorted.{IsStrictlySortedBy}
use Rattle.std.specs.Map.{lookup, keys_of, values_of}
use Rattle.std.specs.BTreeMap as tree
use Rattle.std.specs.BTreeMap.{is_at}
use Rattle.std.specs.BTreeMap.Range.{entries_between}
use Rattle.std.specs.FinMap.{IsAntisymmetric}
use Rattle.std.proofs.lemmas.List.Sums.{take_while-cons}
use Rattle.std.proofs.lemmas.Map.Keys.{sorted_head, sorted_tail}
use Rattle.hall_store.specs.Keyed.{Each}
use Rattle.hall_store.proofs.Tests.{not_true, true_not_false}

pub equal_from_test : (r : Ordering) → is_eq r ≡ true → r ≡ Equal
equal_from_test Less h = let no : false ≡ true = h in cc
equal_from_test Equal h = refl
equal_from_test Greater h = let no : false ≡ true = h in cc

module _ {K X : Type 0} {R : K → K → Ordering} (o : IsTotalOrder R) where
  -- past a key that ties with q there is none that does
  pub none_past : (q k : K) (es : List (K × X)) → R q k ≡ Equal → AllByRecursion (λ y. R k y ≡ Less) (keys_of es)
      → lookup (is_at (R q)) es ≡ None
  none_past q k [] tied later = refl
  none_past q k (e ∷ es) tied later =
      let here : is_eq (R q e.0) ≡ false = ap is_eq (o.congr q k e.0 tied ∙ later.0) in
      ap (λ (b : Bool). cond b (Some e.1) (lookup (is_at (R q)) es)) here ∙ none_past q k es tied later.1

  -- what is found past the first entry is found in the whole
  found_in_rest : (e : K × X) (es : List (K × X)) (q : K) (v : X) → IsStrictlySortedBy R (keys_of (e ∷ es))
      → lookup (is_at (R q)) es ≡ Some v → lookup (is_at (R q)) (e ∷ es) ≡ Some v
  found_in_rest e es q v sorted found =
      let apart : is_eq (R q e.0) ≡ false = not_true (is_eq (R q e.0)) (λ yes.
      let none = none_past q e.0 es (equal_from_test (R q e.0) yes) (sorted_head R e.0 (keys_of es) sorted) in
      let no : Some v ≡ None = sym found ∙ none in cc) in
      ap (λ (b : Bool). cond b (Some e.1) (lookup (is_at (R q)) es)) apart ∙ found

  found_first : (e : K × X) (es : List (K × X)) → lookup (is_at (R e.0)) (e ∷ es) ≡ Some e.1
  found_first e es = ap (λ r. cond (is_eq r) (Some e.1) (lookup (is_at (R e.0)) es)) (tied_itself o e.0)

  -- what holds of each row that is found holds of each entry
  pub all_of_each : (P : K → X → Type 0) (es : List (K × X)) → IsStrictlySortedBy R (keys_of es) → Each R es P
      → AllByRecursion (λ e. P e.0 e.1) es
  all_of_each P [] sorted each = tt
  all_of_each P (e ∷ es) sorted each = (
    each e.0 e.1 (found_first e es),
    all_of_each P es (sorted_tail R e.0 (keys_of es) sorted)
        (λ q v found. each q v (found_in_rest e es q v sorted found)),
  )

  -- what holds of each row holds of each once a row of which it holds was put
  pub each_put : IsAntisymmetric R → (P : K → X → Type 0) (es fs : List (K × X)) (k : K) (v : X) →
      ((q : K) → lookup (is_at (R q)) fs ≡ cond (is_at (R k) q) (Some v) (lookup (is_at (R q)) es)) → P k v
      → Each R es P → Each R fs P
  each_put same P es fs k v updates own each q w found =
      elim (is_at (R k) q) as (λ b. is_at (R k) q ≡ b → cond b (Some v) (lookup (is_at (R q)) es) ≡ Some w → P q w) [
        | true ↦ λ e f.
            let value : v ≡ w = cc in
            subst (λ x. P q x) value (subst (λ x. P x v) (same k q (equal_from_test (R k q) e)) own)
        | false ↦ λ e f. each q w f
      ] refl (sym (updates q) ∙ found)

-- where two tests agree on each entry, the values whose keys pass the one are the values that pass the other
pub values_filtered : {K X : Type 0} (p : K → Bool) (q : X → Bool) (es : List (K × X))
    → AllByRecursion (λ (e : K × X). p e.0 ≡ q e.1) es → filter q (values_of es) ≡ values_of
    (filter (λ (e : K × X). p e.0) es)
values_filtered p q [] alike = refl
values_filtered {K} {X} p q (e ∷ es) alike =
    let rest = values_filtered p q es alike.1 in
    ap (λ b. cond b (e.1 ∷ filter q (values_of es)) (filter q (values_of es))) (sym alike.0)
    ∙ elim (p e.0) as (λ b. cond b (e.1 ∷ filter q (values_of es)) (filter q (values_of es)) ≡ values_of
    (cond b (e ∷ filter (λ (e : K × X). p e.0) es) (filter (λ (e : K × X). p e.0) es))) [
      | true ↦ ap (λ vs. e.1 ∷ vs) rest
      | false ↦ rest
    ]

-- what passes a test of those that pass another passes both
pub filter_twice : {X : Type 0} (p q : X → Bool) (xs : List X) → filter p (filter q xs) ≡ filter (λ x. q x && p x) xs
filter_twice p q [] = refl
filter_twice {X} p q (x ∷ xs) =
    let rest : filter p (filter q xs) ≡ filter (λ y. q y && p y) xs = filter_twice p q xs in
    elim (q x) as (λ b. filter p (cond b (x ∷ filter q xs) (filter q xs)) ≡ cond (b && p x)
    (x ∷ filter (λ y. q y && p y) xs) (filter (λ y. q y && p y) xs)) [
      | true ↦ ap (λ (ys : List X). cond (p x) (x ∷ ys) ys) rest
      | false ↦ rest
    ]

module _ {K X : Type 0} {R : K → K → Ordering} (least : K) (test : K → Bool)
    (between : (a b : K) → is_le (R least a) ≡ true → R a b ≡ Less → test b ≡ true → test a ≡ true) where
  abbrev passes : K × X → Bool
  passes e = test e.0

  -- past the first that doesn't pass there are none that do
  none_later : (k : K) (es : List (K × X)) → is_le (R least k) ≡ true → test k ≡ false
      → AllByRecursion (λ q. R k q ≡ Less) (keys_of es) → filter passes es ≡ []
  none_later k [] low out later = refl
  none_later k (e ∷ es) low out later =
      let here : test e.0 ≡ false = not_true (test e.0) (λ yes. true_not_false (test k) (between k e.0 low later.0 yes)
      out) in
      ap (λ b. cond b (e ∷ filter passes es) (filter passes es)) here ∙ none_later k es low out later.1

  -- those that pass are the first from the least key on
  pub stand_together : (es : List (K × X)) → IsStrictlySortedBy R (keys_of es)
      → AllByRecursion (λ (e : K × X). test e.0 ≡ true → is_le (R least e.0) ≡ true) es →
      filter passes es ≡ take_while passes (entries_between R (Included least) Unbounded es)
  stand_together [] sorted low = refl
  stand_together (e ∷ es) sorted low =
      let rest = filter passes es in
      let beyond = entries_between R (Included least) Unbounded es in
      let again = stand_together es (sorted_tail R e.0 (keys_of es) sorted) low.1 in
      elim (is_le (R least e.0)) as (λ b. is_le (R least e.0) ≡ b → cond (test e.0) (e ∷ rest) rest ≡ take_while passes
      (cond (b && true) (e ∷ beyond) beyond)) [
        | true ↦ λ within.
            elim (test e.0) as (λ b. test e.0 ≡ b → cond b (e ∷ rest) rest ≡ cond b (e ∷ take_while passes beyond) []) [
              | true ↦ λ _. ap (λ rows. e ∷ rows) again
              | false ↦ λ out. none_later e.0 es within out (sorted_head R e.0 (keys_of es) sorted)
            ] refl ∙ sym (take_while-cons passes e beyond)
        | false ↦ λ below.
            let here : test e.0 ≡ false = not_true (test e.0)
            (λ yes. true_not_false (is_le (R least e.0)) (low.0 yes) below) in
            ap (λ b. cond b (e ∷ rest) rest) here ∙ again
      ] refl

  -- those that pass and have more are those with more of the first from the least key on
  pub stand_among : (more : K → Bool) (es : List (K × X)) → IsStrictlySortedBy R (keys_of es)
      → AllByRecursion (λ (e : K × X). (test e.0 && more e.0) ≡ true → is_le (R least e.0) ≡ true) es →
      filter (λ (e : K × X). test e.0 && more e.0) es ≡ filter (λ (e : K × X). more e.0)
      (take_while passes (entries_between R (Included least) Unbounded es))
  stand_among more [] sorted low = refl
  stand_among more (e ∷ es) sorted low =
      let both : K × X → Bool = λ e. test e.0 && more e.0 in
      let further : K × X → Bool = λ e. more e.0 in
      let rest = filter both es in
      let beyond = entries_between R (Included least) Unbounded es in
      let ahead = take_while passes beyond in
      let again = stand_among more es (sorted_tail R e.0 (keys_of es) sorted) low.1 in
      elim (is_le (R least e.0)) as (λ b. is_le (R least e.0) ≡ b → cond (both e) (e ∷ rest) rest ≡ filter further
      (take_while passes (cond (b && true) (e ∷ beyond) beyond))) [
        | true ↦ λ within.
            elim (test e.0) as (λ b. test e.0 ≡ b → cond (b && more e.0) (e ∷ rest) rest ≡ filter further
            (cond b (e ∷ ahead) [])) [
              | true ↦ λ _. ap (λ rows. cond (more e.0) (e ∷ rows) rows) again
              | false ↦ λ out. sym (filter_twice further passes es) ∙ ap (filter further)
                  (none_later e.0 es within out (sorted_head R e.0 (keys_of es) sorted))
            ] refl ∙ ap (filter further) (sym (take_while-cons passes e beyond))
        | false ↦ λ below.
            let here : both e ≡ false = not_true (both e)
            (λ yes. true_not_false (is_le (R least e.0)) (low.0 yes) below) in
            ap (λ b. cond b (e ∷ rest) rest) here ∙ again
      ] refl

-- what passes at the head is taken with the rest, and what doesn't ends it
pub taken : {X : Type 0} (p : X → Bool) (x : X) (xs : List X) → p x ≡ true → take_while p (x ∷ xs) ≡ x ∷ take_while p xs
taken p x xs h = take_while-cons p x xs ∙ ap (λ b. cond b (x ∷ take_while p xs) []) h

pub left : {X : Type 0} (p : X → Bool) (x : X) (xs : List X) → p x ≡ false → take_while p (x ∷ xs) ≡ []
left p x xs h = take_while-cons p x xs ∙ ap (λ b. cond b (x ∷ take_while p xs) []) h

-- what passes at the head is kept with the rest, and what doesn't is not
pub kept_first : {X : Type 0} (p : X → Bool) (x : X) (xs : List X) → p x ≡ true → filter p (x ∷ xs) ≡ x ∷ filter p xs
kept_first p x xs h = ap (λ b. cond b (x ∷ filter p xs) (filter p xs)) h

pub passed_over : {X : Type 0} (p : X → Bool) (x : X) (xs : List X) → p x ≡ false → filter p (x ∷ xs) ≡ filter p xs
passed_over p x xs h = ap (λ b. cond b (x ∷ filter p xs) (filter p xs)) h

pub length-values : {K X : Type 0} (es : List (K × X)) → length (values_of es) ≡ length es
length-values [] = refl
length-values (e ∷ es) = ap suc (length-values es)

-- what holds of each row holds of each after a call that put a row of which it holds, or was refused and left the map
pub each_after : {K X T E : Type 0} {R : K → K → Ordering} → IsTotalOrder R → IsAntisymmetric R
    → (P : K → X → Type 0) (m n : tree.BTreeMap K X) (k : K) (v : X) (result : Result T E) →
    OnOk result (tree.Updates R m n k (Some v)) → OnErr result (tree.IsUnchanged m n) → P k v → Each R m.entries P
    → Each R n.entries P
each_after o same P m n k v (Ok done) ok err own each = each_put o same P m.entries n.entries k v ok.0 own each
each_after {R = R} o same P m n k v (Err fault) ok err own each = subst (λ es. Each R es P) (sym err) each
