-- Tests, of texts and of lists.
use Rattle.std.proofs.Common.{◌≡◌, ◌&&◌, ◌||◌, ℕ, zero, suc, Bool, true, false, cond, List, [], ◌∷◌, Option, Some, None}
use Rattle.std.proofs.Common.{Contains, refl, sym, ap, ◌∙◌, subst, arith, slice_get, is_some}
use Rattle.std.specs.List.{filter, find, list_any, list_all}
use Rattle.std.specs.Bool.{Decides}
use Rattle.std.proofs.lemmas.Option.{slice_get_within, slice_get-get_or, get_or_from_slice_get}
use Rattle.hall_policy.specs.World.{same_text}
use Rattle.hall_policy.proofs.Texts.{and_first, and_second, text_decides}
use Rattle.hall_policy.specs.declared.record.PuzzleKey.{PuzzleKey}

-- ---- truth values
pub and_both : (a b : Bool) → a ≡ true → b ≡ true → (a && b) ≡ true
and_both true b p q = q
and_both false b p q = p

pub or_first : (a b : Bool) → a ≡ true → (a || b) ≡ true
or_first true b h = refl
or_first false b h = let no : false ≡ true = h in cc

pub or_second : (a b : Bool) → b ≡ true → (a || b) ≡ true
or_second true b h = refl
or_second false b h = h

pub not_true : (b : Bool) → (b ≡ true → ⊥) → b ≡ false
not_true true h = absurd (h refl)
not_true false h = refl

pub true_not_false : (b : Bool) → b ≡ true → b ≡ false → ⊥
true_not_false b h g = let no : true ≡ false = sym h ∙ g in cc

pub none_unless_some : {X : Type 0} (o : Option X) → is_some o ≡ false → o ≡ None
none_unless_some None h = refl
none_unless_some (Some x) h = let no : true ≡ false = h in absurd (cc)

-- ---- texts
-- puzzles' keys are one exactly where both their texts are
pub puzzle_decides : (a b : PuzzleKey) → Decides (same_text a.author b.author && same_text a.label b.label) (a ≡ b)
puzzle_decides a b = (
  (λ h.
      let author : a.author ≡ b.author = (text_decides a.author b.author).0
      (and_first (same_text a.author b.author) (same_text a.label b.label) h) in
      let label : a.label ≡ b.label = (text_decides a.label b.label).0
      (and_second (same_text a.author b.author) (same_text a.label b.label) h) in
      λ i. record { author = author i; label = label i }),
  (λ e. and_both (same_text a.author b.author) (same_text a.label b.label)
      ((text_decides a.author b.author).1 (ap (λ (k : PuzzleKey). k.author) e))
      ((text_decides a.label b.label).1 (ap (λ (k : PuzzleKey). k.label) e))),
)

-- ---- lists
pub contained : {X : Type 0} (xs : List X) (x : X) (j : ℕ) → slice_get xs j ≡ Some x → Contains xs x
contained xs x j e = (j, slice_get_within xs j x e, get_or_from_slice_get xs j x x e)

pub placed : {X : Type 0} (xs : List X) (x : X) → Contains xs x → (j : ℕ) × (slice_get xs j ≡ Some x)
placed xs x h = (h.0, slice_get-get_or xs h.0 x h.1 ∙ ap Some h.2)

-- what is in the rest of a list is in the list
pub later : {X : Type 0} (x : X) (xs : List X) (y : X) → Contains xs y → Contains (x ∷ xs) y
later x xs y among = let at = placed xs y among in contained (x ∷ xs) y (suc at.0) at.1

-- what passes a test and is in a list is in what the test leaves
pub Contains-filter : {X : Type 0} (q : X → Bool) (xs : List X) (x : X) → Contains xs x → q x ≡ true
    → Contains (filter q xs) x
Contains-filter q [] x (i, l, e) h = absurd (omega arith)
Contains-filter q (y ∷ ys) x (zero, l, e) h =
    let same : y ≡ x = e in
    contained (filter q (y ∷ ys)) x 0
    (subst (λ z. slice_get (cond (q z) (z ∷ filter q ys) (filter q ys)) 0 ≡ Some x) (sym same)
    (ap (λ (b : Bool). slice_get (cond b (x ∷ filter q ys) (filter q ys)) 0) h))
Contains-filter q (y ∷ ys) x (suc i, l, e) h =
    let rest = Contains-filter q ys x (i, omega arith, e) h in
    elim (q y) as (λ b. Contains (cond b (y ∷ filter q ys) (filter q ys)) x) [
      | true ↦ let at = placed (filter q ys) x rest in contained (y ∷ filter q ys) x (suc at.0) at.1
      | false ↦ rest
    ]

-- what a test leaves passes it, and is in the list
filter_at : {X : Type 0} (q : X → Bool) (xs : List X) (x : X) (i : ℕ) → slice_get (filter q xs) i ≡ Some x → (j : ℕ)
    × (slice_get xs j ≡ Some x) × (q x ≡ true)
filter_at q [] x i h = let no : None ≡ Some x = h in absurd (cc)
filter_at {X} q (y ∷ ys) x i h =
    elim (q y) as (λ b. q y ≡ b → slice_get (cond b (y ∷ filter q ys) (filter q ys)) i ≡ Some x → (j : ℕ)
    × (slice_get (y ∷ ys) j ≡ Some x) × (q x ≡ true)) [
      | true ↦ λ e. elim i as (λ n. slice_get (y ∷ filter q ys) n ≡ Some x → (j : ℕ) × (slice_get (y ∷ ys) j ≡ Some x)
          × (q x ≡ true)) [
            | zero ↦ λ f. let same : y ≡ x = cc in (0, f, subst (λ z. q z ≡ true) same e)
            | suc n ↦ λ f. let r = filter_at q ys x n f in (suc r.0, r.1, r.2)
          ]
      | false ↦ λ e f. let r = filter_at q ys x i f in (suc r.0, r.1, r.2)
    ] refl h

pub filter-Contains : {X : Type 0} (q : X → Bool) (xs : List X) (x : X) → Contains (filter q xs) x → Contains xs x
    × (q x ≡ true)
filter-Contains q xs x among =
    let here = placed (filter q xs) x among in
    let at = filter_at q xs x here.0 here.1 in
    (contained xs x at.0 at.1, at.2)

-- what is found passes the test and is in the list
find_at : {X : Type 0} (p : X → Bool) (xs : List X) (x : X) → find p xs ≡ Some x → (j : ℕ) × (slice_get xs j ≡ Some x)
    × (p x ≡ true)
find_at p [] x h = let no : None ≡ Some x = h in absurd (cc)
find_at p (y ∷ ys) x h =
    elim (p y) as (λ b. p y ≡ b → cond b (Some y) (find p ys) ≡ Some x → (j : ℕ) × (slice_get (y ∷ ys) j ≡ Some x)
    × (p x ≡ true)) [
      | true ↦ λ e f. let same : y ≡ x = cc in (0, f, subst (λ z. p z ≡ true) same e)
      | false ↦ λ e f. let r = find_at p ys x f in (suc r.0, r.1, r.2)
    ] refl h

pub find-Contains : {X : Type 0} (p : X → Bool) (xs : List X) (x : X) → find p xs ≡ Some x → Contains xs x
    × (p x ≡ true)
find-Contains p xs x h = let at = find_at p xs x h in (contained xs x at.0 at.1, at.2)

-- where nothing is found, nothing in the list passes
none_at : {X : Type 0} (p : X → Bool) (xs : List X) → find p xs ≡ None → (x : X) (j : ℕ) → slice_get xs j ≡ Some x
    → p x ≡ false
none_at p [] h x j e = let no : None ≡ Some x = e in absurd (cc)
none_at p (y ∷ ys) h x j e =
    elim (p y) as (λ b. p y ≡ b → cond b (Some y) (find p ys) ≡ None → p x ≡ false) [
      | true ↦ λ t f. let no : Some y ≡ None = f in absurd (cc)
      | false ↦ λ t f. elim j as (λ n. slice_get (y ∷ ys) n ≡ Some x → p x ≡ false) [
        | zero ↦ λ g. let same : y ≡ x = cc in subst (λ z. p z ≡ false) same t
        | suc n ↦ λ g. none_at p ys f x n g
      ] e
    ] refl h

pub find-None : {X : Type 0} (p : X → Bool) (xs : List X) → find p xs ≡ None → (x : X) → Contains xs x → p x ≡ false
find-None p xs h x among = let at = placed xs x among in none_at p xs h x at.0 at.1

-- some item passes exactly where the test of the list says so
any_at : {X : Type 0} (p : X → Bool) (xs : List X) → list_any p xs ≡ true → (j : ℕ) × (x : X)
    × (slice_get xs j ≡ Some x) × (p x ≡ true)
any_at p [] h = let no : false ≡ true = h in absurd (cc)
any_at {X} p (y ∷ ys) h =
    elim (p y) as (λ b. p y ≡ b → (b || list_any p ys) ≡ true → (j : ℕ) × (x : X) × (slice_get (y ∷ ys) j ≡ Some x)
    × (p x ≡ true)) [
      | true ↦ λ e f. (0, y, refl, e)
      | false ↦ λ e f. let r = any_at p ys f in (suc r.0, r.1, r.2, r.3)
    ] refl h

pub any-Contains : {X : Type 0} (p : X → Bool) (xs : List X) → list_any p xs ≡ true → (x : X) × Contains xs x
    × (p x ≡ true)
any-Contains p xs h = let at = any_at p xs h in (at.1, contained xs at.1 at.0 at.2, at.3)

at_any : {X : Type 0} (p : X → Bool) (xs : List X) (x : X) (j : ℕ) → slice_get xs j ≡ Some x → p x ≡ true
    → list_any p xs ≡ true
at_any p [] x j e h = let no : None ≡ Some x = e in absurd (cc)
at_any p (y ∷ ys) x zero e h = let same : y ≡ x = cc in or_first (p y) (list_any p ys)
    (subst (λ z. p z ≡ true) (sym same) h)
at_any p (y ∷ ys) x (suc j) e h = or_second (p y) (list_any p ys) (at_any p ys x j e h)

pub Contains-any : {X : Type 0} (p : X → Bool) (xs : List X) (x : X) → Contains xs x → p x ≡ true → list_any p xs ≡ true
Contains-any p xs x among h = let at = placed xs x among in at_any p xs x at.0 at.1 h

-- what every item passes
all_at : {X : Type 0} (p : X → Bool) (xs : List X) (x : X) (j : ℕ) → list_all p xs ≡ true → slice_get xs j ≡ Some x
    → p x ≡ true
all_at p [] x j h e = let no : None ≡ Some x = e in absurd (cc)
all_at p (y ∷ ys) x zero h e = let same : y ≡ x = cc in subst (λ z. p z ≡ true) same (and_first (p y) (list_all p ys) h)
all_at p (y ∷ ys) x (suc j) h e = all_at p ys x j (and_second (p y) (list_all p ys) h) e

pub Contains-all : {X : Type 0} (p : X → Bool) (xs : List X) (x : X) → list_all p xs ≡ true → Contains xs x → p x ≡ true
Contains-all p xs x h among = let at = placed xs x among in all_at p xs x at.0 h at.1

-- where not every item passes, one doesn't
pub all-false : {X : Type 0} (p : X → Bool) (xs : List X) → list_all p xs ≡ false → (x : X) × Contains xs x
    × (p x ≡ false)
all-false p [] h = let no : true ≡ false = h in absurd (cc)
all-false {X} p (y ∷ ys) h =
    elim (p y) as (λ b. p y ≡ b → (b && list_all p ys) ≡ false → (x : X) × Contains (y ∷ ys) x × (p x ≡ false)) [
      | true ↦ λ e f. let r = all-false p ys f in let at = placed ys r.0 r.1 in
          (r.0, contained (y ∷ ys) r.0 (suc at.0) at.1, r.2)
      | false ↦ λ e f. (y, contained (y ∷ ys) y 0 refl, e)
    ] refl h

pub and_turned : (a b : Bool) → (a && b) ≡ (b && a)
and_turned true true = refl
and_turned true false = refl
and_turned false true = refl
and_turned false false = refl
