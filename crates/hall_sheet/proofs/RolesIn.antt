-- Roles are read word by word.
use Rattle.std.proofs.Common.{◌≡◌, ◌∙◌, ◌<◌, ◌==◌, ℕ, Bool, true, false, not, ◌&&◌, ◌||◌, List, [], ◌∷◌, length, Option}
use Rattle.std.proofs.Common.{Some, None, refl, sym, ap, arith, codes}
use Rattle.std.specs.Prelude.{if◌then◌else◌, option_and_then}
use Rattle.std.specs.List.{list_all, position_or_len, before_first, after_first}
use Rattle.std.specs.Str.{bytes_eq}
use Rattle.std.proofs.lemmas.List.Splits.{slice_split-cons_no, slice_split_first}
use Rattle.std.proofs.lemmas.Slice.Eq.{bytes_eq-Decides}
use Rattle.hall_policy.specs.declared.record.Roles.{Roles}
use Rattle.hall_sheet.specs.Entry.{with_role}
use Rattle.hall_sheet.specs.People.{words_in, is_role, is_among, are_distinct, roles_named, roles_in_text}

-- the roles that words name after these
abbrev pub roles_from : Roles → List (List ℕ) → Option Roles
roles_from roles [] = Some roles
roles_from roles (word ∷ words) = option_and_then (λ more. roles_from more words) (with_role roles word)

abbrev director : List ℕ
director = codes "director"

abbrev author : List ℕ
author = codes "author"

abbrev referee : List ℕ
referee = codes "referee"

abbrev entrant : List ℕ
entrant = codes "entrant"

abbrev made : Bool → Bool → Bool → Bool → Roles
made d a r e = record { director = d; author = a; referee = r; entrant = e }

-- no word names a role that is there
abbrev fresh : Bool → Bool → Bool → Bool → List (List ℕ) → Bool
fresh d a r e words =
    not (d && is_among words director) && (not (a && is_among words author)
    && (not (r && is_among words referee) && not (e && is_among words entrant)))

abbrev joined : Bool → Bool → Bool → Bool → List (List ℕ) → Roles
joined d a r e words =
    made (d || is_among words director) (a || is_among words author) (r || is_among words referee)
    (e || is_among words entrant)

abbrev told : Bool → Bool → Bool → Bool → List (List ℕ) → Option Roles
told d a r e words =
    if (list_all is_role words && are_distinct words) && fresh d a r e words then Some (joined d a r e words) else None

-- what holds of all roles before
abbrev Tells : List (List ℕ) → Type 0
Tells words = (d a r e : Bool) → roles_from (made d a r e) words ≡ told d a r e words

and_false : (b : Bool) → (b && false) ≡ false
and_false true = refl
and_false false = refl

or_false : (b : Bool) → (b || false) ≡ b
or_false true = refl
or_false false = refl

shuffle0 : (all dist m rest : Bool) → ((all && dist) && (not m && rest)) ≡ ((all && (not m && dist)) && rest)
shuffle0 false dist m rest = refl
shuffle0 true false true rest = refl
shuffle0 true true true rest = refl
shuffle0 true dist false rest = refl

shuffle1 : (all dist m x rest : Bool) → ((all && dist) && (x && (not m && rest))) ≡
    ((all && (not m && dist)) && (x && rest))
shuffle1 all dist m true rest = shuffle0 all dist m rest
shuffle1 all dist m false rest = and_false (all && dist) ∙ sym (and_false (all && (not m && dist)))

shuffle2 : (all dist m x y rest : Bool)
    → ((all && dist) && (x && (y && (not m && rest)))) ≡ ((all && (not m && dist)) && (x && (y && rest)))
shuffle2 all dist m true y rest = shuffle1 all dist m y rest
shuffle2 all dist m false y rest = and_false (all && dist) ∙ sym (and_false (all && (not m && dist)))

shuffle3 : (all dist m x y z : Bool)
    → ((all && dist) && (x && (y && (z && not m)))) ≡ ((all && (not m && dist)) && (x && (y && (z && true))))
shuffle3 false dist m x y z = refl
shuffle3 true dist m false y z = and_false dist ∙ sym (and_false (not m && dist))
shuffle3 true dist m true false z = and_false dist ∙ sym (and_false (not m && dist))
shuffle3 true dist m true true false = and_false dist ∙ sym (and_false (not m && dist))
shuffle3 true true true true true true = refl
shuffle3 true false true true true true = refl
shuffle3 true true false true true true = refl
shuffle3 true false false true true true = refl

drop1 : (b x : Bool) → (b && (x && false)) ≡ false
drop1 true x = and_false x
drop1 false x = refl

drop2 : (b x y : Bool) → (b && (x && (y && false))) ≡ false
drop2 b true y = drop1 b y
drop2 b false y = and_false b

drop3 : (b x y z : Bool) → (b && (x && (y && (z && false)))) ≡ false
drop3 b true y z = drop2 b y z
drop3 b false y z = and_false b

-- the roles, where the test holds
abbrev chosen : Roles → Bool → Option Roles
chosen roles b = if b then Some roles else None

director_next : (words : List (List ℕ)) → Tells words → Tells (director ∷ words)
director_next words ih true a r e =
    sym (ap (chosen (joined true a r e (director ∷ words))) (and_false
    (list_all is_role (director ∷ words) && are_distinct (director ∷ words))))
director_next words ih false a r e =
    ih true a r e
    ∙ ap (chosen (joined true a r e words))
    (shuffle0 (list_all is_role words) (are_distinct words) (is_among words director) (fresh false a r e words))

author_next : (words : List (List ℕ)) → Tells words → Tells (author ∷ words)
author_next words ih d true r e =
    sym (ap (chosen (joined d true r e (author ∷ words))) (drop1
    (list_all is_role (author ∷ words) && are_distinct (author ∷ words)) (not (d && is_among words director))))
author_next words ih d false r e =
    ih d true r e
    ∙ ap (chosen (joined d true r e words))
    (shuffle1 (list_all is_role words) (are_distinct words) (is_among words author) (not (d && is_among words director))
    (fresh false false r e words))

referee_next : (words : List (List ℕ)) → Tells words → Tells (referee ∷ words)
referee_next words ih d a true e =
    sym (ap (chosen (joined d a true e (referee ∷ words))) (drop2
    (list_all is_role (referee ∷ words) && are_distinct (referee ∷ words)) (not (d && is_among words director))
    (not (a && is_among words author))))
referee_next words ih d a false e =
    ih d a true e
    ∙ ap (chosen (joined d a true e words))
    (shuffle2 (list_all is_role words) (are_distinct words) (is_among words referee)
    (not (d && is_among words director)) (not (a && is_among words author)) (not (e && is_among words entrant)))

entrant_next : (words : List (List ℕ)) → Tells words → Tells (entrant ∷ words)
entrant_next words ih d a r true =
    sym (ap (chosen (joined d a r true (entrant ∷ words))) (drop3
    (list_all is_role (entrant ∷ words) && are_distinct (entrant ∷ words)) (not (d && is_among words director))
    (not (a && is_among words author)) (not (r && is_among words referee))))
entrant_next words ih d a r false =
    ih d a r true
    ∙ ap (chosen (joined d a r true words))
    (shuffle3 (list_all is_role words) (are_distinct words) (is_among words entrant)
    (not (d && is_among words director)) (not (a && is_among words author)) (not (r && is_among words referee)))

-- a word that is no role
other_next : (word : List ℕ) (words : List (List ℕ)) → bytes_eq word director ≡ false → bytes_eq word author ≡ false
    → bytes_eq word referee ≡ false → bytes_eq word entrant ≡ false → Tells (word ∷ words)
other_next word words nd na nr ne d a r e = rw (nd, na, nr, ne) refl

same : (x y : List ℕ) → bytes_eq x y ≡ true → x ≡ y
same x y e = (bytes_eq-Decides x y).0 e

next : (word : List ℕ) (words : List (List ℕ)) → Tells words → Tells (word ∷ words)
next word words ih = at_director (bytes_eq word director) refl
  where
    at_entrant : bytes_eq word director ≡ false → bytes_eq word author ≡ false → bytes_eq word referee ≡ false
        → (b : Bool) → bytes_eq word entrant ≡ b → Tells (word ∷ words)
    at_entrant nd na nr true is = rw (same word entrant is) (entrant_next words ih)
    at_entrant nd na nr false other = other_next word words nd na nr other

    at_referee : bytes_eq word director ≡ false → bytes_eq word author ≡ false
        → (b : Bool) → bytes_eq word referee ≡ b → Tells (word ∷ words)
    at_referee nd na true is = rw (same word referee is) (referee_next words ih)
    at_referee nd na false other = at_entrant nd na other (bytes_eq word entrant) refl

    at_author : bytes_eq word director ≡ false → (b : Bool) → bytes_eq word author ≡ b → Tells (word ∷ words)
    at_author nd true is = rw (same word author is) (author_next words ih)
    at_author nd false other = at_referee nd other (bytes_eq word referee) refl

    at_director : (b : Bool) → bytes_eq word director ≡ b → Tells (word ∷ words)
    at_director true is = rw (same word director is) (director_next words ih)
    at_director false other = at_author other (bytes_eq word author) refl

tells : (words : List (List ℕ)) → Tells words
tells [] d a r e = rw (
  and_false d,
  and_false a,
  and_false r,
  and_false e,
  or_false d,
  or_false a,
  or_false r,
  or_false
      e,
) refl
tells (word ∷ words) d a r e = next word words (tells words) d a r e

-- all words of a text, from no role on
pub all_words : (text : List ℕ) → roles_from (made false false false false) (words_in text) ≡ roles_in_text text
all_words text = tells (words_in text) false false false false ∙ ap (chosen (roles_named (words_in text))) (and_true _)
  where
    and_true : (b : Bool) → (b && true) ≡ b
    and_true true = refl
    and_true false = refl

abbrev plus : ℕ → Bool
plus byte = byte == 43

one_word : (text : List ℕ) → position_or_len plus text ≡ length text → words_in text ≡ text ∷ []
one_word [] e = refl
one_word (b ∷ text) e = by (b == 43) refl (one_word text)
  where
    by : (t : Bool) → (b == 43) ≡ t → (position_or_len plus text ≡ length text → words_in text ≡ text ∷ [])
        → words_in (b ∷ text) ≡ (b ∷ text) ∷ []
    by true is ih = absurd (omega (arith, rw is at e))
    by false other ih = rw (slice_split-cons_no plus b text other, ih (omega (arith, rw other at e))) refl

-- the last word
pub last_word : (roles : Roles) (text : List ℕ) → position_or_len plus text ≡ length text
    → roles_from roles (words_in text) ≡ with_role roles text
last_word roles text e = rw (one_word text e) (only (with_role roles text))
  where
    only : (o : Option Roles) → option_and_then (λ more. roles_from more []) o ≡ o
    only None = refl
    only (Some r) = refl

-- a word, and those after a plus
first_word : (roles : Roles) (text word more : List ℕ) → position_or_len plus text < length text
    → word ≡ before_first plus text → more ≡ after_first plus text
    → roles_from roles (words_in text) ≡ option_and_then (λ r. roles_from r (words_in more)) (with_role roles word)
first_word roles text word more some is rest = rw (slice_split_first plus text 0 some, is, rest) refl

pub word_taken : (roles after : Roles) (text word more : List ℕ) (answer : Option Roles) → word ≡ before_first plus text
    → more ≡ after_first plus text → position_or_len plus text < length text → with_role roles word ≡ Some after
    → roles_from roles (words_in text) ≡ answer → roles_from after (words_in more) ≡ answer
word_taken roles after text word more answer is rest some one so_far =
    sym (first_word roles text word more some is rest ∙ ap (option_and_then (λ r. roles_from r (words_in more))) one)
    ∙ so_far

pub word_refused : (roles : Roles) (text word more : List ℕ) (answer : Option Roles) → word ≡ before_first plus text
    → more ≡ after_first plus text → position_or_len plus text < length text → with_role roles word ≡ None
    → roles_from roles (words_in text) ≡ answer → None ≡ answer
word_refused roles text word more answer is rest some none so_far =
    sym (first_word roles text word more some is rest ∙ ap (option_and_then (λ r. roles_from r (words_in more))) none)
    ∙ so_far
