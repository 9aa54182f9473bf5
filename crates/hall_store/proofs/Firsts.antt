-- The least keys of the intervals of keys that are asked for, and what lies between two keys of one interval.
use Rattle.std.proofs.Common.{◌≡◌, ◌==◌, ◌&&◌, ◌≤◌, ℕ, length, Bool, true, false, List, [], ◌∷◌, IsTrue, refl, sym, ap}
use Rattle.std.proofs.Common.{◌∙◌, subst, arith, Option, Some, None}
use Rattle.std.specs.Cmp.{IsTotalOrder, tied_itself, unsigned_Decides}
use Rattle.std.specs.BTreeMap.Comparable.{le_lt_trans}
use Rattle.std.specs.Ordering.{is_le, is_lt, nat_cmp, ordering_then, ordering_reverse}
use Rattle.std.specs.declared.cmp.Ordering.{Ordering}
use Rattle.std.specs.declared.cmp.Ordering.TheVariants.{Less, Equal, Greater}
use Rattle.std.specs.declared.ops.Bound.TheVariants.{Included, Unbounded}
use Rattle.std.specs.FinMap.{IsAntisymmetric, nat_cmp-IsAntisymmetric}
use Rattle.std.specs.List.{All, filter, take_while}
use Rattle.std.specs.List.Sorted.{IsStrictlySortedBy}
use Rattle.std.specs.Map.{keys_of, values_of}
use Rattle.std.specs.BTreeMap.Range.{entries_between}
use Rattle.std.proofs.lemmas.Bool.Decides.{nat_tests}
use Rattle.std.proofs.lemmas.Cmp.{then_total, on_total, nat_cmp_total}
use Rattle.std.proofs.lemmas.List.Elements.{All-head}
use Rattle.hall_policy.specs.Text.{text_cmp, is_word_byte, IsOfKind}
use Rattle.hall_policy.specs.World.{same_text, puzzle_cmp, protest_cmp}
use Rattle.hall_policy.specs.declared.record.PuzzleKey.{PuzzleKey}
use Rattle.hall_policy.specs.declared.record.PuzzleRow.{PuzzleRow}
use Rattle.hall_policy.specs.declared.record.AnswerRow.{AnswerRow}
use Rattle.hall_policy.specs.declared.record.ProtestKey.{ProtestKey}
use Rattle.hall_policy.specs.declared.record.ProtestRow.{ProtestRow}
use Rattle.hall_policy.proofs.Orders.{text_total, same_texts, puzzle_total, protest_total, tied_then}
use Rattle.hall_store.specs.Keyed.{Each, IsPuzzleKept, IsUseKept, IsAnswerKept, IsProtestKept, IsFirst, agree, slot_cmp}
use Rattle.hall_store.specs.Keyed.{slot_of, use_cmp, use_of, is_use_of, least_word}
use Rattle.hall_store.specs.Keyed.{first_name, first_slot, is_inside}
use Rattle.hall_policy.specs.Ranges.{IsName}
use Rattle.hall_store.specs.Store.{is_after, is_between, is_protest_of, is_up_to}
use Rattle.hall_store.specs.declared.slot.AnswerSlot.{AnswerSlot}
use Rattle.hall_store.specs.declared.slot.UseKey.{UseKey}
use Rattle.hall_store.specs.declared.slot.Part.{Part}
use Rattle.hall_store.specs.declared.slot.Part.TheVariants.{Round, Entrant, Puzzle}
use Rattle.hall_store.proofs.Tests.{and_both}
use Rattle.hall_policy.proofs.Texts.{and_first, and_second, text_decides}
use Rattle.hall_store.proofs.Ranges.{all_of_each, values_filtered, stand_among, stand_together}

-- ---- the orders
pub slot_total : IsTotalOrder slot_cmp
slot_total =
    then_total (on_total (λ s. s.round) text_total)
    (then_total (on_total (λ s. s.entrant) text_total) (then_total (on_total (λ s. s.number) nat_cmp_total)
    (on_total (λ s. s.n) nat_cmp_total)))

pub use_total : IsTotalOrder use_cmp
use_total = then_total (on_total (λ u. u.author) text_total)
    (then_total (on_total (λ u. u.label) text_total) (on_total (λ u. u.round) text_total))

pub same_slots : IsAntisymmetric slot_cmp
same_slots a b e =
    let t = tied_then (text_cmp a.round b.round)
    (ordering_then (text_cmp a.entrant b.entrant) (ordering_then (nat_cmp a.number b.number) (nat_cmp a.n b.n))) e in
    let u = tied_then (text_cmp a.entrant b.entrant) (ordering_then (nat_cmp a.number b.number) (nat_cmp a.n b.n))
    t.1 in
    let v = tied_then (nat_cmp a.number b.number) (nat_cmp a.n b.n) u.1 in
    let round : a.round ≡ b.round = same_texts a.round b.round t.0 in
    let entrant : a.entrant ≡ b.entrant = same_texts a.entrant b.entrant u.0 in
    let number : a.number ≡ b.number = nat_cmp-IsAntisymmetric a.number b.number v.0 in
    let n : a.n ≡ b.n = nat_cmp-IsAntisymmetric a.n b.n v.1 in
    λ i. record { round = round i; entrant = entrant i; number = number i; n = n i }

pub same_uses : IsAntisymmetric use_cmp
same_uses a b e =
    let t = tied_then (text_cmp a.author b.author) (ordering_then (text_cmp a.label b.label) (text_cmp a.round b.round))
    e in
    let u = tied_then (text_cmp a.label b.label) (text_cmp a.round b.round) t.1 in
    let author : a.author ≡ b.author = same_texts a.author b.author t.0 in
    let label : a.label ≡ b.label = same_texts a.label b.label u.0 in
    let round : a.round ≡ b.round = same_texts a.round b.round u.1 in
    λ i. record { author = author i; label = label i; round = round i }

-- ---- two orders in turn
first_le : (a b : Ordering) → is_le (ordering_then a b) ≡ true → is_le a ≡ true
first_le Less b h = refl
first_le Equal b h = refl
first_le Greater b h = h

second_le : (a b : Ordering) → a ≡ Equal → is_le (ordering_then a b) ≡ true → is_le b ≡ true
second_le a b e h = subst (λ r. is_le (ordering_then r b) ≡ true) e h

less_le : (a : Ordering) → is_lt a ≡ true → is_le a ≡ true
less_le Less h = refl
less_le Equal h = refl
less_le Greater h = h

le_le : (a b c : List ℕ) → is_le (text_cmp a b) ≡ true → is_le (text_cmp b c) ≡ true → is_le (text_cmp a c) ≡ true
le_le a b c low high =
    elim (text_cmp b c) as (λ r. text_cmp b c ≡ r → is_le r ≡ true → is_le (text_cmp a c) ≡ true) [
      | Less ↦ λ less _. ap is_le (le_lt_trans text_total a b c low less)
      | Equal ↦ λ same _. subst (λ x. is_le (text_cmp a x) ≡ true) (same_texts b c same) low
      | Greater ↦ λ _ no. let never : false ≡ true = no in absurd (cc)
    ] refl high

both_le : (a b : Ordering) → is_le a ≡ true → is_le b ≡ true → is_le (ordering_then a b) ≡ true
both_le Less b p q = refl
both_le Equal b p q = q
both_le Greater b p q = p

tied : (a b : Ordering) → a ≡ ordering_reverse b → is_le a ≡ true → is_le b ≡ true → a ≡ Equal
tied Less Less e p q = let no : Less ≡ Greater = e in absurd (cc)
tied Less Equal e p q = e
tied Less Greater e p q = let no : false ≡ true = q in absurd (cc)
tied Equal b e p q = refl
tied Greater b e p q = let no : false ≡ true = p in absurd (cc)

-- the first parts of three keys in order are one where those at the ends are, and then the other parts are in order
record IsBetween {X : Type 0} (least middle : X) (y z : Ordering) : Type 0 where
  same : middle ≡ least
  above : is_le y ≡ true
  below : is_le z ≡ true

module _ {X : Type 0} {R : X → X → Ordering} (o : IsTotalOrder R) (exact : IsAntisymmetric R) where
  same_tied : (a b : X) → a ≡ b → R a b ≡ Equal
  same_tied a b e = subst (λ x. R a x ≡ Equal) e (tied_itself o a)

  squeezed : (l a b : X) (y z : Ordering) → is_le (ordering_then (R l a) y) ≡ true
      → is_le (ordering_then (R a b) z) ≡ true → b ≡ l → IsBetween l a y z
  squeezed l a b y z low high own =
      let back : is_le (R a l) ≡ true = subst (λ x. is_le (R a x) ≡ true) own (first_le (R a b) z high) in
      let tie : R l a ≡ Equal = tied (R l a) (R a l) (o.antisymm l a) (first_le (R l a) y low) back in
      let same : l ≡ a = exact l a tie in
      record {
        same = sym same;
        above = second_le (R l a) y tie low;
        below = second_le (R a b) z (same_tied a b (sym same ∙ sym own)) high;
      }

  itself : (a b : X) → a ≡ b → is_le (R a b) ≡ true
  itself a b e = ap is_le (same_tied a b e)

-- ---- the least word, and the least number
word_from_dash : (b : ℕ) → is_word_byte b ≡ true → 45 ≤ b
word_from_dash b h = grind (arith, nat_tests)

one_up : (a b : ℕ) → a ≤ b → is_le (nat_cmp a b) ≡ true
one_up a b h = grind (arith, nat_tests)

least_number : (a b : ℕ) → a ≡ 1 → 1 ≤ b → is_le (nat_cmp a b) ≡ true
least_number a b is low = subst (λ n. is_le (nat_cmp n b) ≡ true) (sym is) (one_up 1 b low)

shorter_le : (bs : List ℕ) → is_le (text_cmp [] bs) ≡ true
shorter_le [] = refl
shorter_le (b ∷ bs) = refl

dash_le : (word : List ℕ) → 1 ≤ length word → All (λ b. IsTrue (is_word_byte b)) word
    → is_le (text_cmp (45 ∷ []) word) ≡ true
dash_le [] long all = absurd (omega (arith, long))
dash_le (b ∷ bs) long all =
    both_le (nat_cmp 45 b) (text_cmp [] bs) (one_up 45 b (word_from_dash b
    (All-head (λ x. IsTrue (is_word_byte x)) b bs all))) (shorter_le bs)

least_le : (most : ℕ) (least word : List ℕ) → least ≡ least_word → IsOfKind 1 most is_word_byte word
    → is_le (text_cmp least word) ≡ true
least_le most least word is of_kind = subst (λ w. is_le (text_cmp w word) ≡ true) (sym is)
    (dash_le word of_kind.long_enough of_kind.allowed)

-- ---- puzzles
-- the first key of an author, and the author's puzzles
module _ (first : PuzzleKey) (is_first : first.label ≡ least_word) where
  abbrev pub is_by : PuzzleKey → Bool
  is_by key = same_text key.author first.author

  by_between : (a b : PuzzleKey) → is_le (puzzle_cmp first a) ≡ true → puzzle_cmp a b ≡ Less → is_by b ≡ true
      → is_by a ≡ true
  by_between a b low less own =
      let one = squeezed text_total same_texts first.author a.author b.author (text_cmp first.label a.label)
      (text_cmp a.label b.label) low (ap is_le less)
      ((text_decides b.author first.author).0 own) in
      (text_decides a.author first.author).1 one.same

  by_low : (key : PuzzleKey) → IsOfKind 1 24 is_word_byte key.label → is_by key ≡ true
      → is_le (puzzle_cmp first key) ≡ true
  by_low key label own =
      both_le (text_cmp first.author key.author) (text_cmp first.label key.label)
      (itself text_total same_texts first.author key.author (sym ((text_decides key.author first.author).0 own)))
      (least_le 24 first.label key.label is_first label)

  pub puzzles_together : (es : List (PuzzleKey × PuzzleRow)) → IsStrictlySortedBy puzzle_cmp (keys_of es)
      → Each puzzle_cmp es IsPuzzleKept →
      filter (λ row. same_text row.key.author first.author) (values_of es)
      ≡ values_of (take_while (λ (e : PuzzleKey × PuzzleRow). is_by e.0)
      (entries_between puzzle_cmp (Included first) Unbounded es))
  puzzles_together es sorted kept =
      values_filtered is_by (λ row. same_text row.key.author first.author) es
      (all_of_each puzzle_total (λ key row. is_by key ≡ same_text row.key.author first.author) es sorted
      (λ key row found. ap (λ (k : PuzzleKey). is_by k) (sym (kept key row found).own)))
      ∙ ap values_of (stand_together first is_by by_between es sorted
      (all_of_each puzzle_total (λ key row. is_by key ≡ true → is_le (puzzle_cmp first key) ≡ true) es sorted
      (λ key row found. by_low key (kept key row found).label)))

-- ---- uses
module _ (key : PuzzleKey) where
  abbrev first_use : UseKey
  first_use = use_of key least_word

  use_between : (a b : UseKey) → is_le (use_cmp first_use a) ≡ true → use_cmp a b ≡ Less → is_use_of key b ≡ true
      → is_use_of key a ≡ true
  use_between a b low less own =
      let author : b.author ≡ key.author = (text_decides b.author key.author).0
      (and_first (same_text b.author key.author) (same_text b.label key.label) own) in
      let label : b.label ≡ key.label = (text_decides b.label key.label).0
      (and_second (same_text b.author key.author) (same_text b.label key.label) own) in
      let one = squeezed text_total same_texts key.author a.author b.author
      (ordering_then (text_cmp key.label a.label) (text_cmp least_word a.round))
      (ordering_then (text_cmp a.label b.label) (text_cmp a.round b.round)) low (ap is_le less) author in
      let two = squeezed text_total same_texts key.label a.label b.label (text_cmp least_word a.round)
      (text_cmp a.round b.round) one.above one.below label in
      and_both (same_text a.author key.author) (same_text a.label key.label)
      ((text_decides a.author key.author).1 one.same) ((text_decides a.label key.label).1 two.same)

  use_low : (used : UseKey) → IsOfKind 1 24 is_word_byte used.round → is_use_of key used ≡ true
      → is_le (use_cmp first_use used) ≡ true
  use_low used round own =
      let author : used.author ≡ key.author = (text_decides used.author key.author).0
      (and_first (same_text used.author key.author) (same_text used.label key.label) own) in
      let label : used.label ≡ key.label = (text_decides used.label key.label).0
      (and_second (same_text used.author key.author) (same_text used.label key.label) own) in
      both_le (text_cmp key.author used.author) (ordering_then (text_cmp key.label used.label)
      (text_cmp least_word used.round)) (itself text_total same_texts key.author used.author (sym author))
      (both_le (text_cmp key.label used.label) (text_cmp least_word used.round)
      (itself text_total same_texts key.label used.label (sym label))
      (least_le 24 least_word used.round refl round))

  pub uses_together : (es : List (UseKey × Unit {0})) → IsStrictlySortedBy use_cmp (keys_of es)
      → Each use_cmp es IsUseKept →
      filter (λ (e : UseKey × Unit {0}). is_use_of key e.0) es ≡ take_while
      (λ (e : UseKey × Unit {0}). is_use_of key e.0) (entries_between use_cmp (Included first_use) Unbounded es)
  uses_together es sorted kept =
      stand_together first_use (is_use_of key) use_between es sorted
      (all_of_each use_total (λ used _. is_use_of key used ≡ true → is_le (use_cmp first_use used) ≡ true) es sorted
      (λ used it found. use_low used (kept used it found)))

-- ---- answers
abbrev by_n : AnswerSlot → AnswerSlot → Ordering
by_n a b = nat_cmp a.n b.n

abbrev by_number : AnswerSlot → AnswerSlot → Ordering
by_number a b = ordering_then (nat_cmp a.number b.number) (by_n a b)

abbrev by_entrant : AnswerSlot → AnswerSlot → Ordering
by_entrant a b = ordering_then (text_cmp a.entrant b.entrant) (by_number a b)

-- what slots that agree share
abbrev one_round : AnswerSlot → AnswerSlot → Bool
one_round a b = same_text a.round b.round

abbrev one_entrant : AnswerSlot → AnswerSlot → Bool
one_entrant a b = same_text a.entrant b.entrant

-- a name before one that comes after none comes after none
pub up_to_before : (last : Option (List ℕ)) (a b : List ℕ) → is_le (text_cmp a b) ≡ true → is_up_to last b ≡ true
    → is_up_to last a ≡ true
up_to_before None a b le up = refl
up_to_before (Some last) a b le up = le_le a b last le up

name_low : (after : Option (List ℕ)) (name : List ℕ) → IsName name → is_after after name ≡ true
    → is_le (text_cmp (first_name after) name) ≡ true
name_low None name is h = least_le 24 least_word name refl is
name_low (Some after) name is h = less_le (text_cmp after name) h

pub and_parted : (a b c : Bool) → ((a && b) && c) ≡ (a && (c && b))
and_parted true true true = refl
and_parted true true false = refl
and_parted true false true = refl
and_parted true false false = refl
and_parted false b c = refl

module _ (first : AnswerSlot) where
  slot_between : (part : Part) (a b : AnswerSlot) → is_le (slot_cmp first a) ≡ true → slot_cmp a b ≡ Less
      → agree part b first ≡ true → agree part a first ≡ true
  slot_between Round a b low less own =
      let one = squeezed text_total same_texts first.round a.round b.round (by_entrant first a) (by_entrant a b) low
      (ap is_le less) ((text_decides b.round first.round).0 own) in
      (text_decides a.round first.round).1 one.same
  slot_between Entrant a b low less own =
      let round : b.round ≡ first.round = (text_decides b.round first.round).0
      (and_first (one_round b first) (one_entrant b first) own) in
      let entrant : b.entrant ≡ first.entrant = (text_decides b.entrant first.entrant).0
      (and_second (one_round b first) (one_entrant b first) own) in
      let one = squeezed text_total same_texts first.round a.round b.round (by_entrant first a) (by_entrant a b) low
      (ap is_le less) round in
      let two = squeezed text_total same_texts first.entrant a.entrant b.entrant (by_number first a) (by_number a b)
      one.above one.below entrant in
      and_both (one_round a first) (one_entrant a first) ((text_decides a.round first.round).1 one.same)
      ((text_decides a.entrant first.entrant).1 two.same)
  slot_between Puzzle a b low less own =
      let both = and_first (one_round b first && one_entrant b first) (b.number == first.number) own in
      let round : b.round ≡ first.round = (text_decides b.round first.round).0
      (and_first (one_round b first) (one_entrant b first) both) in
      let entrant : b.entrant ≡ first.entrant = (text_decides b.entrant first.entrant).0
      (and_second (one_round b first) (one_entrant b first) both) in
      let number : b.number ≡ first.number = (unsigned_Decides b.number first.number).0
      (and_second (one_round b first && one_entrant b first) (b.number == first.number) own) in
      let one = squeezed text_total same_texts first.round a.round b.round (by_entrant first a) (by_entrant a b) low
      (ap is_le less) round in
      let two = squeezed text_total same_texts first.entrant a.entrant b.entrant (by_number first a) (by_number a b)
      one.above one.below entrant in
      let three = squeezed nat_cmp_total nat_cmp-IsAntisymmetric first.number a.number b.number (by_n first a)
      (by_n a b) two.above two.below number in
      and_both (one_round a first && one_entrant a first) (a.number == first.number)
      (and_both (one_round a first) (one_entrant a first) ((text_decides a.round first.round).1 one.same)
      ((text_decides a.entrant first.entrant).1 two.same))
      ((unsigned_Decides a.number first.number).1 three.same)

  -- the slot's parts, each not below the first slot's
  not_below : (slot : AnswerSlot) → is_le (text_cmp first.round slot.round) ≡ true
      → is_le (text_cmp first.entrant slot.entrant) ≡ true →
      is_le (nat_cmp first.number slot.number) ≡ true → is_le (nat_cmp first.n slot.n) ≡ true
      → is_le (slot_cmp first slot) ≡ true
  not_below slot round entrant number n =
      both_le (text_cmp first.round slot.round) (by_entrant first slot) round
      (both_le (text_cmp first.entrant slot.entrant) (by_number first slot) entrant
      (both_le (nat_cmp first.number slot.number) (by_n first slot) number n))

  texts_le : (a b : List ℕ) → same_text a b ≡ true → is_le (text_cmp b a) ≡ true
  texts_le a b same = itself text_total same_texts b a (sym ((text_decides a b).0 same))

  slot_low : (part : Part) → IsFirst part first → (slot : AnswerSlot) (row : AnswerRow) → IsAnswerKept slot row
      → agree part slot first ≡ true → is_le (slot_cmp first slot) ≡ true
  slot_low Round is slot row kept own =
      not_below slot (texts_le slot.round first.round own) (least_le 24 first.entrant slot.entrant is.0 kept.entrant)
      (least_number first.number slot.number is.1 kept.number) (least_number first.n slot.n is.2 kept.n)
  slot_low Entrant is slot row kept own =
      not_below slot (texts_le slot.round first.round (and_first (one_round slot first) (one_entrant slot first) own))
      (texts_le slot.entrant first.entrant (and_second (one_round slot first) (one_entrant slot first) own))
      (least_number first.number slot.number is.0 kept.number) (least_number first.n slot.n is.1 kept.n)
  slot_low Puzzle is slot row kept own =
      let both = and_first (one_round slot first && one_entrant slot first) (slot.number == first.number) own in
      let number : slot.number ≡ first.number = (unsigned_Decides slot.number first.number).0
      (and_second (one_round slot first && one_entrant slot first) (slot.number == first.number) own) in
      not_below slot (texts_le slot.round first.round (and_first (one_round slot first) (one_entrant slot first) both))
      (texts_le slot.entrant first.entrant (and_second (one_round slot first) (one_entrant slot first) both))
      (itself nat_cmp_total nat_cmp-IsAntisymmetric first.number slot.number (sym number))
      (least_number first.n slot.n is kept.n)

  answers_together : (part : Part) → IsFirst part first → (es : List (AnswerSlot × AnswerRow))
      → IsStrictlySortedBy slot_cmp (keys_of es) → Each slot_cmp es IsAnswerKept →
      filter (λ row. agree part (slot_of row) first) (values_of es)
      ≡ values_of (take_while (λ (e : AnswerSlot × AnswerRow). agree part e.0 first)
      (entries_between slot_cmp (Included first) Unbounded es))
  answers_together part is es sorted kept =
      values_filtered (λ slot. agree part slot first) (λ row. agree part (slot_of row) first) es
      (all_of_each slot_total (λ slot row. agree part slot first ≡ agree part (slot_of row) first) es sorted
      (λ slot row found. ap (λ (s : AnswerSlot). agree part s first) (sym (kept slot row found).own)))
      ∙ ap values_of (stand_together first (λ slot. agree part slot first) (slot_between part) es sorted
      (all_of_each slot_total (λ slot row. agree part slot first ≡ true → is_le (slot_cmp first slot) ≡ true) es sorted
      (λ slot row found. slot_low part is slot row (kept slot row found))))

  -- the same of the entries that a range from the first slot on gives
  pub answers_ahead : (part : Part) → IsFirst part first → (es : List (AnswerSlot × AnswerRow))
      → IsStrictlySortedBy slot_cmp (keys_of es) → Each slot_cmp es IsAnswerKept →
      (ahead : List (AnswerSlot × AnswerRow)) → ahead ≡ entries_between slot_cmp (Included first) Unbounded es →
      filter (λ row. agree part (slot_of row) first) (values_of es) ≡ values_of
      (take_while (λ (e : AnswerSlot × AnswerRow). agree part e.0 first) ahead)
  answers_ahead part is es sorted kept ahead from =
      answers_together part is es sorted kept
      ∙ ap (λ (es : List (AnswerSlot × AnswerRow)). values_of
      (take_while (λ (e : AnswerSlot × AnswerRow). agree part e.0 first) es)) (sym from)

  -- the round's answers by entrants after a name and up to another, from the first slot of the one name on
  module _ (after last : Option (List ℕ)) (is : first ≡ first_slot first.round (first_name after) 1) where
    inside_between : (a b : AnswerSlot) → is_le (slot_cmp first a) ≡ true → slot_cmp a b ≡ Less
        → is_inside first.round last b ≡ true → is_inside first.round last a ≡ true
    inside_between a b low less own =
        let one = squeezed text_total same_texts first.round a.round b.round (by_entrant first a) (by_entrant a b) low
        (ap is_le less) ((text_decides b.round first.round).0
        (and_first (one_round b first) (is_up_to last b.entrant) own)) in
        and_both (one_round a first) (is_up_to last a.entrant) ((text_decides a.round first.round).1 one.same)
        (up_to_before last a.entrant b.entrant (first_le (text_cmp a.entrant b.entrant) (by_number a b) one.below)
        (and_second (one_round b first) (is_up_to last b.entrant) own))

    inside_low : (slot : AnswerSlot) (row : AnswerRow) → IsAnswerKept slot row
        → (is_inside first.round last slot && is_after after slot.entrant) ≡ true → is_le (slot_cmp first slot) ≡ true
    inside_low slot row kept own =
        not_below slot (texts_le slot.round first.round (and_first (one_round slot first) (is_up_to last slot.entrant)
        (and_first (is_inside first.round last slot) (is_after after slot.entrant) own)))
        (subst (λ name. is_le (text_cmp name slot.entrant) ≡ true) (sym (ap (λ (s : AnswerSlot). s.entrant) is))
        (name_low after slot.entrant kept.entrant
        (and_second (is_inside first.round last slot) (is_after after slot.entrant) own)))
        (least_number first.number slot.number (ap (λ (s : AnswerSlot). s.number) is) kept.number)
        (least_number first.n slot.n (ap (λ (s : AnswerSlot). s.n) is) kept.n)

    abbrev is_asked : AnswerSlot → Bool
    is_asked slot = is_inside first.round last slot && is_after after slot.entrant

    pub answers_among : (es : List (AnswerSlot × AnswerRow)) → IsStrictlySortedBy slot_cmp (keys_of es)
        → Each slot_cmp es IsAnswerKept →
        (ahead : List (AnswerSlot × AnswerRow)) → ahead ≡ entries_between slot_cmp (Included first) Unbounded es →
        filter (is_between first.round after last) (values_of es) ≡ values_of
        (filter (λ (e : AnswerSlot × AnswerRow). is_after after e.0.entrant)
        (take_while (λ (e : AnswerSlot × AnswerRow). is_inside first.round last e.0) ahead))
    answers_among es sorted kept ahead from =
        values_filtered is_asked (is_between first.round after last) es
        (all_of_each slot_total (λ slot row. is_asked slot ≡ is_between first.round after last row) es sorted
        (λ slot row found. ap is_asked (sym (kept slot row found).own)
        ∙ and_parted (same_text row.key.round first.round) (is_up_to last row.key.entrant) (is_after after row.key.entrant)))
        ∙ ap values_of (stand_among first (is_inside first.round last) inside_between
        (λ slot. is_after after slot.entrant) es sorted
        (all_of_each slot_total (λ slot row. is_asked slot ≡ true → is_le (slot_cmp first slot) ≡ true) es sorted
        (λ slot row found. inside_low slot row (kept slot row found))))
        ∙ ap (λ (es : List (AnswerSlot × AnswerRow)). values_of
        (filter (λ (e : AnswerSlot × AnswerRow). is_after after e.0.entrant)
        (take_while (λ (e : AnswerSlot × AnswerRow). is_inside first.round last e.0) es))) (sym from)

-- ---- protests
-- both keys are of one entrant in one round
abbrev pub is_beside : ProtestKey → ProtestKey → Bool
is_beside first key = same_text key.round first.round && same_text key.entrant first.entrant

module _ (first : ProtestKey) (is_first : first.token ≡ least_word) where
  beside_between : (a b : ProtestKey) → is_le (protest_cmp first a) ≡ true → protest_cmp a b ≡ Less
      → is_beside first b ≡ true → is_beside first a ≡ true
  beside_between a b low less own =
      let round : b.round ≡ first.round = (text_decides b.round first.round).0
      (and_first (same_text b.round first.round) (same_text b.entrant first.entrant) own) in
      let entrant : b.entrant ≡ first.entrant = (text_decides b.entrant first.entrant).0
      (and_second (same_text b.round first.round) (same_text b.entrant first.entrant) own) in
      let one = squeezed text_total same_texts first.entrant a.entrant b.entrant
      (ordering_then (text_cmp first.round a.round) (text_cmp first.token a.token))
      (ordering_then (text_cmp a.round b.round) (text_cmp a.token b.token)) low (ap is_le less) entrant in
      let two = squeezed text_total same_texts first.round a.round b.round (text_cmp first.token a.token)
      (text_cmp a.token b.token) one.above one.below round in
      and_both (same_text a.round first.round) (same_text a.entrant first.entrant)
      ((text_decides a.round first.round).1 two.same) ((text_decides a.entrant first.entrant).1 one.same)

  beside_low : (key : ProtestKey) → IsOfKind 1 32 is_word_byte key.token → is_beside first key ≡ true
      → is_le (protest_cmp first key) ≡ true
  beside_low key token own =
      let round : key.round ≡ first.round = (text_decides key.round first.round).0
      (and_first (same_text key.round first.round) (same_text key.entrant first.entrant) own) in
      let entrant : key.entrant ≡ first.entrant = (text_decides key.entrant first.entrant).0
      (and_second (same_text key.round first.round) (same_text key.entrant first.entrant) own) in
      both_le (text_cmp first.entrant key.entrant) (ordering_then (text_cmp first.round key.round)
      (text_cmp first.token key.token))
      (itself text_total same_texts first.entrant key.entrant (sym entrant))
      (both_le (text_cmp first.round key.round) (text_cmp first.token key.token)
      (itself text_total same_texts first.round key.round (sym round))
      (least_le 32 first.token key.token is_first token))

  pub protests_together : (es : List (ProtestKey × ProtestRow)) → IsStrictlySortedBy protest_cmp (keys_of es)
      → Each protest_cmp es IsProtestKept →
      filter (is_protest_of first.entrant first.round) (values_of es)
      ≡ values_of (take_while (λ (e : ProtestKey × ProtestRow). is_beside first e.0)
      (entries_between protest_cmp (Included first) Unbounded es))
  protests_together es sorted kept =
      values_filtered (is_beside first) (is_protest_of first.entrant first.round) es
      (all_of_each protest_total (λ key row. is_beside first key ≡ is_protest_of first.entrant first.round row) es
      sorted
      (λ key row found. ap (λ (k : ProtestKey). is_beside first k) (sym (kept key row found).own)))
      ∙ ap values_of (stand_together first (is_beside first) beside_between es sorted
      (all_of_each protest_total (λ key row. is_beside first key ≡ true → is_le (protest_cmp first key) ≡ true) es
      sorted (λ key row found. beside_low key (kept key row found).token)))
