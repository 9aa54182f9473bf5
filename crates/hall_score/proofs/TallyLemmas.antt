-- What a tally has taken, row by row.
use Rattle.std.proofs.Common.{arith, ◌≡◌, ◌≤◌, ◌<◌, ◌+◌, ◌+ℤ◌, ◌⊎◌, inl, inr, ℕ, ℤ, pos, Bool, true, false, List, []}
use Rattle.std.proofs.Common.{◌∷◌, ◌++◌, length, All, Contains, Option, Some, None, refl, sym, ap, subst, get_or, ◌∙◌}
use Rattle.std.proofs.Common.{append_assoc, filter, is_some}
use Rattle.std.specs.BTreeMap.{is_at}
use Rattle.std.specs.Ordering.{nat_cmp, ordering_then, ordering_reverse, is_eq}
use Rattle.std.specs.declared.cmp.Ordering.{Ordering}
use Rattle.std.specs.declared.cmp.Ordering.TheVariants.{Less, Equal, Greater}
use Rattle.std.specs.FinMap.{nat_cmp-IsAntisymmetric}
use Rattle.std.proofs.lemmas.List.{append-nil, length_push}
use Rattle.std.proofs.lemmas.List.Quantifiers.{all_pairs_push}
use Rattle.std.proofs.lemmas.List.Sums.{fold_push}
use Rattle.std.proofs.lemmas.List.Elements.{All-push, All-append, All-head, All-tail, All-contains, Contains-push}
use Rattle.std.proofs.lemmas.List.Elements.{Contains-get_or, Contains-append_left, Contains-append_right}
use Rattle.std.proofs.lemmas.List.Elements.{Contains-append_cases, Contains-push_cases, filter-append}
use Rattle.std.proofs.lemmas.Bool.Decides.{nat_tests}
use Rattle.std.specs.Bool.{Decides}
use Rattle.std.specs.Cmp.{unsigned_Decides}
use Rattle.std.specs.Cmp.Lexicographic.{pointwise_decides}
use Rattle.hall_policy.specs.Text.{text_cmp}
use Rattle.hall_policy.specs.World.{same_text, ruling_points}
use Rattle.hall_policy.specs.Sink.{HasTaken}
use Rattle.hall_policy.specs.declared.record.AnswerRow.{AnswerRow}
use Rattle.hall_policy.specs.declared.record.ProtestRow.{ProtestRow}
use Rattle.hall_policy.specs.declared.record.RoundRow.{RoundRow}
use Rattle.hall_policy.proofs.Orders.{text_total, same_texts}
use Rattle.hall_score.specs.Total.{total_of, answer_points, protest_points}
use Rattle.hall_score.specs.Progress.{IsProgressOf, IsAhead}
use Rattle.hall_score.specs.Tally.{answers_by, protests_by, AreTotalsOf, taking_cmp, AreRulingsOf, IsLastOf, AreHeld}
use Rattle.hall_score.specs.Tally.{IsTallyOf, IsNext, TakesAnswer, RefusesAnswer, TakesProtest, RefusesProtest, IsLater}
use Rattle.hall_score.specs.Tally.{IsNextOf, IsPastOf}
use Rattle.hall_score.specs.Rulings.{rulings_at, points_ruled, count_ruled}
use Rattle.hall_score.specs.declared.entrant.Progress.{Progress}
use Rattle.hall_score.specs.declared.entrant.Rulings.{Rulings}
use Rattle.hall_score.specs.declared.entrant.Entrant.{Entrant}
use Rattle.hall_score.specs.declared.tally.Tally.{Tally}
use Rattle.hall_score.proofs.Tried.{alone}

-- ---- names
text_decides : (a b : List ℕ) → Decides (same_text a b) (a ≡ b)
text_decides a b = pointwise_decides unsigned_Decides a b

not_true : (b : Bool) → (b ≡ true → ⊥) → b ≡ false
not_true true h = absurd (h refl)
not_true false h = refl

same_name : (a b : List ℕ) → a ≡ b → same_text a b ≡ true
same_name a b e = (text_decides a b).1 e

other_name : (a b : List ℕ) → (a ≡ b → ⊥) → same_text a b ≡ false
other_name a b apart = not_true (same_text a b) (λ e. apart ((text_decides a b).0 e))

is_equal : (o : Ordering) → is_eq o ≡ true → o ≡ Equal
is_equal Less e = absurd (cc)
is_equal Equal e = refl
is_equal Greater e = absurd (cc)

pub true_not_false : (b : Bool) → b ≡ true → b ≡ false → ⊥
true_not_false b e f = absurd (cc)

by_test : (P : Type 0) (b : Bool) → (b ≡ true → P) → (b ≡ false → P) → P
by_test P true here there = here refl
by_test P false here there = there refl

-- another name is at another place
pub not_at : (name other : List ℕ) → (other ≡ name → ⊥) → is_at (text_cmp name) other ≡ false
not_at name other apart = not_true (is_at (text_cmp name) other)
    (λ e. apart (sym (same_texts name other (is_equal (text_cmp name other) e))))

self_reverse : (o : Ordering) → o ≡ ordering_reverse o → o ≡ Equal
self_reverse Less e = absurd (cc)
self_reverse Equal e = refl
self_reverse Greater e = absurd (cc)

text_same : (a : List ℕ) → text_cmp a a ≡ Equal
text_same a = self_reverse (text_cmp a a) (text_total.antisymm a a)

-- a name below another one is another name
below_other : (a b : List ℕ) → text_cmp a b ≡ Less → a ≡ b → ⊥
below_other a b less same =
    let tie : text_cmp a b ≡ Equal = subst (λ x. text_cmp a x ≡ Equal) same (text_same a) in
    absurd (cc)

filter_none : {X : Type 0} (p : X → Bool) (xs : List X) → All (λ x. p x ≡ false) xs → filter p xs ≡ []
filter_none p [] none = refl
filter_none p (x ∷ xs) none =
    let here = All-head (λ x. p x ≡ false) x xs none in
    let rest = filter_none p xs (All-tail (λ x. p x ≡ false) x xs none) in
    rw here rest

filter_all : {X : Type 0} (p : X → Bool) (xs : List X) → All (λ x. p x ≡ true) xs → filter p xs ≡ xs
filter_all p [] all = refl
filter_all p (x ∷ xs) all =
    let here = All-head (λ x. p x ≡ true) x xs all in
    let rest = filter_all p xs (All-tail (λ x. p x ≡ true) x xs all) in
    rw here (ap (λ l. x ∷ l) rest)

-- ---- an entrant's rows among all
none_own : (earlier : List AnswerRow) (name : List ℕ) → All (λ row. text_cmp row.key.entrant name ≡ Less) earlier
    → answers_by name earlier ≡ []
none_own earlier name below = filter_none (λ row. same_text row.key.entrant name) earlier
    (λ k d within. other_name (get_or earlier k d).key.entrant name
    (below_other (get_or earlier k d).key.entrant name (below k d within)))

all_own : (own : List AnswerRow) (name : List ℕ) → All (λ row. row.key.entrant ≡ name) own → answers_by name own ≡ own
all_own own name is = filter_all (λ row. same_text row.key.entrant name) own
    (λ k d within. same_name (get_or own k d).key.entrant name (is k d within))

others_own : (own : List AnswerRow) (name other : List ℕ) → All (λ row. row.key.entrant ≡ name) own
    → text_cmp other name ≡ Less → answers_by other own ≡ []
others_own own name other is less = filter_none (λ row. same_text row.key.entrant other) own
    (λ k d within. other_name (get_or own k d).key.entrant other
    (λ e. below_other other name less (sym e ∙ is k d within)))

-- ---- an entrant's total after those before
own_reached : (round : RoundRow) (own : List AnswerRow) (progress : Entrant)
    (is : IsProgressOf round own progress.progress) → Contains own is.reached.0
own_reached round own progress is = subst (λ l. Contains l is.reached.0) (sym is.whole)
    (Contains-append_right is.closed is.current is.reached.0 is.reached.1)

answered : (round : RoundRow) (protests : List ProtestRow) (answers : List AnswerRow) (totals : List (List ℕ × ℤ))
    (entrant : Entrant) (points : ℤ) (is : IsLastOf round protests answers totals entrant) (other : List ℕ)
    (row : AnswerRow) → Contains answers row → row.key.entrant ≡ other → (total : ℤ)
    × Contains (totals ++ (entrant.name, points) ∷ []) (other, total)
answered round protests answers totals entrant points is other row among named =
    elim (Contains-append_cases is.earlier is.own row (subst (λ l. Contains l row) is.whole among)) [
      | inl before ↦ let found = (is.totals_are.listed other).0 (row, before, named) in
          (found.0, Contains-append_left totals ((entrant.name, points) ∷ []) (other, found.0) found.1)
      | inr here ↦
          let same : entrant.name ≡ other = sym (All-contains (λ r. r.key.entrant ≡ entrant.name) is.own row is.is_own
          here) ∙ named in (
            points,
            subst (λ n. Contains (totals ++ (entrant.name, points) ∷ []) (n, points)) same
                (Contains-push totals (entrant.name, points)),
          )
    ]

listed_in : (round : RoundRow) (protests : List ProtestRow) (answers : List AnswerRow) (totals : List (List ℕ × ℤ))
    (entrant : Entrant) (points : ℤ) (is : IsLastOf round protests answers totals entrant) (other : List ℕ) (total : ℤ)
    → Contains (totals ++ (entrant.name, points) ∷ []) (other, total) → (row : AnswerRow) × Contains answers row
    × (row.key.entrant ≡ other)
listed_in round protests answers totals entrant points is other total among =
    elim (Contains-push_cases totals (entrant.name, points) (other, total) among) [
      | inl before ↦ let row = (is.totals_are.listed other).1 (total, before) in (
        row.0,
        subst (λ l. Contains l row.0) (sym is.whole) (Contains-append_left is.earlier is.own row.0 row.1),
        row.2,
      )
      | inr same ↦
          let row = is.progress.reached.0 in
          let here = own_reached round is.own entrant is.progress in
          let named : row.key.entrant ≡ entrant.name = All-contains (λ r. r.key.entrant ≡ entrant.name) is.own row
          is.is_own here in (
            row,
            subst (λ l. Contains l row) (sym is.whole) (Contains-append_right is.earlier is.own row here),
            named
                ∙ ap (λ (p : List ℕ × ℤ). p.0) same,
          )
    ]

right_in : (round : RoundRow) (protests : List ProtestRow) (answers : List AnswerRow) (totals : List (List ℕ × ℤ))
    (entrant : Entrant) (points : ℤ) (is : IsLastOf round protests answers totals entrant)
    → points ≡ total_of round is.own (protests_by entrant.name protests)
    → ((other : List ℕ) (total : ℤ) → Contains totals (other, total) → text_cmp other entrant.name ≡ Less)
    → (other : List ℕ) (total : ℤ) → Contains totals (other, total)
    ⊎ (◌≡◌ {A = List ℕ × ℤ} (entrant.name, points) (other, total)) → total ≡ total_of round (answers_by other answers)
    (protests_by other protests)
right_in round protests answers totals entrant points is value lower other total (inl before) =
    let rows : answers_by other answers ≡ answers_by other is.earlier =
    ap (answers_by other) is.whole ∙ (filter-append (λ row. same_text row.key.entrant other) is.earlier is.own
    ∙ (ap (λ l. answers_by other is.earlier ++ l) (others_own is.own entrant.name other is.is_own
    (lower other total before)) ∙ append-nil (answers_by other is.earlier))) in
    is.totals_are.right other total before ∙ ap (λ l. total_of round l (protests_by other protests)) (sym rows)
right_in round protests answers totals entrant points is value lower other total (inr same) =
    let rows : answers_by entrant.name answers ≡ is.own =
    ap (answers_by entrant.name) is.whole ∙ (filter-append (λ row. same_text row.key.entrant entrant.name) is.earlier
    is.own
    ∙ (ap (λ l. l ++ answers_by entrant.name is.own) (none_own is.earlier entrant.name is.before)
    ∙ all_own is.own entrant.name is.is_own)) in
    let named : entrant.name ≡ other = ap (λ (p : List ℕ × ℤ). p.0) same in
    let summed : points ≡ total = ap (λ (p : List ℕ × ℤ). p.1) same in
    subst (λ n. total ≡ total_of round (answers_by n answers) (protests_by n protests)) named
    (sym summed ∙ (value ∙ ap (λ l. total_of round l (protests_by entrant.name protests)) (sym rows)))

pub close_totals : (round : RoundRow) (protests : List ProtestRow) (answers : List AnswerRow)
    (totals : List (List ℕ × ℤ)) (entrant : Entrant) (points : ℤ) (is : IsLastOf round protests answers totals entrant)
    → points ≡ total_of round is.own (protests_by entrant.name protests)
    → AreTotalsOf round protests answers (totals ++ (entrant.name, points) ∷ [])
close_totals round protests answers totals entrant points is value =
    let name = entrant.name in
    let earlier = is.earlier in
    let own = is.own in
    let lower : (other : List ℕ) (total : ℤ) → Contains totals (other, total)
    → text_cmp other name ≡ Less = λ other total among.
    let row = (is.totals_are.listed other).1 (total, among) in
    subst (λ n. text_cmp n name ≡ Less) row.2 (All-contains (λ r. text_cmp r.key.entrant name ≡ Less) earlier row.0
    is.before row.1) in
    record {
      in_order = all_pairs_push (λ a b. text_cmp a.0 b.0 ≡ Less) totals (name, points) is.totals_are.in_order
          (λ k d within. lower (get_or totals k d).0 (get_or totals k d).1 (Contains-get_or totals k d within));
      listed = λ other. (
        (λ found. answered round protests answers totals entrant points is other found.0 found.1 found.2),
        (λ found. listed_in round protests answers totals entrant points is other found.0 found.1),
      );
      right = λ other total among. right_in round protests answers totals entrant points is value lower other total
          (Contains-push_cases totals (name, points) (other, total) among);
    }

-- ---- the next answer
text_less_trans : (a b c : List ℕ) → text_cmp a b ≡ Less → text_cmp b c ≡ Less → text_cmp a c ≡ Less
text_less_trans a b c p q = text_total.trans a b c p q

-- all that was taken is below a later entrant
all_below : (round : RoundRow) (protests : List ProtestRow) (answers : List AnswerRow) (totals : List (List ℕ × ℤ))
    (last : Option Entrant) (row : AnswerRow) → AreHeld round protests answers totals last → IsLater last row
    → All (λ r. text_cmp r.key.entrant row.key.entrant ≡ Less) answers
all_below round protests answers totals None row held later = subst
    (λ l. All (λ r. text_cmp r.key.entrant row.key.entrant ≡ Less) l) (sym held.0) (λ k d within. absurd (omega arith))
all_below round protests answers totals (Some entrant) row held later =
    subst (λ l. All (λ r. text_cmp r.key.entrant row.key.entrant ≡ Less) l) (sym held.whole)
    (All-append (λ r. text_cmp r.key.entrant row.key.entrant ≡ Less) held.earlier held.own
    (λ k d within. text_less_trans (get_or held.earlier k d).key.entrant entrant.name row.key.entrant
    (held.before k d within) later)
    (λ k d within. subst (λ n. text_cmp n row.key.entrant ≡ Less) (sym (held.is_own k d within)) later))

-- an answer of a later entrant comes after all of them
below_next : (answers : List AnswerRow) (row : AnswerRow) → All (λ r. text_cmp r.key.entrant row.key.entrant ≡ Less)
    answers → IsNext answers row
below_next answers row below k d within =
    let before = get_or answers k d in
    ap (λ o. ordering_then o (ordering_then (nat_cmp before.key.number row.key.number) (nat_cmp before.n row.n)))
    (below k d within)

nat_below : (a b : ℕ) → a < b → nat_cmp a b ≡ Less
nat_below a b h = grind (arith, nat_tests)

nat_tie : (a b : ℕ) → a ≡ b → nat_cmp a b ≡ Equal
nat_tie a b e = grind (arith, nat_tests)

-- of one entrant, an answer to a later puzzle comes after, and to the same puzzle one with a greater n
turn_less : (before row : AnswerRow) → before.key.entrant ≡ row.key.entrant → (before.key.number < row.key.number)
    ⊎ ((before.key.number ≡ row.key.number) × (before.n < row.n)) → taking_cmp before row ≡ Less
turn_less before row same ahead =
    let tie : text_cmp before.key.entrant row.key.entrant ≡ Equal = subst (λ e. text_cmp before.key.entrant e ≡ Equal)
    same (text_same before.key.entrant) in
    ap (λ o. ordering_then o (ordering_then (nat_cmp before.key.number row.key.number) (nat_cmp before.n row.n))) tie
    ∙ elim ahead [
      | inl lower ↦ ap (λ o. ordering_then o (nat_cmp before.n row.n))
          (nat_below before.key.number row.key.number lower)
      | inr fewer ↦ ap (λ o. ordering_then o (nat_cmp before.n row.n))
          (nat_tie before.key.number row.key.number fewer.0) ∙ nat_below before.n row.n fewer.1
    ]

closed_less : (before row : AnswerRow) (progress : Progress) → before.key.number < progress.number
    → IsAhead progress row → before.key.number < row.key.number
closed_less before row progress below (inl lower) = omega (arith, below, lower)
closed_less before row progress below (inr fewer) = omega (arith, below, fewer.0)

current_less : (before row : AnswerRow) (progress : Progress) → before.key.number ≡ progress.number
    → before.n ≤ progress.n → IsAhead progress row → (before.key.number < row.key.number)
    ⊎ ((before.key.number ≡ row.key.number) × (before.n < row.n))
current_less before row progress here up_to (inl lower) = inl (omega (arith, here, lower))
current_less before row progress here up_to (inr fewer) = inr (here ∙ fewer.0, omega (arith, up_to, fewer.1))

-- the last entrant's answer that is ahead of those so far comes after all of them
ahead_next : (round : RoundRow) (protests : List ProtestRow) (answers : List AnswerRow) (totals : List (List ℕ × ℤ))
    (entrant : Entrant) (row : AnswerRow) → IsLastOf round protests answers totals entrant
    → entrant.name ≡ row.key.entrant → IsAhead entrant.progress row → IsNext answers row
ahead_next round protests answers totals entrant row held named ahead =
    let progress = held.progress in
    let own : (before : AnswerRow) → before.key.entrant ≡ entrant.name → (before.key.number < row.key.number)
    ⊎ ((before.key.number ≡ row.key.number) × (before.n < row.n)) → taking_cmp before row ≡ Less = λ before is less.
    turn_less before row (is ∙ named) less in
    let whole : answers ≡ held.earlier ++ (progress.closed ++ progress.current) = held.whole
    ∙ ap (λ l. held.earlier ++ l) progress.whole in
    let owned : All (λ r. r.key.entrant ≡ entrant.name) (progress.closed ++ progress.current) = subst
    (All (λ r. r.key.entrant ≡ entrant.name)) progress.whole held.is_own in
    subst (λ l. IsNext l row) (sym whole)
    (All-append (λ r. taking_cmp r row ≡ Less) held.earlier (progress.closed ++ progress.current)
    (below_next held.earlier row (subst (λ n. All (λ r. text_cmp r.key.entrant n ≡ Less) held.earlier) named
    held.before))
    (All-append (λ r. taking_cmp r row ≡ Less) progress.closed progress.current
    (λ k d within. let r = get_or progress.closed k d in own r
    (All-contains (λ x. x.key.entrant ≡ entrant.name) (progress.closed ++ progress.current) r owned
    (Contains-append_left progress.closed progress.current r (Contains-get_or progress.closed k d within)))
    (inl (closed_less r row entrant.progress (progress.before k d within) ahead)))
    (λ k d within. let r = get_or progress.current k d in own r
    (All-contains (λ x. x.key.entrant ≡ entrant.name) (progress.closed ++ progress.current) r owned
    (Contains-append_right progress.closed progress.current r (Contains-get_or progress.current k d within)))
    (current_less r row entrant.progress (progress.here k d within) (progress.up_to k d within) ahead))))

pub begin_takes : (before after : Tally) (row : AnswerRow) (entrant : Entrant) → IsLater before.last row
    → after.round ≡ before.round → after.rulings ≡ before.rulings → after.last ≡ Some entrant
    → entrant.name ≡ row.key.entrant → IsProgressOf before.round (row ∷ []) entrant.progress
    → ((round : RoundRow) (protests : List ProtestRow) (answers : List AnswerRow)
    → IsTallyOf round protests answers before → AreTotalsOf round protests answers after.totals)
    → TakesAnswer before row after
begin_takes before after row who later same_round same_ruled last named progress closed round protests answers is = (
  below_next answers row (all_below round protests answers before.totals before.last row is.answers_are later),
  record {
    round_is = same_round ∙ is.round_is;
    rulings_are = subst (λ r. AreRulingsOf protests (rulings_at r)) (sym same_ruled) is.rulings_are;
    answers_are = subst (AreHeld round protests (answers ++ row ∷ []) after.totals) (sym last) (record {
      earlier = answers;
      own = row ∷ [];
      whole = refl;
      before = subst (λ n. All (λ r. text_cmp r.key.entrant n ≡ Less) answers) (sym named)
          (all_below round protests answers before.totals before.last row is.answers_are later);
      is_own = alone (λ r. r.key.entrant ≡ who.name) row (sym named);
      progress = subst (λ r. IsProgressOf r (row ∷ []) who.progress) is.round_is progress;
      totals_are = closed round protests answers is;
    });
  },
)

pub next_takes : (before after : Tally) (row : AnswerRow) (entrant next : Entrant) → before.last ≡ Some entrant
    → entrant.name ≡ row.key.entrant → IsAhead entrant.progress row → after.round ≡ before.round
    → after.rulings ≡ before.rulings → after.totals ≡ before.totals → after.last ≡ Some next → next.name ≡ entrant.name
    → ((rows : List AnswerRow) → IsProgressOf before.round rows entrant.progress
    → IsProgressOf before.round (rows ++ row ∷ []) next.progress) → TakesAnswer before row after
next_takes before after row entrant next last named ahead same_round same_ruled same_totals now_last still_named more
    round protests answers is =
    let held : IsLastOf round protests answers before.totals entrant = subst
    (AreHeld round protests answers before.totals) last is.answers_are in (
      ahead_next round protests answers before.totals entrant row held named ahead,
      record {
        round_is = same_round ∙ is.round_is;
        rulings_are = subst (λ r. AreRulingsOf protests (rulings_at r)) (sym same_ruled) is.rulings_are;
        answers_are = subst (AreHeld round protests (answers ++ row ∷ []) after.totals) (sym now_last) (record {
          earlier = held.earlier;
          own = held.own ++ row ∷ [];
          whole = ap (λ l. l ++ row ∷ []) held.whole ∙ append_assoc held.earlier held.own (row ∷ []);
          before = subst (λ n. All (λ r. text_cmp r.key.entrant n ≡ Less) held.earlier) (sym still_named) held.before;
          is_own = subst (λ n. All (λ r. r.key.entrant ≡ n) (held.own ++ row ∷ [])) (sym still_named)
              (All-push (λ r. r.key.entrant ≡ entrant.name) held.own row held.is_own (sym named));
          progress = subst (λ r. IsProgressOf r (held.own ++ row ∷ []) next.progress) is.round_is
              (more held.own (subst (λ r. IsProgressOf r held.own entrant.progress) (sym is.round_is) held.progress));
          totals_are = subst (AreTotalsOf round protests held.earlier) (sym same_totals) held.totals_are;
        });
      },
    )

-- ---- an answer that isn't the next
then_equal : (a b : Ordering) → a ≡ Equal → ordering_then a b ≡ Less → b ≡ Less
then_equal Less b e f = absurd (cc)
then_equal Equal b e f = f
then_equal Greater b e f = absurd (cc)

then_greater : (a b : Ordering) → a ≡ Greater → ordering_then a b ≡ Less → ⊥
then_greater Less b e f = absurd (cc)
then_greater Equal b e f = absurd (cc)
then_greater Greater b e f = absurd (cc)

then_less : (a b : Ordering) → ordering_then a b ≡ Less → (a ≡ Less) ⊎ ((a ≡ Equal) × (b ≡ Less))
then_less Less b f = inl refl
then_less Equal b f = inr (refl, f)
then_less Greater b f = absurd (cc)

nat_less : (a b : ℕ) → nat_cmp a b ≡ Less → a < b
nat_less a b e = grind (arith, nat_tests)

nat_same : (a b : ℕ) → nat_cmp a b ≡ Equal → a ≡ b
nat_same a b e = nat_cmp-IsAntisymmetric a b e

-- of one entrant, an answer after the one reached is ahead of the progress
ahead_of : (own row : AnswerRow) (progress : Progress) → own.key.entrant ≡ row.key.entrant
    → own.key.number ≡ progress.number → own.n ≡ progress.n → taking_cmp own row ≡ Less → IsAhead progress row
ahead_of own row progress entrant number n less =
    let tie : text_cmp own.key.entrant row.key.entrant ≡ Equal = subst (λ e. text_cmp own.key.entrant e ≡ Equal) entrant
    (text_same own.key.entrant) in
    let rest = then_equal (text_cmp own.key.entrant row.key.entrant)
    (ordering_then (nat_cmp own.key.number row.key.number) (nat_cmp own.n row.n)) tie less in
    elim (then_less (nat_cmp own.key.number row.key.number) (nat_cmp own.n row.n) rest) [
      | inl lower ↦ inl (subst (λ k. k < row.key.number) number (nat_less own.key.number row.key.number lower))
      | inr same ↦ inr (
        sym number ∙ nat_same own.key.number row.key.number same.0,
        subst (λ k. k < row.n) n
            (nat_less own.n row.n same.1),
      )
    ]

pub past_refuses : (tally : Tally) (row : AnswerRow) (entrant : Entrant) → tally.last ≡ Some entrant
    → (text_cmp entrant.name row.key.entrant ≡ Greater) ⊎ ((entrant.name ≡ row.key.entrant)
    × (¬ (IsAhead entrant.progress row))) → RefusesAnswer tally row
past_refuses tally row entrant last past round protests answers is next =
    let held : IsLastOf round protests answers tally.totals entrant = subst
    (AreHeld round protests answers tally.totals) last is.answers_are in
    let own = held.progress.reached.0 in
    let among = own_reached round held.own entrant held.progress in
    let named : own.key.entrant ≡ entrant.name = All-contains (λ r. r.key.entrant ≡ entrant.name) held.own own
    held.is_own among in
    let below : taking_cmp own row ≡ Less = All-contains (λ r. taking_cmp r row ≡ Less) answers own next
    (subst (λ l. Contains l own) (sym held.whole) (Contains-append_right held.earlier held.own own among)) in
    elim past [
      | inl greater ↦ then_greater (text_cmp own.key.entrant row.key.entrant)
          (ordering_then (nat_cmp own.key.number row.key.number) (nat_cmp own.n row.n))
          (subst (λ e. text_cmp e row.key.entrant ≡ Greater) (sym named) greater) below
      | inr same ↦ same.1 (ahead_of own row entrant.progress (named ∙ same.0)
          (All-contains (λ r. r.key.number ≡ entrant.progress.number) held.progress.current own held.progress.here
          held.progress.reached.1) held.progress.reached.2 below)
    ]

-- ---- protests
protest_push : (protests : List ProtestRow) (row : ProtestRow) (name : List ℕ) → row.key.entrant ≡ name
    → protests_by name (protests ++ row ∷ []) ≡ protests_by name protests ++ row ∷ []
protest_push protests row name same =
    let here : protests_by name (row ∷ []) ≡ row ∷ [] = filter_all (λ r. same_text r.key.entrant name) (row ∷ [])
    (alone (λ r. same_text r.key.entrant name ≡ true) row (same_name row.key.entrant name same)) in
    filter-append (λ r. same_text r.key.entrant name) protests (row ∷ [])
    ∙ ap (λ l. protests_by name protests ++ l) here

protest_other : (protests : List ProtestRow) (row : ProtestRow) (name : List ℕ) → (row.key.entrant ≡ name → ⊥)
    → protests_by name (protests ++ row ∷ []) ≡ protests_by name protests
protest_other protests row name apart =
    let here : protests_by name (row ∷ []) ≡ [] = filter_none (λ r. same_text r.key.entrant name) (row ∷ [])
    (alone (λ r. same_text r.key.entrant name ≡ false) row (other_name row.key.entrant name apart)) in
    filter-append (λ r. same_text r.key.entrant name) protests (row ∷ [])
    ∙ (ap (λ l. protests_by name protests ++ l) here ∙ append-nil (protests_by name protests))

by_name : (P : Type 0) (a b : List ℕ) → (a ≡ b → P) → ((a ≡ b → ⊥) → P) → P
by_name P a b same other = by_test P (same_text a b) (λ e. same ((text_decides a b).0 e))
    (λ e. other (λ f. true_not_false (same_text a b) ((text_decides a b).1 f) e))

next_points : (protests : List ProtestRow) (row : ProtestRow) (old new : List ℕ → Option Rulings) (next : Rulings)
    → AreRulingsOf protests old → next.points ≡ points_ruled (old row.key.entrant) +ℤ ruling_points row.ruling
    → new row.key.entrant ≡ Some next → ((other : List ℕ) → ¬ (other ≡ row.key.entrant) → new other ≡ old other)
    → (name : List ℕ) → points_ruled (new name) ≡ protest_points (protests_by name (protests ++ row ∷ []))
next_points protests row old new next is points here others name = by_name
    (points_ruled (new name) ≡ protest_points (protests_by name (protests ++ row ∷ []))) row.key.entrant name
    (λ same.
    let at : new name ≡ Some next = subst (λ n. new n ≡ Some next) same here in
    let sum : protest_points (protests_by name protests ++ row ∷ []) ≡ protest_points (protests_by name protests) +ℤ
    ruling_points row.ruling = fold_push (λ s r. s +ℤ ruling_points r.ruling) (pos 0) (protests_by name protests)
    row in
    ap points_ruled at ∙ (points ∙ (ap (λ n. points_ruled (old n) +ℤ ruling_points row.ruling) same
    ∙ (ap (λ z. z +ℤ ruling_points row.ruling) (is.points name)
    ∙ (sym sum ∙ ap protest_points (sym (protest_push protests row name same)))))))
    (λ apart.
    let at : new name ≡ old name = others name (λ e. apart (sym e)) in
    ap points_ruled at ∙ (is.points name ∙ ap protest_points (sym (protest_other protests row name apart))))

next_count : (protests : List ProtestRow) (row : ProtestRow) (old new : List ℕ → Option Rulings) (next : Rulings)
    → AreRulingsOf protests old → next.count ≡ count_ruled (old row.key.entrant) + 1 → new row.key.entrant ≡ Some next
    → ((other : List ℕ) → ¬ (other ≡ row.key.entrant) → new other ≡ old other) → (name : List ℕ)
    → count_ruled (new name) ≡ length (protests_by name (protests ++ row ∷ []))
next_count protests row old new next is count here others name = by_name
    (count_ruled (new name) ≡ length (protests_by name (protests ++ row ∷ []))) row.key.entrant name
    (λ same.
    let at : new name ≡ Some next = subst (λ n. new n ≡ Some next) same here in
    ap count_ruled at ∙ (count ∙ (ap (λ n. count_ruled (old n) + 1) same
    ∙ (ap (λ n. n + 1) (is.count name) ∙ (sym (length_push (protests_by name protests) row)
    ∙ ap length (sym (protest_push protests row name same)))))))
    (λ apart.
    let at : new name ≡ old name = others name (λ e. apart (sym e)) in
    ap count_ruled at ∙ (is.count name ∙ ap length (sym (protest_other protests row name apart))))

-- a tally with a last entrant has taken an answer
held_by_none : (round : RoundRow) (protests : List ProtestRow) (totals : List (List ℕ × ℤ)) (entrant : Entrant)
    → IsLastOf round protests [] totals entrant → ⊥
held_by_none round protests totals entrant held =
    let among = own_reached round held.own entrant held.progress in
    let all : Contains [] held.progress.reached.0 = subst (λ l. Contains l held.progress.reached.0) (sym held.whole)
    (Contains-append_right held.earlier held.own held.progress.reached.0 among) in
    omega (arith, all.1)

pub protest_takes : (before after : Tally) (row : ProtestRow) (next : Rulings) → before.last ≡ None
    → after.round ≡ before.round → after.totals ≡ before.totals → after.last ≡ before.last
    → next.points ≡ points_ruled (rulings_at before.rulings row.key.entrant) +ℤ ruling_points row.ruling
    → next.count ≡ count_ruled (rulings_at before.rulings row.key.entrant) + 1
    → rulings_at after.rulings row.key.entrant ≡ Some next →
    ((other : List ℕ) → ¬ (other ≡ row.key.entrant) → rulings_at after.rulings other ≡ rulings_at before.rulings other)
    → TakesProtest before row after
protest_takes before after row next none same_round same_totals same_last points count here others = (
  none,
  λ round protests is. record {
    round_is = same_round ∙ is.round_is;
    rulings_are = record {
      points = next_points protests row (rulings_at before.rulings) (rulings_at after.rulings) next is.rulings_are
          points here others;
      count = next_count protests row (rulings_at before.rulings) (rulings_at after.rulings) next is.rulings_are count
          here others;
    };
    answers_are =
        let held : AreHeld round protests [] before.totals None = subst (AreHeld round protests [] before.totals) none
        is.answers_are in
        subst (AreHeld round (protests ++ row ∷ []) [] after.totals) (sym (same_last ∙ none))
        (held.0, same_totals ∙ held.1);
  },
)

-- whether there is a last entrant
pub none_last : (last : Option Entrant) → is_some last ≡ false → last ≡ None
none_last None none = refl
none_last (Some entrant) none = absurd (cc)

late : (tally : Tally) (row : ProtestRow) (last : Option Entrant) → tally.last ≡ last → is_some last ≡ true
    → RefusesProtest tally row
late tally row None same some = absurd (cc)
late tally row (Some entrant) same some = λ round protests is.
    absurd (held_by_none round protests tally.totals entrant
    (subst (AreHeld round protests [] tally.totals) same is.answers_are))

pub late_refuses : (tally : Tally) (row : ProtestRow) → is_some tally.last ≡ true → RefusesProtest tally row
late_refuses tally row some = late tally row tally.last refl some

-- ---- rows one after another
pub took_answers : (round : RoundRow) (protests : List ProtestRow) (before : Tally) (taken answers : List AnswerRow)
    (after : Tally) → IsTallyOf round protests taken before → HasTaken TakesAnswer before answers after
    → IsTallyOf round protests (taken ++ answers) after
took_answers round protests before taken [] after is chain = subst (λ l. IsTallyOf round protests l after)
    (sym (append-nil taken)) (subst (IsTallyOf round protests taken) (sym chain) is)
took_answers round protests before taken (row ∷ answers) after is chain =
    subst (λ l. IsTallyOf round protests l after) (append_assoc taken (row ∷ []) answers)
    (took_answers round protests chain.0 (taken ++ row ∷ []) answers after (chain.1 round protests taken is).1 chain.2)

pub took_protests : (round : RoundRow) (before : Tally) (taken protests : List ProtestRow) (after : Tally)
    → IsTallyOf round taken [] before → HasTaken TakesProtest before protests after
    → IsTallyOf round (taken ++ protests) [] after
took_protests round before taken [] after is chain = subst (λ l. IsTallyOf round l [] after) (sym (append-nil taken))
    (subst (IsTallyOf round taken []) (sym chain) is)
took_protests round before taken (row ∷ protests) after is chain =
    subst (λ l. IsTallyOf round l [] after) (append_assoc taken (row ∷ []) protests)
    (took_protests round chain.0 (taken ++ row ∷ []) protests after (chain.1.1 round taken is) chain.2)

-- ---- the calls
pub closed_last : (tally : Tally) (entrant : Entrant) (name : List ℕ) (v z : ℤ) (totals : List (List ℕ × ℤ))
    → tally.last ≡ Some entrant → name ≡ entrant.name → z ≡ v +ℤ points_ruled (rulings_at tally.rulings entrant.name)
    → ((rows : List AnswerRow) → IsProgressOf tally.round rows entrant.progress → v ≡ answer_points tally.round rows)
    → totals ≡ tally.totals ++ (name, z) ∷ [] → (round : RoundRow) (protests : List ProtestRow)
    (answers : List AnswerRow) → IsTallyOf round protests answers tally → AreTotalsOf round protests answers totals
closed_last tally entrant name v z totals last named value points pushed round protests answers is =
    let held : IsLastOf round protests answers tally.totals entrant = subst
    (AreHeld round protests answers tally.totals) last is.answers_are in
    let progress : v ≡ answer_points round held.own = subst (λ r. v ≡ answer_points r held.own) is.round_is
    (points held.own (subst (λ r. IsProgressOf r held.own entrant.progress) (sym is.round_is) held.progress)) in
    let ruled : points_ruled (rulings_at tally.rulings entrant.name) ≡ protest_points
    (protests_by entrant.name protests) = is.rulings_are.points entrant.name in
    let whole : z ≡ total_of round held.own (protests_by entrant.name protests) = value
    ∙ (ap (λ a. a +ℤ points_ruled (rulings_at tally.rulings entrant.name)) progress
    ∙ ap (λ b. answer_points round held.own +ℤ b) ruled) in
    subst (AreTotalsOf round protests answers) (sym (pushed ∙ ap (λ n. tally.totals ++ (n, z) ∷ []) named))
    (close_totals round protests answers tally.totals entrant z held whole)

pub turn_next : (last : Option Entrant) (entrant : Entrant) (row : AnswerRow) → last ≡ Some entrant
    → text_cmp entrant.name row.key.entrant ≡ Equal → IsAhead entrant.progress row → IsNextOf last row
turn_next last entrant row is tie ahead = subst (λ l. IsNextOf l row) (sym is)
    (same_texts entrant.name row.key.entrant tie, ahead)

pub turn_late : (last : Option Entrant) (entrant : Entrant) (row : AnswerRow) → last ≡ Some entrant
    → text_cmp entrant.name row.key.entrant ≡ Equal → ¬ (IsAhead entrant.progress row) → IsPastOf last row
turn_late last entrant row is tie behind = subst (λ l. IsPastOf l row) (sym is)
    (inr (same_texts entrant.name row.key.entrant tie, behind))

pub turn_past : (last : Option Entrant) (entrant : Entrant) (row : AnswerRow) → last ≡ Some entrant
    → text_cmp entrant.name row.key.entrant ≡ Greater → IsPastOf last row
turn_past last entrant row is greater = subst (λ l. IsPastOf l row) (sym is) (inl greater)

refused : (tally : Tally) (row : AnswerRow) (last : Option Entrant) → tally.last ≡ last → IsPastOf last row
    → RefusesAnswer tally row
refused tally row None same past = absurd past
refused tally row (Some entrant) same past = past_refuses tally row entrant same past

pub turn_refuses : (tally : Tally) (row : AnswerRow) → IsPastOf tally.last row → RefusesAnswer tally row
turn_refuses tally row past = refused tally row tally.last refl past

pub next_at : (last : Option Entrant) (entrant : Entrant) (row : AnswerRow) → last ≡ Some entrant → IsNextOf last row
    → (entrant.name ≡ row.key.entrant) × IsAhead entrant.progress row
next_at last entrant row is next = subst (λ l. IsNextOf l row) is next
