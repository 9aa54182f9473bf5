-- Nobody has two turns while another waits for one.
use Rattle.std.proofs.Common.{◌≡◌, ◌≢◌, ◌∙◌, sym, ap, subst, refl, arith, ℕ, ◌+◌, ◌<◌, ◌≤◌, ◌==◌, inl, inr, ◌⊎◌, List}
use Rattle.std.proofs.Common.{[]}
use Rattle.std.proofs.Common.{suc, zero, map, ◌∷◌, ◌++◌, length, take, append_assoc, length-append, true, false, Some}
use Rattle.std.specs.Prelude.{All, Bool, Option, ◌||◌}
use Rattle.std.specs.List.{AllByRecursion, IsDistinct}
use Rattle.std.proofs.lemmas.Bool.{eqb-true}
use Rattle.std.proofs.lemmas.Bool.Decides.{leb_tells}
use Rattle.std.proofs.lemmas.Grind.{flat_map-append}
use Rattle.std.proofs.lemmas.List.{append-nil, length_push, map-append, take-append-le, take_all}
use Rattle.std.proofs.lemmas.List.Elements.{All-pop}
use Rattle.std.proofs.lemmas.Map.Keys.{IsDistinct-cons, IsDistinct-head, IsDistinct-tail}
use Rattle.hall_http.specs.Coming.{Heard, Nexts, logged, turn, turns_in}
use Rattle.hall_http.specs.Fair.{AreDistinctPlaces, CanGoOn, NobodyTwice, Owes}
use Rattle.hall_http.specs.Fair.{PassesBy, StandsInLine, WasHeard, turn_at, turned}
use Rattle.hall_http.specs.Limits.{most_connections}
use Rattle.hall_http.specs.Line.{has}
use Rattle.hall_http.specs.Queue.{ComeBehind, GoesAhead, IsFirst, called}
use Rattle.http_server.specs.declared.log.Log.{Log}
use Rattle.hall_http.specs.Seats.{AreCalled, CallsOne, HasHeard, MayCall, heard_in}
use Rattle.hall_http.specs.declared.client.Step.{Step}
use Rattle.hall_http.specs.declared.client.Step.TheVariants as step
use Rattle.hall_http.specs.declared.places.Places.{Places}
use Rattle.hall_http.specs.declared.queue.Queue.{Queue}
use Rattle.hall_http.specs.declared.server.Next.{Next}
use Rattle.hall_http.specs.declared.server.Next.TheVariants as next
use Rattle.hall_http.proofs.Comings.{turns_more}
use Rattle.hall_http.proofs.Lines.{nobody, numbers}

-- one of a list with one more at its end is that, or one of the list
pub last_or : {A : Type 0} (front rest xs : List A) (one last : A) → xs ++ last ∷ [] ≡ front ++ one ∷ rest
    → ((rest ≡ []) × (one ≡ last) × (front ≡ xs))
    ⊎ ((less : List A) × (rest ≡ less ++ last ∷ []) × (xs ≡ front ++ one ∷ less))
last_or [] rest [] one last is = inl (cc, cc, refl)
last_or [] rest (x ∷ xs) one last is = inr (xs, cc, cc)
last_or (f ∷ []) rest [] one last is = absurd cc
last_or (f ∷ g ∷ front) rest [] one last is = absurd cc
last_or (f ∷ front) rest (x ∷ xs) one last is =
    let tails : xs ++ last ∷ [] ≡ front ++ one ∷ rest = cc in
    elim (last_or front rest xs one last tails) [
      | inl same ↦ inl (same.0, same.1, cc)
      | inr more ↦ inr (more.0, more.1, cc)
    ]

all_without : (P : ℕ → Type 0) (xs ys zs : List ℕ) → AllByRecursion P (xs ++ ys ++ zs) → AllByRecursion P (xs ++ zs)
all_without P [] [] zs is = is
all_without P [] (y ∷ ys) zs is = all_without P [] ys zs is.1
all_without P (x ∷ xs) ys zs is = (is.0, all_without P xs ys zs is.1)

-- those of a list of which none is twice, without some of them
distinct_without : (xs ys zs : List ℕ) → AreDistinctPlaces (xs ++ ys ++ zs) → AreDistinctPlaces (xs ++ zs)
distinct_without [] [] zs is = is
distinct_without [] (y ∷ ys) zs is =
    distinct_without [] ys zs (IsDistinct-tail (λ one other. one == other) y (ys ++ zs) is)
distinct_without (x ∷ xs) ys zs is =
    IsDistinct-cons (λ one other. one == other) x (xs ++ zs)
    (all_without (λ one. (x == one) ≡ false) xs ys zs
    (IsDistinct-head (λ one other. one == other) x (xs ++ ys ++ zs) is))
    (distinct_without xs ys zs (IsDistinct-tail (λ one other. one == other) x (xs ++ ys ++ zs) is))

distinct_front : (xs ys : List ℕ) → AreDistinctPlaces (xs ++ ys) → AreDistinctPlaces xs
distinct_front xs ys is =
    subst AreDistinctPlaces (append-nil xs)
    (distinct_without xs ys [] (subst AreDistinctPlaces (sym (append-nil (xs ++ ys))) is))

or_either : (one other : Bool) → (one || other) ≡ true → (one ≡ true) ⊎ (other ≡ true)
or_either true other is = inl refl
or_either false other is = inr is

-- whoever is in a line stands behind some, who are apart where all are
stands_in : (line : List ℕ) (place : ℕ) → has line place ≡ true
    → (ahead behind : List ℕ) × (line ≡ ahead ++ place ∷ behind)
stands_in [] place is = absurd cc
stands_in (one ∷ rest) place is = elim (or_either (one == place) (has rest place) is) [
  | inl here ↦ ([], rest, ap (λ x. x ∷ rest) (eqb-true one place here))
  | inr there ↦
      let (ahead, behind, found) = stands_in rest place there in (one ∷ ahead, behind, ap (λ xs. one ∷ xs) found)
]

pub behind_same : (queue : Queue) → ComeBehind queue queue
behind_same queue = (refl, [], sym (append-nil queue.waiting.items))

pub behind_then : (old mid new : Queue) → ComeBehind old mid → ComeBehind mid new → ComeBehind old new
behind_then old mid new (same, more, is) (also, others, then) = (
  also ∙ same,
  more ++ others,
  then ∙ ap (λ xs. xs ++ others) is ∙ append_assoc old.waiting.items more others,
)

pub ahead_then : (old mid new : Queue) (place : ℕ) → ComeBehind old mid → GoesAhead mid place new
    → GoesAhead old place new
ahead_then old mid new place (same, more, is) (others, then) = (
  more ++ others,
  sym (append_assoc old.waiting.items more others) ∙ ap (λ xs. xs ++ others) (sym is) ∙ then,
)

-- what was next, with one more
pub logged_more : {P B : Type 0} (log then : Log (Next P) B) (one : Next P) (more : B)
    → then.items ≡ log.items ++ (one, more) ∷ [] → logged then ≡ logged log ++ one ∷ []
logged_more log then one more is =
    ap (λ items. map (λ said. said.0) items) is ∙ map-append (λ said. said.0) log.items ((one, more) ∷ [])

-- and what was heard
pub heard_more : (old new : Places) (told : Heard) → HasHeard old told new
    → heard_in new ≡ heard_in old ++ told ∷ []
heard_more old new told is =
    ap (λ items. map (λ one. one.0) items) is.3
    ∙ map-append (λ one. one.0) old.heard.items ((told, old.elapsed) ∷ [])

-- the first in line goes
pub popped_ahead : (old new : Queue) (place : ℕ) → old.waiting.items ≡ place ∷ new.waiting.items
    → GoesAhead old place new
popped_ahead old new place is = ([], append-nil old.waiting.items ∙ is)

-- and is one of those that there are
pub first_within : (queue : Queue) (place : ℕ) → IsFirst queue place → place < most_connections
first_within queue place (behind, is) =
    queue.within place (subst (λ xs. has xs place ≡ true) (sym is) (rw (numbers.refl place) refl))

-- of a turn nothing was heard that is yet to be heard
not_yet : (heard : List Heard) (count : ℕ) (told : ℕ × Step) → length heard ≤ count → WasHeard heard count told → ⊥
not_yet heard count told few (front, rest, held, is, long) =
    absurd (omega (arith, few, long, ap length is, length-append front ((told, held) ∷ rest)))

-- what was heard so far, or this is the last
heard_or : (heard : List Heard) (count : ℕ) (told : ℕ × Step) (one : Heard)
    → WasHeard (heard ++ one ∷ []) count told
    → WasHeard heard count told ⊎ ((one.0 ≡ told) × (count ≡ length heard))
heard_or heard count told one (front, rest, held, is, long) =
    elim (last_or front rest heard (told, held) one is) [
      | inl (none, same, before) ↦ inr (ap (λ h. h.0) (sym same), sym long ∙ ap length before)
      | inr (less, more, before) ↦ inl (front, less, held, before, long)
    ]

-- whoever is in line stands so at first
stands_first : (P : Type 0) (queue : Queue) (place : ℕ) → has queue.waiting.items place ≡ true
    → StandsInLine {P = P} [] place queue.waiting.items
stands_first P queue place waits =
    let (ahead, behind, found) = stands_in queue.waiting.items place waits in
    (ahead, behind, found, distinct_front ahead (place ∷ behind) (subst AreDistinctPlaces found queue.line.1))

module _ {P : Type 0} where
  -- one is let go that doesn't stand in line
  pub lets_go : (old new : Queue) (said : Option (Next P)) (place : ℕ) → said ≡ Some (next.Gone place) → new ≡ old
      → MayCall old said new
  lets_go old new said place is same =
      subst (λ told. MayCall old told new) (sym is) (inl (subst (λ q. ComeBehind old q) (sym same) (behind_same old)))

  -- one is let go that stood in line, as the first
  pub lets_go_first : (old mid new : Queue) (said : Option (Next P)) (place : ℕ) → said ≡ Some (next.Gone place)
      → called mid ≡ called old ++ [] → old.waiting.items ≡ place ∷ mid.waiting.items → new ≡ mid
      → MayCall old said new
  lets_go_first old mid new said place is none goes same =
      let off : (called mid ≡ called old) × GoesAhead old place mid =
      (none ∙ append-nil (called old), popped_ahead old mid place goes) in
      subst (λ told. MayCall old told new) (sym is)
      (inr (subst (λ q. (called q ≡ called old) × GoesAhead old place q) (sym same) off))

  pub calls_then : (old mid new : Queue) (said : Next P) → ComeBehind old mid → CallsOne mid said new
      → CallsOne old said new
  calls_then old mid new (next.Turn place) come (called, goes, few) =
      (called ∙ ap (λ xs. xs ++ place ∷ []) come.0, ahead_then old mid new place come goes, few)
  calls_then old mid new (next.Newcomer place peer) come (also, waits) = (behind_then old mid new come also, waits)
  calls_then old mid new (next.Gone place) come (inl also) = inl (behind_then old mid new come also)
  calls_then old mid new (next.Gone place) come (inr (called, goes)) =
      inr (called ∙ come.0, ahead_then old mid new place come goes)
  calls_then old mid new next.Answer come also = behind_then old mid new come also
  calls_then old mid new next.End come also = behind_then old mid new come also
  calls_then old mid new next.Refused come also = behind_then old mid new come also

  turned_more : (xs : Nexts P) (x : Next P) → turned (xs ++ x ∷ []) ≡ turned xs ++ turn_at x
  turned_more xs x = flat_map-append turn_at xs (x ∷ []) ∙ ap (λ ys. turned xs ++ ys) (append-nil (turn_at x))

  -- those that had turns were called, also with one more
  pub called_more : (nexts : Nexts P) (one : Next P) (old new : Queue) → AreCalled nexts old → CallsOne old one new
      → AreCalled (nexts ++ one ∷ []) new
  called_more nexts one old new are calls = turned_more nexts one ∙ by one calls
    where
      still : called new ≡ called old → turned nexts ++ [] ≡ called new
      still same = append-nil (turned nexts) ∙ are ∙ sym same

      by : (one : Next P) → CallsOne old one new → turned nexts ++ turn_at one ≡ called new
      by (next.Turn place) (is, goes, few) = ap (λ xs. xs ++ place ∷ []) are ∙ sym is
      by (next.Newcomer place peer) (come, waits) = still come.0
      by (next.Gone place) (inl come) = still come.0
      by (next.Gone place) (inr (same, goes)) = still same
      by next.Answer come = still come.0
      by next.End come = still come.0
      by next.Refused come = still come.0

  pub turns_rest : (front rest : Nexts P) (one : Next P)
      → turns_in (front ++ one ∷ rest) ≡ turns_in front + (turn one + turns_in rest)
  turns_rest [] rest one = omega arith
  turns_rest (x ∷ front) rest one = omega (arith, turns_rest front rest one)

  -- nobody has come so far, of whom anything is owed
  pub owes_none : (heard : List Heard) (line : List ℕ) → Owes {P = P} [] heard line
  owes_none heard line = record {
    fair = λ front rest one place count is. absurd (none front rest one is);
    stands = λ front rest one place is. absurd (none front rest one is);
    unheard = λ front rest place is. absurd (none front rest (next.Turn place) is);
  }
    where
      none : (front rest : Nexts P) (one : Next P) → [] ≡ front ++ one ∷ rest → ⊥
      none [] rest one is = cc
      none (x ∷ front) rest one is = cc

  -- whoever stands so still does where others come behind
  stands_behind : (rest : Nexts P) (place : ℕ) (line more then : List ℕ) → then ≡ line ++ more
      → StandsInLine rest place line → StandsInLine rest place then
  stands_behind rest place line more then is (ahead, behind, found, apart) = (
    ahead,
    behind ++ more,
    is ∙ ap (λ xs. xs ++ more) found ∙ append_assoc ahead (place ∷ behind) more,
    apart,
  )

  -- also where this was next, by which nobody had a turn
  stands_on : (rest : Nexts P) (one : Next P) (place : ℕ) (line : List ℕ) → turn_at one ≡ [] → StandsInLine rest place line
      → StandsInLine (rest ++ one ∷ []) place line
  stands_on rest one place line none (ahead, behind, found, apart) = (
    ahead,
    behind,
    found,
    rw (turned_more rest one, none, append-nil (turned rest)) apart,
  )

  -- whoever stands so stands behind one less once the first has gone, which is another
  stands_next : (rest : Nexts P) (place first : ℕ) (ahead behind line more then : List ℕ) → first ≢ place
      → line ≡ ahead ++ place ∷ behind → line ++ more ≡ first ∷ then
      → (less : List ℕ) × (ahead ≡ first ∷ less) × (then ≡ less ++ place ∷ (behind ++ more))
  stands_next rest place first [] behind line more then other found goes =
      let all : (place ∷ behind) ++ more ≡ first ∷ then = ap (λ xs. xs ++ more) (sym found) ∙ goes in absurd (other cc)
  stands_next rest place first (x ∷ less) behind line more then other found goes =
      let all : ((x ∷ less) ++ place ∷ behind) ++ more ≡ first ∷ then = ap (λ xs. xs ++ more) (sym found) ∙ goes in
      let heads : x ≡ first = cc in
      let tails : (less ++ place ∷ behind) ++ more ≡ then = cc in
      (less, ap (λ y. y ∷ less) heads, sym tails ∙ append_assoc less (place ∷ behind) more)

  -- whoever stands so does still after the turn of another, who was the first
  stands_turn : (rest : Nexts P) (place first : ℕ) (line more then : List ℕ) → first ≢ place
      → line ++ more ≡ first ∷ then → StandsInLine rest place line → StandsInLine (rest ++ next.Turn first ∷ []) place then
  stands_turn rest place first line more then other goes (ahead, behind, found, apart) =
      let (less, were, are) = stands_next rest place first ahead behind line more then other found goes in
      let all : turned rest ++ ahead ≡ turned (rest ++ next.Turn first ∷ []) ++ less =
      ap (λ xs. turned rest ++ xs) were ∙ sym (append_assoc (turned rest) (first ∷ []) less)
      ∙ ap (λ xs. xs ++ less) (sym (turned_more rest (next.Turn first))) in
      (less, behind ++ more, are, subst AreDistinctPlaces all apart)

  -- and where another, who was the first, is let go
  stands_gone : (rest : Nexts P) (place first : ℕ) (line more then : List ℕ) → first ≢ place
      → line ++ more ≡ first ∷ then → StandsInLine rest place line → StandsInLine (rest ++ next.Gone first ∷ []) place then
  stands_gone rest place first line more then other goes (ahead, behind, found, apart) =
      let (less, were, are) = stands_next rest place first ahead behind line more then other found goes in
      let all : turned rest ++ ahead ≡ (turned rest ++ first ∷ []) ++ less =
      ap (λ xs. turned rest ++ xs) were ∙ sym (append_assoc (turned rest) (first ∷ []) less) in
      stands_on rest (next.Gone first) place then refl (
        less,
        behind ++ more,
        are,
        distinct_without (turned rest) (first ∷ []) less (subst AreDistinctPlaces all apart),
      )

  -- whoever stands so stands so after this, by which it has no turn and isn't let go
  stands_then : (rest : Nexts P) (one : Next P) (place : ℕ) (old new : Queue) → CallsOne old one new
      → PassesBy place one → StandsInLine rest place old.waiting.items → StandsInLine (rest ++ one ∷ []) place new.waiting.items
  stands_then rest (next.Turn first) place old new (called, (more, goes), few) other is =
      stands_turn rest place first old.waiting.items more new.waiting.items other goes is
  stands_then rest (next.Newcomer first peer) place old new ((called, more, come), waits) other is =
      stands_on rest (next.Newcomer first peer) place new.waiting.items refl
      (stands_behind rest place old.waiting.items more new.waiting.items come is)
  stands_then rest (next.Gone first) place old new (inl (called, more, come)) other is =
      stands_on rest (next.Gone first) place new.waiting.items refl
      (stands_behind rest place old.waiting.items more new.waiting.items come is)
  stands_then rest (next.Gone first) place old new (inr (called, (more, goes))) other is =
      stands_gone rest place first old.waiting.items more new.waiting.items other goes is
  stands_then rest next.Answer place old new (called, more, come) other is =
      stands_on rest next.Answer place new.waiting.items refl
      (stands_behind rest place old.waiting.items more new.waiting.items come is)
  stands_then rest next.End place old new (called, more, come) other is =
      stands_on rest next.End place new.waiting.items refl
      (stands_behind rest place old.waiting.items more new.waiting.items come is)
  stands_then rest next.Refused place old new (called, more, come) other is =
      stands_on rest next.Refused place new.waiting.items refl
      (stands_behind rest place old.waiting.items more new.waiting.items come is)

  -- what this makes of one who can go on from it on: a newcomer, since of a turn nothing was heard yet
  begins : (heard : List Heard) (count place : ℕ) (one : Next P) (old new : Queue) → length heard ≡ count
      → CallsOne old one new → CanGoOn heard count one place → StandsInLine {P = P} [] place new.waiting.items
  begins heard count place (next.Newcomer other peer) old new all (come, waits) is =
      stands_first P new place (subst (λ n. has new.waiting.items n ≡ true) is waits)
  begins heard count place (next.Turn other) old new all calls is =
      absurd (not_yet heard count (place, step.Again) (omega (arith, all)) is.1)
  begins heard count place (next.Gone other) old new all calls is = absurd is
  begins heard count place next.Answer old new all calls is = absurd is
  begins heard count place next.End old new all calls is = absurd is
  begins heard count place next.Refused old new all calls is = absurd is

  module _ (nexts : Nexts P) (heard : List Heard) (old new : Queue) (last : Next P)
      (all : length heard ≡ turns_in nexts) (calls : CallsOne old last new)
      (owes : Owes nexts heard old.waiting.items) where
    all_stand : (front rest : Nexts P) (one : Next P) (place : ℕ) → nexts ++ last ∷ [] ≡ front ++ one ∷ rest
        → CanGoOn heard (turns_in front) one place → All (PassesBy place) rest
        → StandsInLine rest place new.waiting.items
    all_stand front rest one place is goes passes = elim (last_or front rest nexts one last is) [
      | inl (none, same, before) ↦
          let now : CanGoOn heard (turns_in nexts) last place =
          subst (λ xs. CanGoOn heard (turns_in xs) last place) before
          (subst (λ x. CanGoOn heard (turns_in front) x place) same goes) in
          subst (λ xs. StandsInLine xs place new.waiting.items) (sym none)
          (begins heard (turns_in nexts) place last old new all calls now)
      | inr (less, more, before) ↦
          let both = All-pop (PassesBy place) rest less (Some last) more passes in
          subst (λ xs. StandsInLine xs place new.waiting.items) (sym more)
          (stands_then less last place old new calls both.1 (owes.stands front less one place before goes both.0))
    ]

    all_fair : NobodyTwice (nexts ++ last ∷ []) heard
    all_fair front rest one place count is goes passes = elim (last_or front rest nexts one last is) [
      | inl (none, same, before) ↦ subst (λ xs. AreDistinctPlaces (turned (take count xs))) (sym none) (nobody_of count)
      | inr (less, more, before) ↦ elim (leb_tells count (length less)) [
        | inl short ↦
            let part : take count rest ≡ take count less =
            ap (λ xs. take count xs) more ∙ take-append-le count less (last ∷ []) short.1 in
            subst (λ xs. AreDistinctPlaces (turned xs)) (sym part)
            (owes.fair front less one place count before goes (subst (All (PassesBy place)) part passes))
        | inr long ↦
            let whole : take count rest ≡ rest =
            take_all count rest (omega (arith, long.1, ap length more, length_push less last)) in
            let (ahead, behind, found, apart) =
            all_stand front rest one place is goes (subst (All (PassesBy place)) whole passes) in
            subst (λ xs. AreDistinctPlaces (turned xs)) (sym whole) (distinct_front (turned rest) ahead apart)
      ]
    ]
      where
        nobody_of : (count : ℕ) → AreDistinctPlaces (turned {P = P} (take count []))
        nobody_of zero = nobody
        nobody_of (suc count) = nobody

    still_unheard : (front rest : Nexts P) (place : ℕ) → nexts ++ last ∷ [] ≡ front ++ next.Turn place ∷ rest
        → length heard ≤ turns_in front → (rest ≡ []) × (place < most_connections)
    still_unheard front rest place is few = elim (last_or front rest nexts (next.Turn place) last is) [
      | inl (none, same, before) ↦
          (none, (subst (λ x. CallsOne old x new) (sym same) calls).2)
      | inr (less, more, before) ↦
          absurd (omega (arith, all, few, ap turns_in before, turns_rest front less (next.Turn place)))
    ]

    -- what is owed once this was next, of which nothing was heard yet
    pub owes_next : Owes (nexts ++ last ∷ []) heard new.waiting.items
    owes_next = record { fair = all_fair; stands = all_stand; unheard = still_unheard }

  module _ (nexts : Nexts P) (heard : List Heard) (old new : Queue) (told : Heard) (come : ComeBehind old new)
      (waits : told.0.1 ≡ step.Again → told.0.0 < most_connections → has new.waiting.items told.0.0 ≡ true)
      (owes : Owes nexts heard old.waiting.items) where
    -- whoever can go on by what is heard could before, or it is the one that just had its turn
    could : (front rest : Nexts P) (one : Next P) (place : ℕ) → nexts ≡ front ++ one ∷ rest
        → CanGoOn (heard ++ told ∷ []) (turns_in front) one place
        → CanGoOn heard (turns_in front) one place ⊎ ((rest ≡ []) × StandsInLine {P = P} [] place new.waiting.items)
    could front rest (next.Newcomer other peer) place is goes = inl goes
    could front rest (next.Turn other) place is (same, was) =
        elim (heard_or heard (turns_in front) (place, step.Again) told was) [
          | inl before ↦ inl (same, before)
          | inr (now, count) ↦
              let last = owes.unheard front rest other is (omega (arith, count)) in
              let few : told.0.0 < most_connections = rw (ap (λ t. t.0) now, sym same) last.1 in
              let there : has new.waiting.items place ≡ true =
              subst (λ n. has new.waiting.items n ≡ true) (ap (λ t. t.0) now) (waits (ap (λ t. t.1) now) few) in
              inr (last.0, stands_first P new place there)
        ]
    could front rest (next.Gone other) place is goes = absurd goes
    could front rest next.Answer place is goes = absurd goes
    could front rest next.End place is goes = absurd goes
    could front rest next.Refused place is goes = absurd goes

    -- what is owed once this was heard of the last turn
    pub owes_heard : Owes nexts (heard ++ told ∷ []) new.waiting.items
    owes_heard = record {
      fair = λ front rest one place count is goes passes.
          elim (could front rest one place is goes) [
            | inl before ↦ owes.fair front rest one place count is before passes
            | inr (none, stands) ↦ subst (λ xs. AreDistinctPlaces (turned (take count xs))) (sym none) (nobody_of count)
          ];
      stands = λ front rest one place is goes passes.
          elim (could front rest one place is goes) [
            | inl before ↦
                stands_behind rest place old.waiting.items come.1 new.waiting.items come.2
                (owes.stands front rest one place is before passes)
            | inr (none, stands) ↦ subst (λ xs. StandsInLine xs place new.waiting.items) (sym none) stands
          ];
      unheard = λ front rest place is few.
          owes.unheard front rest place is (omega (arith, few, length_push heard told));
    }
      where
        nobody_of : (count : ℕ) → AreDistinctPlaces (turned {P = P} (take count []))
        nobody_of zero = nobody
        nobody_of (suc count) = nobody

  -- what is owed where others have come behind
  pub owes_still : (nexts : Nexts P) (heard : List Heard) (old new : Queue) → ComeBehind old new
      → Owes nexts heard old.waiting.items → Owes nexts heard new.waiting.items
  owes_still nexts heard old new come owes = record {
    fair = owes.fair;
    stands = λ front rest one place is goes passes.
        stands_behind rest place old.waiting.items come.1 new.waiting.items come.2
        (owes.stands front rest one place is goes passes);
    unheard = owes.unheard;
  }
