-- Where searches find the same in two runs, each request to certify that stands in both is answered alike.
use Rattle.std.proofs.Common.{◌≡◌, ◌<◌, ◌&&◌, inl, inr, if◌then◌else◌, ℕ, Bool, true, false, cond, not, List, [], ◌∷◌}
use Rattle.std.proofs.Common.{Option, Some, map, refl, sym, ap, ◌∙◌, subst}
use Rattle.std.specs.Prelude.{All}
use Rattle.std.specs.List.{AllByRecursion}
use Rattle.std.specs.FinMap.{FinMap, get}
use Rattle.std.proofs.lemmas.Bool.{false≢true}
use Rattle.std.proofs.lemmas.List.Elements.{All-head, All-tail}
use Rattle.hall_policy.specs.World.{World, puzzle_cmp, end_of}
use Rattle.hall_policy.specs.Ranges.{IsWorld, IsAnswer}
use Rattle.hall_policy.specs.Actions.{rules_asked}
use Rattle.hall_policy.specs.First.{First}
use Rattle.hall_policy.specs.OwnAlike.{is_entrant_alone, as_is, exchanged}
use Rattle.hall_policy.specs.declared.record.Person.{Person}
use Rattle.hall_policy.specs.declared.record.PuzzleKey.{PuzzleKey}
use Rattle.hall_policy.specs.declared.record.PuzzleRow.{PuzzleRow}
use Rattle.hall_policy.specs.declared.record.PuzzleState.{PuzzleState}
use Rattle.hall_policy.specs.declared.record.Round.{Round}
use Rattle.hall_policy.specs.declared.request.Action.{Action}
use Rattle.hall_policy.specs.declared.request.Action.TheVariants as action
use Rattle.hall_policy.specs.declared.request.Request.{Request}
use Rattle.hall_policy.specs.declared.rule.Decision.{Decision}
use Rattle.hall_policy.specs.declared.rule.Decision.TheVariants.{Allow, Repeat, Deny}
use Rattle.hall_policy.proofs.Deciding.{SaysSame, decided_alike}
use Rattle.hall_policy.proofs.LoneDecisions.{as_it_stands}
use Rattle.hall_store.specs.Caller.{caller_of}
use Rattle.hall_desk.specs.Run.{IsTimed}
use Rattle.hall_desk.specs.Sane.{Sane}
use Rattle.hall_desk.specs.Shown.{state_name, is_sealed}
use Rattle.hall_desk.specs.Step.{is_open, Asked, Decided, IsAnswered}
use Rattle.hall_desk.specs.Without.{GrantsNoPublication, is_other_person, stays, replies_where, is_certify, certifies}
use Rattle.hall_desk.specs.Exchanged.{swapped}
use Rattle.hall_desk.specs.AnsweredRun.{AnsweredRun, timed, left_in, exchanged_asked, CertifiedWithoutOthers}
use Rattle.hall_desk.specs.AnsweredRun.{CertifiedExchanged}
use Rattle.hall_desk.specs.declared.reply.Reply.{Reply}
use Rattle.hall_desk.specs.declared.reply.Reply.TheVariants as reply
use Rattle.hall_desk.proofs.Shows.{one_row}
use Rattle.hall_desk.proofs.StepsSane.{run_sane}
use Rattle.hall_desk.proofs.StepsAlike.{same_callers}
use Rattle.hall_desk.proofs.OthersAlike as others_alike
use Rattle.hall_desk.proofs.SealedAlike as sealed_alike
use Rattle.hall_desk.proofs.SealedRun.{as_before}

module _ (world other : World) (puzzles : world.puzzles ≡ other.puzzles) (caller : Option Person) (key : PuzzleKey)
    (budget t : ℕ) where
  abbrev a : Action
  a = action.Certify key budget

  says : AllByRecursion (λ r. SaysSame r world other caller a a t) (rules_asked a)
  says = (
    record { forbids = ((λ h. h), (λ h. h)); repeats = ((λ h. h), (λ h. h)) },
    (
      record { forbids = ((λ h. h), (λ h. h)); repeats = ((λ h. h), (λ h. h)) },
      (
        record { forbids = ((λ h. h), (λ h. h)); repeats = ((λ h. h), (λ h. h)) },
        (
          record {
            forbids = (
              (λ h. ap (λ (m : FinMap puzzle_cmp PuzzleRow). get m key) (sym puzzles) ∙ h),
              (λ h. ap (λ (m : FinMap puzzle_cmp PuzzleRow). get m key) puzzles ∙ h),
            );
            repeats = ((λ h. h), (λ h. h));
          },
          tt,
        ),
      ),
    ),
  )

  by_decision : (d : Decision) (found : PuzzleState) (given answered : Reply) (next after : World)
      → Decided d world caller a t found given next → Decided d other caller a t found answered after → given ≡ answered
  by_decision (Deny k) found given answered next after p q = p.0 ∙ sym q.0
  by_decision Repeat found given answered next after p q = absurd p.0
  by_decision Allow found given answered next after (row, at, inl p) (twin, there, inl q) = p.told ∙ sym q.told
  by_decision Allow found given answered next after (row, at, inr p) (twin, there, inr q) =
      let rows : row ≡ twin = one_row (get other.puzzles key) row twin
      (ap (λ (m : FinMap puzzle_cmp PuzzleRow). get m key) (sym puzzles) ∙ at) there in
      p.told ∙ ap (λ (r : PuzzleRow). reply.Certify (state_name r.state)) rows ∙ sym q.told
  by_decision Allow found given answered next after (row, at, inl p) (twin, there, inr q) =
      let rows : row ≡ twin = one_row (get other.puzzles key) row twin
      (ap (λ (m : FinMap puzzle_cmp PuzzleRow). get m key) (sym puzzles) ∙ at) there in
      absurd (false≢true (sym q.settled ∙ ap (λ (r : PuzzleRow). is_open r.state) (sym rows) ∙ p.unsettled))
  by_decision Allow found given answered next after (row, at, inr p) (twin, there, inl q) =
      let rows : row ≡ twin = one_row (get other.puzzles key) row twin
      (ap (λ (m : FinMap puzzle_cmp PuzzleRow). get m key) (sym puzzles) ∙ at) there in
      absurd (false≢true (sym p.settled ∙ ap (λ (r : PuzzleRow). is_open r.state) rows ∙ q.unsettled))

  one_certificate : (d f : Decision) (found : PuzzleState) (given answered : Reply) (next after : World)
      → First world caller a t d → Decided d world caller a t found given next → First other caller a t f
      → Decided f other caller a t found answered after → given ≡ answered
  one_certificate d f found given answered next after first p second q =
      let same : d ≡ f = decided_alike world other caller a a t refl says d f first second in
      by_decision d found given answered next after p (subst
      (λ (x : Decision). Decided x other caller a t found answered after) (sym same) q)

-- whoever makes the request
of_action : (ex : List ℕ → List ℕ → List ℕ) (world other : World) → world.puzzles ≡ other.puzzles
    → (caller : Option Person) (a : Action) (t : ℕ) (d f : Decision) (found : PuzzleState) (given answered : Reply)
    (next after : World) →
    is_certify a ≡ true → First world caller a t d → Decided d world caller a t found given next
    → First other caller (exchanged ex a) t f → Decided f other caller (exchanged ex a) t found answered after
    → given ≡ answered
of_action ex world other puzzles caller (action.Certify key budget) t d f found given answered next after is first p
    second q =
    one_certificate world other puzzles caller key budget t d f found given answered next after first p second q
of_action ex world other puzzles caller _ t d f found given answered next after is first p second q = absurd
    (false≢true is)

answered_alike : (ex : List ℕ → List ℕ → List ℕ) (world other : World) → world.people ≡ other.people
    → world.puzzles ≡ other.puzzles → (asked twin : Asked) → twin.moment ≡ asked.moment → twin.found ≡ asked.found →
    twin.request.key ≡ asked.request.key → twin.request.action ≡ exchanged ex asked.request.action
    → (given answered : Reply) (next after : World) → is_certify asked.request.action ≡ true →
    IsAnswered world asked given next → IsAnswered other twin answered after → given ≡ answered
answered_alike ex world other people puzzles asked twin at found key turned given answered next after is (d, first, p)
    (f, second, q) =
    let callers : caller_of other twin.request.key ≡ caller_of world asked.request.key = ap (caller_of other) key
    ∙ sym (same_callers world other people asked.request.key) in
    let Second : Option Person → Action → ℕ → PuzzleState → Type 0 = λ c a t s. First other c a t f
    × Decided f other c a t s answered after in
    let there : Second (caller_of other twin.request.key) twin.request.action twin.moment twin.found = (second, q) in
    let by_found : Second (caller_of other twin.request.key) twin.request.action twin.moment asked.found = subst
    (Second (caller_of other twin.request.key) twin.request.action twin.moment) found there in
    let by_moment : Second (caller_of other twin.request.key) twin.request.action asked.moment asked.found = subst
    (λ (t : ℕ). Second (caller_of other twin.request.key) twin.request.action t asked.found) at by_found in
    let by_action : Second (caller_of other twin.request.key) (exchanged ex asked.request.action) asked.moment
    asked.found = subst (λ (a : Action). Second (caller_of other twin.request.key) a asked.moment asked.found)
    turned by_moment in
    let by_caller : Second (caller_of world asked.request.key) (exchanged ex asked.request.action) asked.moment
    asked.found = subst (λ (c : Option Person). Second c (exchanged ex asked.request.action) asked.moment
    asked.found) callers by_action in
    of_action ex world other puzzles (caller_of world asked.request.key) asked.request.action asked.moment d f
    asked.found given answered next after is first p by_caller.0 by_caller.1

-- two lists of replies go on alike
both_more : (b : Bool) (given answered : Reply) (ours theirs : List Reply) → (b ≡ true → given ≡ answered)
    → ours ≡ theirs → (if b then given ∷ ours else ours) ≡ (if b then answered ∷ theirs else theirs)
both_more true given answered ours theirs same tail = ap (λ (g : Reply). g ∷ ours) (same refl)
    ∙ ap (λ (gs : List Reply). answered ∷ gs) tail
both_more false given answered ours theirs same tail = tail

-- ---- without the requests of others
module _ (last : World) (e : Person) (settled : IsWorld last) (there : get last.people e.name ≡ Some e)
    (alone : is_entrant_alone e ≡ true) where
  abbrev both : ℕ × Request → Bool
  both asked = stays last e asked && certifies asked

  abbrev Claim : List Asked → Type 0
  Claim list = (world other end : World) (replies others : List Reply) → Sane world → Sane other
      → others_alike.Alike last e settled there alone world other → All IsTimed (map timed list)
      → All GrantsNoPublication replies → All GrantsNoPublication others →
      AnsweredRun world list replies last → AnsweredRun other (left_in last e list) others end
      → replies_where both (map timed list) replies ≡ replies_where certifies (map timed (left_in last e list))
      others

  keep_one : (q : Asked) (rest : List Asked) (world other end : World) (given : Reply) (replies others : List Reply)
      → Claim rest → Sane world → Sane other → others_alike.Alike last e settled there alone world other →
      All IsTimed (map timed (q ∷ rest)) → All GrantsNoPublication (given ∷ replies) → All GrantsNoPublication others
      → AnsweredRun world (q ∷ rest) (given ∷ replies) last → is_other_person e (caller_of last q.request.key) ≡
      false →
      AnsweredRun other (q ∷ left_in last e rest) others end →
      (if certifies (timed q) then given ∷ replies_where both (map timed rest) replies else replies_where both
      (map timed rest) replies)
      ≡ replies_where certifies (timed q ∷ map timed (left_in last e rest)) others
  keep_one q rest world other end given replies [] claim sane also alike typed never none run kept left = absurd left
  keep_one q rest world other end given replies (answered ∷ others) claim sane also alike typed never none run kept
      left =
      both_more (certifies (timed q)) given answered (replies_where both (map timed rest) replies)
      (replies_where certifies (map timed (left_in last e rest)) others)
      (λ is. answered_alike as_is world other alike.people alike.puzzles q q refl refl refl
      (sym (as_it_stands q.request.action)) given answered run.0 left.0 is run.1 left.1)
      (claim run.0 left.0 end replies others (others_alike.still_sane last e settled there alone q rest world other
      given replies sane also alike typed never run)
      (others_alike.sane_with last e settled there alone q rest world other given replies sane also alike typed never
      run answered left.0 left.1)
      (others_alike.alike_with last e settled there alone q rest world other given replies sane also alike typed never
      run kept answered left.0 (All-head GrantsNoPublication answered others none) left.1)
      (All-tail IsTimed (timed q) (map timed rest) typed) (All-tail GrantsNoPublication given replies never)
      (All-tail GrantsNoPublication answered others none) run.2 left.2)

  pub certified_left : (list : List Asked) → Claim list
  certified_left [] world other end replies others sane also alike typed never none run left = refl
  certified_left (q ∷ rest) world other end [] others sane also alike typed never none run left = absurd run
  certified_left (q ∷ rest) world other end (given ∷ replies) others sane also alike typed never none run left =
      elim (is_other_person e (caller_of last q.request.key)) as
      (λ b. is_other_person e (caller_of last q.request.key) ≡ b →
      AnsweredRun other (cond (not b) (q ∷ left_in last e rest) (left_in last e rest)) others end →
      (if not b && certifies (timed q) then given ∷ replies_where both (map timed rest) replies else replies_where both
      (map timed rest) replies)
      ≡ replies_where certifies (map timed (cond (not b) (q ∷ left_in last e rest) (left_in last e rest))) others) [
        | true ↦ λ is_other made.
            certified_left rest run.0 other end replies others
            (others_alike.still_sane last e settled there alone q rest world other given replies sane also alike
            typed never run) also
            (others_alike.alike_without last e settled there alone q rest world other given replies sane also alike
            typed never run is_other)
            (All-tail IsTimed (timed q) (map timed rest) typed) (All-tail GrantsNoPublication given replies never) none
            run.2 made
        | false ↦ λ kept made. keep_one q rest world other end given replies others (certified_left rest) sane also
            alike typed never none run kept made
      ] refl left

pub certified_without_others : CertifiedWithoutOthers
certified_without_others world last end e list replies others sane typed there alone run left never none =
    let settled : Sane last = run_sane world (map timed list) replies last typed
    (others_alike.run_of world last list replies run) sane in
    certified_left last e settled.typed there alone list world world end replies others sane sane
    (others_alike.alike_itself _ _ world) typed never none run left

-- ---- in the exchanged list
module _ (last : World) (e : Person) (settled : IsWorld last) (there : get last.people e.name ≡ Some e)
    (alone : is_entrant_alone e ≡ true)
    (r a b : List ℕ) (is_a : IsAnswer a) (is_b : IsAnswer b) (round : Round) (released : round.released ≡ true)
    (sealed : is_sealed round.mode ≡ true) where
  pub certified_turned : (list : List Asked) (world other end : World) (replies others : List Reply) → Sane world
      → Sane other → sealed_alike.Alike last e settled there alone r a b is_a is_b round released sealed world other →
      get world.rounds r ≡ Some round → sealed_alike.HasNone last e settled there alone r a b is_a is_b round released
      sealed world → sealed_alike.HasNone last e settled there alone r a b is_a is_b round released sealed other →
      All IsTimed (map timed list) → All (λ asked. asked.0 < end_of round) (map timed list)
      → AnsweredRun world list replies last → AnsweredRun other (map (exchanged_asked (swapped r a b)) list) others
      end →
      replies_where certifies (map timed list) replies ≡ replies_where certifies
      (map timed (map (exchanged_asked (swapped r a b)) list)) others
  certified_turned [] world other end replies others sane too alike kept none also typed before run swaps = refl
  certified_turned (q ∷ later) world other end [] others sane too alike kept none also typed before run swaps = absurd
      run
  certified_turned (q ∷ later) world other end (given ∷ replies) [] sane too alike kept none also typed before run
      swaps = absurd swaps
  certified_turned (q ∷ later) world other end (given ∷ replies) (answered ∷ others) sane too alike kept none also typed
      before run swaps =
      let p : Asked = exchanged_asked (swapped r a b) q in
      let ours : List Reply = replies_where certifies (map timed later) replies in
      let theirs : List Reply = replies_where certifies (map timed (map (exchanged_asked (swapped r a b)) later))
      others in
      both_more (certifies (timed q)) given answered ours theirs
      (λ is. answered_alike (swapped r a b) world other alike.people alike.puzzles q p refl refl refl refl given
      answered run.0 swaps.0 is run.1 swaps.1)
      (certified_turned later run.0 swaps.0 end replies others
      (sealed_alike.still_sane last e settled there alone r a b is_a is_b round released sealed q later world other
      given replies sane too alike kept none also typed before run)
      (sealed_alike.sane_with last e settled there alone r a b is_a is_b round released sealed q later world other given
      replies sane too alike kept none also typed before run answered swaps.0 swaps.1)
      (sealed_alike.alike_with last e settled there alone r a b is_a is_b round released sealed q later world other
      given replies sane too alike kept none also typed before run answered swaps.0 swaps.1)
      (sealed_alike.still_kept last e settled there alone r a b is_a is_b round released sealed q later world other
      given replies sane too alike kept none also typed before run)
      (sealed_alike.has_none last e settled there alone r a b is_a is_b round released sealed q later world other given
      replies sane too alike kept none also typed before run)
      (sealed_alike.none_with last e settled there alone r a b is_a is_b round released sealed q later world other given
      replies sane too alike kept none also typed before run answered swaps.0 swaps.1)
      (All-tail IsTimed (timed q) (map timed later) typed) (All-tail (λ asked. asked.0 < end_of round) (timed q)
      (map timed later) before) run.2 swaps.2)
      ∙ ap (λ t. if t then answered ∷ theirs else theirs) (sym (as_before (swapped r a b) q))

pub certified_exchanged : CertifiedExchanged
certified_exchanged world last end r a b round e list replies others sane typed h is_a is_b there alone run swaps =
    let settled : Sane last = run_sane world (map timed list) replies last typed
    (others_alike.run_of world last list replies run) sane in
    certified_turned last e settled.typed there alone r a b is_a is_b round h.released h.sealed list world world end
    replies others sane sane
    (sealed_alike.alike_at_first r a b world sane.typed h.none) h.kept (λ published. h.none) (λ published. h.none) typed
    h.before run swaps
