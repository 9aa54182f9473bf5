-- Of others who hold the role entrant alone, an entrant learns nothing: said of runs.
use Rattle.std.proofs.Common.{◌≡◌, ◌≢◌, ◌&&◌, if◌then◌else◌, ℕ, Bool, true, false, cond, not, List, [], ◌∷◌, map, refl}
use Rattle.std.proofs.Common.{sym, ap, ◌∙◌, subst}
use Rattle.std.specs.Prelude.{All, Some}
use Rattle.std.specs.FinMap.{get}
use Rattle.std.proofs.lemmas.List.Elements.{All-head, All-tail}
use Rattle.hall_policy.specs.World.{World}
use Rattle.hall_policy.specs.Ranges.{IsWorld}
use Rattle.hall_policy.specs.OwnAlike.{is_entrant_alone, as_is}
use Rattle.hall_policy.specs.declared.record.Person.{Person}
use Rattle.hall_policy.specs.declared.request.Request.{Request}
use Rattle.hall_policy.proofs.LoneDecisions.{as_it_stands}
use Rattle.hall_store.specs.Caller.{caller_of}
use Rattle.hall_desk.specs.Run.{IsTimed, Run}
use Rattle.hall_desk.specs.Sane.{Sane}
use Rattle.hall_desk.specs.Step.{Asked}
use Rattle.hall_desk.specs.Without.{GrantsNoPublication, is_other_person, stays, without, replies_where, replies_to}
use Rattle.hall_desk.specs.Without.{certifies, Serve}
use Rattle.hall_desk.specs.AnsweredRun.{AnsweredRun, timed, left_in}
use Rattle.hall_desk.specs.Secrecy.{HidesOthers, OthersHidden, LivesHideOthers}
use Rattle.hall_desk.specs.declared.reply.Reply.{Reply}
use Rattle.hall_desk.specs.declared.reply.Reply.TheVariants as reply
use Rattle.hall_desk.proofs.EmptySane.{empty_sane}
use Rattle.hall_desk.proofs.Histories.{history_sane}
use Rattle.hall_desk.proofs.StepsSane.{run_sane}
use Rattle.hall_desk.proofs.StepsAlike.{served}
use Rattle.hall_desk.proofs.OthersAlike.{Alike, still_sane, alike_without, alike_with, sane_with, alike_itself}
use Rattle.hall_desk.proofs.OthersAlike.{others_hidden}
use Rattle.hall_desk.proofs.AnsweredRuns.{answered_list}
use Rattle.hall_desk.proofs.Searches.{same_answer, heads_alike}

-- the requests that stay are those of the list without the others'
left_timed : (last : World) (e : Person) (list : List Asked) → map timed (left_in last e list) ≡ without last e
    (map timed list)
left_timed last e [] = refl
left_timed last e (q ∷ rest) = elim (stays last e (timed q)) as (λ b.
    map timed (cond b (q ∷ left_in last e rest) (left_in last e rest)) ≡ cond b
    (timed q ∷ without last e (map timed rest)) (without last e (map timed rest))) [
      | true ↦ ap (λ (rs : List (ℕ × Request)). timed q ∷ rs) (left_timed last e rest)
      | false ↦ left_timed last e rest
    ]

module _ (last : World) (e : Person) (settled : IsWorld last) (there : get last.people e.name ≡ Some e)
    (alone : is_entrant_alone e ≡ true) where
  abbrev both : ℕ × Request → Bool
  both asked = stays last e asked && certifies asked

  -- the run of what stays is answered by what the searches of the whole list find
  abbrev Claim : List Asked → Type 0
  Claim list = (world other end : World) (replies others : List Reply) → Sane world → Sane other
      → Alike last e settled there alone world other →
      All IsTimed (map timed list) → All GrantsNoPublication replies → All GrantsNoPublication others
      → AnsweredRun world list replies last →
      Run other (map timed (left_in last e list)) others end → Serve others →
      replies_where both (map timed list) replies ≡ replies_where certifies (map timed (left_in last e list)) others
      → AnsweredRun other (left_in last e list) others end

  keep_one : (q : Asked) (rest : List Asked) (world other end : World) (given : Reply) (replies others : List Reply)
      → Claim rest → Sane world → Sane other → Alike last e settled there alone world other →
      All IsTimed (map timed (q ∷ rest)) → All GrantsNoPublication (given ∷ replies) → All GrantsNoPublication others
      → AnsweredRun world (q ∷ rest) (given ∷ replies) last →
      is_other_person e (caller_of last q.request.key) ≡ false → Run other (timed q ∷ map timed (left_in last e rest))
      others end → Serve others →
      (if certifies (timed q) then given ∷ replies_where both (map timed rest) replies else replies_where both
      (map timed rest) replies)
      ≡ replies_where certifies (timed q ∷ map timed (left_in last e rest)) others →
      AnsweredRun other (q ∷ left_in last e rest) others end
  keep_one q rest world other end given replies [] claim sane also alike typed never none run kept left serve same =
      absurd left
  keep_one q rest world other end given replies (answered ∷ others) claim sane also alike typed never none run kept
      (after, step, left) serve same =
      let heads = heads_alike (certifies (timed q)) given answered (replies_where both (map timed rest) replies)
      (replies_where certifies (map timed (left_in last e rest)) others) same in
      let second = served other after q.moment q.request answered step
      (All-head (λ g. g ≢ reply.Unavailable) answered others serve) in
      let done = same_answer as_is world other alike.puzzles q q (sym (as_it_stands q.request.action)) second.0 given
      answered run.0 after heads.0 run.1 second.1 in (
        after,
        done,
        claim run.0 after end replies others (still_sane last e settled there alone q rest world other given replies
            sane also alike typed never run)
            (sane_with last e settled there alone q rest world other given replies sane also alike typed never run
            answered after done)
            (alike_with last e settled there alone q rest world other given replies sane also alike typed never run kept
            answered after (All-head GrantsNoPublication answered others none) done)
            (All-tail IsTimed (timed q) (map timed rest) typed) (All-tail GrantsNoPublication given replies never)
            (All-tail GrantsNoPublication answered others none) run.2 left
            (All-tail (λ g. g ≢ reply.Unavailable) answered others serve) heads.1,
      )

  pub answered_left : (list : List Asked) → Claim list
  answered_left [] world other end [] others sane also alike typed never none run left serve same = elim others as
      (λ (gs : List Reply). Run other [] gs end → AnsweredRun other [] gs end) [
        | [] ↦ λ h. h
        | g ∷ gs ↦ λ h. absurd h
      ] left
  answered_left [] world other end (given ∷ replies) others sane also alike typed never none run left serve same =
      absurd run
  answered_left (q ∷ rest) world other end [] others sane also alike typed never none run left serve same = absurd run
  answered_left (q ∷ rest) world other end (given ∷ replies) others sane also alike typed never none run left serve
      same =
      elim (is_other_person e (caller_of last q.request.key)) as
      (λ b. is_other_person e (caller_of last q.request.key) ≡ b →
      Run other (map timed (cond (not b) (q ∷ left_in last e rest) (left_in last e rest))) others end →
      (if not b && certifies (timed q) then given ∷ replies_where both (map timed rest) replies else replies_where both
      (map timed rest) replies)
      ≡ replies_where certifies (map timed (cond (not b) (q ∷ left_in last e rest) (left_in last e rest))) others →
      AnsweredRun other (cond (not b) (q ∷ left_in last e rest) (left_in last e rest)) others end) [
        | true ↦ λ is_other made alike_too.
            answered_left rest run.0 other end replies others
            (still_sane last e settled there alone q rest world other given replies sane also alike typed never run)
            also
            (alike_without last e settled there alone q rest world other given replies sane also alike typed never run
            is_other)
            (All-tail IsTimed (timed q) (map timed rest) typed) (All-tail GrantsNoPublication given replies never) none
            run.2 made serve alike_too
        | false ↦ λ kept made alike_too.
            keep_one q rest world other end given replies others (answered_left rest) sane also alike typed never none
            run kept made serve alike_too
      ] refl left same

-- the law, from one world
hides_others : (world : World) → Sane world → HidesOthers world
hides_others world sane last end e list replies others typed there alone run left serve serve_too never none same =
    let found = answered_list world last list replies run serve in
    let asked : List Asked = found.0 in
    let Law : List (ℕ × Request) → Type 0 = λ requests.
    All IsTimed requests → Run world requests replies last → Run world (without last e requests) others end →
    replies_where (λ a. stays last e a && certifies a) requests replies ≡ replies_where certifies
    (without last e requests) others →
    replies_to e.key requests replies ≡ replies_to e.key (without last e requests) others in
    let of_answered : Law (map timed asked) = λ is_typed whole less alike.
    let settled : Sane last = run_sane world (map timed asked) replies last is_typed whole sane in
    let kept : map timed (left_in last e asked) ≡ without last e (map timed asked) = left_timed last e asked in
    let answers : AnsweredRun world (left_in last e asked) others end =
    answered_left last e settled.typed there alone asked world world end replies others sane sane
    (alike_itself _ _ world) is_typed never none found.2
    (subst (λ (rs : List (ℕ × Request)). Run world rs others end) (sym kept) less) serve_too
    (alike ∙ ap (λ (rs : List (ℕ × Request)). replies_where certifies rs others) (sym kept)) in
    others_hidden world last end e asked replies others sane is_typed there alone found.2 answers never none
    ∙ ap (λ (rs : List (ℕ × Request)). replies_to e.key rs others) kept in
    subst Law found.1 of_answered typed run left same

-- the law
pub others_hidden_in_runs : OthersHidden
others_hidden_in_runs world sane = hides_others world sane

-- from the world after a life that began empty, which is sane
pub lives_hide_others : LivesHideOthers
lives_hide_others world events typed life = hides_others world (history_sane events _ world typed life empty_sane)
