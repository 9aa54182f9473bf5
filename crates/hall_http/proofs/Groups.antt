-- Requests that are answered in groups make a run of the hall, and a stop leaves whole groups.
use Rattle.std.proofs.Common.{◌≡◌, ◌≢◌, ◌⊎◌, ◌∙◌, ap, sym, subst, refl, inl, inr, ℕ, ◌==◌, List, [], ◌∷◌, ◌++◌}
use Rattle.std.specs.Prelude.{Bool, true, false}
use Rattle.std.proofs.lemmas.Bool.{eqb-false, eqb-true}
use Rattle.std.proofs.lemmas.List.Elements.{All-cons, All-nil}
use Rattle.hall_policy.specs.World.{World}
use Rattle.hall_store.specs.Store.{Content, IsSettled, Kept, Leads, Over}
use Rattle.hall_store.proofs.Knowing.{kept_leads, kept_same, leads_then}
use Rattle.hall_http.specs.Answered.{IsUnavailable, answer_text}
use Rattle.hall_http.specs.Connection.{Exchange, of_groups}
use Rattle.hall_http.specs.Groups.{AnswersInTurn, AreAnsweredTogether, AreAnsweredWhileOpen, AreMadeWhole}
use Rattle.hall_http.specs.Groups.{AreRefusedAlike, AreToldAlike, IsGroupAnswered, IsLeftByGroups, LeavesRunByGroups}
use Rattle.hall_http.specs.Laws.{FirstPartsLast}
use Rattle.hall_http.specs.Serving.{AnswersAt, IsAnsweredOver, IsRunOver, RunsOver}
use Rattle.hall_http.specs.declared.answer.Answer.TheVariants.{Unavailable}
use Rattle.hall_http.proofs.Runs.{Onward, before_run, onward_runs, run_over}

-- what was answered in turn, and what comes after it
turn_run : (xs : List Exchange) (world next : World) (rest : List Exchange) (last : World) → AnswersInTurn xs world next
    → IsRunOver next rest last → IsRunOver world (xs ++ rest) last
turn_run [] world next rest last same run = subst (λ (w : World). IsRunOver w rest last) same run
turn_run (x ∷ xs) world next rest last (mid, step, more) run =
    before_run world x x.moment mid (xs ++ rest) last refl step (turn_run xs mid next rest last more run)

turn_before : (xs : List Exchange) (world next : World) (groups : List (List Exchange)) (left : World)
    → AnswersInTurn xs world next → IsLeftByGroups next groups left → IsLeftByGroups world (xs ∷ groups) left
turn_before xs world next groups left turn (inl run) = inl (turn_run xs world next (of_groups groups) left turn run)
turn_before xs world next groups left turn (inr with) = inr (record {
  before = xs ∷ with.before;
  group = with.group;
  after = with.after;
  all = ap (λ (all : List (List Exchange)). xs ∷ all) with.all;
  between = with.between;
  run = turn_run xs world next (of_groups with.before) with.between turn with.run;
  made = with.made;
  refused = with.refused;
  whole = with.whole;
  answered = with.answered;
  stays = with.stays;
})

turn_onward : (xs : List Exchange) (world next : World) (rest : List Exchange) (last : Content)
    → AnswersInTurn xs world next → Onward next rest last → Onward world (xs ++ rest) last
turn_onward [] world next rest last same on = subst (λ (w : World). Onward w rest last) same on
turn_onward (x ∷ xs) world next rest last (mid, step, more) on =
    let (end, answers, stays) = turn_onward xs mid next rest last more on in
    (end, (mid, step, answers), stays)

-- what was answered together, and then the others from whatever world it leaves
together_onward : (old new : Content) (xs rest : List Exchange) (last : Content) (world : World)
    → (old.serves → old.world ≡ world) → (new.serves → old.serves) → Over (AnswersInTurn xs) old new
    → ((world : World) → (new.serves → new.world ≡ world) → Onward world rest last)
    → Onward world (xs ++ rest) last
together_onward old new xs rest last world own served (inl (always, left)) on =
    turn_onward xs world world rest last (always world) (on world (λ s. left s ∙ own (served s)))
together_onward old new xs rest last world own served (inr (before, after, says)) on =
    turn_onward xs world new.world rest last (subst (λ (w : World). AnswersInTurn xs w new.world) (own before) says)
    (on new.world (λ s. refl))

-- as `Leaves` of single requests
abbrev LeavesGroups : Content → List (List Exchange) → World → Type 0
LeavesGroups old groups left = (old.may_leave left × IsRunOver left (of_groups groups) left)
    ⊎ (old.serves × IsLeftByGroups old.world groups left)

leaves_read : (old new : Content) (groups : List (List Exchange)) (left : World) → Kept old new → new.honest
    → LeavesGroups new groups left → LeavesGroups old groups left
leaves_read old new groups left kept honest (inl (may, run)) = inl (kept.stops honest left may, run)
leaves_read old new groups left kept honest (inr (serves, run)) =
    inr (kept.serves honest serves, subst (λ (w : World). IsLeftByGroups w groups left) (kept.world honest serves) run)

-- where all groups together are none, so are the first
no_first : (groups others : List (List Exchange)) → groups ++ others ≡ [] → groups ≡ []
no_first [] others none = refl
no_first (xs ∷ groups) others none = absurd cc

cons_or_not : (x y : ℕ) (a b : List ℕ) (e : Bool) → (x == y) ≡ e → (a ≡ b) ⊎ (a ≢ b)
    → (x ∷ a ≡ y ∷ b) ⊎ (x ∷ a ≢ y ∷ b)
cons_or_not x y a b false e rest = inr (λ same. eqb-false _ _ e cc)
cons_or_not x y a b true e (inl rest) = inl (rw (eqb-true _ _ e, rest) refl)
cons_or_not x y a b true e (inr rest) = inr (λ same. rest cc)

same_or_not : (a b : List ℕ) → (a ≡ b) ⊎ (a ≢ b)
same_or_not [] [] = inl refl
same_or_not [] (y ∷ b) = inr (λ same. absurd cc)
same_or_not (x ∷ a) [] = inr (λ same. absurd cc)
same_or_not (x ∷ a) (y ∷ b) = cons_or_not x y a b (x == y) refl (same_or_not a b)

one_alike : (x : Exchange) → (x.reply ≡ answer_text Unavailable) ⊎ (x.reply ≢ answer_text Unavailable)
    → AreToldAlike (x ∷ [])
one_alike x (inl same) =
    inr (All-cons (λ (x : Exchange). IsUnavailable x.reply) x [] (record { same = same })
    (All-nil (λ (x : Exchange). IsUnavailable x.reply)))
one_alike x (inr other) =
    inl (All-cons (λ (x : Exchange). ¬ (IsUnavailable x.reply)) x [] (λ is. other is.same)
    (All-nil (λ (x : Exchange). ¬ (IsUnavailable x.reply))))

module _ {H : Type 0} (content : H → Content) where
  -- a request that was answered alone is a group of its own
  one_over : (x : Exchange) (old new : Content)
      → Over (λ before after. AnswersAt before x.moment x.request x.reply after) old new
      → Over (AnswersInTurn (x ∷ [])) old new
  one_over x old new (inl (always, same)) = inl ((λ world. (world, always world, refl)), same)
  one_over x old new (inr (was, serves, step)) = inr (was, serves, (new.world, step, refl))

  alone : (old : H) (x : Exchange) (new : H) → IsAnsweredOver content old x.moment x.request x.reply new
      → AreAnsweredTogether content old (x ∷ []) new
  alone old x new says = record {
    leads = says.leads;
    once = says.once;
    stops = λ honest left may. elim (says.stops honest left may) [
      | inl earlier ↦ inl earlier
      | inr (was, (made, which, step)) ↦ inr (
        was,
        elim which [
          | inl same ↦ (
            x ∷ [],
            inl refl,
            (
              left,
              subst (λ (r : List ℕ). AnswersAt (content old).world x.moment x.request
                  r left) same step,
              refl,
            ),
          )
          | inr refused ↦ (
            record { request = x.request; moment = x.moment; reply = made } ∷ [],
            inr ((refused, made, [], refl, refl), inl refl),
            (left, step, refl),
          )
        ],
      )
    ];
    settled = says.settled;
    answers = λ honest. one_over x (content old) (content new) (says.answers honest);
    alike = one_alike x (same_or_not x.reply (answer_text Unavailable));
  }

  as_together : (old : H) (xs : List Exchange) (new : H) → IsGroupAnswered content old xs new
      → AreAnsweredTogether content old xs new
  as_together old xs new (inl (x, is, says)) =
      subst (λ (ys : List Exchange). AreAnsweredTogether content old ys new) (sym is) (alone old x new says)
  as_together old xs new (inr says) = says

  pub groups_lead : (old : H) (groups : List (List Exchange)) (new : H) → AreAnsweredWhileOpen content old groups new
      → Leads (content old) (content new)
  groups_lead old [] new kept = kept_leads (content old) (content new) kept
  groups_lead old (xs ∷ groups) new (read, after, kept, group, goes, rest) =
      leads_then (content old) (content read) (content new) (kept_leads (content old) (content read) kept)
      (leads_then (content read) (content after) (content new) (as_together read xs after group).leads
      (groups_lead after groups new rest))

  -- ---- runs
  groups_onward : (old : H) (groups : List (List Exchange)) (new : H) (world : World)
      → AreAnsweredWhileOpen content old groups new → ((content old).serves → (content old).world ≡ world)
      → (content new).honest → Onward world (of_groups groups) (content new)
  groups_onward old [] new world kept own honest =
      (world, refl, λ s. kept.world honest s ∙ own (kept.serves honest s))
  groups_onward old (xs ∷ groups) new world (read, after, kept, group, goes, rest) own honest =
      let says = as_together read xs after group in
      let later = (groups_lead after groups new rest).honest honest in
      let before = says.leads.honest later in
      together_onward (content read) (content after) xs (of_groups groups) (content new) world
      (λ s. kept.world before s ∙ own (kept.serves before s)) (says.leads.serves later) (says.answers later)
      (λ next is. groups_onward after groups new next rest is honest)

  pub groups_run : (old : H) (groups : List (List Exchange)) (new : H) → AreAnsweredWhileOpen content old groups new
      → (content new).honest → RunsOver (content old) (of_groups groups) (content new)
  groups_run old groups new answered honest =
      onward_runs (content old) (of_groups groups) (content new)
      (groups_onward old groups new (content old).world answered (λ s. refl) honest)

  -- ---- stops
  module _ (h m : H) (xs : List Exchange) (says : AreAnsweredTogether content h xs m) (honest : (content m).honest)
      (groups : List (List Exchange)) (left : World) where
    abbrev here : Content
    here = content h

    abbrev there : Content
    there = content m

    abbrev rest : List Exchange
    rest = of_groups groups

    served : Over (AnswersInTurn xs) here there → there.serves → IsLeftByGroups there.world groups left
        → LeavesGroups here (xs ∷ groups) left
    served (inl (always, same)) serves run = inr (
      says.leads.serves honest serves,
      turn_before xs here.world there.world groups left
          (subst (λ (w : World). AnswersInTurn xs here.world w) (sym (same serves)) (always here.world)) run,
    )
    served (inr (was, now, step)) serves run = inr (was, turn_before xs here.world there.world groups left step run)

    stayed : Over (AnswersInTurn xs) here there → here.may_leave left → there.may_leave left → IsRunOver left rest left
        → LeavesGroups here (xs ∷ groups) left
    stayed (inl (always, same)) before may run = inl (before, turn_run xs left left rest left (always left) run)
    stayed (inr (was, serves, step)) before may run = inr (
      was,
      inl (turn_run xs here.world left rest left
          (subst (λ (w : World). AnswersInTurn xs here.world w) (sym (says.settled honest serves left may)) step) run),
    )

    made_so : (made : List Exchange) → (made ≡ xs) ⊎ (AreRefusedAlike xs made × AreMadeWhole made)
        → AnswersInTurn made here.world left → IsRunOver left rest left
        → IsLeftByGroups here.world (xs ∷ groups) left
    made_so made (inl same) turn run =
        inl (turn_run xs here.world left rest left
        (subst (λ (ys : List Exchange). AnswersInTurn ys here.world left) same turn) run)
    made_so made (inr (refused, whole)) turn run = inr (record {
      before = [];
      group = xs;
      after = groups;
      all = refl;
      between = here.world;
      run = run_over here.world [] here.world refl;
      made = made;
      refused = refused;
      whole = whole;
      answered = turn;
      stays = run;
    })

    together_leaves : LeavesGroups there groups left → LeavesGroups here (xs ∷ groups) left
    together_leaves (inr (serves, run)) = served (says.answers honest) serves run
    together_leaves (inl (may, run)) = elim (says.stops honest left may) [
      | inl before ↦ stayed (says.answers honest) before may run
      | inr (was, (others, which, turn)) ↦ inr (was, made_so others which turn run)
    ]

  groups_leave : (h : H) (groups : List (List Exchange)) (i : H) → AreAnsweredWhileOpen content h groups i
      → (content i).honest → (left : World) → (content i).may_leave left → LeavesGroups (content h) groups left
  groups_leave h [] i kept honest left may = inl (kept.stops honest left may, run_over left [] left refl)
  groups_leave h (xs ∷ groups) i (read, after, kept, group, goes, rest) honest left may =
      let says = as_together read xs after group in
      let later = (groups_lead after groups i rest).honest honest in
      leaves_read (content h) (content read) (xs ∷ groups) left kept (says.leads.honest later)
      (together_leaves read after xs says later groups left (groups_leave after groups i rest honest left may))

  leaves_over : (old : Content) (groups : List (List Exchange)) (left : World) → IsSettled old → old.honest
      → old.serves → LeavesGroups old groups left → IsLeftByGroups old.world groups left
  leaves_over old groups left settled honest serves (inl (may, run)) =
      inl (subst (λ (w : World). IsRunOver w (of_groups groups) left) (settled honest serves left may) run)
  leaves_over old groups left settled honest serves (inr (was, run)) = run

  pub groups_stop : (h : H) (groups : List (List Exchange)) (i : H) → IsSettled (content h)
      → AreAnsweredWhileOpen content h groups i → LeavesRunByGroups (content h) groups (content i)
  groups_stop h groups i settled answered honest serves left may =
      leaves_over (content h) groups left settled ((groups_lead h groups i answered).honest honest) serves
      (groups_leave h groups i answered honest left may)

  -- ---- first parts
  groups_part : (h : H) (groups others : List (List Exchange)) (i : H)
      → AreAnsweredWhileOpen content h (groups ++ others) i
      → (m : H) × AreAnsweredWhileOpen content h groups m × AreAnsweredWhileOpen content m others i
  groups_part h [] others i answered = (h, kept_same (content h), answered)
  groups_part h (xs ∷ groups) others i (read, after, kept, group, goes, rest) =
      let (n, first, second) = groups_part after groups others i rest in
      (n, (read, after, kept, group, (λ some. goes (λ none. some (no_first groups others none))), first), second)

  pub groups_last : FirstPartsLast content (AreAnsweredWhileOpen content) LeavesRunByGroups
  groups_last old groups others new settled answered =
      let (mid, first, second) = groups_part old groups others new answered in
      (mid, first, second, groups_stop old groups mid settled first)
