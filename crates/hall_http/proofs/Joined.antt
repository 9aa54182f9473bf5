-- Requests that are answered together: what has joined stays planned, and what each is told in the end it is answered.
use Rattle.std.proofs.Common.{◌≡◌, ◌⊎◌, ◌∙◌, ◌+◌, ◌≤◌, ap, sym, subst, refl, arith, inl, inr, ℕ, List, [], ◌∷◌, ◌++◌}
use Rattle.std.proofs.Common.{map}
use Rattle.std.specs.Prelude.{◌≢◌, All, Bool, Option, Some, None, Ok, Err, true, false}
use Rattle.std.proofs.lemmas.List.Elements.{All-cons, All-head, All-map, All-nil, All-push, All-tail, All-weaker}
use Rattle.hall_policy.specs.World.{World}
use Rattle.hall_policy.specs.declared.record.AnswerRow.{AnswerRow}
use Rattle.hall_policy.specs.declared.request.Request.{Request}
use Rattle.hall_store.specs.Change.{CanAddAnswers, changed}
use Rattle.hall_store.specs.Store.{Asks, Content, IsSettled, Kept, Leads, LeavesOneOf, MakesInWorld, Over, WritesOnce}
use Rattle.hall_store.specs.declared.change.Change.TheVariants.{AddAnswers}
use Rattle.hall_store.specs.declared.fault.StoreFault.{StoreFault}
use Rattle.hall_store.proofs.Knowing.{carried, kept_leads, leads_then}
use Rattle.hall_desk.specs.Plan.{planned_reply}
use Rattle.hall_desk.specs.Plans.{IsNobodys}
use Rattle.hall_desk.specs.Run.{IsTimed}
use Rattle.hall_desk.specs.Together.{IsPlanBeside}
use Rattle.hall_desk.specs.declared.plan.Plan.{Plan}
use Rattle.hall_desk.proofs.JoinLemmas.{plans_beside_are_answers}
use Rattle.hall_http.specs.Answered.{IsUnavailable, answer_text}
use Rattle.hall_http.specs.Connection.{Exchange}
use Rattle.hall_http.specs.Groups.{AnswersInTurn, AreAnsweredTogether, AreMadeInTurn, AreMadeWhole}
use Rattle.hall_http.specs.Groups.{AreRefusedAlike}
use Rattle.hall_http.specs.Joining.{HaveJoined, IsJoined, JoinsOne, JoinsRequest, StoresJoint, TakesReply, planned}
use Rattle.hall_http.specs.Joining.{told_at_end}
use Rattle.hall_http.specs.Request.{ReachesStore, RequestOf}
use Rattle.hall_http.specs.Serving.{AnswersAt, GoesOn}
use Rattle.hall_http.specs.Steps.{gated_group}
use Rattle.hall_http.specs.declared.answer.Answer.{Answer}
use Rattle.hall_http.specs.declared.answer.Answer.TheVariants.{Unavailable}
use Rattle.hall_http.specs.declared.group_end.GroupEnd.{GroupEnd}
use Rattle.hall_http.specs.declared.group_end.GroupEnd.TheVariants.{Stored, Refused, Shut}
use Rattle.hall_http.proofs.Refusals.{unavailable_reply}
use Rattle.hall_http.proofs.Requests.{nobodys}

-- what is answered after others is the last of all
in_turn_then : (xs : List Exchange) (x : Exchange) (before between after : World) → AnswersInTurn xs before between
    → AnswersAt between x.moment x.request x.reply after → AnswersInTurn (xs ++ x ∷ []) before after
in_turn_then [] x before between after same last =
    (after, subst (λ (w : World). AnswersAt w x.moment x.request x.reply after) same last, refl)
in_turn_then (y ∷ xs) x before between after (next, first, rest) last =
    (next, first, in_turn_then xs x next between after rest last)

-- what each is told whose write wasn't made
abbrev refused : Exchange → Exchange
refused x = record x { reply = answer_text Unavailable }

-- so is what is told
abbrev IsRefusing : (Exchange → Exchange) → Type 0
IsRefusing tell = (x : Exchange) → tell x ≡ refused x

refused_at : (world : World) (moment : Option ℕ) (request : List ℕ)
    → AnswersAt world moment request (answer_text Unavailable) world
refused_at world (Some t) request = inr (inr unavailable_reply, refl)
refused_at world None request = (unavailable_reply, refl)

refused_in_turn : (tell : Exchange → Exchange) → IsRefusing tell → (xs : List Exchange) (world : World)
    → AnswersInTurn (map tell xs) world world
refused_in_turn tell is [] world = refl
refused_in_turn tell is (x ∷ xs) world = (
  world,
  subst (λ (y : Exchange). AnswersAt world y.moment y.request y.reply world) (sym (is x))
      (refused_at world x.moment x.request),
  refused_in_turn tell is xs world,
)

refused_alike : (tell : Exchange → Exchange) → IsRefusing tell → (xs : List Exchange)
    → AreRefusedAlike (map tell xs) xs
refused_alike tell is [] = refl
refused_alike tell is (x ∷ xs) =
    subst (λ (y : Exchange). AreRefusedAlike (y ∷ map tell xs) (x ∷ xs)) (sym (is x))
    (unavailable_reply, x.reply, xs, refl, refused_alike tell is xs)

refused_all : (tell : Exchange → Exchange) → IsRefusing tell → (xs : List Exchange)
    → All (λ (x : Exchange). IsUnavailable x.reply) (map tell xs)
refused_all tell is [] = All-nil (λ (x : Exchange). IsUnavailable x.reply)
refused_all tell is (x ∷ xs) =
    All-cons (λ (x : Exchange). IsUnavailable x.reply) (tell x) (map tell xs)
    (subst (λ (y : Exchange). IsUnavailable y.reply) (sym (is x)) (record { same = refl })) (refused_all tell is xs)

told_planned : (xs : List Exchange) → map (told_at_end Stored) xs ≡ xs
told_planned [] = refl
told_planned (x ∷ xs) = ap (λ (ys : List Exchange). x ∷ ys) (told_planned xs)

some_told : (tell : Exchange → Exchange) (xs : List Exchange) → xs ≢ [] → map tell xs ≢ []
some_told tell [] some none = some refl
some_told tell (x ∷ xs) some none = absurd cc

-- what is planned beside these answers, and taken by them, joins
pub takes_joins : (content : Content) (t : ℕ) (request : Request) (plan : Plan) (before : List AnswerRow)
    (result : Option Answer) (after : List AnswerRow) → IsTimed (t, request) → ¬ (IsNobodys request)
    → IsPlanBeside content t request before plan → TakesReply plan before result after
    → JoinsRequest content t request before result after
takes_joins content t request plan before (Some answer) after timed reaches beside takes = record {
  timed = timed;
  reaches = reaches;
  told = takes.2;
  reply = planned_reply plan;
  written = takes.1;
  answered = λ honest serves can.
      plans_beside_are_answers content.world t request before after plan can ((beside honest).1 can) takes.0;
}
takes_joins content t request plan before None after timed reaches beside left = left

shuts : (goes : Bool) → goes ≡ true → goes ≡ false → ⊥
shuts goes on off = absurd cc

-- a store that isn't written to because it may be shut
pub stores_none : (rows : List AnswerRow) (a b : Content) → Kept a b → StoresJoint a rows Shut b
stores_none rows a b kept = record {
  leads = kept_leads a b kept;
  once = omega (arith, kept.writes);
  stops = λ honest left may. inl (kept.stops honest left may);
  stored = λ same. absurd cc;
  left = λ not. kept.world;
  opened = λ same. absurd cc;
}

module _ (rows : List AnswerRow) (a b c : Content) (kept : Kept a b) (serves : b.honest → b.serves) (leads : Leads b c)
    (once : WritesOnce b c)
    (stops : b.serves → LeavesOneOf (λ before left. left ≡ changed (AddAnswers rows) before) b c) where
  leaves_all : LeavesOneOf (λ before left. left ≡ changed (AddAnswers rows) before) a c
  leaves_all honest left may =
      let before = leads.honest honest in
      elim (stops (serves before) honest left may) [
        | inl earlier ↦ inl (kept.stops before left earlier)
        | inr (served, is) ↦ inr (
          kept.serves before served,
          subst (λ (w : World). left ≡ changed (AddAnswers rows) w) (kept.world before served) is,
        )
      ]

  made_or_none : (done : Unit {0}) → (rows ≡ [] → c ≡ b)
      → (rows ≡ []) ⊎ MakesInWorld {E = StoreFault} (AddAnswers rows) b c (Ok done) → c.honest
      → c.serves × (c.world ≡ changed (AddAnswers rows) b.world)
  made_or_none done stays (inl none) honest =
      let same = stays none in (
        subst (λ (d : Content). d.serves) (sym same) (serves (leads.honest honest)),
        ap (λ (d : Content). d.world) same
            ∙ subst (λ (rows : List AnswerRow). b.world ≡ changed (AddAnswers rows) b.world) (sym none) refl,
      )
  made_or_none done stays (inr made) honest = made honest

  -- a store that serves, and was written to, or had nothing to write
  pub stores_all : (done : Unit {0}) → (rows ≡ [] → c ≡ b)
      → (rows ≡ []) ⊎ MakesInWorld {E = StoreFault} (AddAnswers rows) b c (Ok done) → StoresJoint a rows Stored c
  stores_all done stays made = record {
    leads = leads_then a b c (kept_leads a b kept) leads;
    once = omega (arith, kept.writes, once);
    stops = leaves_all;
    stored = λ same honest.
        let (served, is) = made_or_none done stays made honest in (
          served,
          is ∙ ap (λ (w : World). changed (AddAnswers rows) w)
              (kept.world (leads.honest honest) (leads.serves honest served)),
        );
    left = λ not. absurd (not refl);
    opened = λ same. absurd cc;
  }

  left_or_made : (fault : StoreFault) → ¬ (rows ≡ [])
      → (rows ≡ []) ⊎ MakesInWorld {R = Unit {0}} (AddAnswers rows) b c (Err fault) → c.honest → c.serves
      → c.world ≡ b.world
  left_or_made fault some (inl none) = absurd (some none)
  left_or_made fault some (inr made) = made

  -- one that served, and refused the write, and was asked then whether it serves on
  pub stores_refused : (fault : StoreFault) (d : Content) (e : GroupEnd) → ¬ (rows ≡ [])
      → (rows ≡ []) ⊎ MakesInWorld {R = Unit {0}} (AddAnswers rows) b c (Err fault) → Kept c d → e ≢ Stored
      → (e ≡ Refused → d.honest → d.serves) → StoresJoint a rows e d
  stores_refused fault d e some made after not opened = record {
    leads = leads_then a b d (kept_leads a b kept) (leads_then b c d leads (kept_leads c d after));
    once = omega (arith, kept.writes, once, after.writes);
    stops = λ honest left may. leaves_all (after.honest honest) left (after.stops honest left may);
    stored = λ same. absurd (not same);
    left = λ same honest served.
        let earlier = after.honest honest in
        let before = after.serves honest served in
        after.world honest served ∙ left_or_made fault some made earlier before
        ∙ kept.world (leads.honest earlier) (leads.serves earlier before);
    opened = opened;
  }

module _ {H : Type 0} (content : H → Content) where
  -- none has joined yet
  pub none_joined : (h : H) → HaveJoined content [] [] h
  none_joined h = record {
    reach = All-nil (λ (x : Exchange). ReachesStore x.moment x.request);
    told = All-nil (λ (x : Exchange). ¬ (IsUnavailable x.reply));
    can = λ honest serves. tt;
    answered = λ honest serves. refl;
  }

  pub joined_kept : (xs : List Exchange) (rows : List AnswerRow) (h i : H) → Kept (content h) (content i)
      → HaveJoined content xs rows h → HaveJoined content xs rows i
  joined_kept xs rows h i kept joined = record {
    reach = joined.reach;
    told = joined.told;
    can = carried (λ world. CanAddAnswers world rows) (content h) (content i) kept joined.can;
    answered = carried (λ world. AnswersInTurn xs world (changed (AddAnswers rows) world)) (content h) (content i) kept
        joined.answered;
  }

  one_more : (xs : List Exchange) (rows : List AnswerRow) (t : ℕ) (bytes : List ℕ) (request : Request)
      (answer : Answer) (more : List AnswerRow) (i : H) → RequestOf bytes (Ok request)
      → IsJoined (content i) t request rows answer more → HaveJoined content xs rows i
      → HaveJoined content (xs ++ planned (Some t) bytes answer ∷ []) more i
  one_more xs rows t bytes request answer more i reads one joined = record {
    reach = All-push (λ (x : Exchange). ReachesStore x.moment x.request) xs _ joined.reach
        ((λ none. absurd cc), λ nothing. one.reaches (nobodys bytes request reads nothing));
    told = All-push (λ (x : Exchange). ¬ (IsUnavailable x.reply)) xs _ joined.told one.told;
    can = λ honest serves. (one.answered honest serves (joined.can honest serves)).can;
    answered = λ honest serves.
        let after = one.answered honest serves (joined.can honest serves) in
        let world = (content i).world in
        in_turn_then xs (planned (Some t) bytes answer) world (changed (AddAnswers rows) world)
        (changed (AddAnswers more) world) (joined.answered honest serves)
        (inl (record {
          request = request;
          reply = one.reply;
          reads = reads;
          timed = one.timed;
          step = inr (after.found, after.answered);
          written = one.written;
        }));
  }

  -- one more joins what has joined, or none does
  pub joins_one : (xs : List Exchange) (rows : List AnswerRow) (t : ℕ) (bytes : List ℕ) (request : Request)
      (result : Option Answer) (more : List AnswerRow) (h i : H) → RequestOf bytes (Ok request)
      → Kept (content h) (content i) → JoinsRequest (content i) t request rows result more
      → HaveJoined content xs rows h → JoinsOne (HaveJoined content) xs (Some t) bytes result more i
  joins_one xs rows t bytes request (Some answer) more h i reads kept one joined =
      one_more xs rows t bytes request answer more i reads one (joined_kept xs rows h i kept joined)
  joins_one xs rows t bytes request None more h i reads kept same joined =
      subst (λ (rows : List AnswerRow). HaveJoined content xs rows i) (sym same) (joined_kept xs rows h i kept joined)

  -- what a stop leaves where the answers of those who joined were to be stored
  leaves_joined : (xs told : List Exchange) (rows : List AnswerRow) (e : GroupEnd) (h i : H)
      → HaveJoined content xs rows h → StoresJoint (content h) rows e (content i)
      → (xs ≡ told) ⊎ (AreRefusedAlike told xs × AreMadeWhole xs)
      → LeavesOneOf (AreMadeInTurn told) (content h) (content i)
  leaves_joined xs told rows e h i joined ended alike honest left may =
      elim (ended.stops honest left may) [
        | inl earlier ↦ inl earlier
        | inr (serves, is) ↦
            let turn = subst (λ (w : World). AnswersInTurn xs (content h).world w) (sym is)
            (joined.answered (ended.leads.honest honest) serves) in inr (serves, (xs, alike, turn))
      ]

  -- what has joined is stored, and each is told what was planned for it
  stored_together : (xs : List Exchange) (rows : List AnswerRow) (h i : H) → HaveJoined content xs rows h
      → StoresJoint (content h) rows Stored (content i) → IsSettled (content i) → AreAnsweredTogether content h xs i
  stored_together xs rows h i joined ended settled = record {
    leads = ended.leads;
    once = ended.once;
    stops = leaves_joined xs xs rows Stored h i joined ended (inl refl);
    settled = settled;
    answers = λ honest.
        let (serves, is) = ended.stored refl honest in
        let before = ended.leads.serves honest serves in inr (
          before,
          serves,
          subst (λ (w : World). AnswersInTurn xs (content h).world w) (sym is)
              (joined.answered (ended.leads.honest honest) before),
        );
    alike = inl joined.told;
  }

  -- it isn't, and each is told 503
  refused_together : (tell : Exchange → Exchange) → IsRefusing tell → (xs : List Exchange) (rows : List AnswerRow)
      (e : GroupEnd) (h i : H) → e ≢ Stored → HaveJoined content xs rows h
      → StoresJoint (content h) rows e (content i) → IsSettled (content i)
      → AreAnsweredTogether content h (map tell xs) i
  refused_together tell is xs rows e h i not joined ended settled = record {
    leads = ended.leads;
    once = ended.once;
    stops = leaves_joined xs (map tell xs) rows e h i joined ended
        (inr (refused_alike tell is xs, inr joined.told));
    settled = settled;
    answers = λ honest. inl (refused_in_turn tell is xs, ended.left not honest);
    alike = inr (refused_all tell is xs);
  }

  planned_go_on : (xs : List Exchange) (h i : H) → All (λ (x : Exchange). ¬ (IsUnavailable x.reply)) xs
      → All (λ (x : Exchange). GoesOn content h x.reply i) xs
  planned_go_on xs h i told = All-weaker (λ (x : Exchange). ¬ (IsUnavailable x.reply))
      (λ (x : Exchange). GoesOn content h x.reply i) (λ x other same. absurd (other (record { same = same }))) xs told

  refused_go_on : (tell : Exchange → Exchange) (xs : List Exchange) (h i : H)
      → ((content i).honest → (content i).serves) → All (λ (x : Exchange). GoesOn content h x.reply i) (map tell xs)
  refused_go_on tell [] h i serves = All-nil (λ (x : Exchange). GoesOn content h x.reply i)
  refused_go_on tell (x ∷ xs) h i serves =
      All-cons (λ (x : Exchange). GoesOn content h x.reply i) (tell x) (map tell xs) (λ same. inr serves)
      (refused_go_on tell xs h i serves)

  shut_unavailable : (tell : Exchange → Exchange) → IsRefusing tell → (xs : List Exchange)
      → All (λ (x : Exchange). ReachesStore x.moment x.request) xs
      → All (λ (x : Exchange). IsUnavailable x.reply × ReachesStore x.moment x.request) (map tell xs)
  shut_unavailable tell is [] reach =
      All-nil (λ (x : Exchange). IsUnavailable x.reply × ReachesStore x.moment x.request)
  shut_unavailable tell is (x ∷ xs) reach =
      All-cons (λ (x : Exchange). IsUnavailable x.reply × ReachesStore x.moment x.request) (tell x) (map tell xs)
      (subst (λ (y : Exchange). IsUnavailable y.reply × ReachesStore y.moment y.request) (sym (is x))
      (record { same = refl }, All-head (λ (x : Exchange). ReachesStore x.moment x.request) x xs reach))
      (shut_unavailable tell is xs (All-tail (λ (x : Exchange). ReachesStore x.moment x.request) x xs reach))

  -- the group of those who joined, as its one write ended
  pub joined_group : (xs : List Exchange) (rows : List AnswerRow) (h i : H) (e : GroupEnd) (goes : Bool) → xs ≢ []
      → HaveJoined content xs rows h → StoresJoint (content h) rows e (content i) → IsSettled (content i)
      → (e ≡ Shut → goes ≡ false) → (e ≢ Shut → goes ≡ true)
      → gated_group (AreAnsweredTogether content) (GoesOn content) (h, true) (map (told_at_end e) xs) (i, goes)
  joined_group xs rows h i Stored goes some joined ended settled shut opens =
      let on : goes ≡ true = opens (λ same. absurd cc) in
      subst (λ (told : List Exchange).
      gated_group (AreAnsweredTogether content) (GoesOn content) (h, true) told (i, goes)) (sym (told_planned xs)) (
        refl,
        stored_together xs rows h i joined ended settled,
        (λ goes_on. planned_go_on xs h i joined.told),
        λ off. absurd (shuts goes on off),
      )
  joined_group xs rows h i Refused goes some joined ended settled shut opens =
      let on : goes ≡ true = opens (λ same. absurd cc) in (
        refl,
        refused_together (told_at_end Refused) (λ x. refl) xs rows Refused h i (λ same. absurd cc) joined ended settled,
        (λ goes_on. refused_go_on (told_at_end Refused) xs h i (ended.opened refl)),
        λ off. absurd (shuts goes on off),
      )
  joined_group xs rows h i Shut goes some joined ended settled shut opens =
      let off : goes ≡ false = shut refl in (
        refl,
        refused_together (told_at_end Shut) (λ x. refl) xs rows Shut h i (λ same. absurd cc) joined ended settled,
        (λ on. absurd (shuts goes on off)),
        λ over. (
          some_told (told_at_end Shut) xs some,
          shut_unavailable (told_at_end Shut) (λ x. refl) xs joined.reach,
        ),
      )
