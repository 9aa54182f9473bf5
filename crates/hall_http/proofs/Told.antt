-- What the bytes of replies tell to one key.
use Rattle.std.proofs.Common.{◌≡◌, ◌≢◌, inl, inr, if◌then◌else◌, ℕ, Bool, true, false, cond, not, List, [], ◌∷◌, Option}
use Rattle.std.proofs.Common.{Some, None, Ok, Err, refl, sym, ap, ◌∙◌, subst}
use Rattle.std.specs.Prelude.{IsTrue}
use Rattle.std.specs.FinMap.{get}
use Rattle.std.proofs.lemmas.Bool.{false≢true, not-true}
use Rattle.std.proofs.lemmas.List.Elements.{All-head, All-tail, All-nil, All-cons}
use Rattle.serde_json.specs.Written.{compact_text}
use Rattle.hall_policy.specs.World.{World}
use Rattle.hall_policy.specs.Ranges.{IsWorld}
use Rattle.hall_policy.specs.OwnAlike.{is_entrant_alone}
use Rattle.hall_policy.specs.declared.record.Person.{Person}
use Rattle.hall_policy.specs.declared.request.Request.{Request}
use Rattle.hall_desk.specs.Run.{Run}
use Rattle.hall_desk.specs.Sane.{Sane}
use Rattle.hall_desk.specs.Without.{without, replies_where, replies_to, has_key, certifies, Serve}
use Rattle.hall_desk.specs.Exchanged.{swapped, exchanged_request, exchanged_list, exchanged_replies}
use Rattle.hall_desk.specs.declared.reply.Reply.{Reply}
use Rattle.hall_desk.specs.declared.reply.Reply.TheVariants as reply
use Rattle.hall_desk.proofs.OthersSteps.{not_own}
use Rattle.hall_desk.proofs.OthersRun.{others_hidden_in_runs}
use Rattle.hall_desk.proofs.SealedRun.{sealed_runs}
use Rattle.hall_desk.proofs.StepsSane.{run_sane}
use Rattle.hall_http.specs.declared.form.FormFault.{FormFault}
use Rattle.hall_http.specs.declared.status.MediaType.TheVariants as media
use Rattle.hall_http.specs.Request.{RequestOf, AsksRequest}
use Rattle.hall_http.specs.Reply.{BytesOf, wire_bytes, fault_status, fault_data}
use Rattle.hall_http.specs.Answered.{IsRefused}
use Rattle.hall_http.specs.Connection.{Exchange}
use Rattle.hall_http.specs.Serving.{AnswersAt, IsNoRequestMade, IsRequestMade, AreRequestsMade}
use Rattle.hall_http.specs.Told.{HasOneSpelling, RefusalsTellNothing, AsksFor, AsksForOther, AreRepliesTold, AllServed}
use Rattle.hall_http.specs.Told.{ComesAgain, is_others, AreWithout, BytesHideOthers, ComesExchanged, AreExchanged}
use Rattle.hall_http.specs.Told.{AreBytes, BytesHideAnswers}
use Rattle.hall_http.proofs.Asked.{one_asked}

one_text : (given : Reply) (x y : List ℕ) → BytesOf given x → BytesOf given y → x ≡ y
one_text (reply.Table text) x y p q = p ∙ sym q
one_text _ x y p q = p ∙ sym q

pub one_spelling : HasOneSpelling
one_spelling a b x y same p q = one_text b x y (subst (λ (given : Reply). BytesOf given x) same p) q

-- ---- which request the bytes are
pub same_request : (x : Exchange) (a b : Request) → RequestOf x.request (Ok a) → RequestOf x.request (Ok b) → a ≡ b
same_request x a b p q = let both : Ok a ≡ Ok b = one_asked x.request (Ok a) (Ok b) p q in cc

pub no_request : (x : Exchange) (found : FormFault) (a : Request) → RequestOf x.request (Err found)
    → RequestOf x.request (Ok a) → ⊥
no_request x found a p q = let none : Err found ≡ Ok a = one_asked x.request (Err found) (Ok a) p q in absurd (cc)

-- bytes that aren't made into a request, and are served, are none
pub not_made_asks : (x : Exchange) → IsNoRequestMade x → ¬ (BytesOf reply.Unavailable x.reply) → (test : Request → Bool)
    → AsksFor test x → ⊥
not_made_asks x (inl (moment, at, refused)) serves test (request, reads, passes) = no_request x refused.found request
    refused.reads reads
not_made_asks x (inr lacking) serves test asks = serves lacking

-- bytes that are a request ask for it
made_passes : (x : Exchange) (q : ℕ × Request) (given : Reply) → IsRequestMade x q given → (test : Request → Bool)
    → AsksFor test x → test q.1 ≡ true
made_passes x q given made test (request, reads, passes) = ap test (same_request x q.1 request made.reads reads)
    ∙ passes

made_fails : (x : Exchange) (q : ℕ × Request) (given : Reply) → IsRequestMade x q given → (test : Request → Bool)
    → ¬ (AsksFor test x) → test q.1 ≡ false
made_fails x q given made test fails = elim (test q.1) as (λ b. test q.1 ≡ b → b ≡ false) [
  | true ↦ λ passes. absurd (fails (q.1, made.reads, passes))
  | false ↦ λ h. refl
] refl

pub served_first : (x : Exchange) (xs : List Exchange) → AllServed (x ∷ xs) → ¬ (BytesOf reply.Unavailable x.reply)
served_first x xs served = All-head (λ y. ¬ (BytesOf reply.Unavailable y.reply)) x xs served

pub served_later : (x : Exchange) (xs : List Exchange) → AllServed (x ∷ xs) → AllServed xs
served_later x xs served = All-tail (λ y. ¬ (BytesOf reply.Unavailable y.reply)) x xs served

-- ---- bytes that are no request
-- they have one refusal
pub one_refusal : (bytes text word : List ℕ) → IsRefused bytes text → IsRefused bytes word → text ≡ word
one_refusal bytes text word one other =
    let both : Err one.found ≡ Err other.found = one_asked bytes (Err one.found) (Err other.found) one.reads
    other.reads in
    let same : one.found ≡ other.found = cc in
    one.written ∙ ap (λ (f : FormFault). wire_bytes (fault_status f) media.Json (compact_text (fault_data f))) same
    ∙ sym other.written

-- they are answered by it, or by 503
refused_at : (world after : World) (moment : Option ℕ) (bytes text : List ℕ) → ¬ (AsksRequest bytes)
    → AnswersAt world moment bytes text after
    → ¬ (BytesOf reply.Unavailable text) → IsRefused bytes text
refused_at world after (Some t) bytes text never (inl step) served = absurd (never (step.request, step.reads))
refused_at world after (Some t) bytes text never (inr (inl refused, same)) served = refused
refused_at world after (Some t) bytes text never (inr (inr lacking, same)) served = absurd (served lacking)
refused_at world after None bytes text never (lacking, same) served = absurd (served lacking)

pub refusals_tell_nothing : RefusalsTellNothing
refusals_tell_nothing world after other left moment later bytes text word never one second served kept =
    one_refusal bytes text word (refused_at world after moment bytes text never one served)
    (refused_at other left later bytes word never second kept)

-- ---- the replies to some of the requests, as bytes
told_bytes : (test : Request → Bool) (xs : List Exchange) (requests : List (ℕ × Request)) (replies : List Reply)
    (texts : List (List ℕ)) → AllServed xs → AreRequestsMade xs requests replies → AreRepliesTold test xs texts →
    AreBytes test xs (replies_where (λ asked. test asked.1) requests replies) texts
told_bytes test [] requests replies texts served made told =
    (ap (λ (rs : List (ℕ × Request)). replies_where (λ asked. test asked.1) rs replies) made.0, told)
told_bytes test (x ∷ xs) requests replies texts served (inl (inl (moment, at, refused), made))
    (inl (asks, more, texts_are, told)) =
    inr (inl (refused, more, texts_are, told_bytes test xs requests replies more (served_later x xs served) made told))
told_bytes test (x ∷ xs) requests replies texts served (inl (inr lacking, made)) told = absurd
    (served_first x xs served lacking)
told_bytes test (x ∷ xs) requests replies texts served (inl (missed, made)) (inr (fails, told)) =
    absurd (not_made_asks x missed (served_first x xs served) (λ request. not (test request)) fails)
told_bytes test (x ∷ xs) requests replies texts served (inr (q, given, later, rest, are, come, is, made))
    (inl (inl asks, more, texts_are, told)) =
    let passes : test q.1 ≡ true = made_passes x q given is test asks in
    let ours : List Reply = replies_where (λ asked. test asked.1) later rest in
    let first : replies_where (λ asked. test asked.1) requests replies ≡ given ∷ ours =
    (λ i. replies_where (λ asked. test asked.1) (are i) (come i)) ∙ ap (λ (b : Bool). if b then given ∷ ours else ours)
    passes in
    inl (
      asks,
      given,
      ours,
      more,
      first,
      texts_are,
      is.written,
      told_bytes test xs later rest more
          (served_later x xs served) made told,
    )
told_bytes test (x ∷ xs) requests replies texts served (inr (q, given, later, rest, are, come, is, made))
    (inl (inr never, more, texts_are, told)) =
    absurd (never (q.1, is.reads))
told_bytes test (x ∷ xs) requests replies texts served (inr (q, given, later, rest, are, come, is, made))
    (inr (fails, told)) =
    let skips : test q.1 ≡ false = not-true (test q.1) (made_passes x q given is (λ request. not (test request))
    fails) in
    let ours : List Reply = replies_where (λ asked. test asked.1) later rest in
    let first : replies_where (λ asked. test asked.1) requests replies ≡ ours =
    (λ i. replies_where (λ asked. test asked.1) (are i) (come i)) ∙ ap (λ (b : Bool). if b then given ∷ ours else ours)
    skips in
    inr (inr (
      fails,
      subst (λ (gs : List Reply). AreBytes test xs gs texts) (sym first)
          (told_bytes test xs later rest texts (served_later x xs served) made told),
    ))

-- what is asked for by the same bytes
pub asks_again : (test : Request → Bool) (x y : Exchange) → y.request ≡ x.request → AsksFor test y → AsksFor test x
asks_again test x y same (request, reads, passes) = (
  request,
  subst (λ (bytes : List ℕ). RequestOf bytes (Ok request))
      same reads,
  passes,
)

refused_again : (x y : Exchange) → y.request ≡ x.request → IsRefused y.request y.reply → IsRefused x.request y.reply
refused_again x y same refused = subst (λ (bytes : List ℕ). IsRefused bytes y.reply) same refused

-- a request passes a test or fails it, and bytes that are refused are none
pub not_both : (test : Request → Bool) (x : Exchange) → AsksFor test x → AsksForOther test x → ⊥
not_both test x (request, reads, passes) (other, read, fails) =
    let none : test request ≡ false = ap test (same_request x request other reads read) ∙ not-true (test other) fails in
    false≢true (sym none ∙ passes)

not_refused : (test : Request → Bool) (x : Exchange) (text : List ℕ) → AsksFor test x → IsRefused x.request text → ⊥
not_refused test x text (request, reads, passes) refused = no_request x refused.found request refused.reads reads

-- ---- the requests that are made
-- served bytes have replies that serve
served_replies : (xs : List Exchange) (requests : List (ℕ × Request)) (replies : List Reply) → AllServed xs
    → AreRequestsMade xs requests replies → Serve replies
served_replies [] requests replies served made = subst Serve (sym made.1) (All-nil (λ given. given ≢ reply.Unavailable))
served_replies (x ∷ xs) requests replies served (inl (missed, made)) = served_replies xs requests replies
    (served_later x xs served) made
served_replies (x ∷ xs) requests replies served (inr (q, given, later, rest, are, come, is, made)) =
    subst Serve (sym come) (All-cons (λ g. g ≢ reply.Unavailable) given rest
    (λ lacks. served_first x xs served (subst (λ (g : Reply). BytesOf g x.reply) lacks is.written))
    (served_replies xs later rest (served_later x xs served) made))

-- what comes again is the same request, or is none
module _ (last : World) (e : Person) where
  abbrev others : ℕ × Request → Bool
  others asked = is_others last e asked.1

  abbrev Left : List Exchange → Type 0
  Left xs = (ys : List Exchange) (requests again : List (ℕ × Request)) (replies also : List Reply) → AllServed xs
      → AllServed ys → AreRequestsMade xs requests replies → AreRequestsMade ys again also →
      AreWithout last e xs ys → again ≡ without last e requests

  comes_on : (x : Exchange) (xs : List Exchange) → Left xs → (y : Exchange) (zs : List Exchange)
      (requests again : List (ℕ × Request)) (replies also : List Reply) → AllServed (x ∷ xs) → AllServed (y ∷ zs) →
      AreRequestsMade (x ∷ xs) requests replies → AreRequestsMade (y ∷ zs) again also → ¬ (AsksFor (is_others last e) x)
      → ComesAgain x y → AreWithout last e xs zs → again ≡ without last e requests
  comes_on x xs claim y zs requests again replies also served kept (inl (missed, made)) (inl (lost, remade)) fails same
      left =
      claim zs requests again replies also (served_later x xs served) (served_later y zs kept) made remade left
  comes_on x xs claim y zs requests again replies also served kept (inl (missed, made))
      (inr (p, answered, further, tail, are_too, come_too, is_too, remade)) fails same left =
      absurd (not_made_asks x missed (served_first x xs served) (λ request. true)
      (p.1, subst (λ (bytes : List ℕ). RequestOf bytes (Ok p.1)) same.0 is_too.reads, refl))
  comes_on x xs claim y zs requests again replies also served kept (inr (q, given, later, rest, are, come, is, made))
      (inl (lost, remade)) fails same left =
      absurd (not_made_asks y lost (served_first y zs kept) (λ request. true)
      (q.1, subst (λ (bytes : List ℕ). RequestOf bytes (Ok q.1)) (sym same.0) is.reads, refl))
  comes_on x xs claim y zs requests again replies also served kept (inr (q, given, later, rest, are, come, is, made))
      (inr (p, answered, further, tail, are_too, come_too, is_too, remade)) fails same left =
      let stay : others q ≡ false = made_fails x q given is (is_others last e) fails in
      let request : p.1 ≡ q.1 = same_request x p.1 q.1 (subst (λ (bytes : List ℕ). RequestOf bytes (Ok p.1)) same.0
      is_too.reads) is.reads in
      let moments : Some p.0 ≡ Some q.0 = sym is_too.moment ∙ same.1 ∙ is.moment in
      let moment : p.0 ≡ q.0 = cc in
      let one : p ≡ q = λ i. (moment i, request i) in
      let left_later : further ≡ without last e later = claim zs later further rest tail (served_later x xs served)
      (served_later y zs kept) made remade left in
      are_too ∙ (λ i. one i ∷ left_later i) ∙ sym (ap (λ b. cond (not b) (q ∷ without last e later)
      (without last e later)) stay) ∙ ap (without last e) (sym are)

  left_requests : (xs : List Exchange) → Left xs
  left_requests [] ys requests again replies also served kept made remade none =
      let both = subst (λ (zs : List Exchange). AreRequestsMade zs again also) none remade in
      both.0 ∙ ap (without last e) (sym made.0)
  left_requests (x ∷ xs) ys requests again replies also served kept (inl (missed, made)) remade (inl (asks, left)) =
      absurd (not_made_asks x missed (served_first x xs served) (is_others last e) asks)
  left_requests (x ∷ xs) ys requests again replies also served kept (inr (q, given, later, rest, are, come, is, made))
      remade (inl (asks, left)) =
      let passes : others q ≡ true = made_passes x q given is (is_others last e) asks in
      let tail : again ≡ without last e later = left_requests xs ys later again rest also (served_later x xs served)
      kept made remade left in
      tail ∙ sym (ap (λ b. cond (not b) (q ∷ without last e later) (without last e later)) passes)
      ∙ ap (without last e) (sym are)
  left_requests (x ∷ xs) ys requests again replies also served kept made remade
      (inr (fails, y, zs, come_again, same, left)) =
      comes_on x xs (left_requests xs) y zs requests again replies also served (subst AllServed come_again kept) made
      (subst (λ (ws : List Exchange). AreRequestsMade ws again also) come_again remade) fails same left

  -- the same replies to e's key, and the same refusals, are the same bytes
  module _ (settled : IsWorld last) (there : get last.people e.name ≡ Some e) (alone : IsTrue (is_entrant_alone e))
    where
      abbrev own : Request → Bool
      own request = has_key e.key request.key

      abbrev Same : List Exchange → Type 0
      Same xs = (ys : List Exchange) (replies : List Reply) (texts words : List (List ℕ)) → AreWithout last e xs ys
          → AreBytes own xs replies texts → AreBytes own ys replies words → texts ≡ words

      -- others' requests have another key
      pub not_others : (x : Exchange) → AsksFor own x → AsksFor (is_others last e) x → ⊥
      not_others x (request, reads, passes) (other, read, struck) =
          let same : request ≡ other = same_request x request other reads read in
          false≢true (sym (not_own last e settled there alone other.key struck) ∙ sym (ap own same) ∙ passes)

      same_on : (x : Exchange) (xs : List Exchange) → Same xs
          → (y : Exchange) (zs : List Exchange) (replies : List Reply)
          (texts words : List (List ℕ)) → ComesAgain x y → AreWithout last e xs zs →
          AreBytes own (x ∷ xs) replies texts → AreBytes own (y ∷ zs) replies words → texts ≡ words
      same_on x xs claim y zs replies texts words same left (inl (asks, given, later, rest, come, are, written, more))
          (inl (asks_too, answered, further, tail, come_too, are_too, written_too, more_too)) =
          let both : given ∷ later ≡ answered ∷ further = sym come ∙ come_too in
          let head : given ≡ answered = cc in
          let others_too : later ≡ further = cc in
          let first : x.reply ≡ y.reply = one_spelling given answered x.reply y.reply head written written_too in
          let next : rest ≡ tail = claim zs later rest tail left more
          (subst (λ (gs : List Reply). AreBytes own zs gs tail) (sym others_too) more_too) in
          are ∙ (λ i. first i ∷ next i) ∙ sym are_too
      same_on x xs claim y zs replies texts words same left (inr (inl (refused, rest, are, more)))
          (inr (inl (refused_too, tail, are_too, more_too))) =
          let first : x.reply ≡ y.reply = one_refusal x.request x.reply y.reply refused
          (refused_again x y same.0 refused_too) in
          let next : rest ≡ tail = claim zs replies rest tail left more more_too in
          are ∙ (λ i. first i ∷ next i) ∙ sym are_too
      same_on x xs claim y zs replies texts words same left (inr (inr (fails, more)))
          (inr (inr (fails_too, more_too))) =
          claim zs replies texts words left more more_too
      same_on x xs claim y zs replies texts words same left (inl one) (inr (inl other)) =
          absurd (not_refused own x y.reply one.0 (refused_again x y same.0 other.0))
      same_on x xs claim y zs replies texts words same left (inl one) (inr (inr (fails, more_too))) =
          absurd (not_both own x one.0 (asks_again (λ request. not (own request)) x y same.0 fails))
      same_on x xs claim y zs replies texts words same left (inr (inl one)) (inl other) =
          absurd (not_refused own x x.reply (asks_again own x y same.0 other.0) one.0)
      same_on x xs claim y zs replies texts words same left (inr (inl one)) (inr (inr (fails, more_too))) =
          absurd (not_refused (λ request. not (own request)) x x.reply
          (asks_again (λ request. not (own request)) x y same.0 fails) one.0)
      same_on x xs claim y zs replies texts words same left (inr (inr (fails, more))) (inl other) =
          absurd (not_both own x (asks_again own x y same.0 other.0) fails)
      same_on x xs claim y zs replies texts words same left (inr (inr (fails, more))) (inr (inl other)) =
          absurd (not_refused (λ request. not (own request)) x y.reply fails (refused_again x y same.0 other.0))

      same_told : (xs : List Exchange) → Same xs
      same_told [] ys replies texts words none first second =
          first.1 ∙ sym (subst (λ (zs : List Exchange). AreBytes own zs replies words) none second).1
      same_told (x ∷ xs) ys replies texts words (inl (struck, left)) (inl first) second = absurd
          (not_others x first.0 struck)
      same_told (x ∷ xs) ys replies texts words (inl (struck, left)) (inr (inl first)) second =
          absurd (not_refused (is_others last e) x x.reply struck first.0)
      same_told (x ∷ xs) ys replies texts words (inl (struck, left)) (inr (inr (fails, more))) second =
          same_told xs ys replies texts words left more second
      same_told (x ∷ xs) ys replies texts words (inr (stays, y, zs, come_again, same, left)) first second =
          same_on x xs (same_told xs) y zs replies texts words same left first
          (subst (λ (ws : List Exchange). AreBytes own ws replies words) come_again second)

-- the law
pub bytes_hide_others : BytesHideOthers
bytes_hide_others world last end e xs ys texts others whole left sane there alone without_them served kept none
    none_left same told told_too =
    let requests : left.requests ≡ without last e whole.requests = left_requests last e xs ys whole.requests
    left.requests whole.replies left.replies served kept whole.made left.made without_them in
    let key : ℕ × Request → Bool = λ asked. has_key e.key asked.1.key in
    let replies : replies_where key whole.requests whole.replies ≡ replies_where key left.requests left.replies =
    others_hidden_in_runs world sane last end e whole.requests whole.replies left.replies whole.timed there alone
    whole.run
    (subst (λ (rs : List (ℕ × Request)). Run world rs left.replies end) requests left.run)
    (served_replies xs whole.requests whole.replies served whole.made)
    (served_replies ys left.requests left.replies kept left.made)
    none none_left (same ∙ ap (λ (rs : List (ℕ × Request)). replies_where certifies rs left.replies) requests)
    ∙ ap (λ (rs : List (ℕ × Request)). replies_where key rs left.replies) (sym requests) in
    let settled : Sane last = run_sane world whole.requests whole.replies last whole.timed whole.run sane in
    same_told last e settled.typed there alone xs ys (replies_where key left.requests left.replies) texts others
    without_them
    (subst (λ (gs : List Reply). AreBytes (λ request. has_key e.key request.key) xs gs texts) replies
    (told_bytes (λ request. has_key e.key request.key) xs whole.requests whole.replies texts served whole.made told))
    (told_bytes (λ request. has_key e.key request.key) ys left.requests left.replies others kept left.made told_too)

-- ---- two answers exchanged
-- what comes exchanged is the exchanged request, or is none
module _ (r a b : List ℕ) where
  abbrev Turned : List Exchange → Type 0
  Turned xs = (ys : List Exchange) (requests again : List (ℕ × Request)) (replies also : List Reply) → AllServed xs
      → AllServed ys → AreRequestsMade xs requests replies → AreRequestsMade ys again also →
      AreExchanged r a b xs ys → again ≡ exchanged_list r a b requests

  turns_on : (x : Exchange) (xs : List Exchange) → Turned xs
      → (y : Exchange) (zs : List Exchange) (requests again : List (ℕ × Request)) (replies also : List Reply)
      → AllServed (x ∷ xs) → AllServed (y ∷ zs) →
      AreRequestsMade (x ∷ xs) requests replies → AreRequestsMade (y ∷ zs) again also → ComesExchanged r a b x y
      → AreExchanged r a b xs zs → again ≡ exchanged_list r a b requests
  turns_on x xs claim y zs requests again replies also served kept (inl (missed, made)) (inl (lost, remade)) turn
      turned =
      claim zs requests again replies also (served_later x xs served) (served_later y zs kept) made remade turned
  turns_on x xs claim y zs requests again replies also served kept (inl (missed, made))
      (inr (p, answered, further, tail, are_too, come_too, is_too, remade)) turn turned =
      absurd (not_made_asks x missed (served_first x xs served) (λ other. true) (turn.back p.1 is_too.reads))
  turns_on x xs claim y zs requests again replies also served kept (inr (q, given, later, rest, are, come, is, made))
      (inl (lost, remade)) turn turned =
      absurd (not_made_asks y lost (served_first y zs kept) (λ other. true)
      (exchanged_request (swapped r a b) q.1, turn.turned q.1 is.reads, refl))
  turns_on x xs claim y zs requests again replies also served kept (inr (q, given, later, rest, are, come, is, made))
      (inr (p, answered, further, tail, are_too, come_too, is_too, remade)) turn turned =
      let request : p.1 ≡ exchanged_request (swapped r a b) q.1 = same_request y p.1
      (exchanged_request (swapped r a b) q.1) is_too.reads (turn.turned q.1 is.reads) in
      let moments : Some p.0 ≡ Some q.0 = sym is_too.moment ∙ turn.moment ∙ is.moment in
      let moment : p.0 ≡ q.0 = cc in
      let left_later : further ≡ exchanged_list r a b later = claim zs later further rest tail
      (served_later x xs served) (served_later y zs kept) made remade turned in
      are_too ∙ (λ i. (moment i, request i) ∷ left_later i) ∙ ap (exchanged_list r a b) (sym are)

  turned_requests : (xs : List Exchange) → Turned xs
  turned_requests [] ys requests again replies also served kept made remade none =
      let both = subst (λ (zs : List Exchange). AreRequestsMade zs again also) none remade in
      both.0 ∙ ap (exchanged_list r a b) (sym made.0)
  turned_requests (x ∷ xs) ys requests again replies also served kept made remade (y, zs, come_again, turn, turned) =
      turns_on x xs (turned_requests xs) y zs requests again replies also served (subst AllServed come_again kept) made
      (subst (λ (ws : List Exchange). AreRequestsMade ws again also) come_again remade) turn turned

-- the law
pub bytes_hide_answers : BytesHideAnswers
bytes_hide_answers world last end r a b round e xs ys texts others whole turned sane sealed is_a is_b there alone
    exchange served kept same told told_too =
    let requests : turned.requests ≡ exchanged_list r a b whole.requests = turned_requests r a b xs ys whole.requests
    turned.requests whole.replies turned.replies served kept whole.made turned.made exchange in
    let replies : replies_to e.key turned.requests turned.replies ≡ replies_to e.key whole.requests
    (exchanged_replies r a b whole.requests whole.replies) =
    ap (λ (rs : List (ℕ × Request)). replies_to e.key rs turned.replies) requests
    ∙ sealed_runs world sane last end r a b round e whole.requests whole.replies turned.replies whole.timed sealed is_a
    is_b there alone whole.run
    (subst (λ (rs : List (ℕ × Request)). Run world rs turned.replies end) requests turned.run)
    (served_replies xs whole.requests whole.replies served whole.made)
    (served_replies ys turned.requests turned.replies kept turned.made)
    (same ∙ ap (λ (rs : List (ℕ × Request)). replies_where certifies rs turned.replies) requests) in
    record {
      first = told_bytes (λ request. has_key e.key request.key) xs whole.requests whole.replies texts served whole.made
          told;
      second = subst (λ (gs : List Reply). AreBytes (λ request. has_key e.key request.key) ys gs others) replies
          (told_bytes (λ request. has_key e.key request.key) ys turned.requests turned.replies others kept turned.made
          told_too);
    }
