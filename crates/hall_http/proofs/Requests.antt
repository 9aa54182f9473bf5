-- The answer to a request: of the bytes that asked for it, and what it leaves of a sane world.
use Rattle.std.proofs.Common.{◌≡◌, sym, subst, refl, ℕ, List, inl, inr, Option}
use Rattle.hall_policy.specs.World.{World}
use Rattle.hall_policy.specs.declared.request.Request.{Request}
use Rattle.hall_store.specs.Store.{Content}
use Rattle.hall_desk.specs.Plans.{IsNobodys, WritesIfAny}
use Rattle.hall_desk.specs.Run.{IsTimed}
use Rattle.hall_desk.specs.Sane.{Sane}
use Rattle.hall_desk.proofs.StepsSane.{step_sane}
use Rattle.std.specs.Prelude.{Result, Ok, Err}
use Rattle.hall_http.specs.Answered.{Answers, AnswersOver, AnswersFault, AnswersRequest, AnswersRequestOver}
use Rattle.hall_http.specs.Head.{IsLentBy, shown_key}
use Rattle.hall_http.specs.Request.{RequestOf, AsksBy, AsksFor, AsksNothing}
use Rattle.hall_http.specs.declared.head.RawRequest.{RawRequest}
use Rattle.hall_http.specs.declared.form.FormFault.{FormFault}
use Rattle.hall_http.proofs.Asked.{one_asked}

-- what a request asks for whose parts are lent, the bytes ask for that lend them
pub asked_of : (bytes : List ℕ) (raw : RawRequest) (outcome : Result Request FormFault) → IsLentBy bytes raw
    → AsksFor raw outcome → RequestOf bytes outcome
asked_of bytes raw outcome (head, is, method, path, key, says) asks =
    let body = raw.body.now in
    let by_key = subst (λ (shown : Option (List ℕ)). AsksBy shown raw.method.now raw.path.now body outcome) key asks in
    let by_path = subst (λ (target : List ℕ). AsksBy (shown_key head) raw.method.now target body outcome) path by_key in
    inr (
      head,
      body,
      is,
      subst (λ (name : List ℕ). AsksBy (shown_key head) name head.target body outcome) method by_path,
    )

-- bytes are answered by their fault, and the store stays
pub fault_answers : (old : Content) (t : ℕ) (bytes text : List ℕ) (found : FormFault) → RequestOf bytes (Err found)
    → AnswersFault found text → AnswersOver old t bytes text old
fault_answers old t bytes text found reads (inl written) =
    inl ((λ world. (inr (inl (record { found = found; reads = reads; written = written }), refl))), λ s. refl)
fault_answers old t bytes text found reads (inr unavailable) = inl ((λ world. (inr (inr unavailable, refl))), λ s. refl)

pub answers_bytes : (world : World) (t : ℕ) (bytes : List ℕ) (request : Request) (text : List ℕ) (after : World)
    → RequestOf bytes (Ok request) → IsTimed (t, request) → AnswersRequest world t request text after
    → Answers world t bytes text after
answers_bytes world t bytes request text after reads timed (inl (given, step, written)) =
    inl (record { request = request; reply = given; reads = reads; timed = timed; step = step; written = written })
answers_bytes world t bytes request text after reads timed (inr (unavailable, same)) = inr (inr unavailable, same)

turn_sane : (world : World) (t : ℕ) (request : Request) (text : List ℕ) (after : World) → IsTimed (t, request)
    → AnswersRequest world t request text after → Sane world → Sane after
turn_sane world t request text after timed (inl (given, step, written)) sane =
    step_sane world t request given after timed.moment timed.request step sane
turn_sane world t request text after timed (inr (unavailable, same)) sane = subst Sane (sym same) sane

pub request_sane : (old new : Content) (t : ℕ) (request : Request) (text : List ℕ) → IsTimed (t, request)
    → AnswersRequestOver old t request text new → new.serves → Sane old.world → Sane new.world
request_sane old new t request text timed (inl (always, left)) serves sane = subst Sane (sym (left serves)) sane
request_sane old new t request text timed (inr (before, after, says)) serves sane =
    turn_sane old.world t request text new.world timed says sane

one_request : (x y : Request) (a b : Result Request FormFault) → a ≡ Ok x → b ≡ Ok y → a ≡ b → x ≡ y
one_request x y a b e g same = cc

-- what is asked for by bytes that ask nothing, nobody may make
pub nobodys : (bytes : List ℕ) (request : Request) → RequestOf bytes (Ok request) → AsksNothing bytes
    → IsNobodys request
nobodys bytes request reads (inl never) = absurd (never (request, reads))
nobodys bytes request reads (inr (other, read, nobody)) =
    let same = one_asked bytes (Ok other) (Ok request) read reads in
    subst IsNobodys (one_request other request (Ok other) (Ok request) refl refl same) nobody

-- a promise on the request that bytes spell is one on each request that they spell, since that is one
pub quiet_bytes : (old new : Content) (t : ℕ) (bytes : List ℕ) (request : Request) → RequestOf bytes (Ok request)
    → WritesIfAny old t request new → (asked : Request) → RequestOf bytes (Ok asked) → WritesIfAny old t asked new
quiet_bytes old new t bytes request reads quiet asked read =
    let same = one_asked bytes (Ok request) (Ok asked) reads read in
    subst (λ (r : Request). WritesIfAny old t r new) (one_request request asked (Ok request) (Ok asked) refl refl same)
    quiet
