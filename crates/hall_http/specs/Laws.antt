-- What bytes are as requests and as records, they are in at most one way.
use Rattle.std.specs.Prelude.{◌≡◌, ℕ, List, ◌++◌, flat_map, All, Result}
use Rattle.hall_store.specs.Store.{Content, IsSettled}
use Rattle.httparse.specs.Grammar.{RequestHead}
use Rattle.hall_policy.specs.World.{World}
use Rattle.hall_policy.specs.declared.request.Request.{Request}
use Rattle.hall_http.specs.declared.form.FormFault.{FormFault}
use Rattle.hall_http.specs.Head.{IsHeadAndBody, IsWholeRequest, HasNoWholeRequest}
use Rattle.hall_http.specs.Request.{RequestOf}
use Rattle.hall_http.specs.Records.{Record, Records, HasNoRecord}
use Rattle.hall_http.specs.Connection.{Exchange}
use Rattle.hall_http.specs.Serving.{IsRunOver}

-- bytes are at most one request
abbrev pub AreOneRequest : Type 0
AreOneRequest =
    (bytes : List ℕ) (head other : RequestHead) (body more : List ℕ)
    → IsHeadAndBody bytes head body → IsHeadAndBody bytes other more → (head ≡ other) × (body ≡ more)

-- a stream begins with at most one whole request
abbrev pub BeginsWithOneRequest : Type 0
BeginsWithOneRequest =
    (first other rest left : List ℕ)
    → IsWholeRequest first → IsWholeRequest other → first ++ rest ≡ other ++ left → (first ≡ other) × (rest ≡ left)

-- bytes ask for at most one thing, or have at most one first fault of their form
abbrev pub AskForOneThing : Type 0
AskForOneThing =
    (bytes : List ℕ) (outcome other : Result Request FormFault)
    → RequestOf bytes outcome → RequestOf bytes other → outcome ≡ other

-- the stream is these whole requests and then this rest, which begins with no further one
pub record Requests (stream : List ℕ) (requests : List (List ℕ)) (rest : List ℕ) : Type 0 where
  pub whole : stream ≡ flat_map (λ request. request) requests ++ rest
  pub each : All IsWholeRequest requests
  pub ended : HasNoWholeRequest rest

-- a stream is at most one list of requests
abbrev pub AreOneListOfRequests : Type 0
AreOneListOfRequests =
    (stream : List ℕ) (requests others : List (List ℕ)) (rest left : List ℕ)
    → Requests stream requests rest → Requests stream others left → (requests ≡ others) × (rest ≡ left)

-- an input is at most one list of records
abbrev pub AreOneListOfRecords : Type 0
AreOneListOfRecords =
    (stream : List ℕ) (records others : List Record) (rest left : List ℕ)
    → Records stream records rest → HasNoRecord rest → Records stream others left → HasNoRecord left
    → (records ≡ others) × (rest ≡ left)

-- the exchanges of two runs, of which the second begins where the first ended, are those of one run
abbrev pub RunsCompose : Type 0
RunsCompose =
    (old mid new : World) (xs ys : List Exchange)
    → IsRunOver old xs mid → IsRunOver mid ys new → IsRunOver old (xs ++ ys) new

-- What is answered over a store of which at first a stop would leave its world and no other, is requests or groups of
-- them. Then after each first part of it there is the store that it left and from which the rest is answered, and what
-- a stop leaves of that one is what this first part leaves.
abbrev pub FirstPartsLast : {H X : Type 0} → (H → Content) → (H → List X → H → Type 0)
    → (Content → List X → Content → Type 0) → Type 0
FirstPartsLast {H} {X} content Answered Leaves =
    (old : H) (xs ys : List X) (new : H) → IsSettled (content old) → Answered old (xs ++ ys) new
    → (mid : H) × Answered old xs mid × Answered mid ys new × Leaves (content old) xs (content mid)
