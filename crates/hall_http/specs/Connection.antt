-- Requests that are answered one after another, each with its reply.
use Rattle.std.specs.Prelude.{◌≡◌, ℕ, List, [], ◌∷◌, ◌++◌, true, false, flat_map, All, Option}
use Rattle.httparse.specs.Grammar.{RequestHead}
use Rattle.hall_http.specs.Head.{IsHeadAndBody, IsWholeRequest, closes}

-- the bytes are one whole request, after which the connection closes
abbrev pub IsClosing : List ℕ → Type 0
IsClosing bytes = (head : RequestHead) × (body : List ℕ) × IsHeadAndBody bytes head body × (closes head ≡ true)

-- the bytes are one whole request, after which the connection stays open
abbrev pub LeavesOpen : List ℕ → Type 0
LeavesOpen bytes = (head : RequestHead) × (body : List ℕ) × IsHeadAndBody bytes head body × (closes head ≡ false)

-- a request of the stream, the moment that the clock gave, and the bytes of the reply
pub record Exchange : Type 0 where
  pub request : List ℕ
  pub moment : Option ℕ
  pub reply : List ℕ

-- the bytes of the requests
abbrev pub requests_of : List Exchange → List ℕ
requests_of xs = flat_map (λ x. x.request) xs

-- the bytes of the replies
abbrev pub replies_of : List Exchange → List ℕ
replies_of xs = flat_map (λ x. x.reply) xs

-- all requests of some groups
abbrev pub of_groups : List (List Exchange) → List Exchange
of_groups [] = []
of_groups (xs ∷ groups) = xs ++ of_groups groups

-- the connection stays open after each of these requests
abbrev pub AreOpen : List Exchange → Type 0
AreOpen xs = All (λ x. LeavesOpen x.request) xs

-- a whole request is answered at the moment that the clock gives
abbrev pub Exchanged : {H C : Type 0} → (H → Option ℕ → List ℕ → List ℕ → H → Type 0) → (C → Option ℕ → C → Type 0)
    → H → C → Exchange → H → C → Type 0
Exchanged answers now_gives h c x i d =
    IsWholeRequest x.request × now_gives c x.moment d × answers h x.moment x.request x.reply i

-- these requests are answered, one after another, each by what the one before it left
abbrev pub Session : {H : Type 0} → (H → Option ℕ → List ℕ → List ℕ → H → Type 0) → H → List Exchange → H → Type 0
Session answers h [] i = i ≡ h
Session {H} answers h (x ∷ xs) i = (m : H) × answers h x.moment x.request x.reply m × Session answers m xs i

-- the clock was asked so often, and gave these moments
abbrev pub AreReadings : {C : Type 0} → (C → Option ℕ → C → Type 0) → C → List (Option ℕ) → C → Type 0
AreReadings now_gives clock [] later = later ≡ clock
AreReadings {C} now_gives clock (moment ∷ moments) later =
    (next : C) × now_gives clock moment next × AreReadings now_gives next moments later

-- the clock was asked once for each request, in their order
abbrev pub AreMoments : {C : Type 0} → (C → Option ℕ → C → Type 0) → C → List Exchange → C → Type 0
AreMoments now_gives clock [] later = later ≡ clock
AreMoments {C} now_gives clock (x ∷ xs) later =
    (next : C) × now_gives clock x.moment next × AreMoments now_gives next xs later
