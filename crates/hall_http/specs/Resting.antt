-- Requests that are answered by one that also works on what they need, before it answers them.
use Rattle.std.specs.Prelude.{◌≡◌, ◌⊎◌, ℕ, List, [], ◌∷◌, Bool, Option}
use Rattle.hall_http.specs.Connection.{Exchange, Session}

-- it rested, one time after another, and was left so each time
abbrev pub AreRests : {H : Type 0} → (H → H → Type 0) → H → List H → H → Type 0
AreRests rests h [] i = i ≡ h
AreRests rests h (m ∷ ms) i = rests h m × AreRests rests m ms i

-- it rested some times, or never
abbrev pub HasRested : {H : Type 0} → (H → H → Type 0) → H → H → Type 0
HasRested {H} rests h i = (left : List H) × AreRests rests h left i

-- it rested some times, and then answered a request
abbrev pub after_rests : {H : Type 0} → (H → H → Type 0) → (H → Option ℕ → List ℕ → List ℕ → H → Type 0)
    → H → Option ℕ → List ℕ → List ℕ → H → Type 0
after_rests {H} rests answers h moment request reply i =
    (m : H) × HasRested rests h m × answers m moment request reply i

-- these requests are answered, one after another, with rests before, between and after them
abbrev pub RestingSession : {H : Type 0} → (H → Option ℕ → List ℕ → List ℕ → H → Type 0) → (H → H → Type 0)
    → H → List Exchange → H → Type 0
RestingSession {H} answers rests h xs i = (m : H) × Session (after_rests rests answers) h xs m × HasRested rests m i

-- a group is one request that is answered alone, or some that are answered together
abbrev pub IsGroup : {H : Type 0} → (H → Option ℕ → List ℕ → List ℕ → H → Type 0) → (H → List Exchange → H → Type 0)
    → H → List Exchange → H → Type 0
IsGroup answers joins h xs i =
    ((x : Exchange) × (xs ≡ x ∷ []) × answers h x.moment x.request x.reply i) ⊎ joins h xs i

-- these groups of requests are answered, one after another, with rests before, between and after them
abbrev pub RestingGroups : {H : Type 0} → (H → List Exchange → H → Type 0) → (H → H → Type 0) → H
    → List (List Exchange) → H → Type 0
RestingGroups group rests h [] i = HasRested rests h i
RestingGroups {H} group rests h (xs ∷ groups) i =
    (read after : H) × HasRested rests h read × group read xs after × RestingGroups group rests after groups i

-- a responder rests, and goes on if it did
abbrev pub still : {H : Type 0} → (H → H → Type 0) → H × Bool → H × Bool → Type 0
still rests h i = rests h.0 i.0 × (i.1 ≡ h.1)
