-- Sessions with rests, one after another.
use Rattle.std.proofs.Common.{◌≡◌, ◌∙◌, ap, refl, sym, subst, ℕ, List, [], ◌∷◌, Option}
use Rattle.std.specs.Prelude.{Bool}
use Rattle.hall_http.specs.Connection.{Exchange}
use Rattle.hall_http.specs.Resting.{AreRests, HasRested, RestingSession, after_rests, still}

module _ {H : Type 0} (rests : H → H → Type 0) where
  pub rests_never : (h : H) → HasRested rests h h
  rests_never h = ([], refl)

  pub rests_once : (h i : H) → rests h i → HasRested rests h i
  rests_once h i rest = (i ∷ [], (rest, refl))

  rests_on : (h : H) (left : List H) (m i : H) → AreRests rests h left m → HasRested rests m i → HasRested rests h i
  rests_on h [] m i same later = subst (λ (m : H). HasRested rests m i) same later
  rests_on h (n ∷ left) m i (rest, more) later =
      let (others, rested) = rests_on n left m i more later in (n ∷ others, (rest, rested))

  pub rests_then : (h m i : H) → HasRested rests h m → HasRested rests m i → HasRested rests h i
  rests_then h m i (left, first) second = rests_on h left m i first second

  module _ (answers : H → Option ℕ → List ℕ → List ℕ → H → Type 0) where
    pub rest_session : (h i : H) → HasRested rests h i → RestingSession answers rests h [] i
    rest_session h i rested = (h, refl, rested)

    pub one_session : (h : H) (x : Exchange) (i : H) → answers h x.moment x.request x.reply i
        → RestingSession answers rests h (x ∷ []) i
    one_session h x i says = (i, (i, (h, rests_never h, says), refl), rests_never i)

    pub rested_first : (h m : H) (xs : List Exchange) (i : H) → HasRested rests h m → RestingSession answers rests m xs i
        → RestingSession answers rests h xs i
    rested_first h m [] i rested (n, same, after) =
        (h, refl, rests_then h m i rested (subst (λ (n : H). HasRested rests n i) same after))
    rested_first h m (x ∷ xs) i rested (n, (p, (q, between, says), more), after) =
        (n, (p, (q, rests_then h m q rested between, says), more), after)

-- a responder that rests goes on if it did
pub still_on : {H : Type 0} (rests : H → H → Type 0) (h : H × Bool) (left : List (H × Bool)) (i : H × Bool)
    → AreRests (still rests) h left i → i.1 ≡ h.1
still_on {H} rests h [] i same = subst (λ (z : H × Bool). z.1 ≡ h.1) (sym same) refl
still_on rests h (m ∷ left) i (rest, more) = still_on rests m left i more ∙ rest.1

-- a responder that went on rested, and goes on
still_rests : {H : Type 0} (rests : H → H → Type 0) (h : H) (left : List H) (i : H) (on : Bool)
    → AreRests rests h left i
    → HasRested (still rests) (h, on) (i, on)
still_rests {H} rests h [] i on same = ([], ap (λ (h : H). (h, on)) same)
still_rests rests h (m ∷ left) i on (rest, more) =
    let (others, rested) = still_rests rests m left i on more in ((m, on) ∷ others, ((rest, refl), rested))

pub rests_still : {H : Type 0} (rests : H → H → Type 0) (h i : H) (on : Bool) → HasRested rests h i
    → HasRested (still rests) (h, on) (i, on)
rests_still rests h i on (left, rested) = still_rests rests h left i on rested
