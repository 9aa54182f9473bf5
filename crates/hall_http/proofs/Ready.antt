-- Those that are held stand ready to be answered, each at its place.
use Rattle.std.proofs.Common.{◌≡◌, ◌≢◌, ◌∙◌, sym, subst, refl, arith, inl, inr, ℕ, ◌==◌, List, [], ◌∷◌, ◌++◌}
use Rattle.std.proofs.Common.{◌<◌, ◌≤◌, length, length-append, get_or, Option, None, Some, true, false}
use Rattle.std.specs.Prelude.{◌||◌, ◌⊎◌, All, Bool, cond, not}
use Rattle.std.proofs.lemmas.Bool.{eqb-true, eqb-false}
use Rattle.std.proofs.lemmas.Option.{same_Some}
use Rattle.std.proofs.lemmas.List.{length-map}
use Rattle.std.proofs.lemmas.List.Elements.{All-cons, All-head, All-nil, All-push, All-tail}
use Rattle.hall_http.specs.Crowd.{AreAllThere, AreOthersSame, AreReady, IsAt, IsFree, IsSameAt, StandsWhole}
use Rattle.hall_http.specs.Group.{requests_of}
use Rattle.hall_http.specs.Held.{HoldsOne, is_held, kept_on, without}
use Rattle.hall_http.specs.Limits.{most_answered, most_joined}
use Rattle.hall_http.specs.Peer.{Traffic}
use Rattle.hall_http.specs.Progress.{TakesTurnAt}
use Rattle.hall_http.specs.Steps.{HasRequest, StandsRightly}
use Rattle.hall_http.specs.declared.client.Client.{Client}
use Rattle.hall_http.specs.declared.client.Step.{Step}
use Rattle.hall_http.specs.declared.client.Step.TheVariants as step
use Rattle.hall_http.specs.declared.clients.Clients.{Clients}
use Rattle.hall_http.specs.declared.clients.HeldRequest.{HeldRequest}
use Rattle.hall_http.specs.declared.connection.State.TheVariants as state
use Rattle.hall_http.specs.declared.group.Member.{Member}

-- after a turn by which none is over
pub kept_same : (place : ℕ) (how : Step) (held : List HeldRequest) → how ≢ step.Over → kept_on place how held ≡ held
kept_same place step.Over held on = absurd (on refl)
kept_same place step.Again held on = refl
kept_same place step.Leaves held on = refl
kept_same place (step.Waits what requests) held on = refl
kept_same place (step.Searches requests) held on = refl
kept_same place step.Holds held on = refl

-- the places of those that are held are others
abbrev pub AreApartOf : ℕ → List HeldRequest → Type 0
AreApartOf place held = All (λ other. other.place ≢ place) held

apart_one : (place other : ℕ) (one : HeldRequest) (held : List HeldRequest) (b : Bool)
    → one.place ≢ other → AreApartOf other held → AreApartOf other (cond (not b) (one ∷ held) held)
apart_one place other one held true differs apart = apart
apart_one place other one held false differs apart =
    All-cons (λ it. it.place ≢ other) one held differs apart

apart_without : (place other : ℕ) (held : List HeldRequest) → AreApartOf other held
    → AreApartOf other (without place held)
apart_without place other [] apart = apart
apart_without place other (one ∷ held) apart =
    apart_one place other one (without place held) (one.place == place)
    (All-head (λ it. it.place ≢ other) one held apart)
    (apart_without place other held (All-tail (λ it. it.place ≢ other) one held apart))

not_of : (one : HeldRequest) (held : List HeldRequest) (place : ℕ) (b : Bool) → (one.place == place) ≡ b
    → (b || is_held place held) ≡ false → (one.place ≢ place) × (is_held place held ≡ false)
not_of one held place true e none = absurd cc
not_of one held place false e none = (eqb-false _ _ e, none)

-- what holds of all holds of the first of them, and of those behind
pub all_first : {X : Type 0} (Holds : X → Type 0) (front rest : List X) → All Holds (front ++ rest) → All Holds front
all_first Holds [] rest all = All-nil Holds
all_first Holds (x ∷ front) rest all =
    All-cons Holds x front (All-head Holds x (front ++ rest) all)
    (all_first Holds front rest (All-tail Holds x (front ++ rest) all))

pub all_behind : {X : Type 0} (Holds : X → Type 0) (front rest : List X) → All Holds (front ++ rest) → All Holds rest
all_behind Holds [] rest all = all
all_behind Holds (x ∷ front) rest all = all_behind Holds front rest (All-tail Holds x (front ++ rest) all)

pub some_last : (front : List HeldRequest) (one : HeldRequest) → front ++ one ∷ [] ≢ []
some_last [] one none = absurd cc
some_last (x ∷ front) one none = absurd cc

pub last_none : (front : List HeldRequest) (members : List Member) → front ++ requests_of members ≡ [] → members ≡ []
last_none [] [] none = refl
last_none [] (member ∷ members) none = absurd cc
last_none (x ∷ front) members none = absurd cc

module _ {P : Type 0} where
  -- who stands so does where nothing changed
  pub stands_same : (s u : Clients P) (place : ℕ) → IsSameAt s u place → StandsWhole s place → StandsWhole u place
  stands_same s u place same (k, at, looking, has) = (k, same ∙ at, looking, has)

  pub ready_by : (s u : Clients P) (held : List HeldRequest)
      → All (λ one. StandsWhole s one.place → StandsWhole u one.place) held → AreReady s held → AreReady u held
  ready_by s u [] on ready = tt
  ready_by s u (one ∷ held) on (stands, apart, ready) = (
    All-head (λ one. StandsWhole s one.place → StandsWhole u one.place) one held on stands,
    apart,
    ready_by s u held (All-tail (λ one. StandsWhole s one.place → StandsWhole u one.place) one held on) ready,
  )

  pub ready_same : (s u : Clients P) (held : List HeldRequest) → All (λ one. IsSameAt s u one.place) held
      → AreReady s held → AreReady u held
  ready_same s u held same ready =
      ready_by s u held (λ i d inside. stands_same s u (get_or held i d).place (same i d inside)) ready

  pub ready_there : (s u : Clients P) (held : List HeldRequest) → AreAllThere s u → AreReady s held → AreReady u held
  ready_there s u held there ready =
      ready_by s u held
      (λ i d inside (k, at, looking, has). (k, there (get_or held i d).place k at, looking, has)) ready

  -- those behind the first ones
  pub ready_rest : (s : Clients P) (front rest : List HeldRequest) → AreReady s (front ++ rest) → AreReady s rest
  ready_rest s [] rest ready = ready
  ready_rest s (one ∷ front) rest (stands, apart, ready) = ready_rest s front rest ready

  -- the members of a group stand at other places than those behind them
  pub ready_apart : (s : Clients P) (members : List Member) (rest : List HeldRequest)
      → AreReady s (requests_of members ++ rest)
      → All (λ one. All (λ member. member.request.place ≢ one.place) members) rest
  ready_apart s [] rest ready i d inside = All-nil (λ member. member.request.place ≢ (get_or rest i d).place)
  ready_apart s (member ∷ members) rest (stands, apart, ready) i d inside =
      All-cons (λ member. member.request.place ≢ (get_or rest i d).place) member members
      (λ same.
      all_behind (λ other. other.place ≢ member.request.place) (requests_of members) rest apart i d inside (sym same))
      (ready_apart s members rest ready i d inside)

  -- those that are left, at whose places nothing changed
  pub left_ready : (s m : Clients P) (all front left : List HeldRequest) → AreReady s all → all ≡ front ++ left
      → All (λ one. IsSameAt s m one.place) left → AreReady m left
  left_ready s m all front left ready is same =
      ready_same s m left same (ready_rest s front left (subst (AreReady s) is ready))

  -- once the first of them was answered
  pub same_rest : (s m u : Clients P) (one : HeldRequest) (rest : List HeldRequest) → AreReady m (one ∷ rest)
      → AreOthersSame m one.place u → All (λ x. IsSameAt s m x.place) (one ∷ rest)
      → All (λ x. IsSameAt s u x.place) rest
  same_rest s m u one rest (stands, apart, ready) others same i d inside =
      others (get_or rest i d).place (apart i d inside)
      ∙ All-tail (λ x. IsSameAt s m x.place) one rest same i d inside

  -- once the first of them were answered together
  pub same_behind : (s m u : Clients P) (members : List Member) (rest : List HeldRequest)
      → AreReady m (requests_of members ++ rest)
      → ((place : ℕ) → All (λ member. member.request.place ≢ place) members → IsSameAt m u place)
      → All (λ x. IsSameAt s m x.place) (requests_of members ++ rest) → All (λ x. IsSameAt s u x.place) rest
  same_behind s m u members rest ready others same i d inside =
      others (get_or rest i d).place (ready_apart m members rest ready i d inside)
      ∙ all_behind (λ x. IsSameAt s m x.place) (requests_of members) rest same i d inside

  without_one : (s u : Clients P) (place : ℕ) → AreOthersSame s place u → (one : HeldRequest)
      (held : List HeldRequest) (b : Bool) → (one.place == place) ≡ b → StandsWhole s one.place
      → AreApartOf one.place held → AreReady u held → AreReady u (cond (not b) (one ∷ held) held)
  without_one s u place others one held true e stands apart ready = ready
  without_one s u place others one held false e stands apart ready =
      (stands_same s u one.place (others one.place (eqb-false _ _ e)) stands, apart, ready)

  -- those at other places than the one that changed
  pub ready_without : (s u : Clients P) (place : ℕ) → AreOthersSame s place u → (held : List HeldRequest)
      → AreReady s held → AreReady u (without place held)
  ready_without s u place others [] ready = tt
  ready_without s u place others (one ∷ held) (stands, apart, ready) =
      without_one s u place others one (without place held) (one.place == place) refl stands
      (apart_without place one.place held apart) (ready_without s u place others held ready)

  -- one more is held, of a place of which none is
  pub ready_more : (s : Clients P) (held : List HeldRequest) (one : HeldRequest) → is_held one.place held ≡ false
      → StandsWhole s one.place → AreReady s held → AreReady s (held ++ one ∷ [])
  ready_more s [] one none stands ready = (stands, All-nil (λ other. other.place ≢ one.place), tt)
  ready_more s (x ∷ held) one none stands (first, apart, ready) =
      let (differs, later) = not_of x held one.place (x.place == one.place) refl none in (
        first,
        All-push (λ other. other.place ≢ x.place) held one apart (λ same. differs (sym same)),
        ready_more s held one later stands ready,
      )

  is_there : (u : Clients P) (place : ℕ) (o : Option (Client P)) → get_or u.places.items place None ≡ o
      → (IsFree u place → ⊥) → (k : Client P) × IsAt u place k
  is_there u place None is taken = absurd (taken is)
  is_there u place (Some k) is taken = (k, is)

  -- the one at the place had its turn
  module _ {H : Type 0} (may_wait : H → List ℕ → Type 0) (traffic : P → Traffic) (h : H) (s u : Clients P)
      (place : ℕ) (others : AreOthersSame s place u) where
    stands_held : (how : Step) (k : Client P) → IsAt u place k
        → (how ≡ step.Holds) ⊎ ((requests : ℕ) × (how ≡ step.Searches requests))
        → StandsRightly may_wait k.connection h how → StandsWhole u place
    stands_held how k at (inl holds) stands =
        let so = subst (λ (how : Step). StandsRightly may_wait k.connection h how) holds stands in
        (k, at, so.0, so.1)
    stands_held how k at (inr (requests, searches)) stands =
        let so = subst (λ (how : Step). StandsRightly may_wait k.connection h how) searches stands in
        (k, at, so.0, (so.1.0, so.1.1))

    module _ (how : Step) (over : how ≢ step.Over) (free : IsFree u place → how ≡ step.Over)
        (stands : (k : Client P) → IsAt u place k → (how ≢ step.Over) × StandsRightly may_wait k.connection h how)
        (takes : TakesTurnAt traffic (get_or s.places.items place None) how (get_or u.places.items place None)) where
      stands_still : StandsWhole s place → StandsWhole u place
      stands_still (k, was, at, has) =
          let (l, there) = is_there u place (get_or u.places.items place None) refl (λ none. over (free none)) in
          let (j, stood, took) = takes l there in
          let same : k ≡ j = same_Some k j (sym was ∙ stood) in
          stands_held how l there
          (took.first (subst (λ (k : Client P). k.connection.state ≡ state.Looking) same at)
          (subst (λ (k : Client P). HasRequest k.connection) same has)) (stands l there).1

      stands_on : (other : ℕ) (b : Bool) → (other == place) ≡ b → StandsWhole s other → StandsWhole u other
      stands_on other true e stood =
          let same : other ≡ place = eqb-true _ _ e in
          rw same (stands_still (subst (StandsWhole s) same stood))
      stands_on other false e stood = stands_same s u other (others other (eqb-false _ _ e)) stood

      ready_on : (held : List HeldRequest) → AreReady s held → AreReady u held
      ready_on held ready =
          ready_by s u held (λ i d inside. let other = (get_or held i d).place in stands_on other (other == place) refl)
          ready

    module _ (how : Step) (free : IsFree u place → how ≡ step.Over)
        (stands : (k : Client P) → IsAt u place k → (how ≢ step.Over) × StandsRightly may_wait k.connection h how)
        (takes : TakesTurnAt traffic (get_or s.places.items place None) how (get_or u.places.items place None)) where
      stands_now : how ≡ step.Holds → StandsWhole u place
      stands_now holds =
          let (l, there) = is_there u place (get_or u.places.items place None) refl
          (λ none. let clash = sym holds ∙ free none in absurd cc) in
          stands_held how l there (inl holds) (stands l there).1

    -- and what is held after it stands ready
    module _ (how : Step) (free : IsFree u place → how ≡ step.Over)
        (stands : (k : Client P) → IsAt u place k → (how ≢ step.Over) × StandsRightly may_wait k.connection h how)
        (takes : TakesTurnAt traffic (get_or s.places.items place None) how (get_or u.places.items place None))
        (held : List HeldRequest) (ready : AreReady s held) where
      on_ready : how ≢ step.Over → AreReady u held
      on_ready on = ready_on how on free stands takes held ready

      kept_ready : (it : Step) → how ≡ it → AreReady u (kept_on place it held)
      kept_ready step.Over is = ready_without s u place others held ready
      kept_ready step.Again is = on_ready (λ over. let clash = sym is ∙ over in absurd cc)
      kept_ready step.Leaves is = on_ready (λ over. let clash = sym is ∙ over in absurd cc)
      kept_ready (step.Waits what requests) is = on_ready (λ over. let clash = sym is ∙ over in absurd cc)
      kept_ready (step.Searches requests) is = on_ready (λ over. let clash = sym is ∙ over in absurd cc)
      kept_ready step.Holds is = on_ready (λ over. let clash = sym is ∙ over in absurd cc)

      pub ready_held : {C : Type 0} (now_gives : C → Option ℕ → C → Type 0) (told : Option (Option ℕ)) (clock later : C)
          (after : List HeldRequest) → HoldsOne now_gives ((place, how), told) clock held later after → AreReady u after
      ready_held now_gives told clock later after (inl (none, same, is, over)) = rw is (kept_ready how refl)
      ready_held now_gives told clock later after (inr (holds, apart, moment, some, gives, is)) =
          rw is
          (ready_more u held (record { place = place; moment = moment }) apart (stands_now how free stands takes holds)
          (on_ready (λ over. let clash = sym holds ∙ over in absurd cc)))

-- so few are taken off where some were alone, and then these together
pub joined_few : (front : List HeldRequest) (members : List Member) (one : ℕ) → length front ≤ one → one < 4
    → length members ≤ most_joined → length (front ++ requests_of members) ≤ most_answered
joined_few front members one alone less together =
    omega (
      arith,
      alone,
      less,
      together,
      length-append front (requests_of members),
      length-map members (λ (member : Member). member.request),
    )
