-- An event of a life that brings what holds at its end, and who asks for it.
use Rattle.std.proofs.Common.{◌≡◌, ◌⊎◌, inl, inr, ℕ, Bool, true, false, List, [], ◌∷◌, Option, Some, None}
use Rattle.std.proofs.Common.{Contains, refl, sym, ap, subst, lit<}
use Rattle.hall_policy.specs.World.{World}
use Rattle.hall_policy.specs.Actions.{rules_asked, may, puzzle_named}
use Rattle.hall_policy.specs.First.{NoneDecides}
use Rattle.hall_policy.specs.declared.rule.Rule.TheVariants as rule
use Rattle.hall_policy.specs.declared.record.Person.{Person}
use Rattle.hall_policy.specs.declared.record.PuzzleKey.{PuzzleKey}
use Rattle.hall_policy.specs.declared.request.Action.{Action}
use Rattle.hall_policy.specs.declared.request.Request.{Request}
use Rattle.hall_policy.proofs.Orders.{text_total, same_texts}
use Rattle.hall_store.specs.Caller.{caller_of}
use Rattle.hall_store.proofs.Inserts.{keys_apart}
use Rattle.hall_desk.specs.History.{Event, requested, Happens, History}
use Rattle.hall_desk.specs.Authorship.{HasAsked, MayWrite}
use Rattle.hall_desk.specs.declared.reply.Reply.{Reply}
use Rattle.hall_desk.proofs.RepliesAlike.{true_unless}
use Rattle.hall_desk.proofs.Touching.{Changes, happened}

-- ---- over a life
-- what holds at the end, with no event to come, held at the start with all to come, or an event brought it
pub carried : (later : World) (P Q : World → List Event → Type 0) →
    ((world next : World) (event : Event) (rest : List Event) → Happens world event next → Q next rest
    → Q world (event ∷ rest)) →
    ((world next : World) (event : Event) (rest : List Event) → History world (event ∷ rest) later
    → Happens world event next → P next rest → P world (event ∷ rest) ⊎ Q world (event ∷ rest)) →
    (events : List Event) (world : World) → History world events later → P later [] → P world events ⊎ Q world events
carried later P Q more first [] world life at = inl (subst (λ w. P w []) life at)
carried later P Q more first (event ∷ rest) world life at = elim (carried later P Q more first rest life.0 life.2 at) [
  | inl before ↦ first world life.0 event rest life life.1 before
  | inr came ↦ inr (more world life.0 event rest life.1 came)
]

-- so it is where what holds doesn't tell what is to come: an event that leaves the world brings nothing
pub brought : (later : World) (P : World → Type 0) (Q : World → List Event → Type 0) →
    ((world next : World) (event : Event) (rest : List Event) → Happens world event next → Q next rest
    → Q world (event ∷ rest)) →
    ((world next : World) (event : Event) (rest : List Event) → History world (event ∷ rest) later
    → Changes world event next → P next → P world ⊎ Q world (event ∷ rest)) →
    (events : List Event) (world : World) → History world events later → P later → P world ⊎ Q world events
brought later P Q more first = carried later (λ world rest. P world) Q more
    (λ world next event rest life happens at. elim (happened world event next happens) [
      | inl same ↦ inl (subst P same at)
      | inr changes ↦ first world next event rest life changes at
    ])

-- a request of a later part of the life is one of the whole
unfoldable pub asked_more : (world next later : World) (event : Event) (rest : List Event) → Happens world event next
    → (person : Person) (t : ℕ) (asked : Action) (given : Reply) →
    HasAsked next later rest person t asked given → HasAsked world later (event ∷ rest) person t asked given
asked_more world next later event rest happens person t asked given h = record {
  key = h.key;
  before = event ∷ h.before;
  after = h.after;
  all = ap (λ (list : List Event). event ∷ list) h.all;
  at = h.at;
  came = (next, happens, h.came);
  went = h.went;
  caller = h.caller;
  allowed = h.allowed;
}

-- the request is the first of the events
unfoldable pub asked_first : (world later : World) (t : ℕ) (request : Request) (given told : Reply) (rest : List Event)
    → History world (requested t request given ∷ rest) later → (person : Person) (asked : Action) →
    request.action ≡ asked → given ≡ told → caller_of world request.key ≡ Some person → may person.roles asked ≡ true →
    HasAsked world later (requested t request given ∷ rest) person t asked told
asked_first world later t request given told rest life person asked same also is allowed = record {
  key = request.key;
  before = [];
  after = rest;
  all = λ i. requested t (record { key = request.key; action = same i }) (also i) ∷ rest;
  at = world;
  came = refl;
  went = subst (λ (r : Reply). History world (requested t (record { key = request.key; action = asked }) r ∷ rest)
      later) also
      (subst (λ (a : Action). History world (requested t (record { key = request.key; action = a }) given ∷ rest) later)
      same life);
  caller = is;
  allowed = allowed;
}

-- ---- who asks
module _ (world : World) (caller : Option Person) (asked : Action) (t : ℕ) (none : NoneDecides world caller asked t)
  where
    -- a caller with a role that allows the action
    pub allowed_person : (person : Person) → Contains (rules_asked asked) rule.NoRole → caller ≡ Some person
        → may person.roles asked ≡ true
    allowed_person person role is = true_unless (may person.roles asked)
        (λ lacks. (none rule.NoRole (lit< tt)).0 (role, (person, is, lacks)))

    pub known_person : Contains (rules_asked asked) rule.UnknownKey → Contains (rules_asked asked) rule.NoRole
        → (person : Person) × (caller ≡ Some person) × (may person.roles asked ≡ true)
    known_person key role = elim caller as (λ (c : Option Person). caller ≡ c → (person : Person)
        × (caller ≡ Some person)
        × (may person.roles asked ≡ true)) [
          | None ↦ λ is. absurd ((none rule.UnknownKey (lit< tt)).0 (key, is))
          | Some person ↦ λ is. (person, is, allowed_person person role is)
        ] refl

    -- who names a puzzle is its author or a director
    pub writer : (person : Person) (key : PuzzleKey) → Contains (rules_asked asked) rule.OtherAuthor
        → caller ≡ Some person → puzzle_named asked ≡ Some key → MayWrite person key
    writer person key asks is names = elim person.roles.director as
        (λ (b : Bool). person.roles.director ≡ b → MayWrite person key) [
          | true ↦ λ director. inr director
          | false ↦ λ other. elim (keys_apart text_total same_texts key.author person.name) [
            | inl own ↦ inl (sym own)
            | inr differ ↦ absurd ((none rule.OtherAuthor (lit< tt)).0
                (asks, (person, is, (other, key, names, differ))))
          ]
        ] refl
