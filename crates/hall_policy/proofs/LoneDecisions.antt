-- What decides a request of a caller who holds the role entrant alone.
use Rattle.std.proofs.Common.{◌≡◌, ◌<◌, ◌≤◌, ◌&&◌, ◌||◌, inl, inr, ℕ, Bool, true, false, not, List, Option, Some, None}
use Rattle.std.proofs.Common.{Contains, arith, lit<, refl, sym, ap, ◌∙◌, subst}
use Rattle.std.specs.Option.{option_map}
use Rattle.std.specs.FinMap.{FinMap}
use Rattle.std.proofs.lemmas.Bool.{cases_order, false≢true}
use Rattle.hall_policy.specs.World.{World, puzzle_cmp, answer_cmp, protest_cmp}
use Rattle.hall_policy.specs.Ranges.{IsWorld}
use Rattle.hall_policy.specs.Actions.{rules_asked, may, number_of}
use Rattle.hall_policy.specs.First.{First, Forbids, Repeated}
use Rattle.hall_policy.specs.declared.record.Person.{Person}
use Rattle.hall_policy.specs.declared.record.PuzzleRow.{PuzzleRow}
use Rattle.hall_policy.specs.declared.record.AnswerRow.{AnswerRow}
use Rattle.hall_policy.specs.declared.record.ProtestRow.{ProtestRow}
use Rattle.hall_policy.specs.declared.request.Action.{Action}
use Rattle.hall_policy.specs.declared.request.Action.TheVariants as action
use Rattle.hall_policy.specs.declared.rule.Rule.{Rule}
use Rattle.hall_policy.specs.declared.rule.Rule.TheVariants as rule
use Rattle.hall_policy.specs.declared.rule.Decision.{Decision}
use Rattle.hall_policy.specs.declared.rule.Decision.TheVariants.{Allow, Repeat, Deny}
use Rattle.hall_policy.specs.OwnAlike.{is_entrant_alone, OwnRowsAgree, seen, as_is, exchanged, OwnAlike}
use Rattle.hall_policy.specs.Laws.{EntrantsDecidedAlike}
use Rattle.hall_policy.proofs.DecidingAlike.{one_caller, Needs, same_decision}

-- ---- who holds the role entrant alone
abbrev pub lone : List ℕ → List ℕ → Person
lone name key = record {
  name = name;
  key = key;
  roles = record {
    director = false;
    author = false;
    referee = false;
    entrant = true;
  };
}

one_of_four : (a b c d : Bool) → (a && not (b || (c || d))) ≡ true → (a ≡ true) × (b ≡ false) × (c ≡ false)
    × (d ≡ false)
one_of_four true false false false h = (refl, refl, refl, refl)
one_of_four true false false true h = let no : false ≡ true = h in absurd (cc)
one_of_four true false true d h = let no : false ≡ true = h in absurd (cc)
one_of_four true true c d h = let no : false ≡ true = h in absurd (cc)
one_of_four false b c d h = let no : false ≡ true = h in absurd (cc)

pub is_lone : (e : Person) → is_entrant_alone e ≡ true → e ≡ lone e.name e.key
is_lone e h =
    let r = one_of_four e.roles.entrant e.roles.author e.roles.referee e.roles.director h in
    let entrant : e.roles.entrant ≡ true = r.0 in
    let author : e.roles.author ≡ false = r.1 in
    let referee : e.roles.referee ≡ false = r.2 in
    let director : e.roles.director ≡ false = r.3 in
    λ i. record {
      name = e.name;
      key = e.key;
      roles = record {
        director = director i;
        author = author i;
        referee =
            referee i;
        entrant = entrant i;
      };
    }

-- ---- a rule that denies first
below_two : (r : Rule) → number_of r < 2 → r ≡ rule.UnknownKey
below_two rule.UnknownKey h = refl
below_two _ h = absurd (omega arith)

repeats_late : (r : Rule) (world : World) (caller : Option Person) (a : Action) → Repeated r world caller a
    → 2 < number_of r
repeats_late rule.TokenTaken world caller a h = lit< tt
repeats_late rule.RuledOtherwise world caller a h = lit< tt
repeats_late _ world caller a h = absurd h.1

-- a caller without the role is denied by the rule on roles
pub no_role : (world : World) (person : Person) (a : Action) (t : ℕ) (d : Decision) → may person.roles a ≡ false
    → Contains (rules_asked a) rule.NoRole → First world (Some person) a t d → d ≡ Deny 2
no_role world person a t (Deny k) lacks asked (r, own, forbids, none) = elim (cases_order k 2) [
  | inl e ↦ ap Deny e
  | inr (inl lt) ↦
      let one : r ≡ rule.UnknownKey = below_two r (omega (arith, own)) in
      let unknown : Forbids rule.UnknownKey world (Some person) a t = subst
      (λ (x : Rule). Forbids x world (Some person) a t) one forbids in
      let no : Some person ≡ None = unknown.1 in
      absurd (cc)
  | inr (inr gt) ↦ absurd ((none rule.NoRole gt).0 (asked, (person, refl, lacks)))
]
no_role world person a t Repeat lacks asked (r, repeated, none) = absurd
    ((none rule.NoRole (repeats_late r world (Some person) a repeated)).0 (asked, (person, refl, lacks)))
no_role world person a t Allow lacks asked none = absurd ((none rule.NoRole (lit< tt)).0 (asked, (person, refl, lacks)))

at_least_one : (r : Rule) → 1 ≤ number_of r
at_least_one rule.UnknownKey = omega arith
at_least_one _ = omega arith

-- a key that is nobody's is denied by the rule on keys
pub no_key : (world : World) (a : Action) (t : ℕ) (d : Decision) → Contains (rules_asked a) rule.UnknownKey
    → First world None a t d → d ≡ Deny 1
no_key world a t (Deny k) asked (r, own, forbids, none) = elim (cases_order k 1) [
  | inl same ↦ ap Deny same
  | inr (inl lt) ↦ absurd (let positive = at_least_one r in omega (arith, own, positive, lt))
  | inr (inr gt) ↦ absurd ((none rule.UnknownKey gt).0 (asked, refl))
]
no_key world a t Repeat asked (r, repeated, none) = absurd ((none rule.UnknownKey
    (let late = repeats_late r world None a repeated in omega (arith, late))).0 (asked, refl))
no_key world a t Allow asked none = absurd ((none rule.UnknownKey (lit< tt)).0 (asked, refl))

-- every action that such a caller may not take asks for the role
pub asks_for_role : (name key : List ℕ) (a : Action) → may (lone name key).roles a ≡ false
    → Contains (rules_asked a) rule.NoRole
asks_for_role name key action.ListRounds h = absurd (false≢true (sym h))
asks_for_role name key (action.Table id) h = absurd (false≢true (sym h))
asks_for_role name key _ h = (1, lit< tt, refl)

-- an exchanged text changes no role
pub may_as_before : (ex : List ℕ → List ℕ → List ℕ) (name key : List ℕ) (a : Action)
    → may (lone name key).roles (exchanged ex a) ≡ may (lone name key).roles a
may_as_before ex name key (action.Submit id number token answer) = refl
may_as_before ex name key _ = refl

module _ (ex : List ℕ → List ℕ → List ℕ) (hidden : List ℕ → Bool)
    (apart : (id a b : List ℕ) → ex id a ≡ ex id b → a ≡ b)
    (world : World) (puzzles : FinMap puzzle_cmp PuzzleRow) (answers : FinMap answer_cmp AnswerRow)
    (protests : FinMap protest_cmp ProtestRow)
    (typed : IsWorld world) (retyped : IsWorld (record world
    { puzzles = puzzles; answers = answers; protests = protests }))
    (name key : List ℕ) (t : ℕ) where
  abbrev later : World
  later = record world { puzzles = puzzles; answers = answers; protests = protests }

  abbrev e : Person
  e = lone name key

  -- what decides e's requests is e's own, and no puzzle
  module _ (own : OwnAlike ex hidden e world later) where
    own_of : (person : Person) → Some e ≡ Some person → OwnAlike ex hidden person world later
    own_of person is = subst (λ (p : Person). OwnAlike ex hidden p world later)
        (sym (one_caller (Some e) e person refl is)) own

    needs_no_other : (a : Action) → may e.roles a ≡ true → Needs ex hidden apart world puzzles answers protests typed
        retyped a
    needs_no_other (action.PutPuzzle puzzle_key puzzle) h = absurd (false≢true h)
    needs_no_other (action.ReadPuzzle puzzle_key) h = absurd (false≢true h)
    needs_no_other (action.Certify puzzle_key budget) h = absurd (false≢true h)
    needs_no_other (action.PutRound id sheet) h = absurd (false≢true h)
    needs_no_other (action.Release id) h = absurd (false≢true h)
    needs_no_other (action.RuleProtest id entrant token ruling) h = absurd (false≢true h)
    needs_no_other (action.Publish id) h = absurd (false≢true h)
    needs_no_other _ h = tt

    pub lone_decisions : (a : Action) (d f : Decision) → First world (Some e) a t d
        → First later (Some e) (exchanged ex a) t f → d ≡ f
    lone_decisions a d f first second = elim (may e.roles a) as (λ b. may e.roles a ≡ b → d ≡ f) [
      | true ↦ λ h. same_decision ex hidden apart world puzzles answers protests typed retyped (Some e) own_of t a
          (needs_no_other a h) d f first second
      | false ↦ λ h.
          no_role world e a t d h (asks_for_role name key a h) first
          ∙ sym (no_role later e (exchanged ex a) t f (may_as_before ex name key a ∙ h)
          (asks_for_role name key (exchanged ex a) (may_as_before ex name key a ∙ h)) second)
    ] refl

-- a world with the rows of another one, where people, rounds, lists and testers are the same
pub same_world : (world other : World) → world.people ≡ other.people → world.rounds ≡ other.rounds
    → world.places ≡ other.places → world.testers ≡ other.testers →
    record world { puzzles = other.puzzles; answers = other.answers; protests = other.protests } ≡ other
same_world world other people rounds places testers = λ i. record {
  people = people i;
  puzzles = other.puzzles;
  rounds = rounds i;
  places = places i;
  answers = other.answers;
  protests = other.protests;
  testers = testers i;
}

-- where no text is exchanged, the action stays
pub as_it_stands : (a : Action) → exchanged as_is a ≡ a
as_it_stands (action.Submit id number token answer) = refl
as_it_stands _ = refl

-- the person's rows that agree show alike
own_alike : (person : Person) (world other : World) → OwnRowsAgree person world other
    → OwnAlike as_is (λ id. false) person world other
own_alike person world other own = record {
  answers = λ key is. ap (option_map (seen as_is (λ id. false))) (own.answers key is);
  protests = own.protests;
}

pub entrants_decided_alike : EntrantsDecidedAlike
entrants_decided_alike world other person t a d f typed retyped people rounds places testers alone own first second =
    let Claim : World → Person → Type 0 = λ w p.
    IsWorld w → OwnAlike as_is (λ id. false) p world w → First world (Some p) a t d → First w (Some p) a t f → d ≡ f in
    let one : Person = lone person.name person.key in
    let beside : World = record world { puzzles = other.puzzles; answers = other.answers; protests = other.protests } in
    let base : Claim beside one = λ right alike here there.
    lone_decisions as_is (λ id. false) (λ id x y e. e) world other.puzzles other.answers other.protests typed right
    person.name person.key t alike a d f here
    (subst (λ (x : Action). First beside (Some one) x t f) (sym (as_it_stands a)) there) in
    let moved : Claim other one = subst (λ (w : World). Claim w one)
    (same_world world other people rounds places testers) base in
    let of_person : Claim other person = subst (λ (p : Person). Claim other p) (sym (is_lone person alone)) moved in
    of_person retyped (own_alike person world other own) first second
