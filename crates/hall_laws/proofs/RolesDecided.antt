-- A request is decided alike in two worlds that differ in puzzles and in hidden verdicts, unless a director makes it.
use Rattle.std.proofs.Common.{◌≡◌, ◌≢◌, ◌<◌, inl, inr, arith, ◌↔◌, ◌≤◌, ℕ, Bool, true, false, List, Option, Some, None}
use Rattle.std.proofs.Common.{refl, sym, ap, ◌∙◌, subst, lit<, Contains}
use Rattle.std.specs.List.{AllByRecursion}
use Rattle.std.specs.Option.{option_map}
use Rattle.std.specs.FinMap.{FinMap, get}
use Rattle.std.proofs.lemmas.Bool.{cases_order, false≢true}
use Rattle.hall_grid.specs.Board.{Board}
use Rattle.hall_policy.specs.Limits.{most_puzzles}
use Rattle.hall_policy.specs.World.{World, puzzle_cmp, answer_cmp, end_of, same_text}
use Rattle.hall_policy.specs.Ranges.{IsWorld}
use Rattle.hall_policy.specs.Actions.{number_of, rules_asked, may, puzzle_named}
use Rattle.hall_policy.specs.Rules.{NamesOtherAuthor, puzzles_put}
use Rattle.hall_policy.specs.First.{First, Forbids, Repeated}
use Rattle.hall_policy.specs.OwnAlike.{OwnAlike, seen, as_is, exchanged}
use Rattle.hall_policy.specs.declared.record.AnswerKey.{AnswerKey}
use Rattle.hall_policy.specs.declared.record.AnswerRow.{AnswerRow}
use Rattle.hall_policy.specs.declared.record.Person.{Person}
use Rattle.hall_policy.specs.declared.record.PuzzleKey.{PuzzleKey}
use Rattle.hall_policy.specs.declared.record.PuzzleRow.{PuzzleRow}
use Rattle.hall_policy.specs.declared.record.Round.{Round}
use Rattle.hall_policy.specs.declared.request.Action.{Action}
use Rattle.hall_policy.specs.declared.request.Action.TheVariants as action
use Rattle.hall_policy.specs.declared.rule.Decision.{Decision}
use Rattle.hall_policy.specs.declared.rule.Decision.TheVariants.{Allow, Repeat, Deny}
use Rattle.hall_policy.specs.declared.rule.Rule.{Rule}
use Rattle.hall_policy.specs.declared.rule.Rule.TheVariants as rule
use Rattle.hall_policy.proofs.Deciding.{SaysSame, decided_alike}
use Rattle.hall_policy.proofs.DecidingAlike.{Needs, one_caller, same_decision}
use Rattle.hall_policy.proofs.LoneDecisions.{no_role}
use Rattle.hall_policy.proofs.Orders.{puzzle_total, same_puzzle_keys}
use Rattle.hall_policy.proofs.Texts.{text_decides}
use Rattle.hall_policy.proofs.Viewed.{counted_alike}
use Rattle.hall_desk.specs.Secrecy.{HasStarted}
use Rattle.hall_desk.specs.Shown.{is_sealed}

-- The world with these puzzles and answers is one of its kind, and differs only in puzzles of no started round, and in
-- answers: those of the first, with their texts read by `ex`, show as those of the second do, but for hidden verdicts.
pub record Differ (ex : List ℕ → List ℕ → List ℕ) (hidden : List ℕ → Bool) (world : World)
    (puzzles : FinMap puzzle_cmp PuzzleRow) (answers : FinMap answer_cmp AnswerRow) (t : ℕ) : Type 0 where
  pub apart : (id a b : List ℕ) → ex id a ≡ ex id b → a ≡ b
  pub plain : (id : List ℕ) → hidden id ≡ false → (a : List ℕ) → ex id a ≡ a
  pub typed : IsWorld world
  pub retyped : IsWorld (record world { puzzles = puzzles; answers = answers; protests = world.protests })
  pub started : (key : PuzzleKey) → HasStarted world t key → get world.puzzles key ≡ get puzzles key
  pub shown : (key : AnswerKey) → option_map (seen ex hidden) (get world.answers key)
      ≡ option_map (seen as_is hidden) (get answers key)
  pub seals : (id : List ℕ) (round : Round) → hidden id ≡ true → get world.rounds id ≡ Some round
      → (is_sealed round.mode ≡ true) × (t < end_of round)
  pub published : (id : List ℕ) (round : Round) → hidden id ≡ true → get world.rounds id ≡ Some round
      → round.published ≡ true → (key : AnswerKey) → key.round ≡ id → get world.answers key ≡ get answers key

-- ---- a puzzle of another author
no_earlier : (r : Rule) (world : World) (person : Person) (a : Action) (t : ℕ) → may person.roles a ≡ true
    → number_of r < 3 → ¬ (Forbids r world (Some person) a t)
no_earlier rule.UnknownKey world person a t h few (asked, is) = let no : Some person ≡ None = is in cc
no_earlier rule.NoRole world person a t h few (asked, (one, is, lacks)) = false≢true
    (sym lacks ∙ ap (λ (p : Person). may p.roles a) (one_caller (Some person) person one refl is) ∙ h)
no_earlier _ world person a t h few forbids = absurd (omega arith)

repeats_later : (r : Rule) (world : World) (caller : Option Person) (a : Action) → Repeated r world caller a
    → 3 < number_of r
repeats_later rule.TokenTaken world caller a h = lit< tt
repeats_later rule.RuledOtherwise world caller a h = lit< tt
repeats_later _ world caller a h = absurd h.1

-- who may, and names another author, is denied by the rule on authors
other_author : (world : World) (person : Person) (a : Action) (t : ℕ) (d : Decision) → may person.roles a ≡ true
    → Forbids rule.OtherAuthor world (Some person) a t → First world (Some person) a t d → d ≡ Deny 3
other_author world person a t (Deny k) h names (r, own, forbids, none) = elim (cases_order k 3) [
  | inl same ↦ ap Deny same
  | inr (inl lt) ↦ absurd (no_earlier r world person a t h (omega (arith, own, lt)) forbids)
  | inr (inr gt) ↦ absurd ((none rule.OtherAuthor gt).0 names)
]
other_author world person a t Repeat h names (r, repeated, none) = absurd
    ((none rule.OtherAuthor (repeats_later r world (Some person) a repeated)).0 names)
other_author world person a t Allow h names none = absurd ((none rule.OtherAuthor (lit< tt)).0 names)

-- every action that the caller may not take asks for the role
pub asks_for_role : (person : Person) (a : Action) → may person.roles a ≡ false → Contains (rules_asked a) rule.NoRole
asks_for_role person action.ListRounds h = absurd (false≢true (sym h))
asks_for_role person (action.Table id) h = absurd (false≢true (sym h))
asks_for_role person _ h = (1, lit< tt, refl)

may_alike : (ex : List ℕ → List ℕ → List ℕ) (person : Person) (a : Action)
    → may person.roles (exchanged ex a) ≡ may person.roles a
may_alike ex person (action.Submit id number token answer) = refl
may_alike ex person _ = refl

module _ (ex : List ℕ → List ℕ → List ℕ) (hidden : List ℕ → Bool) (world : World)
    (puzzles : FinMap puzzle_cmp PuzzleRow) (answers : FinMap answer_cmp AnswerRow) (t : ℕ)
    (differ : Differ ex hidden world puzzles answers t) where
  abbrev pub later : World
  later = record world { puzzles = puzzles; answers = answers; protests = world.protests }

  module _ (caller : Option Person) where
    pub own_alike : (person : Person) → caller ≡ Some person → OwnAlike ex hidden person world later
    own_alike person is = record { answers = λ key own. differ.shown key; protests = λ key own. refl }

    by_own : (a : Action) → Needs ex hidden differ.apart world puzzles answers world.protests differ.typed
        differ.retyped a → (d f : Decision) → First world caller a t d → First later caller (exchanged ex a) t f → d ≡ f
    by_own a needs d f first second =
        same_decision ex hidden differ.apart world puzzles answers world.protests differ.typed differ.retyped caller
        own_alike t a needs d f first second

  module _ (person : Person) (plain : person.roles.director ≡ false)
      (own : (key : PuzzleKey) → key.author ≡ person.name → get world.puzzles key ≡ get puzzles key) where
    abbrev Says : Action → Type 0
    Says a = AllByRecursion (λ r. SaysSame r world later (Some person) a a t) (rules_asked a)

    -- the rules that are asked first of a request that names a puzzle
    first_rules : (a : Action) (Rest : Type 0) → SaysSame rule.Missing world later (Some person) a a t → Rest
        → SaysSame rule.UnknownKey world later (Some person) a a t
        × (SaysSame rule.NoRole world later (Some person) a a t
        × (SaysSame rule.OtherAuthor world later (Some person) a a t
        × (SaysSame rule.Missing world later (Some person) a a t × Rest)))
    first_rules a Rest missing rest = (
      record { forbids = ((λ h. h), (λ h. h)); repeats = ((λ h. h), (λ h. h)) },
      (
        record { forbids = ((λ h. h), (λ h. h)); repeats = ((λ h. h), (λ h. h)) },
        (record { forbids = ((λ h. h), (λ h. h)); repeats = ((λ h. h), (λ h. h)) }, (missing, rest)),
      ),
    )

    module _ (key : PuzzleKey) (is : key.author ≡ person.name) where
      missing_alike : (get world.puzzles key ≡ None) ↔ (get puzzles key ≡ None)
      missing_alike = ((λ h. sym (own key is) ∙ h), (λ h. own key is ∙ h))

      put_alike : puzzles_put world key.author ≡ puzzles_put later key.author
      put_alike =
          let passes : PuzzleKey → Bool = λ k. same_text k.author key.author in
          counted_alike puzzle_total same_puzzle_keys passes (λ r. r) (λ r. r) (λ r. passes r.key) world.puzzles puzzles
          (λ k r at. ap passes (differ.typed.puzzles k r at)) (λ k r at. ap passes (differ.retyped.puzzles k r at))
          (λ k passed. ap (option_map (λ r. r)) (own k ((text_decides k.author key.author).0 passed ∙ is)))

      says_put : (puzzle : Board) → Says (action.PutPuzzle key puzzle)
      says_put puzzle = first_rules (action.PutPuzzle key puzzle) _
          (record { forbids = ((λ h. h), (λ h. h)); repeats = ((λ h. h), (λ h. h)) }) (
            record { forbids = ((λ h. h), (λ h. h)); repeats = ((λ h. h), (λ h. h)) },
            (
              record {
                forbids = (
                  (λ h. (missing_alike.0 h.0, subst (λ n. most_puzzles ≤ n) put_alike h.1)),
                  (λ h. (missing_alike.1 h.0, subst (λ n. most_puzzles ≤ n) (sym put_alike) h.1)),
                );
                repeats = ((λ h. h), (λ h. h));
              },
              tt,
            ),
          )

      says_read : Says (action.ReadPuzzle key)
      says_read = first_rules (action.ReadPuzzle key) _
          (record { forbids = missing_alike; repeats = ((λ h. h), (λ h. h)) }) tt

      says_certify : (budget : ℕ) → Says (action.Certify key budget)
      says_certify budget = first_rules (action.Certify key budget) _
          (record { forbids = missing_alike; repeats = ((λ h. h), (λ h. h)) }) tt

    -- a request that names a puzzle: the person's own, or another author's
    by_author : (a : Action) (key : PuzzleKey) → puzzle_named a ≡ Some key → Contains (rules_asked a) rule.OtherAuthor
        → may person.roles a ≡ true → (key.author ≡ person.name → Says a) → (d f : Decision)
        → First world (Some person) a t d → First later (Some person) a t f → d ≡ f
    by_author a key named asked h says d f first second = elim (same_text key.author person.name) as
        (λ b. same_text key.author person.name ≡ b → d ≡ f) [
          | true ↦ λ is. decided_alike world later (Some person) a a t refl
              (says ((text_decides key.author person.name).0 is)) d f first second
          | false ↦ λ no.
              let apart : key.author ≢ person.name = λ is.
              false≢true (sym no ∙ (text_decides key.author person.name).1 is) in
              let names : Contains (rules_asked a) rule.OtherAuthor × NamesOtherAuthor (Some person) a =
              (asked, (person, refl, (plain, key, named, apart))) in
              other_author world person a t d h names first ∙ sym (other_author later person a t f h names second)
        ] refl

    allowed_alike : (a : Action) → may person.roles a ≡ true → (d f : Decision) → First world (Some person) a t d
        → First later (Some person) (exchanged ex a) t f → d ≡ f
    allowed_alike (action.PutPuzzle key puzzle) h d f = by_author (action.PutPuzzle key puzzle) key refl
        (2, lit< tt, refl) h (λ is. says_put key is puzzle) d f
    allowed_alike (action.ReadPuzzle key) h d f = by_author (action.ReadPuzzle key) key refl (2, lit< tt, refl) h
        (λ is. says_read key is) d f
    allowed_alike (action.Certify key budget) h d f = by_author (action.Certify key budget) key refl
        (2, lit< tt, refl) h (λ is. says_certify key is budget) d f
    allowed_alike (action.PutRound id sheet) h d f = absurd (false≢true (sym plain ∙ h))
    allowed_alike (action.Release id) h d f = absurd (false≢true (sym plain ∙ h))
    allowed_alike (action.RuleProtest id entrant token ruling) h d f = by_own (Some person)
        (action.RuleProtest id entrant token ruling) refl d f
    allowed_alike (action.Publish id) h d f = by_own (Some person) (action.Publish id) refl d f
    allowed_alike a h d f = by_own (Some person) a tt d f

    -- what the person asks is decided alike
    pub same_decisions : (a : Action) (d f : Decision) → First world (Some person) a t d
        → First later (Some person) (exchanged ex a) t f → d ≡ f
    same_decisions a d f first second = elim (may person.roles a) as (λ b. may person.roles a ≡ b → d ≡ f) [
      | true ↦ λ h. allowed_alike a h d f first second
      | false ↦ λ h. no_role world person a t d h (asks_for_role person a h) first
          ∙ sym (no_role later person (exchanged ex a) t f (may_alike ex person a ∙ h)
          (asks_for_role person (exchanged ex a) (may_alike ex person a ∙ h)) second)
    ] refl
