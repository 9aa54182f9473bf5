-- What a plan promises, and what a step over a store leaves.
use Rattle.std.specs.Prelude.{◌≡◌, ◌≤◌, ◌⊎◌, ℕ, List, [], ◌∷◌, Option, Some, None, true, false, ◌≢◌, Result, Ok, Err}
use Rattle.std.specs.Prelude.{Contains, All}
use Rattle.hall_store.specs.declared.change.Change.TheVariants as change
use Rattle.hall_store.specs.declared.change.Change.TheVariants.{Nothing}
use Rattle.std.specs.FinMap.{get}
use Rattle.hall_policy.specs.World.{World, entry_at}
use Rattle.hall_policy.specs.Rules.{IsCertified}
use Rattle.hall_policy.specs.declared.record.Entry.{Entry}
use Rattle.hall_policy.specs.declared.record.Person.{Person}
use Rattle.hall_policy.specs.declared.record.PuzzleRow.{PuzzleRow}
use Rattle.hall_policy.specs.declared.record.RoundRow.{RoundRow}
use Rattle.hall_policy.specs.declared.record.PuzzleState.{PuzzleState}
use Rattle.hall_solve.specs.Searched.{visits_made}
use Rattle.hall_solve.specs.declared.searched.Visits.{Visits}
use Rattle.hall_policy.specs.declared.request.Action.{Action}
use Rattle.hall_policy.specs.declared.request.Action.TheVariants as action
use Rattle.hall_policy.specs.declared.request.Action.TheVariants.{PutPuzzle, Certify}
use Rattle.hall_policy.specs.declared.request.Action.TheVariants.{ReadPuzzle, ListPuzzles, ListRounds, ReadRound}
use Rattle.hall_policy.specs.declared.request.Action.TheVariants.{Answers, Solutions, Protests, Table}
use Rattle.hall_policy.specs.declared.facts.Facts.{Facts}
use Rattle.hall_store.specs.Store.{CanFailIn, Content, Fails, Leads, LeavesOneOf, MoreFaults, Over, WritesOnce}
use Rattle.hall_store.specs.declared.change.Change.{Change}
use Rattle.hall_store.specs.declared.change.RoundFlag.TheVariants as flag
use Rattle.hall_store.specs.declared.fault.StoreFault.{StoreFault}
use Rattle.hall_policy.specs.Facts.{AreTrue}
use Rattle.hall_desk.specs.Sane.{Sane}
use Rattle.hall_desk.specs.Judged.{IsVerdictOn}
use Rattle.hall_grid.specs.Board.{Board}
use Rattle.hall_desk.specs.Shown.{state_name}
use Rattle.hall_desk.specs.declared.reply.StateName.{StateName}
use Rattle.hall_desk.specs.declared.reply.StateName.TheVariants as name
use Rattle.hall_policy.specs.declared.request.Request.{Request}
use Rattle.hall_policy.specs.First.{First}
use Rattle.hall_policy.specs.declared.rule.Decision.{Decision}
use Rattle.hall_policy.specs.declared.rule.Decision.TheVariants.{Allow}
use Rattle.hall_store.specs.Caller.{caller_of}
use Rattle.hall_store.specs.Change.{changed, CanMake}
use Rattle.hall_desk.specs.Plan.{planned_reply, planned_change}
use Rattle.hall_desk.specs.Step.{Step, Seed, IsAnswered, Allowed, draft_of, is_open, unknown_people}
use Rattle.hall_desk.specs.Run.{IsLeftBy, Run}
use Rattle.hall_desk.specs.declared.reply.Reply.{Reply}
use Rattle.hall_desk.specs.declared.reply.Reply.TheVariants as reply
use Rattle.hall_desk.specs.declared.plan.Plan.{Plan}

-- the action has nothing to write where it is allowed: it only reads, or the same puzzle stands under the key already,
-- or a search of the puzzle came to an end before
abbrev pub HasNothingToWrite : World → Action → Type 0
HasNothingToWrite world (ReadPuzzle key) = Unit {0}
HasNothingToWrite world ListPuzzles = Unit {0}
HasNothingToWrite world ListRounds = Unit {0}
HasNothingToWrite world (ReadRound round) = Unit {0}
HasNothingToWrite world (Answers round) = Unit {0}
HasNothingToWrite world (Solutions round) = Unit {0}
HasNothingToWrite world (Protests round) = Unit {0}
HasNothingToWrite world (Table round) = Unit {0}
HasNothingToWrite world (PutPuzzle key puzzle) =
    (row : PuzzleRow) × (get world.puzzles key ≡ Some row) × (row.puzzle ≡ puzzle)
HasNothingToWrite world (Certify key budget) =
    (row : PuzzleRow) × (get world.puzzles key ≡ Some row) × (is_open row.state ≡ false)
HasNothingToWrite world _ = ⊥

-- at most the budget's visits were made, and all of them where it is told that the search gave up
pub record HasSpent (budget : ℕ) (told : Reply) (visits : Visits) : Type 0 where
  pub within : visits_made visits ≤ budget
  pub whole : told ≡ reply.Certify name.GaveUp → visits_made visits ≡ budget

-- where the action certifies a puzzle of which no search came to an end yet, a search was made for the plan: within the
-- budget, and with all its visits where it gave up
abbrev pub HasSearched : World → Action → Plan → Type 0
HasSearched world (Certify key budget) plan =
    (row : PuzzleRow) → get world.puzzles key ≡ Some row → is_open row.state ≡ true →
    (visits : Visits) × (plan.visits ≡ Some visits) × HasSpent budget plan.reply visits
HasSearched world _ plan = Unit {0}

-- The change is the action's own, of what the action names; or there is none. So a store refuses a plan's change for
-- nothing but what it says of this one.
abbrev pub IsChangeOf : Change → Action → Type 0
IsChangeOf Nothing action = Unit {0}
IsChangeOf (change.Import others) (action.Import people) = others ≡ people
IsChangeOf (change.PutPuzzle row) (PutPuzzle key puzzle) = row.key ≡ key
IsChangeOf (change.SetState other state) (Certify key budget) = other ≡ key
IsChangeOf (change.PutRound row) (action.PutRound round sheet) =
    row ≡ record { round = draft_of round sheet; puzzles = sheet.puzzles; testers = sheet.testers }
IsChangeOf (change.SetRoundFlag id set) (action.Release round) = (id ≡ round) × (set ≡ flag.Released)
IsChangeOf (change.SetRoundFlag id set) (action.Publish round) = (id ≡ round) × (set ≡ flag.Published)
IsChangeOf (change.AddAnswer row) (action.Submit round number token answer) = row.key.round ≡ round
IsChangeOf (change.AddProtest row) (action.Protest round token number text) = row.key.round ≡ round
IsChangeOf (change.RuleProtest key given) (action.RuleProtest round entrant token ruling) =
    (key.round ≡ round) × (given ≡ ruling)
IsChangeOf _ _ = ⊥

-- the plan of an allowed action makes its change, and a search was made for it where it needs one
abbrev pub IsMadeBy : World → Action → Plan → Type 0
IsMadeBy world action plan = IsChangeOf plan.change action × HasSearched world action plan

-- the plan's reply and change are those of the request as it is decided, for what the search would find, and the
-- change may be made
pub record IsPlanFor (world : World) (t : ℕ) (request : Request) (plan : Plan) : Type 0 where
  pub answered : (found : PuzzleState)
      × IsAnswered world (record { moment = t; request = request; found = found })
      (planned_reply plan) (changed (planned_change plan) world)
  pub can : CanMake (planned_change plan) world
  -- a denial, a repetition and an action that has nothing to write change nothing
  pub quiet : (answered.1.0 ≢ Allow) ⊎ HasNothingToWrite world request.action → planned_change plan ≡ Nothing
  pub made : answered.1.0 ≡ Allow → IsMadeBy world request.action plan

-- the plan's reply and change are those of the allowed action, whatever the search would find, and the change may be
-- made; an action that has nothing to write changes nothing
pub record IsAllowedPlan (world : World) (caller : Option Person) (action : Action) (t : ℕ) (plan : Plan) : Type 0 where
  pub allowed : (found : PuzzleState) → Allowed world caller action t found plan.reply (changed plan.change world)
  pub can : CanMake plan.change world
  pub quiet : HasNothingToWrite world action → plan.change ≡ Nothing
  pub made : IsMadeBy world action plan

-- the plan is that of the allowed action in each world that the facts are true of
abbrev pub IsPlanOf : Facts → Action → Plan → Type 0
IsPlanOf facts action plan =
    (world : World) → AreTrue facts world action → (t : ℕ) → IsAllowedPlan world facts.caller action t plan

-- the plan's reply and change are those of the allowed action, with what its search found, and the change may be
-- made; an action that has nothing to write changes nothing
pub record IsMadePlan (world : World) (caller : Option Person) (action : Action) (t : ℕ) (plan : Plan) : Type 0 where
  pub found : PuzzleState
  pub allowed : Allowed world caller action t found plan.reply (changed plan.change world)
  pub can : CanMake plan.change world
  pub quiet : HasNothingToWrite world action → plan.change ≡ Nothing
  pub made : IsMadeBy world action plan

-- the plan is that of the allowed action, with what its search found, in each world that the facts are true of
abbrev pub IsSearchPlanOf : Facts → Action → Plan → Type 0
IsSearchPlanOf facts action plan =
    (world : World) → AreTrue facts world action → (t : ℕ) → IsMadePlan world facts.caller action t plan

-- the plan counts and adds the people of the list whose names are unknown
pub record IsImportPlan (world : World) (people : List Person) (plan : Plan) : Type 0 where
  pub counted : plan.reply ≡ reply.Import (unknown_people world people)
  pub change : plan.change ≡ change.Import people

-- the plan's reply and change are those of the people who stand before any request, and the change may be made
pub record IsSeedPlan (world : World) (people : List Person) (plan : Plan) : Type 0 where
  pub seeded : Seed world people plan.reply (changed plan.change world)
  pub can : CanMake plan.change world

-- an import of the people may be refused for another cause than being out of memory: as one of its reads may be, or as
-- the change itself
abbrev pub SeedCanFail : List Person → Content → Content → Type 0
SeedCanFail people old new = CanFailIn old new ⊎ new.can_refuse (change.Import people)

-- the request has no key and asks for no table, so nobody may make it
abbrev pub IsNobodys : Request → Type 0
IsNobodys request = (request.key ≡ None) × ((round : List ℕ) → request.action ≢ Table round)

-- each request is nobody's
abbrev pub AreNobodys : List (ℕ × Request) → Type 0
AreNobodys requests = All (λ asked. IsNobodys asked.1) requests

-- the reply is another one than Unavailable
abbrev pub IsAvailable : Reply → Type 0
IsAvailable given = given ≢ reply.Unavailable

-- each request has a reply, which is another one than Unavailable where the request is nobody's
abbrev pub NobodysAreAnswered : List (ℕ × Request) → List Reply → Type 0
NobodysAreAnswered [] [] = Unit {0}
NobodysAreAnswered (asked ∷ rest) (given ∷ replies) =
    (IsNobodys asked.1 → IsAvailable given) × NobodysAreAnswered rest replies
NobodysAreAnswered [] (given ∷ replies) = ⊥
NobodysAreAnswered (asked ∷ rest) [] = ⊥

-- there is a plan; it answers, and changes nothing
abbrev pub IsQuietPlan : {E : Type 0} → Result Plan E → Type 0
IsQuietPlan (Ok plan) = (plan.change ≡ Nothing) × IsAvailable plan.reply
IsQuietPlan (Err fault) = ⊥

-- a read may fail as the store's content tells, or the world isn't sane, so that there may be no plan
pub record HindersPlans (new : Content) : Type 0 where
  pub why : new.can_fail ⊎ (new.honest → new.serves × ¬ (Sane new.world))

-- why calls that make a plan may fail: the device has failed in them, or what they leave hinders plans
abbrev pub PlanCanFail : Content → Content → Type 0
PlanCanFail old new = MoreFaults old.faults new.faults ⊎ HindersPlans new

-- Failed is answered for such a cause alone.
abbrev pub FailsIn : {R : Type 0} → Content → Content → Result R StoreFault → Type 0
FailsIn old new result = Fails (PlanCanFail old new) result

-- A step of the request may be refused for another cause than being out of memory: as a read may be, or since the world
-- isn't sane, or as the change of a plan for the request over the world before it may be.
abbrev pub StepCanFail : Content → ℕ → Request → Content → Type 0
StepCanFail old t request new =
    PlanCanFail old new
    ⊎ ((plan : Plan) × (new.honest → old.serves × IsPlanFor old.world t request plan)
    × new.can_refuse (planned_change plan))

-- the entries' puzzles are kept
abbrev pub AreKept : World → List Entry → Type 0
AreKept world entries = (entry : Entry) → Contains entries entry → get world.puzzles entry.puzzle ≢ None

-- the entries' puzzles are kept in the state one
abbrev pub AreInStateOne : World → List Entry → Type 0
AreInStateOne world entries = (entry : Entry) → Contains entries entry → IsCertified world entry.puzzle

-- what a plan says holds of the store's world, which still serves, where its device was honest; or, where no store
-- was asked, it changes nothing and holds of every world
abbrev pub Planned : {E : Type 0} → Content → ℕ → Request → Result Plan E → Type 0
Planned new t request (Ok plan) =
    (new.honest → new.serves × IsPlanFor new.world t request plan)
    ⊎ ((plan.change ≡ Nothing) × ((world : World) → IsPlanFor world t request plan))
Planned new t request (Err fault) = Unit {0}

-- The request was answered without the store, or refused, by what is a step in every world and leaves it; or the
-- store served before and after, and made a step of the hall.
abbrev pub IsStepOver : Content → ℕ → Request → Reply → Content → Type 0
IsStepOver old t request given new = Over (λ before after. Step before t request given after) old new

-- What a stop in the answer, or after it, leaves: a world that a stop before it could leave, or the one after a step of
-- the hall that makes the request, by this reply or where it was answered 503.
abbrev pub StopsWithin : Content → ℕ → Request → Reply → Content → Type 0
StopsWithin old t request given new =
    LeavesOneOf (λ before left.
    (made : Reply) × ((made ≡ given) ⊎ (given ≡ reply.Unavailable)) × Step before t request made left) old new

-- What a stop in the import of people, or after it, leaves of a store that served before it: a world that a stop before
-- it could leave, or what is made of the people who stand before any request, all of them or none.
abbrev pub StopsInSeed : Content → List Person → Content → Type 0
StopsInSeed old people new =
    old.serves → LeavesOneOf (λ before left. (made : Reply) × Seed before people made left) old new

-- What a stop leaves of a store that served before these requests, which were answered so, is a world that they leave.
abbrev pub LeavesRun : Content → List (ℕ × Request) → List Reply → Content → Type 0
LeavesRun old requests replies new =
    new.honest → old.serves → (left : World) → new.may_leave left → IsLeftBy old.world requests replies left

-- the request has nothing to write in the world: another decision is made than to allow it, or its action has nothing
-- to write there
abbrev pub IsQuiet : World → ℕ → Request → Type 0
IsQuiet world t request =
    ((decision : Decision) → First world (caller_of world request.key) request.action t decision → decision ≢ Allow)
    ⊎ HasNothingToWrite world request.action

-- a request that has nothing to write makes no write, as far as that can be told
abbrev pub WritesIfAny : Content → ℕ → Request → Content → Type 0
WritesIfAny old t request new =
    new.honest → new.serves → IsQuiet old.world t request → new.writes ≤ old.writes

-- The people were refused by what stands in every world before any request and leaves it; or the store served before
-- and after, and made of the people what stands before any request.
abbrev pub Seeds : Content → List Person → Reply → Content → Type 0
Seeds old people given new = Over (λ before after. Seed before people given after) old new

-- so many people were added, or the rule on lists denies
abbrev pub IsSeedReply : Reply → Type 0
IsSeedReply given = ((count : ℕ) × (given ≡ reply.Import count)) ⊎ (given ≡ reply.Denied 20)

-- The request was stepped over a store: at most one write was made, and none where it has nothing to write.
pub record IsStepped {S : Type 0} (content : S → Content) (old : S) (asked : ℕ × Request) (given : Reply) (new : S)
    : Type 0 where
  pub leads : Leads (content old) (content new)
  pub once : WritesOnce (content old) (content new)
  pub quiet : WritesIfAny (content old) asked.0 asked.1 (content new)
  pub steps : (content new).honest → IsStepOver (content old) asked.0 asked.1 given (content new)
  pub stops : StopsWithin (content old) asked.0 asked.1 given (content new)
  pub untouched : IsNobodys asked.1 → new ≡ old

-- the requests were stepped over a store, one after another, each over the store that the one before it left
abbrev pub AreStepped : {S : Type 0} → (S → Content) → S → List (ℕ × Request) → List Reply → S → Type 0
AreStepped content old [] [] new = new ≡ old
AreStepped {S} content old (asked ∷ rest) (given ∷ replies) new =
    (mid : S) × IsStepped content old asked given mid × AreStepped content mid rest replies new
AreStepped content old [] (given ∷ replies) new = ⊥
AreStepped content old (asked ∷ rest) [] new = ⊥

-- the replies are a run of the hall to some world, and where the store still serves, that world is its own
abbrev pub Runs : Content → List (ℕ × Request) → List Reply → Content → Type 0
Runs old requests replies new = (last : World) × Run old.world requests replies last × (new.serves → new.world ≡ last)

-- the puzzle that was found is this one, and in this state; or it is none or another one
abbrev pub StandsAs : Option PuzzleRow → Board → Option StateName → Type 0
StandsAs found puzzle (Some state) =
    (row : PuzzleRow) × (found ≡ Some row) × (row.puzzle ≡ puzzle) × (state ≡ state_name row.state)
StandsAs found puzzle None = (row : PuzzleRow) → found ≡ Some row → row.puzzle ≢ puzzle

-- the verdict is that of the answer to the round's puzzle of that number
abbrev pub IsJudgedAt : World → RoundRow → ℕ → List ℕ → ℕ → Type 0
IsJudgedAt world row number answer verdict =
    (entry : Entry) × (puzzle : PuzzleRow) × (entry_at row.puzzles number ≡ Some entry)
    × (get world.puzzles entry.puzzle ≡ Some puzzle) × IsVerdictOn puzzle answer verdict
