-- What the calls of a store say, where its device was honest and the store still serves.
use Rattle.std.specs.Prelude.{◌≡◌, ◌↔◌, ◌⊎◌, ◌&&◌, ◌++◌, ◌+◌, ℕ, ◌<◌, ◌≤◌, Bool, true, List, [], ◌∷◌, Result, Ok, Err}
use Rattle.std.specs.Prelude.{IfErr, Option, Some, None, Contains, AllPairs, take}
use Rattle.std.specs.List.{filter}
use Rattle.std.specs.List.Sorted.{IsSorted, IsStrictlySortedBy, IsPermutation}
use Rattle.std.specs.Ordering.{is_le, is_lt, nat_cmp, ordering_then}
use Rattle.std.specs.declared.cmp.Ordering.{Ordering}
use Rattle.std.specs.FinMap.{get, values}
use Rattle.hall_policy.specs.Text.{text_cmp}
use Rattle.hall_policy.specs.World.{World, IsTesterOf, answer_of, same_text}
use Rattle.hall_policy.specs.Ranges.{HasWholeList}
use Rattle.hall_policy.specs.Rules.{ListsEntry}
use Rattle.hall_policy.specs.Facts.{IsRoundFound}
use Rattle.hall_policy.specs.Sink.{HasTaken}
use Rattle.hall_policy.specs.declared.record.Person.{Person}
use Rattle.hall_policy.specs.declared.record.PuzzleKey.{PuzzleKey}
use Rattle.hall_policy.specs.declared.record.PuzzleRow.{PuzzleRow}
use Rattle.hall_policy.specs.declared.record.Entry.{Entry}
use Rattle.hall_policy.specs.declared.record.AnswerRow.{AnswerRow}
use Rattle.hall_policy.specs.declared.record.ProtestKey.{ProtestKey}
use Rattle.hall_policy.specs.declared.record.ProtestRow.{ProtestRow}
use Rattle.hall_policy.specs.declared.record.RoundRow.{RoundRow}
use Rattle.hall_policy.specs.declared.sink.SinkFault.{SinkFault}
use Rattle.hall_policy.specs.declared.sink.SinkFault.TheVariants.{Refused}
use Rattle.hall_store.specs.declared.change.Change.{Change}
use Rattle.hall_store.specs.declared.fault.StoreFault.{StoreFault}
use Rattle.hall_store.specs.declared.fault.StoreFault.TheVariants.{Failed}
use Rattle.hall_store.specs.Change.{changed}

-- What a store keeps, and while that can be told: `honest`, so far the device has returned what was written, and no one
-- else has written; `serves`, no fault of the device has shut the store; `faults`, how often the device has failed.
-- `writes` is a number that one write may raise by one, and nothing else raises. Which one is the store's own matter: a
-- store may count its writes, or say 0 for ever. So what is proved of all stores bounds how many writes are made.
-- `may_leave`, the worlds that the next open may find, were the program stopped at this moment. `can_fail`, a call that
-- only reads, and in which the device didn't fail, may be refused for another cause than being out of memory;
-- `can_refuse`, such a one that makes the change may.
pub record Content : Type 1 where
  pub honest : Type 0
  pub serves : Type 0
  pub faults : ℕ
  pub writes : ℕ
  pub world : World
  pub may_leave : World → Type 0
  pub can_fail : Type 0
  pub can_refuse : Change → Type 0

-- the device has failed once more, or so often that it is no longer counted
abbrev pub MoreFaults : ℕ → ℕ → Type 0
MoreFaults old new = (old < new) ⊎ (18446744073709551615 ≤ new)

-- A call leads from one content to another: where the device was honest to the end, it was so before, and where the
-- store then still serves, it served before. No fault is forgotten, and only a fault that is counted shuts the store.
pub record Leads (old new : Content) : Type 0 where
  pub honest : new.honest → old.honest
  pub serves : new.honest → new.serves → old.serves
  pub counts : old.faults ≤ new.faults
  pub lasts : new.honest → old.serves → new.serves ⊎ MoreFaults old.faults new.faults

-- a stop in the call, or after it, leaves a world that a stop before it could leave
abbrev pub LeavesNoOther : Content → Content → Type 0
LeavesNoOther old new = new.honest → (left : World) → new.may_leave left → old.may_leave left

-- A stop in the call, or after it, leaves a world that a stop before it could leave; or the store served before it, and
-- the world that is left is so related to the one before.
abbrev pub LeavesOneOf : (World → World → Type 0) → Content → Content → Type 0
LeavesOneOf Relates old new =
    new.honest → (left : World) → new.may_leave left → old.may_leave left ⊎ (old.serves × Relates old.world left)

-- between two calls, while the store serves, a stop leaves its world and no other
abbrev pub IsSettled : Content → Type 0
IsSettled content = content.honest → content.serves → (left : World) → content.may_leave left → left ≡ content.world

-- A call leaves the world and makes no write: it leads on, and the world is the one before.
pub record Kept (old new : Content) : Type 0 where
  pub honest : new.honest → old.honest
  pub serves : new.honest → new.serves → old.serves
  pub counts : old.faults ≤ new.faults
  pub lasts : new.honest → old.serves → new.serves ⊎ MoreFaults old.faults new.faults
  pub writes : new.writes ≤ old.writes
  pub stops : LeavesNoOther old new
  pub world : new.honest → new.serves → new.world ≡ old.world

-- What a call of the store answers has its meaning, and the store still serves, where the device was honest. Nothing is
-- said of a refusal.
abbrev pub Served : {R E : Type 0} → Content → Result R E → (World → R → Type 0) → Type 0
Served new (Ok answer) Means = new.honest → new.serves × Means new.world answer
Served new (Err fault) Means = Unit {0}

-- What was found has its meaning, where the device was honest and the store still serves; and it does so where it did
-- before.
abbrev pub Told : {R E : Type 0} → Content → Content → Result R E → (World → R → Type 0) → Type 0
Told old new (Ok answer) Means =
    (new.honest → old.serves → new.serves) × (new.honest → new.serves → Means new.world answer)
Told old new (Err fault) Means = Unit {0}

-- Why a call that only reads may be refused, other than out of memory: its device has failed in it, or as the content
-- tells that it leaves.
abbrev pub CanFailIn : Content → Content → Type 0
CanFailIn old new = MoreFaults old.faults new.faults ⊎ new.can_fail

-- so one that makes the change may
abbrev pub CanRefuseIn : Change → Content → Content → Type 0
CanRefuseIn change old new = MoreFaults old.faults new.faults ⊎ new.can_refuse change

-- Failed is answered for such a cause alone.
abbrev pub Fails : {R : Type 0} → Type 0 → Result R StoreFault → Type 0
Fails cause result = IfErr result (λ fault. fault ≡ Failed → cause)

-- What a call asks of the world, where that can be told.
abbrev pub Asks : Content → (World → Type 0) → Type 0
Asks content Needs = content.honest → content.serves → Needs content.world

-- A call makes the change in a store that serves, or is refused and leaves the world.
abbrev pub MakesInWorld : {R E : Type 0} → Change → Content → Content → Result R E → Type 0
MakesInWorld change old new (Ok done) = new.honest → new.serves × (new.world ≡ changed change old.world)
MakesInWorld change old new (Err fault) = new.honest → new.serves → new.world ≡ old.world

-- a call leaves the world, while the store serves
abbrev pub KeptWorld : Content → Content → Type 0
KeptWorld old new = new.honest → new.serves → new.world ≡ old.world

-- at most one write was made
abbrev pub WritesOnce : Content → Content → Type 0
WritesOnce old new = new.writes ≤ old.writes + 1

-- A call leads on, and makes the change or leaves the world, by one write at most. Wherever it is stopped, in a store
-- that served before it, the world before it is left or the one that the change makes.
pub record Makes {R E : Type 0} (change : Change) (old new : Content) (result : Result R E) : Type 0 where
  pub leads : Leads old new
  pub once : WritesOnce old new
  pub stops : old.serves → LeavesOneOf (λ before left. left ≡ changed change before) old new
  pub made : MakesInWorld change old new result

-- A relation of the worlds before and after holds over a store: nothing asked of the store made it true, it holds of
-- each world that stays, and the store's world was left; or the store served before and after, and it holds of its
-- worlds.
abbrev pub Over : (World → World → Type 0) → Content → Content → Type 0
Over Relates old new =
    (((world : World) → Relates world world) × (new.serves → new.world ≡ old.world))
    ⊎ (old.serves × new.serves × Relates old.world new.world)

-- what is kept of the round: its head with its whole list and its testers, or neither head nor list
pub record IsRoundKept (world : World) (id : List ℕ) (found : Option RoundRow) : Type 0 where
  pub row : IsRoundFound world (Some id) found
  pub empty : found ≡ None → (entry : Entry) → ¬ (ListsEntry world id entry)

-- what is kept under the id is neither nothing nor a round with its lists, so that no answer is right
abbrev pub HasNoRound : World → List ℕ → Type 0
HasNoRound world id = (¬ IsRoundKept world id None) × (¬ HasWholeList world id)

-- why a read of the round may be refused, other than out of memory: as any read may be, or no answer is right
abbrev pub RoundCanFail : List ℕ → Content → Content → Type 0
RoundCanFail id old new = CanFailIn old new ⊎ (new.honest → new.serves × HasNoRound new.world id)

-- the names of those who test the round, none twice; no order is promised
pub record AreTestersOf (world : World) (round : List ℕ) (names : List (List ℕ)) : Type 0 where
  pub whole : (name : List ℕ) → Contains names name ↔ IsTesterOf world round name
  pub different : AllPairs (λ a b. ¬ (a ≡ b)) names

-- the order of listings of answers: by entrant, number, n, then token
abbrev pub listing_cmp : AnswerRow → AnswerRow → Ordering
listing_cmp a b =
    ordering_then (text_cmp a.key.entrant b.key.entrant)
    (ordering_then (nat_cmp a.key.number b.key.number)
    (ordering_then (nat_cmp a.n b.n) (text_cmp a.key.token b.key.token)))

-- all answers that pass the test, in the order of listings
pub record IsListing (world : World) (test : AnswerRow → Bool) (rows : List AnswerRow) : Type 0 where
  pub whole : IsPermutation (filter test (values world.answers)) rows
  pub in_order : IsSorted listing_cmp rows

-- the answer belongs to the round
abbrev pub is_in : List ℕ → AnswerRow → Bool
is_in round row = same_text row.key.round round

-- the name comes after this one, or none is given
abbrev pub is_after : Option (List ℕ) → List ℕ → Bool
is_after None name = true
is_after (Some after) name = is_lt (text_cmp after name)

-- the name doesn't come after this one, or none is given
abbrev pub is_up_to : Option (List ℕ) → List ℕ → Bool
is_up_to None name = true
is_up_to (Some last) name = is_le (text_cmp name last)

-- the answer belongs to the round, and its entrant's name comes after the one name and not after the other
abbrev pub is_between : List ℕ → Option (List ℕ) → Option (List ℕ) → AnswerRow → Bool
is_between round after last row = is_in round row && (is_after after row.key.entrant && is_up_to last row.key.entrant)

-- so many people are read at once, at most
abbrev pub people_at_once : ℕ
people_at_once = 200

-- the next people after the name, or the first, in the order of their names
abbrev pub people_after : World → Option (List ℕ) → List Person
people_after world after =
    take people_at_once (filter (λ person. is_after after person.name) (values world.people))

-- the answer is the entrant's, in the round
abbrev pub is_of : List ℕ → List ℕ → AnswerRow → Bool
is_of entrant round row = same_text row.key.round round && same_text row.key.entrant entrant

-- the entrant's answer with this n to the round's puzzle of that number is kept
abbrev pub IsNumberTaken : World → List ℕ → List ℕ → ℕ → ℕ → Type 0
IsNumberTaken world entrant round number n =
    (token : List ℕ) × (row : AnswerRow)
    × (get world.answers (record { entrant = entrant; round = round; number = number; token = token }) ≡ Some row)
    × (row.n ≡ n)

-- the entrant has an answer in the round
abbrev pub HasSubmitted : World → List ℕ → List ℕ → Type 0
HasSubmitted world entrant round =
    (number : ℕ) × (token : List ℕ) × (row : AnswerRow) × (answer_of world entrant round number token ≡ Some row)

-- a protest of the round is open
abbrev pub IsProtestOpen : World → List ℕ → Type 0
IsProtestOpen world round =
    (key : ProtestKey) × (row : ProtestRow) × (key.round ≡ round) × (get world.protests key ≡ Some row)
    × (row.ruling ≡ None)

-- the ids of the rounds that have the puzzle, each once, in their order
pub record AreUsing (world : World) (key : PuzzleKey) (ids : List (List ℕ)) : Type 0 where
  pub whole : (id : List ℕ) → Contains ids id ↔ ((entry : Entry) × ListsEntry world id entry × (entry.puzzle ≡ key))
  pub in_order : IsStrictlySortedBy text_cmp ids

-- the author's puzzles, in the order of their keys
abbrev pub puzzles_of : World → List ℕ → List PuzzleRow
puzzles_of world author = filter (λ row. same_text row.key.author author) (values world.puzzles)

-- the protest belongs to the round
abbrev pub is_protest_in : List ℕ → ProtestRow → Bool
is_protest_in round row = same_text row.key.round round

-- the protest is the entrant's, in the round
abbrev pub is_protest_of : List ℕ → List ℕ → ProtestRow → Bool
is_protest_of entrant round row = same_text row.key.round round && same_text row.key.entrant entrant

-- the protests of the round, by entrant, then token
abbrev pub protests_in : World → List ℕ → List ProtestRow
protests_in world round = filter (is_protest_in round) (values world.protests)

-- the entrant's protests in the round, by token
abbrev pub protests_of : World → List ℕ → List ℕ → List ProtestRow
protests_of world entrant round = filter (is_protest_of entrant round) (values world.protests)

-- the sink took the first rows and not the next one, which it refuses where it says so
pub record Stops {K X : Type 0} (Takes : K → X → K → Type 0) (Refuses : K → X → Type 0) (before : K) (rows : List X)
    (after : K) (fault : SinkFault) : Type 0 where
  pub taken : List X
  pub row : X
  pub left : List X
  pub whole : rows ≡ taken ++ row ∷ left
  pub took : HasTaken Takes before taken after
  pub refused : fault ≡ Refused → Refuses after row

-- The sink has taken all the rows of the world before; or, where the call is refused, some of the first ones, also
-- where the store serves no more.
abbrev pub Fed : {K X E : Type 0} → (K → X → K → Type 0) →
    (World → List X → Type 0) → Content → Content → K → Result (Unit {0}) E → K → Type 0
Fed {K} {X} Takes AreRows old new before (Ok done) after =
    new.honest → new.serves × ((rows : List X) × AreRows old.world rows × HasTaken Takes before rows after)
Fed {K} {X} Takes AreRows old new before (Err fault) after =
    (taken : List X) × HasTaken Takes before taken after
    × ((taken ≡ []) ⊎ (new.honest → old.serves × ((left : List X) × AreRows old.world (taken ++ left))))

-- the sink has taken the first rows of the world before, and refuses the next one; that leaves a store that serves
abbrev pub IsRefusedNext : {K X : Type 0} → (K → X → K → Type 0) →
    (K → X → Type 0) → (World → List X → Type 0) → Content → Content → K → K → Type 0
IsRefusedNext {K} {X} Takes Refuses AreRows old new before after =
    (taken : List X) × (row : X) × HasTaken Takes before taken after × Refuses after row
    × (new.honest → new.serves × ((left : List X) × AreRows old.world (taken ++ row ∷ left)))
