-- What takes the answers of a round in slices says of the store, and that it comes on.
use Rattle.std.specs.Prelude.{◌≡◌, ◌≢◌, ℕ, Bool, List, [], Option, Some, None, IsTrue, if◌then◌else◌}
use Rattle.hall_policy.specs.Sink.{HasTaken}
use Rattle.hall_policy.specs.World.{World}
use Rattle.hall_policy.specs.declared.record.AnswerRow.{AnswerRow}
use Rattle.hall_store.specs.Store.{Asks, Content, IsListing, is_after, is_between, is_in}
use Rattle.hall_desk.specs.declared.slices.Sliced.{Sliced}
use Rattle.hall_desk.specs.declared.slices.Sliced.TheVariants.{On, Whole}
use Rattle.hall_desk.specs.declared.slices.Slices.{Slices}

-- the answers of the round by entrants up to the name, in the order of listings; none yet, where no name is given
abbrev pub AreUpTo : World → List ℕ → Option (List ℕ) → List AnswerRow → Type 0
AreUpTo world id (Some name) answers = IsListing world (is_between id None (Some name)) answers
AreUpTo world id None answers = answers ≡ []

-- what takes answers began for the round as this says, and has taken the round's answers by entrants up to the name
pub record AreTaken {K : Type 0} (Takes : K → AnswerRow → K → Type 0) (Begins : World → List ℕ → K → Type 0)
    (world : World) (slices : Slices K) : Type 0 where
  pub fresh : K
  pub begun : Begins world slices.round fresh
  pub answers : List AnswerRow
  pub listed : AreUpTo world slices.round slices.after answers
  pub took : HasTaken Takes fresh answers slices.taken

-- it began so, and has taken all answers of the round
abbrev pub AreAllTaken : {K : Type 0} → (K → AnswerRow → K → Type 0) → (World → List ℕ → K → Type 0) → World
    → List ℕ → K → Type 0
AreAllTaken {K} Takes Begins world id taken =
    (fresh : K) × Begins world id fresh × (answers : List AnswerRow) × IsListing world (is_in id) answers
    × HasTaken Takes fresh answers taken

-- from there it has taken the round's answers by further entrants, up to the name, where one is given
abbrev pub TakesOn : {K : Type 0} → (K → AnswerRow → K → Type 0) → World → Slices K → Option (List ℕ) → K → Type 0
TakesOn Takes world before last taken =
    (answers : List AnswerRow) × IsListing world (is_between before.round before.after last) answers
    × HasTaken Takes before.taken answers taken

-- the slices of the same round have come on to a later name
pub record ComeOn {K : Type 0} (before after : Slices K) : Type 0 where
  pub same : after.round ≡ before.round
  pub name : List ℕ
  pub up_to : after.after ≡ Some name
  pub later : IsTrue (is_after before.after name)

-- they have, with the answers between; or all that were left were taken
abbrev pub GoOn : {K : Type 0} → (K → AnswerRow → K → Type 0) → World → Slices K → Sliced K → Type 0
GoOn Takes world before (On after) = ComeOn before after × TakesOn Takes world before after.after after.taken
GoOn Takes world before (Whole round taken) = (round ≡ before.round) × TakesOn Takes world before None taken

-- the slices are those under way, or else new ones of the round
abbrev pub AreUnderWay : {K : Type 0} → Option (Slices K) → List ℕ → Slices K → Type 0
AreUnderWay (Some old) id slices = slices ≡ old
AreUnderWay None id slices = (slices.round ≡ id) × (slices.after ≡ None)

-- Who asks for what is made in slices of the round's answers waits for it: the slices under way, of whichever round, or
-- else new ones of this round have come on; or those under way were of another round and came to their end, and what
-- was made of them is kept.
abbrev pub SlicesOn : {K : Type 0} → Option (Slices K) → List ℕ → Option (Slices K) → (List ℕ → Type 0) → Type 0
SlicesOn {K} old id (Some new) Keeps = (before : Slices K) × AreUnderWay old id before × ComeOn before new
SlicesOn {K} old id None Keeps =
    (before : Slices K) × (old ≡ Some before) × (before.round ≢ id) × Keeps before.round

-- what there is, if there is any, is true of the store's world
abbrev pub AsksIfAny : {X : Type 0} → Content → (World → X → Type 0) → Option X → Type 0
AsksIfAny content Holds (Some x) = Asks content (λ world. Holds world x)
AsksIfAny content Holds None = Unit {0}

-- what there is, where it passes the test
abbrev pub kept_where : {X : Type 0} → (X → Bool) → Option X → Option X
kept_where passes (Some x) = if passes x then Some x else None
kept_where passes None = None
