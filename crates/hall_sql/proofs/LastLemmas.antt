-- What calls leave of a connection, one after another.
use Rattle.std.proofs.Common.{◌≡◌, true, false, inl, inr, ℕ, List, IsSome, subst, ◌+◌, ◌-◌, ◌^◌, ◌≤◌, min, refl, ◌∙◌}
use Rattle.std.proofs.Common.{arith}
use Rattle.std.proofs.lemmas.Bool.{cases_lt}
use Rattle.sqlite_trees.specs.declared.store.Store.{Ghosts}
use Rattle.sqlite.specs.Tree.{Trees}
use Rattle.sqlite.specs.Held.{Held, state}
use Rattle.sqlite.specs.Order.{Row}
use Rattle.sqlite.specs.State.{State, HasCleanDisk, Survives, CommitsShowing}
use Rattle.hall_sql.specs.Asked.{HasNoReturning, ReturnsNothing}
use Rattle.hall_store.specs.Store.{Leads, MoreFaults}
use Rattle.hall_store.proofs.Knowing.{lasts_then}
use Rattle.hall_sql.specs.Standing.{AddsNoOutcome, AddsOutcomes, LeadsConnection, LeadsWithoutReopening, without_limit}
use Rattle.hall_sql.specs.Content.{content_of}

pub more_faults : (a b : ℕ) → min (a + 1) (2 ^ 64 - 1) ≤ b → MoreFaults a b
more_faults a b more = elim (cases_lt a b) [
  | inl less ↦ inl less
  | inr top ↦ inr (omega (arith, more, top))
]

-- what the crate `sqlite` says that a call leaves
pub survived : (old new : State) (Commits : Trees → Type 0) → Survives old new Commits → LeadsConnection old new
survived old new Commits it = record {
  clean = it.clean;
  counts = it.counts;
  closes = λ clean opens. elim (it.closes clean opens) [
    | inl left ↦ inl left
    | inr more ↦ inr (more_faults old.faults new.faults more)
  ];
  limit = it.limit;
}

-- a call that commits nothing adds no outcome
pub quiet : (old new : State) → Survives old new (λ _. ⊥) → AddsNoOutcome old new
quiet old new it clean db may = elim (it.crash clean db may) [ inl earlier ↦ earlier | inr none ↦ absurd none ]

-- nor does a query
pub quiet_query : (sql : List ℕ) (params : Row) (old new : State) → ReturnsNothing sql
    → Survives old new (CommitsShowing sql params old) → AddsNoOutcome old new
unfolding CommitsShowing
quiet_query sql params old new nothing it clean db may = elim (it.crash clean db may) [
  | inl earlier ↦ earlier
  | inr shown ↦ absurd (let none = subst HasNoReturning shown.1.is (nothing old.now.schema) in let no : false ≡ true =
      subst IsSome none shown.2 in cc)
]

-- nor do two calls, one after the other
pub quiet_then : (a b c : State) → AddsNoOutcome a b → LeadsConnection b c → AddsNoOutcome b c → AddsNoOutcome a c
quiet_then a b c first lasts second clean db may =
    let mid : HasCleanDisk b = omega (arith, lasts.clean, clean) in
    first mid db (second clean db may)

-- nor does what changes nothing
pub quiet_none : (s : State) → AddsNoOutcome s s
quiet_none s clean db may = may

-- what may be left after a call that added no outcome is what was added by the one before
pub outcomes_then : (Among : Trees → Type 0) (a b c : State) → AddsOutcomes Among a b → LeadsConnection b c
    → AddsNoOutcome b c → AddsOutcomes Among a c
outcomes_then Among a b c first lasts second clean db may =
    let mid : HasCleanDisk b = omega (arith, lasts.clean, clean) in
    first mid db (second clean db may)

-- and what may be left before it
pub outcomes_after : (Among : Trees → Type 0) (a b c : State) → AddsNoOutcome a b → LeadsConnection b c
    → AddsOutcomes Among b c → AddsOutcomes Among a c
outcomes_after Among a b c first lasts second clean db may = elim (second clean db may) [
  | inl earlier ↦ inl (let mid : HasCleanDisk b = omega (arith, lasts.clean, clean) in first mid db earlier)
  | inr made ↦ inr made
]

pub last_none : (s : State) → LeadsConnection s s
last_none s = record { clean = omega arith; counts = omega arith; closes = λ clean opens. inl opens; limit = refl }

pub last_then : (a b c : State) → LeadsConnection a b → LeadsConnection b c → LeadsConnection a c
last_then a b c first second = record {
  clean = omega (arith, first.clean, second.clean);
  counts = omega (arith, first.counts, second.counts);
  closes = λ clean.
      let mid : HasCleanDisk b = omega (arith, second.clean, clean) in
      lasts_then (content_of a) (content_of b) (content_of c) first.counts second.counts (first.closes mid)
      (second.closes clean);
  limit = second.limit ∙ first.limit;
}

-- a transaction that begins leaves what a connection shows, but for its mode
pub last_begun : {S : Type 0} (g : Ghosts S) (held : Held S) (mid : State)
    → LeadsConnection (state g (record held { in_transaction = true })) mid → LeadsConnection (state g held) mid
last_begun g held mid it = record { clean = it.clean; counts = it.counts; closes = it.closes; limit = it.limit }

-- so does one whose limit is lifted
pub last_lifted : (old new : State) → LeadsConnection old new → LeadsConnection (without_limit old) (without_limit new)
last_lifted old new it = record { clean = it.clean; counts = it.counts; closes = it.closes; limit = refl }

-- what follows leads on
pub follows_leads : (old new : State) → LeadsWithoutReopening old new → Leads (content_of old) (content_of new)
follows_leads old new follows = record {
  honest = λ clean. let was : HasCleanDisk old = omega (arith, follows.lasts.clean, clean) in was;
  serves = follows.opened;
  counts = follows.lasts.counts;
  lasts = follows.lasts.closes;
}
