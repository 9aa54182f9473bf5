-- A list that adds nobody leaves the world.
use Rattle.std.proofs.Common.{◌≡◌, ◌<◌, ◌≤◌, ℕ, List, ◌++◌, length, ap, subst, inl, inr, arith}
use Rattle.std.specs.Prelude.{◌≢◌, OnErr, Result, Ok, Err}
use Rattle.std.proofs.lemmas.List.{length-append}
use Rattle.hall_policy.specs.declared.record.Person.{Person}
use Rattle.hall_store.specs.Store.{Content, Leads, Over}
use Rattle.hall_desk.specs.Plans.{IsSeedReply}
use Rattle.hall_desk.specs.Step.{Seed}
use Rattle.hall_desk.specs.declared.reply.Reply.{Reply}
use Rattle.hall_desk.specs.declared.reply.Reply.TheVariants as reply
use Rattle.hall_tool.specs.SeedText.{AddsNobody, IsListAnswered, IsSeeded, IsToldBy, seeded_line}
use Rattle.hall_tool.specs.declared.seed.Seeded.{Seeded}
use Rattle.hall_tool.specs.declared.seed.Seeded.TheVariants.{Refused, Denied, Added}

-- a line of which something is left to write is that of a refusal or denial
pub adds_nobody : (seeded : Seeded) (front rest : List ℕ) → seeded_line seeded ≡ front ++ rest → 0 < length rest
    → AddsNobody seeded
adds_nobody (Refused refusal) front rest e some = tt
adds_nobody (Denied rule) front rest e some = tt
adds_nobody (Added count) front rest e some =
    let none : 0 ≡ length (front ++ rest) = ap length e in
    absurd (omega (arith, none, length-append front rest))

-- the desk denies a list by the rule on lists alone
denied_20 : (given : Reply) (rule : ℕ) → IsSeedReply given → given ≡ reply.Denied rule → given ≡ reply.Denied 20
denied_20 given rule (inl (count, added)) denied = absurd cc
denied_20 given rule (inr is) denied = is

-- what the desk answered came of the list
pub seeded_is : (list : List ℕ) (old new : Content) (given : Reply) (seeded : Seeded) → IsToldBy given seeded
    → IsListAnswered list old new given
    → IsSeedReply given → (given ≡ reply.Denied 20 → new.writes ≤ old.writes) → IsSeeded list old new seeded
seeded_is list old new given (Refused refusal) is answered known quiet = absurd is
seeded_is list old new given (Denied rule) is answered known quiet =
    (subst (IsListAnswered list old new) is answered, quiet (denied_20 given rule known is))
seeded_is list old new given (Added count) is answered known quiet = subst (IsListAnswered list old new) is answered

left_by : (old new : Content) (people : List Person) (given : Reply) → ((n : ℕ) → given ≢ reply.Import n)
    → Over (λ before after. Seed before people given after) old new → new.serves → new.world ≡ old.world
left_by old new people given none (inl stays) serves = stays.1 serves
left_by old new people given none (inr (_, _, inl fault)) serves = fault.1
left_by old new people given none (inr (_, _, inr (inl denied))) serves = denied.2
left_by old new people given none (inr (_, _, inr (inr imported))) serves = absurd (none _ imported.1.0)

pub on_err : {A B : Type 0} (result : Result A B) (claim : Type 0) → claim → OnErr result claim
on_err (Ok a) claim holds = tt
on_err (Err e) claim holds = holds

-- a list that adds nobody leaves the world
pub nobody_leaves : (list : List ℕ) (old new : Content) (seeded : Seeded) → Leads old new → IsSeeded list old new seeded
    → AddsNobody seeded → new.honest → new.serves → new.world ≡ old.world
nobody_leaves list old new (Refused refusal) leads is nobody = is.1.world
nobody_leaves list old new (Denied rule) leads (is, quiet) nobody =
    λ honest serves. left_by old new is.0 (reply.Denied rule) (λ n e. cc) (is.2 honest) serves
nobody_leaves list old new (Added count) leads is nobody = absurd nobody
