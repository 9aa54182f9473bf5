-- What was found stays true over calls that leave the world.
use Rattle.std.proofs.Common.{◌≡◌, ◌⊎◌, ℕ, ◌≤◌, arith, inl, inr, subst, sym, ◌∙◌, refl, Result, Ok, Err, IfErr, IfOk}
use Rattle.std.specs.Prelude.{IsErrAnd}
use Rattle.hall_policy.specs.World.{World}
use Rattle.hall_store.specs.Store.{CanFailIn, Content, Leads, LeavesNoOther, Kept, MoreFaults, Told, Served, Over}
use Rattle.hall_store.specs.declared.fault.StoreFault.{StoreFault}
use Rattle.hall_store.specs.declared.fault.StoreFault.TheVariants.{Failed}

-- more faults over one of two calls are more over both
pub more_before : (a b c : ℕ) → MoreFaults a b → b ≤ c → MoreFaults a c
more_before a b c (inl more) on = inl (omega (arith, more, on))
more_before a b c (inr top) on = inr (omega (arith, top, on))

pub more_after : (a b c : ℕ) → a ≤ b → MoreFaults b c → MoreFaults a c
more_after a b c on (inl more) = inl (omega (arith, more, on))
more_after a b c on (inr top) = inr top

-- a call that changes nothing leads on
pub leads_same : (a : Content) → Leads a a
leads_same a = record { honest = λ h. h; serves = λ h s. s; counts = omega arith; lasts = λ h s. inl s }

-- a store that served serves after both, or more faults were counted
pub lasts_then : (a b c : Content) → a.faults ≤ b.faults → b.faults ≤ c.faults
    → (a.serves → b.serves ⊎ MoreFaults a.faults b.faults)
    → (b.serves → c.serves ⊎ MoreFaults b.faults c.faults) → a.serves → c.serves ⊎ MoreFaults a.faults c.faults
lasts_then a b c on more first second s = after (first s)
  where
    last : c.serves ⊎ MoreFaults b.faults c.faults → c.serves ⊎ MoreFaults a.faults c.faults
    last (inl serves) = inl serves
    last (inr faults) = inr (more_after a.faults b.faults c.faults on faults)

    after : b.serves ⊎ MoreFaults a.faults b.faults → c.serves ⊎ MoreFaults a.faults c.faults
    after (inl serves) = last (second serves)
    after (inr faults) = inr (more_before a.faults b.faults c.faults faults more)

-- two calls that lead on, one after the other
pub leads_then : (a b c : Content) → Leads a b → Leads b c → Leads a c
leads_then a b c first second = record {
  honest = λ h. first.honest (second.honest h);
  serves = λ h s. first.serves (second.honest h) (second.serves h s);
  counts = omega (arith, first.counts, second.counts);
  lasts = λ h. lasts_then a b c first.counts second.counts (first.lasts (second.honest h)) (second.lasts h);
}

-- a call that leaves the world leads on
pub kept_leads : (a b : Content) → Kept a b → Leads a b
kept_leads a b kept = record { honest = kept.honest; serves = kept.serves; counts = kept.counts; lasts = kept.lasts }

-- and one that leads on, makes no write and leaves the world keeps it
pub leads_kept : (a b : Content) → Leads a b → b.writes ≤ a.writes → LeavesNoOther a b
    → (b.honest → b.serves → b.world ≡ a.world) → Kept a b
leads_kept a b leads writes stops world =
    record {
      honest = leads.honest;
      serves = leads.serves;
      counts = leads.counts;
      lasts = leads.lasts;
      writes = writes;
      stops = stops;
      world = world;
    }

-- a call that changes nothing leaves the world
pub kept_same : (a : Content) → Kept a a
kept_same a = leads_kept a a (leads_same a) (omega arith) (λ h left may. may) (λ h s. refl)

-- two calls that leave the world, one after the other
pub kept_then : (a b c : Content) → Kept a b → Kept b c → Kept a c
kept_then a b c first second =
    leads_kept a c (leads_then a b c (kept_leads a b first) (kept_leads b c second))
    (omega (arith, first.writes, second.writes))
    (λ h left may. first.stops (second.honest h) left (second.stops h left may))
    (λ h s. second.world h s ∙ first.world (second.honest h) (second.serves h s))

-- what was true before a call that leaves the world is true after it
pub carried : (P : World → Type 0) (a b : Content) → Kept a b → (a.honest → a.serves → P a.world) → b.honest → b.serves
    → P b.world
carried P a b kept before h s = subst P (sym (kept.world h s)) (before (kept.honest h) (kept.serves h s))

-- a call fails as what it called did
pub fails_as : {R : Type 0} (result : Result R StoreFault) (Why : Type 0) (fault : StoreFault)
    → IsErrAnd result (λ e. e ≡ fault) → (fault ≡ Failed → Why) → IfErr result (λ e. e ≡ Failed → Why)
fails_as (Ok x) Why fault is why = tt
fails_as (Err e) Why fault is why = λ failed. why (sym is ∙ failed)

-- what can fail in a later call can fail in both
pub fails_after : (a b c : Content) → a.faults ≤ b.faults → CanFailIn b c → CanFailIn a c
fails_after a b c on (inl more) = inl (more_after a.faults b.faults c.faults on more)
fails_after a b c on (inr can) = inr can

-- what a later call tells, after a call that left the world and after which the store still served
pub told_through : {R E : Type 0} (r : Result R E) (M N : World → R → Type 0) (a b c : Content) → Kept b c
    → (b.honest → a.serves → b.serves) →
    ((x : R) → c.honest → c.serves → M c.world x → N c.world x) → Told b c r M → Told a c r N
told_through (Ok x) M N a b c kept opened turn told = (
  (λ h s. told.0 h (opened (kept.honest h) s)),
  (λ h s. turn x h s (told.1 h s)),
)
told_through (Err e) M N a b c kept opened turn told = tt

-- what a later call tells is served, where the store served before it
pub served_through : {R E : Type 0} (r : Result R E) (M N : World → R → Type 0) (b c : Content) → Kept b c
    → (b.honest → b.serves) →
    ((x : R) → c.honest → c.serves → M c.world x → N c.world x) → Told b c r M → Served c r N
served_through (Ok x) M N b c kept opened turn told = λ h. let s : c.serves = told.0 h (opened (kept.honest h)) in
    (s, turn x h s (told.1 h s))
served_through (Err e) M N b c kept opened turn told = tt

-- what is served of one meaning is served of another that follows from it
pub served_turn : {R E : Type 0} (r : Result R E) (M N : World → R → Type 0) (new : Content)
    → ((x : R) → M new.world x → N new.world x) → Served new r M → Served new r N
served_turn (Ok x) M N new turn told = λ h. ((told h).0, turn x (told h).1)
served_turn (Err e) M N new turn told = tt

-- what a call that touches no store makes of what was found before it
pub pure_told : {R E : Type 0} (r : Result R E) (M : R → Type 0) (N : World → R → Type 0) (a b : Content)
    → (b.honest → a.serves → b.serves) →
    ((x : R) → b.honest → b.serves → M x → N b.world x) → IfOk r M → Told a b r N
pure_told (Ok x) M N a b opened turn made = (opened, λ h s. turn x h s made)
pure_told (Err e) M N a b opened turn made = tt

-- what is told of one meaning is told of another that follows from it
pub told_turn : {R E : Type 0} (r : Result R E) (M N : World → R → Type 0) (a b : Content)
    → ((x : R) → b.honest → b.serves → M b.world x → N b.world x) → Told a b r M → Told a b r N
told_turn (Ok x) M N a b turn told = (told.0, λ h s. turn x h s (told.1 h s))
told_turn (Err e) M N a b turn told = tt

-- what is told over a store that is honest and serves
pub plainly : {R E : Type 0} (r : Result R E) (M N : R → Type 0) (W : World → R → Type 0) (new : Content) → new.honest
    → new.serves → ((x : R) → W new.world x → N x) → Served new r W → IfOk r N
plainly (Ok x) M N W new h s turn served = turn x (served h).1
plainly (Err e) M N W new h s turn served = tt

-- what holds over a store, where another relation follows from it
pub over_turn : (R Q : World → World → Type 0) (old new : Content)
    → ((before after : World) → R before after → Q before after) → Over R old new → Over Q old new
over_turn R Q old new turn (inl (always, left)) = inl ((λ world. turn world world (always world)), left)
over_turn R Q old new turn (inr (before, after, holds)) = inr (before, after, turn old.world new.world holds)
