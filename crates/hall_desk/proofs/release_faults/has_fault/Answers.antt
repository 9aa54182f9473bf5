use Rattle.std.proofs.Common.{◌↔◌, IsTrue, subst, sym}
use Rattle.hall_store.specs.Store.{Told}
use Rattle.hall_desk.specs.Lookups.{HasFault}
use Rattle.hall_desk.specs.declared.release_faults.EntryFault.{EntryFault}
use Rattle.hall_desk.proofs.release_faults.has_fault.Goals as goal

pub returns-in-Uncertified-clause-told : goal.returns-in-Uncertified-clause-told
returns-in-Uncertified-clause-told g c =
    let new = g.S.ReadStore.content c.is_uncertified.new.store in
    subst (λ (fault : EntryFault). Told (g.S.ReadStore.content c.args.store.now) new c.is_uncertified.result
    (λ world found. IsTrue found ↔ HasFault fault world c.args.id.now c.args.entry.now))
    (sym c.in-Uncertified.is) c.is_uncertified.ensures.told
