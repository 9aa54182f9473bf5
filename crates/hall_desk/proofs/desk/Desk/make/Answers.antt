use Rattle.std.proofs.Common.{subst, sym}
use Rattle.hall_store.specs.Change.{CanMake}
use Rattle.hall_store.specs.Store.{Asks}
use Rattle.hall_desk.proofs.Copied.{copies_left}
use Rattle.hall_desk.proofs.desk.Desk.make.Goals as goal

pub invariant_of-self : goal.invariant_of-self
invariant_of-self g c =
    let made = c.make-made.ensures in
    let copies = c.self.inside.copies in
    copies_left g.S.ReadStore.content c.self.inside.store c.make-made.new.store c.args.change c.make-made.result copies
    (record {
      tables = c.take.result;
      round = c.take-2.result;
      tabling = c.take-3.result;
      listings = copies.listings;
    }) _
    (λ i. record {
      tables = c.take.ensures.value i;
      round = c.take-2.ensures.value i;
      tabling = c.take-3.ensures.value i;
      listings = copies.listings;
    })
    (subst (λ s. Asks (g.S.ReadStore.content s) (CanMake c.args.change)) (sym c.self.view_is) c.requires)
    made.leads made.made (λ idle. (made.nothing idle).1) c.left_by.ensures c.left_by-2.ensures c.left_by-3.ensures
    c.leave.ensures.listing c.leave.ensures.listed c.self.invariant

pub invariant_of-self-else-writes : goal.invariant_of-self-else-writes
invariant_of-self-else-writes g c =
    let made = c.make-made.ensures in
    let copies = c.self.inside.copies in
    copies_left g.S.ReadStore.content c.self.inside.store c.make-made.new.store c.args.change c.make-made.result copies
    (record {
      tables = c.take.result;
      round = c.take-2.result;
      tabling = c.take-3.result;
      listings = copies.listings;
    }) _
    (λ i. record {
      tables = c.take.ensures.value i;
      round = c.take-2.ensures.value i;
      tabling = c.take-3.ensures.value i;
      listings = copies.listings;
    })
    (subst (λ s. Asks (g.S.ReadStore.content s) (CanMake c.args.change)) (sym c.self.view_is) c.requires)
    made.leads made.made (λ idle. (made.nothing idle).1) c.left_by.ensures c.left_by-2.ensures c.left_by-3.ensures
    c.leave.ensures.listing c.leave.ensures.listed c.self.invariant
