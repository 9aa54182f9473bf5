use Rattle.std.proofs.Common.{Option, IfSome, true, sym, subst}
use Rattle.hall_desk.specs.Lines.{BeginsLines, IsLineAdded}
use Rattle.hall_desk.specs.Listings.{AreLinesUpTo, AreListedIn}
use Rattle.hall_desk.specs.Slices.{AsksIfAny}
use Rattle.hall_desk.specs.declared.lines.Lines.{Lines}
use Rattle.hall_desk.specs.declared.slices.Slices.{Slices}
use Rattle.hall_desk.proofs.Copied.{any_kept, if_any}
use Rattle.hall_desk.proofs.Slicing.{sliced_on, sliced_whole}
use Rattle.hall_desk.proofs.listing.go_on.Goals as goal

pub returns-in-On-clause-listed : goal.returns-in-On-clause-listed
returns-in-On-clause-listed g c =
    let old = g.S.ReadStore.content c.args.store.now in
    let new = g.S.ReadStore.content c.go_on.new.store in
    let listings = c.args.listings.now in
    let kept = c.go_on.ensures.kept in
    let on = sliced_on IsLineAdded (λ _ _. BeginsLines true) old new c.in_ok-listing.listing _ kept
    (λ h s. c.in_ok-listing.ensures.lines old.world (subst (λ (o : Option (Slices Lines)). IfSome o
    (AreLinesUpTo old.world)) (sym c.take.ensures.value) (if_any old AreLinesUpTo listings.listing c.requires.listing h s)))
    c.in_ok-listing-2.ensures.sliced c.in-On.listing c.in-On.is in
    record {
      listing = λ h s. (on h).1.1;
      listed = any_kept AreListedIn old new listings.listed kept c.requires.listed;
    }

pub returns-then-is_own-clause-listed : goal.returns-then-is_own-clause-listed
returns-then-is_own-clause-listed g c =
    let old = g.S.ReadStore.content c.args.store.now in
    let new = g.S.ReadStore.content c.go_on.new.store in
    let listings = c.args.listings.now in
    let ends = sliced_whole IsLineAdded (λ _ _. BeginsLines true) old new c.in_ok-listing.listing _
    c.go_on.ensures.kept
    (λ h s. c.in_ok-listing.ensures.lines old.world (subst (λ (o : Option (Slices Lines)). IfSome o
    (AreLinesUpTo old.world)) (sym c.take.ensures.value)
    (if_any old AreLinesUpTo listings.listing c.requires.listing h s)))
    c.in_ok-listing-2.ensures.sliced c.in-Whole.made c.in-Whole.taken c.in-Whole.is in
    record {
      listing = subst (AsksIfAny new AreLinesUpTo) (sym c.take.ensures.after) tt;
      listed = λ h s. c.in_ok-listed-in-Whole.ensures.lines new.world (ends h).1.1;
    }

pub returns-else-is_own-clause-listed : goal.returns-else-is_own-clause-listed
returns-else-is_own-clause-listed g c =
    let old = g.S.ReadStore.content c.args.store.now in
    let new = g.S.ReadStore.content c.go_on.new.store in
    let listings = c.args.listings.now in
    let ends = sliced_whole IsLineAdded (λ _ _. BeginsLines true) old new c.in_ok-listing.listing _
    c.go_on.ensures.kept
    (λ h s. c.in_ok-listing.ensures.lines old.world (subst (λ (o : Option (Slices Lines)). IfSome o
    (AreLinesUpTo old.world)) (sym c.take.ensures.value)
    (if_any old AreLinesUpTo listings.listing c.requires.listing h s)))
    c.in_ok-listing-2.ensures.sliced c.in-Whole.made c.in-Whole.taken c.in-Whole.is in
    record {
      listing = subst (AsksIfAny new AreLinesUpTo) (sym c.take.ensures.after) tt;
      listed = λ h s. c.in_ok-listed-in-Whole.ensures.lines new.world (ends h).1.1;
    }
