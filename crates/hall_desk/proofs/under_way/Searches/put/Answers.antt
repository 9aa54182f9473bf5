use Rattle.std.proofs.Common.{◌≡◌, ◌∙◌, ◌<◌, List, Option, Some, ap, length, refl, subst, sym}
use Rattle.std.specs.Prelude.{slice_set}
use Rattle.hall_desk.specs.Searches.{SearchesView}
use Rattle.hall_desk.specs.declared.under_way.Underway.{Underway}
use Rattle.hall_desk.proofs.Places.{still_under_way, put_free}
use Rattle.hall_desk.proofs.under_way.Searches.put.Goals as goal

pub invariant_of-self : goal.invariant_of-self
invariant_of-self c =
    let xs = c.self.inside.places.items in
    let same : xs ≡ c.args.self.now.places = ap (λ (v : SearchesView). v.places) c.self.view_is in
    let inside : c.args.place < length xs =
    subst (λ (ys : List (Option Underway)). c.args.place < length ys) (sym same) c.requires.inside in
    still_under_way xs c.args.place c.put_at.new.place inside c.self.invariant
    (put_free xs c.args.self.now.places c.args.place c.put_at.new.place _ same c.put_at.ensures c.requires.free)

pub returns : goal.returns
returns c =
    let old = c.self.inside in
    let put : Underway =
    record { key = c.args.key; name = c.args.name; search = c.args.search; last = c.self.inside.asked } in
    let there : Option Underway → SearchesView =
    λ o. record { places = slice_set old.places.items c.args.place o; asked = old.asked; ended = old.ended } in
    let last = ap (λ (v : SearchesView). v.asked) c.self.view_is in
    record {
      put = (
        put,
        record { key = refl; name = refl; of = refl; within = refl; made = refl; last = last },
        ap there c.put_at.ensures
            ∙ ap (λ (v : SearchesView). record v { places = slice_set v.places c.args.place (Some put) })
            c.self.view_is,
      );
    }
