use Rattle.std.proofs.Common.{◌≡◌, ◌<◌, ◌∷◌, [], ◌++◌, Some, None, length, get_or, arith, ap}
use Rattle.std.specs.Prelude.{vec_capacity, vec_len}
use Rattle.std.proofs.lemmas.List.{length-set}
use Rattle.hall_solve.specs.Trail.{Trailed}
use Rattle.hall_solve.proofs.Trails.{IsTrailed-set, pushed, room_for}
use Rattle.hall_solve.proofs.partial.Partial.set.Goals as goal

pub invariant_of-self : goal.invariant_of-self
invariant_of-self c =
    let p = c.self.inside.places.items in
    let t = c.self.inside.trail.items in
    let within : c.args.place < length p = (rw (ap (λ (b : Trailed). b.places) c.self.view_is) c.requires.unset.0) in
    let unset : get_or p c.args.place None ≡ None = (rw (ap (λ (b : Trailed). b.places) c.self.view_is)
    c.requires.unset.1) in
    let room = room_for p t c.args.place c.self.invariant.0 within unset in
    let items : c.push.new.self.items ≡ t ++ c.args.place ∷ [] = pushed c.push.result t c.push.new.self.items
    c.args.place (vec_capacity c.self.inside.trail) (vec_len c.self.inside.trail) c.self.inside.trail.ok.0
    (omega (arith, c.self.invariant.1)) c.push.ensures.items c.push.ensures.full in (
      rw items (IsTrailed-set p t c.args.place c.args.value c.self.invariant.0 within unset),
      omega (arith, length-set p c.args.place (Some c.args.value), c.self.invariant.1, c.push.ensures.capacity),
    )
