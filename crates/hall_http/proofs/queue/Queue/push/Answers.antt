use Rattle.std.proofs.Common.{◌≡◌, arith, rules, ◌++◌, [], ◌∷◌, false}
use Rattle.std.proofs.Math.Logic.{∥∥₁_map}
use Rattle.hall_http.specs.Line.{has}
use Rattle.hall_http.specs.Limits.{most_connections}
use Rattle.hall_http.specs.declared.queue.Motion.TheVariants.{Comes}
use Rattle.hall_http.proofs.Lines.{line_comes, lines_then, room_in, within_then}
use Rattle.hall_http.proofs.queue.Queue.push.Goals as goal

pub push_back_reserved-requires : goal.push_back_reserved-requires
push_back_reserved-requires c =
    let s = c.args.self.now in
    let none : has s.waiting.items c.args.place ≡ false = search rules in
    omega (
      arith,
      s.room,
      s.waiting.ok.0,
      room_in s.waiting.items c.args.place most_connections s.line.1 s.within c.requires none,
    )

pub invariant_of-self : goal.invariant_of-self
invariant_of-self c =
    let s = c.args.self.now in
    let place = c.args.place in
    let none : has s.waiting.items place ≡ false = search rules in
    let then = line_comes s.motions.items s.waiting.items place s.line none in
    let pushed = c.push_back_reserved.ensures.items in
    record {
      line = rw (c.and-self.ensures, pushed) then;
      always = rw c.and-self.ensures
          (∥∥₁_map s.always (λ old. lines_then s.motions.items (place, Comes) (s.waiting.items ++ place ∷ []) old then));
      within = rw pushed (within_then s.waiting.items place most_connections s.within c.requires);
      room = rw c.push_back_reserved.ensures.capacity s.room;
    }
