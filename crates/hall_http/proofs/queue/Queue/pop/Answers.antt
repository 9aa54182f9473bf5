use Rattle.std.proofs.Common.{◌∙◌, subst}
use Rattle.std.proofs.Math.Logic.{∥∥₁_map}
use Rattle.hall_http.specs.Line.{IsLineSoFar}
use Rattle.hall_http.proofs.Lines.{goes, line_goes, lines_then, rest_of, within_after}
use Rattle.hall_http.proofs.queue.Queue.pop.Goals as goal

pub invariant_of-self : goal.invariant_of-self
invariant_of-self c =
    let s = c.args.self.now in
    let place = c.args.place in
    let behind = c.requires.first.0 in
    let waiting = c.requires.first.1 in
    let rest = c.pop_front-first.ensures.rest ∙ rest_of s.waiting.items behind place waiting in
    let then = line_goes s.motions.items behind place c.args.motion (subst (λ xs. IsLineSoFar s.motions.items xs) waiting s.line)
    (goes place c.args.motion c.requires.goes) in
    record {
      line = rw (c.and-self.ensures, rest) then;
      always = rw c.and-self.ensures (∥∥₁_map s.always (λ old. lines_then s.motions.items (place, c.args.motion) behind old then));
      within = rw rest (within_after s.waiting.items behind place _ waiting s.within);
      room = rw c.pop_front-first.ensures.capacity s.room;
    }
