use Rattle.std.proofs.Common.{◌≡◌, ◌∙◌, ap, inl, inr, [], ◌∷◌, ◌++◌, map}
use Rattle.std.proofs.lemmas.List.{map-append}
use Rattle.hall_http.specs.Coming.{logged}
use Rattle.hall_http.specs.EventLoop.{said_by}
use Rattle.hall_tests.proofs.Agreeing.{agree_then}
use Rattle.hall_tests.proofs.socket.BriefSockets.next.Goals as goal
use Rattle.hall_tests.proofs.socket.BriefSockets.next.Goals.{then-self, else-self}

pub invariant_of-self : goal.invariant_of-self
invariant_of-self c =
    let old = c.args.self.now in
    let more : logged c.and-self.result ≡ logged old.nexts ++ c.if-self.next ∷ [] =
    ap (map (λ one. one.0)) c.and-self.ensures ∙ map-append (λ one. one.0) old.nexts.items
    ((c.if-self.next, c.if-self-2.self) ∷ []) in
    record {
      same = agree_then (logged old.nexts) (logged c.and-self.result) (map (λ one. one.0) old.heard.items)
          (said_by old.inner) (said_by c.if-self.self.1.0) c.if-self.next old.same more
          (elim c.if-self.branch [
            | then-self w ↦ inl (w.next-is, ap (λ self. said_by self.1.0) w.self-is)
            | else-self w ↦
                inr (rw (w.next-is, w.self-is) w.next-next.ensures.nexts, rw w.self-is w.next-next.ensures.heard)
          ]);
    }
