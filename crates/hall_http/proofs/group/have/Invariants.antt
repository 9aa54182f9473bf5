use Rattle.std.proofs.Common.{◌≢◌, ◌<◌, ℕ, get_or}
use Rattle.hall_http.specs.declared.group.Member.{Member}
use Rattle.hall_http.proofs.group.have.Given as goal

abbrev pub invariant-loop-member : goal.invariant-loop-member
invariant-loop-member l =
    (i : ℕ) (d : Member) → i < l.member-index → (get_or l.members i d).request.place ≢ l.place
