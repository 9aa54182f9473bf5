use Rattle.std.proofs.Common.{◌≡◌, drop, map, true}
use Rattle.hall_http.specs.Routes.{rows_from, are_free}
use Rattle.hall_http.proofs.routes.insert_all.Given as goal

abbrev pub invariant-loop-pattern : goal.invariant-loop-pattern
invariant-loop-pattern l =
    (rows_from l.router (map (λ p. (p.0.now, p.1)) (drop l.pattern-index l.patterns)) ≡ rows_from l.fn.router
    (map (λ p. (p.0.now, p.1)) l.patterns))
    × (are_free l.router (map (λ p. (p.0.now, p.1)) (drop l.pattern-index l.patterns)) ≡ true)
