use Rattle.std.proofs.Common.{◌≡◌, ◌&&◌, ◌*◌, ◌∙◌, sym, ap, refl, true, false, not, Bool}
use Rattle.hall_score.specs.Total.{is_right}
use Rattle.hall_score.proofs.Tried.{instant_first, instant_other}
use Rattle.hall_score.proofs.entrant.Tries.instant_score.Goals as goal
use Rattle.hall_score.proofs.entrant.Tries.instant_score.Goals.{else-is_right-via-then-is_right+else-not-self}
use Rattle.hall_score.proofs.entrant.Tries.instant_score.Goals.{else-is_right-via-else-is_right}

no_first : (a b : Bool) → a ≡ false → (a && not b) ≡ false
no_first a b e = rw e refl

no_second : (a b : Bool) → b ≡ true → (a && not b) ≡ false
no_second true b e = ap not e
no_second false b e = refl

pub returns-then-not-self-clause-score : goal.returns-then-not-self-clause-score
returns-then-not-self-clause-score c = λ rows before tries.
    instant_first c.args.round.now rows c.args.row.now c.args.self.now _ c.score_of.result
    (ap (λ n. c.args.self.now.wrong * n) c.get.ensures.value) c.requires.mode before tries c.if-not-self.true
    (sym c.is_right.ensures ∙ c.if-is_right.true)
    c.score_of.ensures.within c.score_of.ensures.outside

pub returns-else-is_right-clause-score : goal.returns-else-is_right-clause-score
returns-else-is_right-clause-score c = λ rows before tries.
    let idle : (is_right c.args.row.now && not c.args.self.now.has_right) ≡ false = elim c.else-is_right.branch [
      | else-is_right-via-then-is_right+else-not-self w ↦ no_second (is_right c.args.row.now) c.args.self.now.has_right
          w.if-not-self.false
      | else-is_right-via-else-is_right w ↦ no_first (is_right c.args.row.now) c.args.self.now.has_right
          (sym c.is_right.ensures ∙ w.if-is_right.false)
    ] in
    instant_other c.args.round.now rows c.args.row.now c.args.self.now c.requires.mode before tries idle
