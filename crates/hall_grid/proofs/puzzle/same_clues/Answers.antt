use Rattle.std.proofs.Common.{◌≡◌, ap, false, true, refl}
use Rattle.std.specs.Bool.{Decides}
use Rattle.std.specs.Cmp.{unsigned_Decides}
use Rattle.std.specs.Cmp.Lexicographic.{pointwise_decides}
use Rattle.hall_grid.specs.contracts.board.CluePartialEq.TheImpl as clue
use Rattle.hall_grid.specs.declared.board.Clue.{Clue}
use Rattle.hall_grid.specs.declared.board.Clue.TheVariants.{Blank, Unknown, Number}
use Rattle.hall_grid.proofs.puzzle.same_clues.Goals as goal

no : {P : Type 0} → false ≡ true → P
no e = cc

clue_decides : (x y : Clue) → Decides (clue.eq-value.it x y) (x ≡ y)
clue_decides Blank Blank = (λ _. refl, λ _. refl)
clue_decides Blank Unknown = (λ e. no e, λ e. cc)
clue_decides Blank (Number n) = (λ e. no e, λ e. cc)
clue_decides Unknown Blank = (λ e. no e, λ e. cc)
clue_decides Unknown Unknown = (λ _. refl, λ _. refl)
clue_decides Unknown (Number n) = (λ e. no e, λ e. cc)
clue_decides (Number m) Blank = (λ e. no e, λ e. cc)
clue_decides (Number m) Unknown = (λ e. no e, λ e. cc)
clue_decides (Number m) (Number n) = (λ e. ap Number ((unsigned_Decides m n).0 e), λ e. (unsigned_Decides m n).1 (cc))

pub returns : goal.returns
returns c = rw c.eq.ensures (pointwise_decides clue_decides c.args.a.now c.args.b.now)
