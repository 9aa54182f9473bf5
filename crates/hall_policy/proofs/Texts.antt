-- Whether two texts are one, and two tests at once.
use Rattle.std.proofs.Common.{◌≡◌, ◌&&◌, ℕ, Bool, true, false, List, refl}
use Rattle.std.specs.Bool.{Decides}
use Rattle.std.specs.Cmp.{unsigned_Decides}
use Rattle.std.specs.Cmp.Lexicographic.{pointwise_decides}
use Rattle.hall_policy.specs.World.{same_text}

-- texts are one exactly where the test passes
pub text_decides : (a b : List ℕ) → Decides (same_text a b) (a ≡ b)
text_decides a b = pointwise_decides unsigned_Decides a b

pub and_first : (a b : Bool) → (a && b) ≡ true → a ≡ true
and_first true b h = refl
and_first false b h = h

pub and_second : (a b : Bool) → (a && b) ≡ true → b ≡ true
and_second true b h = h
and_second false b h = let no : false ≡ true = h in cc
