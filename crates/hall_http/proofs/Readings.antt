-- What a further read, and a further answer, make of a stream's reading.
use Rattle.std.proofs.Common.{◌++◌, arith, refl, subst, ℕ, ◌+◌, inl, inr, List, [], ◌∷◌, Option}
use Rattle.hall_grid.specs.Device.{MadeCalls, Rises}
use Rattle.hall_http.specs.Connection.{Exchange, Session}

-- a further call is counted
pub one_call_more : (n old mid new : ℕ) → MadeCalls n old mid → Rises mid new → MadeCalls (n + 1) old new
one_call_more n old mid new (inl made) rise = grind arith
one_call_more n old mid new (inr made) rise = inr (omega arith)

-- a further request is answered
pub session_more : {H : Type 0} (answers : H → Option ℕ → List ℕ → List ℕ → H → Type 0) (h : H) (xs : List Exchange)
    (m : H) (x : Exchange) (i : H) → Session answers h xs m → answers m x.moment x.request x.reply i
    → Session answers h (xs ++ x ∷ []) i
session_more {H} answers h [] m x i same step = (
  i,
  subst (λ (m : H). answers m x.moment x.request x.reply i) same step,
  refl,
)
session_more answers h (y ∷ ys) m x i (p, first, rest) step = (p, first, session_more answers p ys m x i rest step)
