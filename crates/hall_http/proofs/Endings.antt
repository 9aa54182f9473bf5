-- What comes after a request.
use Rattle.std.proofs.Common.{◌≡◌, ◌∙◌, sym, refl, arith, ℕ, ◌==◌, List, true, false, Some, None, if◌then◌else◌}
use Rattle.std.specs.Prelude.{Bool}
use Rattle.std.proofs.lemmas.Bool.{eqb-true}
use Rattle.hall_http.specs.Head.{IsLentBy}
use Rattle.hall_http.specs.Connection.{IsClosing, LeavesOpen}
use Rattle.hall_http.specs.Steps.{EndsAfter, then_of}
use Rattle.hall_http.specs.declared.connection.ServeEnd.TheVariants as end
use Rattle.hall_http.specs.declared.head.RawRequest.{RawRequest}

-- whether the connection closes after the request that is lent
pub closing_request : (bytes : List ℕ) (raw : RawRequest) → IsLentBy bytes raw → raw.closes ≡ true → IsClosing bytes
closing_request bytes raw (head, is, method, path, key, says) shut = (head, raw.body.now, is, sym says ∙ shut)

pub open_request : (bytes : List ℕ) (raw : RawRequest) → IsLentBy bytes raw → raw.closes ≡ false → LeavesOpen bytes
open_request bytes raw (head, is, method, path, key, says) stays = (head, raw.body.now, is, sym says ∙ stays)

last_or_not : (bytes : List ℕ) (n : ℕ) (b : Bool) → (n == 1000) ≡ b → LeavesOpen bytes
    → EndsAfter bytes n (if b then Some end.Limit else None)
last_or_not bytes n true e stays = (stays, eqb-true _ _ e)
last_or_not bytes n false e stays = (stays, λ same. grind (arith, e, same))

ends_by : (bytes : List ℕ) (raw : RawRequest) (n : ℕ) (b : Bool) → raw.closes ≡ b → IsLentBy bytes raw
    → EndsAfter bytes n (then_of b n)
ends_by bytes raw n true e lent = closing_request bytes raw lent e
ends_by bytes raw n false e lent = last_or_not bytes n (n == 1000) refl (open_request bytes raw lent e)

pub ends_after : (bytes : List ℕ) (raw : RawRequest) (n : ℕ) → IsLentBy bytes raw
    → EndsAfter bytes n (then_of raw.closes n)
ends_after bytes raw n lent = ends_by bytes raw n raw.closes refl lent
