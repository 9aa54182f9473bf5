-- Tokens that are told one after another.
use Rattle.std.proofs.Common.{◌≡◌, ◌∙◌, ◌++◌, ap, append_assoc, List, []}
use Rattle.json.specs.Token.{Token}
use Rattle.json.specs.Print.{print}
use Rattle.serde_json.specs.Data.{Data}
use Rattle.serde_json.specs.Written.{compact_text}
use Rattle.serde_json.proofs.Texts.{print-outline}
use Rattle.hall_desk.specs.Telling.{tokens_of, AddsTokens}

-- some, and more of them
pub after : {a b c some more : List Token} → AddsTokens a b some → AddsTokens b c more → AddsTokens a c (some ++ more)
after {a} {b} {c} {some} {more} first then =
    record { same = then.same ∙ ap (λ (s : List Token). s ++ more) first.same ∙ append_assoc a some more }

-- a value's tokens alone print as its text
pub prints : (d : Data) (none told : List Token) → none ≡ [] → AddsTokens none told (tokens_of d)
    → print told ≡ compact_text d
prints d none told e all =
    let whole : told ≡ tokens_of d = all.same ∙ ap (λ (s : List Token). s ++ tokens_of d) e in
    ap print whole ∙ print-outline d
