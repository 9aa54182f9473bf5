-- What is looked up is a key.
use Rattle.std.proofs.Common.{ℕ, List, refl, sym, subst}
use Rattle.hall_policy.specs.Ranges.{IsKey}
use Rattle.hall_policy.specs.Text.{is_key_byte}
use Rattle.hall_policy.proofs.Reading.{kind_told}
use Rattle.hall_desk.specs.declared.serving.TheConstants.{PROBE}
use Rattle.hall_desk.proofs.serving.probe.Goals as goal

is_key : IsKey PROBE.now
is_key = kind_told 8 64 is_key_byte PROBE.now refl

pub unreachable-requires : goal.unreachable-requires
unreachable-requires g c =
    c.in_default.ensures.none (subst (λ (text : List ℕ). IsKey text) (sym c.in_ok-from_str.ensures.ok) is_key)
