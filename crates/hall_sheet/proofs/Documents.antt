-- The table that bytes write.
use Rattle.std.proofs.Common.{◌≡◌, refl, ℕ, List, false, Some, Ok, Err}
use Rattle.std.specs.Str.{IsUtf8, is_utf8}
use Rattle.std.proofs.lemmas.Bool.{false_from_ne_true}
use Rattle.std.proofs.lemmas.Str.{IsUtf8-from_is_utf8, is_utf8-from_IsUtf8}
use Rattle.toml.specs.Data.{Members}
use Rattle.toml.specs.Parse.{parse_document}
use Rattle.hall_sheet.specs.declared.fault.Refusal.TheVariants as refusal
use Rattle.hall_sheet.specs.Sheet.{document_in}

pub no_text : (bytes : List ℕ) → (IsUtf8 bytes → ⊥) → document_in bytes ≡ Err refusal.Syntax
no_text bytes bad =
    let other : is_utf8 bytes ≡ false = false_from_ne_true (is_utf8 bytes) (λ e. bad (IsUtf8-from_is_utf8 bytes e)) in
    rw other refl

pub document_is : (bytes : List ℕ) (ms : Members) → IsUtf8 bytes → parse_document bytes ≡ Some ms
    → document_in bytes ≡ Ok ms
document_is bytes ms text is = rw (is_utf8-from_IsUtf8 bytes text, is) refl
