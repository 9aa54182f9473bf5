-- The texts between which SQL looks for names.
use Rattle.std.specs.Prelude.{ℕ, List, [], ◌∷◌, Option, Some, None}
use Rattle.sqlite.specs.declared.types.Value.TheVariants.{Text}
use Rattle.sqlite.specs.Order.{Row}

-- the name, or the empty text, which comes before all names
abbrev pub text_before : Option (List ℕ) → List ℕ
text_before None = []
text_before (Some name) = name

-- the name, or the byte behind z, the greatest that a name may hold
abbrev pub text_up_to : Option (List ℕ) → List ℕ
text_up_to None = 123 ∷ []
text_up_to (Some name) = name

-- what is asked for answers of the round by entrants after the one name and up to the other
abbrev pub between_params : List ℕ → Option (List ℕ) → Option (List ℕ) → Row
between_params round after last = Text round ∷ Text (text_before after) ∷ Text (text_up_to last) ∷ []
