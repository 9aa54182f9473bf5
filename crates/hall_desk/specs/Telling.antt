-- JSON that is told: its tokens, one after another.
use Rattle.std.specs.Prelude.{◌≡◌, ◌++◌, List}
use Rattle.json.specs.Token.{Token}
use Rattle.json.specs.Tree.{json_tokens}
use Rattle.serde_json.specs.Data.{Data}
use Rattle.serde_json.specs.Written.{outline}

-- the tokens of a value
abbrev pub tokens_of : Data → List Token
tokens_of d = json_tokens (outline d)

-- the new tokens are the old ones, and more after them
pub record AddsTokens (old new more : List Token) : Type 0 where
  pub same : new ≡ old ++ more
