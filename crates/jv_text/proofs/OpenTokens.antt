-- The tokens of what is open in the list.
use Rattle.std.proofs.Common.{◌≡◌, List, [], ◌∷◌, ◌++◌, refl}
use Rattle.json.specs.Token.{Token}
use Rattle.jv_text.specs.declared.nested.Open.{Open}
use Rattle.jv_text.specs.PrintedTokens.{open_tokens, rest_tokens}

pub open_tokens-last : (os : List Open) (o : Open) (after : List Token) → open_tokens (os ++ o ∷ []) after ≡ rest_tokens o ++ open_tokens os after
open_tokens-last [] o after = refl
open_tokens-last (p ∷ os) o after = open_tokens-last os o (rest_tokens p ++ after)
