-- The parameters of a definition, and tests of the next token.
use Rattle.std.specs.Prelude.{List, [], ◌∷◌, length, Option, Some, Bool, true, false}
use Rattle.jq_tree.specs.Token.{Token, keyword, name, variable, symbol}
use Rattle.jq_tree.specs.Token as token
use Rattle.jq_tree.specs.WrittenOut.{Parameter, by_filter, by_value}
use Rattle.jq_parser.specs.laws.Combinators.{first, Parser, ◌>>◌, pure, refuse, skip, expect, separated, ◌>>=◌}

abbrev pub one_parameter : Parameter → List Parameter
one_parameter p = p ∷ []

abbrev pub more_parameters : Parameter → List Parameter → List Parameter
more_parameters p ps = p ∷ ps

-- ---- definitions

unfoldable pub parameter_on : Option Token → Parser Parameter
parameter_on (Some (name n)) = skip >> pure (by_filter n)
parameter_on (Some (variable n)) = skip >> pure (by_value n)
parameter_on _ = refuse

unfoldable pub parameter : Parser Parameter
parameter = λ i. parameter_on (first i) i

unfoldable pub parameter_list : Parser (List Parameter)
parameter_list = λ i. separated token.semicolon one_parameter more_parameters parameter (length i) i

unfoldable pub parameters_on : Option Token → Parser (List Parameter)
parameters_on (Some (symbol token.left_parenthesis)) = do
  skip
  ps ← parameter_list
  expect token.right_parenthesis
  pure ps
parameters_on _ = pure []

unfoldable pub parameters : Parser (List Parameter)
parameters = λ i. parameters_on (first i) i

abbrev pub begins_post : Option Token → Bool
begins_post (Some (symbol token.minus)) = false
begins_post (Some (keyword token.Try)) = false
begins_post _ = true

abbrev pub is_as : Option Token → Bool
is_as (Some (keyword token.As)) = true
is_as _ = false

abbrev pub both_of : Bool → Bool → Bool
both_of true b = b
both_of false b = false
