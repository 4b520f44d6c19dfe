-- The tokens of items and of members, with the closing bracket.
use Rattle.std.specs.Prelude.{List, [], ◌∷◌, ◌++◌}
use Rattle.json.specs.Token.{Token}
use Rattle.json.specs.Tree.{items_tokens, members_tokens}
use Rattle.serde_json.specs.Written.{items_outline, members_outline}
use Rattle.jv_data.specs.Value.{Items, Members}
use Rattle.jv_data.specs.View.{view, items_view, members_view}
use Rattle.jv_text.specs.Json.{items_data, members_data}
use Rattle.jv_text.specs.Printed.{tokens_of}
use Rattle.jv_text.specs.declared.nested.Open.{Open}
use Rattle.jv_text.specs.declared.nested.Open.TheVariants.{Whole, Array, Object}

abbrev pub tokens_of_items : Items → List Token
tokens_of_items vs = items_tokens (items_outline (items_data vs))

abbrev pub tokens_of_members : Members → List Token
tokens_of_members ms = members_tokens (members_outline (members_data ms))

-- the tokens of what is left of an open array or object, or of a whole value
abbrev pub rest_tokens : Open → List Token
rest_tokens (Whole value) = tokens_of (view value.now)
rest_tokens (Array items) = tokens_of_items (items_view items.now)
rest_tokens (Object members) = tokens_of_members (members_view members)

-- the tokens of what is left of several, the last one first, and then these
abbrev pub open_tokens : List Open → List Token → List Token
open_tokens [] after = after
open_tokens (o ∷ os) after = open_tokens os (rest_tokens o ++ after)
