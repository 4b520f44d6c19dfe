-- Where a text is refused for its syntax.
use Rattle.std.specs.Prelude.{ℕ, List}
use Rattle.jq_tree.specs.Tree.{Tree}
use Rattle.jq_tree.specs.Token.{Token}
use Rattle.jq_tree.specs.Filter.{Within}
use Rattle.jq_tree.specs.Grammar.{Main}
use Rattle.jq_lexer.specs.Places.{TokenAt}
use Rattle.jq_syntax.specs.declared.syntax_places.SyntaxPlace.{SyntaxPlace}
use Rattle.jq_syntax.specs.declared.syntax_places.SyntaxPlace.TheVariants as syntax_place

-- The text is within the limits, and its tokens are no filter.
abbrev pub IsSyntaxError : List ℕ → Type 0
IsSyntaxError text = (ts : List Token) × Within text ts × ((t : Tree) → ¬ Main ts t)

-- A token of the text begins there.
abbrev pub IsPlaceIn : List ℕ → SyntaxPlace → Type 0
IsPlaceIn text (syntax_place.At at) = (n : ℕ) × TokenAt text n at
IsPlaceIn text syntax_place.AtEnd = Unit {0}

-- The text is refused for its syntax, and this is where.
pub record IsSyntaxErrorAt (text : List ℕ) (p : SyntaxPlace) : Type 0 where
  pub error : IsSyntaxError text
  pub place : IsPlaceIn text p
