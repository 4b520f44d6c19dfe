-- The reading of a filter's text, before its names are checked, and the prelude's functions.
use Rattle.std.specs.Prelude.{◌≡◌, ℕ, List, [], ◌∷◌, map}
use Rattle.jv_data.specs.Text.{text_of}
use Rattle.jq_tree.specs.Tree.{Tree}
use Rattle.jq_tree.specs.Tree as tree
use Rattle.jq_tree.specs.Token.{Token, TooManyTokens, TooNested}
use Rattle.jq_tree.specs.Lexing.{Lexes, BadToken}
use Rattle.jq_tree.specs.Filter.{Within}
use Rattle.jq_tree.specs.Grammar.{Main}
use Rattle.jq_tree.specs.Prelude.{IsPrelude, followed_by}
use Rattle.jq_ast.specs.declared.tree.Function.{Function}
use Rattle.jq_ast.specs.declared.tree.Tree as ast
use Rattle.jq_ast.specs.Named.{named}
use Rattle.jq_syntax.specs.declared.faults.CompileFault.{CompileFault}
use Rattle.jq_syntax.specs.declared.faults.CompileFault.TheVariants as fault

-- Why the text has no tokens within both limits. (Memory may run out for any text.)
abbrev pub IsNotWithin : List ℕ → CompileFault → Type 0
IsNotWithin text (fault.Lex at) = BadToken text at
IsNotWithin text fault.TooManyTokens = (ts : List Token) × Lexes text ts × TooManyTokens ts
IsNotWithin text fault.TooNested = (ts : List Token) × Lexes text ts × (¬ TooManyTokens ts) × TooNested ts
IsNotWithin text fault.NoMemory = Unit {0}
IsNotWithin text f = ⊥

-- Why the text has no tree.
abbrev pub IsUnreadable : List ℕ → CompileFault → Type 0
IsUnreadable text fault.Syntax = (ts : List Token) × Within text ts × ((t : Tree) → ¬ Main ts t)
IsUnreadable text f = IsNotWithin text f

abbrev pub IsOutOfMemory : CompileFault → Type 0
IsOutOfMemory f = f ≡ fault.NoMemory

-- The definitions in order, then a filter.
abbrev pub nested : List (Function ast.Tree) → Tree → Tree
nested [] t = t
nested (f ∷ fs) t = tree.define (text_of f.name) (map text_of f.parameters.items) (named f.body) (nested fs t)

-- The functions of the prelude, which come before a filter.
pub record AreThePreludes (functions : List (Function ast.Tree)) : Type 0 where
  pub prelude : Tree
  pub is_prelude : IsPrelude prelude
  pub before : (t : Tree) → nested functions t ≡ followed_by prelude t
