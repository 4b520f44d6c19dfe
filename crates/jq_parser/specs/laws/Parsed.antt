-- A function that computes the tree of tokens, so that a proof gets that of a whole text by computing it.
use Rattle.std.specs.Prelude.{◌≡◌, ℕ, List, [], Option, Some}
use Rattle.jq_tree.specs.Tree.{Tree}
use Rattle.jq_tree.specs.Token.{Token}
use Rattle.jq_tree.specs.Grammar.{Main}
use Rattle.jq_parser.specs.laws.Combinators.{and_then, expect, any_name, any_name_on, separated, next_item}
use Rattle.jq_parser.specs.laws.Forms.{parameters, parameters_on, parameter_list, parameter, parameter_on}
use Rattle.jq_parser.specs.laws.Machine.{want_main, go, function_head, turns, run}

-- In at most that many turns.
unfoldable pub parsed : ℕ → List Token → Option Tree
parsed n tokens = run n (go want_main [] tokens)

-- unfolds it, and all that it is computed by
unfoldable pub parsing : Unit {0}
unfolding and_then expect any_name any_name_on parameters parameters_on parameter_list parameter parameter_on separated next_item function_head turns run parsed
parsing = tt

-- The tree that it computes is the tree of the tokens.
abbrev pub ParsedIsTheTree : Type 0
ParsedIsTheTree = (n : ℕ) (tokens : List Token) (t : Tree) → parsed n tokens ≡ Some t → Main tokens t
