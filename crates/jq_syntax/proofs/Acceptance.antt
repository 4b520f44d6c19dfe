-- The prelude is accepted.
use Rattle.std.proofs.Common.{◌≡◌, List, Some, ◌++◌, true, refl, subst, inr}
use Rattle.jq_tree.specs.Token.{Token}
use Rattle.jq_tree.specs.Grammar.{Main}
use Rattle.jq_tree.specs.Prelude.{IsPrelude, followed_by}
use Rattle.jq_tree.specs.laws.OneReading.{OneTokenList}
use Rattle.jq_tree.specs.laws.Lexed.{lexed, LexedAreTheTokens}
use Rattle.jq_tree.specs.declared.prelude.TheConstants.{PRELUDE}
use Rattle.jq_parser.specs.laws.OneTree as parser
use Rattle.jq_parser.specs.laws.Parsed.{parsed, ParsedIsTheTree}
use Rattle.jq_syntax.specs.laws.Computed.{steps, prelude_tokens, turns, prelude}
use Rattle.jq_syntax.proofs.shared.Computing.{computing_prelude}
use Rattle.jq_syntax.specs.laws.OfThePrelude.{OneTree, StandsBefore, OnlyDefinitions, AllNamesBound, CallsNoInputs, DefinesNoInputs}
use Rattle.jq_syntax.proofs.Ending.{ends_in_identity, ends_in_semicolon, kept, stands_before}

-- ---- of the prelude

has_tokens : lexed steps PRELUDE.now ≡ Some prelude_tokens
unfolding computing_prelude
has_tokens = refl

has_tree : parsed turns prelude_tokens ≡ Some prelude
unfolding computing_prelude
has_tree = refl

pub accepted : LexedAreTheTokens → ParsedIsTheTree → IsPrelude prelude
accepted lexed_law parsed_law = record { tokens = prelude_tokens; lexes = lexed_law steps PRELUDE.now prelude_tokens has_tokens; tree = parsed_law turns prelude_tokens prelude has_tree }

pub one_prelude : LexedAreTheTokens → ParsedIsTheTree → OneTokenList → parser.OneTree → OneTree
one_prelude lexed_law parsed_law one_list one_tree p h =
    let q = accepted lexed_law parsed_law in
    one_tree h.tokens p prelude h.tree (subst (λ (ts : List Token). Main ts prelude) (one_list PRELUDE.now q.tokens h.tokens q.lexes h.lexes) q.tree)

prelude_ends : ends_in_identity prelude ≡ true
unfolding computing_prelude
prelude_ends = refl

pub only_definitions : OnlyDefinitions
only_definitions = kept prelude prelude_ends

ends_in_definition : ends_in_semicolon prelude_tokens ≡ true
unfolding computing_prelude
ends_in_definition = refl

pub stands_before_a_filter : LexedAreTheTokens → ParsedIsTheTree → OneTokenList → StandsBefore
stands_before_a_filter lexed_law parsed_law one_list ps ts t h m =
    subst (λ (us : List Token). Main (us ++ ts) (followed_by prelude t)) (one_list PRELUDE.now prelude_tokens ps (lexed_law steps PRELUDE.now prelude_tokens has_tokens) h)
    (stands_before (parsed_law turns prelude_tokens prelude has_tree) (inr ends_in_definition) prelude_ends ts t m)

pub all_names_bound : AllNamesBound
unfolding computing_prelude
all_names_bound = refl

pub calls_no_inputs : CallsNoInputs
unfolding computing_prelude
calls_no_inputs = refl

pub defines_no_inputs : DefinesNoInputs
unfolding computing_prelude
defines_no_inputs = refl
