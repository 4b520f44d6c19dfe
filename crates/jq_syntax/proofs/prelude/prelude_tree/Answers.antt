use Rattle.std.proofs.Common.{rules, map}
use Rattle.jq_ast.specs.Named.{named}
use Rattle.jq_lexer.specs.Views.{token_of}
use Rattle.jq_syntax.proofs.PreludeText.{no_bad_token, has_tree, is_prelude}
use Rattle.jq_syntax.proofs.prelude.prelude_tree.Goals as goal

-- src/prelude.rt:38:43
pub unreachable-requires : goal.unreachable-requires
unreachable-requires c = no_bad_token c.prelude_is_accepted.ensures.accepted c.one_reading.ensures.not_both c.in-Err-BadToken.field-0-0 (search rules)

-- src/prelude.rt:43:36
pub unreachable-requires-in-Err-Syntax : goal.unreachable-requires-in-Err-Syntax
unreachable-requires-in-Err-Syntax c = has_tree c.prelude_is_accepted.ensures.accepted c.one_reading.ensures.tokens (map token_of c.in-Ok.tokens.items) (search rules) (c.in-Err-Syntax.ensures.syntax c.in-Err-Syntax.field-0-is)

-- src/prelude.rt:30:1
pub returns-in-Ok-parse-clause-tree : goal.returns-in-Ok-parse-clause-tree
returns-in-Ok-parse-clause-tree c = is_prelude (map token_of c.in-Ok.tokens.items) (named c.in-Ok-parse.tree.value) (search rules) (search rules)
