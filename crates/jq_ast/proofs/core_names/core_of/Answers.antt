use Rattle.std.proofs.Common.{◌∙◌}
use Rattle.jq_ast.proofs.CoreNames.{core_same}
use Rattle.jq_ast.proofs.core_names.core_of.Goals as goal

pub returns : goal.returns
returns c = c.by_bytes.ensures ∙ core_same c.args.name.now c.args.arity c.utf8.name
