use Rattle.std.proofs.Common.{◌∙◌, ap}
use Rattle.jq_ast.specs.Named.{named}
use Rattle.jq_tree.specs.Prelude.{followed_by}
use Rattle.jq_filters.proofs.Known.{same_functions}
use Rattle.jq_syntax.specs.laws.Computed.{prelude}
use Rattle.jq_filters.proofs.laws.functions_are_the_preludes.Goals as goal

pub returns : goal.returns
returns c = λ fs t p is same. same_functions fs t prelude (same ∙ ap (λ q. followed_by q (named t)) (c.prelude_is_accepted.ensures.one p is))
