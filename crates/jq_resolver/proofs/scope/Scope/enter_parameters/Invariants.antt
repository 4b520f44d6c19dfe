use Rattle.std.proofs.Common.{◌≡◌, map, take}
use Rattle.jv_data.specs.Text.{text_of}
use Rattle.jq_tree.specs.Names.{with_parameters}
use Rattle.jq_resolver.specs.private.Scopes.{bound_names}
use Rattle.jq_resolver.proofs.scope.Scope.enter_parameters.Given as goal

abbrev pub invariant-loop-name : goal.invariant-loop-name
invariant-loop-name l = bound_names l.self ≡ with_parameters (map text_of (take l.name-index l.names)) (bound_names l.initial.self)
