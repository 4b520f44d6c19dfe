use Rattle.std.proofs.Common.{rules}
use Rattle.jq_resolver.specs.private.Scopes.{bound_names}
use Rattle.jq_resolver.proofs.Program.{program_resolved, outermost}
use Rattle.jq_resolver.proofs.programs.resolve.Goals as goal

pub returns-clause-names : goal.returns-clause-names
returns-clause-names c =
    (program_resolved (bound_names c.enter_variables.new.scope) _ _ _ _ _ _ c.in_ok-resolve_functions.ensures c.in_ok-resolve_tree.ensures).names

pub returns-clause-tree : goal.returns-clause-tree
returns-clause-tree c = c.in_ok-resolve_tree.ensures.names

pub returns-clause-binders : goal.returns-clause-binders
returns-clause-binders c =
    let fs = c.args.functions.now.items in
    let gs = c.resolve_functions.new.functions.items in
    let x = c.args.tree.now in
    let y = c.resolve_tree.new.tree in
    outermost c.args.variables.now (bound_names c.enter_variables.new.scope) (bound_names c.in_ok-scope.scope) fs gs x y (search rules) c.in_ok-scope.ensures
    (program_resolved (bound_names c.enter_variables.new.scope) _ _ fs gs x y c.in_ok-resolve_functions.ensures c.in_ok-resolve_tree.ensures)
