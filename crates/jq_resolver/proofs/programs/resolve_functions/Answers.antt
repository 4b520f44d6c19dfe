use Rattle.std.proofs.Common.{◌≡◌, ◌∙◌, ◌<◌, length, get_or, subst, rules, arith}
use Rattle.jq_resolver.proofs.Lists.{chain_step, unvisited_step}
use Rattle.jq_resolver.specs.private.Resolved.{IsDefinitionResolved}
use Rattle.jq_resolver.specs.private.Scopes.{bound_names}
use Rattle.jq_resolver.proofs.programs.resolve_functions.Goals as goal

pub loop-i-preserved : goal.loop-i-preserved
loop-i-preserved c =
    let old = c.args.functions.now.items in
    let cur = c.loop-i.functions.items in
    let i = c.loop-i.i in
    let x = c.index_mut.result.now in
    let y = c.resolve_definition.new.function in
    let inv = c.loop-i.invariant in
    let inside : i < length cur = search rules in
    let read : x ≡ get_or cur i x = search rules in
    let first : x ≡ get_or old i x = read ∙ inv.0.1 i x (omega arith) in
    let done : IsDefinitionResolved (bound_names c.loop-i.scope) (bound_names c.resolve_definition.new.scope) x y =
    subst (λ s. IsDefinitionResolved s (bound_names c.resolve_definition.new.scope) x y) c.list_next.ensures c.in_ok-resolve_definition.ensures in
    (unvisited_step old cur i y inv.0, chain_step IsDefinitionResolved _ _ _ old cur i x y inside inv.0.0 first inv.1 done)
