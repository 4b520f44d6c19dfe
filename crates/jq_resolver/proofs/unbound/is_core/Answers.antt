use Rattle.std.proofs.Common.{◌≡◌, ◌∙◌, Some, None, ap, chars, sym}
use Rattle.jq_tree.specs.Names.{same_reference, to_function}
use Rattle.jq_ast.specs.CoreNames.{core_named, core_reference}
use Rattle.jq_resolver.specs.private.Waiting.{reference_at}
use Rattle.jq_resolver.proofs.Referred.{core_means_it, no_core_means}
use Rattle.jq_resolver.proofs.unbound.is_core.Goals as goal

pub returns-in-Some : goal.returns-in-Some
returns-in-Some c =
    let name = c.as_str.result.now in
    let arity = c.in-Function.arity in
    let named : core_named (chars name) arity ≡ Some c.in-Some.found = sym c.core_of.ensures ∙ c.in-Some.is in
    let reference : reference_at c.args.used.sort c.args.used.name.now ≡ to_function (chars name) arity =
    ap (λ s. reference_at s c.args.used.name.now) c.in-Function.is ∙ ap (λ bs. to_function (chars bs) arity) (sym c.as_str.ensures.value) in
    core_means_it c.args.core c.in-Some.found (chars name) arity c.eq.result named c.eq.ensures ∙ ap (same_reference (core_reference c.args.core)) (sym reference)

pub returns-in-None : goal.returns-in-None
returns-in-None c =
    let name = c.as_str.result.now in
    let arity = c.in-Function.arity in
    let named : core_named (chars name) arity ≡ None = sym c.core_of.ensures ∙ c.in-None.is in
    let reference : reference_at c.args.used.sort c.args.used.name.now ≡ to_function (chars name) arity =
    ap (λ s. reference_at s c.args.used.name.now) c.in-Function.is ∙ ap (λ bs. to_function (chars bs) arity) (sym c.as_str.ensures.value) in
    no_core_means c.args.core (chars name) arity named ∙ ap (same_reference (core_reference c.args.core)) (sym reference)
