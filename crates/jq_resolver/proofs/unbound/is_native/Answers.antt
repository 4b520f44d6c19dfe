use Rattle.std.proofs.Common.{◌≡◌, ◌∙◌, Some, None, ap, chars, sym}
use Rattle.jq_ast.specs.Bound.{is_native, means_native}
use Rattle.jq_natives.specs.Natives.{native_named}
use Rattle.jq_tree.specs.Names.{to_function}
use Rattle.jq_resolver.specs.private.Waiting.{reference_at}
use Rattle.jq_resolver.proofs.unbound.is_native.Goals as goal

pub returns-in-Some : goal.returns-in-Some
returns-in-Some c =
    let name = c.as_str.result.now in
    let arity = c.in-Function.arity in
    let named : native_named (chars name) arity ≡ Some c.in-Some.found = sym c.native_of.ensures ∙ c.in-Some.is in
    let reference : reference_at c.args.used.sort c.args.used.name.now ≡ to_function (chars name) arity =
    ap (λ s. reference_at s c.args.used.name.now) c.in-Function.is ∙ ap (λ bs. to_function (chars bs) arity) (sym c.as_str.ensures.value) in
    c.eq.ensures ∙ ap (is_native c.args.native) (sym named) ∙ ap (means_native c.args.native) (sym reference)

pub returns-in-None : goal.returns-in-None
returns-in-None c =
    let name = c.as_str.result.now in
    let arity = c.in-Function.arity in
    let named : native_named (chars name) arity ≡ None = sym c.native_of.ensures ∙ c.in-None.is in
    let reference : reference_at c.args.used.sort c.args.used.name.now ≡ to_function (chars name) arity =
    ap (λ s. reference_at s c.args.used.name.now) c.in-Function.is ∙ ap (λ bs. to_function (chars bs) arity) (sym c.as_str.ensures.value) in
    ap (is_native c.args.native) (sym named) ∙ ap (means_native c.args.native) (sym reference)
