use Rattle.std.proofs.Common.{◌≡◌, ◌∙◌, ◌-◌, ◌<◌, suc, false, length, map, reverse, take, ap, sym, subst, rules}
use Rattle.std.proofs.Math.Seq.{take-length}
use Rattle.jq_tree.specs.Binders.{prelude_binder}
use Rattle.jq_tree.specs.BoundTree.{bound_at, nowhere}
use Rattle.jq_tree.specs.Names.{is_bound}
use Rattle.jq_resolver.specs.private.Bindings.{reference_in, references, referred}
use Rattle.jq_resolver.proofs.Finding.{references_in, found_first, passed_first}
use Rattle.jq_tree.proofs.shared.Binding.{prelude_binder_nowhere}
use Rattle.jq_resolver.proofs.bindings.Bindings.outermost.Goals as goal

pub returns-then-binds : goal.returns-then-binds
returns-then-binds c =
    let xs = c.self.inside.binders.items in
    let i = c.loop-i.i in
    let r = referred c.args.kind c.args.name.now in
    let inside : i < length xs = search rules in
    subst (λ s. (i < length s) × (prelude_binder s r ≡ bound_at (length s - suc i))) (sym (references_in xs) ∙ ap references c.self.view_is)
    (found_first xs i c.index.result.now r inside c.index.ensures (sym c.binds.ensures ∙ c.if-binds.true) c.loop-i.invariant)

pub loop-i-preserved : goal.loop-i-preserved
loop-i-preserved c =
    let xs = c.self.inside.binders.items in
    let r = referred c.args.kind c.args.name.now in
    let inside : c.loop-i.i < length xs = search rules in
    passed_first xs c.loop-i.i c.index.result.now r inside c.index.ensures (sym c.binds.ensures ∙ c.if-binds.false) c.loop-i.invariant

pub returns : goal.returns
returns c =
    let xs = c.self.inside.binders.items in
    let r = referred c.args.kind c.args.name.now in
    let count : c.loop-i.i ≡ length xs = search rules in
    let none : is_bound r (reverse (map reference_in xs)) ≡ false =
    ap (λ zs. is_bound r (reverse (map reference_in zs))) (sym (ap (λ k. take k xs) count ∙ take-length xs)) ∙ c.loop-i.invariant in
    subst (λ s. prelude_binder s r ≡ nowhere) (sym (references_in xs) ∙ ap references c.self.view_is) (prelude_binder_nowhere (reverse (map reference_in xs)) r none)
