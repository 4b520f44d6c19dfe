use Rattle.std.proofs.Common.{◌≡◌, ◌∙◌, ◌-◌, ◌<◌, suc, false, length, map, reverse, drop, get_or, ap, sym, subst, arith}
use Rattle.std.proofs.lemmas.Grind.{get_or_default_zero}
use Rattle.jq_tree.specs.Binders.{binder}
use Rattle.jq_tree.specs.BoundTree.{bound_at}
use Rattle.jq_tree.specs.Names.{is_bound}
use Rattle.jq_resolver.specs.private.Bindings.{reference_in, references, referred}
use Rattle.jq_resolver.specs.private.Buckets.{bucket_in, bucket_of, IsLatest}
use Rattle.jq_resolver.proofs.Buckets.{bucket_at, skipped}
use Rattle.jq_resolver.proofs.Finding.{references_in, found_last, passed_last, drop_all}
use Rattle.jq_resolver.proofs.bindings.Bindings.innermost.Goals as goal

pub returns-then-binds : goal.returns-then-binds
returns-then-binds c =
    let xs = c.self.inside.binders.items in
    let i = c.loop-left.left - 1 in
    let r = referred c.args.kind c.args.name.now in
    let next : suc i ≡ c.loop-left.left = omega arith in
    let inside : i < length xs = omega (arith, c.loop-left.invariant.within) in
    let later : is_bound r (reverse (map reference_in (drop (suc i) xs))) ≡ false = ap (λ k. is_bound r (reverse (map reference_in (drop k xs)))) next ∙ c.loop-left.invariant.unbound in
    subst (λ s. (i < length s) × (binder s r ≡ bound_at (length s - suc i))) (sym (references_in xs) ∙ ap references c.self.view_is)
    (found_last xs i c.index-bound.result.now r inside c.index-bound.ensures (sym c.binds.ensures ∙ c.if-binds.true) later)

pub loop-left-preserved : goal.loop-left-preserved
loop-left-preserved c =
    let xs = c.self.inside.binders.items in
    let x = c.index-bound.result.now in
    let i = c.loop-left.left - 1 in
    let b = bucket_of c.args.kind c.args.name.now in
    let r = referred c.args.kind c.args.name.now in
    let next : suc i ≡ c.loop-left.left = omega arith in
    let inside : i < length xs = omega (arith, c.loop-left.invariant.within) in
    let own : bucket_in x ≡ b = sym (bucket_at xs i x inside c.index-bound.ensures) ∙ c.loop-left.invariant.belongs i next in
    let latest : IsLatest b (map bucket_in xs) i x.before = subst (λ z. IsLatest z (map bucket_in xs) i x.before) own (c.self.invariant.outward i x inside c.index-bound.ensures) in
    let later : is_bound r (reverse (map reference_in (drop (suc i) xs))) ≡ false = ap (λ k. is_bound r (reverse (map reference_in (drop k xs)))) next ∙ c.loop-left.invariant.unbound in
    let here : is_bound r (reverse (map reference_in (drop i xs))) ≡ false = passed_last xs i x r inside c.index-bound.ensures (sym c.binds.ensures ∙ c.if-binds.false) later in
    record {
      within = omega (arith, latest.within);
      belongs = latest.belongs;
      unbound = skipped c.args.kind c.args.name.now xs c.utf8.name i x.before (omega arith) latest here;
    }

pub loop-left-init : goal.loop-left-init
loop-left-init c =
    let xs = c.self.inside.binders.items in
    let table = c.self.inside.latest.items in
    let left = c.index-left.result.now in
    let b = bucket_of c.args.kind c.args.name.now in
    let r = referred c.args.kind c.args.name.now in
    let below : b < 1024 = subst (λ z. z < 1024) c.bucket_of.ensures.value c.bucket_of.ensures.within in
    let inside : c.bucket_of.result < length table = omega (arith, c.bucket_of.ensures.within, c.self.invariant.size) in
    let read : left ≡ get_or table b 0 = c.index-left.ensures ∙ get_or_default_zero table c.bucket_of.result left inside ∙ ap (λ z. get_or table z 0) c.bucket_of.ensures.value in
    let latest : IsLatest b (map bucket_in xs) (length xs) left = subst (IsLatest b (map bucket_in xs) (length xs)) (sym read) (c.self.invariant.innermost b below) in
    let none : is_bound r (reverse (map reference_in (drop (length xs) xs))) ≡ false = ap (λ zs. is_bound r (reverse (map reference_in zs))) (drop_all xs) in
    record {
      within = latest.within;
      belongs = latest.belongs;
      unbound = skipped c.args.kind c.args.name.now xs c.utf8.name (length xs) left (omega arith) latest none;
    }

pub returns : goal.returns
returns c =
    let xs = c.self.inside.binders.items in
    let r = referred c.args.kind c.args.name.now in
    let none : c.loop-left.left ≡ 0 = omega arith in
    let all : is_bound r (reverse (map reference_in xs)) ≡ false = sym (ap (λ k. is_bound r (reverse (map reference_in (drop k xs)))) none) ∙ c.loop-left.invariant.unbound in
    subst (λ s. is_bound r s ≡ false) (sym (references_in xs) ∙ ap references c.self.view_is) all
