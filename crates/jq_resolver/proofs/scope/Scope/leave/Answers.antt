use Rattle.std.proofs.Common.{◌≡◌, ◌∙◌, ◌+◌, ◌-◌, length, drop, ap, sym, arith}
use Rattle.std.proofs.lemmas.List.{drop-drop, drop-map, length-map}
use Rattle.jq_resolver.specs.private.Bindings.{reference_of, references}
use Rattle.jq_resolver.proofs.scope.Scope.leave.Goals as goal

pub loop-preserved : goal.loop-preserved
loop-preserved c =
    let all = c.args.self.now.bindings in
    let k = c.loop.counter - c.args.count in
    let next : k + 1 ≡ c.loop.counter + 1 - c.args.count = omega (arith, c.loop.invariant.began) in
    record {
      began = omega (arith, c.loop.invariant.began);
      within = omega (arith, c.loop.invariant.began, c.loop-test.true);
      left = c.leave.ensures ∙ ap (drop 1) c.loop.invariant.left ∙ drop-drop 1 k all ∙ ap (λ n. drop n all) next;
    }

pub returns : goal.returns
returns c =
    let all = c.args.self.now.bindings in
    let count : c.len-end.result ≡ length (references all) = c.len-end.ensures ∙ sym (length-map all reference_of) in
    let whole : c.loop.counter - c.args.count ≡ length (references all) - c.args.count = omega (arith, count, c.loop.invariant.within, c.loop-test.false) in
    ap references (c.loop.invariant.left ∙ ap (λ n. drop n all) whole) ∙ sym (drop-map reference_of (length (references all) - c.args.count) all)
