use Rattle.std.proofs.Common.{◌≡◌, ◌∙◌, ◌-◌, ◌<◌, get_or, length, sym, subst, arith}
use Rattle.std.proofs.lemmas.Grind.{get_or_default_zero}
use Rattle.jq_state.specs.Listed.{bindings_in, is_sought, NoneFrom}
use Rattle.jq_state.proofs.Chaining.{InChain, first_link, none_after_chain, next_link, none_from_link}
use Rattle.jq_state.proofs.programs.ProgramBindings.last.Goals as goal

pub loop-at-init : goal.loop-at-init
loop-at-init c =
    let p = c.args.self.now in
    let s = is_sought c.args.sought in
    let b = c.bucket-bucket.result in
    let l : b < length p.latest.items = omega (arith, c.bucket-bucket.ensures.within, p.buckets) in
    let is : c.index-at.result.now ≡ get_or p.latest.items b 0 = c.index-at.ensures ∙ get_or_default_zero p.latest.items b c.index-at.result.now l in
    record {
      chain = subst (InChain b p.items.items) (sym is) (first_link p.items.items b p.latest.items c.bucket-bucket.ensures.within p.chains);
      none = subst (λ at. NoneFrom s (bindings_in p) at c.args.end) (sym is)
          (none_after_chain s p.items.items b p.latest.items c.args.end c.bucket-bucket.ensures.within c.bucket-bucket.ensures.bucket p.chains);
    }

pub loop-at-preserved : goal.loop-at-preserved
loop-at-preserved c =
    let p = c.args.self.now in
    let s = is_sought c.args.sought in
    let b = c.bucket-bucket.result in
    let at = c.loop-at.at in
    let chain = c.loop-at.invariant.chain in
    let l : at - 1 < length p.earlier.items = omega (arith, chain.0, c.loop-at-test.true, p.places) in
    let is : c.index-at-in-loop-at.result.now ≡ get_or p.earlier.items (at - 1) 0 =
    c.index-at-in-loop-at.ensures ∙ get_or_default_zero p.earlier.items (at - 1) c.index-at-in-loop-at.result.now l in
    record {
      chain = subst (InChain b p.items.items) (sym is) (next_link p.items.items b at p.earlier.items p.places p.links c.loop-at-test.true chain);
      none = subst (λ at. NoneFrom s (bindings_in p) at c.args.end) (sym is)
          (none_from_link s p.items.items b at c.args.end p.earlier.items p.places c.bucket-bucket.ensures.bucket p.links c.loop-at-test.true chain c.in_default.ensures c.loop-at.invariant.none);
    }
