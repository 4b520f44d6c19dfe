use Rattle.std.proofs.Common.{◌≡◌, ◌∙◌, ◌-◌, ◌<◌, get_or, length, sym, subst, arith, MatchOption}
use Rattle.std.proofs.lemmas.Grind.{get_or_default_zero}
use Rattle.jq_state.specs.Listed.{bindings_in, is_sought, NoneFrom}
use Rattle.jq_state.specs.Nodes.{program_binding}
use Rattle.jq_state.proofs.Chaining.{InChain, IsFirstFrom, first_link, none_after_chain, next_link, here_first, still_found}
use Rattle.jq_state.proofs.programs.ProgramBindings.first.Goals as goal
use Rattle.jq_state.proofs.programs.ProgramBindings.first.Goals.{in-Some, in_default}

pub loop-at-init : goal.loop-at-init
loop-at-init c =
    let p = c.args.self.now in
    let s = is_sought c.args.sought in
    let b = c.bucket-bucket.result in
    let l : b < length p.latest.items = omega (arith, c.bucket-bucket.ensures.within, p.buckets) in
    let is : c.index-at.result.now ≡ get_or p.latest.items b 0 = c.index-at.ensures ∙ get_or_default_zero p.latest.items b c.index-at.result.now l in
    record {
      chain = subst (InChain b p.items.items) (sym is) (first_link p.items.items b p.latest.items c.bucket-bucket.ensures.within p.chains);
      found = subst (λ at. NoneFrom s (bindings_in p) at c.args.end) (sym is)
          (none_after_chain s p.items.items b p.latest.items c.args.end c.bucket-bucket.ensures.within c.bucket-bucket.ensures.bucket p.chains);
    }

pub loop-at-preserved : goal.loop-at-preserved
loop-at-preserved c =
    let p = c.args.self.now in
    let s = is_sought c.args.sought in
    let b = c.bucket-bucket.result in
    let at = c.loop-at.at in
    let end = c.args.end in
    let chain = c.loop-at.invariant.chain in
    let law = c.bucket-bucket.ensures.bucket in
    let l : at - 1 < length p.earlier.items = omega (arith, chain.0, c.loop-at-test.true, p.places) in
    let is : c.index-at-in-loop-at.result.now ≡ get_or p.earlier.items (at - 1) 0 =
    c.index-at-in-loop-at.ensures ∙ get_or_default_zero p.earlier.items (at - 1) c.index-at-in-loop-at.result.now l in
    record {
      chain = subst (InChain b p.items.items) (sym is) (next_link p.items.items b at p.earlier.items p.places p.links c.loop-at-test.true chain);
      found = subst (λ e. MatchOption c.match-found_at.first (NoneFrom s (bindings_in p) e end) (λ r. IsFirstFrom s (bindings_in p) e end r.0 (program_binding r.1.now))) (sym is)
          (elim c.match-found_at.branch [
            | in-Some w ↦
                subst (λ o. MatchOption o (NoneFrom s (bindings_in p) (get_or p.earlier.items (at - 1) 0) end) (λ r. IsFirstFrom s (bindings_in p) (get_or p.earlier.items (at - 1) 0) end r.0 (program_binding r.1.now)))
                (sym w.first-is)
                (here_first s p.items.items b at end p.earlier.items (program_binding w.in-Some.binding.now) p.places law p.links c.loop-at-test.true chain w.in-Some.ensures)
            | in_default w ↦
                subst (λ o. MatchOption o (NoneFrom s (bindings_in p) (get_or p.earlier.items (at - 1) 0) end) (λ r. IsFirstFrom s (bindings_in p) (get_or p.earlier.items (at - 1) 0) end r.0 (program_binding r.1.now)))
                (sym w.first-is)
                (still_found (λ r. r.0) (λ r. program_binding r.1.now) s p.items.items b at end p.earlier.items c.loop-at.first p.places law p.links c.loop-at-test.true chain w.in_default.ensures c.loop-at.invariant.found)
          ]);
    }
