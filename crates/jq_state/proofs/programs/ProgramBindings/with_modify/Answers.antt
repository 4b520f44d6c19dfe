use Rattle.std.proofs.Common.{◌≡◌, ◌∙◌, ◌+◌, ◌<◌, ◌++◌, ◌∷◌, [], get_or, set, length, length-append, map, ap, sym, subst, arith}
use Rattle.std.proofs.lemmas.Grind.{get_or_default_zero}
use Rattle.std.proofs.lemmas.List.{get_or-map, length-set}
use Rattle.jq_state.specs.Buckets.{bucket_of}
use Rattle.jq_state.specs.Chained.{Latest, Earlier}
use Rattle.jq_state.proofs.Chaining.{more_chains, more_links}
use Rattle.jq_state.proofs.programs.ProgramBindings.with_modify.Goals as goal

pub loop-item-preserved : goal.loop-item-preserved
loop-item-preserved c =
    let items = c.as_slice-item-items.result.now in
    let bs = map bucket_of items in
    let k = c.loop-item.item-index in
    let b = c.bucket_of-bucket.result in
    let latest = c.loop-item.latest.items in
    let earlier = c.loop-item.earlier.items in
    let i = c.loop-item.invariant in
    let within : b < 128 = c.bucket_of-bucket.ensures.within in
    let l : b < length latest = omega (arith, within, i.buckets) in
    let own : get_or bs k 0 ≡ b =
    get_or-map bucket_of items k c.item-item.result 0 c.loop-item-test.true ∙ ap bucket_of (sym c.item-item.is) ∙ sym c.bucket_of-bucket.ensures.value in
    let x : c.index.result.now ≡ get_or latest b 0 = c.index.ensures ∙ get_or_default_zero latest b c.index.result.now l in
    let pushed : c.push.new.self.items ≡ earlier ++ get_or latest b 0 ∷ [] = c.in_ok-push.ensures.items ∙ ap (λ z. earlier ++ z ∷ []) x in
    let count : length c.push.new.self.items ≡ length earlier + 1 = ap length pushed ∙ length-append earlier (get_or latest b 0 ∷ []) in
    let places : length c.push.new.self.items ≡ k + 1 = omega (arith, count, i.places) in
    let next : c.len-in-loop-item.result ≡ k + 1 = c.len-in-loop-item.ensures ∙ c.push.new.self.ok.0 ∙ places in
    record {
      buckets = length-set latest b c.len-in-loop-item.result ∙ i.buckets;
      places = places;
      chains = subst (λ z. Latest bs (k + 1) (set latest b z)) (sym next) (more_chains bs k b latest l own i.chains);
      links = subst (Earlier bs) (sym pushed) (more_links bs k b latest earlier within i.places own i.chains i.links);
    }

pub invariant_of-result-clause-known : goal.invariant_of-result-clause-known
invariant_of-result-clause-known c = ∣ c.requires ∣₁

pub invariant_of-result-clause-chains : goal.invariant_of-result-clause-chains
invariant_of-result-clause-chains c =
    let items = c.as_slice-item-items.result.now in
    let latest = c.loop-item.latest.items in
    let end : c.loop-item.item-index ≡ length items = first_of (omega arith, omega (arith, c.loop-item-test.false, c.loop-item.auto.item-index-end)) in
    subst (λ xs. Latest (map bucket_of xs) (length xs) latest) c.as_slice-item-items.ensures.value
    (subst (λ n. Latest (map bucket_of items) n latest) end c.loop-item.invariant.chains)

pub invariant_of-result-clause-links : goal.invariant_of-result-clause-links
invariant_of-result-clause-links c =
    subst (λ xs. Earlier (map bucket_of xs) c.loop-item.earlier.items) c.as_slice-item-items.ensures.value c.loop-item.invariant.links
