use Rattle.std.proofs.Common.{◌≡◌, ◌∙◌, ◌+◌, ◌-◌, ◌++◌, ◌∷◌, [], ap, refl, sym, rules, map, append_assoc}
use Rattle.std.specs.List.{range_with_len}
use Rattle.std.proofs.lemmas.List.{map-append}
use Rattle.std.proofs.lemmas.List.FromFn.{map-range_with_len_more}
use Rattle.jv_value.specs.Locations.{at}
use Rattle.jv_value.specs.private.Locations.{location_in, locations_in}
use Rattle.jv_value.proofs.finding.push_items.Goals as goal

pub loop-offset-preserved : goal.loop-offset-preserved
loop-offset-preserved c =
    let a = c.args.from in
    let n = c.loop-offset.offset in
    let old = c.loop-offset.all.items in
    let location = c.in_ok-lengthened.field-0 in
    let pushed : c.push.new.self.items ≡ old ++ location ∷ [] = search rules in
    let seen : location_in location ≡ at (a + n) ∷ [] = search rules in
    ap locations_in pushed ∙ map-append location_in old (location ∷ []) ∙ ap (λ q. locations_in old ++ q ∷ []) seen ∙ ap (λ qs. qs ++ (at (a + n) ∷ []) ∷ []) c.loop-offset.invariant
    ∙ append_assoc (locations_in c.args.all.now.items) (map (λ k. at k ∷ []) (range_with_len a n)) ((at (a + n) ∷ []) ∷ [])
    ∙ ap (λ qs. locations_in c.args.all.now.items ++ qs) (sym (map-range_with_len_more (λ k. at k ∷ []) a n (a + n) refl))

pub returns : goal.returns
returns c =
    let same : c.loop-offset.offset ≡ c.args.to - c.args.from = search rules in
    c.loop-offset.invariant ∙ ap (λ n. locations_in c.args.all.now.items ++ map (λ k. at k ∷ []) (range_with_len c.args.from n)) same
