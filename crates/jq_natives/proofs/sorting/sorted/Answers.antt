use Rattle.std.proofs.Common.{◌≡◌, ◌∙◌, ap, sym, rules, map, Ok}
use Rattle.jv_data.specs.View.{view}
use Rattle.jq_natives.specs.private.SortedItems.{pair_of}
use Rattle.jq_natives.specs.Sorting.{below_key, sorted}
use Rattle.jq_natives.proofs.Arranged.{map_sorted}
use Rattle.jq_natives.proofs.ClosureSorts.{sorted_by_closure}
use Rattle.jq_natives.proofs.KeysInArrays.{sorted_ignores}
use Rattle.jq_natives.proofs.sorting.sorted.Goals as goal

pub returns : goal.returns
returns c = λ f ignores.
    let old = c.in_ok-items.items.items in
    let new = c.sort_by.new.self.items in
    let same = sorted_by_closure (λ p. view p.key) old new c.in_ok-sort_by.ensures.sorted c.in_ok-sort_by.ensures.stable (λ a r q k. search rules) in
    let all : map pair_of new ≡ sorted (map pair_of old) = ap (map pair_of) same ∙ map_sorted pair_of below_key old in
    c.in_ok-items.ensures (λ ps. f (sorted ps)) (sorted_ignores f ignores) ∙ ap (λ ps. Ok (f ps)) (sym all)
