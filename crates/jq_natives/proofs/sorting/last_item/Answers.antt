use Rattle.std.proofs.Common.{◌≡◌, ◌∙◌, ◌++◌, ◌∷◌, [], ap, sym, rules, map}
use Rattle.std.proofs.lemmas.List.{map-append}
use Rattle.jq_natives.specs.private.SortedItems.{pair_of}
use Rattle.jq_natives.specs.Sorting.{last_of_group}
use Rattle.jq_natives.proofs.Arranged.{last_of_more}
use Rattle.jq_natives.proofs.sorting.last_item.Goals as goal

pub returns-in-Some : goal.returns-in-Some
returns-in-Some c =
    let before = c.pop.new.self.items in
    let last = c.in-Some.last in
    let all : c.args.keyed.items ≡ before ++ last ∷ [] = search rules in
    sym (ap (λ ps. last_of_group (map pair_of ps)) all ∙ ap last_of_group (map-append pair_of before (last ∷ [])) ∙ last_of_more (map pair_of before) (pair_of last))
