use Rattle.std.proofs.Common.{◌≡◌, ◌∙◌, ◌+◌, ◌∷◌, ap, ap₂, drop, map, rules, string_bytes, sym}
use Rattle.std.proofs.lemmas.List.{drop_more}
use Rattle.jv_data.proofs.containers.sharing.are_same.Goals as goal

pub loop-text-preserved : goal.loop-text-preserved
loop-text-preserved c =
    let left = c.args.left.now in
    let x = c.text-item.result in
    let rest = drop (c.loop-text.text-index + 1) left in
    let next : drop c.loop-text.text-index left ≡ x ∷ rest = drop_more left c.loop-text.text-index x (search rules) ∙ ap (λ y. y ∷ rest) (sym c.text-item.is) in
    let same : string_bytes x ≡ string_bytes c.in-Some.other.now = search rules in
    λ h. c.loop-text.invariant (ap (map string_bytes) next ∙ ap₂ (λ b bs. b ∷ bs) same h ∙ sym (ap (map string_bytes) c.in-Some.ensures.steps))
