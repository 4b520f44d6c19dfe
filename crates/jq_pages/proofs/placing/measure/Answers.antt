use Rattle.std.proofs.Common.{◌≡◌, ◌+◌, ◌-◌, ◌≤◌, take, drop, arith, ap, ◌∙◌}
use Rattle.std.proofs.Math.Seq.{take-add}
use Rattle.jq_pages.specs.private.Reruns.{count_in}
use Rattle.jq_pages.proofs.Reruns.{count_part, count_append}
use Rattle.jq_pages.proofs.placing.measure.Goals as goal

pub count_inputs-requires : goal.count_inputs-requires
count_inputs-requires g c =
    let ps = c.args.pages.now in
    let j = c.args.j in
    let w : c.args.k ≡ j + (c.args.k - j) = omega arith in
    let e : count_in (take c.args.k ps) ≡ count_in (take j ps) + count_in (take (c.args.k - j) (drop j ps)) = ap (λ z. count_in (take z ps)) w ∙ ap count_in (take-add j (c.args.k - j) ps) ∙ count_append (take j ps) (take (c.args.k - j) (drop j ps)) in
    let k : count_in (take c.args.k ps) ≤ count_in ps = count_part ps c.args.k in
    omega (arith, k, e, c.requires.few)

pub returns : goal.returns
returns g c =
    let ps = c.args.pages.now in
    let j = c.args.j in
    let w : c.args.k ≡ j + (c.args.k - j) = omega arith in
    let e : count_in (take c.args.k ps) ≡ count_in (take j ps) + count_in (take (c.args.k - j) (drop j ps)) = ap (λ z. count_in (take z ps)) w ∙ ap count_in (take-add j (c.args.k - j) ps) ∙ count_append (take j ps) (take (c.args.k - j) (drop j ps)) in
    omega (arith, e, c.count_inputs.ensures)
