use Rattle.std.proofs.Common.{◌≡◌, ℕ, ◌+◌, ◌<◌, ◌∙◌, List, length, take, drop, get_or, ap, subst, sym, arith, take-append-drop}
use Rattle.std.proofs.lemmas.List.{take_rest, get_or-drop}
use Rattle.std.proofs.Math.Seq.{take-add}
use Rattle.jq_pages.specs.private.Reruns.{count_in}
use Rattle.jq_pages.proofs.Reruns.{count_append}
use Rattle.jq_pages.proofs.grouping.find_from.Goals as goal

later : (a n d left : ℕ) → n ≡ a + d → a + left < n → left < d
later a n d left e l = omega arith

pub find_in-j-requires : goal.find_in-j-requires
find_in-j-requires g c =
    let ps = c.args.pages.now in
    subst (λ (z : List _). c.args.left < count_in z) (sym (take_rest ps c.args.from))
    (later (count_in (take c.args.from ps)) (count_in ps) _ _ (ap count_in (sym (take-append-drop c.args.from ps)) ∙ count_append (take c.args.from ps) (drop c.args.from ps)) c.requires.place)

joined : (a b n m left : ℕ) → n ≡ a + b → b + m ≡ left → n + m ≡ a + left
joined a b n m left e f = omega arith

pub returns-clause-place : goal.returns-clause-place
returns-clause-place g c =
    let ps = c.args.pages.now in
    let j = c.find_in-j.result.0 in
    joined (count_in (take c.args.from ps)) (count_in (take j (drop c.args.from ps))) _ c.find_in-j.result.1 c.args.left
    (ap count_in (take-add c.args.from j ps) ∙ count_append (take c.args.from ps) (take j (drop c.args.from ps)))
    (ap (λ z. count_in (take j z) + c.find_in-j.result.1) (sym (take_rest ps c.args.from)) ∙ c.find_in-j.ensures.place)

pub returns-clause-within : goal.returns-clause-within
returns-clause-within g c d =
    let ps = c.args.pages.now in
    let j = c.find_in-j.result.0 in
    subst (λ z. c.find_in-j.result.1 < length z.inputs.items) (ap (λ z. get_or z j d) (take_rest ps c.args.from) ∙ get_or-drop c.args.from ps j d) (c.find_in-j.ensures.within d)
