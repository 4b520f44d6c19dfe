use Rattle.std.proofs.Common.{◌≡◌, ◌∙◌, ◌==◌, length, string_bytes, ap}
use Rattle.jq_resolver.proofs.Walking.{unnamed_order}
use Rattle.jq_resolver.proofs.uses.is_unnamed.Goals as goal

pub returns-in-Whole-clause-order : goal.returns-in-Whole-clause-order
returns-in-Whole-clause-order c =
    let empty : c.is_empty.result ≡ (length (string_bytes c.in-Whole.name) == 0) = c.is_empty.ensures ∙ ap (λ bs. length bs == 0) c.as_str.ensures.value in
    rw c.in-Whole.is (λ n source body. unnamed_order c.in-Whole.name c.is_empty.result n source body empty)
