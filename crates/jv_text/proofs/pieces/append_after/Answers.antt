use Rattle.std.proofs.Common.{◌≡◌, ◌∙◌, ◌++◌, ap, drop}
use Rattle.std.proofs.lemmas.List.{take_rest}
use Rattle.jv_text.proofs.Resumed.{on_ok_if}
use Rattle.jv_text.proofs.pieces.append_after.Goals as goal

pub returns-in-Some-clause-ok : goal.returns-in-Some-clause-ok
returns-in-Some-clause-ok c =
    let text = c.args.text.now in
    let found = c.in-Some.ensures.lookup in
    let part : c.in-Some.piece.now ≡ drop c.args.skipped text = found.0.2 ∙ take_rest text c.args.skipped in
    on_ok_if c.extend_from_slice.result _ _ _ c.extend_from_slice.ensures.items (λ e. (found.0.0, e ∙ ap (λ p. c.args.out.now.items ++ p) part))
