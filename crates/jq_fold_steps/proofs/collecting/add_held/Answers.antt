use Rattle.std.proofs.Common.{◌≡◌, ◌∙◌, [], ◌∷◌, ◌++◌, sym, ap, subst}
use Rattle.jv_data.specs.View.{view}
use Rattle.jq_meaning.specs.Runs.{Item, value_in}
use Rattle.jq_fold_steps.specs.private.Collecting.{piece_so_far, IsHeld}
use Rattle.jq_fold_steps.proofs.Outputs.{one-more}
use Rattle.jq_fold_steps.proofs.collecting.add_held.Goals as goal

pub returns-in_ok-add_output : goal.returns-in_ok-add_output
returns-in_ok-add_output c = λ done xs p h.
    let k : (x : Item) × (xs ≡ x ∷ []) × (value_in x ≡ view c.in-Some.value) = subst (λ o. IsHeld o done xs) c.in-Some.is h in
    one-more c.args.style done k.0 (view c.in-Some.value) c.args.piece.now c.add_output.new.piece k.2 p c.in_ok-add_output.ensures
    ∙ ap (λ ys. piece_so_far c.args.style (done ++ ys)) (sym k.1)
