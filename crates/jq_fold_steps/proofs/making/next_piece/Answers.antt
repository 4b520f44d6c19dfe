use Rattle.std.proofs.Common.{◌∙◌, Some, ap, subst}
use Rattle.jv_data.specs.View.{view}
use Rattle.jv_data.proofs.shared.Results.{if_ok_map}
use Rattle.jq_ast.specs.Named.{named}
use Rattle.jq_meaning.specs.Runs.{plain}
use Rattle.jq_folds.specs.Folding.{fold_in}
use Rattle.jq_folds.specs.Pieces.{going, with_state}
use Rattle.jq_fold_steps.specs.Bindings.{env_of}
use Rattle.jq_fold_steps.specs.Folded.{steps_at, fold_of}
use Rattle.jq_fold_steps.specs.private.Starting.{IsRunOf}
use Rattle.jq_fold_steps.proofs.Kept.{step-kept}
use Rattle.jq_fold_steps.proofs.making.next_piece.Goals as goal

pub returns-in-Some-clause-piece : goal.returns-in-Some-clause-piece
returns-in-Some-clause-piece c =
    let f = c.args.filter.now in
    let q = c.runner.result in
    let e = c.in-Some.engine in
    let run = subst (λ o. IsRunOf o (fold_in (named q.tree.now) (env_of q.bindings.now)) (λ x. with_state ((steps_at q.depth (Some x)).step (plain (view c.args.last)) (view c.args.input)))) c.in-Some.is c.in_ok-engine.ensures.run in
    let of_tree = subst (λ t. IsRunOf (Some e) (fold_in (named t) (env_of q.bindings.now)) (λ x. with_state ((steps_at q.depth (Some x)).step (plain (view c.args.last)) (view c.args.input)))) c.runner.ensures.tree run in
    let of_bindings = subst (λ b. IsRunOf (Some e) (fold_in (named f.tree.value) (env_of b)) (λ x. with_state ((steps_at q.depth (Some x)).step (plain (view c.args.last)) (view c.args.input)))) c.runner.ensures.bindings of_tree in
    let found = fold_in (named f.tree.value) (env_of f.bindings) in
    let here = subst (λ d. IsRunOf (Some e) found (λ x. with_state ((steps_at d (Some x)).step (plain (view c.args.last)) (view c.args.input)))) c.runner.ensures.depth of_bindings in
    let law = c.states_and_endings_of_pieces.ensures in
    if_ok_map c.collect_step.result c.collect_step.ensures (λ r k.
    (step-kept law.step law.next c.settings.result.style f.depth found e r.0 r.1 (view c.args.last) (view c.args.input) here k).0 ∙ ap (λ s. ((fold_of s.style f.depth found).step (going (plain (view c.args.last))) (view c.args.input)).0) c.settings.ensures)

pub returns-in-Some-clause-state : goal.returns-in-Some-clause-state
returns-in-Some-clause-state c =
    let f = c.args.filter.now in
    let q = c.runner.result in
    let e = c.in-Some.engine in
    let run = subst (λ o. IsRunOf o (fold_in (named q.tree.now) (env_of q.bindings.now)) (λ x. with_state ((steps_at q.depth (Some x)).step (plain (view c.args.last)) (view c.args.input)))) c.in-Some.is c.in_ok-engine.ensures.run in
    let of_tree = subst (λ t. IsRunOf (Some e) (fold_in (named t) (env_of q.bindings.now)) (λ x. with_state ((steps_at q.depth (Some x)).step (plain (view c.args.last)) (view c.args.input)))) c.runner.ensures.tree run in
    let of_bindings = subst (λ b. IsRunOf (Some e) (fold_in (named f.tree.value) (env_of b)) (λ x. with_state ((steps_at q.depth (Some x)).step (plain (view c.args.last)) (view c.args.input)))) c.runner.ensures.bindings of_tree in
    let found = fold_in (named f.tree.value) (env_of f.bindings) in
    let here = subst (λ d. IsRunOf (Some e) found (λ x. with_state ((steps_at d (Some x)).step (plain (view c.args.last)) (view c.args.input)))) c.runner.ensures.depth of_bindings in
    let law = c.states_and_endings_of_pieces.ensures in
    if_ok_map c.collect_step.result c.collect_step.ensures (λ r k.
    (step-kept law.step law.next c.settings.result.style f.depth found e r.0 r.1 (view c.args.last) (view c.args.input) here k).1)
