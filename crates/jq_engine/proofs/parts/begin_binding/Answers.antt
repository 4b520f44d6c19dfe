use Rattle.std.proofs.Common.{◌∙◌, ◌∷◌, sym, ap}
use Rattle.std.proofs.lemmas.Result.{IfOk-weaker}
use Rattle.jq_ast.specs.Named.{named, named_as_pattern}
use Rattle.jq_tree.specs.Tree.{bind_as}
use Rattle.jq_meaning.specs.machine.State.{body, source, state, evaluate, moves}
use Rattle.jq_state.specs.Inputs.{inputs_of}
use Rattle.jq_state.specs.Items.{item_of}
use Rattle.jq_state.specs.Links.{scope_in}
use Rattle.jq_state.specs.Views.{envs_in, frames_in, forks_in}
use Rattle.jq_engine.specs.private.Leading.{at_filter}
use Rattle.jq_engine.proofs.Waiting.{value_alone}
use Rattle.jq_engine.proofs.parts.begin_binding.Goals as goal

pub returns : goal.returns
returns c =
    let inputs = inputs_of c.args.inputs.now in
    let s = c.args.state.now in
    let p = scope_in (envs_in inputs s) c.args.scope in
    let t = named c.args.source.now in
    let x = item_of c.args.input in
    let q = named_as_pattern c.args.pattern.now in
    let f = named c.args.body.now in
    let same = value_alone c.args.input _ c.in_ok-value.ensures ∙ sym c.plain-value.ensures in
    let first = ap (λ z. moves (state (evaluate t p z) (source q (body f x) p ∷ frames_in inputs s) (forks_in inputs s))) same in
    IfOk-weaker c.run_part.result _ _ (λ r go. go (at_filter inputs s (bind_as t q f) c.args.scope x) (rw c.in_ok-new.ensures.ok first)) c.run_part.ensures
