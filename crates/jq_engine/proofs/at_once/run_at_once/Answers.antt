use Rattle.std.proofs.Common.{◌≡◌, ◌∙◌, sym, ap, subst}
use Rattle.jv_data.specs.View.{view}
use Rattle.jq_ast.specs.Named.{named}
use Rattle.jq_meaning.specs.Meaning.{meaning}
use Rattle.jq_meaning.specs.Runs.{Item, plain, Done, Raised, one, ended}
use Rattle.jq_meaning.specs.machine.State.{state, give}
use Rattle.jq_state.specs.Environments.{envs_of}
use Rattle.jq_state.specs.Inputs.{inputs_of}
use Rattle.jq_state.specs.Items.{item_of}
use Rattle.jq_state.specs.Links.{scope_in}
use Rattle.jq_state.specs.Nodes.{env_at}
use Rattle.jq_state.specs.Views.{envs_in, frames_in, forks_in}
use Rattle.jq_state.specs.declared.environments.Nodes.{Nodes}
use Rattle.jq_engine.specs.private.Leading.{Leads, at_filter, gives, ends, here, by_run}
use Rattle.jq_engine.proofs.Leading.{later_leads, leads_end}
use Rattle.jq_engine.proofs.at_once.run_at_once.Goals as goal

pub returns-in-Ok : goal.returns-in-Ok
returns-in-Ok c =
    let inputs = inputs_of c.args.inputs.now in
    let s = c.args.state.now in
    let q = c.args.scope in
    let t = named c.args.tree.now in
    let x = plain (view c.args.value) in
    let y = item_of c.plain.result in
    let m : meaning q.depth t (env_at (envs_in inputs s) q.env) q.level x ≡ one y =
    subst (λ (ns : Nodes). meaning q.depth t (env_at (envs_of inputs ns) q.env) q.level x ≡ one (plain (view c.change.new.value))) c.nodes.ensures (c.in-Ok.ensures.runs inputs q.level)
    ∙ ap one (sym c.plain.ensures) in
    later_leads inputs (at_filter inputs s t q x) (state (give y) (frames_in inputs s) (forks_in inputs s)) c.give.new.state c.in_ok-progress-in-Ok.progress (by_run (gives y m) here)
    (c.in_ok-progress-in-Ok.ensures inputs)

pub returns-in-Err-Raised : goal.returns-in-Err-Raised
returns-in-Err-Raised c =
    let inputs = inputs_of c.args.inputs.now in
    let s = c.args.state.now in
    let q = c.args.scope in
    let t = named c.args.tree.now in
    let x = plain (view c.args.value) in
    let v = view c.in-Err-Raised.error in
    let m : meaning q.depth t (env_at (envs_in inputs s) q.env) q.level x ≡ ended (Raised v) =
    subst (λ (ns : Nodes). meaning q.depth t (env_at (envs_of inputs ns) q.env) q.level x ≡ ended (Raised v)) c.nodes.ensures ((rw c.in-Err-Raised.field-0-is at c.in-Err-Raised.ensures.runs) inputs q.level) in
    leads_end inputs t (scope_in (envs_in inputs s) q) x (frames_in inputs s) (forks_in inputs s) c.raise.new.state c.in_ok-progress-in-Err-Raised.progress (Raised v) m (c.in_ok-progress-in-Err-Raised.ensures inputs)

pub returns-in-Err-Nothing : goal.returns-in-Err-Nothing
returns-in-Err-Nothing c =
    let inputs = inputs_of c.args.inputs.now in
    let s = c.args.state.now in
    let q = c.args.scope in
    let t = named c.args.tree.now in
    let x = plain (view c.args.value) in
    let m : meaning q.depth t (env_at (envs_in inputs s) q.env) q.level x ≡ ended Done =
    subst (λ (ns : Nodes). meaning q.depth t (env_at (envs_of inputs ns) q.env) q.level x ≡ ended Done) c.nodes.ensures ((rw c.in-Err-Nothing.field-0-is at c.in-Err-Nothing.ensures.runs) inputs q.level) in
    by_run (ends Done m) here

pub returns : goal.returns
returns c =
    let inputs = inputs_of c.args.inputs.now in
    let s = c.args.state.now in
    let same : item_of c.plain-in-Err-Unknown.result ≡ plain (view c.args.value) = c.plain-in-Err-Unknown.ensures ∙ ap plain (rw c.in-Err-Unknown.field-0-is at c.in-Err-Unknown.ensures.keeps) in
    subst (λ (x : Item). Leads inputs (at_filter inputs s (named c.args.tree.now) c.args.scope x) c.begin.new.state c.in_ok-progress-in-Err-Unknown.progress) same c.in_ok-progress-in-Err-Unknown.ensures
