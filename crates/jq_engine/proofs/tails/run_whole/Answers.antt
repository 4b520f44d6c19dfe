use Rattle.jv_data.specs.View.{view}
use Rattle.jq_ast.specs.Named.{named}
use Rattle.jq_meaning.specs.Runs.{plain}
use Rattle.jq_meaning.specs.machine.State.{state, go_back}
use Rattle.jq_state.specs.Inputs.{inputs_of}
use Rattle.jq_state.specs.Views.{frames_in, forks_in}
use Rattle.jq_engine.specs.private.Leading.{at_filter}
use Rattle.jq_engine.proofs.Leading.{leads_later}
use Rattle.jq_engine.proofs.tails.run_whole.Goals as goal

pub returns-in-None : goal.returns-in-None
returns-in-None c =
    let inputs = inputs_of c.args.inputs.now in
    let before = at_filter inputs c.args.state.now (named c.args.tree.now) c.args.scope (plain (view c.args.value)) in
    let later = state go_back (frames_in inputs c.run_at_once.new.state) (forks_in inputs c.run_at_once.new.state) in
    leads_later inputs before later c.go_back.new.state c.go_back.result (rw c.in-None.is at c.in_ok-progress.ensures) c.go_back.ensures
