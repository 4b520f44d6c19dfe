use Rattle.jq_state.specs.Listed.{items_in}
use Rattle.jq_filters.specs.Runner.{job_of}
use Rattle.jq_run.proofs.OfTexts.{has_run, has_stopped, needs_none, runs}
use Rattle.jq_run.proofs.running.run_compiled.Goals as goal

pub returns-clause-ran : goal.returns-clause-ran
returns-clause-ran g c =
    let p = c.args.filter.now in
    let s = c.settings-settings.result in
    let r = c.runner-runner.result in
    let old = c.args.streams.now.bytes in
    let new = c.run_stream.new.streams.bytes in
    let is = runs p s r.depth r.tree.now r.bindings.now c.settings-settings.ensures c.runner-runner.ensures.depth c.runner-runner.ensures.tree c.runner-runner.ensures.bindings in
    has_run c.run_stream.result p s.mode (job_of s r) old new is c.run_stream.ensures.ran c.run_stream.ensures.one_pass

pub returns-clause-stopped : goal.returns-clause-stopped
returns-clause-stopped g c =
    let p = c.args.filter.now in
    let s = c.settings-settings.result in
    let r = c.runner-runner.result in
    let old = c.args.streams.now.bytes in
    let new = c.run_stream.new.streams.bytes in
    let is = runs p s r.depth r.tree.now r.bindings.now c.settings-settings.ensures c.runner-runner.ensures.depth c.runner-runner.ensures.tree c.runner-runner.ensures.bindings in
    has_stopped c.run_stream.result p s.mode (job_of s r) old new is c.run_stream.ensures.stopped c.run_stream.ensures.one_pass

pub returns-clause-unread : goal.returns-clause-unread
returns-clause-unread g c = λ o text h none.
    let p = c.args.filter.now in
    let s = c.settings-settings.result in
    let r = c.runner-runner.result in
    let is = runs p s r.depth r.tree.now r.bindings.now c.settings-settings.ensures c.runner-runner.ensures.depth c.runner-runner.ensures.tree c.runner-runner.ensures.bindings in
    c.run_stream.ensures.unread (needs_none p s.mode (job_of s r) o text is h none)
