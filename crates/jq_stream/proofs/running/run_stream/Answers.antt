use Rattle.std.proofs.Common.{◌≡◌, ◌∙◌, rules, false, ap}
use Rattle.std.proofs.lemmas.Result.{IfOk-weaker}
use Rattle.jq_state.specs.Inputs.{inputs_of}
use Rattle.jv_data.proofs.shared.Results.{if_err_map, if_other}
use Rattle.jq_filters.specs.Outcomes.{on_null}
use Rattle.jq_filters.specs.Runner.{job_of, mode_of}
use Rattle.jq_stream.proofs.Blaming.{write_failed}
use Rattle.jq_stream.proofs.Going.{stopped_by}
use Rattle.jq_stream.proofs.Once.{null_unread, null_unread_stopped}
use Rattle.jq_stream.proofs.Opened.{streams_by}
use Rattle.jq_stream.proofs.running.run_stream.Goals as goal

pub returns-in-OnNull-false-clause-ran : goal.returns-in-OnNull-false-clause-ran
returns-in-OnNull-false-clause-ran g c =
    let old = streams_by g.R.Read.remaining c.streams.inside.input c.streams.inside.outputs.bytes in
    let new = streams_by g.R.Read.remaining c.streams.inside.input c.run_with.new.outputs.bytes in
    let reads : c.in-OnNull-false.reads ≡ false = search rules in
    let mode : mode_of c.args.settings.mode ≡ on_null false = ap mode_of c.in-OnNull-false.is ∙ ap on_null reads in
    rw (← c.streams.view_is) (IfOk-weaker c.run_with.result _ _
    (λ status ran. null_unread c.args.settings c.args.runner.now (inputs_of c.no_inputs-inputs.result) (mode_of c.args.settings.mode) old new status mode c.no_inputs-inputs.ensures ran)
    c.run_with.ensures.ok)

pub returns-in-OnNull-false-clause-stopped : goal.returns-in-OnNull-false-clause-stopped
returns-in-OnNull-false-clause-stopped g c =
    let old = streams_by g.R.Read.remaining c.streams.inside.input c.streams.inside.outputs.bytes in
    let new = streams_by g.R.Read.remaining c.streams.inside.input c.run_with.new.outputs.bytes in
    let reads : c.in-OnNull-false.reads ≡ false = search rules in
    let mode : mode_of c.args.settings.mode ≡ on_null false = ap mode_of c.in-OnNull-false.is ∙ ap on_null reads in
    rw (← c.streams.view_is)
    (stopped_by c.run_with.result (mode_of c.args.settings.mode) (job_of c.args.settings c.args.runner.now) old new c.run_with.ensures.fault c.run_with.ensures.err
    (null_unread_stopped c.args.settings c.args.runner.now (inputs_of c.no_inputs-inputs.result) (mode_of c.args.settings.mode) old new mode c.no_inputs-inputs.ensures))

pub returns-in-OnNull-false-clause-read_failed : goal.returns-in-OnNull-false-clause-read_failed
returns-in-OnNull-false-clause-read_failed g c = if_other c.run_with.result _ _ c.run_with.ensures.fault

pub returns-in-OnNull-false-clause-write_failed : goal.returns-in-OnNull-false-clause-write_failed
returns-in-OnNull-false-clause-write_failed g c =
    rw (← c.streams.view_is) (if_err_map c.run_with.result c.run_with.ensures.blamed (λ f blamed. write_failed f _ _ blamed))
