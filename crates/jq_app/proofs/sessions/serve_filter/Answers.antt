use Rattle.jq_devices.specs.Watched.{device_of, failures_of}
use Rattle.jv_data.proofs.shared.Results.{if_err_map, if_ok_map}
use Rattle.jq_app.specs.Blaming.{failures}
use Rattle.jq_app.specs.Stages.{stage_of}
use Rattle.jq_app.proofs.Blaming.{read_by_files, same_files}
use Rattle.jq_app.proofs.Live.{stopped_before}
use Rattle.jq_app.proofs.sessions.serve_filter.Goals as goal

pub returns-in-Ok-clause-done : goal.returns-in-Ok-clause-done
returns-in-Ok-clause-done g c =
    if_ok_map c.serve_texts.result.0 c.serve_texts.ensures.done (λ answer done o text h chose. done (g.I.Read.remaining (device_of c.args.files.now)) o text c.in-Ok.ensures.texts h chose)

pub returns-in-Ok-clause-stopped : goal.returns-in-Ok-clause-stopped
returns-in-Ok-clause-stopped g c =
    if_err_map c.serve_texts.result.0 c.serve_texts.ensures.stopped (λ f stopped o text h chose. stopped (g.I.Read.remaining (device_of c.args.files.now)) o text c.in-Ok.ensures.texts h chose)

pub returns-in-Ok-clause-blamed : goal.returns-in-Ok-clause-blamed
returns-in-Ok-clause-blamed g c = same_files c.serve_texts.result.0 _ _ _ _ _ _ _ _ c.in-Ok.ensures.unfailed c.serve_texts.ensures.blamed

pub returns-in-Err-clause-stopped : goal.returns-in-Err-clause-stopped
returns-in-Err-clause-stopped g c = λ o text h chose.
    stopped_before c.in-Err.fault (g.I.Read.remaining (device_of c.args.files.now)) c.args.follow o text
    (stage_of c.args.streams.now c.args.counts) c.in-Err.ensures.fault

pub returns-in-Err-clause-blamed : goal.returns-in-Err-clause-blamed
returns-in-Err-clause-blamed g c =
    let old = failures (failures_of c.args.files.now) c.args.streams.now in
    let new = failures (failures_of c.read_texts.new.input) c.args.streams.now in
    read_by_files c.in-Err.fault old new c.in-Err.ensures.fault c.in-Err.ensures.failed
