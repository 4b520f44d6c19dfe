use Rattle.jq_devices.specs.Watched.{device_of}
use Rattle.jv_data.proofs.shared.Results.{on_err_map, on_ok_map}
use Rattle.jq_script.specs.Serving.{point_of, progress}
use Rattle.jq_script.specs.private.Reading.{instruction_in}
use Rattle.jq_script.proofs.Turning.{line_answered, line_first}
use Rattle.jq_script.proofs.serving.serve_line.Goals as goal

pub returns-clause-ok : goal.returns-clause-ok
returns-clause-ok g c =
    let old = progress (g.W.Write.contents (device_of c.args.output.now)) (point_of c.args.host.now) in
    let new = progress (g.W.Write.contents (device_of c.write_reply.new.output)) (point_of c.carry_out-reply.new.host) in
    let done = c.carry_out-reply.ensures in
    on_ok_map c.write_reply.result c.write_reply.ensures.ok
    (λ w l has. line_answered l (instruction_in c.instruction.result) old new c.carry_out-reply.result (c.instruction.ensures l has) done.options done.reply w)

pub returns-clause-err : goal.returns-clause-err
returns-clause-err g c =
    let old = progress (g.W.Write.contents (device_of c.args.output.now)) (point_of c.args.host.now) in
    let new = progress (g.W.Write.contents (device_of c.write_reply.new.output)) (point_of c.carry_out-reply.new.host) in
    let done = c.carry_out-reply.ensures in
    on_err_map c.write_reply.result c.write_reply.ensures.err
    (λ w l has. line_first l (instruction_in c.instruction.result) old new c.carry_out-reply.result (c.instruction.ensures l has) done.options done.reply w)
