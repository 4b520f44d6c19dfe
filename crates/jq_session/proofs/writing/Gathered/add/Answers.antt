use Rattle.std.proofs.Common.{◌≡◌, ◌∙◌, [], subst}
use Rattle.std.specs.Io.KnownBytes.{Appends}
use Rattle.jq_devices.specs.Watched.{device_of}
use Rattle.jq_devices.specs.Writing.{AppendsFirst}
use Rattle.jq_devices.proofs.shared.Writing.{first_after, first_longer}
use Rattle.jv_data.proofs.shared.Results.{on_err, on_err_map, on_ok_map}
use Rattle.jq_session.proofs.Passing.{passed_on}
use Rattle.jq_session.proofs.writing.Gathered.add.Goals as goal

pub returns-in_err-write-clause-err : goal.returns-in_err-write-clause-err
returns-in_err-write-clause-err g c =
    let r = g.W.Write.contents (device_of c.args.writer.now) in
    let s = g.W.Write.contents (device_of c.write.new.writer) in
    let kept : c.deref.result.now ≡ c.args.self.now.bytes.items = c.deref.ensures.0 ∙ c.keep.ensures.full c.if-keep.false in
    on_err c.from_residual.result (first_longer r s c.args.self.now.bytes.items c.args.bytes.now (subst (AppendsFirst r s) kept c.in_err-write.ensures.err))

pub returns-clause-ok : goal.returns-clause-ok
returns-clause-ok g c =
    let r = g.W.Write.contents (device_of c.args.writer.now) in
    let s = g.W.Write.contents (device_of c.write.new.writer) in
    let t = g.W.Write.contents (device_of c.write-2.new.writer) in
    let kept : c.deref.result.now ≡ c.args.self.now.bytes.items = c.deref.ensures.0 ∙ c.keep.ensures.full c.if-keep.false in
    let none : c.keep-2.new.self.bytes.items ≡ [] = c.keep-2.ensures.full c.if-keep-2.false ∙ c.clear.ensures in
    let first : Appends r s c.args.self.now.bytes.items = subst (Appends r s) kept c.in_ok-write.ensures.ok in
    on_ok_map c.write-2.result c.write-2.ensures.ok (λ w. passed_on c.args.self.now.bytes.items c.keep-2.new.self.bytes.items c.args.bytes.now r s t first none w)

pub returns-clause-err : goal.returns-clause-err
returns-clause-err g c =
    let r = g.W.Write.contents (device_of c.args.writer.now) in
    let s = g.W.Write.contents (device_of c.write.new.writer) in
    let t = g.W.Write.contents (device_of c.write-2.new.writer) in
    let kept : c.deref.result.now ≡ c.args.self.now.bytes.items = c.deref.ensures.0 ∙ c.keep.ensures.full c.if-keep.false in
    let first : Appends r s c.args.self.now.bytes.items = subst (Appends r s) kept c.in_ok-write.ensures.ok in
    on_err_map c.write-2.result c.write-2.ensures.err (λ w. first_after r s t c.args.self.now.bytes.items c.args.bytes.now first w)
