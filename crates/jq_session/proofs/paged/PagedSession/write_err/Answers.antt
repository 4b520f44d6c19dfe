use Rattle.std.proofs.Common.{◌∙◌, subst}
use Rattle.std.specs.Io.KnownBytes.{Appends}
use Rattle.jq_devices.specs.Watched.{device_of}
use Rattle.jq_devices.specs.Writing.{AppendsFirst}
use Rattle.jq_pages.specs.Contents.{folded_of}
use Rattle.jq_pages.specs.Folds.{all}
use Rattle.jv_data.proofs.shared.Results.{err_mapped, ok_mapped}
use Rattle.jq_session.proofs.OnPages.{errors_paged}
use Rattle.jq_session.proofs.Passing.{errors_are}
use Rattle.jq_session.proofs.paged.PagedSession.write_err.Goals as goal

pub returns-clause-ok : goal.returns-clause-ok
returns-clause-ok g c =
    let x = folded_of c.args.self.now.pages in
    let r = g.W.Write.contents (device_of c.args.writer.now) in
    let s = g.W.Write.contents (device_of c.write_pieces.new.writer) in
    ok_mapped c.write_pieces.result c.map_err.result c.map_err.ensures.variant c.write_pieces.ensures.ok
    (subst (Appends r s) (errors_are (all x) ∙ errors_paged c.args.self.now.filter.value x c.args.self.now.serves))

pub returns-clause-err : goal.returns-clause-err
returns-clause-err g c =
    let x = folded_of c.args.self.now.pages in
    let r = g.W.Write.contents (device_of c.args.writer.now) in
    let s = g.W.Write.contents (device_of c.write_pieces.new.writer) in
    err_mapped c.write_pieces.result c.map_err.result c.map_err.ensures.variant c.write_pieces.ensures.err
    (subst (AppendsFirst r s) (errors_are (all x) ∙ errors_paged c.args.self.now.filter.value x c.args.self.now.serves))
