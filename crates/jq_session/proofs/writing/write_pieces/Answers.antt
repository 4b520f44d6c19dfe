use Rattle.std.proofs.Common.{◌∙◌, ◌++◌, [], ◌∷◌, take, map, subst, ap}
use Rattle.std.specs.Io.KnownBytes.{Appends}
use Rattle.std.specs.List.{flat_map}
use Rattle.jq_devices.specs.Watched.{device_of}
use Rattle.jq_devices.specs.Writing.{AppendsFirst}
use Rattle.jq_pages.specs.Contents.{folded_of, paged_in}
use Rattle.jq_pages.specs.Folds.{head, pieces, tail}
use Rattle.jq_pages.specs.Pieces.{piece_view}
use Rattle.jv_data.proofs.shared.Results.{on_err, on_err_map, on_ok_map}
use Rattle.jq_session.specs.private.Parts.{part_in}
use Rattle.jq_session.specs.private.Writing.{IsPassed}
use Rattle.jq_session.proofs.Passing.{all_are, head_first, joined_pages, page_first, pages_ended, pages_next, passed_first, passed_last, passed_last_first, passed_more}
use Rattle.jq_session.proofs.writing.write_pieces.Goals as goal

pub returns-in_err-add-clause-err : goal.returns-in_err-add-clause-err
returns-in_err-add-clause-err g c =
    let f = part_in c.args.part in
    let x = folded_of c.args.pages.now in
    on_err c.from_residual.result
    (head_first (f (head x)) (flat_map f (pieces x ++ tail x ∷ [])) c.new-gathered.result.bytes.items c.bytes_of.result.now (g.W.Write.contents (device_of c.args.writer.now)) (g.W.Write.contents (device_of c.add.new.writer))
    c.new-gathered.ensures (c.bytes_of.ensures ∙ ap f c.head.ensures) c.in_err-add.ensures.err)

pub returns-in_err-add_pieces-clause-err : goal.returns-in_err-add_pieces-clause-err
returns-in_err-add_pieces-clause-err g c =
    let f = part_in c.args.part in
    let x = folded_of c.args.pages.now in
    on_err c.from_residual-in_err-add_pieces.result
    (page_first f (f (head x)) (paged_in c.args.pages.now) c.loop-j.j (map piece_view c.page.result.now) (pieces x) (tail x) c.loop-j.gathered.bytes.items
    (g.W.Write.contents (device_of c.args.writer.now)) (g.W.Write.contents (device_of c.loop-j.writer)) (g.W.Write.contents (device_of c.add_pieces.new.writer))
    c.page.ensures.pieces c.page_count-j-end.ensures.joined c.loop-j.invariant.passed c.in_err-add_pieces.ensures.err)

pub loop-j-preserved : goal.loop-j-preserved
loop-j-preserved g c =
    let f = part_in c.args.part in
    let h = f (head (folded_of c.args.pages.now)) in
    let pss = paged_in c.args.pages.now in
    let ps = map piece_view c.page.result.now in
    let r = g.W.Write.contents (device_of c.args.writer.now) in
    let t = g.W.Write.contents (device_of c.add_pieces.new.writer) in
    let v = c.loop-j.gathered.bytes.items in
    let w = c.add_pieces.new.self.bytes.items in
    record {
      passed =
          subst (IsPassed [] w r t) (pages_next f h pss c.loop-j.j ps c.page.ensures.pieces)
          (passed_more [] v w r (g.W.Write.contents (device_of c.loop-j.writer)) t (h ++ joined_pages f (take c.loop-j.j pss)) (flat_map f ps) c.loop-j.invariant.passed c.in_ok-add_pieces.ensures.ok);
      unfailed = c.in_ok-add_pieces.ensures.unfailed ∙ c.loop-j.invariant.unfailed;
    }

pub returns-in_err-add-2-clause-err : goal.returns-in_err-add-2-clause-err
returns-in_err-add-2-clause-err g c =
    let f = part_in c.args.part in
    let x = folded_of c.args.pages.now in
    let h = f (head x) in
    let pss = paged_in c.args.pages.now in
    let r = g.W.Write.contents (device_of c.args.writer.now) in
    let s = g.W.Write.contents (device_of c.loop-j.writer) in
    let t = g.W.Write.contents (device_of c.add-2.new.writer) in
    let v = c.loop-j.gathered.bytes.items in
    let last = c.bytes_of-2.result.now in
    let ended = pages_ended f h pss c.loop-j.j c.page_count-j-end.result v r s c.page_count-j-end.ensures.count c.loop-j-test.false c.loop-j.invariant.passed in
    on_err c.from_residual-in_err-add-2.result
    (subst (AppendsFirst r t) (ap (λ l. (h ++ joined_pages f pss) ++ l) (c.bytes_of-2.ensures ∙ ap f c.tail.ensures) ∙ all_are f h pss (pieces x) (tail x) c.page_count-j-end.ensures.joined)
    (passed_first [] v r s t (h ++ joined_pages f pss) last ended c.in_err-add-2.ensures.err))

pub returns-clause-ok : goal.returns-clause-ok
returns-clause-ok g c =
    let f = part_in c.args.part in
    let x = folded_of c.args.pages.now in
    let h = f (head x) in
    let pss = paged_in c.args.pages.now in
    let r = g.W.Write.contents (device_of c.args.writer.now) in
    let s = g.W.Write.contents (device_of c.loop-j.writer) in
    let t = g.W.Write.contents (device_of c.add-2.new.writer) in
    let u = g.W.Write.contents (device_of c.finish.new.writer) in
    let v = c.loop-j.gathered.bytes.items in
    let w = c.add-2.new.self.bytes.items in
    let last = c.bytes_of-2.result.now in
    let ended = pages_ended f h pss c.loop-j.j c.page_count-j-end.result v r s c.page_count-j-end.ensures.count c.loop-j-test.false c.loop-j.invariant.passed in
    let all = passed_more [] v w r s t (h ++ joined_pages f pss) last ended c.in_ok-add-2.ensures.ok in
    let are = ap (λ l. (h ++ joined_pages f pss) ++ l) (c.bytes_of-2.ensures ∙ ap f c.tail.ensures) ∙ all_are f h pss (pieces x) (tail x) c.page_count-j-end.ensures.joined in
    on_ok_map c.finish.result c.finish.ensures.ok (λ q. subst (Appends r u) are (passed_last [] w r t u ((h ++ joined_pages f pss) ++ last) all q))

pub returns-clause-err : goal.returns-clause-err
returns-clause-err g c =
    let f = part_in c.args.part in
    let x = folded_of c.args.pages.now in
    let h = f (head x) in
    let pss = paged_in c.args.pages.now in
    let r = g.W.Write.contents (device_of c.args.writer.now) in
    let s = g.W.Write.contents (device_of c.loop-j.writer) in
    let t = g.W.Write.contents (device_of c.add-2.new.writer) in
    let u = g.W.Write.contents (device_of c.finish.new.writer) in
    let v = c.loop-j.gathered.bytes.items in
    let w = c.add-2.new.self.bytes.items in
    let last = c.bytes_of-2.result.now in
    let ended = pages_ended f h pss c.loop-j.j c.page_count-j-end.result v r s c.page_count-j-end.ensures.count c.loop-j-test.false c.loop-j.invariant.passed in
    let all = passed_more [] v w r s t (h ++ joined_pages f pss) last ended c.in_ok-add-2.ensures.ok in
    let are = ap (λ l. (h ++ joined_pages f pss) ++ l) (c.bytes_of-2.ensures ∙ ap f c.tail.ensures) ∙ all_are f h pss (pieces x) (tail x) c.page_count-j-end.ensures.joined in
    on_err_map c.finish.result c.finish.ensures.err (λ q. subst (AppendsFirst r u) are (passed_last_first [] w r t u ((h ++ joined_pages f pss) ++ last) all q))
