use Rattle.std.proofs.Common.{◌≡◌, ◌==◌, ◌∙◌, ◌∷◌, [], List, ℕ, false, length, sym, subst}
use Rattle.std.proofs.lemmas.Bool.{cond-false}
use Rattle.jq_devices.specs.Watched.{device_of}
use Rattle.jv_data.proofs.shared.Results.{on_err_map, on_ok_map}
use Rattle.jq_script.specs.Serving.{Answers, AnswersFirst, progress, point_of}
use Rattle.jq_script.specs.private.Lines.{last_line}
use Rattle.jq_script.proofs.serving.serve_last.Goals as goal

one_line : (last : List ℕ) → (length last == 0) ≡ false → last_line last ≡ last ∷ []
one_line last e = cond-false (length last == 0) [] (last ∷ []) e

pub returns-else-is_empty-clause-ok : goal.returns-else-is_empty-clause-ok
returns-else-is_empty-clause-ok g c =
    let old = progress (g.W.Write.contents (device_of c.args.output.now)) (point_of c.args.host.now) in
    let new = progress (g.W.Write.contents (device_of c.serve_line.new.output)) (point_of c.serve_line.new.host) in
    on_ok_map c.serve_line.result c.serve_line.ensures.ok
    (λ ok last has. subst (λ ls. Answers c.args.follow ls old new) (sym (one_line last (sym (c.is_empty.ensures last has) ∙ c.if-is_empty.false))) (ok last has))

pub returns-else-is_empty-clause-err : goal.returns-else-is_empty-clause-err
returns-else-is_empty-clause-err g c =
    let old = progress (g.W.Write.contents (device_of c.args.output.now)) (point_of c.args.host.now) in
    let new = progress (g.W.Write.contents (device_of c.serve_line.new.output)) (point_of c.serve_line.new.host) in
    on_err_map c.serve_line.result c.serve_line.ensures.err
    (λ err last has. subst (λ ls. AnswersFirst c.args.follow ls old new) (sym (one_line last (sym (c.is_empty.ensures last has) ∙ c.if-is_empty.false))) (err last has))
