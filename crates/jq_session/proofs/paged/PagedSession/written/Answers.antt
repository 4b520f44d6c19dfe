use Rattle.std.proofs.Common.{◌∙◌}
use Rattle.jq_pages.specs.Contents.{folded_of}
use Rattle.jq_pages.specs.Folds.{all}
use Rattle.jq_session.proofs.OnPages.{errors_paged, output_paged}
use Rattle.jq_session.proofs.Passing.{errors_are, outputs_are}
use Rattle.jq_session.proofs.paged.PagedSession.written.Goals as goal

pub returns-clause-output : goal.returns-clause-output
returns-clause-output g c =
    let x = folded_of c.args.self.now.pages in
    c.in_ok-output.ensures ∙ outputs_are (all x) ∙ output_paged c.args.self.now.filter.value x c.args.self.now.serves

pub returns-clause-errors : goal.returns-clause-errors
returns-clause-errors g c =
    let x = folded_of c.args.self.now.pages in
    c.in_ok-errors.ensures ∙ errors_are (all x) ∙ errors_paged c.args.self.now.filter.value x c.args.self.now.serves
