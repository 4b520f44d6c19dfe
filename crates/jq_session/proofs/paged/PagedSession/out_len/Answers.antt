use Rattle.std.proofs.Common.{◌∙◌, length, ap}
use Rattle.jq_pages.specs.Contents.{folded_of}
use Rattle.jq_pages.specs.Folds.{all}
use Rattle.jq_session.proofs.OnPages.{output_paged}
use Rattle.jq_session.proofs.paged.PagedSession.out_len.Goals as goal

pub returns : goal.returns
returns g c =
    let x = folded_of c.args.self.now.pages in
    ap (λ t. t.out) c.totals.ensures ∙ c.totals_count_bytes_and_failures.ensures.out (all x)
    ∙ ap length (output_paged c.args.self.now.filter.value x c.args.self.now.serves)
