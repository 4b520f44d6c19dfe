use Rattle.std.proofs.Common.{◌∙◌, ◌++◌, ap, map}
use Rattle.jv_data.specs.View.{view}
use Rattle.jq_pages.specs.Contents.{inputs_paged_in}
use Rattle.jq_session.proofs.Lists.{page_added}
use Rattle.jq_session.proofs.paged.PagedSession.inputs.Goals as goal

pub loop-j-preserved : goal.loop-j-preserved
loop-j-preserved g c =
    let vs = map view c.inputs.result.now in
    c.in_ok-add_copies.ensures ∙ ap (λ l. l ++ vs) c.loop-j.invariant ∙ page_added (inputs_paged_in c.args.self.now.pages) c.loop-j.j vs c.inputs.ensures.inputs
