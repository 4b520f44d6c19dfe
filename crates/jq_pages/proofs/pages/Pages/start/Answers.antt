use Rattle.jq_pages.proofs.Grown.{count_of}
use Rattle.jq_pages.proofs.pages.Pages.start.Goals as goal

pub invariant_of-result : goal.invariant_of-result
invariant_of-result g c = record {
  begun = c.in-Ok.ensures.begun;
  held = c.in-Ok.ensures.held;
  filled = c.in-Ok.ensures.filled;
  indexed = c.in-Ok.ensures.index;
  counted = count_of c.in-Ok.first.pages.items c.args.inputs.items _ _ c.len-count.ensures c.args.inputs.ok.0 c.in-Ok.ensures.inputs;
  not_over_full = c.if-count-gt-MOST_INPUTS.false;
}
