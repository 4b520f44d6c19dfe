use Rattle.jv_cut.proofs.BareRuns.{text_is_bare}
use Rattle.jv_cut.proofs.laws.any_other_text_is_the_longest_bare_front.Goals as goal

pub returns : goal.returns
returns c = text_is_bare
