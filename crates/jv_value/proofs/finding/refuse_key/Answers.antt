use Rattle.std.proofs.Common.{subst}
use Rattle.jv_data.specs.Fails.{FailsAs, raised}
use Rattle.jv_data.specs.View.{view}
use Rattle.jv_value.specs.ErrorTexts.{cannot_index, key_name}
use Rattle.jv_data.proofs.shared.Levels.{view-List}
use Rattle.jv_value.proofs.finding.refuse_key.Goals as goal

pub returns-in-Ok : goal.returns-in-Ok
unfolding cannot_index
returns-in-Ok c = λ vs. subst (λ v. FailsAs c.cannot_index.result (raised (cannot_index v (key_name (view c.args.key.now))))) (view-List c.in-Ok.items) c.cannot_index.ensures
