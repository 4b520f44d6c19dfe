use Rattle.std.proofs.Common.{IfErr, IfOk, subst}
use Rattle.std.specs.Str.{chars}
use Rattle.jq_filters.specs.Filters.{IsFilterOf}
use Rattle.jq_syntax.specs.Chosen.{setting}
use Rattle.jq_syntax.specs.Compiled.{IsRefusal}
use Rattle.jq_script.proofs.instructions.compile.Goals as goal

pub returns-clause-accepted : goal.returns-clause-accepted
returns-clause-accepted c = subst (λ o. IfOk c.compile.result (IsFilterOf o (chars c.args.text.now))) c.in_ok-options.ensures c.compile.ensures.accepted

pub returns-clause-refused : goal.returns-clause-refused
returns-clause-refused c = subst (λ o. IfErr c.compile.result (IsRefusal (chars c.args.text.now) (setting o))) c.in_ok-options.ensures c.compile.ensures.refused
