use Rattle.std.proofs.Common.{rules, append_assoc}
use Rattle.jq_resolver.proofs.Levels.{bound-Foreach, bound-Define}
use Rattle.jq_resolver.proofs.uses.Uses.open_binder.Goals as goal

pub returns-in_ok-push_tree-in-Foreach-clause-uses : goal.returns-in_ok-push_tree-in-Foreach-clause-uses
returns-in_ok-push_tree-in-Foreach-clause-uses c =
    rw (c.in-Foreach.is, bound-Foreach c.in-Foreach.source c.in-Foreach.pattern c.in-Foreach.start c.in-Foreach.update c.in-Foreach.extract c.args.around) (search (rules, append_assoc))

pub returns-in_ok-push_tree-in-Define-clause-uses : goal.returns-in_ok-push_tree-in-Define-clause-uses
returns-in_ok-push_tree-in-Define-clause-uses c =
    rw (c.in-Define.is, bound-Define c.in-Define.function c.in-Define.rest c.args.around) (search (rules, append_assoc))
