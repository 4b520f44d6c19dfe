use Rattle.std.proofs.Common.{◌∙◌, map}
use Rattle.jq_ast.specs.Named.{name_of, named}
use Rattle.jq_tree.specs.Tree.{call, trees_of}
use Rattle.jq_single.proofs.Calls.{finds}
use Rattle.jq_single.proofs.contexts.Context.called_in_run.Goals as goal

pub returns-in-Function : goal.returns-in-Function
returns-in-Function c =
    c.body_of.ensures c.args.self.now (call (name_of c.args.name.now) (trees_of (map named c.args.arguments.now)))
    (λ inputs level x. finds c.args.self.now inputs level _ c.args.arguments.now _ x (c.in-Function.ensures.callee inputs ∙ c.requires inputs))

pub returns-in-Closure : goal.returns-in-Closure
returns-in-Closure c = λ inputs level x. finds c.args.self.now inputs level _ c.args.arguments.now _ x (c.in-Closure.ensures.callee inputs ∙ c.requires inputs)
