use Rattle.std.proofs.Common.{rules, ◌≡◌, map, ap, sym, ◌∙◌}
use Rattle.jv_data.specs.Text.{text_of}
use Rattle.jq_ast.specs.Named.{named}
use Rattle.jq_tree.specs.Tree as tree
use Rattle.jq_tree.specs.Prelude.{followed_by}
use Rattle.jq_syntax.specs.private.Reading.{nested}
use Rattle.jq_ast.proofs.shared.Forms.{named-Define}
use Rattle.jq_syntax.proofs.Definitions.{defined}
use Rattle.jq_syntax.proofs.prelude.+definitions.Goals as goal

pub returns-in_ok-take_definitions-in-Define-clause-taken : goal.returns-in_ok-take_definitions-in-Define-clause-taken
returns-in_ok-take_definitions-in-Define-clause-taken t c u =
    let f = c.into_inner-in-Define.result in
    let n : named c.args.filter.value ≡ tree.define (text_of f.name) (map text_of f.parameters.items) (named f.body) (named c.in-Define.rest.value) = search (rules, named-Define c.in-Define.function c.in-Define.rest) in
    c.in_ok-take_definitions-in-Define.ensures.taken u
    ∙ defined c.args.functions.now.items c.push.new.self.items f (named c.in-Define.rest.value) u c.in_ok-push-in-Define.ensures.items
    ∙ ap (λ (x : tree.Tree). nested c.args.functions.now.items (followed_by x u)) (sym n)
