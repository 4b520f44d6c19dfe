use Rattle.std.proofs.Common.{◌≡◌, ◌∙◌, [], ◌++◌, length, map, reverse, ap, rules, sym, subst}
use Rattle.std.proofs.lemmas.List.{length-map}
use Rattle.jq_state.specs.Modify.{KnowsModify}
use Rattle.jq_state.specs.Nodes.{program_binding}
use Rattle.jq_syntax.specs.Chosen.{variable_of, variables_of}
use Rattle.jq_filters.proofs.Known.{known_if_found}
use Rattle.jq_filters.specs.Programs.{bindings_of, function_binding, value_binding}
use Rattle.jq_filters.proofs.programs.bindings_of.Goals as goal

pub with_modify-requires : goal.with_modify-requires
with_modify-requires c =
    let vs = c.args.variables.items in
    let fs = c.args.functions.items in
    let r = c.requires in
    let none : c.in_ok-bindings.bindings.items ≡ [] = search rules in
    let variables = c.in_ok-add_variables.ensures ∙ ap (λ bs. map program_binding bs ++ reverse (map value_binding (variables_of vs))) none in
    let is : map program_binding c.add_functions.new.bindings.items ≡ bindings_of (variables_of vs) fs =
    c.in_ok-add_functions.ensures ∙ ap (λ bs. bs ++ map function_binding fs) variables in
    let count : c.len.result ≡ length vs = search rules in
    subst (λ bs. KnowsModify bs c.up_to_modify-modify.result) (sym is)
    (known_if_found (variables_of vs) fs c.len.result c.up_to_modify-modify.result (c.functions_are_the_preludes.ensures fs c.args.tree.now r.prelude r.is_prelude r.definitions)
    (count ∙ sym (length-map vs variable_of)) c.up_to_modify-modify.ensures)
