use Rattle.std.proofs.Common.{◌∙◌, Some, ap, sym, add-one}
use Rattle.jq_ast.specs.Named.{name_of}
use Rattle.jq_state.specs.Environments.{envs_of}
use Rattle.jq_state.specs.Listed.{bindings_in, is_called, IsFirstOf}
use Rattle.jq_state.specs.Nodes.{env_at, program_binding}
use Rattle.jq_state.specs.declared.environments.ProgramBinding.TheVariants as program
use Rattle.jq_operations.specs.Callees.{found}
use Rattle.jq_operations.proofs.Programs.{none_called_in_prelude, first_called}
use Rattle.jq_operations.proofs.prelude.first_in_program.Goals as goal

pub returns-in-Some-default-Function-clause-callee : goal.returns-in-Some-default-Function-clause-callee
returns-in-Some-default-Function-clause-callee c inputs =
    let ns = c.args.nodes.now in
    let n = name_of c.args.name.now in
    let w = c.in-Some-default-Function in
    let f = w.function in
    let h = w.ensures in
    let first : IsFirstOf (is_called n c.args.count) (bindings_in c.program.result.now) c.args.env w.place (program_binding (program.Function f)) = record {
      within = h.within;
      is = h.is ∙ ap (λ b. Some (program_binding b)) w.field-0-1-is;
      held = ap (λ b. is_called n c.args.count (program_binding b)) (sym w.field-0-1-is) ∙ h.held;
      others = h.others;
    } in
    ap (λ i. found f (env_at (envs_of inputs ns) i)) (add-one w.place)
    ∙ sym (first_called ns inputs n c.args.count c.args.env w.place f (bindings_in c.program.result.now) c.program_is_a_list.ensures.grow c.program.ensures c.requires first)

pub returns-in-None-clause-callee : goal.returns-in-None-clause-callee
returns-in-None-clause-callee c inputs =
    sym (none_called_in_prelude c.args.nodes.now inputs (name_of c.args.name.now) c.args.count c.args.env (bindings_in c.program.result.now) c.program_is_a_list.ensures.grow c.program.ensures c.requires c.in-None.ensures)
