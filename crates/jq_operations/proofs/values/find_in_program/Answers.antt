use Rattle.std.proofs.Common.{◌∙◌, Some, ap, sym}
use Rattle.std.proofs.lemmas.Result.{IfOk-weaker}
use Rattle.jv_data.proofs.shared.Levels.{view-Null}
use Rattle.jq_ast.specs.Named.{name_of}
use Rattle.jq_state.specs.Listed.{bindings_in, is_variable, IsLastOf}
use Rattle.jq_state.specs.Nodes.{program_binding}
use Rattle.jq_state.specs.declared.environments.ProgramBinding.TheVariants as program
use Rattle.jq_operations.proofs.Programs.{no_variable, last_variable}
use Rattle.jq_operations.proofs.values.find_in_program.Goals as goal

pub returns-in-Some-default-Value : goal.returns-in-Some-default-Value
returns-in-Some-default-Value c =
    let ns = c.args.nodes.now in
    let n = name_of c.args.name.now in
    let w = c.in-Some-default-Value in
    let h = w.ensures in
    let last : IsLastOf (is_variable n) (bindings_in c.program.result.now) c.args.env w.field-0-0 (program_binding (program.Value w.field-0-1-0 w.value)) = record {
      within = h.within;
      is = h.is ∙ ap (λ b. Some (program_binding b)) w.field-0-1-is;
      held = ap (λ b. is_variable n (program_binding b)) (sym w.field-0-1-is) ∙ h.held;
      others = h.others;
    } in
    IfOk-weaker c.copy.result _ _
    (λ v e inputs. e ∙ sym (last_variable ns inputs n c.args.env w.field-0-0 w.field-0-1-0 w.value (bindings_in c.program.result.now) c.program_is_a_list.ensures.grow c.program.ensures c.requires last))
    c.copy.ensures

pub returns-in-None : goal.returns-in-None
returns-in-None c inputs =
    view-Null ∙ sym (no_variable c.args.nodes.now inputs (name_of c.args.name.now) c.args.env (bindings_in c.program.result.now) c.program_is_a_list.ensures.grow c.program.ensures c.requires c.in-None.ensures)
