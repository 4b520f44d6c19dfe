use Rattle.jq_operations.proofs.Programs.{is_a_list, has_no_labels}
use Rattle.jq_operations.proofs.program.program_is_a_list.Goals as goal

pub returns-clause-grow : goal.returns-clause-grow
returns-clause-grow c = is_a_list c.programs_are_lists.ensures.grow c.args.nodes.now c.program_comes_first.ensures

pub returns-clause-labels : goal.returns-clause-labels
returns-clause-labels c = has_no_labels c.args.nodes.now c.program_comes_first.ensures
