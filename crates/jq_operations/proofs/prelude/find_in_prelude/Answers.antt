use Rattle.jq_state.specs.Environments.{count_of}
use Rattle.jq_operations.proofs.prelude.find_in_prelude.Goals as goal

pub returns-clause-fits : goal.returns-clause-fits
returns-clause-fits c = c.or.ensures.fits (count_of c.args.nodes.now) c.first_in_program.ensures.fits c.loop-node.invariant.fits
