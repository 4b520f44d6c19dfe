use Rattle.std.proofs.Common.{arith}
use Rattle.std.proofs.lemmas.Slice.Zip.{length-zip}
use Rattle.jv_data.proofs.containers.members.count.Goals as goal

pub returns-then-names-values-clause-count : goal.returns-then-names-values-clause-count
returns-then-names-values-clause-count g c = omega (arith, length-zip c.args.names.now c.args.values.now)

pub returns-else-names-values-clause-count : goal.returns-else-names-values-clause-count
returns-else-names-values-clause-count g c = omega (arith, length-zip c.args.names.now c.args.values.now)
