use Rattle.std.proofs.Common.{refl}
use Rattle.std.specs.Str.{chars}
use Rattle.clap.specs.Faults.{flags_fault, walk_fault}
use Rattle.jq_cli.specs.Command.{app, faults}
use Rattle.jq_cli.proofs.laws.version_comes_first.Goals as goal

pub returns-clause-short : goal.returns-clause-short
unfolding app faults walk_fault flags_fault chars
returns-clause-short c = λ words. refl

pub returns-clause-long : goal.returns-clause-long
unfolding app faults walk_fault
returns-clause-long c = λ words. refl
