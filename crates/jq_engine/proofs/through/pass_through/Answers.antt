use Rattle.jq_engine.specs.private.Leading.{here}
use Rattle.jq_engine.proofs.through.pass_through.Goals as goal

pub returns-then-not-passes_first : goal.returns-then-not-passes_first
returns-then-not-passes_first c inputs x = here
