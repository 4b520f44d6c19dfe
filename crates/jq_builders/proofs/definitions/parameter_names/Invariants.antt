use Rattle.std.proofs.Common.{◌≡◌, map, take}
use Rattle.jv_data.specs.Text.{text_of}
use Rattle.jq_tree.specs.WrittenOut as written
use Rattle.jq_builders.specs.Views.{parameter_of}
use Rattle.jq_builders.proofs.definitions.parameter_names.Given as goal

abbrev pub invariant-loop-parameter : goal.invariant-loop-parameter
invariant-loop-parameter l = map text_of l.names.items ≡ written.parameter_names (map parameter_of (take l.parameter-index l.parameter-items))
