use Rattle.std.proofs.Common.{◌∙◌}
use Rattle.jq_natives.proofs.NativeNames.{native_same}
use Rattle.jq_natives.proofs.native.native_of.Goals as goal

pub returns : goal.returns
returns c = c.by_bytes.ensures ∙ native_same c.args.name.now c.args.arity c.utf8.name
