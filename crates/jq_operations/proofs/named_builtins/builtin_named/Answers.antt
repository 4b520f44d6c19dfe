use Rattle.std.proofs.Common.{◌∙◌, ap, sym, rules}
use Rattle.std.specs.Str.{chars}
use Rattle.jq_meaning.specs.Builtins.{native_or_unknown}
use Rattle.jq_operations.proofs.CoreCalls.{core_means, other_means}
use Rattle.jq_operations.proofs.named_builtins.builtin_named.Goals as goal

pub returns-in-Some : goal.returns-in-Some
returns-in-Some c = c.of_core.ensures ∙ sym (core_means (chars c.args.name.now) c.args.count c.in-Some.core (search rules))

pub returns-in-None : goal.returns-in-None
returns-in-None c = c.of_native.ensures ∙ ap native_or_unknown c.native_of.ensures ∙ sym (other_means (chars c.args.name.now) c.args.count (search rules))
