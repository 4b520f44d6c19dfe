use Rattle.std.proofs.Common.{rules}
use Rattle.std.specs.Str.{chars}
use Rattle.jq_resolver.proofs.Language.{at_core, at_native, at_nothing}
use Rattle.jq_resolver.proofs.referents.function_of_language.Goals as goal

pub returns-in-Some : goal.returns-in-Some
returns-in-Some c = λ n. at_core (chars c.args.name.now) c.args.arity c.in-Some.core n (search rules)

pub returns-in-Some-native_of : goal.returns-in-Some-native_of
returns-in-Some-native_of c = λ n. at_native (chars c.args.name.now) c.args.arity c.in-Some-native_of.native n (search rules) (search rules)

pub returns-in-None-native_of : goal.returns-in-None-native_of
returns-in-None-native_of c = λ n. at_nothing (chars c.args.name.now) c.args.arity n (search rules) (search rules)
