use Rattle.std.proofs.Common.{rules}
use Rattle.std.specs.Str.{chars}
use Rattle.jq_resolver.proofs.Language.{at_format, at_no_format}
use Rattle.jq_resolver.proofs.referents.format_of_language.Goals as goal

pub returns-in-Some : goal.returns-in-Some
returns-in-Some c = λ n. at_format (chars c.args.name.now) c.in-Some.format n (search rules)

pub returns-in-None : goal.returns-in-None
returns-in-None c = λ n. at_no_format (chars c.args.name.now) n (search rules)
