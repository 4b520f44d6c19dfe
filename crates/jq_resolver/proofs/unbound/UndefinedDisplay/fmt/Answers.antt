use Rattle.std.proofs.Common.{◌<◌, ◌^◌, arith, append_assoc}
use Rattle.std.proofs.Output.{has_written_of_eq}
use Rattle.jq_resolver.proofs.Printing.{format_bytes, function_bytes, label_bytes, variable_bytes}
use Rattle.jq_resolver.proofs.unbound.UndefinedDisplay.fmt.Goals as goal

pub returns-in-Function-clause-writes : goal.returns-in-Function-clause-writes
returns-in-Function-clause-writes g c =
    let fits : c.in-Function.arity < 2 ^ 64 = omega arith in
    rw (c.in-Function.is, function_bytes c.in-Function.name c.in-Function.arity fits)
    (λ plain ok. has_written_of_eq _ _ _ _ _ (simp append_assoc) (c.write.ensures.writes plain ok))

pub returns-in-Variable-clause-writes : goal.returns-in-Variable-clause-writes
returns-in-Variable-clause-writes g c = rw (c.in-Variable.is, variable_bytes c.in-Variable.name) c.write-in-Variable.ensures.writes

pub returns-in-Label-clause-writes : goal.returns-in-Label-clause-writes
returns-in-Label-clause-writes g c = rw (c.in-Label.is, label_bytes c.in-Label.name) c.write-in-Label.ensures.writes

pub returns-in-Format-clause-writes : goal.returns-in-Format-clause-writes
returns-in-Format-clause-writes g c = rw (c.in-Format.is, format_bytes c.in-Format.name) c.write-in-Format.ensures.writes
