-- The words of the error message when a filter is refused, as bytes.
use Rattle.std.specs.Prelude.{ℕ, List, ◌++◌, codes}
use Rattle.std.specs.Fmt.{decimal}
use lib.Utf8.{encodes}
use Rattle.jq_tree.specs.Names.{printed_reference}
use Rattle.jq_resolver.specs.Undefined.{reference_of}
use Rattle.jq_syntax.specs.declared.faults.CompileFault.{CompileFault}
use Rattle.jq_syntax.specs.declared.faults.CompileFault.TheVariants as fault

-- A name is printed as `f/2`, `$x`, `break $x` or `@x`.
abbrev pub reason : CompileFault → List ℕ
reason (fault.Lex at) = codes "bad token at byte " ++ decimal at
reason fault.Syntax = codes "syntax error"
reason fault.TooManyTokens = codes "more than 8192 tokens"
reason fault.TooNested = codes "more than 256 open brackets"
reason (fault.Undefined name) = encodes (printed_reference (reference_of name)) ++ codes " is not defined"
reason fault.InputsPlace = codes "inputs stands where it may be evaluated again"
reason fault.InputsNeedNull = codes "inputs needs -n"
reason fault.NoMemory = codes "out of memory"
