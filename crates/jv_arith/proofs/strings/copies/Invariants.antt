use Rattle.std.proofs.Common.{◌≡◌, string_bytes}
use Rattle.jv_arith.specs.Strings.{copies}
use Rattle.jv_arith.proofs.strings.copies.Given as goal

abbrev pub invariant-loop : goal.invariant-loop
invariant-loop l = string_bytes l.copies ≡ copies l.counter l.text
