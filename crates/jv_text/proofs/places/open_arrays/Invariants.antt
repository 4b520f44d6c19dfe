use Rattle.std.proofs.Common.{◌≡◌, ◌++◌, replicate}
use Rattle.json.specs.Token.{begin_array}
use Rattle.jv_text.proofs.places.open_arrays.Given as goal

abbrev pub invariant-loop : goal.invariant-loop
invariant-loop g l = g.W.Tokens.written l.out ≡ g.W.Tokens.written l.fn.out ++ replicate l.counter begin_array
