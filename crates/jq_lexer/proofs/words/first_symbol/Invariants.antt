use Rattle.std.proofs.Common.{◌≡◌, drop}
use Rattle.jq_lexer.specs.private.Found.{first_symbol_in}
use Rattle.jq_lexer.proofs.words.first_symbol.Given as goal

abbrev pub invariant-loop-symbol : goal.invariant-loop-symbol
invariant-loop-symbol l = first_symbol_in l.text l.symbols ≡ first_symbol_in l.text (drop l.symbol-index l.symbols)
