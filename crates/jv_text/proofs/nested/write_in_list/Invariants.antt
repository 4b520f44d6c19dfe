use Rattle.std.proofs.Common.{◌≡◌, ◌++◌, []}
use Rattle.jv_data.specs.View.{view}
use Rattle.jv_text.specs.Printed.{tokens_of}
use Rattle.jv_text.specs.PrintedTokens.{open_tokens}
use Rattle.jv_text.proofs.nested.write_in_list.Given as goal

-- what is written, and then what is open, is the whole value
abbrev pub invariant-loop : goal.invariant-loop
invariant-loop g l =
    (g.W.Tokens.before l.out ≡ g.W.Tokens.before l.fn.out)
    × (g.W.Tokens.written l.out ++ open_tokens l.opened.items [] ≡ g.W.Tokens.written l.fn.out ++ tokens_of (view l.value))
