use Rattle.std.proofs.Common.{◌∙◌, [], ◌++◌, sym, ap}
use Rattle.jv_text.specs.PrintedTokens.{open_tokens}
use Rattle.jv_text.proofs.OpenTokens.{open_tokens-last}
use Rattle.jv_text.proofs.pieces.write_some.Goals as goal

pub loop-preserved : goal.loop-preserved
loop-preserved g c =
    let before = g.W.Tokens.written c.loop.out in
    c.in_ok-left-in-Some.ensures
    ∙ ap (λ ts. before ++ ts) (sym (open_tokens-last c.pop.new.self.items c.in-Some.container []))
    ∙ ap (λ os. before ++ open_tokens os []) (sym c.in-Some.ensures.items)
    ∙ c.loop.invariant
