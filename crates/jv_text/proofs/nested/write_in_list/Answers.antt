use Rattle.std.proofs.Common.{◌∙◌, [], ◌++◌, sym, ap, rules}
use Rattle.jv_text.specs.PrintedTokens.{open_tokens}
use Rattle.jv_text.proofs.OpenTokens.{open_tokens-last}
use Rattle.jv_text.proofs.nested.write_in_list.Goals as goal

pub loop-preserved : goal.loop-preserved
loop-preserved g c =
    let before = g.W.Tokens.written c.loop.out in (
      search rules,
      c.in_ok-write_next-in-Some.ensures.ok
          ∙ ap (λ ts. before ++ ts) (sym (open_tokens-last c.pop.new.self.items c.in-Some.container []))
          ∙ ap (λ os. before ++ open_tokens os []) (sym c.in-Some.ensures.items)
          ∙ c.loop.invariant.1,
    )
