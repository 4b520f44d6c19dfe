use Rattle.std.proofs.Common.{rules, arith, map}
use Rattle.jq_lexer.specs.Views.{token_of}
use Rattle.jq_syntax.proofs.Nesting.{further, nested_now, few_open, few_close}
use Rattle.jq_syntax.proofs.limits.is_too_nested.Goals as goal

pub returns-then-opened-closed : goal.returns-then-opened-closed
returns-then-opened-closed c =
    let f = further (map token_of c.args.tokens.now) c.args.tokens.now c.loop-token.token-index c.token-item.result c.loop-token.opened c.loop-token.closed c.opening-opened.result c.closing-closed.result
    c.loop-token-test.true c.token-item.is c.opening-opened.ensures c.closing-closed.ensures c.loop-token.invariant.1 c.loop-token.invariant.0 in
    ((λ k. f.1 (nested_now _ _ _ c.if-opened-closed.true)), (λ k. search rules))

pub loop-token-preserved : goal.loop-token-preserved
loop-token-preserved c =
    let f = further (map token_of c.args.tokens.now) c.args.tokens.now c.loop-token.token-index c.token-item.result c.loop-token.opened c.loop-token.closed c.opening-opened.result c.closing-closed.result
    c.loop-token-test.true c.token-item.is c.opening-opened.ensures c.closing-closed.ensures c.loop-token.invariant.1 c.loop-token.invariant.0 in (
      f,
      c.if-opened-closed.false,
      omega (arith, c.loop-token.invariant.2, c.opening-opened.ensures, few_open (token_of c.token-item.result)),
      omega (arith, c.loop-token.invariant.3, c.closing-closed.ensures, few_close (token_of c.token-item.result)),
    )
