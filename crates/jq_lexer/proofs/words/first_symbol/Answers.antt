use Rattle.std.proofs.Common.{◌∙◌, ap, nat_eq, sym}
use Rattle.std.specs.List.{starts_with}
use Rattle.jq_lexer.proofs.SymbolWords.{first_here, first_next}
use Rattle.jq_lexer.proofs.words.first_symbol.Goals as goal

pub returns-then-starts_with : goal.returns-then-starts_with
returns-then-starts_with c =
    sym (c.loop-symbol.invariant ∙ first_here c.args.text.now c.args.symbols.now c.loop-symbol.symbol-index _ c.loop-symbol-test.true
    (sym (c.starts_with.ensures.value ∙ ap (starts_with nat_eq c.args.text.now) c.symbol_text.ensures) ∙ c.if-starts_with.true))

pub loop-symbol-preserved : goal.loop-symbol-preserved
loop-symbol-preserved c =
    c.loop-symbol.invariant ∙ first_next c.args.text.now c.args.symbols.now c.loop-symbol.symbol-index _ c.loop-symbol-test.true
    (sym (c.starts_with.ensures.value ∙ ap (starts_with nat_eq c.args.text.now) c.symbol_text.ensures) ∙ c.if-starts_with.false)
