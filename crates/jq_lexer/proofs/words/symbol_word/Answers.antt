use Rattle.std.proofs.Common.{◌≡◌, ◌∙◌, None, ap, length, rules, subst, sym}
use Rattle.jq_lexer.specs.private.Found.{IsFirstWord, IsWordAt}
use Rattle.jq_lexer.specs.declared.words.Shape.TheVariants as shape
use Rattle.jq_lexer.proofs.SymbolWords.{no_symbol_at, symbol_at}
use Rattle.jq_lexer.proofs.words.symbol_word.Goals as goal

pub returns-in_err-symbol : goal.returns-in_err-symbol
returns-in_err-symbol c =
    let none : c.from_residual.result ≡ None = search rules in
    subst (IsFirstWord c.args.text.now) (sym none) (no_symbol_at c.args.text.now c.requires (sym c.first_symbol.ensures ∙ c.in_err-symbol.was))

pub returns : goal.returns
returns c = subst (IsWordAt c.args.text.now (shape.Symbol c.in_ok-symbol.symbol)) (sym (ap length c.symbol_text.ensures))
    (symbol_at c.args.text.now c.in_ok-symbol.symbol c.requires (sym c.first_symbol.ensures ∙ c.in_ok-symbol.was))
