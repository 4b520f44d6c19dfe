use Rattle.std.proofs.Common.{◌≡◌, ◌∙◌, drop, subst}
use Rattle.jq_tree.specs.Words.{spells_symbol}
use Rattle.jq_lexer.specs.private.Found.{HasForm}
use Rattle.jv_data.specs.Text.{text_of}
use Rattle.jq_lexer.specs.Views.{symbol_of}
use Rattle.jq_lexer.specs.declared.words.Shape.{Shape}
use Rattle.jq_lexer.proofs.Texts.{after_all, field_spelt, format_spelt, variable_spelt}
use Rattle.jq_lexer.proofs.words.token_of.Goals as goal

pub returns-in_ok-text_of-in-Field : goal.returns-in_ok-text_of-in-Field
returns-in_ok-text_of-in-Field c =
    let rest : text_of c.in_ok-text_of-in-Field.field-0 ≡ drop 1 c.args.word.now = c.in_ok-text_of-in-Field.ensures.characters ∙ after_all c.args.word.now 1 in
    field_spelt c.args.word.now c.in_ok-text_of-in-Field.field-0 (subst (λ (s : Shape). HasForm s c.args.word.now) c.in-Field.is c.requires) rest

pub returns-in_ok-text_of-in-Variable : goal.returns-in_ok-text_of-in-Variable
returns-in_ok-text_of-in-Variable c =
    let rest : text_of c.in_ok-text_of-in-Variable.field-0 ≡ drop 1 c.args.word.now = c.in_ok-text_of-in-Variable.ensures.characters ∙ after_all c.args.word.now 1 in
    variable_spelt c.args.word.now c.in_ok-text_of-in-Variable.field-0 (subst (λ (s : Shape). HasForm s c.args.word.now) c.in-Variable.is c.requires) rest

pub returns-in_ok-text_of-in-Format : goal.returns-in_ok-text_of-in-Format
returns-in_ok-text_of-in-Format c =
    let rest : text_of c.in_ok-text_of-in-Format.field-0 ≡ drop 1 c.args.word.now = c.in_ok-text_of-in-Format.ensures.characters ∙ after_all c.args.word.now 1 in
    format_spelt c.args.word.now c.in_ok-text_of-in-Format.field-0 (subst (λ (s : Shape). HasForm s c.args.word.now) c.in-Format.is c.requires) rest

pub returns-in-Symbol : goal.returns-in-Symbol
returns-in-Symbol c = spells_symbol (symbol_of c.in-Symbol.symbol) (subst (λ (s : Shape). HasForm s c.args.word.now) c.in-Symbol.is c.requires)
