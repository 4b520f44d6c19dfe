use Rattle.std.proofs.Common.{◌∙◌, ap, refl, rules, sym, Some, None}
use Rattle.jq_lexer.specs.declared.lexing.Parenthesis.{Parenthesis}
use Rattle.jq_lexer.proofs.Taking.{closes_takes, is_in_string}
use Rattle.jq_lexer.proofs.lexing.Lexer.close.Goals as goal

pub returns-in-Some-InString : goal.returns-in-Some-InString
returns-in-Some-InString c = closes_takes c.args.self.now _ (Some c.in-Some-InString.field-0) c.args.rest.now c.requires.between c.requires.parenthesis refl (search rules) c.in-Some-InString.ensures.items
    (λ e. absurd (cc e)) (sym (ap (λ (b : Parenthesis). is_in_string (Some b)) c.in-Some-InString.field-0-is))

pub returns-in-Some-Plain : goal.returns-in-Some-Plain
returns-in-Some-Plain c = closes_takes c.args.self.now _ (Some c.in-Some-Plain.field-0) c.args.rest.now c.requires.between c.requires.parenthesis refl (search rules) c.in-Some-Plain.ensures.items
    (λ e. absurd (cc e)) (c.requires.between ∙ sym (ap (λ (b : Parenthesis). is_in_string (Some b)) c.in-Some-Plain.field-0-is))

pub returns-in-None : goal.returns-in-None
returns-in-None c = closes_takes c.args.self.now _ None c.args.rest.now c.requires.between c.requires.parenthesis refl (search rules) c.in-None.ensures.items
    (λ e. search rules) c.requires.between
