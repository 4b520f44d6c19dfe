use Rattle.std.proofs.Common.{ℕ, List, ◌∷◌, ◌∙◌, ap, sym}
use Rattle.jv_data.proofs.shared.Results.{if_ok_map}
use Rattle.jq_lexer.proofs.Taking.{comment_takes, part_answers, quote_answers, space_takes, answers_taken}
use Rattle.jq_lexer.proofs.Texts.{after_all}
use Rattle.jq_lexer.proofs.lexing.Lexer.take.Goals as goal

pub returns-then-self : goal.returns-then-self
returns-then-self c = if_ok_map c.piece.result c.piece.ensures (λ s d. part_answers c.args.self.now c.piece.new.self s c.if-self.true d)

pub returns-then-is_space : goal.returns-then-is_space
returns-then-is_space c = answers_taken c.args.self.now c.pass.new.self c.pass.result c.pass.ensures.taken
    (space_takes c.args.self.now c.pass.new.self c.in-Some.first.now c.if-self.false (sym c.is_space.ensures ∙ c.if-is_space.true)
    (c.in-Some.ensures.cases.0 ∙ ap (λ (r : List ℕ). c.in-Some.first.now ∷ r) (sym c.pass.ensures.rest)) c.pass.ensures.tokens c.pass.ensures.spot)

pub returns-in-35 : goal.returns-in-35
returns-in-35 c = answers_taken c.args.self.now c.pass-in-35.new.self c.pass-in-35.result c.pass-in-35.ensures.taken
    (comment_takes c.args.self.now c.pass-in-35.new.self c.in-Some.rest.now c.line_length.result c.if-self.false (c.in-Some.ensures.cases.0 ∙ ap (λ (x : ℕ). x ∷ c.in-Some.rest.now) c.in-35.is)
    c.line_length.ensures.value (c.pass-in-35.ensures.rest ∙ after_all c.in-Some.rest.now c.line_length.result) c.pass-in-35.ensures.tokens c.pass-in-35.ensures.spot)

pub returns-in-34 : goal.returns-in-34
returns-in-34 c = if_ok_map c.piece-in-34.result c.piece-in-34.ensures
    (λ s d. quote_answers c.args.self.now c.piece-in-34.new.self s c.in-Some.rest.now c.if-self.false (c.in-Some.ensures.cases.0 ∙ ap (λ (x : ℕ). x ∷ c.in-Some.rest.now) c.in-34.is) d)
