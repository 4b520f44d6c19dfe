use Rattle.std.proofs.Common.{◌≡◌, ◌∙◌, ◌++◌, ◌∷◌, [], List, ap, append_assoc, refl, rules, subst}
use Rattle.jq_lexer.specs.private.Spots.{IsFirstPiece}
use Rattle.jq_lexer.specs.declared.tokens.Token.{Token}
use Rattle.jq_lexer.specs.declared.tokens.Token.TheVariants as tokens
use Rattle.jq_lexer.proofs.Taking.{piece_ended, piece_interpolated}
use Rattle.jq_lexer.proofs.lexing.Lexer.piece.Goals as goal

pub returns-then-not-interpolated : goal.returns-then-not-interpolated
returns-then-not-interpolated c = piece_ended c.args.text.now c.args.self.now _ c.in-Some.piece (subst (IsFirstPiece c.args.text.now) c.in-Some.is c.in_ok-piece.ensures) (search rules) refl refl (search rules) refl

pub returns : goal.returns
returns c =
    let first : c.push.new.self.items ≡ c.args.self.now.tokens.items ++ tokens.Piece c.in-Some.piece.content ∷ [] = search rules in
    let second : c.push-2.new.self.items ≡ c.push.new.self.items ++ tokens.Interpolation ∷ [] = search rules in
    piece_interpolated c.args.text.now c.args.self.now _ c.in-Some.piece (subst (IsFirstPiece c.args.text.now) c.in-Some.is c.in_ok-piece.ensures) (search rules) refl refl
    (second ∙ ap (λ (l : List Token). l ++ tokens.Interpolation ∷ []) first ∙ append_assoc c.args.self.now.tokens.items (tokens.Piece c.in-Some.piece.content ∷ []) (tokens.Interpolation ∷ [])) (search rules)
