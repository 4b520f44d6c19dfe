use Rattle.std.proofs.Common.{refl, rules, take}
use Rattle.jq_lexer.proofs.Taking.{keeps_same, no_token_missing, no_word_missing, stands_none, stands_some, word_takes}
use Rattle.jq_lexer.proofs.lexing.Lexer.word.Goals as goal

pub returns-in_default : goal.returns-in_default
returns-in_default c = (keeps_same c.args.self.now, no_word_missing c.args.self.now c.requires.between c.requires.start c.in_default.ensures)

pub returns-in_default-2 : goal.returns-in_default-2
returns-in_default-2 c =
    let text = c.args.self.now.rest.now in (
      keeps_same c.args.self.now,
      no_token_missing c.args.self.now c.in-Some.word.length c.in-Some.word.shape c.requires.between c.requires.start c.in-Some.ensures
          (stands_none c.split_at.result.0.now (take c.in-Some.word.length text) c.in_ok-token.field-0 c.split_at.ensures.front c.in_default-2.is c.in_ok-token.ensures),
    )

pub returns : goal.returns
returns c =
    let text = c.args.self.now.rest.now in
    word_takes c.args.self.now _ c.in-Some.word.length c.in-Some.word.shape c.in-Some-2.token c.requires.between c.requires.start c.in-Some.ensures
    (stands_some c.split_at.result.0.now (take c.in-Some.word.length text) c.in_ok-token.field-0 c.in-Some-2.token c.split_at.ensures.front c.in-Some-2.is c.in_ok-token.ensures)
    refl c.split_at.ensures.back (search rules) refl
