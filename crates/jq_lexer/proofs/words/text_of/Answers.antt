use Rattle.std.proofs.Common.{◌≡◌, ◌∙◌, ◌++◌, ap, arith, rules, string_bytes, sym, List, ℕ}
use Rattle.jq_lexer.proofs.Texts.{encodes_next, text_all}
use Rattle.jq_lexer.proofs.words.text_of.Goals as goal
use lib.Utf8.{encode}

pub loop-c-preserved : goal.loop-c-preserved
loop-c-preserved c =
    let bytes : string_bytes c.push.new.self ≡ string_bytes c.loop-c.text ++ encode c.c-item.result = search rules in
    bytes ∙ ap (λ (t : List ℕ). t ++ encode c.c-item.result) c.loop-c.invariant ∙ sym (encodes_next c.args.characters.now c.loop-c.c-index c.c-item.result c.loop-c-test.true c.c-item.is)

pub returns-clause-characters : goal.returns-clause-characters
returns-clause-characters c = text_all c.loop-c.text c.args.characters.now c.loop-c.c-index c.loop-c.invariant (omega arith)
