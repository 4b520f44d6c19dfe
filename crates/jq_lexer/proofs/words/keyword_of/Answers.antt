use Rattle.std.proofs.Common.{◌∙◌, ap, sym, List, ℕ}
use Rattle.std.specs.Prelude.{bytes_eq}
use Rattle.jq_lexer.proofs.Texts.{keyword_next}
use Rattle.jq_lexer.proofs.words.keyword_of.Goals as goal

pub loop-keyword-preserved : goal.loop-keyword-preserved
loop-keyword-preserved c =
    c.loop-keyword.invariant ∙ keyword_next c.args.name.now c.args.keywords.now c.loop-keyword.keyword-index _ c.loop-keyword-test.true
    (sym (c.eq.ensures ∙ ap (λ (t : List ℕ). bytes_eq t c.args.name.now) c.keyword_text.ensures) ∙ c.if-eq.false)
