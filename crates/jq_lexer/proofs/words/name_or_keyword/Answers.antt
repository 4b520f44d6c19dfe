use Rattle.std.proofs.Common.{◌∙◌, ap, sym, List, ℕ}
use Rattle.jq_lexer.specs.private.Found.{keyword_in}
use Rattle.jq_lexer.specs.declared.spellings.TheConstants.{KEYWORDS}
use Rattle.jq_lexer.proofs.Texts.{keyword_spelt, name_spelt}
use Rattle.jq_lexer.proofs.words.name_or_keyword.Goals as goal

pub returns-in-Some : goal.returns-in-Some
returns-in-Some c = keyword_spelt c.args.word.now c.as_str.result.now c.in-Some.keyword c.requires (c.as_str.ensures.value ∙ c.in_ok-name.ensures.bytes) (sym c.in-Some.ensures)

pub returns-in-None : goal.returns-in-None
returns-in-None c = name_spelt c.args.word.now c.in_ok-name.name c.requires c.in_ok-name.ensures.bytes
    (ap (λ (t : List ℕ). keyword_in t KEYWORDS) (sym c.as_str.ensures.value) ∙ sym c.in-None.ensures)
