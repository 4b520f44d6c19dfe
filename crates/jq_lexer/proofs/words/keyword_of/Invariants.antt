use Rattle.std.proofs.Common.{◌≡◌, drop}
use Rattle.jq_lexer.specs.private.Found.{keyword_in}
use Rattle.jq_lexer.proofs.words.keyword_of.Given as goal

abbrev pub invariant-loop-keyword : goal.invariant-loop-keyword
invariant-loop-keyword l = keyword_in l.name l.keywords ≡ keyword_in l.name (drop l.keyword-index l.keywords)
