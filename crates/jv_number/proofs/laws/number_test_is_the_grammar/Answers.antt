use Rattle.jv_number.proofs.Grammar.{IsNumber-from_test, is_number-from}
use Rattle.jv_number.proofs.laws.number_test_is_the_grammar.Goals as goal

pub returns : goal.returns
returns c = λ text. (IsNumber-from_test text, is_number-from text)
