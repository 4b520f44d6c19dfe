use Rattle.jq_script.proofs.Tabling.{asks, asked_for}
use Rattle.jq_script.proofs.laws.requests_are_lines_of_the_table.Goals as goal

pub returns : goal.returns
returns c = λ line i small other. (asks line i small other, asked_for line i small)
