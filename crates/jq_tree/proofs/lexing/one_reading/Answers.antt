use Rattle.jq_tree.proofs.shared.OneReading.{one_token_list, one_bad_token, tokens_or_bad_token}
use Rattle.jq_tree.proofs.lexing.one_reading.Goals as goal

pub returns-clause-tokens : goal.returns-clause-tokens
returns-clause-tokens c = one_token_list

pub returns-clause-bad_token : goal.returns-clause-bad_token
returns-clause-bad_token c = one_bad_token

pub returns-clause-not_both : goal.returns-clause-not_both
returns-clause-not_both c = tokens_or_bad_token
