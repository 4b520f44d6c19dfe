-- Both clauses are lemmas of `Arranged`.
use Rattle.jq_natives.proofs.Arranged.{sorted-arranged, arranged-sorted}
use Rattle.jq_natives.proofs.laws.sorted_list_is_the_only_one.Goals as goal

pub returns : goal.returns
returns c = record { arranged = sorted-arranged; only = arranged-sorted }
