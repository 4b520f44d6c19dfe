use Rattle.jq_natives.proofs.GroupLaws.{groups-joined, groups-are}
use Rattle.jq_natives.proofs.laws.groups_are_the_list.Goals as goal

pub returns : goal.returns
returns c = record { joined = groups-joined; apart = groups-are }
