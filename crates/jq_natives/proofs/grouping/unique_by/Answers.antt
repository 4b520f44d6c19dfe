use Rattle.std.proofs.Common.{◌∙◌, ap, sym, map, Ok}
use Rattle.jv_data.specs.Value.{array, items_of}
use Rattle.jq_natives.specs.Sorting.{first_of_group, groups, sorted}
use Rattle.jq_natives.proofs.KeysInArrays.{first_ignores, groups_ignore}
use Rattle.jq_natives.proofs.grouping.unique_by.Goals as goal

pub returns-in_ok-firsts_of_groups-in-Ok : goal.returns-in_ok-firsts_of_groups-in-Ok
returns-in_ok-firsts_of_groups-in-Ok c =
    c.in-Ok.ensures (λ ps. array (items_of (map first_of_group (groups ps)))) (groups_ignore first_of_group first_ignores)
    ∙ ap Ok (sym (c.in_ok-firsts_of_groups-in-Ok.ensures ∙ ap (λ gs. array (items_of (map first_of_group gs))) c.in_ok-groups-in-Ok.ensures))

pub returns-in-Err : goal.returns-in-Err
returns-in-Err c = c.in-Err.ensures (λ ps. array (items_of (map first_of_group (groups (sorted ps)))))
