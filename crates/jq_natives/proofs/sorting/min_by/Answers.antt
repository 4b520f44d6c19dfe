use Rattle.std.proofs.Common.{◌∙◌, ap, sym, Ok}
use Rattle.jq_natives.specs.Sorting.{first_of_group, sorted}
use Rattle.jq_natives.proofs.KeysInArrays.{first_ignores}
use Rattle.jq_natives.proofs.sorting.min_by.Goals as goal

pub returns-in-Ok : goal.returns-in-Ok
returns-in-Ok c = c.in-Ok.ensures first_of_group first_ignores ∙ ap Ok (sym c.first_item.ensures)

pub returns-in-Err : goal.returns-in-Err
returns-in-Err c = c.in-Err.ensures (λ ps. first_of_group (sorted ps))
