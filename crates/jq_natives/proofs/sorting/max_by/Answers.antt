use Rattle.std.proofs.Common.{◌∙◌, ap, sym, Ok}
use Rattle.jq_natives.specs.Sorting.{last_of_group, sorted}
use Rattle.jq_natives.proofs.KeysInArrays.{last_ignores}
use Rattle.jq_natives.proofs.sorting.max_by.Goals as goal

pub returns-in-Ok : goal.returns-in-Ok
returns-in-Ok c = c.in-Ok.ensures last_of_group last_ignores ∙ ap Ok (sym c.last_item.ensures)

pub returns-in-Err : goal.returns-in-Err
returns-in-Err c = c.in-Err.ensures (λ ps. last_of_group (sorted ps))
